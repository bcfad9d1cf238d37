-- A script in which at most so many jobs are claimed is a script.
use Rattle.std.proofs.Common.{◌≡◌, ◌≤◌, ℕ, Option, Result, Ok, Err, OnOk, IfErr, List, length, map, refl, sym, subst, ◌∙◌, arith}
use Rattle.std.proofs.lemmas.List.{length-map}
use Rattle.lv_bodies.specs.declared.sixes.Six.{Six}
use Rattle.lv_bodies.specs.Six.{SixSummary}
use Rattle.lv_refresh.specs.Carried.{Carried}
use Rattle.lv_live.specs.State.{node_and_version}
use Rattle.lv_lines.specs.declared.fault.Fault.{Fault}
use Rattle.lv_lines.specs.declared.fault.Fault.TheVariants.{WriteFault}
use Rattle.lv_lines.specs.Replies.{LinesServed}
use Rattle.lv_lines.proofs.LineLoopLaws.{lines_served_as}
use Rattle.lv_script.specs.Script.{ScriptState, ScriptStep}
use Rattle.lv_script.specs.Scripted.{Bounded, BoundedStep}

-- a script is that of a bounded one, which claimed no more jobs than may be
abbrev IsOf : ℕ → Bounded → ScriptState → Type 0
IsOf jobs b s = (s ≡ b.script) × (b.most ≡ jobs) × (length b.script.seen.issued ≤ b.most)

-- a bounded script is still seen as that script after each line
is_of_after : (jobs : ℕ) (s : Bounded) (t : ScriptState) (n : ℕ) (line text : List ℕ) (u : Bounded) → IsOf jobs s t → BoundedStep s n line text u → (v : ScriptState) × IsOf jobs u v × ScriptStep t n line text v
is_of_after jobs s t n line text u is step =
    (u.script, (refl, step.most ∙ is.1, step.few is.2), subst (λ t. ScriptStep t n line text u.script) (sym is.0) step.step)

-- and after all
pub lines_served_within : {R : Type 0} (jobs : ℕ) (first last : Bounded) (a b k l : Option (List ℕ)) (result : Result R Fault) → first.most ≡ jobs → length first.script.seen.issued ≤ first.most → LinesServed BoundedStep first last a b k l result
    → (end : ScriptState) × (length end.seen.issued ≤ jobs) × LinesServed ScriptStep first.script end a b k l result
lines_served_within jobs first last a b k l result most few c =
    let came = lines_served_as (IsOf jobs) (record { moves = is_of_after jobs }) first first.script last a b k l result (refl, most, few) c in
    let is = came.1 in
    (came.0, subst (λ (s : ScriptState). length s.seen.issued ≤ jobs) (sym is.0) (subst (λ most. length last.script.seen.issued ≤ most) is.1 is.2), came.2)

-- if there are no more jobs than may be, there are no more names of them
pub few_named : (old new : List (Carried Six SixSummary)) (most next : ℕ) → (length old ≤ most → length new ≤ next) → length (map node_and_version old) ≤ most → length (map node_and_version new) ≤ next
few_named old new most next few named =
    let had = few (omega (arith, length-map old node_and_version, named)) in
    omega (arith, length-map new node_and_version, had)

module _ (old new : ScriptState) (most next : ℕ) (n : ℕ) (line : List ℕ) (written : List ℕ → Type 0) (same : next ≡ most) (few : length old.seen.issued ≤ most → length new.seen.issued ≤ next) where
  -- a line of a script is one of a bounded script, if it claims no more than may be
  pub step_within : (reply : List ℕ) → ScriptStep old n line reply new → BoundedStep record { script = old; most = most } n line reply record { script = new; most = next }
  step_within reply step = record { step = step; most = same; few = few }

  -- and if it was answered
  pub replies_within : {T E : Type 0} (result : Result T E) → OnOk result ((reply : List ℕ) × ScriptStep old n line reply new × written reply) → OnOk result ((reply : List ℕ) × BoundedStep record { script = old; most = most } n line reply record { script = new; most = next } × written reply)
  replies_within (Ok done) (reply, step, put) = (reply, step_within reply step, put)
  replies_within (Err fault) answered = answered

  -- and if a prefix of the answer was written
  pub fails_within : {T : Type 0} (result : Result T Fault) → IfErr result (λ fault. (fault ≡ WriteFault) × (reply : List ℕ) × ScriptStep old n line reply new × written reply)
      → IfErr result (λ fault. (fault ≡ WriteFault) × (reply : List ℕ) × BoundedStep record { script = old; most = most } n line reply record { script = new; most = next } × written reply)
  fails_within (Ok done) answered = answered
  fails_within (Err fault) (is, reply, step, put) = (is, reply, step_within reply step, put)
