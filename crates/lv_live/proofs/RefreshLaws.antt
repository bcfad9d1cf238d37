-- What the loop keeps in which a vector refreshes itself.
use Rattle.std.proofs.Common.{◌≡◌, ℕ, zero, suc, ◌+◌, ◌-◌, false, ◌&&◌, not, cond, Some, None, option_map, List, [], ◌∷◌, ◌++◌, length, map, nat_eq, slice_get, refl, subst, sym, ap, ◌∙◌, arith}
use Rattle.std.proofs.lemmas.Bool.{and_from, and_parts, cond-false, cond-true, eq-eqb, ne_eqb, not-true}
use Rattle.std.proofs.lemmas.List.{append_assoc, length-map, length_push, map-append}
use Rattle.lv_geometry.specs.declared.nodes.Node.{Node}
use Rattle.lv_geometry.specs.Nodes.{child}
use Rattle.lv_bodies.specs.Body.{Operations, fold_of}
use Rattle.lv_edits.specs.declared.edit.Edit.{Edit}
use Rattle.lv_edits.specs.Touch.{elements_under, is_whole, touched_by}
use Rattle.lv_summary.specs.declared.accepted.Accepted.TheVariants.{Held, Installed, Stale}
use Rattle.lv_refresh.specs.Carried.{Carried}
use Rattle.lv_refresh.specs.declared.contents.Contents.{Contents}
use Rattle.lv_refresh.specs.declared.contents.Contents.TheVariants.{Children, Elements}
use Rattle.lv_refresh.specs.declared.contents.Eight.{Eight}
use Rattle.lv_refresh.specs.Claim.{IsNextJob, wants_job}
use Rattle.lv_refresh.specs.Delivery.{delivery_of}
use Rattle.lv_refresh.specs.Record.{Record, is_fresh, is_version}
use Rattle.lv_live.specs.declared.events.Event.TheVariants as event
use Rattle.lv_live.specs.declared.replies.ReplyOf.TheVariants as reply
use Rattle.lv_live.specs.State.{HasClaim, HasDelivery, LiveState, job_at, node_and_version, recorded, with_issued}
use Rattle.lv_live.specs.Step.{Run, Step}
use Rattle.lv_live.specs.Turns.{TakesTurn, TakesTurns, turn_replies, turns}
use Rattle.lv_live.proofs.WorldLaws.{run_goes_on, step_claim, step_delivery}

-- one turn more at the end
turns-more : (k n : ℕ) → turns k (n + 1) ≡ turns k n ++ event.Claim ∷ event.Deliver (k + n) ∷ []
turns-more k zero =
    let one : zero + 1 ≡ suc zero = omega arith in
    let place : k + zero ≡ k = omega arith in
    ap (turns k) one ∙ ap (λ j. event.Claim ∷ event.Deliver j ∷ []) (sym place)
turns-more k (suc n) =
    let next : suc n + 1 ≡ suc (n + 1) = omega arith in
    let place : k + 1 + n ≡ k + suc n = omega arith in
    ap (turns k) next
    ∙ ap (λ rest. event.Claim ∷ event.Deliver k ∷ rest) (turns-more (k + 1) n)
    ∙ ap (λ j. (event.Claim ∷ event.Deliver k ∷ turns (k + 1) n) ++ event.Claim ∷ event.Deliver j ∷ []) place

-- and its replies
turn_replies-more : {S : Type 0} (k : ℕ) (jobs : List (Node × ℕ)) (job : Node × ℕ) → turn_replies {S = S} k (jobs ++ job ∷ []) ≡ turn_replies k jobs ++ reply.Claimed (k + length jobs) job.0 job.1 ∷ reply.Gave Installed ∷ []
turn_replies-more {S} k [] job =
    let place : k + 0 ≡ k = omega arith in
    ap (λ j. reply.Claimed j job.0 job.1 ∷ reply.Gave Installed ∷ []) (sym place)
turn_replies-more {S} k (first ∷ jobs) job =
    let place : k + 1 + length jobs ≡ k + suc (length jobs) = omega arith in
    ap (λ rest. reply.Claimed k first.0 first.1 ∷ reply.Gave Installed ∷ rest) (turn_replies-more (k + 1) jobs job)
    ∙ ap (λ j. (reply.Claimed k first.0 first.1 ∷ reply.Gave Installed ∷ turn_replies (k + 1) jobs) ++ reply.Claimed j job.0 job.1 ∷ reply.Gave Installed ∷ []) place

-- the job that was put at the end has the next number
job_at_end : {B S : Type 0} (jobs : List (Carried B S)) (job : Carried B S) → job_at (jobs ++ job ∷ []) (length jobs + 1) ≡ Some job
job_at_end jobs job =
    let back : length jobs + 1 - 1 ≡ length jobs = omega arith in
    cond-false (nat_eq (length jobs + 1) 0) _ _ (ne_eqb (length jobs + 1) 0 (omega arith)) ∙ ap (slice_get (jobs ++ job ∷ [])) back ∙ at_end jobs job
  where
    at_end : {A : Type 0} (xs : List A) (x : A) → slice_get (xs ++ x ∷ []) (length xs) ≡ Some x
    at_end [] x = refl
    at_end (y ∷ xs) x = at_end xs x

-- the outcome of the next job is installed
pub installed_next : (r : Record) (n : Node) (v : ℕ) → IsNextJob r (Some (n, v)) → delivery_of r n v ≡ Installed
installed_next r n v next =
    let all = and_parts (is_whole r.edits n && not (is_fresh r n) && not (is_version (touched_by r.edits n) (r.claimed n))) _ next.0 in
    let two = and_parts (is_whole r.edits n && not (is_fresh r n)) _ all.0 in
    let one = and_parts (is_whole r.edits n) (not (is_fresh r n)) two.0 in
    let stale : is_fresh r n ≡ false = not-true _ one.1 in
    let lacks : is_version v (r.kept n) ≡ false = ap (λ v. is_version v (r.kept n)) next.1 ∙ sym (ap (λ whole. whole && is_version (touched_by r.edits n) (r.kept n)) one.0) ∙ stale in
    cond-true _ _ _ (and_from _ _ one.0 (eq-eqb (touched_by r.edits n) v (sym next.1))) ∙ cond-false _ _ _ lacks

-- also once it was claimed
installed_claimed : (r s : Record) (n : Node) (v : ℕ) → s.edits ≡ r.edits → s.kept n ≡ r.kept n → delivery_of s n v ≡ delivery_of r n v
installed_claimed r s n v edits kept =
    ap (λ edits. cond (is_whole edits n && nat_eq (touched_by edits n) v) (cond (is_version v (s.kept n)) Held Installed) (Stale (touched_by edits n))) edits
    ∙ ap (λ kept. cond (is_whole r.edits n && nat_eq (touched_by r.edits n) v) (cond (is_version v kept) Held Installed) (Stale (touched_by r.edits n))) kept

module _ {S : Type 0} (o : Operations S) where
  -- the folds of a node's eight children
  abbrev child_folds : List Edit → Node → Eight S
  child_folds es n =
      let part = λ (k : ℕ). fold_of o (elements_under es (child n k)) in
      record { a = part 0; b = part 1; c = part 2; d = part 3; e = part 4; f = part 5; g = part 6; h = part 7 }

  -- what a job of a node carries
  abbrev contents_of : List Edit → Node → Contents S
  contents_of es n = cond (nat_eq n.level 1) (Elements (elements_under es n)) (Children (child_folds es n))

module _ {B S : Type 0} (o : Operations S) where
  -- no turn was taken
  pub turns_none : (s : LiveState B S) → TakesTurns o s s 0
  turns_none s = record { body = refl; history = refl; jobs = []; many = refl; run = refl }

  -- a claim of no job leaves the record
  record_idle : (old new : LiveState B S) → HasClaim old new None → (jobs : List (Carried B S)) → with_issued new jobs ≡ with_issued old jobs
  record_idle old new claim jobs = λ i. record { edits = (claim.history i).journal; issued = map node_and_version jobs; claimed = λ n. claim.claimed n i; kept = λ n. claim.kept n i }

  -- and takes no turn
  pub turns_idle : (first old new : LiveState B S) (n : ℕ) → TakesTurns o first old n → HasClaim old new None → TakesTurns o first new n
  turns_idle first old new n turned claim =
      record {
        body = claim.body ∙ turned.body;
        history = claim.history ∙ turned.history;
        jobs = turned.jobs;
        many = turned.many;
        run = subst (Run o first.history.limits (recorded first) (turns 1 n) (turn_replies 1 (map node_and_version turned.jobs))) (sym (record_idle old new claim turned.jobs)) turned.run;
      }

  -- so no node wants a job after it either
  pub still_idle : (old new : LiveState B S) → IsNextJob (recorded old) None → HasClaim old new None → IsNextJob (recorded new) None
  still_idle old new none claim n = ap (λ r. wants_job r n) (record_idle old new claim []) ∙ none n

  -- the job of a node, as it stood
  abbrev job_taken : LiveState B S → Node × ℕ → Carried B S
  job_taken s job = record { node = job.0; version = job.1; contents = contents_of o s.history.journal job.0; body = s.body }

  -- one more turn was taken
  pub turns_next : (first old new : LiveState B S) (n : ℕ) → TakesTurns o first old n → TakesTurn old new → TakesTurns o first new (n + 1)
  turns_next first old new n turned turn =
      let jobs = turned.jobs in
      let mid = turn.mid in
      let job = job_taken old turn.job in
      let next = turn.next in
      let claim = turn.claims in
      let delivered = turn.delivers in
      let more : List (Carried B S) = jobs ++ job ∷ [] in
      let number : length jobs + 1 ≡ 1 + n = omega (arith, turned.many) in
      let installed : delivery_of (recorded mid) job.node job.version ≡ Installed =
      installed_claimed (recorded old) (recorded mid) job.node job.version (ap (λ h. h.journal) claim.history) (claim.kept job.node) ∙ installed_next (recorded old) job.node job.version next in
      let claims : Step o first.history.limits (with_issued old jobs) event.Claim (reply.Claimed (length jobs + 1) job.node job.version) (with_issued mid more) =
      step_claim o old mid (Some job) jobs next claim in
      let delivers : Step o first.history.limits (with_issued mid more) (event.Deliver (length jobs + 1)) (reply.Gave Installed) (with_issued new more) =
      rw installed at (step_delivery o mid new (length jobs + 1) (node_and_version job) more (ap (option_map node_and_version) (job_at_end jobs job)) (subst (HasDelivery mid new job.node job.version) (sym installed) delivered)) in
      let once = run_goes_on o first.history.limits (recorded first) (with_issued old jobs) (with_issued mid more) (turns 1 n) (turn_replies 1 (map node_and_version jobs)) event.Claim (reply.Claimed (length jobs + 1) job.node job.version) turned.run claims in
      let twice = run_goes_on o first.history.limits (recorded first) (with_issued mid more) (with_issued new more) (turns 1 n ++ event.Claim ∷ []) (turn_replies 1 (map node_and_version jobs) ++ reply.Claimed (length jobs + 1) job.node job.version ∷ []) (event.Deliver (length jobs + 1)) (reply.Gave Installed) once delivers in
      let events : turns 1 n ++ event.Claim ∷ [] ++ event.Deliver (length jobs + 1) ∷ [] ≡ turns 1 (n + 1) =
      append_assoc (turns 1 n) (event.Claim ∷ []) (event.Deliver (length jobs + 1) ∷ []) ∙ ap (λ k. turns 1 n ++ event.Claim ∷ event.Deliver k ∷ []) number ∙ sym (turns-more 1 n) in
      let count : length jobs + 1 ≡ 1 + length (map node_and_version jobs) = omega (arith, length-map jobs node_and_version) in
      let replies : turn_replies 1 (map node_and_version jobs) ++ reply.Claimed (length jobs + 1) job.node job.version ∷ [] ++ reply.Gave Installed ∷ [] ≡ turn_replies {S = S} 1 (map node_and_version more) =
      append_assoc (turn_replies 1 (map node_and_version jobs)) (reply.Claimed (length jobs + 1) job.node job.version ∷ []) (reply.Gave Installed ∷ [])
      ∙ ap (λ k. turn_replies 1 (map node_and_version jobs) ++ reply.Claimed k job.node job.version ∷ reply.Gave Installed ∷ []) count
      ∙ sym (turn_replies-more 1 (map node_and_version jobs) (node_and_version job))
      ∙ ap (turn_replies 1) (sym (map-append node_and_version jobs (job ∷ []))) in
      record {
        body = delivered.body ∙ claim.body ∙ turned.body;
        history = delivered.history ∙ claim.history ∙ turned.history;
        jobs = more;
        many = length_push jobs job ∙ ap (λ k. k + 1) turned.many;
        run = rw events at (rw replies at twice);
      }
