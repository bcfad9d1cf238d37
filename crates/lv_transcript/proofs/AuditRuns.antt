-- What an audit of lines that are taken one after the other comes to.
use Rattle.std.proofs.Common.{◌≡◌, ◌⊎◌, ℕ, ◌+◌, ◌≤◌, true, false, List, [], ◌∷◌, ◌++◌, length, All, Option, refl, sym, ap, ◌∙◌, subst, inl, inr, arith, true≢false}
use Rattle.std.proofs.lemmas.List.Elements.{All-nil, All-cons}
use Rattle.lv_edits.specs.declared.edit.Edit.{Edit}
use Rattle.lv_lines.specs.Texts.{shown_text}
use Rattle.lv_lines.specs.Replies.{Answered}
use Rattle.lv_transcript.specs.declared.auditor.Stage.{Stage}
use Rattle.lv_transcript.specs.declared.auditor.Stage.TheVariants.{Start, Edits, AnswersFollow, End, No, Bad, NoMemory}
use Rattle.lv_transcript.specs.declared.log_heading.LogHeading.{LogHeading}
use Rattle.lv_transcript.specs.Auditing.{AuditState, CountedState, CountedStep, IsFaultOf, MayCome, MayEnd, Takes, TakesEdit, TakesFirst, TakesLater, is_fault, is_stopped, question_of}
use Rattle.lv_transcript.proofs.ReadTranscripts.{heading_line-injective}
use Rattle.lv_transcript.proofs.AuditLines.{edit_line-injective, may_end_of_edit, no_edit_later, not_last, not_start, same_question}

-- ---- one line

-- an audit that has stopped takes none
stopped_takes_none : (old new : AuditState) (line : List ℕ) → is_stopped old.stage ≡ true → Takes old line new → ⊥
stopped_takes_none old new line stopped taken =
    let at_stage = λ (s : Stage) (at : old.stage ≡ s) (going : is_stopped s ≡ false). true≢false (sym stopped ∙ ap is_stopped at ∙ going) in
    let at_end = λ (at : MayEnd old.stage). elim at as (λ _. ⊥) [ inl e ↦ at_stage Edits e refl | inr e ↦ at_stage AnswersFollow e refl ] in
    elim taken.1 as (λ _. ⊥) [
      | inl t ↦ at_stage Start t.at refl
      | inr (inl t) ↦ at_end (may_end_of_edit old.mixed old.stage t.at)
      | inr (inr (inl t)) ↦ at_end t.at
      | inr (inr (inr t)) ↦ at_end t.at
    ]

-- a line that comes after the edits is taken in one way
same_later : (old a b : AuditState) (line : List ℕ) → TakesLater old line a → TakesLater old line b → a ≡ b
same_later old a b line (inl p) (inl q) =
    let same : question_of p.answer ≡ question_of q.answer =
    same_question line (shown_text p.answer.value) (shown_text q.answer.value) (question_of p.answer) (question_of q.answer) p.fits q.fits p.text q.text in
    p.next ∙ ap (λ (n : ℕ). record old { stage = AnswersFollow; last = n }) (ap (λ asked. asked.edit) same) ∙ sym q.next
same_later old a b line (inl p) (inr q) = absurd (not_last (question_of p.answer) (shown_text p.answer.value) line p.text q.text.1)
same_later old a b line (inr p) (inl q) = absurd (not_last (question_of q.answer) (shown_text q.answer.value) line q.text p.text.1)
same_later old a b line (inr p) (inr q) = p.next ∙ sym q.next

-- a line is taken in one way
pub same_way : (old a b : AuditState) (line : List ℕ) → TakesFirst old line a ⊎ TakesEdit old line a ⊎ TakesLater old line a → TakesFirst old line b ⊎ TakesEdit old line b ⊎ TakesLater old line b → a ≡ b
same_way old a b line (inl p) (inl q) =
    let same : p.heading ≡ q.heading = heading_line-injective old.mixed line p.heading q.heading p.begins q.begins p.text q.text in
    p.next ∙ ap (λ (h : Option LogHeading). record old { stage = Edits; heading = h }) same ∙ sym q.next
same_way old a b line (inl p) (inr (inl q)) = absurd (not_start old.stage p.at (may_end_of_edit old.mixed old.stage q.at))
same_way old a b line (inl p) (inr (inr (inl q))) = absurd (not_start old.stage p.at q.at)
same_way old a b line (inl p) (inr (inr (inr q))) = absurd (not_start old.stage p.at q.at)
same_way old a b line (inr (inl p)) (inl q) = absurd (not_start old.stage q.at (may_end_of_edit old.mixed old.stage p.at))
same_way old a b line (inr (inl p)) (inr (inl q)) =
    p.next ∙ ap (λ (e : Edit). record old { stage = Edits; journal = old.journal ++ e ∷ [] }) (edit_line-injective line p.edit q.edit p.fits q.fits p.text q.text) ∙ sym q.next
same_way old a b line (inr (inl p)) (inr (inr q)) = absurd (no_edit_later old b line p.edit p.text q)
same_way old a b line (inr (inr (inl p))) (inl q) = absurd (not_start old.stage q.at p.at)
same_way old a b line (inr (inr (inr p))) (inl q) = absurd (not_start old.stage q.at p.at)
same_way old a b line (inr (inr p)) (inr (inl q)) = absurd (no_edit_later old a line q.edit q.text p)
same_way old a b line (inr (inr p)) (inr (inr q)) = same_later old a b line p q

-- a line that is taken leads to no fault
taken_no_fault : (old new : AuditState) (line : List ℕ) → Takes old line new → is_fault new.stage ≡ false
taken_no_fault old new line taken =
    elim taken.1 [
      | inl t ↦ ap (λ s. is_fault s.stage) t.next
      | inr (inl t) ↦ ap (λ s. is_fault s.stage) t.next
      | inr (inr (inl t)) ↦ ap (λ s. is_fault s.stage) t.next
      | inr (inr (inr t)) ↦ ap (λ s. is_fault s.stage) t.next
    ]

-- ---- many lines

-- from one state to another the lines are taken
abbrev pub Runs : AuditState → List (List ℕ) → AuditState → Type 0
Runs old [] new = new ≡ old
Runs old (line ∷ lines) new = (mid : AuditState) × Takes old line mid × Runs mid lines new

-- that leads to no fault
pub runs_no_fault : (old new : AuditState) (lines : List (List ℕ)) → is_fault old.stage ≡ false → Runs old lines new → is_fault new.stage ≡ false
runs_no_fault old new [] none runs = ap (λ s. is_fault s.stage) runs ∙ none
runs_no_fault old new (line ∷ lines) none runs = runs_no_fault runs.0 new lines (taken_no_fault old runs.0 line runs.1) runs.2

-- two runs through the same lines come to the same
pub runs_same : (old a b : AuditState) (lines : List (List ℕ)) → Runs old lines a → Runs old lines b → a ≡ b
runs_same old a b [] p q = p ∙ sym q
runs_same old a b (line ∷ lines) p q =
    let same : q.0 ≡ p.0 = same_way old q.0 p.0 line q.1.1 p.1.1 in
    runs_same p.0 a b lines p.2 (subst (λ (s : AuditState). Runs s lines b) same q.2)

-- a run through some lines and others after them: to the state between
pub record RunsBy (old new : AuditState) (front rest : List (List ℕ)) : Type 0 where
  pub mid : AuditState
  pub runs : Runs old front mid
  pub goes_on : Runs mid rest new

pub runs_by : (old new : AuditState) (front rest : List (List ℕ)) → Runs old (front ++ rest) new → RunsBy old new front rest
runs_by old new [] rest runs = record { mid = old; runs = refl; goes_on = runs }
runs_by old new (line ∷ front) rest runs =
    let by = runs_by runs.0 new front rest runs.2 in
    record { mid = by.mid; runs = (runs.0, runs.1, by.runs); goes_on = by.goes_on }

-- each line that is taken is short
pub runs_short : (old new : AuditState) (lines : List (List ℕ)) → Runs old lines new → All (λ line. length line ≤ 120) lines
runs_short old new [] runs = All-nil (λ line. length line ≤ 120)
runs_short old new (line ∷ lines) runs = All-cons (λ line. length line ≤ 120) line lines runs.1.0 (runs_short runs.0 new lines runs.2)

-- ---- what an audit does with lines

-- nothing is answered
pub no_replies : (old : CountedState) (n : ℕ) (lines : List (List ℕ)) (text : List ℕ) (new : CountedState) → Answered CountedStep old n lines text new → text ≡ []
unfolding CountedStep
no_replies old n [] text new a = a.0
no_replies old n (line ∷ lines) text new a =
    a.5 ∙ ap (λ (xs : List ℕ). xs ++ a.1) a.3.0 ∙ no_replies a.2 (n + 1) lines a.1 new a.4

-- an audit that has stopped does not change any more
stays : (old : CountedState) (n : ℕ) (lines : List (List ℕ)) (text : List ℕ) (new : CountedState) → is_stopped old.audit.stage ≡ true → Answered CountedStep old n lines text new → new.audit ≡ old.audit
unfolding CountedStep
stays old n [] text new stopped a = ap (λ (s : CountedState). s.audit) a.1
stays old n (line ∷ lines) text new stopped a =
    elim a.3.2 [
      | inl still ↦ stays a.2 (n + 1) lines a.1 new (ap (λ (s : AuditState). is_stopped s.stage) still.1 ∙ stopped) a.4 ∙ still.1
      | inr goes ↦ absurd (true≢false (sym stopped ∙ goes.0))
    ]

-- a fault of a line is one
fault_of_line : (n : ℕ) (Form : Type 0) (stage : Stage) → IsFaultOf n Form stage → is_fault stage ≡ true
fault_of_line n Form (No k) fault = refl
fault_of_line n Form (Bad k) fault = refl
fault_of_line n Form NoMemory fault = absurd fault
fault_of_line n Form Start fault = absurd fault
fault_of_line n Form Edits fault = absurd fault
fault_of_line n Form AnswersFollow fault = absurd fault
fault_of_line n Form End fault = absurd fault

-- a fault stops it
fault_stops : (stage : Stage) → is_fault stage ≡ true → is_stopped stage ≡ true
fault_stops (No n) fault = refl
fault_stops (Bad n) fault = refl
fault_stops NoMemory fault = refl
fault_stops Start fault = fault
fault_stops Edits fault = fault
fault_stops AnswersFollow fault = fault
fault_stops End fault = fault

-- if it has not stopped in the end, the first line was taken
pub taken_first : (old : CountedState) (n : ℕ) (line : List ℕ) (lines : List (List ℕ)) (text : List ℕ) (new : CountedState) (a : Answered CountedStep old n (line ∷ lines) text new) → is_stopped new.audit.stage ≡ false → Takes old.audit line a.2.audit
unfolding CountedStep
taken_first old n line lines text new a goes_on =
    let never = λ (stopped : is_stopped a.2.audit.stage ≡ true).
    true≢false (sym stopped ∙ ap (λ (s : AuditState). is_stopped s.stage) (sym (stays a.2 (n + 1) lines a.1 new stopped a.4)) ∙ goes_on) in
    elim a.3.2 [
      | inl still ↦ absurd (never (ap (λ (s : AuditState). is_stopped s.stage) still.1 ∙ still.0))
      | inr (goes, inl taken) ↦ taken
      | inr (goes, inr (inl found)) ↦ absurd (never (fault_stops a.2.audit.stage (fault_of_line n (MayCome old.audit line) a.2.audit.stage found.0)))
      | inr (goes, inr (inr none)) ↦ absurd (never (ap is_stopped none))
    ]

-- and so were all lines
pub all_taken : (old : CountedState) (n : ℕ) (lines : List (List ℕ)) (text : List ℕ) (new : CountedState) → Answered CountedStep old n lines text new → is_stopped new.audit.stage ≡ false → Runs old.audit lines new.audit
all_taken old n [] text new a goes_on = ap (λ (s : CountedState). s.audit) a.1
all_taken old n (line ∷ lines) text new a goes_on = (a.2.audit, taken_first old n line lines text new a goes_on, all_taken a.2 (n + 1) lines a.1 new a.4 goes_on)

-- if all lines can be taken, they are, or there is no memory
pub taken_or_none : (old : CountedState) (n : ℕ) (lines : List (List ℕ)) (text : List ℕ) (new : CountedState) (end : AuditState) → Answered CountedStep old n lines text new
    → Runs old.audit lines end → (new.audit ≡ end) ⊎ (new.audit.stage ≡ NoMemory)
unfolding CountedStep
taken_or_none old n [] text new end a runs = inl (ap (λ (s : CountedState). s.audit) a.1 ∙ sym runs)
taken_or_none old n (line ∷ lines) text new end a runs =
    elim a.3.2 [
      | inl still ↦ absurd (stopped_takes_none old.audit runs.0 line still.0 runs.1)
      | inr (goes, inl taken) ↦
          let same : runs.0 ≡ a.2.audit = same_way old.audit runs.0 a.2.audit line runs.1.1 taken.1 in
          taken_or_none a.2 (n + 1) lines a.1 new end a.4 (subst (λ (s : AuditState). Runs s lines end) same runs.2)
      | inr (goes, inr (inl found)) ↦ absurd (found.3 runs.0 runs.1)
      | inr (goes, inr (inr none)) ↦
          inr (ap (λ (s : AuditState). s.stage) (stays a.2 (n + 1) lines a.1 new (ap is_stopped none) a.4) ∙ none)
    ]

-- a line was found that is not taken: those before it were, and their edits are those that were read
pub record IsFound (old : AuditState) (n : ℕ) (lines : List (List ℕ)) (new : AuditState) : Type 0 where
  pub front : List (List ℕ)
  pub line : List ℕ
  pub rest : List (List ℕ)
  pub mid : AuditState
  pub all : lines ≡ front ++ line ∷ rest
  pub runs : Runs old front mid
  pub fault : IsFaultOf (n + length front) (MayCome mid line) new.stage
  pub journal_is : new.journal ≡ mid.journal
  pub heading_is : new.heading ≡ mid.heading
  pub untaken : (next : AuditState) → Takes mid line next → ⊥

-- one line more before it
found_later : (old mid : AuditState) (n : ℕ) (line : List ℕ) (lines : List (List ℕ)) (new : AuditState) → Takes old line mid → IsFound mid (n + 1) lines new → IsFound old n (line ∷ lines) new
found_later old mid n line lines new taken later = record {
  front = line ∷ later.front;
  line = later.line;
  rest = later.rest;
  mid = later.mid;
  all = ap (λ (ls : List (List ℕ)). line ∷ ls) later.all;
  runs = (mid, taken, later.runs);
  fault = subst (λ (k : ℕ). IsFaultOf k (MayCome later.mid later.line) new.stage) (omega arith) later.fault;
  journal_is = later.journal_is;
  heading_is = later.heading_is;
  untaken = later.untaken;
}

-- if an audit has come to a fault, it found a line
pub fault_found : (old : CountedState) (n : ℕ) (lines : List (List ℕ)) (text : List ℕ) (new : CountedState) → Answered CountedStep old n lines text new → is_fault old.audit.stage ≡ false
    → is_fault new.audit.stage ≡ true → IsFound old.audit n lines new.audit
unfolding CountedStep
fault_found old n [] text new a none fault = absurd (true≢false (sym fault ∙ ap (λ (s : CountedState). is_fault s.audit.stage) a.1 ∙ none))
fault_found old n (line ∷ lines) text new a none fault =
    elim a.3.2 [
      | inl still ↦
          let same : new.audit ≡ old.audit = stays a.2 (n + 1) lines a.1 new (ap (λ (s : AuditState). is_stopped s.stage) still.1 ∙ still.0) a.4 ∙ still.1 in
          absurd (true≢false (sym fault ∙ ap (λ (s : AuditState). is_fault s.stage) same ∙ none))
      | inr (goes, inl taken) ↦
          found_later old.audit a.2.audit n line lines new.audit taken (fault_found a.2 (n + 1) lines a.1 new a.4 (taken_no_fault old.audit a.2.audit line taken) fault)
      | inr (goes, inr (inl found)) ↦
          let same : new.audit ≡ a.2.audit = stays a.2 (n + 1) lines a.1 new (fault_stops a.2.audit.stage (fault_of_line n (MayCome old.audit line) a.2.audit.stage found.0)) a.4 in
          record {
            front = [];
            line = line;
            rest = lines;
            mid = old.audit;
            all = refl;
            runs = refl;
            fault = subst (λ (k : ℕ). IsFaultOf k (MayCome old.audit line) new.audit.stage) (omega arith)
                (subst (IsFaultOf n (MayCome old.audit line)) (ap (λ (s : AuditState). s.stage) (sym same)) found.0);
            journal_is = ap (λ (s : AuditState). s.journal) same ∙ found.1;
            heading_is = ap (λ (s : AuditState). s.heading) same ∙ found.2;
            untaken = found.3;
          }
      | inr (goes, inr (inr memory)) ↦
          let same : new.audit ≡ a.2.audit = stays a.2 (n + 1) lines a.1 new (ap is_stopped memory) a.4 in
          absurd (true≢false (sym fault ∙ ap (λ (s : AuditState). is_fault s.stage) same ∙ ap is_fault memory))
    ]

-- the lines are counted
pub counted : (old : CountedState) (n : ℕ) (lines : List (List ℕ)) (text : List ℕ) (new : CountedState) → Answered CountedStep old n lines text new → old.lines + 1 ≡ n → new.lines + 1 ≡ n + length lines
unfolding CountedStep
counted old n [] text new a first = omega (arith, first, ap (λ (s : CountedState). s.lines) a.1)
counted old n (line ∷ lines) text new a first =
    let next : a.2.lines + 1 ≡ n + 1 = ap (λ (k : ℕ). k + 1) a.3.1 in
    omega (arith, counted a.2 (n + 1) lines a.1 new a.4 next)
