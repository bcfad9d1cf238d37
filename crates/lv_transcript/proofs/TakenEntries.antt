-- The lines that an audit takes are those of sound entries, and the lines of sound entries are taken.
use Rattle.std.proofs.Common.{◌≡◌, ◌⊎◌, ℕ, zero, suc, ◌+◌, ◌-◌, ◌<◌, ◌≤◌, Bool, true, false, true≢false, List, [], ◌∷◌, ◌++◌, length, get_or, take, drop, map, fold, slice_range, All, Option, None, Some, refl, sym, ap, ◌∙◌, subst, inl, inr, arith, append_assoc, append-nil, lit≤}
use mathlib.Core.List.{map-map}
use Rattle.std.proofs.lemmas.List.{length-append, length_push, map-append, take-append-le, take_all}
use Rattle.std.proofs.lemmas.List.Elements.{All-nil, All-cons, All-append, All-head, All-tail}
use Rattle.lv_bodies.specs.Plain.{plain_value}
use Rattle.lv_edits.specs.declared.edit.Edit.{Edit}
use Rattle.lv_edits.specs.History.{list_of}
use Rattle.lv_edits.specs.Kept.{CarriesElement}
use Rattle.lv_edits.specs.Verdict.{verdict_of}
use Rattle.lv_transcript.specs.declared.auditor.Stage.{Stage}
use Rattle.lv_transcript.specs.declared.auditor.Stage.TheVariants.{Start, Edits, AnswersFollow, End}
use Rattle.lv_transcript.specs.declared.claimed.Claimed.{Claimed}
use Rattle.lv_transcript.specs.declared.log_heading.LogHeading.{LogHeading}
use Rattle.lv_transcript.specs.Transcript.{answer_line, edit_line, end_line, first_line, greatest, heading_line, last_edit, transcript_lines, transcript_text, AreAccepted, AreAcceptedAfter, AreInOrder, IsEdit, IsSoundTranscript, IsTrueAnswer}
use Rattle.lv_transcript.specs.Auditing.{AuditState, IsInPlace, MayEdit, MayEnd, Takes, start_state}
use Rattle.lv_transcript.specs.Fronts.{AreFrontLines, AreOrdered, AreSound, AreTrueAfter, AreTrueOf, Entry, IsPush, IsToldBy, MayBegin, MayEditFollow, all_lines, answers_in, edits_in, elements_of, ending, entry_line}
use Rattle.lv_transcript.proofs.AuditLines.{may_end_of_edit, no_edit_behind, not_start}
use Rattle.lv_transcript.proofs.AuditRuns.{Runs, runs_by}
use Rattle.lv_transcript.proofs.ReadTranscripts.{heading_line_short}
use Rattle.lv_transcript.proofs.SoundTranscripts.{IsWithin, RiseFrom, accepted_fits, accepted_more, beginnings_within, carries_of_fits, in_order_of_rise, line_of_edit, plain_answer, rise_in_order, within_none}

-- ---- the order of entries

-- entries may come one after the other, from a stage on
abbrev pub ComeFrom : Bool → Stage → List Entry → Type 0
ComeFrom mixed stage [] = Unit {0}
ComeFrom mixed stage (inl e ∷ entries) = MayEdit mixed stage × ComeFrom mixed Edits entries
ComeFrom mixed stage (inr answer ∷ entries) = ComeFrom mixed AnswersFollow entries

-- the stage after them
abbrev pub stage_after : Stage → List Entry → Stage
stage_after stage [] = stage
stage_after stage (inl e ∷ entries) = stage_after Edits entries
stage_after stage (inr answer ∷ entries) = stage_after AnswersFollow entries

-- after entries the last line may come
pub may_end_after : (stage : Stage) (entries : List Entry) → MayEnd stage → MayEnd (stage_after stage entries)
may_end_after stage [] at = at
may_end_after stage (inl e ∷ entries) at = may_end_after Edits entries (inl refl)
may_end_after stage (inr answer ∷ entries) at = may_end_after AnswersFollow entries (inr refl)

-- if edits and answers are mixed they may come in any order
any_order : (stage : Stage) (entries : List Entry) → MayEnd stage → ComeFrom true stage entries
any_order stage [] at = tt
any_order stage (inl e ∷ entries) (inl at) = (inl at, any_order Edits entries (inl refl))
any_order stage (inl e ∷ entries) (inr at) = (inr (refl, at), any_order Edits entries (inl refl))
any_order stage (inr answer ∷ entries) at = any_order AnswersFollow entries (inr refl)

-- otherwise only answers follow an answer
only_answers : (entries : List Entry) → ComeFrom false AnswersFollow entries → (edits_in entries ≡ []) × (entries ≡ map inr (answers_in entries)) × (stage_after AnswersFollow entries ≡ AnswersFollow)
only_answers [] come = (refl, refl, refl)
only_answers (inl e ∷ entries) come = absurd (no_edit_behind false AnswersFollow refl refl come.0)
only_answers (inr answer ∷ entries) come =
    let rest = only_answers entries come in
    (rest.0, ap (λ (es : List Entry). inr answer ∷ es) rest.1, rest.2)

-- so all answers follow the edits
answers_last : (entries : List Entry) → ComeFrom false Edits entries → entries ≡ map inl (edits_in entries) ++ map inr (answers_in entries)
answers_last [] come = refl
answers_last (inl e ∷ entries) come = ap (λ (es : List Entry). inl e ∷ es) (answers_last entries come.1)
answers_last (inr answer ∷ entries) come =
    let rest = only_answers entries come in
    ap (λ (es : List Entry). inr answer ∷ es) rest.1 ∙ ap (λ (edits : List Edit). map inl edits ++ (inr answer ∷ map inr (answers_in entries))) (sym rest.0)

ordered_so : (mixed : Bool) (entries : List Entry) → ComeFrom mixed Edits entries → AreOrdered mixed entries
ordered_so true entries come = tt
ordered_so false entries come = answers_last entries come

-- edits, and answers after them, may come so
come_answers : (stage : Stage) (answers : List Claimed) → ComeFrom false stage (map inr answers)
come_answers stage [] = tt
come_answers stage (answer ∷ answers) = come_answers AnswersFollow answers

come_in_order : (edits : List Edit) (answers : List Claimed) → ComeFrom false Edits (map inl edits ++ map inr answers)
come_in_order [] answers = come_answers Edits answers
come_in_order (e ∷ edits) answers = (inl refl, come_in_order edits answers)

come_so : (mixed : Bool) (entries : List Entry) → AreOrdered mixed entries → ComeFrom mixed Edits entries
come_so true entries is = any_order Edits entries (inl refl)
come_so false entries is = subst (λ (es : List Entry). ComeFrom false Edits es) (sym is) (come_in_order (edits_in entries) (answers_in entries))

-- an edit may follow entries if it may come at their stage
none_answered : (entries : List Entry) → ComeFrom false Edits entries → stage_after Edits entries ≡ Edits → answers_in entries ≡ []
none_answered [] come at = refl
none_answered (inl e ∷ entries) come at = none_answered entries come.1 at
none_answered (inr answer ∷ entries) come at =
    let rest = only_answers entries come in
    absurd (cc (at, rest.2))

pub edit_follows : (mixed : Bool) (entries : List Entry) → ComeFrom mixed Edits entries → MayEdit mixed (stage_after Edits entries) → MayEditFollow mixed entries
edit_follows true entries come may = inl refl
edit_follows false entries come (inl at) = inr (none_answered entries come at)
edit_follows false entries come (inr at) = absurd (true≢false (sym at.0))

-- and it may come if it may follow
at_edits : (entries : List Entry) → answers_in entries ≡ [] → stage_after Edits entries ≡ Edits
at_edits [] none = refl
at_edits (inl e ∷ entries) none = at_edits entries none
at_edits (inr answer ∷ entries) none = absurd (cc none)

pub edit_comes : (mixed : Bool) (entries : List Entry) → MayEditFollow mixed entries → MayEdit mixed (stage_after Edits entries)
edit_comes mixed entries (inl is) = elim (may_end_after Edits entries (inl refl)) [ inl at ↦ inl at | inr at ↦ inr (is, at) ]
edit_comes mixed entries (inr none) = inl (at_edits entries none)

-- ---- from lines that are taken to entries

-- ---- the entries that represent elements

-- if the first k of some entries are pushes, the first is one, and the k - 1 after it are pushes too
first_push : (k : ℕ) (entry : Entry) (entries : List Entry) → 0 < k → All IsPush (take k (entry ∷ entries)) → IsPush entry
first_push zero entry entries some pushes = absurd (omega arith)
first_push (suc k) entry entries some pushes = All-head IsPush entry (take k entries) pushes

other_pushes : (k m : ℕ) (entry : Entry) (entries : List Entry) → m ≡ k - 1 → All IsPush (take k (entry ∷ entries)) → All IsPush (take m entries)
other_pushes zero m entry entries is pushes = subst (λ (n : ℕ). All IsPush (take n entries)) (sym is) (All-nil IsPush)
other_pushes (suc k) m entry entries is pushes =
    let same : k ≡ m = omega (arith, is) in
    subst (λ (n : ℕ). All IsPush (take n entries)) same (All-tail IsPush entry (take k entries) pushes)

-- and back
one_push : (k m : ℕ) (entry : Entry) (entries : List Entry) → m ≡ k - 1 → (0 < k → IsPush entry) → All IsPush (take m entries) → All IsPush (take k (entry ∷ entries))
one_push zero m entry entries is here pushes = All-nil IsPush
one_push (suc k) m entry entries is here pushes =
    let same : m ≡ k = omega (arith, is) in
    All-cons IsPush entry (take k entries) (here (omega arith)) (subst (λ (n : ℕ). All IsPush (take n entries)) same pushes)

-- none of them is an answer
no_answer : (k : ℕ) (answer : Claimed) (entries : List Entry) → All IsPush (take k (inr answer ∷ entries)) → k ≡ 0
no_answer zero answer entries pushes = refl
no_answer (suc k) answer entries pushes = absurd (All-head IsPush (inr answer) (take k entries) pushes)

no_pushes : (k : ℕ) → All IsPush (take k [])
no_pushes zero = All-nil IsPush
no_pushes (suc k) = All-nil IsPush

-- if fewer edits are there, there is no answer
pub only_pushes : (n : ℕ) (entries : List Entry) → All IsPush (take n entries) → length (edits_in entries) < n → length entries ≡ length (edits_in entries)
only_pushes n [] pushes few = refl
only_pushes zero (entry ∷ entries) pushes few = absurd (omega (arith, few))
only_pushes (suc n) (inl e ∷ entries) pushes few =
    omega (arith, only_pushes n entries (All-tail IsPush (inl e) (take n entries) pushes) (omega (arith, few)))
only_pushes (suc n) (inr answer ∷ entries) pushes few = absurd (All-head IsPush (inr answer) (take n entries) pushes)

-- what is true of entries under a heading
pub true_of : (mixed : Bool) (heading : Option LogHeading) (entries : List Entry) → MayBegin mixed heading → AreTrueAfter [] 0 entries → All IsPush (take (elements_of heading - 0) entries) → AreTrueOf heading entries
true_of mixed None entries begins holds pushes = holds
true_of mixed (Some h) entries begins holds pushes =
    let all : h.elements - 0 ≡ h.elements = omega arith in
    record { numbers = begins.1; all_true = holds; pushes = subst (λ (n : ℕ). All IsPush (take n entries)) all pushes }

pub all_true_of : (heading : Option LogHeading) (entries : List Entry) → AreTrueOf heading entries → AreTrueAfter [] 0 entries
all_true_of None entries holds = holds
all_true_of (Some h) entries holds = holds.all_true

pub pushes_of : (heading : Option LogHeading) (entries : List Entry) → AreTrueOf heading entries → All IsPush (take (elements_of heading) entries)
pushes_of None entries holds = All-nil IsPush
pushes_of (Some h) entries holds = holds.pushes

pub begins_of : (heading : Option LogHeading) (entries : List Entry) → AreTrueOf heading entries → MayBegin true heading
begins_of None entries holds = tt
begins_of (Some h) entries holds = (refl, holds.numbers)

-- a whole transcript has no heading
pub no_heading : (heading : Option LogHeading) → MayBegin false heading → heading ≡ None
no_heading None begins = refl
no_heading (Some h) begins = absurd (true≢false (sym begins.0))

-- ---- lines that are taken

-- the edit of the last answer among some entries, or the one before them
abbrev pub last_of : ℕ → List Entry → ℕ
last_of last entries = fold (λ (edit : ℕ) (answer : Claimed). answer.edit) last (answers_in entries)

-- lines that are taken after the first one: those of entries, and perhaps the last
pub record AreEntries (old new : AuditState) (lines : List (List ℕ)) : Type 0 where
  pub entries : List Entry
  pub ends :
      ((new.stage ≡ stage_after old.stage entries) × (lines ≡ map entry_line entries))
      ⊎ ((new.stage ≡ End) × (lines ≡ map entry_line entries ++ end_line ∷ []) × (old.heading ≡ None))
  pub come : ComeFrom old.mixed old.stage entries
  pub all_true : AreTrueAfter old.journal old.last entries
  pub pushes : All IsPush (take (elements_of old.heading - length old.journal) entries)
  pub journal_is : new.journal ≡ old.journal ++ edits_in entries
  pub last_is : new.last ≡ last_of old.last entries
  pub mixed_is : new.mixed ≡ old.mixed
  pub heading_is : new.heading ≡ old.heading

-- no line is taken after the last
pub not_end : (stage : Stage) → stage ≡ End → MayEnd stage → ⊥
not_end stage end (inl at) = absurd (cc (end, at))
not_end stage end (inr at) = absurd (cc (end, at))

pub none_behind_end : (old new : AuditState) (lines : List (List ℕ)) → old.stage ≡ End → Runs old lines new → (lines ≡ []) × (new ≡ old)
none_behind_end old new [] at runs = (refl, runs)
none_behind_end old new (line ∷ lines) at runs =
    elim runs.1.1 [
      | inl t ↦ absurd (cc (at, t.at))
      | inr (inl t) ↦ absurd (not_end old.stage at (may_end_of_edit old.mixed old.stage t.at))
      | inr (inr (inl t)) ↦ absurd (not_end old.stage at t.at)
      | inr (inr (inr t)) ↦ absurd (not_end old.stage at t.at)
    ]

-- one entry more, before others
with_entry : (old next new : AuditState) (line : List ℕ) (lines : List (List ℕ)) (entry : Entry) → line ≡ entry_line entry → (rest : AreEntries next new lines)
    → stage_after next.stage rest.entries ≡ stage_after old.stage (entry ∷ rest.entries) → ComeFrom old.mixed old.stage (entry ∷ rest.entries)
    → AreTrueAfter old.journal old.last (entry ∷ rest.entries) → All IsPush (take (elements_of old.heading - length old.journal) (entry ∷ rest.entries))
    → next.journal ++ edits_in rest.entries ≡ old.journal ++ edits_in (entry ∷ rest.entries)
    → last_of next.last rest.entries ≡ last_of old.last (entry ∷ rest.entries) → next.mixed ≡ old.mixed → next.heading ≡ old.heading → AreEntries old new (line ∷ lines)
with_entry old next new line lines entry is rest steps come holds pushes joined follows same still = record {
  entries = entry ∷ rest.entries;
  ends =
      elim rest.ends [
        | inl goes_on ↦ inl (goes_on.0 ∙ steps, ap (λ (l : List ℕ). l ∷ lines) is ∙ ap (λ (ls : List (List ℕ)). entry_line entry ∷ ls) goes_on.1)
        | inr ended ↦ inr (ended.0, ap (λ (l : List ℕ). l ∷ lines) is ∙ ap (λ (ls : List (List ℕ)). entry_line entry ∷ ls) ended.1, sym still ∙ ended.2)
      ];
  come = come;
  all_true = holds;
  pushes = pushes;
  journal_is = rest.journal_is ∙ joined;
  last_is = rest.last_is ∙ follows;
  mixed_is = rest.mixed_is ∙ same;
  heading_is = rest.heading_is ∙ still;
}

-- lines that are taken after the first are such
entries_of : (old new : AuditState) (lines : List (List ℕ)) → MayEnd old.stage → Runs old lines new → AreEntries old new lines
entries_of old new [] at runs = record {
  entries = [];
  ends = inl (ap (λ (s : AuditState). s.stage) runs, refl);
  come = tt;
  all_true = tt;
  pushes = no_pushes (elements_of old.heading - length old.journal);
  journal_is = ap (λ (s : AuditState). s.journal) runs ∙ sym (append-nil old.journal);
  last_is = ap (λ (s : AuditState). s.last) runs;
  mixed_is = ap (λ (s : AuditState). s.mixed) runs;
  heading_is = ap (λ (s : AuditState). s.heading) runs;
}
entries_of old new (line ∷ lines) at runs =
    let n = elements_of old.heading in
    elim runs.1.1 [
      | inl t ↦ absurd (not_start old.stage t.at at)
      | inr (inl t) ↦
          let next : AuditState = record old { stage = Edits; journal = old.journal ++ t.edit ∷ [] } in
          let rest : AreEntries next new lines = entries_of next new lines (inl refl) (subst (λ (s : AuditState). Runs s lines new) t.next runs.2) in
          let here : 0 < n - length old.journal → IsPush (inl t.edit) = λ some. t.place (omega (arith, some)) in
          with_entry old next new line lines (inl t.edit) t.text rest refl (t.at, rest.come) (carries_of_fits t.edit t.fits, t.verdict, rest.all_true)
          (one_push (n - length old.journal) (n - length (old.journal ++ t.edit ∷ [])) (inl t.edit) rest.entries (omega (arith, length_push old.journal t.edit)) here rest.pushes)
          (append_assoc old.journal (t.edit ∷ []) (edits_in rest.entries)) refl refl refl
      | inr (inr (inl t)) ↦
          let next : AuditState = record old { stage = AnswersFollow; last = t.answer.edit } in
          let rest : AreEntries next new lines = entries_of next new lines (inr refl) (subst (λ (s : AuditState). Runs s lines new) t.next runs.2) in
          let none : 0 ≡ n - length old.journal = omega (arith, t.behind) in
          with_entry old next new line lines (inr t.answer) t.text rest refl rest.come (t.order, t.holds, rest.all_true)
          (subst (λ (k : ℕ). All IsPush (take k (inr t.answer ∷ rest.entries))) none (All-nil IsPush)) refl refl refl refl
      | inr (inr (inr t)) ↦
          let ended : AuditState = record old { stage = End } in
          let last = none_behind_end ended new lines refl (subst (λ (s : AuditState). Runs s lines new) t.next runs.2) in
          record {
            entries = [];
            ends = inr (ap (λ (s : AuditState). s.stage) last.1, ap (λ (l : List ℕ). l ∷ lines) t.text.1 ∙ ap (λ (ls : List (List ℕ)). end_line ∷ ls) last.0, t.text.0);
            come = tt;
            all_true = tt;
            pushes = no_pushes (n - length old.journal);
            journal_is = ap (λ (s : AuditState). s.journal) last.1 ∙ sym (append-nil old.journal);
            last_is = ap (λ (s : AuditState). s.last) last.1;
            mixed_is = ap (λ (s : AuditState). s.mixed) last.1;
            heading_is = ap (λ (s : AuditState). s.heading) last.1;
          }
    ]

-- where the lines that were taken from the start end: there are none; or they are the first and those of entries, and perhaps the last
abbrev pub EndTaken : AuditState → List (List ℕ) → List Entry → Type 0
EndTaken new lines entries =
    ((new.stage ≡ Start) × (lines ≡ []) × (entries ≡ []) × (new.heading ≡ None))
    ⊎ ((new.stage ≡ stage_after Edits entries) × (lines ≡ heading_line new.heading ∷ map entry_line entries))
    ⊎ ((new.stage ≡ End) × (lines ≡ all_lines new.heading entries) × (new.heading ≡ None))

pub record AreTaken (mixed : Bool) (new : AuditState) (lines : List (List ℕ)) : Type 0 where
  pub entries : List Entry
  pub ends : EndTaken new lines entries
  pub come : ComeFrom mixed Edits entries
  pub sound : AreSound mixed new.heading entries
  pub journal_is : new.journal ≡ edits_in entries
  pub last_is : new.last ≡ last_edit (answers_in entries)
  pub mixed_is : new.mixed ≡ mixed

-- the first line, and the others after it
taken_behind : (mixed : Bool) (heading : Option LogHeading) (line : List ℕ) (lines : List (List ℕ)) (new : AuditState) → MayBegin mixed heading → line ≡ heading_line heading
    → AreEntries record { stage = Edits; heading = heading; journal = []; last = 0; mixed = mixed } new lines → AreTaken mixed new (line ∷ lines)
taken_behind mixed heading line lines new begins text rest =
    let first : line ≡ heading_line new.heading = text ∙ ap heading_line (sym rest.heading_is) in
    let last : new.heading ≡ None → end_line ∷ [] ≡ ending new.heading = λ none. ap ending (sym none) in
    record {
      entries = rest.entries;
      ends =
          elim rest.ends [
            | inl goes_on ↦ inr (inl (goes_on.0, ap (λ (l : List ℕ). l ∷ lines) first ∙ ap (λ (ls : List (List ℕ)). heading_line new.heading ∷ ls) goes_on.1))
            | inr ended ↦
                let none : new.heading ≡ None = rest.heading_is ∙ ended.2 in
                inr (inr (
                  ended.0,
                  ap (λ (l : List ℕ). l ∷ lines) first ∙ ap (λ (ls : List (List ℕ)). heading_line new.heading ∷ ls) (ended.1 ∙ ap (λ (ls : List (List ℕ)). map entry_line rest.entries ++ ls) (last none)),
                  none,
                ))
          ];
      come = rest.come;
      sound =
          subst (λ (h : Option LogHeading). AreSound mixed h rest.entries) (sym rest.heading_is)
          record { begins = begins; all_true = true_of mixed heading rest.entries begins rest.all_true rest.pushes; ordered = ordered_so mixed rest.entries rest.come };
      journal_is = rest.journal_is;
      last_is = rest.last_is;
      mixed_is = rest.mixed_is;
    }

pub taken_from_start : (mixed : Bool) (new : AuditState) (lines : List (List ℕ)) → Runs (start_state mixed) lines new → AreTaken mixed new lines
taken_from_start mixed new [] runs =
    let none : new.heading ≡ None = ap (λ (s : AuditState). s.heading) runs in
    record {
      entries = [];
      ends = inl (ap (λ (s : AuditState). s.stage) runs, refl, refl, none);
      come = tt;
      sound = subst (λ (h : Option LogHeading). AreSound mixed h []) (sym none) record { begins = tt; all_true = tt; ordered = ordered_so mixed [] tt };
      journal_is = ap (λ (s : AuditState). s.journal) runs;
      last_is = ap (λ (s : AuditState). s.last) runs;
      mixed_is = ap (λ (s : AuditState). s.mixed) runs;
    }
taken_from_start mixed new (line ∷ lines) runs =
    elim runs.1.1 [
      | inl t ↦
          let next : AuditState = record { stage = Edits; heading = t.heading; journal = []; last = 0; mixed = mixed } in
          taken_behind mixed t.heading line lines new t.begins t.text (entries_of next new lines (inl refl) (subst (λ (s : AuditState). Runs s lines new) t.next runs.2))
      | inr (inl t) ↦ absurd (not_start Start refl (may_end_of_edit mixed Start t.at))
      | inr (inr (inl t)) ↦ absurd (not_start Start refl t.at)
      | inr (inr (inr t)) ↦ absurd (not_start Start refl t.at)
    ]

-- if the last line may come, the lines that were taken are the first and those of entries
pub entries_before : (mixed : Bool) (front : List (List ℕ)) (s : AuditState) (t : AreTaken mixed s front) → MayEnd s.stage → (s.stage ≡ stage_after Edits t.entries) × (front ≡ heading_line s.heading ∷ map entry_line t.entries)
entries_before mixed front s t at =
    elim t.ends [
      | inl none ↦ absurd (not_start s.stage none.0 at)
      | inr (inl some) ↦ some
      | inr (inr some) ↦ absurd (not_end s.stage some.0 at)
    ]

-- if the last line was taken, they are all lines
pub all_before : (mixed : Bool) (s : AuditState) (lines : List (List ℕ)) (t : AreTaken mixed s lines) → s.stage ≡ End → lines ≡ all_lines s.heading t.entries
all_before mixed s lines t end =
    elim t.ends [
      | inl none ↦ absurd (cc (end, none.0))
      | inr (inl some) ↦ absurd (not_end s.stage end (subst MayEnd (sym some.0) (may_end_after Edits t.entries (inl refl))))
      | inr (inr some) ↦ some.1
    ]

-- lists that are the same have the same first and the same rest
pub first_of : (x y : List ℕ) (xs ys : List (List ℕ)) → x ∷ xs ≡ y ∷ ys → x ≡ y
first_of x y xs ys same = ap (λ (ls : List (List ℕ)). get_or ls 0 []) same

pub rest_of : (x y : List ℕ) (xs ys : List (List ℕ)) → x ∷ xs ≡ y ∷ ys → xs ≡ ys
rest_of x y xs ys same = ap (λ (ls : List (List ℕ)). drop 1 ls) same

-- they are those of a prefix
pub front_lines_of : (mixed : Bool) (new : AuditState) (lines : List (List ℕ)) (t : AreTaken mixed new lines) → AreFrontLines new.heading t.entries lines
front_lines_of mixed new [] t =
    elim t.ends [
      | inl none ↦ none.2
      | inr (inl some) ↦ absurd (cc some.1)
      | inr (inr some) ↦ absurd (cc some.1)
    ]
front_lines_of mixed new (line ∷ lines) t =
    let first = heading_line new.heading in
    let shown = map entry_line t.entries in
    elim t.ends [
      | inl none ↦ absurd (cc none.1)
      | inr (inl some) ↦ (first_of line first lines shown some.1, inl (rest_of line first lines shown some.1))
      | inr (inr some) ↦ (first_of line first lines (shown ++ ending new.heading) some.1, inr (rest_of line first lines (shown ++ ending new.heading) some.1))
    ]

-- if there are none, there is no heading
pub told_by_taken : (mixed : Bool) (new : AuditState) (lines : List (List ℕ)) (t : AreTaken mixed new lines) → IsToldBy lines new.heading
told_by_taken mixed new [] t =
    elim t.ends [
      | inl none ↦ none.3
      | inr (inl some) ↦ absurd (cc some.1)
      | inr (inr some) ↦ some.2
    ]
told_by_taken mixed new (line ∷ lines) t = tt

-- ---- in the order of a transcript

-- an answer that is true of some edits is true of them with more after
answer_later : (before more : List Edit) (answer : Claimed) → IsTrueAnswer before answer → IsTrueAnswer (before ++ more) answer
answer_later before more answer holds =
    let same : take answer.edit (before ++ more) ≡ take answer.edit before = take-append-le answer.edit before more holds.edit in
    record {
      edit = omega (arith, holds.edit, length-append before more);
      range = holds.range;
      end = subst (λ (js : List Edit). answer.hi ≤ length (list_of js)) (sym same) holds.end;
      value = subst (λ (js : List Edit). answer.value ≡ plain_value answer.kind (slice_range (list_of js) answer.lo answer.hi)) (sym same) holds.value;
    }

-- edits that are accepted, and answers that are true and rise
pub record AreInPlace (before : List Edit) (last : ℕ) (edits : List Edit) (answers : List Claimed) : Type 0 where
  pub accepted : AreAcceptedAfter greatest before edits
  pub elements : All CarriesElement edits
  pub all_true : All (IsTrueAnswer (before ++ edits)) answers
  pub rise : RiseFrom last answers

-- what is true in the order of time is so in the order of a transcript
pub in_place : (before : List Edit) (last : ℕ) (entries : List Entry) → AreTrueAfter before last entries → AreInPlace before last (edits_in entries) (answers_in entries)
in_place before last [] holds = record { accepted = tt; elements = All-nil CarriesElement; all_true = All-nil (IsTrueAnswer (before ++ [])); rise = tt }
in_place before last (inl e ∷ entries) holds =
    let rest = in_place (before ++ e ∷ []) last entries holds.2 in
    record {
      accepted = (holds.1, rest.accepted);
      elements = All-cons CarriesElement e (edits_in entries) holds.0 rest.elements;
      all_true = subst (λ (js : List Edit). All (IsTrueAnswer js) (answers_in entries)) (append_assoc before (e ∷ []) (edits_in entries)) rest.all_true;
      rise = rest.rise;
    }
in_place before last (inr answer ∷ entries) holds =
    let rest = in_place before answer.edit entries holds.2 in
    record {
      accepted = rest.accepted;
      elements = rest.elements;
      all_true = All-cons (IsTrueAnswer (before ++ edits_in entries)) answer (answers_in entries) (answer_later before (edits_in entries) answer holds.1) rest.all_true;
      rise = (holds.0, rest.rise);
    }

pub accepted_in_place : (entries : List Entry) → AreTrueAfter [] 0 entries → AreAccepted greatest (edits_in entries)
accepted_in_place entries holds = (in_place [] 0 entries holds).accepted

pub sound_in_place : (entries : List Entry) → AreTrueAfter [] 0 entries → IsSoundTranscript (transcript_text (edits_in entries) (answers_in entries))
sound_in_place entries holds =
    let placed = in_place [] 0 entries holds in
    record {
      edits = edits_in entries;
      answers = answers_in entries;
      text = inl refl;
      elements = placed.elements;
      accepted = placed.accepted;
      order = in_order_of_rise 0 (answers_in entries) placed.rise;
      all_true = placed.all_true;
    }

-- each entry is an edit or an answer
pub entries_counted : (entries : List Entry) → length entries ≡ length (edits_in entries) + length (answers_in entries)
entries_counted [] = refl
entries_counted (inl e ∷ entries) = omega (arith, entries_counted entries)
entries_counted (inr answer ∷ entries) = omega (arith, entries_counted entries)

-- and back: edits that are accepted, and true answers that rise after them, are true in the order of time
true_answers : (before : List Edit) (last : ℕ) (answers : List Claimed) → All (IsTrueAnswer before) answers → RiseFrom last answers → AreTrueAfter before last (map inr answers)
true_answers before last [] holds rise = tt
true_answers before last (answer ∷ answers) holds rise =
    (rise.0, All-head (IsTrueAnswer before) answer answers holds, true_answers before answer.edit answers (All-tail (IsTrueAnswer before) answer answers holds) rise.1)

true_in_order : (before edits : List Edit) (answers : List Claimed) → AreAcceptedAfter greatest before edits → All CarriesElement edits → All (IsTrueAnswer (before ++ edits)) answers → RiseFrom 0 answers
    → AreTrueAfter before 0 (map inl edits ++ map inr answers)
true_in_order before [] answers accepted carry holds rise =
    true_answers before 0 answers (subst (λ (js : List Edit). All (IsTrueAnswer js) answers) (append-nil before) holds) rise
true_in_order before (e ∷ edits) answers accepted carry holds rise = (
  All-head CarriesElement e edits carry,
  accepted.0,
  true_in_order (before ++ e ∷ []) edits answers accepted.1 (All-tail CarriesElement e edits carry)
      (subst (λ (js : List Edit). All (IsTrueAnswer js) answers) (sym (append_assoc before (e ∷ []) edits)) holds) rise,
)

module _ (edits : List Edit) (answers : List Claimed) where
  pub sound_entries : All CarriesElement edits → AreAccepted greatest edits → AreInOrder answers → All (IsTrueAnswer edits) answers → AreSound false None (map inl edits ++ map inr answers)
  sound_entries carry accepted order holds = record {
    begins = tt;
    all_true = true_in_order [] edits answers accepted carry holds (rise_in_order 0 answers (λ d some. omega arith) order);
    ordered = ordered_so false (map inl edits ++ map inr answers) (come_in_order edits answers);
  }

  -- their lines are those of a transcript
  pub lines_in_order : all_lines None (map inl edits ++ map inr answers) ≡ transcript_lines edits answers
  lines_in_order =
      let lines : map entry_line (map inl edits ++ map inr answers) ≡ map edit_line edits ++ map answer_line answers =
      map-append entry_line (map inl edits) (map inr answers)
      ∙ ap (λ (ls : List (List ℕ)). ls ++ map entry_line (map inr answers)) (map-map entry_line inl edits)
      ∙ ap (λ (ls : List (List ℕ)). map edit_line edits ++ ls) (map-map entry_line inr answers) in
      ap (λ (ls : List (List ℕ)). first_line ∷ (ls ++ end_line ∷ [])) lines

-- the lines of sound entries that are in order are those of a transcript
pub lines_of_ordered : (entries : List Entry) → AreSound false None entries → all_lines None entries ≡ transcript_lines (edits_in entries) (answers_in entries)
lines_of_ordered entries sound = ap (all_lines None) sound.ordered ∙ lines_in_order (edits_in entries) (answers_in entries)

-- ---- from entries to lines that are taken

-- lines are taken from a state, in a transcript to the end
pub record RunsToEnd (heading : Option LogHeading) (old : AuditState) (lines : List (List ℕ)) : Type 0 where
  pub end : AuditState
  pub runs : Runs old lines end
  pub at_end : heading ≡ None → end.stage ≡ End

-- one line, and then the others
first_taken : (heading : Option LogHeading) (old mid : AuditState) (line : List ℕ) (lines : List (List ℕ)) → Takes old line mid → RunsToEnd heading mid lines → RunsToEnd heading old (line ∷ lines)
first_taken heading old mid line lines taken rest = record { end = rest.end; runs = (mid, taken, rest.runs); at_end = rest.at_end }

-- the last line, if there is one
last_taken : (mixed : Bool) (heading : Option LogHeading) (stage : Stage) (before : List Edit) (last : ℕ) → MayEnd stage
    → RunsToEnd heading record { stage = stage; heading = heading; journal = before; last = last; mixed = mixed } (ending heading)
last_taken mixed None stage before last at =
    let old : AuditState = record { stage = stage; heading = None; journal = before; last = last; mixed = mixed } in
    let end : AuditState = record old { stage = End } in
    record { end = end; runs = (end, (lit≤ tt, inr (inr (inr record { at = at; text = (refl, refl); next = refl }))), refl); at_end = λ none. refl }
last_taken mixed (Some h) stage before last at =
    let old : AuditState = record { stage = stage; heading = Some h; journal = before; last = last; mixed = mixed } in
    record { end = old; runs = refl; at_end = λ none. absurd (cc none) }

-- edits that a vector has accepted
pub record AreBefore (before : List Edit) : Type 0 where
  pub accepted : AreAccepted greatest before
  pub elements : All CarriesElement before

pub none_before : AreBefore []
none_before = record { accepted = tt; elements = All-nil CarriesElement }

-- and one more
pub one_more_before : (before : List Edit) (e : Edit) → AreBefore before → CarriesElement e → verdict_of greatest before e ≡ None → AreBefore (before ++ e ∷ [])
one_more_before before e known carries free = record {
  accepted = accepted_more [] before e known.accepted free;
  elements = All-append CarriesElement before (e ∷ []) known.elements (All-cons CarriesElement e [] carries (All-nil CarriesElement));
}

-- each beginning of them is within the limits
pub begin_within : (before : List Edit) → AreBefore before → (k : ℕ) → IsWithin (take k before)
begin_within before known k = beginnings_within [] before k within_none known.accepted known.elements

pub all_within : (before : List Edit) → AreBefore before → IsWithin before
all_within before known = subst (λ (js : List Edit). IsWithin js) (take_all (length before) before (omega arith)) (begin_within before known (length before))

-- the lines of entries that are true, and may come, are taken, and then the last
entries_taken : (mixed : Bool) (heading : Option LogHeading) (stage : Stage) (before : List Edit) (last : ℕ) (entries : List Entry) → MayEnd stage → ComeFrom mixed stage entries → AreBefore before → AreTrueAfter before last entries
    → All IsPush (take (elements_of heading - length before) entries)
    → RunsToEnd heading record { stage = stage; heading = heading; journal = before; last = last; mixed = mixed } (map entry_line entries ++ ending heading)
entries_taken mixed heading stage before last [] at come known holds pushes = last_taken mixed heading stage before last at
entries_taken mixed heading stage before last (inl e ∷ entries) at come known holds pushes =
    let old : AuditState = record { stage = stage; heading = heading; journal = before; last = last; mixed = mixed } in
    let next : AuditState = record old { stage = Edits; journal = before ++ e ∷ [] } in
    let fits : IsEdit e = accepted_fits before e (all_within before known) holds.1 holds.0 in
    let n = elements_of heading in
    let place : IsInPlace n before e = λ few. first_push (n - length before) (inl e) entries (omega (arith, few)) pushes in
    first_taken heading old next (edit_line e) (map entry_line entries ++ ending heading)
    ((line_of_edit e fits).short, inr (inl record { edit = e; at = come.0; fits = fits; text = refl; verdict = holds.1; place = place; next = refl }))
    (entries_taken mixed heading Edits (before ++ e ∷ []) last entries (inl refl) come.1 (one_more_before before e known holds.0 holds.1) holds.2
    (other_pushes (n - length before) (n - length (before ++ e ∷ [])) (inl e) entries (omega (arith, length_push before e)) pushes))
entries_taken mixed heading stage before last (inr answer ∷ entries) at come known holds pushes =
    let old : AuditState = record { stage = stage; heading = heading; journal = before; last = last; mixed = mixed } in
    let next : AuditState = record old { stage = AnswersFollow; last = answer.edit } in
    let plain = plain_answer before (begin_within before known) answer holds.1 in
    let n = elements_of heading in
    let none : n - length before ≡ 0 = no_answer (n - length before) answer entries pushes in
    first_taken heading old next (answer_line answer) (map entry_line entries ++ ending heading)
    (plain.line.short, inr (inr (inl record { answer = answer; at = at; fits = plain.fits; text = refl; order = holds.0; holds = holds.1; behind = omega (arith, none); next = refl })))
    (entries_taken mixed heading AnswersFollow before answer.edit entries (inr refl) come known holds.2
    (subst (λ (k : ℕ). All IsPush (take k entries)) (sym none) (All-nil IsPush)))

-- all lines of sound entries are taken
pub all_lines_taken : (mixed : Bool) (heading : Option LogHeading) (entries : List Entry) → AreSound mixed heading entries → RunsToEnd heading (start_state mixed) (all_lines heading entries)
all_lines_taken mixed heading entries sound =
    let next : AuditState = record { stage = Edits; heading = heading; journal = []; last = 0; mixed = mixed } in
    let all : elements_of heading ≡ elements_of heading - 0 = omega arith in
    first_taken heading (start_state mixed) next (heading_line heading) (map entry_line entries ++ ending heading)
    (heading_line_short mixed heading sound.begins, inl record { heading = heading; at = refl; begins = sound.begins; text = refl; next = refl })
    (entries_taken mixed heading Edits [] 0 entries (inl refl) (come_so mixed entries sound.ordered) none_before (all_true_of heading entries sound.all_true)
    (subst (λ (n : ℕ). All IsPush (take n entries)) all (pushes_of heading entries sound.all_true)))

-- the lines of a prefix are the first of all lines of a text
rest_of_front : (heading : Option LogHeading) (entries : List Entry) (lines : List (List ℕ)) → AreFrontLines heading entries lines → (rest : List (List ℕ)) × (lines ++ rest ≡ all_lines heading entries)
rest_of_front heading entries [] are = (all_lines heading entries, refl)
rest_of_front heading entries (line ∷ lines) (is, inl same) =
    (ending heading, ap (λ (l : List ℕ). l ∷ (lines ++ ending heading)) is ∙ ap (λ (ls : List (List ℕ)). heading_line heading ∷ (ls ++ ending heading)) same)
rest_of_front heading entries (line ∷ lines) (is, inr same) =
    ([], ap (λ (l : List ℕ). l ∷ (lines ++ [])) is ∙ ap (λ (ls : List (List ℕ)). heading_line heading ∷ ls) (append-nil lines ∙ same))

pub front_taken : (heading : Option LogHeading) (entries : List Entry) (lines : List (List ℕ)) → AreFrontLines heading entries lines → AreTrueOf heading entries → (end : AuditState) × Runs (start_state true) lines end
front_taken heading entries lines are holds =
    let rest = rest_of_front heading entries lines are in
    let known = all_lines_taken true heading entries record { begins = begins_of heading entries holds; all_true = holds; ordered = tt } in
    let by = runs_by (start_state true) known.end lines rest.0 (subst (λ (ls : List (List ℕ)). Runs (start_state true) ls known.end) (sym rest.1) known.runs) in
    (by.mid, by.runs)
