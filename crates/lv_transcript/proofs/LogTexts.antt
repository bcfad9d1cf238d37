-- A log of elements has their pushes, which are accepted, and so it is a sound one.
use Rattle.std.proofs.Common.{◌≡◌, ℕ, zero, suc, ◌+◌, ◌<◌, ◌≤◌, ℤ, Bool, false, None, Some, Option, List, [], ◌∷◌, ◌++◌, length, take, All, refl, sym, ap, ◌∙◌, subst, arith, append-nil}
use Rattle.std.specs.Io.KnownBytes.{Appends}
use Rattle.std.proofs.lemmas.Bool.{cond-false, ne_eqb}
use Rattle.std.proofs.lemmas.List.{length-map, length_push}
use Rattle.std.proofs.lemmas.List.Elements.{All-nil, All-cons, All-head, All-tail}
use Rattle.lv_geometry.specs.Elements.{IsElement}
use Rattle.lv_edits.specs.declared.edit.Edit.{Edit}
use Rattle.lv_edits.specs.declared.edit.Edit.TheVariants.{Push}
use Rattle.lv_edits.specs.History.{list_of, replayed}
use Rattle.lv_edits.specs.Verdict.{verdict_of}
use Rattle.lv_edits.proofs.HistoryLaws.{legal-snoc, list_of-snoc, list_of_replayed, replayed-nil}
use Rattle.lv_lines.specs.Output.{Writes, WritesFront}
use Rattle.lv_lines.proofs.OutputLemmas.{Writes-all}
use Rattle.lv_transcript.specs.declared.log_heading.LogHeading.{LogHeading}
use Rattle.lv_transcript.specs.Fronts.{AreTrueAfter, AreTrueOf, Entry, IsPush, IsWholeFront}
use Rattle.lv_transcript.specs.Logs.{log_text, pushed, pushes_of_elements}
use Rattle.lv_transcript.specs.Transcribing.{Adds, WasGivenOf, WritingState, WroteOrHolds}
use Rattle.lv_transcript.specs.Transcript.{IsHeading, greatest}
use Rattle.lv_transcript.proofs.TranscribedFronts.{entry_lines_front, front_written}

-- ---- pushes

-- each is one
are_pushes : (elements : List ℤ) (n : ℕ) → All IsPush (take n (pushes_of_elements elements))
are_pushes elements zero = All-nil IsPush
are_pushes [] (suc n) = All-nil IsPush
are_pushes (x ∷ elements) (suc n) = All-cons IsPush (pushed x) (take n (pushes_of_elements elements)) tt (are_pushes elements n)

-- after pushes that are few a push is accepted
push_accepted : (before : List Edit) (x : ℤ) → length (list_of before) ≡ length before → length before < 1048568 → verdict_of greatest before (Push x) ≡ None
push_accepted before x same few =
    cond-false _ _ _ (ne_eqb (length before) 16777215 (λ is. omega (arith, is, few))) ∙ cond-false _ _ _ (ne_eqb (length (list_of before)) 1048568 (λ is. omega (arith, is, few, same)))

-- so all are true, one after the other
pushes_true : (before : List Edit) (elements : List ℤ) → replayed before ≡ Some (list_of before) → length (list_of before) ≡ length before → length before + length elements ≤ 1048568 → All IsElement elements
    → AreTrueAfter before 0 (pushes_of_elements elements)
pushes_true before [] legal same few fits = tt
pushes_true before (x ∷ elements) legal same few fits =
    let longer : length (list_of (before ++ Push x ∷ [])) ≡ length (before ++ Push x ∷ []) =
    omega (arith, same, ap length (list_of-snoc before (Push x) _ legal refl).1, length_push (list_of before) x, length_push before (Push x)) in (
      All-head IsElement x elements fits,
      push_accepted before x same (omega (arith, few)),
      pushes_true (before ++ Push x ∷ []) elements (legal-snoc before (Push x) _ legal refl) longer (omega (arith, few, length_push before (Push x))) (All-tail IsElement x elements fits),
    )

all_pushes_true : (elements : List ℤ) → length elements ≤ 1048568 → All IsElement elements → AreTrueAfter [] 0 (pushes_of_elements elements)
all_pushes_true elements few fits =
    let none : list_of [] ≡ [] = list_of_replayed [] [] replayed-nil in
    pushes_true [] elements (replayed-nil ∙ ap Some (sym none)) (ap length none) (omega (arith, few)) fits

-- ---- the text

module _ (heading : LogHeading) (elements : List ℤ) (numbers : IsHeading heading) (count : heading.elements ≡ length elements) (few : length elements ≤ 1048568) where
  -- it is a sound log
  pub log_is_sound : All IsElement elements → IsWholeFront (Some heading) (log_text heading elements) (pushes_of_elements elements)
  log_is_sound fits =
      let holds : AreTrueOf (Some heading) (pushes_of_elements elements) = record {
        numbers = numbers;
        all_true = all_pushes_true elements few fits;
        pushes = are_pushes elements heading.elements;
      } in
      record { front = entry_lines_front (Some heading) (pushes_of_elements elements) holds; elements = omega (arith, count, length-map elements pushed) }

-- ---- how it is written

-- all that was held is written, or a write has failed
pub log_written : (heading : LogHeading) (elements : List ℤ) (start contents : Option (List ℕ)) (held : List ℕ) (failed : Bool) → failed ≡ false → held ≡ [] → WroteOrHolds failed start contents held (log_text heading elements)
    → Appends start contents (log_text heading elements)
log_written heading elements start contents held failed fine none w =
    let text : Writes start [] contents held (log_text heading elements) = rw fine at w in
    Writes-all start contents (log_text heading elements) (subst (λ (h : List ℕ). Writes start [] contents h (log_text heading elements)) none text)

pub log_unwritten : (heading : LogHeading) (elements : List ℤ) (start contents : Option (List ℕ)) (held : List ℕ) (failed : Bool) → WroteOrHolds failed start contents held (log_text heading elements)
    → WritesFront start [] contents (log_text heading elements)
log_unwritten heading elements start contents held failed w = front_written failed start contents held (log_text heading elements) w

-- what a writer was given that began a log: the pushes, and then what is held was sent
pub log_given : (heading : LogHeading) (elements : List ℤ) (unused given sent : WritingState) → WasGivenOf (Some heading) None unused.contents [] unused → Adds unused (pushes_of_elements elements) given → Adds given [] sent
    → WroteOrHolds sent.failed unused.contents sent.contents sent.held (log_text heading elements)
log_given heading elements unused given sent none adds rests =
    let first : WasGivenOf (Some heading) None unused.contents (pushes_of_elements elements) given = adds (Some heading) None unused.contents [] none in
    let all : WasGivenOf (Some heading) None unused.contents (pushes_of_elements elements ++ []) sent = rests (Some heading) None unused.contents (pushes_of_elements elements) first in
    let same : WasGivenOf (Some heading) None unused.contents (pushes_of_elements elements) sent =
    subst (λ (es : List Entry). WasGivenOf (Some heading) None unused.contents es sent) (append-nil (pushes_of_elements elements)) all in
    same.text
