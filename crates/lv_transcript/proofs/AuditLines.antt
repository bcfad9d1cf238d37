-- What becomes of a line in an audit.
use Rattle.std.proofs.Common.{◌≡◌, ◌≢◌, ◌⊎◌, ℕ, ◌<◌, ◌≤◌, Bool, false, true≢false, List, ◌++◌, length, get_or, take, drop, slice_range, Option, refl, sym, ap, ◌∙◌, subst, inl, inr, arith}
use Rattle.std.proofs.lemmas.Bool.{eqb-false}
use Rattle.std.proofs.lemmas.Option.{same_Some}
use Rattle.std.proofs.Math.Seq.{drop-append_seam}
use Rattle.lv_bodies.specs.Plain.{plain_value}
use Rattle.lv_edits.specs.declared.edit.Edit.{Edit}
use Rattle.lv_edits.specs.History.{list_of}
use Rattle.lv_edits.specs.Verdict.{verdict_of}
use Rattle.lv_lines.specs.declared.command.Command.TheVariants as command
use Rattle.lv_lines.specs.declared.lines.Line.TheVariants.{Do}
use Rattle.lv_lines.specs.Texts.{shown_text}
use Rattle.lv_transcript.specs.declared.auditor.Stage.{Stage}
use Rattle.lv_transcript.specs.declared.auditor.Stage.TheVariants.{Start, Edits, AnswersFollow, End, No, Bad, NoMemory}
use Rattle.lv_transcript.specs.declared.transcript_lines.Question.{Question}
use Rattle.lv_transcript.specs.Transcript.{edit_line, greatest, end_line, heading_line, BeginsAnswer, HasEditForm, IsEdit}
use Rattle.lv_transcript.specs.declared.log_heading.LogHeading.{LogHeading}
use Rattle.lv_transcript.specs.Fronts.{IsFirst, MayBegin, elements_of}
use Rattle.lv_transcript.specs.Auditing.{AuditState, AnswerLineBecomes, EditBecomes, Becomes, HasLaterForm, IsAnswered, IsFaultOf, IsInPlace, IsLast, IsQuestion, MayCome, MayEdit, MayEnd, Takes, TakesAnswer, TakesEdit, TakesLater, question_of, text_of}
use Rattle.lv_transcript.proofs.ReadTranscripts.{line_of-edit_line, question_in-text_of}

-- a fault is the same if the right forms are
fault_same : (n : ℕ) (F G : Type 0) (stage : Stage) → (F → G) → (G → F) → IsFaultOf n F stage → IsFaultOf n G stage
fault_same n F G (No k) to back fault = (fault.0, to fault.1)
fault_same n F G (Bad k) to back fault = (fault.0, λ form. fault.1 (back form))
fault_same n F G NoMemory to back fault = fault
fault_same n F G Start to back fault = fault
fault_same n F G Edits to back fault = fault
fault_same n F G AnswersFollow to back fault = fault
fault_same n F G End to back fault = fault

-- what follows if the right forms, and the lines that may be taken, are the same
pub Becomes-same : (n : ℕ) (old : AuditState) (F G : Type 0) (P Q : AuditState → Type 0) (new : AuditState) → (F → G) → (G → F) → ((next : AuditState) → P next → Q next) → ((next : AuditState) → Q next → P next)
    → Becomes n old F P new → Becomes n old G Q new
Becomes-same n old F G P Q new form form_back to back (inl taken) = inl (to new taken)
Becomes-same n old F G P Q new form form_back to back (inr (inl found)) =
    inr (inl (fault_same n F G new.stage form form_back found.0, found.1, found.2, λ next taken. found.3 next (back next taken)))
Becomes-same n old F G P Q new form form_back to back (inr (inr none)) = inr (inr none)

-- ---- edits

-- the line of an edit is that of no other
pub edit_line-injective : (line : List ℕ) (e f : Edit) → IsEdit e → IsEdit f → line ≡ edit_line e → line ≡ edit_line f → e ≡ f
edit_line-injective line e f p q first second =
    let one = line_of-edit_line line (drop 2 line) e p refl first in
    let two = line_of-edit_line line (drop 2 line) f q refl second in
    let same : Do (command.Edit e) ≡ Do (command.Edit f) = sym one ∙ two in
    cc same

-- the first byte of a line
abbrev first_byte : List ℕ → ℕ
first_byte line = get_or line 0 0

-- it begins with a `j`
begins_with_j : (e : Edit) → first_byte (edit_line e) ≡ 106
begins_with_j e = refl

-- it is therefore no line that comes after the edits
pub no_edit_later : (old next : AuditState) (line : List ℕ) (e : Edit) → line ≡ edit_line e → TakesLater old line next → ⊥
no_edit_later old next line e is (inl t) = eqb-false 106 97 refl (sym (begins_with_j e) ∙ ap first_byte (sym is ∙ t.text))
no_edit_later old next line e is (inr t) = eqb-false 106 101 refl (sym (begins_with_j e) ∙ ap first_byte (sym is ∙ t.text.1))

-- what became of an edit is what became of its line
pub Becomes-edit : (number : ℕ) (old : AuditState) (line : List ℕ) (e : Edit) (stage : Stage) (journal : List Edit) → MayEdit old.mixed old.stage → IsEdit e → line ≡ edit_line e
    → EditBecomes number (elements_of old.heading) old.journal e stage journal
    → Becomes number old (HasEditForm line ⊎ HasLaterForm old line) (λ new. TakesEdit old line new ⊎ TakesLater old line new) record old { stage = stage; journal = journal }
Becomes-edit number old line e Edits journal at fits is ends =
    inl (inl record {
      edit = e;
      at = at;
      fits = fits;
      text = is;
      verdict = ends.0;
      place = ends.1;
      next = ap (λ (js : List Edit). record old { stage = Edits; journal = js }) ends.2;
    })
Becomes-edit number old line e (No n) journal at fits is ends =
    inr (inl (
      (ends.0, inl (e, fits, is)),
      ends.1,
      refl,
      λ next taken. elim taken [
        | inl t ↦
            let same : e ≡ t.edit = edit_line-injective line e t.edit fits t.fits is t.text in
            ends.2 (ap (verdict_of greatest old.journal) same ∙ t.verdict) (subst (IsInPlace (elements_of old.heading) old.journal) (sym same) t.place)
        | inr later ↦ no_edit_later old next line e is later
      ],
    ))
Becomes-edit number old line e NoMemory journal at fits is ends = inr (inr refl)
Becomes-edit number old line e Start journal at fits is ends = absurd ends
Becomes-edit number old line e AnswersFollow journal at fits is ends = absurd ends
Becomes-edit number old line e End journal at fits is ends = absurd ends
Becomes-edit number old line e (Bad n) journal at fits is ends = absurd ends

-- ---- answers

-- a line that begins with a question begins with no other
pub same_question : (line first second : List ℕ) (p q : Question) → IsQuestion p → IsQuestion q → line ≡ text_of p ++ first → line ≡ text_of q ++ second → p ≡ q
same_question line first second p q fits fits_too is is_too =
    same_Some p q (sym (question_in-text_of p line first fits is) ∙ question_in-text_of q line second fits_too is_too)

-- and has one value after it
same_value : (question first second : List ℕ) → question ++ first ≡ question ++ second → first ≡ second
same_value question first second same =
    sym (drop-append_seam question first) ∙ ap (drop (length question)) same ∙ drop-append_seam question second

-- an answer that is taken is answered right
taken_is_answered : (old next : AuditState) (line value : List ℕ) (q : Question) → IsQuestion q → line ≡ text_of q ++ value → TakesAnswer old line next → IsAnswered (elements_of old.heading) old.journal old.last q value
taken_is_answered old next line value q fits is t =
    let asked = question_of t.answer in
    let same : asked ≡ q = same_question line (shown_text t.answer.value) value asked q t.fits fits t.text is in
    let right : IsAnswered (elements_of old.heading) old.journal old.last asked (shown_text t.answer.value) = record {
      behind = t.behind;
      order = t.order;
      edit = t.holds.edit;
      answer = record { range = t.holds.range; end = t.holds.end; right = ap shown_text t.holds.value };
    } in
    let behind : shown_text t.answer.value ≡ value =
    same_value (text_of asked) (shown_text t.answer.value) value (sym t.text ∙ is ∙ ap (λ (p : Question). text_of p ++ value) (sym same)) in
    subst (λ (p : Question). IsAnswered (elements_of old.heading) old.journal old.last p value) same (subst (IsAnswered (elements_of old.heading) old.journal old.last asked) behind right)

-- the last line begins with no question
pub not_last : (q : Question) (value line : List ℕ) → line ≡ text_of q ++ value → line ≡ end_line → ⊥
not_last q value line is last = eqb-false 97 101 refl (ap first_byte (sym is ∙ last))

-- a question that is not answered right is not taken
not_taken : (old next : AuditState) (line value : List ℕ) (q : Question) → IsQuestion q → line ≡ text_of q ++ value → (IsAnswered (elements_of old.heading) old.journal old.last q value → ⊥) → TakesLater old line next → ⊥
not_taken old next line value q fits is wrong (inl t) = wrong (taken_is_answered old next line value q fits is t)
not_taken old next line value q fits is wrong (inr t) = not_last q value line is t.text.1

-- what comes before is not what comes after or at once
disordered : (last edit : ℕ) → edit < last → last ≤ edit → ⊥
disordered last edit before after = absurd (omega arith)

-- what an answer that begins so asks
abbrev pub asked_by : {last : ℕ} {line : List ℕ} → BeginsAnswer last line → Question
asked_by b = record { edit = b.edit; kind = b.kind; lo = b.lo; hi = b.hi }

pub asked_fits : {last : ℕ} {line : List ℕ} (b : BeginsAnswer last line) → IsQuestion (asked_by b)
asked_fits b = record { edit = b.fits.0; lo = b.fits.1; hi = b.fits.2 }

-- a line that begins with a question before the last one has no form that may come after the edits
not_in_order : (old : AuditState) (line value : List ℕ) (q : Question) → IsQuestion q → line ≡ text_of q ++ value → q.edit < old.last → HasLaterForm old line → ⊥
not_in_order old line value q fits is before (at, inl b) =
    let same : asked_by b ≡ q = same_question line b.value value (asked_by b) q (asked_fits b) fits b.text is in
    disordered old.last q.edit before (subst (λ (n : ℕ). old.last ≤ n) (ap (λ asked. asked.edit) same) b.order)
not_in_order old line value q fits is before (at, inr last) = not_last q value line is last.1

-- what became of an answer is what became of its line
pub Becomes-answer : (number : ℕ) (old : AuditState) (line value : List ℕ) (q : Question) (stage : Stage) (reached : ℕ) → MayEnd old.stage → IsQuestion q → line ≡ text_of q ++ value
    → AnswerLineBecomes number (elements_of old.heading) old.journal old.last q value stage reached → Becomes number old (HasLaterForm old line) (TakesLater old line) record old { stage = stage; last = reached }
Becomes-answer number old line value q AnswersFollow reached at fits is ends =
    let answer = ends.0.answer in
    inl (inl record {
      answer = record { edit = q.edit; kind = q.kind; lo = q.lo; hi = q.hi; value = plain_value q.kind (slice_range (list_of (take q.edit old.journal)) q.lo q.hi) };
      at = at;
      fits = fits;
      text = is ∙ ap (λ (xs : List ℕ). text_of q ++ xs) answer.right;
      order = ends.0.order;
      holds = record { edit = ends.0.edit; range = answer.range; end = answer.end; value = refl };
      behind = ends.0.behind;
      next = ap (λ (n : ℕ). record old { stage = AnswersFollow; last = n }) ends.1;
    })
Becomes-answer number old line value q (No n) reached at fits is ends =
    inr (inl (
      (ends.0, (at, inl record { edit = q.edit; kind = q.kind; lo = q.lo; hi = q.hi; value = value; fits = (fits.edit, fits.lo, fits.hi); text = is; order = ends.1 })),
      refl,
      refl,
      λ next taken. not_taken old next line value q fits is ends.2 taken,
    ))
Becomes-answer number old line value q (Bad n) reached at fits is ends =
    inr (inl (
      (ends.0, λ form. not_in_order old line value q fits is ends.1 form),
      refl,
      refl,
      λ next taken. not_taken old next line value q fits is (λ answered. disordered old.last q.edit ends.1 answered.order) taken,
    ))
Becomes-answer number old line value q NoMemory reached at fits is ends = inr (inr refl)
Becomes-answer number old line value q Start reached at fits is ends = absurd ends
Becomes-answer number old line value q Edits reached at fits is ends = absurd ends
Becomes-answer number old line value q End reached at fits is ends = absurd ends

-- a line that is not the last, and begins with no question, is not taken after the edits
pub none_later : (old next : AuditState) (line : List ℕ) → (IsLast old.heading line → ⊥) → ((q : Question) (value : List ℕ) → IsQuestion q → line ≢ text_of q ++ value) → TakesLater old line next → ⊥
none_later old next line other none (inl t) = none (question_of t.answer) (shown_text t.answer.value) t.fits t.text
none_later old next line other none (inr t) = other t.text

-- nor does it have a form that may come after them
pub no_form_later : (old : AuditState) (line : List ℕ) → (IsLast old.heading line → ⊥) → ((q : Question) (value : List ℕ) → IsQuestion q → line ≢ text_of q ++ value) → HasLaterForm old line → ⊥
no_form_later old line other none (at, inl b) = none (asked_by b) b.value (asked_fits b) b.text
no_form_later old line other none (at, inr last) = other last

-- ---- at their stages

-- at a stage at which an update may come, answers and the last line may come too
pub may_end_of_edit : (mixed : Bool) (stage : Stage) → MayEdit mixed stage → MayEnd stage
may_end_of_edit mixed stage (inl at) = inl at
may_end_of_edit mixed stage (inr at) = inr at.1

-- and the first line may not
pub not_start : (stage : Stage) → stage ≡ Start → MayEnd stage → ⊥
not_start stage start (inl at) = absurd (cc (start, at))
not_start stage start (inr at) = absurd (cc (start, at))

-- a line that a text may begin with is taken as the first
pub Becomes-begun : (n : ℕ) (old : AuditState) (line : List ℕ) (heading : Option LogHeading) → old.stage ≡ Start → length line ≤ 120 → MayBegin old.mixed heading × (line ≡ heading_line heading)
    → Becomes n old (MayCome old line) (Takes old line) record old { stage = Edits; heading = heading }
Becomes-begun n old line heading at short is = inl (short, inl record { heading = heading; at = at; begins = is.0; text = is.1; next = refl })

-- no other is
pub Becomes-unbegun : (n : ℕ) (old : AuditState) (line : List ℕ) → old.stage ≡ Start → (IsFirst old.mixed line → ⊥) → Becomes n old (MayCome old line) (Takes old line) record old { stage = Bad n }
Becomes-unbegun n old line at none =
    let never = λ (may : MayEnd old.stage). not_start old.stage at may in
    inr (inl (
      (refl, λ form. elim form.1 as (λ _. ⊥) [ inl first ↦ none first.1 | inr (inl edit) ↦ never (may_end_of_edit old.mixed old.stage edit.0) | inr (inr later) ↦ never later.0 ]),
      refl,
      refl,
      λ next taken. elim taken.1 as (λ _. ⊥) [
        | inl t ↦ none (t.heading, t.begins, t.text)
        | inr (inl t) ↦ never (may_end_of_edit old.mixed old.stage t.at)
        | inr (inr (inl t)) ↦ never t.at
        | inr (inr (inr t)) ↦ never t.at
      ],
    ))

-- a line at a stage at which updates may come
pub Becomes-at_edits : (n : ℕ) (old new : AuditState) (line : List ℕ) → MayEdit old.mixed old.stage → length line ≤ 120
    → Becomes n old (HasEditForm line ⊎ HasLaterForm old line) (λ next. TakesEdit old line next ⊎ TakesLater old line next) new → Becomes n old (MayCome old line) (Takes old line) new
Becomes-at_edits n old new line at short =
    let never = λ (start : old.stage ≡ Start). not_start old.stage start (may_end_of_edit old.mixed old.stage at) in
    Becomes-same n old (HasEditForm line ⊎ HasLaterForm old line) (MayCome old line) (λ next. TakesEdit old line next ⊎ TakesLater old line next) (Takes old line) new
    (λ form. elim form [ inl edit ↦ (short, inr (inl (at, edit))) | inr later ↦ (short, inr (inr later)) ])
    (λ may. elim may.1 [ inl first ↦ absurd (never first.0) | inr (inl edit) ↦ inl edit.1 | inr (inr later) ↦ inr later ])
    (λ next taken. (short, inr taken))
    (λ next taken. elim taken.1 [ inl t ↦ absurd (never t.at) | inr t ↦ t ])

-- if answers follow, and no edits do
pub no_edit_behind : (mixed : Bool) (stage : Stage) → mixed ≡ false → stage ≡ AnswersFollow → MayEdit mixed stage → ⊥
no_edit_behind mixed stage apart at (inl edits) = absurd (cc (at, edits))
no_edit_behind mixed stage apart at (inr answers) = true≢false (sym answers.0 ∙ apart)

pub Becomes-at_answers : (n : ℕ) (old new : AuditState) (line : List ℕ) → old.mixed ≡ false → old.stage ≡ AnswersFollow → length line ≤ 120
    → Becomes n old (HasLaterForm old line) (TakesLater old line) new → Becomes n old (MayCome old line) (Takes old line) new
Becomes-at_answers n old new line apart at short =
    let never = λ (may : MayEdit old.mixed old.stage). no_edit_behind old.mixed old.stage apart at may in
    Becomes-same n old (HasLaterForm old line) (MayCome old line) (TakesLater old line) (Takes old line) new
    (λ later. (short, inr (inr later)))
    (λ may. elim may.1 [ inl first ↦ absurd (cc (at, first.0)) | inr (inl edit) ↦ absurd (never edit.0) | inr (inr later) ↦ later ])
    (λ next taken. (short, inr (inr taken)))
    (λ next taken. elim taken.1 [ inl t ↦ absurd (cc (at, t.at)) | inr (inl t) ↦ absurd (never t.at) | inr (inr t) ↦ t ])

-- a line that is not that of an edit is one after the edits, or none
pub Becomes-no_edit : (n : ℕ) (old new : AuditState) (line : List ℕ) → ((e : Edit) → IsEdit e → line ≢ edit_line e) → Becomes n old (HasLaterForm old line) (TakesLater old line) new
    → Becomes n old (HasEditForm line ⊎ HasLaterForm old line) (λ next. TakesEdit old line next ⊎ TakesLater old line next) new
Becomes-no_edit n old new line none =
    Becomes-same n old (HasLaterForm old line) (HasEditForm line ⊎ HasLaterForm old line) (TakesLater old line) (λ next. TakesEdit old line next ⊎ TakesLater old line next) new
    (λ later. inr later)
    (λ form. elim form [ inl edit ↦ absurd (none edit.0 edit.1 edit.2) | inr later ↦ later ])
    (λ next taken. inr taken)
    (λ next taken. elim taken [ inl t ↦ absurd (none t.edit t.fits t.text) | inr t ↦ t ])
