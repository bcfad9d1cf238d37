-- Edits that are made anew one after the other, and the vector that has them then.
use Rattle.std.proofs.Common.{◌≡◌, ◌⊎◌, ℕ, ◌+◌, ◌<◌, ◌≤◌, Some, None, Option, Result, Ok, Err, List, [], ◌∷◌, ◌++◌, length, drop, get_or, append_assoc, append-nil, if◌then◌else◌, refl, sym, ap, subst, ◌∙◌, inl, inr, arith}
use Rattle.std.specs.Prelude.{is_some}
use Rattle.std.proofs.lemmas.List.{drop_all, drop_more, length_push}
use Rattle.lv_geometry.specs.Bounds.{Bounds}
use Rattle.lv_geometry.specs.declared.refusals.Refusal.{Refusal}
use Rattle.lv_geometry.specs.declared.refusals.Refusal.TheVariants.{NoMemory}
use Rattle.lv_bodies.specs.declared.kinds.Kind.{Kind}
use Rattle.lv_bodies.specs.Automata.{table_of}
use Rattle.lv_bodies.specs.Plain.{program_table}
use Rattle.lv_edits.specs.declared.edit.Edit.{Edit}
use Rattle.lv_edits.specs.Batches.{verdict_of_edits, with_edits}
use Rattle.lv_edits.specs.History.{History, with_edit}
use Rattle.lv_edits.specs.Pushes.{first_refusal}
use Rattle.lv_edits.specs.Verdict.{Refuses, verdict_of}
use Rattle.livevec_c.specs.declared.objects.Object.{Object}
use Rattle.livevec_c.specs.declared.objects.Object.TheVariants.{Vector}
use Rattle.livevec_c.specs.declared.restores.Stopped.{Stopped}
use Rattle.livevec_c.specs.Lives.{IsNewObject}
use Rattle.lv_transcript.specs.declared.fronts.FrontVerdict.{FrontVerdict}
use Rattle.lv_transcript.specs.declared.fronts.FrontVerdict.TheVariants.{Front}
use Rattle.livevec_c.specs.declared.transcript_audits.Audited.{Audited}
use Rattle.livevec_c.specs.Restores.{PlacesRemade, Remakes, RemakesObject, RemakesTold, RestoresEdits, RestoresFront, begun, restored_by}
use Rattle.livevec_c.specs.Written.{accepted_before}

module _ (h : History) (es : List Edit) (i : ℕ) (d : Edit) (within : i < length es) where
  -- the edit that comes next, and those after it
  next : drop i es ≡ get_or es i d ∷ drop (i + 1) es
  next = drop_more es i d within

  pub left_next : verdict_of h.limits h.journal (get_or es i d) ≡ None → verdict_of_edits h (drop i es) ≡ verdict_of_edits (with_edit h (get_or es i d)) (drop (i + 1) es)
  left_next free = ap (verdict_of_edits h) next ∙ ap (λ v. first_refusal v (verdict_of_edits (with_edit h (get_or es i d)) (drop (i + 1) es))) free

  pub made_next : with_edits h (drop i es) ≡ with_edits (with_edit h (get_or es i d)) (drop (i + 1) es)
  made_next = ap (with_edits h) next

  pub count_next : verdict_of h.limits h.journal (get_or es i d) ≡ None
      → length (with_edit h (get_or es i d)).journal + accepted_before (with_edit h (get_or es i d)) (drop (i + 1) es) ≡ length h.journal + accepted_before h (drop i es)
  count_next free =
      let after = accepted_before (with_edit h (get_or es i d)) (drop (i + 1) es) in
      omega (arith, length_push h.journal (get_or es i d), ap (accepted_before h) next ∙ ap (λ v. if is_some v then 0 else after + 1) free)

  left_refused : (refusal : Refusal) → verdict_of h.limits h.journal (get_or es i d) ≡ Some refusal → verdict_of_edits h (drop i es) ≡ Some refusal
  left_refused refusal known = ap (verdict_of_edits h) next ∙ ap (λ v. first_refusal v (verdict_of_edits (with_edit h (get_or es i d)) (drop (i + 1) es))) known

  count_refused : (refusal : Refusal) → verdict_of h.limits h.journal (get_or es i d) ≡ Some refusal → accepted_before h (drop i es) ≡ 0
  count_refused refusal known =
      ap (accepted_before h) next ∙ ap (λ v. if is_some v then 0 else accepted_before (with_edit h (get_or es i d)) (drop (i + 1) es) + 1) known

  -- an edit that is refused stops them
  pub stopped_at : (start new : History) (refusal : Refusal) → verdict_of_edits h (drop i es) ≡ verdict_of_edits start es → length h.journal + accepted_before h (drop i es) ≡ length start.journal + accepted_before start es
      → Refuses h (get_or es i d) refusal new → Remakes es start new (Err refusal)
  stopped_at start new refusal left count refused =
      elim refused.verdict [
        | inl known ↦
            inr (sym left ∙ left_refused refusal known, omega (arith, count, count_refused refusal known, ap (λ (g : History). length g.journal) refused.same))
        | inr wants ↦ inl wants.1
      ]

-- all of them were made
pub made_all : (start h : History) (es : List Edit) (i : ℕ) → length es ≤ i → verdict_of_edits h (drop i es) ≡ verdict_of_edits start es → with_edits h (drop i es) ≡ with_edits start es
    → (verdict_of_edits start es ≡ None) × (h ≡ with_edits start es)
made_all start h es i past left made =
    let none = drop_all i es past in
    (sym left ∙ ap (verdict_of_edits h) none, sym (ap (with_edits h) none) ∙ made)

-- as many were made as the vector has edits then
pub told_at : (es : List Edit) (old new : History) (refusal : Refusal) (made : ℕ) → made ≡ length new.journal → Remakes es old new (Err refusal) → RemakesTold es old new (Err record { refusal = refusal; made = made })
told_at es old new refusal made is remakes =
    elim remakes [
      | inl wants ↦ inl wants
      | inr refused ↦ inr (refused.0, is ∙ refused.1)
    ]

-- edits are appended to a journal
with_edits-is : (h : History) (es : List Edit) → with_edits h es ≡ record h { journal = h.journal ++ es }
with_edits-is h [] = ap (λ (js : List Edit). record h { journal = js }) (sym (append-nil h.journal))
with_edits-is h (e ∷ es) = with_edits-is (with_edit h e) es ∙ ap (λ (js : List Edit). record h { journal = js }) (append_assoc h.journal (e ∷ []) es)

module _ (only : Option Kind) (limits : Bounds) (es : List Edit) (held : Object) (slot : Option Object) where
  -- a new vector with edits that were made anew
  pub restored_all : (r : Result (Unit {0}) Stopped) → IsNewObject only limits program_table held → PlacesRemade es held r slot → RestoresEdits only limits es r slot
  restored_all (Ok done) (state, is, new) (object, remakes, placed) =
      let (state', is', made) = subst (λ (o : Object). RemakesObject es (Ok done) o object) is remakes in
      let started = new.history in (
        ap (λ (h : History). verdict_of_edits h es) (sym started) ∙ made.edits.0,
        (
          object,
          placed,
          (
            state',
            is',
            record {
              table_is = ap (λ b. table_of b.automaton) made.refresh.body ∙ new.table_is;
              history = made.edits.1 ∙ ap (λ (h : History). with_edits h es) started ∙ with_edits-is (begun limits) es;
              within = made.within;
              unclaimed = λ n. made.refresh.claimed n ∙ new.unclaimed n;
              nothing_kept = λ n. made.refresh.kept n ∙ new.nothing_kept n;
            },
          ),
        ),
      )
  restored_all (Err stopped) (state, is, new) (object, remakes, placed) =
      let (state', is', made) = subst (λ (o : Object). RemakesObject es (Err stopped) o object) is remakes in
      let started = new.history in (
        placed,
        elim made.edits [
          | inl wants ↦ inl wants
          | inr refused ↦
              let many : stopped.made ≡ 0 + accepted_before (begun limits) es = refused.1 ∙ ap (λ (h : History). length h.journal + accepted_before h es) started in
              inr (ap (λ (h : History). verdict_of_edits h es) (sym started) ∙ refused.0, omega (arith, many))
        ],
      )

-- the answer is what became of the edits of a transcript's prefix
pub front_restored : (only : Option Kind) (limits : Bounds) (journal : List Edit) (verdict : FrontVerdict) (edits answers : ℕ) (answer : Audited) (r : Result (Unit {0}) Stopped) (slot : Option Object)
    → verdict ≡ Front edits answers → answer ≡ restored_by verdict r → RestoresEdits only limits journal r slot → RestoresFront only limits journal verdict answer slot
front_restored only limits journal verdict edits answers answer r slot is answered restores =
    subst (λ v. RestoresFront only limits journal v answer slot) (sym is) (r, answered ∙ ap (λ v. restored_by v r) is, restores)
