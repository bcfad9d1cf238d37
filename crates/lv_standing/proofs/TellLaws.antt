-- Queries brought up to an edit, one after another.
use Rattle.std.proofs.Common.{◌≡◌, ℕ, suc, ◌+◌, ◌<◌, ◌≤◌, true, false, cond, get_or, set, take, drop, map, append_assoc, length-append, length-drop, List, [], ◌∷◌, ◌++◌, length, refl, ap, ap₂, sym, subst, ◌∙◌, inl, inr, arith}
use Rattle.std.proofs.Math.Seq.{drop-cons, get_or-append_seam, set-append_seam, take-append_seam}
use Rattle.std.proofs.lemmas.Bool.{cases_Bool}
use Rattle.std.proofs.lemmas.List.{append-nil, drop_all, take_all, get_or-map, get_or-take, length-map, length-take-le, map-append, set-get_or, take_more}
use Rattle.lv_bodies.specs.declared.kinds.Shown.{Shown}
use Rattle.lv_bodies.specs.Plain.{plain_value}
use Rattle.lv_edits.specs.declared.edit.Edit.{Edit}
use Rattle.lv_tree.specs.KindSummaries.{summary_of}
use Rattle.lv_standing.specs.declared.changes.Changed.{Changed}
use Rattle.lv_standing.specs.declared.notes.Note.{Note}
use Rattle.lv_standing.specs.declared.queries.Query.{Query}
use Rattle.lv_standing.specs.Inner.{AddsNotesUpTo, SameElsewhere, asked, has_changed, up_to}
use Rattle.lv_standing.specs.Queries.{AddsNotesOf, AreNotes, AreNotesOf, is_due, terms_of, watch_answer}
use Rattle.lv_standing.specs.Standings.{summary_at}
use Rattle.lv_standing.proofs.QueryLaws.{never_due}
use Rattle.lv_standing.proofs.QuerySetLaws.{next_due}

-- ---- the query at a place

module _ {A : Type 0} (now before : Query → A) (qs : List Query) (i : ℕ) (q : Query) (inside : i < length qs) (at : q ≡ get_or qs i q) where
  -- what there is so far: that before the place, there, and behind it
  parts : up_to now before i qs ≡ map now (take i qs) ++ before q ∷ map before (drop (suc i) qs)
  parts = ap (λ ys. map now (take i qs) ++ map before ys) (drop-cons qs i q inside ∙ ap (λ x. x ∷ drop (suc i) qs) (sym at))

  front : length (map now (take i qs)) ≡ i
  front = length-map (take i qs) now ∙ length-take-le i qs (omega arith)

  -- there it is as before
  pub as_before : (d : A) → get_or (up_to now before i qs) i d ≡ before q
  as_before d =
      ap (λ xs. get_or xs i d) parts
      ∙ ap (λ n. get_or (map now (take i qs) ++ before q ∷ map before (drop (suc i) qs)) n d) (sym front)
      ∙ get_or-append_seam (map now (take i qs)) (before q) (map before (drop (suc i) qs)) d

  -- once it is brought up one more is
  pub brought_up : set (up_to now before i qs) i (now q) ≡ up_to now before (i + 1) qs
  brought_up =
      let rest = map before (drop (suc i) qs) in
      let next : suc i ≡ i + 1 = omega arith in
      ap (λ xs. set xs i (now q)) parts
      ∙ ap (λ n. set (map now (take i qs) ++ before q ∷ rest) n (now q)) (sym front)
      ∙ set-append_seam (map now (take i qs)) (before q) rest (now q)
      ∙ sym (append_assoc (map now (take i qs)) (now q ∷ []) rest)
      ∙ ap (λ xs. xs ++ rest) (sym (ap (map now) (take_more qs i q inside ∙ ap (λ x. take i qs ++ x ∷ []) (sym at)) ∙ map-append now (take i qs) (q ∷ [])))
      ∙ ap (λ n. map now (take (i + 1) qs) ++ map before (drop n qs)) next

  -- nothing changes at the place if the two functions agree there
  pub left_alone : now q ≡ before q → up_to now before i qs ≡ up_to now before (i + 1) qs
  left_alone same = sym (set-get_or (up_to now before i qs) i (now q)) ∙ ap (set (up_to now before i qs) i) (as_before (now q) ∙ sym same) ∙ brought_up

-- what a function gives for the queries before the place
pub told_front : {A : Type 0} (now before : Query → A) (qs : List Query) (i : ℕ) → i ≤ length qs → take i (up_to now before i qs) ≡ map now (take i qs)
told_front now before qs i inside =
    ap (λ n. take n (up_to now before i qs)) (sym (length-map (take i qs) now ∙ length-take-le i qs inside)) ∙ take-append_seam (map now (take i qs)) (map before (drop i qs))

-- once all are brought up
pub all_up_to : {A : Type 0} (now before : Query → A) (qs : List Query) (i : ℕ) → length qs ≤ i → up_to now before i qs ≡ map now qs
all_up_to now before qs i end = ap₂ (λ front rest. map now front ++ map before rest) (take_all i qs end) (drop_all i qs end) ∙ append-nil (map now qs)

-- if a prefix of a list has the values of a function at the queries, each of its elements is the value at its query
pub at_front : {A : Type 0} (f : Query → A) (qs : List Query) (xs : List A) (i j : ℕ) (q : Query) (d : A) → take i xs ≡ map f (take i qs) → j < i → i ≤ length qs → get_or xs j d ≡ f (get_or qs j q)
at_front f qs xs i j q d is before inside =
    sym (get_or-take i xs j d before)
    ∙ ap (λ ys. get_or ys j d) is
    ∙ get_or-map f (take i qs) j q d (omega (arith, before, length-take-le i qs inside))
    ∙ ap f (get_or-take i qs j q before)

-- there is as much of it as there are queries
pub as_many : {A : Type 0} (now before : Query → A) (qs : List Query) (i : ℕ) → i ≤ length qs → length (up_to now before i qs) ≡ length qs
as_many now before qs i inside =
    omega (arith, length-append (map now (take i qs)) (map before (drop i qs)), length-map (take i qs) now, length-map (drop i qs) before, length-take-le i qs inside, length-drop i qs)

-- those that are asked from a place on
module _ (changed : Changed) (qs : List Query) (i : ℕ) (q : Query) (inside : i < length qs) (at : q ≡ get_or qs i q) where
  asked_from : length (asked changed (drop i qs)) ≡ length (asked changed (q ∷ drop (i + 1) qs))
  asked_from =
      let next : suc i ≡ i + 1 = omega arith in
      ap (λ ys. length (asked changed ys)) (drop-cons qs i q inside ∙ ap (λ x. x ∷ drop (suc i) qs) (sym at) ∙ ap (λ n. q ∷ drop n qs) next)

  pub one_asked : has_changed q.span changed ≡ true → length (asked changed (drop i qs)) ≡ length (asked changed (drop (i + 1) qs)) + 1
  one_asked is = omega (arith, asked_from, ap (λ b. length (cond b (q ∷ asked changed (drop (i + 1) qs)) (asked changed (drop (i + 1) qs)))) is)

  pub none_asked : has_changed q.span changed ≡ false → length (asked changed (drop i qs)) ≡ length (asked changed (drop (i + 1) qs))
  none_asked other = asked_from ∙ ap (λ b. length (cond b (q ∷ asked changed (drop (i + 1) qs)) (asked changed (drop (i + 1) qs)))) other

-- ---- notes

-- if all answers stay, no note is due
pub none_due : (qs : List Query) (answers : List Shown) → AreNotesOf qs answers answers []
none_due [] answers = refl
none_due (q ∷ qs) [] = refl
none_due (q ∷ qs) (v ∷ answers) = inl (never_due q.bound v, none_due qs answers)

module _ (old new : List Edit) (qs : List Query) (i : ℕ) (q : Query) (inside : i < length qs) (at : q ≡ get_or qs i q) where
  answer_at : (f : Query → Shown) → f q ≡ get_or (map f qs) i (f q)
  answer_at f = ap f at ∙ sym (get_or-map f qs i q (f q) inside)

  -- the notes so far, and that of the query at the place
  pub noted : (notes more : List Note) → AddsNotesOf (q ∷ []) (watch_answer old q ∷ []) (watch_answer new q ∷ []) notes more → (first : List Note) → AddsNotesUpTo old new i qs first notes → AddsNotesUpTo old new (i + 1) qs first more
  noted notes more one first so_far =
      next_due terms_of
      q (watch_answer old q) (watch_answer new q) qs (map (watch_answer old) qs) (map (watch_answer new) qs) first notes more i one (length-map qs (watch_answer old)) (length-map qs (watch_answer new)) inside at
      (answer_at (watch_answer old)) (answer_at (watch_answer new)) so_far

  -- an answer that stays isn't noted
  pub not_noted : (notes : List Note) → watch_answer new q ≡ watch_answer old q → (first : List Note) → AddsNotesUpTo old new i qs first notes → AddsNotesUpTo old new (i + 1) qs first notes
  not_noted notes same =
      noted notes notes
      record {
        added = [];
        are = inl (subst (λ v. is_due q.bound (watch_answer old q) v ≡ false) (sym same) (never_due q.bound (watch_answer old q)), refl);
        all = sym (append-nil notes);
      }

-- once all are noted
pub all_noted : (old new : List Edit) (qs : List Query) (i : ℕ) → length qs ≤ i → (first notes : List Note) (before now : List Shown) → before ≡ map (watch_answer old) qs → now ≡ map (watch_answer new) qs
    → AddsNotesUpTo old new i qs first notes → AddsNotesOf qs before now first notes
all_noted old new qs i end first notes before now before_is now_is so_far =
    let olds : take i (map (watch_answer old) qs) ≡ before = take_all i (map (watch_answer old) qs) (omega (arith, end, length-map qs (watch_answer old))) ∙ sym before_is in
    let news : take i (map (watch_answer new) qs) ≡ now = take_all i (map (watch_answer new) qs) (omega (arith, end, length-map qs (watch_answer new))) ∙ sym now_is in
    subst (λ qs. AddsNotesOf qs before now first notes) (take_all i qs end)
    (subst (λ vs. AddsNotesOf (take i qs) vs now first notes) olds (subst (λ vs. AddsNotesOf (take i qs) (take i (map (watch_answer old) qs)) vs first notes) news so_far))

-- ---- an edit after which no query has to be asked

module _ (old new : List Edit) (changed : Changed) (elsewhere : SameElsewhere changed old new) where
  -- the answer of a query without a changed element stays
  pub answer_stays : (q : Query) → has_changed q.span changed ≡ false → watch_answer new q ≡ watch_answer old q
  answer_stays q other = ap (plain_value q.kind) (elsewhere q.span other)

  pub summary_stays : (q : Query) → has_changed q.span changed ≡ false → summary_at new q ≡ summary_at old q
  summary_stays q other = ap (summary_of q.kind) (elsewhere q.span other)

  pub all_stay : {A : Type 0} (now before : Query → A) → ((q : Query) → has_changed q.span changed ≡ false → now q ≡ before q) → (qs : List Query) → length (asked changed qs) ≡ 0 → map now qs ≡ map before qs
  all_stay now before stays [] none = refl
  all_stay now before stays (q ∷ qs) none =
      elim (cases_Bool (has_changed q.span changed)) [
        | inl is ↦ absurd (omega (arith, sym none ∙ ap (λ b. length (cond b (q ∷ asked changed qs) (asked changed qs))) is))
        | inr other ↦
            let rest : length (asked changed qs) ≡ 0 = sym (ap (λ b. length (cond b (q ∷ asked changed qs) (asked changed qs))) other) ∙ none in
            ap (λ x. x ∷ map now qs) (stays q other) ∙ ap (λ xs. before q ∷ xs) (all_stay now before stays qs rest)
      ]

  pub nothing_told : (qs : List Query) → length (asked changed qs) ≡ 0 → AreNotes old new qs []
  nothing_told qs none =
      subst (λ answers. AreNotesOf qs (map (watch_answer old) qs) answers []) (sym (all_stay (watch_answer new) (watch_answer old) answer_stays qs none)) (none_due qs (map (watch_answer old) qs))
