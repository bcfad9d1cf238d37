-- Why questions that come in turn are refused: for the reason of the first one that is refused.
use Rattle.std.proofs.Common.{◌≡◌, ℕ, ◌<◌, suc, zero, Option, Some, None, List, [], ◌∷◌, ◌++◌, length, map, take, get_or, refl, sym, ap, ◌∙◌, subst, arith, inl, inr, append-nil, append_assoc}
use Rattle.std.proofs.lemmas.List.{map-append}
use Rattle.lv_geometry.specs.declared.refusals.Refusal.{Refusal}
use Rattle.lv_edits.specs.Verdict.{IsRefusal}
use Rattle.lv_standing.specs.declared.queries.Query.{Query}
use Rattle.lv_hub.specs.Notes.{question_refusal}
use Rattle.lv_hub.specs.Asking.{IsRefusedFor, first_refusal, refusal_behind, refusal_of_all}

-- if there is no first refusal, it is the other one
none_first : (known other : Option Refusal) → known ≡ None → first_refusal known other ≡ other
none_first known other none = subst (λ known. first_refusal known other ≡ other) (sym none) refl

-- if there is neither, there is no first one
no_first : (known other : Option Refusal) → first_refusal known other ≡ None → (known ≡ None) × (other ≡ None)
no_first (Some r) other none = absurd (cc none)
no_first None other none = (refl, none)

some_first : (known other : Option Refusal) (refusal : Refusal) → known ≡ Some refusal → first_refusal known other ≡ Some refusal
some_first known other refusal some = subst (λ known. first_refusal known other ≡ Some refusal) (sym some) refl

-- questions that are fit, and others after them
pub behind_both : (before xs ys : List Query) → refusal_behind before xs ≡ None → refusal_behind before (xs ++ ys) ≡ refusal_behind (before ++ xs) ys
behind_both before [] ys fit = ap (λ b. refusal_behind b ys) (sym (append-nil before))
behind_both before (x ∷ xs) ys fit =
    let parts = no_first (question_refusal before x) (refusal_behind (before ++ x ∷ []) xs) fit in
    none_first (question_refusal before x) (refusal_behind (before ++ x ∷ []) (xs ++ ys)) parts.0
    ∙ behind_both (before ++ x ∷ []) xs ys parts.1
    ∙ ap (λ b. refusal_behind b ys) (append_assoc before (x ∷ []) xs)

-- one more question is fit
pub fit_more : (asked more : List Query) (q : Query) → refusal_behind [] asked ≡ None → question_refusal asked q ≡ None → more ≡ asked ++ q ∷ [] → refusal_behind [] more ≡ None
fit_more asked more q fit one pushed = ap (refusal_behind []) pushed ∙ behind_both [] asked (q ∷ []) fit ∙ none_first (question_refusal asked q) None one

-- a list is its elements before a place, the element at that place, and a rest
rest_from : {A : Type 0} (xs : List A) (i : ℕ) (d : A) → i < length xs → (rest : List A) × (xs ≡ take i xs ++ get_or xs i d ∷ rest)
rest_from [] i d within = absurd (omega (arith, within))
rest_from (x ∷ xs) zero d within = (xs, refl)
rest_from (x ∷ xs) (suc i) d within = let r = rest_from xs i d (omega (arith, within)) in (r.0, ap (λ ys. x ∷ ys) r.1)

-- a question is refused
pub refused_one : (questions asked : List Query) (i : ℕ) (d q : Query) (refusal : Refusal) → i < length questions → q ≡ get_or questions i d → asked ≡ take i questions → refusal_behind [] asked ≡ None
    → IsRefusal (question_refusal asked q) refusal → IsRefusedFor (refusal_behind [] questions) refusal
refused_one questions asked i d q refusal within is so_far fit refused =
    elim refused [
      | inl known ↦
          let r = rest_from questions i d within in
          let whole : questions ≡ asked ++ q ∷ r.0 = r.1 ∙ ap (λ q. take i questions ++ q ∷ r.0) (sym is) ∙ ap (λ xs. xs ++ q ∷ r.0) (sym so_far) in
          inl (ap (refusal_behind []) whole ∙ behind_both [] asked (q ∷ r.0) fit ∙ some_first (question_refusal asked q) _ refusal known)
      | inr memory ↦ inr memory.1
    ]

-- questions that are fit, and the others
pub all_both : (xs ys : List (List Query)) → refusal_of_all xs ≡ None → refusal_of_all (xs ++ ys) ≡ refusal_of_all ys
all_both [] ys fit = refl
all_both (x ∷ xs) ys fit =
    let parts = no_first (refusal_behind [] x) (refusal_of_all xs) fit in
    none_first (refusal_behind [] x) (refusal_of_all (xs ++ ys)) parts.0 ∙ all_both xs ys parts.1

-- the next question is fit
pub all_more : {W : Type 0} (asks : W → List Query) (some : List W) (one : W) → refusal_of_all (map asks some) ≡ None → refusal_behind [] (asks one) ≡ None → refusal_of_all (map asks (some ++ one ∷ [])) ≡ None
all_more asks some one fit next =
    ap refusal_of_all (map-append asks some (one ∷ [])) ∙ all_both (map asks some) (asks one ∷ []) fit ∙ none_first (refusal_behind [] (asks one)) None next

-- the next question is refused
pub all_refused : {W : Type 0} (asks : W → List Query) (all some : List W) (one : W) (refusal : Refusal) → (length some < length all) × (one ≡ get_or all (length some) one) → some ≡ take (length some) all
    → refusal_of_all (map asks some) ≡ None → IsRefusedFor (refusal_behind [] (asks one)) refusal → IsRefusedFor (refusal_of_all (map asks all)) refusal
all_refused asks all some one refusal turn so_far fit refused =
    elim refused [
      | inl known ↦
          let r = rest_from all (length some) one turn.0 in
          let whole : all ≡ some ++ one ∷ r.0 = r.1 ∙ ap (λ o. take (length some) all ++ o ∷ r.0) (sym turn.1) ∙ ap (λ xs. xs ++ one ∷ r.0) (sym so_far) in
          inl (ap (λ all. refusal_of_all (map asks all)) whole ∙ ap refusal_of_all (map-append asks some (one ∷ r.0)) ∙ all_both (map asks some) (asks one ∷ map asks r.0) fit ∙ some_first (refusal_behind [] (asks one)) _ refusal known)
      | inr memory ↦ inr memory
    ]
