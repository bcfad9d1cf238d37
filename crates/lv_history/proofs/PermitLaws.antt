-- Which updates were added with a permit and with those that took its place.
use Rattle.std.proofs.Common.{◌≡◌, ◌≢◌, ℕ, List, [], ◌∷◌, ◌++◌, nat_eq, refl, sym, ap, ◌∙◌, subst, inl, inr, append-nil}
use Rattle.std.proofs.lemmas.Bool.{cases_Bool, eq-eqb, ne_eqb}
use Rattle.std.proofs.lemmas.List.Elements.{All-head, All-tail}
use mathlib.Core.List.{IsPrefix}
use Rattle.lv_edits.specs.declared.edit.Edit.{Edit}
use Rattle.lv_history.specs.declared.entries.Entry.{Entry}
use Rattle.lv_history.specs.Growing.{IsUnspent, edits_by, permit_after}

-- what is added after some entries is added with the permit after them
edits_by-append : (p : ℕ) (xs ys : List Entry) → edits_by p (xs ++ ys) ≡ edits_by p xs ++ edits_by (permit_after p xs) ys
edits_by-append p [] ys = refl
edits_by-append p (x ∷ xs) ys =
    elim (cases_Bool (nat_eq x.by p)) [
      | inl here ↦ rw here (ap (λ es. x.edit ∷ es) (edits_by-append x.next xs ys))
      | inr apart ↦ rw apart (edits_by-append p xs ys)
    ]

permit_after-append : (p : ℕ) (xs ys : List Entry) → permit_after p (xs ++ ys) ≡ permit_after (permit_after p xs) ys
permit_after-append p [] ys = refl
permit_after-append p (x ∷ xs) ys =
    elim (cases_Bool (nat_eq x.by p)) [
      | inl here ↦ rw here (permit_after-append x.next xs ys)
      | inr apart ↦ rw apart (permit_after-append p xs ys)
    ]

-- nothing was added with a permit that isn't spent
pub unspent_adds_nothing : (p : ℕ) (xs : List Entry) → IsUnspent p xs → (edits_by p xs ≡ []) × (permit_after p xs ≡ p)
unspent_adds_nothing p [] free = (refl, refl)
unspent_adds_nothing p (x ∷ xs) free =
    let apart = ne_eqb x.by p (All-head (λ entry. entry.by ≢ p) x xs free) in
    rw apart (unspent_adds_nothing p xs (All-tail (λ entry. entry.by ≢ p) x xs free))

unspent_rest : (p : ℕ) (xs ys : List Entry) → IsUnspent p (xs ++ ys) → IsUnspent p ys
unspent_rest p [] ys free = free
unspent_rest p (x ∷ xs) ys free = unspent_rest p xs ys (All-tail (λ entry. entry.by ≢ p) x (xs ++ ys) free)

-- an entry with the history's permit is the next update
added_by : (p : ℕ) (entry : Entry) → entry.by ≡ p → (edits_by p (entry ∷ []) ≡ entry.edit ∷ []) × (permit_after p (entry ∷ []) ≡ entry.next)
added_by p entry is = rw (eq-eqb entry.by p is) (refl, refl)

-- a prefix of a book has a prefix of each history
pub begins_so : (p : ℕ) (xs ys : List Entry) → IsPrefix xs ys → IsPrefix (edits_by p xs) (edits_by p ys)
begins_so p xs ys pre = (edits_by (permit_after p xs) pre.0, sym (edits_by-append p xs pre.0) ∙ ap (edits_by p) pre.1)

-- while the permit after some entries isn't spent, the history has the updates that it had
pub record IsStill (p : ℕ) (xs ys : List Entry) : Type 0 where
  pub edits : edits_by p ys ≡ edits_by p xs
  pub permit : permit_after p ys ≡ permit_after p xs

pub still_unspent : (p : ℕ) (xs ys : List Entry) → IsPrefix xs ys → IsUnspent (permit_after p xs) ys → IsStill p xs ys
still_unspent p xs ys pre free =
    let nothing = unspent_adds_nothing (permit_after p xs) pre.0 (unspent_rest (permit_after p xs) xs pre.0 (subst (IsUnspent (permit_after p xs)) (sym pre.1) free)) in
    record {
      edits = ap (edits_by p) (sym pre.1) ∙ edits_by-append p xs pre.0 ∙ ap (λ es. edits_by p xs ++ es) nothing.0 ∙ append-nil (edits_by p xs);
      permit = ap (permit_after p) (sym pre.1) ∙ permit_after-append p xs pre.0 ∙ nothing.1;
    }

-- an entry with that permit adds one update
pub record HasAdded (p : ℕ) (xs ys : List Entry) (edit : Edit) (next : ℕ) : Type 0 where
  pub edits : edits_by p ys ≡ edits_by p xs ++ edit ∷ []
  pub permit : permit_after p ys ≡ next

pub adds_one : (p q : ℕ) (xs before ys : List Entry) (edit : Edit) (next : ℕ) → q ≡ permit_after p xs → IsPrefix xs before → IsUnspent q before → ys ≡ before ++ record { by = q; next = next; edit = edit } ∷ [] → HasAdded p xs ys edit next
adds_one p q xs before ys edit next at pre free is =
    let entry : Entry = record { by = q; next = next; edit = edit } in
    let still = still_unspent p xs before pre (subst (λ q. IsUnspent q before) at free) in
    let added = added_by (permit_after p before) entry (at ∙ sym still.permit) in
    record {
      edits = ap (edits_by p) is ∙ edits_by-append p before (entry ∷ []) ∙ ap (λ es. edits_by p before ++ es) added.0 ∙ ap (λ es. es ++ edit ∷ []) still.edits;
      permit = ap (permit_after p) is ∙ permit_after-append p before (entry ∷ []) ∙ added.1;
    }
