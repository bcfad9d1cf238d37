-- Numbers that are kept eight to an item.
use Rattle.std.proofs.Common.{◌≡◌, ℕ, ◌/◌, ◌%◌, if◌then◌else◌, Some, List, length, replicate, get_or, set, slice_get, slice_index, nat_eq, sym, ap, ◌∙◌, inl, inr, arith}
use Rattle.std.proofs.lemmas.Bool.{cases_eq, cond-false, cond-true, eq-eqb, ne_eqb}
use Rattle.std.proofs.lemmas.List.{get_or-set_other, get_or-set_same}
use Rattle.std.proofs.lemmas.Option.{get_or_from_slice_get, slice_get_within}
use Rattle.lv_summary.specs.Inner.{LateRowsState, lengthened, number_at}
use Rattle.lv_summary.proofs.LevelLaws.{get_or-lengthened, get_or_copies}

-- items that are added blank change no number
pub number_at-longer : (old new : LateRowsState (List ℕ)) (n : ℕ) → new.items ≡ lengthened old.items n old.blank → new.blank ≡ old.blank → (k : ℕ) → number_at new k ≡ number_at old k
number_at-longer old new n items blank k =
    ap (λ xs. get_or (get_or xs (k / 8) new.blank) (k % 8) 0) items
    ∙ ap (λ b. get_or (get_or (lengthened old.items n old.blank) (k / 8) b) (k % 8) 0) blank
    ∙ ap (λ eight. get_or eight (k % 8) 0) (get_or-lengthened old.items n old.blank (k / 8))

-- if all items are blank, all numbers are 0
pub number_at-none : (old new : LateRowsState (List ℕ)) (n : ℕ) → new.items ≡ replicate n old.blank → new.blank ≡ old.blank → ((k : ℕ) → slice_index old.blank k ≡ 0) → (k : ℕ) → number_at new k ≡ 0
number_at-none old new n items blank zeros k =
    ap (λ xs. get_or (get_or xs (k / 8) new.blank) (k % 8) 0) items
    ∙ ap (λ b. get_or (get_or (replicate n old.blank) (k / 8) b) (k % 8) 0) blank
    ∙ ap (λ eight. get_or eight (k % 8) 0) (get_or_copies n (k / 8) old.blank)
    ∙ zeros (k % 8)

-- a number that is put into its item is put among the numbers
pub number_at-set : (old new : LateRowsState (List ℕ)) (eight : List ℕ) (place x : ℕ) → slice_get old.items (place / 8) ≡ Some eight → length eight ≡ 8 → new.items ≡ set old.items (place / 8) (set eight (place % 8) x) → new.blank ≡ old.blank → (k : ℕ) → number_at new k ≡ (if nat_eq k place then x else number_at old k)
number_at-set old new eight place x was long items blank k =
    let put = set eight (place % 8) x in
    let there = slice_get_within old.items (place / 8) eight was in
    let before = sym (get_or_from_slice_get old.items (place / 8) eight old.blank was) in
    ap (λ xs. get_or (get_or xs (k / 8) new.blank) (k % 8) 0) items
    ∙ ap (λ b. get_or (get_or (set old.items (place / 8) put) (k / 8) b) (k % 8) 0) blank
    ∙ elim (cases_eq (k / 8) (place / 8)) [
      | inl near ↦
          ap (λ j. get_or (get_or (set old.items (place / 8) put) j old.blank) (k % 8) 0) near
          ∙ ap (λ xs. get_or xs (k % 8) 0) (get_or-set_same old.items (place / 8) put old.blank there)
          ∙ elim (cases_eq k place) [
            | inl same ↦
                ap (λ j. get_or put (j % 8) 0) same
                ∙ get_or-set_same eight (place % 8) x 0 (omega (arith, long))
                ∙ sym (cond-true _ _ _ (eq-eqb k place same))
            | inr other ↦
                get_or-set_other eight (place % 8) (k % 8) x 0 (λ alike. other (omega arith))
                ∙ ap (λ xs. get_or xs (k % 8) 0) before
                ∙ ap (λ j. get_or (get_or old.items j old.blank) (k % 8) 0) (sym near)
                ∙ sym (cond-false _ _ _ (ne_eqb k place other))
          ]
      | inr far ↦
          ap (λ xs. get_or xs (k % 8) 0) (get_or-set_other old.items (place / 8) (k / 8) put old.blank far)
          ∙ sym (cond-false _ _ _ (ne_eqb k place (λ same. far (ap (λ k. k / 8) same))))
    ]
