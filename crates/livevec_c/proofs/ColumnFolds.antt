-- The cells of a scan that goes one element further, and that all of them are plain values.
use Rattle.std.proofs.Common.{◌≡◌, ℕ, ℤ, ◌+◌, ◌-◌, ◌<◌, ◌++◌, ◌∷◌, [], Bool, true, false, List, length, map, take, pos, if◌then◌else◌, slice_index_or, slice_range, refl, sym, ap, ◌∙◌, arith}
use Rattle.std.specs.List.{range_with_len}
use Rattle.std.proofs.lemmas.List.{take_more}
use Rattle.lv_bodies.specs.Body.{Operations, fold_of}
use Rattle.lv_bodies.specs.ElementLaws.{All-range, map-map, map_alike}
use Rattle.lv_reduce.specs.Answer.{scan_of}
use Rattle.lv_reduce.specs.Running.{reached, scan_from}
use Rattle.lv_reduce.proofs.PieceLaws.{slice_scanned_from}
use Rattle.livevec_c.specs.Cells.{column_of}

-- a range from the start that ends one element later
front_more : (xs : List ℤ) (k : ℕ) (x : ℤ) → k < length xs → x ≡ slice_index_or xs k (pos 0) → slice_range xs 0 (k + 1) ≡ slice_range xs 0 k ++ x ∷ []
front_more xs k x small at =
    let longer : k + 1 - 0 ≡ k + 1 = omega arith in
    let same : k ≡ k - 0 = omega arith in
    ap (λ n. take n xs) longer ∙ take_more xs k (pos 0) small ∙ ap (λ y. take k xs ++ y ∷ []) (sym at) ∙ ap (λ n. take n xs ++ x ∷ []) same

-- a scan from a summary that goes one element further has at its end what it reaches with that element, or without it
pub scan_one_more : {S : Type 0} (o : Operations S) (inclusive : Bool) (before : S) (xs : List ℤ) (k : ℕ) (x : ℤ) → k < length xs → x ≡ slice_index_or xs k (pos 0) → (s r value : S) → s ≡ reached o before (slice_range xs 0 k) → r ≡ o.join s (o.lift x) → value ≡ (if inclusive then r else s) → (r ≡ reached o before (slice_range xs 0 (k + 1))) × (scan_from inclusive o before (slice_range xs 0 k) ++ value ∷ [] ≡ scan_from inclusive o before (slice_range xs 0 (k + 1)))
scan_one_more o inclusive before xs k x small at s r value so_far joined chosen =
    let front = scan_from inclusive o before (slice_range xs 0 k) in
    let is : value ≡ (if inclusive then o.join s (o.lift x) else s) = chosen ∙ ap (λ t. if inclusive then t else s) joined in
    slice_scanned_from o inclusive before xs 0 k (k + 1) (x ∷ []) (front_more xs k x small at) s r front (front ++ value ∷ []) so_far refl joined (ap (λ y. front ++ y ∷ []) is)

-- the summaries of a scan, as cells, are its column
pub cells_of-scan : {S C : Type 0} (o : Operations S) (cell_of : S → C) (cell : List ℤ → C) (inclusive : Bool) (xs : List ℤ) → ((ys : List ℤ) → cell_of (fold_of o ys) ≡ cell ys) → map cell_of (scan_of inclusive o xs) ≡ column_of cell inclusive xs
cells_of-scan o cell_of cell true xs plain =
    map-map (λ i. fold_of o (take (i + 1) xs)) cell_of (range_with_len 0 (length xs))
    ∙ map_alike (λ i. cell_of (fold_of o (take (i + 1) xs))) (λ i. cell (take (i + 1) xs)) (range_with_len 0 (length xs))
    (All-range _ (length xs) (λ i within. plain (take (i + 1) xs)))
cells_of-scan o cell_of cell false xs plain =
    map-map (λ i. fold_of o (take i xs)) cell_of (range_with_len 0 (length xs))
    ∙ map_alike (λ i. cell_of (fold_of o (take i xs))) (λ i. cell (take i xs)) (range_with_len 0 (length xs))
    (All-range _ (length xs) (λ i within. plain (take i xs)))
