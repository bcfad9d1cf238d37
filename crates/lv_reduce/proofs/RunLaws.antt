-- Folds and scans that go on from a summary.
use Rattle.std.proofs.Common.{◌≡◌, ℕ, zero, suc, ℤ, ◌+◌, ◌-◌, ◌*◌, ◌/◌, ◌%◌, ◌<◌, ◌≤◌, ⊎_elim, Bool, true, false, List, [], ◌∷◌, ◌++◌, length, take, drop, min, slice_range, slice_index_or, arith, if◌then◌else◌, refl, sym, ap, ◌∙◌, append_assoc, append-nil}
use Rattle.std.proofs.Math.Nat.{div-add-mod, le-mul_of_pos_right, mod-lt, mul_comm, suc-mul}
use Rattle.std.proofs.Math.Seq.{take-add}
use Rattle.std.proofs.lemmas.Bool.{cases_lt}
use Rattle.std.proofs.lemmas.List.{drop_all, length-drop, take_all, take_more}
use Rattle.std.proofs.lemmas.List.Sums.{fold-append, fold_push}
use Rattle.lv_bodies.specs.Body.{Operations, fold_of}
use Rattle.lv_reduce.specs.Answer.{scan_of}
use Rattle.lv_reduce.specs.Running.{reached, scan_from}
use Rattle.lv_reduce.proofs.ScanLaws.{exclusive_scan-push, inclusive_scan-push}

-- an index that a piece begins at is its number times the pieces' size
pub place_of : (start size : ℕ) → start % size ≡ 0 → start / size * size ≡ start
place_of start size begins =
    let whole = div-add-mod start size in
    let turned = mul_comm size (start / size) in
    omega (arith, whole, turned, begins)

-- what is cut into so many pieces has no more elements than these
pub pieces_cover : (len size count : ℕ) → 0 < size → count ≡ len / size + min 1 (len % size) → len ≤ count * size
pieces_cover len size count positive is =
    let whole = div-add-mod len size in
    let turned = mul_comm size (len / size) in
    let rest = mod-lt len positive in
    ⊎_elim
    (λ some.
    let more : count ≡ suc (len / size) = omega (arith, is, some) in
    omega (arith, whole, turned, rest, ap (λ n. n * size) more, suc-mul (len / size) size))
    (λ none.
    let same : count ≡ len / size = omega (arith, is, none) in
    omega (arith, whole, turned, none, ap (λ n. n * size) same))
    (cases_lt 0 (len % size))

-- a piece, cut by its ends
pub slice_of_piece : {A : Type 0} (xs : List A) (at size m : ℕ) → m ≡ min size (length xs - at) → slice_range xs at (at + m) ≡ take size (drop at xs)
slice_of_piece xs at size m is =
    let wide : at + m - at ≡ m = omega arith in
    ap (λ n. take n (drop at xs)) wide
    ∙ ⊎_elim
    (λ short. let all : m ≡ length xs - at = omega (arith, is, short) in take_all m (drop at xs) (omega (arith, all, length-drop at xs)) ∙ sym (take_all size (drop at xs) (omega (arith, short, length-drop at xs))))
    (λ long. let full : m ≡ size = omega (arith, is, long) in ap (λ n. take n (drop at xs)) full)
    (cases_lt (length xs - at) size)

-- nothing of nothing
take_nil : {A : Type 0} (n : ℕ) → take {A = A} n [] ≡ []
take_nil zero = refl
take_nil (suc n) = refl

module _ {S : Type 0} (o : Operations S) where
  -- with one element more a scan from a summary has at its end what it reaches with that element, or without it
  pub scan_from-push : (inclusive : Bool) (s : S) (xs : List ℤ) (x : ℤ) → scan_from inclusive o s (xs ++ x ∷ []) ≡ scan_from inclusive o s xs ++ (if inclusive then o.join (reached o s xs) (o.lift x) else reached o s xs) ∷ []
  scan_from-push inclusive s [] x = refl
  scan_from-push inclusive s (y ∷ xs) x =
      ap (λ ys. (if inclusive then o.join s (o.lift y) else s) ∷ ys) (scan_from-push inclusive (o.join s (o.lift y)) xs x)

  -- so has a scan from the identity
  pub scan_of-push : (inclusive : Bool) (xs : List ℤ) (x : ℤ) → scan_of inclusive o (xs ++ x ∷ []) ≡ scan_of inclusive o xs ++ (if inclusive then fold_of o (xs ++ x ∷ []) else fold_of o xs) ∷ []
  scan_of-push true xs x = inclusive_scan-push o xs x
  scan_of-push false xs x = exclusive_scan-push o xs x

  -- the scan of two lists side by side is that of the first, and that of the second from the first's fold
  pub scan_of-append : (inclusive : Bool) (xs ys : List ℤ) → scan_of inclusive o (xs ++ ys) ≡ scan_of inclusive o xs ++ scan_from inclusive o (fold_of o xs) ys
  scan_of-append inclusive xs [] = ap (scan_of inclusive o) (append-nil xs) ∙ sym (append-nil (scan_of inclusive o xs))
  scan_of-append inclusive xs (y ∷ ys) =
      let longer = xs ++ y ∷ [] in
      let value = if inclusive then fold_of o longer else fold_of o xs in
      let rest = scan_from inclusive o (fold_of o longer) ys in
      let joined = fold_push (λ s x. o.join s (o.lift x)) o.identity xs y in
      ap (scan_of inclusive o) (sym (append_assoc xs (y ∷ []) ys))
      ∙ scan_of-append inclusive longer ys
      ∙ ap (λ zs. zs ++ rest) (scan_of-push inclusive xs y)
      ∙ append_assoc (scan_of inclusive o xs) (value ∷ []) rest
      ∙ ap (λ s. scan_of inclusive o xs ++ (if inclusive then s else fold_of o xs) ∷ scan_from inclusive o s ys) joined

  -- the scan of a list is one from the identity
  pub scan_of_whole : (inclusive : Bool) (xs : List ℤ) → scan_from inclusive o o.identity xs ≡ scan_of inclusive o xs
  scan_of_whole true xs = sym (scan_of-append true [] xs)
  scan_of_whole false xs = sym (scan_of-append false [] xs)

  -- a fold that goes one element further
  pub reached-more : (s : S) (xs : List ℤ) (k : ℕ) (x d : ℤ) → k < length xs → x ≡ slice_index_or xs k d → (sum next : S) → sum ≡ reached o s (take k xs) → next ≡ o.join sum (o.lift x) → next ≡ reached o s (take (k + 1) xs)
  reached-more s xs k x d small at sum next before joined =
      let front = take k xs in
      let more : take (k + 1) xs ≡ front ++ x ∷ [] = take_more xs k d small ∙ ap (λ y. front ++ y ∷ []) (sym at) in
      joined ∙ ap (λ t. o.join t (o.lift x)) before ∙ sym (fold_push (λ t y. o.join t (o.lift y)) s front x) ∙ ap (reached o s) (sym more)

  -- if a scan from a summary goes one element further, the sum goes on and the value is put at its end
  pub scan_from-more : (inclusive : Bool) (s : S) (xs : List ℤ) (k : ℕ) (x d : ℤ) → k < length xs → x ≡ slice_index_or xs k d → (sum next value : S) (items longer : List S) → sum ≡ reached o s (take k xs) → next ≡ o.join sum (o.lift x) → value ≡ (if inclusive then next else sum) → items ≡ scan_from inclusive o s (take k xs) → longer ≡ items ++ value ∷ [] → (next ≡ reached o s (take (k + 1) xs)) × (longer ≡ scan_from inclusive o s (take (k + 1) xs))
  scan_from-more inclusive s xs k x d small at sum next value items longer before joined chosen scanned is =
      let front = take k xs in
      let more : take (k + 1) xs ≡ front ++ x ∷ [] = take_more xs k d small ∙ ap (λ y. front ++ y ∷ []) (sym at) in
      let after : next ≡ o.join (reached o s front) (o.lift x) = joined ∙ ap (λ t. o.join t (o.lift x)) before in
      let picked : value ≡ (if inclusive then o.join (reached o s front) (o.lift x) else reached o s front) = chosen ∙ ap (λ t. if inclusive then t else sum) after ∙ ap (λ t. if inclusive then o.join (reached o s front) (o.lift x) else t) before in (
        after ∙ sym (fold_push (λ t y. o.join t (o.lift y)) s front x) ∙ ap (reached o s) (sym more),
        is
            ∙ ap (λ ys. ys ++ value ∷ []) scanned
            ∙ ap (λ t. scan_from inclusive o s front ++ t ∷ []) picked
            ∙ sym (scan_from-push inclusive s front x)
            ∙ ap (scan_from inclusive o s) (sym more),
      )

  -- a fold over two lists goes on behind the first from its fold there
  pub reached-append : (s : S) (xs ys : List ℤ) → reached o s (xs ++ ys) ≡ reached o (reached o s xs) ys
  reached-append s xs ys = fold-append (λ t x. o.join t (o.lift x)) s xs ys

  -- a scan over two lists goes on behind the first from its fold there
  pub scan_from-append : (inclusive : Bool) (s : S) (xs ys : List ℤ) → scan_from inclusive o s (xs ++ ys) ≡ scan_from inclusive o s xs ++ scan_from inclusive o (reached o s xs) ys
  scan_from-append inclusive s [] ys = refl
  scan_from-append inclusive s (x ∷ xs) ys =
      ap (λ zs. (if inclusive then o.join s (o.lift x) else s) ∷ zs) (scan_from-append inclusive (o.join s (o.lift x)) xs ys)

  -- if each piece of a list of values is the scan of that piece of another list, continued from the fold before it, the first so many pieces are
  -- the scan of the first pieces
  front_pieces : (inclusive : Bool) (size : ℕ) (xs : List ℤ) (ys : List S) → length ys ≡ length xs → ((n : ℕ) → n * size < length xs → take size (drop (n * size) ys) ≡ scan_from inclusive o (fold_of o (take (n * size) xs)) (take size (drop (n * size) xs))) → (n : ℕ) → take (n * size) ys ≡ scan_of inclusive o (take (n * size) xs)
  front_pieces inclusive size xs ys same each zero =
      let none : zero * size ≡ 0 = omega arith in
      ap (λ k. take k ys) none ∙ scan_of_whole inclusive [] ∙ ap (λ k. scan_of inclusive o (take k xs)) (sym none)
  front_pieces inclusive size xs ys same each (suc n) =
      let next : suc n * size ≡ n * size + size = suc-mul n size ∙ omega arith in
      let piece : take size (drop (n * size) ys) ≡ scan_from inclusive o (fold_of o (take (n * size) xs)) (take size (drop (n * size) xs)) =
      ⊎_elim (each n)
      (λ past. ap (take size) (drop_all (n * size) ys (omega (arith, same))) ∙ take_nil size ∙ sym (ap (scan_from inclusive o (fold_of o (take (n * size) xs))) (ap (take size) (drop_all (n * size) xs past) ∙ take_nil size)))
      (cases_lt (n * size) (length xs)) in
      ap (λ k. take k ys) next
      ∙ take-add (n * size) size ys
      ∙ ap (λ zs. zs ++ take size (drop (n * size) ys)) (front_pieces inclusive size xs ys same each n)
      ∙ ap (λ zs. scan_of inclusive o (take (n * size) xs) ++ zs) piece
      ∙ sym (scan_of-append inclusive (take (n * size) xs) (take size (drop (n * size) xs)))
      ∙ ap (scan_of inclusive o) (sym (take-add (n * size) size xs))
      ∙ ap (λ k. scan_of inclusive o (take k xs)) (sym next)

  -- if each piece of a list of values is the scan of that piece of another list, continued from the fold before it, the whole is the scan of the
  -- whole
  pub scan_of-pieces : (inclusive : Bool) (size : ℕ) (xs : List ℤ) (ys : List S) → 0 < size → length ys ≡ length xs → ((n : ℕ) → n * size < length xs → take size (drop (n * size) ys) ≡ scan_from inclusive o (fold_of o (take (n * size) xs)) (take size (drop (n * size) xs))) → ys ≡ scan_of inclusive o xs
  scan_of-pieces inclusive size xs ys positive same each =
      let most : length xs ≤ length xs * size = le-mul_of_pos_right (length xs) positive in
      sym (take_all (length xs * size) ys (omega arith))
      ∙ front_pieces inclusive size xs ys same each (length xs)
      ∙ ap (scan_of inclusive o) (take_all (length xs * size) xs most)
