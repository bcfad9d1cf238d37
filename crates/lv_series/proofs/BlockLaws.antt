-- A tree over the blocks of some elements, after these have changed.
use Rattle.std.proofs.Common.{◌≡◌, ℕ, ℤ, ◌+◌, ◌-◌, ◌*◌, ◌/◌, ◌%◌, ◌<◌, ◌≤◌, List, [], ◌∷◌, ◌++◌, length, take, drop, slice_set, refl, sym, ap, ◌∙◌, subst, arith, drop-drop}
use Rattle.std.proofs.lemmas.List.{drop-append-le, drop-set-add, drop-take, length-drop, length-take, length-set, length_push, set_past}
use Rattle.std.proofs.lemmas.List.Elements.{All-drop}
use Rattle.lv_geometry.specs.Elements.{IsElement}
use Rattle.lv_bodies.specs.Body.{Operations, fold_of}
use Rattle.lv_edits.proofs.Slices.{part_of_take}
use Rattle.lv_series.specs.Blocks.{CoversBlocks, CoversTo, IsWindow, Layered, TakesLeaf, TakesLeafAt, from_first}
use Rattle.lv_tree.specs.BlockLaws.{leaves_dropped, leaves_fewer, leaves_join, leaves_longer, leaves_more, leaves_set}
use Rattle.lv_tree.specs.Blocks.{AreLeaves, block_of}
use Rattle.lv_tree.specs.Folds.{AreFolds}
use Rattle.lv_tree.specs.Parts.{run_of}

-- leaves over blocks in memory may be joined
joined_over : {S : Type 0} (o : Operations S) (base first : ℕ) (xs : List ℤ) → IsWindow base first xs → (sums : List S) → AreLeaves o (from_first base first xs) sums → AreFolds o sums
joined_over o base first xs w sums h =
    let from = 8 * (first / 8 - base) in
    leaves_join o (from_first base first xs) sums h (All-drop IsElement from xs w.all) (omega (arith, length-drop from xs, w.few))

-- a tree over blocks up to one, and the fold of that one
module _ {B S : Type 0} (o : Operations S) (base first k : ℕ) (xs : List ℤ) (w : IsWindow base first xs) (t : Layered B S) (h : CoversTo o base first k xs t) (s : S) (inside : 8 * k + 8 ≤ length xs) (sum : s ≡ fold_of o (run_of xs (8 * k) 8)) where
  leaves_next : AreLeaves o (from_first base first xs) (t.sums ++ s ∷ [])
  leaves_next =
      let from = 8 * (first / 8 - base) in
      let place : from + length t.sums * 8 ≡ 8 * k = omega (arith, h.whole, h.start, w.low) in
      let here : run_of xs (8 * k) 8 ≡ block_of (length t.sums) (drop from xs) = ap (take 8) (sym (drop-drop (length t.sums * 8) from xs ∙ ap (λ n. drop n xs) place)) in
      leaves_more o (drop from xs) t.sums s (omega (arith, place, inside, length-drop from xs)) (sum ∙ ap (fold_of o) here) h.sums

  pub next_folds : AreFolds o (t.sums ++ s ∷ [])
  next_folds = joined_over o base first xs w (t.sums ++ s ∷ []) leaves_next

  pub covers_next : CoversTo o base first (k + 1) xs (record t { sums = t.sums ++ s ∷ [] })
  covers_next = record { start = h.start; whole = omega (arith, h.whole, length_push t.sums s); sums = leaves_next }

module _ {B S : Type 0} (o : Operations S) (base first : ℕ) (xs : List ℤ) (w : IsWindow base first xs) (t : Layered B S) (h : CoversBlocks o base first xs t) where
  -- where the first leaf's block begins
  abbrev start : ℕ
  start = 8 * (first / 8 - base)

  -- an element more
  module _ (ys : List ℤ) (v : IsWindow base first ys) (x : ℤ) (is : ys ≡ xs ++ x ∷ []) where
    more : length ys ≡ length xs + 1
    more = ap length is ∙ length_push xs x

    covers_longer : CoversTo o base first (length xs / 8) ys t
    covers_longer =
        let seam : drop start ys ≡ drop start xs ++ x ∷ [] = ap (drop start) is ∙ drop-append-le start xs (x ∷ []) (omega (arith, w.high, w.low)) in
        record {
          start = h.start;
          whole = h.whole;
          sums = subst (λ zs. AreLeaves o zs t.sums) (sym seam) (leaves_longer o (drop start xs) (x ∷ []) t.sums h.sums);
        }

    -- that makes no block whole
    pub covers_more : ¬ (length ys % 8 ≡ 0) → CoversBlocks o base first ys t
    covers_more apart = record { start = h.start; whole = omega (arith, h.whole, more, apart); sums = covers_longer.sums }

    -- or that makes one whole
    module _ (s : S) (full : length ys % 8 ≡ 0) (sum : s ≡ fold_of o (run_of ys (length ys - 8) 8)) where
      inside : 8 * (length xs / 8) + 8 ≤ length ys
      inside = omega (arith, more, full)

      here : s ≡ fold_of o (run_of ys (8 * (length xs / 8)) 8)
      here = sum ∙ ap (λ n. fold_of o (run_of ys n 8)) (omega (arith, more, full))

      pub takes_leaf : TakesLeaf o s t
      takes_leaf = record { folds = next_folds o base first (length xs / 8) ys v t covers_longer s inside here; numbered = omega (arith, h.whole, w.numbered) }

      pub covers_pushed : CoversBlocks o base first ys (record t { sums = t.sums ++ s ∷ [] })
      covers_pushed =
          let next = covers_next o base first (length xs / 8) ys v t covers_longer s inside here in
          record { start = h.start; whole = omega (arith, next.whole, more, full); sums = next.sums }

  -- another element in the place of one
  module _ (at : ℕ) (x : ℤ) (low : first ≤ 8 * base + at) where
    size : length (slice_set xs at x) ≡ length xs
    size = length-set xs at x

    seam : drop start (slice_set xs at x) ≡ slice_set (drop start xs) (at - start) x
    seam =
        let place : at ≡ start + (at - start) = omega (arith, low, w.low) in
        ap (λ k. drop start (slice_set xs k x)) place ∙ drop-set-add start xs (at - start) x

    sums_set : (s : S) → s ≡ fold_of o (block_of ((at - start) / 8) (drop start (slice_set xs at x))) → AreLeaves o (drop start (slice_set xs at x)) (slice_set t.sums ((at - start) / 8) s)
    sums_set s is = subst (λ zs. AreLeaves o zs (slice_set t.sums ((at - start) / 8) s)) (sym seam) (leaves_set o (drop start xs) t.sums (at - start) x s (is ∙ ap (λ zs. fold_of o (block_of ((at - start) / 8) zs)) seam) h.sums)

    -- behind the whole blocks
    pub covers_beside : length xs / 8 ≤ at / 8 → CoversBlocks o base first (slice_set xs at x) t
    covers_beside behind =
        let s = fold_of o (block_of ((at - start) / 8) (drop start (slice_set xs at x))) in
        let past : length t.sums ≤ (at - start) / 8 = omega (arith, h.whole, w.low, h.start, behind) in
        record {
          start = h.start;
          whole = h.whole ∙ ap (λ k. base + k / 8) (sym size);
          sums = subst (AreLeaves o (drop start (slice_set xs at x))) (set_past t.sums ((at - start) / 8) s past) (sums_set s refl);
        }

    -- or in one of them
    module _ (s : S) (in_block : at / 8 < length xs / 8) (sum : s ≡ fold_of o (run_of (slice_set xs at x) (8 * (at / 8)) 8)) where
      sums_written : AreLeaves o (drop start (slice_set xs at x)) (slice_set t.sums (base + at / 8 - t.first) s)
      sums_written =
          let ys = slice_set xs at x in
          let leaf : (at - start) / 8 ≡ base + at / 8 - t.first = omega (arith, low, h.start, w.low) in
          let far : 8 * (at / 8) ≡ start + (at - start) / 8 * 8 = omega (arith, low, w.low) in
          subst (λ k. AreLeaves o (drop start ys) (slice_set t.sums k s)) leaf
          (sums_set s (sum ∙ ap (λ zs. fold_of o (take 8 zs)) (ap (λ n. drop n ys) far ∙ sym (drop-drop ((at - start) / 8 * 8) start ys))))

      pub takes_leaf_at : IsWindow base first (slice_set xs at x) → TakesLeafAt o (base + at / 8) s t
      takes_leaf_at v = record {
        low = omega (arith, h.start, low);
        high = omega (arith, h.whole, in_block);
        folds = joined_over o base first (slice_set xs at x) v (slice_set t.sums (base + at / 8 - t.first) s) sums_written;
      }

      pub covers_written : CoversBlocks o base first (slice_set xs at x) (record t { sums = slice_set t.sums (base + at / 8 - t.first) s })
      covers_written =
          let same : length (slice_set t.sums (base + at / 8 - t.first) s) ≡ length t.sums = length-set t.sums (base + at / 8 - t.first) s in
          record { start = h.start; whole = ap (λ n. t.first + n) same ∙ h.whole ∙ ap (λ n. base + n / 8) (sym size); sums = sums_written }

  -- the first so many elements
  module _ (kept : ℕ) (low : first ≤ 8 * base + kept) (high : kept ≤ length xs) where
    pub covers_cut : CoversBlocks o base first (take kept xs) (record t { sums = take (base + kept / 8 - t.first) t.sums })
    covers_cut =
        let leaves = base + kept / 8 - t.first in
        let rest = drop start xs in
        let size : length (take kept xs) ≡ kept = omega (arith, length-take kept xs, high) in
        let long : length (take leaves t.sums) ≡ leaves = omega (arith, length-take leaves t.sums, h.whole, high) in
        let place : kept ≡ start + (kept - start) = omega (arith, low, w.low) in
        let seam : drop start (take kept xs) ≡ take (kept - start) rest = ap (λ k. drop start (take k xs)) place ∙ drop-take start (kept - start) xs in
        let fewer = leaves_fewer o rest t.sums leaves h.sums in
        record {
          start = h.start;
          whole = omega (arith, long, size, h.start, low);
          sums = record {
            within = omega (arith, long, size, place, h.start, low, w.low, length-drop start (take kept xs));
            sums_are = λ b inside.
                let fit : b * 8 + 8 ≤ kept - start = omega (arith, inside, long, h.start, low, w.low) in
                fewer.sums_are b inside ∙ ap (fold_of o) (sym (ap (block_of b) seam ∙ part_of_take rest (kept - start) (b * 8) 8 fit));
          };
        }

  -- without the elements that expire in front; whole blocks of these are removed
  module _ (to : ℕ) (low : first ≤ to) (high : to ≤ 8 * base + length xs) where
    pub covers_expired : (whole : ℕ) → 8 * whole ≤ to - 8 * base → CoversBlocks o (base + whole) to (drop (8 * whole) xs) (record t { first = to / 8; sums = drop (to / 8 - t.first) t.sums })
    covers_expired whole past =
        let m = to / 8 - t.first in
        let e = 8 * (to / 8 - (base + whole)) in
        let size : length (drop (8 * whole) xs) ≡ length xs - 8 * whole = length-drop (8 * whole) xs in
        let later : start + 8 * m ≡ 8 * whole + e = omega (arith, h.start, w.low, low, past) in
        let seam : drop (8 * m) (drop start xs) ≡ drop e (drop (8 * whole) xs) = drop-drop (8 * m) start xs ∙ ap (λ k. drop k xs) later ∙ sym (drop-drop e (8 * whole) xs) in
        record {
          start = refl;
          whole = omega (arith, length-drop m t.sums, size, h.whole, h.start, w.low, low, high, past);
          sums = subst (λ zs. AreLeaves o zs (drop m t.sums)) seam (leaves_dropped o (drop start xs) t.sums m (omega (arith, h.whole, high)) h.sums);
        }
