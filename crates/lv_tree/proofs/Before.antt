-- Leaves before a summary.
use Rattle.std.proofs.Common.{◌≡◌, ℕ, ◌-◌, ◌≤◌, List, ◌++◌, length, take, drop, sym, ap, ◌∙◌, subst, arith}
use Rattle.std.proofs.lemmas.List.{append_assoc, length-drop, length-map, length-take, take_all}
use Rattle.std.proofs.lemmas.List.Concat.{flat_map-append}
use Rattle.lv_bodies.specs.Body.{Operations, fold_of}
use Rattle.lv_bodies.specs.Long.{CanFoldLong, CanJoinLong, LongLaws}
use Rattle.lv_bodies.specs.LongLaws.{fold_of-append_long, fold_of-within_long}
use Rattle.lv_tree.specs.Folds.{AreFoldsOf, end_to_end}
use Rattle.lv_tree.specs.Parts.{AreBefore, joined_on, part_of, run_of}
use Rattle.lv_tree.proofs.Glue.{Meet}
use Rattle.lv_tree.proofs.InOrder.{can_left, can_right, end_to_end-cut, folds_join, run_joined}
use Rattle.lv_tree.proofs.Runs.{run_cut, run_inside}

module _ {S : Type 0} (o : Operations S) (within : S → ℕ → Type 0) (laws : LongLaws o within) (cells : List S) (start : S) (from to : ℕ) where
  -- with no leaves before it, it is itself
  pub before_none : AreBefore o (run_of cells from (to - from)) start → o.join (part_of o cells to to) start ≡ start
  before_none h =
      let none : to - to ≡ 0 = omega arith in
      let can = can_right (end_to_end h.lists) h.back h.can in
      let inside : within start (length h.back) = subst (λ s. within s (length h.back)) (sym h.back_is) (fold_of-within_long o within laws h.back can) in
      ap (λ k. o.join (joined_on o o.identity (run_of cells to k)) start) none ∙ laws.left_identity start (length h.back) inside can.few

  module _ (inside : to ≤ length cells) (h : AreBefore o (run_of cells from (to - from)) start) where
    -- a part of the leaves is the fold of its lists
    part_fold : (a b : ℕ) → from ≤ a → b ≤ to → part_of o cells a b ≡ fold_of o (end_to_end (run_of h.lists (a - from) (b - a)))
    part_fold a b low high =
        let folds : AreFoldsOf o h.lists (run_of cells from (to - from)) = record { sums_are = h.sums_are; can = can_left (end_to_end h.lists) h.back h.can } in
        ap (joined_on o o.identity) (sym (run_inside cells from to a b low high)) ∙ run_joined o within laws (run_of cells from (to - from)) h.lists folds (a - from) (b - a)

    -- the leaves before a place and those from there on, with what is behind
    pub before_meets : (a b : ℕ) → from ≤ a → a ≤ b → b ≤ to → Meet o within (part_of o cells a b) (o.join (part_of o cells b to) start) (o.join (part_of o cells a to) start)
    before_meets a b low order high =
        let L = h.lists in
        let size : length L ≡ to - from = omega (arith, sym (length-map L (fold_of o)), ap length h.sums_are, length-take (to - from) (drop from cells), length-drop from cells, inside, low, order, high) in
        let xs = end_to_end (run_of L (a - from) (b - a)) in
        let ys = end_to_end (run_of L (b - from) (to - b)) in
        let zs = end_to_end (run_of L (a - from) (to - a)) in
        let width_b : (b - from) - (a - from) ≡ b - a = omega (arith, low, order) in
        let width_to : (to - from) - (b - from) ≡ to - b = omega (arith, low, order, high) in
        let width_all : (to - from) - (a - from) ≡ to - a = omega (arith, low, order, high) in
        let cut : run_of L (a - from) (to - a) ≡ run_of L (a - from) (b - a) ++ run_of L (b - from) (to - b) =
        ap (run_of L (a - from)) (sym width_all)
        ∙ run_cut L (a - from) (b - from) (to - from) (omega (arith, order)) (omega (arith, high))
        ∙ ap (λ k. run_of L (a - from) k ++ run_of L (b - from) ((to - from) - (b - from))) width_b
        ∙ ap (λ k. run_of L (a - from) (b - a) ++ run_of L (b - from) k) width_to in
        let both : zs ≡ xs ++ ys = ap end_to_end cut ∙ flat_map-append (λ l. l) (run_of L (a - from) (b - a)) (run_of L (b - from) (to - b)) in
        let last : run_of L (a - from) (to - a) ≡ drop (a - from) L = take_all (to - a) (drop (a - from) L) (omega (arith, length-drop (a - from) L, size, width_all)) in
        let tail : end_to_end L ≡ end_to_end (take (a - from) L) ++ zs = end_to_end-cut (a - from) L ∙ ap (λ l. end_to_end (take (a - from) L) ++ end_to_end l) (sym last) in
        let seam : end_to_end L ++ h.back ≡ end_to_end (take (a - from) L) ++ zs ++ h.back = ap (λ l. l ++ h.back) tail in
        let all : CanFoldLong (zs ++ h.back) = can_right (end_to_end (take (a - from) L)) (zs ++ h.back) (subst CanFoldLong (seam ∙ append_assoc (end_to_end (take (a - from) L)) zs h.back) h.can) in
        let regroup : zs ++ h.back ≡ xs ++ (ys ++ h.back) = ap (λ l. l ++ h.back) both ∙ append_assoc xs ys h.back in
        let three : CanFoldLong (xs ++ (ys ++ h.back)) = subst CanFoldLong regroup all in
        let two : CanFoldLong (ys ++ h.back) = can_right xs (ys ++ h.back) three in
        let first : part_of o cells a b ≡ fold_of o xs = part_fold a b low (omega (arith, high)) in
        let second : o.join (part_of o cells b to) start ≡ fold_of o (ys ++ h.back) =
        ap (λ s. o.join s start) (part_fold b to (omega (arith, low, order)) (omega arith)) ∙ ap (o.join (fold_of o ys)) h.back_is ∙ sym (fold_of-append_long o within laws ys h.back two) in
        let whole : o.join (part_of o cells a to) start ≡ fold_of o (zs ++ h.back) =
        ap (λ s. o.join s start) (part_fold a to low (omega arith)) ∙ ap (o.join (fold_of o zs)) h.back_is ∙ sym (fold_of-append_long o within laws zs h.back all) in
        record {
          may = subst (λ s. CanJoinLong within s (o.join (part_of o cells b to) start)) (sym first) (subst (CanJoinLong within (fold_of o xs)) (sym second) (folds_join o within laws xs (ys ++ h.back) three));
          is = ap (λ s. o.join s (o.join (part_of o cells b to) start)) first ∙ ap (o.join (fold_of o xs)) second ∙ sym (fold_of-append_long o within laws xs (ys ++ h.back) three) ∙ ap (fold_of o) (sym regroup) ∙ sym whole;
        }
