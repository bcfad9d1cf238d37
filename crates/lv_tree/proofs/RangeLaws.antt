-- What the leaves of the blocks in a range come to, and what they make with the elements at its ends.
use Rattle.std.proofs.Common.{◌≡◌, ℕ, ℤ, ◌+◌, ◌-◌, ◌*◌, ◌/◌, ◌^◌, ◌<◌, ◌≤◌, List, [], ◌++◌, length, map, drop, slice_index_or, slice_range, sym, ap, ◌∙◌, subst, arith, All, length-append, length-drop}
use Rattle.std.specs.Int.{div_ceil}
use Rattle.std.proofs.lemmas.List.{ext_get_or, get_or-map, length-map, length-take}
use Rattle.std.proofs.lemmas.List.Elements.{All-drop, All-take}
use Rattle.std.proofs.lemmas.List.Sums.{fold_push}
use Rattle.std.proofs.lemmas.Option.{slice_get_within}
use Rattle.lv_geometry.specs.Elements.{IsElement}
use Rattle.lv_bodies.specs.Body.{Operations, fold_of}
use Rattle.lv_bodies.specs.Long.{CanFoldLong, CanGrowLong, CanJoinLong, LongLaws}
use Rattle.lv_bodies.specs.LongLaws.{fold_of-append_long, fold_of-within_long}
use Rattle.lv_edits.specs.declared.edit.Edit.{Edit}
use Rattle.lv_edits.specs.History.{list_of}
use Rattle.lv_edits.proofs.Slices.{slice_range-more}
use Rattle.lv_tree.specs.BlockLaws.{blocks_of, blocks_of-at, blocks_of-length}
use Rattle.lv_tree.specs.SliceLaws.{range_cut}
use Rattle.lv_tree.specs.Blocks.{AreLeaves}
use Rattle.lv_tree.specs.Follows.{FollowsAll, FollowsBy, Stands}

-- every block is unchanged since the last edit
stands_now : (es : List Edit) (b : ℕ) → Stands es (length es) b
stands_now es b = record {
  spared = λ k e low is. absurd (omega (arith, low, slice_get_within es k e is));
  whole = λ k low high. absurd (omega (arith, low, high));
}

-- so the lists of leaves that follow the whole journal are the blocks
pub lists_now : {S : Type 0} (o : Operations S) (es : List Edit) (lists : List (List ℤ)) (sums : List S) (size : ℕ) → FollowsBy o es lists sums (length es) size → lists ≡ blocks_of (length sums) (list_of es)
lists_now o es lists sums size h =
    let n = length sums in
    let count : length lists ≡ n = sym (ap length h.sums_are ∙ length-map lists (fold_of o)) in
    ext_get_or [] lists (blocks_of n (list_of es)) (count ∙ sym (blocks_of-length n (list_of es))) (λ k inside.
    let few : k < n = omega (arith, inside, count) in
    h.right k few (stands_now es k) ∙ sym (blocks_of-at n k (list_of es) few))

-- and the leaves are the folds of the blocks
pub leaves_now : {S : Type 0} (o : Operations S) (es : List Edit) (sums : List S) → FollowsAll o es sums → sums ≡ map (fold_of o) (blocks_of (length sums) (list_of es))
leaves_now o es sums h = h.by_lists.sums_are ∙ ap (map (fold_of o)) (lists_now o es h.lists sums (length (list_of es)) h.by_lists)

-- which is what each of them says
pub are_leaves : {S : Type 0} (o : Operations S) (es : List Edit) (sums : List S) → FollowsAll o es sums → AreLeaves o (list_of es) sums
are_leaves o es sums h =
    let n = length sums in
    let blocks = blocks_of n (list_of es) in
    record {
      within = h.by_lists.within;
      sums_are = λ b inside.
          ap (λ l. slice_index_or l b o.identity) (leaves_now o es sums h)
          ∙ get_or-map (fold_of o) blocks b [] o.identity (omega (arith, inside, blocks_of-length n (list_of es)))
          ∙ ap (fold_of o) (blocks_of-at n b (list_of es) inside);
    }

-- elements that may be folded
pub can_fold : (xs : List ℤ) → All IsElement xs → length xs ≤ 2 ^ 61 → (a b : ℕ) → CanFoldLong (slice_range xs a b)
can_fold xs all few a b = record {
  few = omega (arith, length-take (b - a) (drop a xs), length-drop a xs, few);
  elements = All-take IsElement (b - a) (drop a xs) (All-drop IsElement a xs all);
}

-- two ranges that meet: their folds may be joined, and come to that of both
pub record FoldsMeet {S : Type 0} (o : Operations S) (within : S → ℕ → Type 0) (xs : List ℤ) (a b c : ℕ) : Type 0 where
  pub may : CanJoinLong within (fold_of o (slice_range xs a b)) (fold_of o (slice_range xs b c))
  pub is : o.join (fold_of o (slice_range xs a b)) (fold_of o (slice_range xs b c)) ≡ fold_of o (slice_range xs a c)

pub folds_meet : {S : Type 0} (o : Operations S) (within : S → ℕ → Type 0) → LongLaws o within → (xs : List ℤ) → All IsElement xs → length xs ≤ 2 ^ 61 → (a b c : ℕ) → a ≤ b → b ≤ c → FoldsMeet o within xs a b c
folds_meet o within laws xs all few a b c low high =
    let left = slice_range xs a b in
    let right = slice_range xs b c in
    let cut = range_cut xs a b c low high in
    let can : CanFoldLong (left ++ right) = subst CanFoldLong cut (can_fold xs all few a c) in
    record {
      may = record {
        left = length left;
        right = length right;
        left_within = fold_of-within_long o within laws left (can_fold xs all few a b);
        right_within = fold_of-within_long o within laws right (can_fold xs all few b c);
        few = omega (arith, can.few, length-append left right);
      };
      is = sym (fold_of-append_long o within laws left right can) ∙ ap (fold_of o) (sym cut);
    }

-- where the whole blocks of a range begin and end
pub record AreEnds (lo hi start end_ : ℕ) : Type 0 where
  pub low : lo ≤ start
  pub order : start ≤ end_
  pub high : end_ ≤ hi

pub ends : (lo hi : ℕ) → lo + 8 ≤ hi → AreEnds lo hi (8 * div_ceil lo 8) (8 * (hi / 8))
ends lo hi apart = record { low = omega arith; order = omega arith; high = omega arith }

-- the fold of a range may take the element behind it
pub can_grow : {S : Type 0} (o : Operations S) (within : S → ℕ → Type 0) → LongLaws o within → (xs : List ℤ) → All IsElement xs → length xs ≤ 2 ^ 61 → (a b : ℕ) (s : S) → s ≡ fold_of o (slice_range xs a b) → CanGrowLong within s
can_grow o within laws xs all few a b s is =
    let part = slice_range xs a b in
    record {
      count = length part;
      count_within = subst (λ t. within t (length part)) (sym is) (fold_of-within_long o within laws part (can_fold xs all few a b));
      few = omega (arith, few, length-take (b - a) (drop a xs), length-drop a xs);
    }

-- the parts of a range joined
module _ {S : Type 0} (o : Operations S) (within : S → ℕ → Type 0) (laws : LongLaws o within) (xs : List ℤ) (all : All IsElement xs) (few : length xs ≤ 2 ^ 61) (lo hi a b : ℕ) (e : AreEnds lo hi a b) (front middle back joined : S) (front_is : front ≡ fold_of o (slice_range xs lo a)) (middle_is : middle ≡ fold_of o (slice_range xs a b)) (back_is : back ≡ fold_of o (slice_range xs b hi)) where
  one : FoldsMeet o within xs lo a b
  one = folds_meet o within laws xs all few lo a b e.low e.order

  two : FoldsMeet o within xs lo b hi
  two = folds_meet o within laws xs all few lo b hi (omega (arith, e.low, e.order)) e.high

  pub first_may : CanJoinLong within front middle
  first_may = subst (λ s. CanJoinLong within s middle) (sym front_is) (subst (CanJoinLong within (fold_of o (slice_range xs lo a))) (sym middle_is) one.may)

  both : joined ≡ o.join front middle → joined ≡ fold_of o (slice_range xs lo b)
  both is = is ∙ ap (λ s. o.join s middle) front_is ∙ ap (o.join (fold_of o (slice_range xs lo a))) middle_is ∙ one.is

  pub second_may : joined ≡ o.join front middle → CanJoinLong within joined back
  second_may is = subst (λ s. CanJoinLong within s back) (sym (both is)) (subst (CanJoinLong within (fold_of o (slice_range xs lo b))) (sym back_is) two.may)

  pub all_joined : joined ≡ o.join front middle → o.join joined back ≡ fold_of o (slice_range xs lo hi)
  all_joined is = ap (λ s. o.join s back) (both is) ∙ ap (o.join (fold_of o (slice_range xs lo b))) back_is ∙ two.is

-- the fold of one element more
pub one_more : {S : Type 0} (o : Operations S) (xs : List ℤ) (lo i : ℕ) (s t : S) (x : ℤ) → lo ≤ i → i < length xs → s ≡ fold_of o (slice_range xs lo i) → x ≡ slice_index_or xs i x → t ≡ o.join s (o.lift x) → t ≡ fold_of o (slice_range xs lo (i + 1))
one_more o xs lo i s t x low small so_far at joined =
    joined
    ∙ ap (λ r. o.join r (o.lift x)) so_far
    ∙ sym (ap (fold_of o) (slice_range-more xs lo i x low small at) ∙ fold_push (λ r y. o.join r (o.lift y)) o.identity (slice_range xs lo i) x)
