-- Leaves that are folds of blocks: what can be done with them, and what one is after it was folded anew.
use Rattle.std.proofs.Common.{◌≡◌, ℕ, ℤ, ◌+◌, ◌*◌, ◌^◌, ◌<◌, ◌≤◌, List, [], ◌∷◌, ◌++◌, length, map, take, drop, slice_index_or, slice_set, refl, sym, ap, ◌∙◌, subst, arith, inl, inr, All, length-append, length-drop}
use Rattle.std.proofs.lemmas.Bool.{cases_eq, cases_lt}
use Rattle.std.proofs.lemmas.List.{get_or_append_left, get_or-set_other, get_or-set_same, get_or-take, length-map, length-set, length-take, length_push, map-append, map-set, set_past, take-map}
use Rattle.std.proofs.lemmas.List.Elements.{All-append, All-drop, All-head, All-nil, All-push, All-set, All-tail, All-take}
use Rattle.lv_geometry.specs.Elements.{IsElement}
use Rattle.lv_bodies.specs.Body.{Operations, fold_of}
use Rattle.lv_edits.specs.declared.edit.Edit.{Edit}
use Rattle.lv_edits.specs.History.{list_of}
use Rattle.lv_tree.specs.Folds.{AreFolds, AreFoldsOf, end_to_end}
use Rattle.lv_tree.specs.Blocks.{block_of}
use Rattle.lv_tree.specs.Follows.{Follows, FollowsAll, FollowsBy, IsBlock, leaf_of}
use Rattle.lv_tree.specs.BlockLaws.{get_or_last}

-- blocks end to end
sized : (lists : List (List ℤ)) → All IsBlock lists → length (end_to_end lists) ≡ 8 * length lists
sized [] all = refl
sized (xs ∷ lists) all =
    let here = All-head IsBlock xs lists all in
    let rest = sized lists (All-tail IsBlock xs lists all) in
    omega (arith, length-append xs (end_to_end lists), here.0, rest)

elements_in : (lists : List (List ℤ)) → All IsBlock lists → All IsElement (end_to_end lists)
elements_in [] all = All-nil IsElement
elements_in (xs ∷ lists) all = All-append IsElement xs (end_to_end lists) (All-head IsBlock xs lists all).1 (elements_in lists (All-tail IsBlock xs lists all))

-- the folds of blocks may be joined
pub blocks_fold : {S : Type 0} (o : Operations S) (lists : List (List ℤ)) (sums : List S) → sums ≡ map (fold_of o) lists → All IsBlock lists → 8 * length sums ≤ 2 ^ 61 → AreFoldsOf o lists sums
blocks_fold o lists sums is all few =
    let count : length sums ≡ length lists = ap length is ∙ length-map lists (fold_of o) in
    record {
      sums_are = is;
      can = record { few = omega (arith, sized lists all, count, few); elements = elements_in lists all };
    }

-- a block of elements that are there
pub is_block : (xs : List ℤ) (b : ℕ) → All IsElement xs → 8 * b + 8 ≤ length xs → IsBlock (block_of b xs)
is_block xs b all inside =
    (omega (arith, length-take 8 (drop (b * 8) xs), length-drop (b * 8) xs, inside), All-take IsElement 8 (drop (b * 8) xs) (All-drop IsElement (b * 8) xs all))

module _ {S : Type 0} (o : Operations S) (es : List Edit) (all : All IsElement (list_of es)) where
  count_lists : (lists : List (List ℤ)) (sums : List S) → sums ≡ map (fold_of o) lists → length lists ≡ length sums
  count_lists lists sums is = sym (ap length is ∙ length-map lists (fold_of o))

  -- the leaf of a block folded anew, if it has one
  pub renewed : (lists : List (List ℤ)) (sums : List S) (seen size b : ℕ) → 8 * length sums ≤ length (list_of es) → FollowsBy o es lists sums seen size → FollowsBy o es (slice_set lists b (block_of b (list_of es))) (slice_set sums b (leaf_of o es b)) seen size
  renewed lists sums seen size b whole h =
      let mine = block_of b (list_of es) in
      let count = count_lists lists sums h.sums_are in
      let long : length (slice_set sums b (leaf_of o es b)) ≡ length sums = length-set sums b (leaf_of o es b) in
      record {
        order = h.order;
        size_is = h.size_is;
        within = omega (arith, h.within, long);
        sums_are = ap (λ l. slice_set l b (leaf_of o es b)) h.sums_are ∙ sym (map-set (fold_of o) lists b mine);
        blocks = elim (cases_lt b (length lists)) [
          | inl inside ↦ All-set IsBlock lists b mine (is_block (list_of es) b all (omega (arith, inside, count, whole))) h.blocks
          | inr past ↦ subst (All IsBlock) (sym (set_past lists b mine past)) h.blocks
        ];
        right = λ j inside stands.
            elim (cases_eq j b) [
              | inl here ↦
                  let place : b < length lists = omega (arith, inside, here, long, count) in
                  ap (λ i. slice_index_or (slice_set lists b mine) i []) here ∙ get_or-set_same lists b mine [] place ∙ ap (λ i. block_of i (list_of es)) (sym here)
              | inr other ↦ get_or-set_other lists b j mine [] other ∙ h.right j (omega (arith, inside, long)) stands
            ];
      }

  -- the list of the leaf that was folded anew
  pub renewed_there : (lists : List (List ℤ)) (b : ℕ) → b < length lists → slice_index_or (slice_set lists b (block_of b (list_of es))) b [] ≡ block_of b (list_of es)
  renewed_there lists b inside = get_or-set_same lists b (block_of b (list_of es)) [] inside

  -- one more leaf
  pub grown : (sums : List S) (seen size : ℕ) → 8 * length sums + 8 ≤ size → 8 * length sums + 8 ≤ length (list_of es) → Follows o es sums seen size → Follows o es (sums ++ leaf_of o es (length sums) ∷ []) seen size
  grown sums seen size room inside h =
      let f = h.by_lists in
      let n = length sums in
      let s = leaf_of o es n in
      let mine = block_of n (list_of es) in
      let count = count_lists h.lists sums f.sums_are in
      let long : length (sums ++ s ∷ []) ≡ n + 1 = length_push sums s in
      record {
        lists = h.lists ++ mine ∷ [];
        by_lists = record {
          order = f.order;
          size_is = f.size_is;
          within = omega (arith, long, room);
          sums_are = ap (λ l. l ++ s ∷ []) f.sums_are ∙ sym (map-append (fold_of o) h.lists (mine ∷ []));
          blocks = All-push IsBlock h.lists mine f.blocks (is_block (list_of es) n all inside);
          right = λ j few stands.
              elim (cases_eq j n) [
                | inl here ↦
                    let place : j ≡ length h.lists = omega (arith, here, count) in
                    ap (λ i. slice_index_or (h.lists ++ mine ∷ []) i []) place ∙ get_or_last h.lists mine [] ∙ ap (λ i. block_of i (list_of es)) (sym here)
                | inr other ↦
                    get_or_append_left h.lists (mine ∷ []) [] j (omega (arith, few, long, other, count))
                    ∙ f.right j (omega (arith, few, long, other)) stands
              ];
        };
      }

-- the first of the leaves
pub cut_by : {S : Type 0} (o : Operations S) (es : List Edit) (lists : List (List ℤ)) (sums : List S) (seen size n : ℕ) → FollowsBy o es lists sums seen size → FollowsBy o es (take n lists) (take n sums) seen size
cut_by o es lists sums seen size n h =
    let long = length-take n sums in
    record {
      order = h.order;
      size_is = h.size_is;
      within = omega (arith, long, h.within);
      sums_are = ap (take n) h.sums_are ∙ take-map (fold_of o) n lists;
      blocks = All-take IsBlock n lists h.blocks;
      right = λ j inside stands.
          get_or-take n lists j [] (omega (arith, inside, long)) ∙ h.right j (omega (arith, inside, long)) stands;
    }

pub cut : {S : Type 0} (o : Operations S) (es : List Edit) (sums : List S) (seen size n : ℕ) → Follows o es sums seen size → Follows o es (take n sums) seen size
cut o es sums seen size n h = record { lists = take n h.lists; by_lists = cut_by o es h.lists sums seen size n h.by_lists }

-- leaves that follow may be joined
pub follows_folds : {S : Type 0} (o : Operations S) (es : List Edit) (sums : List S) (seen size : ℕ) → 8 * length sums ≤ 2 ^ 61 → Follows o es sums seen size → AreFolds o sums
follows_folds o es sums seen size few h = record { lists = h.lists; of_lists = blocks_fold o h.lists sums h.by_lists.sums_are h.by_lists.blocks few }

-- one leaf more than follow the whole journal
module _ {S : Type 0} (o : Operations S) (es : List Edit) (all : All IsElement (list_of es)) (few : length (list_of es) ≤ 2 ^ 61) (sums more : List S) (block : ℕ) (s : S) (count : length sums ≡ block) (s_is : s ≡ leaf_of o es block) (inside : 8 * block + 8 ≤ length (list_of es)) (h : FollowsAll o es sums) where
  leaf_is : leaf_of o es (length sums) ≡ s
  leaf_is = ap (leaf_of o es) count ∙ sym s_is

  pub taken_in : FollowsAll o es (sums ++ s ∷ [])
  taken_in =
      let room : 8 * length sums + 8 ≤ length (list_of es) = omega (arith, count, inside) in
      subst (λ l. FollowsAll o es (sums ++ l ∷ [])) leaf_is (grown o es all sums (length es) (length (list_of es)) room room h)

  pub taken_in_folds : AreFolds o (sums ++ s ∷ [])
  taken_in_folds = follows_folds o es (sums ++ s ∷ []) (length es) (length (list_of es)) (omega (arith, taken_in.by_lists.within, few)) taken_in
