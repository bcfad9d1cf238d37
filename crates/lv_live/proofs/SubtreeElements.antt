-- The elements of a node of level 4, eight by eight.
use Rattle.std.proofs.Common.{◌≡◌, ℕ, ◌+◌, ◌-◌, ◌*◌, ◌<◌, List, ◌++◌, length, take, drop, sym, ap, ◌∙◌, arith}
use Rattle.std.specs.Prelude.{ℤ, slice_range}
use Rattle.std.proofs.Math.Seq.{take-add}
use Rattle.std.proofs.lemmas.List.{drop-drop, drop-take, length-drop, length-take-le, take-take, take_all}
use Rattle.lv_edits.specs.declared.edit.Edit.{Edit}
use Rattle.lv_edits.specs.History.{list_of}
use Rattle.lv_edits.specs.Touch.{elements_under}
use Rattle.lv_refresh.specs.Inner.{node_at}
use Rattle.lv_refresh.specs.Subtrees.{IsInside}

-- eight elements more
pub eight_more : (xs : List ℤ) (k : ℕ) → take (8 * (k + 1)) xs ≡ take (8 * k) xs ++ take 8 (drop (8 * k) xs)
eight_more xs k =
    let next : 8 * (k + 1) ≡ 8 * k + 8 = omega arith in
    ap (λ m. take m xs) next ∙ take-add (8 * k) 8 xs

-- eight from a place on
eight_at : (xs : List ℤ) (k : ℕ) → slice_range xs (8 * k) (8 * k + 8) ≡ take 8 (drop (8 * k) xs)
eight_at xs k =
    let many : 8 * k + 8 - 8 * k ≡ 8 = omega arith in
    ap (λ m. take m (drop (8 * k) xs)) many

-- lists whose first elements are the same, and whose next eight are
pub same_more : (xs ys : List ℤ) (k : ℕ) → take (8 * k) xs ≡ take (8 * k) ys → slice_range xs (8 * k) (8 * k + 8) ≡ take 8 (drop (8 * k) ys) → take (8 * (k + 1)) xs ≡ take (8 * (k + 1)) ys
same_more xs ys k before here =
    eight_more xs k
    ∙ ap (λ first. first ++ take 8 (drop (8 * k) xs)) before
    ∙ ap (λ next. take (8 * k) ys ++ next) (sym (eight_at xs k) ∙ here)
    ∙ sym (eight_more ys k)

module _ (es : List Edit) (number : ℕ) where
  -- a block of the node
  pub block_in : (k : ℕ) → k < 512 → take 8 (drop ((512 * number + k) * 8) (list_of es)) ≡ take 8 (drop (8 * k) (elements_under es (node_at 4 number)))
  block_in k small =
      let rest : 4096 ≡ 8 * k + (4096 - 8 * k) = omega (arith, small) in
      let place : number * 4096 + 8 * k ≡ (512 * number + k) * 8 = omega arith in
      let from = drop (number * 4096) (list_of es) in
      sym (
      ap (λ m. take 8 (drop (8 * k) (take m from))) rest
      ∙ ap (take 8) (drop-take (8 * k) (4096 - 8 * k) from)
      ∙ take-take 8 (4096 - 8 * k) (drop (8 * k) from) (omega (arith, small))
      ∙ ap (take 8) (drop-drop (8 * k) (number * 4096) (list_of es) ∙ ap (λ at. drop at (list_of es)) place)
      )

  -- if the node's elements are these, each block's elements are the eight at its place among them
  pub block_of_same : (xs : List ℤ) (k : ℕ) → k < 512 → xs ≡ elements_under es (node_at 4 number) → slice_range xs (8 * k) (8 * k + 8) ≡ take 8 (drop ((512 * number + k) * 8) (list_of es))
  block_of_same xs k small same = eight_at xs k ∙ ap (λ xs. take 8 (drop (8 * k) xs)) same ∙ sym (block_in k small)

  -- the first 4,096 are all
  pub all_in : (k : ℕ) → k ≡ 512 → take (8 * k) (elements_under es (node_at 4 number)) ≡ elements_under es (node_at 4 number)
  all_in k is =
      let many : 8 * k ≡ 4096 = omega (arith, is) in
      let from = drop (number * 4096) (list_of es) in
      ap (λ m. take m (take 4096 from)) many ∙ take-take 4096 4096 from (omega arith)

  -- a list of 4,096 elements that begins with as many of the node's is the node's
  pub all_same : (xs : List ℤ) (k : ℕ) → k ≡ 512 → length xs ≡ 4096 → take (8 * k) xs ≡ take (8 * k) (elements_under es (node_at 4 number)) → xs ≡ elements_under es (node_at 4 number)
  all_same xs k is long same = sym (take_all (8 * k) xs (omega (arith, is, long))) ∙ same ∙ all_in k is

  -- there are 4,096
  pub length_inside : IsInside number (length (list_of es)) → length (elements_under es (node_at 4 number)) ≡ 4096
  length_inside inside = length-take-le 4096 (drop (number * 4096) (list_of es)) (omega (arith, inside, length-drop (number * 4096) (list_of es)))
