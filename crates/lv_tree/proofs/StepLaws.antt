-- Leaves that follow a journal, after one edit more of it.
use Rattle.std.proofs.Common.{◌≡◌, ℕ, ℤ, ◌+◌, ◌-◌, ◌*◌, ◌/◌, ◌^◌, ◌<◌, ◌≤◌, ◌⊎◌, Some, List, [], ◌∷◌, ◌++◌, length, map, take, slice_get, slice_index_or, slice_set, sym, ap, ◌∙◌, subst, arith, inl, inr, All}
use Rattle.std.proofs.lemmas.Bool.{cases_eq, leb-true, ltb-true}
use Rattle.std.proofs.lemmas.List.{get_or-set_other, length-map, length-set, length-take, length_push, take_more}
use Rattle.std.proofs.lemmas.List.Edits.{length-swap}
use Rattle.std.proofs.lemmas.Option.{cond_some, get_or_from_slice_get, same_Some, slice_get-get_or, slice_get_within}
use Rattle.lv_geometry.specs.Elements.{IsElement}
use Rattle.lv_bodies.specs.Body.{Operations, fold_of}
use Rattle.lv_edits.specs.declared.edit.Edit.{Edit}
use Rattle.lv_edits.specs.declared.edit.Edit.TheVariants.{Push, Pop, Write, Reserve, Swap, Truncate}
use Rattle.lv_edits.specs.History.{applied, list_of, replayed}
use Rattle.lv_edits.proofs.HistoryLaws.{by_last_edit, legal_before, legal_beginnings, list_of_replayed, list_of-snoc, replayed-nil}
use Rattle.lv_tree.specs.Folds.{AreFolds}
use Rattle.lv_tree.specs.Blocks.{block_of}
use Rattle.lv_tree.specs.Follows.{Follows, FollowsBy, Spares, leaf_of}
use Rattle.lv_tree.proofs.LeafLaws.{cut_by, follows_folds, renewed, renewed_there}

-- an edit adds at most one element
one_more : (xs ys : List ℤ) (e : Edit) → applied xs e ≡ Some ys → length ys ≤ length xs + 1
one_more xs ys (Push x) made = omega (arith, ap length (same_Some _ _ made), length_push xs x)
one_more xs ys Pop made = omega (arith, ap length (cond_some _ _ _ made).1, length-take (length xs - 1) xs)
one_more xs ys (Write i x) made = omega (arith, ap length (cond_some _ _ _ made).1, length-set xs i x)
one_more xs ys (Reserve n) made = omega (arith, ap length (same_Some _ _ made))
one_more xs ys (Swap i j) made = omega (arith, ap length (cond_some _ _ _ made).1, length-swap xs i j)
one_more xs ys (Truncate n) made = omega (arith, ap length (cond_some _ _ _ made).1, length-take n xs)

-- so there are no more elements than edits
pub no_more_than_edits : (es : List Edit) → replayed es ≡ Some (list_of es) → length (list_of es) ≤ length es
no_more_than_edits =
    by_last_edit (λ es. length (list_of es) ≤ length es)
    (omega (arith, ap length (list_of_replayed [] [] replayed-nil)))
    (λ es e ys legal possible before.
    omega (arith, before, one_more (list_of es) ys e possible, ap length (list_of-snoc es e ys legal possible).1, length_push es e))

-- the edit that a program reads at a place of the journal
pub got : (journal es : List Edit) (at : ℕ) (d e : Edit) → journal ≡ es → at < length es → slice_index_or journal at d ≡ e → slice_get es at ≡ Some e
got journal es at d e same inside is =
    slice_get-get_or es at d inside ∙ ap Some (ap (λ l. slice_index_or l at d) (sym same) ∙ is)

module _ (es : List Edit) (legal : replayed es ≡ Some (list_of es)) where
  -- an edit of the journal is applied to what those before it made
  pub step_applied : (at : ℕ) (e : Edit) → slice_get es at ≡ Some e → applied (list_of (take at es)) e ≡ Some (list_of (take (at + 1) es))
  step_applied at e is =
      let more : take (at + 1) es ≡ take at es ++ e ∷ [] = take_more es at e (slice_get_within es at e is) ∙ ap (λ f. take at es ++ f ∷ []) (get_or_from_slice_get es at e e is) in
      let whole = subst (λ l. replayed l ≡ Some (list_of l)) more (legal_beginnings es legal (at + 1)) in
      (legal_before (take at es) e whole).1 ∙ ap (λ l. Some (list_of l)) (sym more)

  -- a pop finds an element
  pub before_pop : (at : ℕ) → slice_get es at ≡ Some Pop → 0 < length (list_of (take at es))
  before_pop at is = ltb-true 0 (length (list_of (take at es))) (cond_some _ _ _ (step_applied at Pop is)).0

  -- how many elements there are before an edit
  pub size_before : (at : ℕ) → at ≤ length es → length (list_of (take at es)) ≤ at
  size_before at inside = omega (arith, no_more_than_edits (take at es) (legal_beginnings es legal at), length-take at es)

-- the lists of leaves after an edit, if each leaf's block is spared by it or as it is now
module _ {S : Type 0} (o : Operations S) (es : List Edit) where
  advanced : (e : Edit) (lists : List (List ℤ)) (sums : List S) (at size after : ℕ) → FollowsBy o es lists sums at size → slice_get es at ≡ Some e → after ≡ length (list_of (take (at + 1) es)) → 8 * length sums ≤ after → ((b : ℕ) → b < length sums → Spares b e ⊎ (slice_index_or lists b [] ≡ block_of b (list_of es))) → FollowsBy o es lists sums (at + 1) after
  advanced e lists sums at size after h is after_is within done = record {
    order = omega (arith, slice_get_within es at e is);
    size_is = after_is;
    within = within;
    sums_are = h.sums_are;
    blocks = h.blocks;
    right = λ b inside stands.
        elim (done b inside) [
          | inr now ↦ now
          | inl spared ↦ h.right b inside record {
            spared = λ k f low there.
                elim (cases_eq k at) [
                  | inl here ↦ subst (Spares b) (same_Some _ _ (sym is ∙ ap (slice_get es) (sym here) ∙ there)) spared
                  | inr later ↦ stands.spared k f (omega (arith, low, later)) there
                ];
            whole = λ k low high.
                elim (cases_eq k (at + 1)) [
                  | inl here ↦ omega (arith, within, inside, after_is, ap (λ n. length (list_of (take n es))) here)
                  | inr later ↦ stands.whole k (omega (arith, low, later)) high
                ];
          }
        ];
  }

  module _ (legal : replayed es ≡ Some (list_of es)) (all : All IsElement (list_of es)) where
    pub after_push : (x : ℤ) (sums : List S) (at size : ℕ) → slice_get es at ≡ Some (Push x) → Follows o es sums at size → Follows o es sums (at + 1) (size + 1)
    after_push x sums at size is h =
        let f = h.by_lists in
        let made = same_Some _ _ (step_applied es legal at (Push x) is) in
        let after : size + 1 ≡ length (list_of (take (at + 1) es)) = omega (arith, f.size_is, ap length made, length_push (list_of (take at es)) x) in
        record { lists = h.lists; by_lists = advanced (Push x) h.lists sums at size (size + 1) f is after (omega (arith, f.within)) (λ b inside. inl tt) }

    pub after_reserve : (n : ℕ) (sums : List S) (at size : ℕ) → slice_get es at ≡ Some (Reserve n) → Follows o es sums at size → Follows o es sums (at + 1) size
    after_reserve n sums at size is h =
        let f = h.by_lists in
        let made = same_Some _ _ (step_applied es legal at (Reserve n) is) in
        record { lists = h.lists; by_lists = advanced (Reserve n) h.lists sums at size size f is (f.size_is ∙ ap length made) f.within (λ b inside. inl tt) }

    pub after_pop : (sums less : List S) (at size : ℕ) → slice_get es at ≡ Some Pop → less ≡ take ((size - 1) / 8) sums → Follows o es sums at size → Follows o es less (at + 1) (size - 1)
    after_pop sums less at size is cut_is h =
        let n = (size - 1) / 8 in
        let f = cut_by o es h.lists sums at size n h.by_lists in
        let xs = list_of (take at es) in
        let made = (cond_some _ _ _ (step_applied es legal at Pop is)).1 in
        let after : size - 1 ≡ length (list_of (take (at + 1) es)) = omega (arith, f.size_is, ap length made, length-take (length xs - 1) xs) in
        subst (λ l. Follows o es l (at + 1) (size - 1)) (sym cut_is)
        record { lists = take n h.lists; by_lists = advanced Pop (take n h.lists) (take n sums) at size (size - 1) f is after (omega (arith, length-take n sums)) (λ b inside. inl tt) }

    pub after_truncate : (count : ℕ) (sums less : List S) (at size : ℕ) → slice_get es at ≡ Some (Truncate count) → less ≡ take (count / 8) sums → Follows o es sums at size → Follows o es less (at + 1) count
    after_truncate count sums less at size is cut_is h =
        let n = count / 8 in
        let f = cut_by o es h.lists sums at size n h.by_lists in
        let xs = list_of (take at es) in
        let made = cond_some _ _ _ (step_applied es legal at (Truncate count) is) in
        let fits : count ≤ length xs = leb-true count (length xs) made.0 in
        let after : count ≡ length (list_of (take (at + 1) es)) = omega (arith, ap length made.1, length-take count xs, fits) in
        subst (λ l. Follows o es l (at + 1) count) (sym cut_is)
        record { lists = take n h.lists; by_lists = advanced (Truncate count) (take n h.lists) (take n sums) at size count f is after (omega (arith, length-take n sums)) (λ b inside. inl tt) }

    count_lists : (lists : List (List ℤ)) (sums : List S) → sums ≡ map (fold_of o) lists → length lists ≡ length sums
    count_lists lists sums is = sym (ap length is ∙ length-map lists (fold_of o))

    pub after_write : (i : ℕ) (x : ℤ) (sums more : List S) (at size : ℕ) → slice_get es at ≡ Some (Write i x) → 8 * length sums ≤ length (list_of es) → more ≡ slice_set sums (i / 8) (leaf_of o es (i / 8)) → Follows o es sums at size → Follows o es more (at + 1) size
    after_write i x sums more at size is whole set_is h =
        let b = i / 8 in
        let f = h.by_lists in
        let lists = slice_set h.lists b (block_of b (list_of es)) in
        let r = renewed o es all h.lists sums at size b whole f in
        let long : length (slice_set sums b (leaf_of o es b)) ≡ length sums = length-set sums b (leaf_of o es b) in
        let made = (cond_some _ _ _ (step_applied es legal at (Write i x) is)).1 in
        let after : size ≡ length (list_of (take (at + 1) es)) = omega (arith, f.size_is, ap length made, length-set (list_of (take at es)) i x) in
        subst (λ l. Follows o es l (at + 1) size) (sym set_is)
        record {
          lists = lists;
          by_lists = advanced (Write i x) lists (slice_set sums b (leaf_of o es b)) at size size r is after r.within (λ k inside.
              elim (cases_eq b k) [
                | inr other ↦ inl other
                | inl here ↦ inr (
                    ap (λ j. slice_index_or lists j []) (sym here)
                    ∙ renewed_there o es all h.lists b (omega (arith, inside, here, long, count_lists h.lists sums f.sums_are))
                    ∙ ap (λ j. block_of j (list_of es)) here)
              ]);
        }

    pub after_swap : (i j : ℕ) (sums more : List S) (at size : ℕ) → slice_get es at ≡ Some (Swap i j) → 8 * length sums ≤ length (list_of es) → more ≡ slice_set (slice_set sums (i / 8) (leaf_of o es (i / 8))) (j / 8) (leaf_of o es (j / 8)) → Follows o es sums at size → Follows o es more (at + 1) size
    after_swap i j sums more at size is whole set_is h =
        let a = i / 8 in
        let b = j / 8 in
        let f = h.by_lists in
        let first = slice_set h.lists a (block_of a (list_of es)) in
        let lists = slice_set first b (block_of b (list_of es)) in
        let some = slice_set sums a (leaf_of o es a) in
        let long : length some ≡ length sums = length-set sums a (leaf_of o es a) in
        let both : length (slice_set some b (leaf_of o es b)) ≡ length sums = length-set some b (leaf_of o es b) ∙ long in
        let q = renewed o es all h.lists sums at size a whole f in
        let r = renewed o es all first some at size b (omega (arith, long, whole)) q in
        let count = count_lists h.lists sums f.sums_are in
        let same : length first ≡ length h.lists = length-set h.lists a (block_of a (list_of es)) in
        let made = (cond_some _ _ _ (step_applied es legal at (Swap i j) is)).1 in
        let after : size ≡ length (list_of (take (at + 1) es)) = omega (arith, f.size_is, ap length made, length-swap (list_of (take at es)) i j) in
        subst (λ l. Follows o es l (at + 1) size) (sym set_is)
        record {
          lists = lists;
          by_lists = advanced (Swap i j) lists (slice_set some b (leaf_of o es b)) at size size r is after r.within (λ k inside.
              elim (cases_eq b k) [
                | inl here ↦ inr (
                    ap (λ n. slice_index_or lists n []) (sym here)
                    ∙ renewed_there o es all first b (omega (arith, inside, here, both, count, same))
                    ∙ ap (λ n. block_of n (list_of es)) here)
                | inr other ↦
                    elim (cases_eq a k) [
                      | inr apart ↦ inl (apart, other)
                      | inl there ↦ inr (
                          get_or-set_other first b k (block_of b (list_of es)) [] (λ e. other (sym e))
                          ∙ ap (λ n. slice_index_or first n []) (sym there)
                          ∙ renewed_there o es all h.lists a (omega (arith, inside, there, both, count))
                          ∙ ap (λ n. block_of n (list_of es)) there)
                    ]
              ]);
        }

    -- what a leaf folded anew needs: all of them may still be joined
    pub renewed_folds : (sums : List S) (at size b : ℕ) → 8 * length sums ≤ length (list_of es) → 8 * length sums ≤ 2 ^ 61 → Follows o es sums at size → AreFolds o (slice_set sums b (leaf_of o es b))
    renewed_folds sums at size b whole few h =
        let long : length (slice_set sums b (leaf_of o es b)) ≡ length sums = length-set sums b (leaf_of o es b) in
        follows_folds o es (slice_set sums b (leaf_of o es b)) at size (omega (arith, long, few)) record {
          lists = slice_set h.lists b (block_of b (list_of es));
          by_lists = renewed o es all h.lists sums at size b whole h.by_lists;
        }

    pub renewed_twice_folds : (sums : List S) (at size a b : ℕ) → 8 * length sums ≤ length (list_of es) → 8 * length sums ≤ 2 ^ 61 → Follows o es sums at size → AreFolds o (slice_set (slice_set sums a (leaf_of o es a)) b (leaf_of o es b))
    renewed_twice_folds sums at size a b whole few h =
        let some = slice_set sums a (leaf_of o es a) in
        let long : length some ≡ length sums = length-set sums a (leaf_of o es a) in
        renewed_folds some at size b (omega (arith, long, whole)) (omega (arith, long, few)) record {
          lists = slice_set h.lists a (block_of a (list_of es));
          by_lists = renewed o es all h.lists sums at size a whole h.by_lists;
        }
