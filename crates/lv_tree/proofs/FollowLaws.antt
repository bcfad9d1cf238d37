-- Leaves that follow a journal go on doing so after every edit: nothing has to be done then.
use Rattle.std.proofs.Common.{◌≡◌, ℕ, ℤ, ◌+◌, ◌-◌, ◌*◌, ◌<◌, ◌≤◌, Option, Some, None, unwrap_or, List, [], ◌∷◌, ◌++◌, length, take, slice_get, refl, sym, ap, ◌∙◌, subst, arith, inl, inr, length-append}
use Rattle.std.proofs.lemmas.Bool.{cases_lt}
use Rattle.std.proofs.lemmas.List.{append-nil, append_assoc, get_or_append_left, length-take, length_push, take-append-le, take_all}
use Rattle.std.proofs.lemmas.List.Elements.{All-nil}
use Rattle.std.proofs.lemmas.Option.{cond_some, get_or_from_slice_get, same_Some, slice_get-get_or, slice_get_within}
use Rattle.lv_bodies.specs.Body.{Operations}
use Rattle.lv_edits.specs.declared.edit.Edit.{Edit}
use Rattle.lv_edits.specs.declared.edit.Edit.TheVariants.{Push, Pop, Write, Reserve, Swap, Truncate}
use Rattle.lv_edits.specs.History.{applied, list_of, replayed}
use Rattle.lv_edits.proofs.HistoryLaws.{legal_before, list_of_replayed, replayed-nil, swapped}
use Rattle.lv_edits.proofs.Slices.{part_of_push, part_of_take}
use Rattle.lv_tree.specs.BlockLaws.{block_of_set, get_or_last}
use Rattle.lv_tree.specs.Blocks.{block_of}
use Rattle.lv_tree.specs.Follows.{Following, Follows, FollowsAll, IsBlock, IsLate, Spares, Stands}

-- a block that is whole before an edit which overwrites nothing of it, and after it, has the same elements
pub block_spared : (xs ys : List ℤ) (e : Edit) (b : ℕ) → applied xs e ≡ Some ys → Spares b e → 8 * b + 8 ≤ length xs → 8 * b + 8 ≤ length ys → block_of b ys ≡ block_of b xs
block_spared xs ys (Push x) b made spared was is =
    ap (block_of b) (sym (same_Some _ _ made)) ∙ part_of_push xs x (b * 8) 8 (omega (arith, was))
block_spared xs ys Pop b made spared was is =
    let same : take (length xs - 1) xs ≡ ys = (cond_some _ _ _ made).1 in
    ap (block_of b) (sym same) ∙ part_of_take xs (length xs - 1) (b * 8) 8 (omega (arith, is, ap length same, length-take (length xs - 1) xs))
block_spared xs ys (Write i x) b made spared was is =
    ap (block_of b) (sym (cond_some _ _ _ made).1) ∙ block_of_set b i x xs spared
block_spared xs ys (Reserve n) b made spared was is = ap (block_of b) (sym (same_Some _ _ made))
block_spared xs ys (Swap i j) b made spared was is =
    let done = swapped xs ys i j made in
    ap (block_of b) done.2 ∙ block_of_set b j _ _ spared.1 ∙ block_of_set b i _ xs spared.0
block_spared xs ys (Truncate n) b made spared was is =
    let same : take n xs ≡ ys = (cond_some _ _ _ made).1 in
    ap (block_of b) (sym same) ∙ part_of_take xs n (b * 8) 8 (omega (arith, is, ap length same, length-take n xs))

-- an edit of a journal stays where it is
get_before : (es more : List Edit) (k : ℕ) (e : Edit) → slice_get es k ≡ Some e → slice_get (es ++ more) k ≡ Some e
get_before es more k e is =
    let inside = slice_get_within es k e is in
    slice_get-get_or (es ++ more) k e (omega (arith, inside, length-append es more))
    ∙ ap Some (get_or_append_left es more e k inside ∙ get_or_from_slice_get es k e e is)

-- a block that is unchanged since some edits was so before the last edit
stood : (es : List Edit) (e : Edit) (seen b : ℕ) → Stands (es ++ e ∷ []) seen b → Stands es seen b
stood es e seen b h = record {
  spared = λ k f low is. h.spared k f low (get_before es (e ∷ []) k f is);
  whole = λ k low high.
      subst (λ l. 8 * b + 8 ≤ length (list_of l)) (take-append-le k es (e ∷ []) high) (h.whole k low (omega (arith, high, length_push es e)));
}

-- a journal that makes an element is legal
some_legal : (o : Option (List ℤ)) → 0 < length (unwrap_or o []) → o ≡ Some (unwrap_or o [])
some_legal (Some xs) some = refl
some_legal None some = absurd (omega (arith, some))

legal_if_some : (es : List Edit) → 0 < length (list_of es) → replayed es ≡ Some (list_of es)
unfolding list_of
legal_if_some es some = some_legal (replayed es) some

-- a block that is unchanged since some edits has the same elements before and after the last edit
stood_alike : (es : List Edit) (e : Edit) (seen size b : ℕ) → seen ≤ length es → size ≡ length (list_of (take seen es)) → 8 * b + 8 ≤ size → Stands (es ++ e ∷ []) seen b → block_of b (list_of (es ++ e ∷ [])) ≡ block_of b (list_of es)
stood_alike es e seen size b order size_is within h =
    let n = length es in
    let all : take n es ≡ es = take_all n es (omega arith) in
    let every : take (n + 1) (es ++ e ∷ []) ≡ es ++ e ∷ [] = take_all (n + 1) (es ++ e ∷ []) (omega (arith, length_push es e)) in
    let was : 8 * b + 8 ≤ length (list_of es) =
    elim (cases_lt seen n) [
      | inl later ↦ subst (λ l. 8 * b + 8 ≤ length (list_of l)) all ((stood es e seen b h).whole n later (omega arith))
      | inr now ↦
          let here : seen ≡ n = omega (arith, order, now) in
          omega (arith, within, size_is, ap (λ k. length (list_of (take k es))) here, ap (λ l. length (list_of l)) all)
    ] in
    let is : 8 * b + 8 ≤ length (list_of (es ++ e ∷ [])) =
    subst (λ l. 8 * b + 8 ≤ length (list_of l)) every (h.whole (n + 1) (omega (arith, order)) (omega (arith, length_push es e))) in
    let legal = legal_if_some (es ++ e ∷ []) (omega (arith, is)) in
    let last : slice_get (es ++ e ∷ []) n ≡ Some e = slice_get-get_or (es ++ e ∷ []) n e (omega (arith, length_push es e)) ∙ ap Some (get_or_last es e e) in
    block_spared (list_of es) (list_of (es ++ e ∷ [])) e b (legal_before es e legal).1 (h.spared n e order last) was is

module _ {S : Type 0} (o : Operations S) where
  -- what follows a journal follows it with one more edit
  pub follows_edit : (es : List Edit) (e : Edit) (sums : List S) (seen size : ℕ) → Follows o es sums seen size → Follows o (es ++ e ∷ []) sums seen size
  follows_edit es e sums seen size h =
      let f = h.by_lists in
      record {
        lists = h.lists;
        by_lists = record {
          order = omega (arith, f.order, length_push es e);
          size_is = f.size_is ∙ ap (λ l. length (list_of l)) (sym (take-append-le seen es (e ∷ []) f.order));
          within = f.within;
          sums_are = f.sums_are;
          blocks = f.blocks;
          right = λ b inside stands.
              f.right b inside (stood es e seen b stands)
              ∙ sym (stood_alike es e seen size b f.order f.size_is (omega (arith, inside, f.within)) stands);
        };
      }

  -- and with any edits more
  pub follows_edits : (more es : List Edit) (sums : List S) (seen size : ℕ) → Follows o es sums seen size → Follows o (es ++ more) sums seen size
  follows_edits [] es sums seen size h = subst (λ l. Follows o l sums seen size) (sym (append-nil es)) h
  follows_edits (e ∷ more) es sums seen size h =
      let same : es ++ e ∷ more ≡ (es ++ e ∷ []) ++ more = sym (append_assoc es (e ∷ []) more) in
      subst (λ l. Follows o l sums seen size) (sym same) (follows_edits more (es ++ e ∷ []) sums seen size (follows_edit es e sums seen size h))

  -- no leaves follow no edits
  pub follows_none : (sums : List S) → sums ≡ [] → Follows o [] sums 0 0
  follows_none sums none =
      subst (λ l. Follows o [] l 0 0) (sym none) record {
        lists = [];
        by_lists = record {
          order = omega arith;
          size_is = ap length (sym (list_of_replayed [] [] replayed-nil));
          within = omega arith;
          sums_are = refl;
          blocks = All-nil IsBlock;
          right = λ b inside stands. absurd (omega (arith, inside));
        };
      }

  -- no leaves follow any edits
  pub follows_with_none : (es : List Edit) (sums : List S) → sums ≡ [] → FollowsAll o es sums
  follows_with_none es sums none =
      let n = length es in
      subst (λ l. FollowsAll o es l) (sym none) record {
        lists = [];
        by_lists = record {
          order = omega arith;
          size_is = ap (λ l. length (list_of l)) (sym (take_all n es (omega arith)));
          within = omega arith;
          sums_are = refl;
          blocks = All-nil IsBlock;
          right = λ b inside stands. absurd (omega (arith, inside));
        };
      }

  -- leaves that follow up to the last edit follow all
  pub follows_to_end : (es : List Edit) (sums : List S) (seen size : ℕ) → length es ≤ seen → Follows o es sums seen size → FollowsAll o es sums
  follows_to_end es sums seen size last h =
      let n = length es in
      let at_end : seen ≡ n = omega (arith, last, h.by_lists.order) in
      let whole : size ≡ length (list_of es) = h.by_lists.size_is ∙ ap (λ k. length (list_of (take k es))) at_end ∙ ap (λ l. length (list_of l)) (take_all n es (omega arith)) in
      subst (λ k. Follows o es sums n k) whole (subst (λ k. Follows o es sums k size) at_end h)

-- so a tree that is late stays so, whichever edits come
pub late_edits : {B S : Type 0} (o : Operations S) (es more : List Edit) (late : Following B S) → IsLate o es late → IsLate o (es ++ more) late
late_edits o es more late h = follows_edits o more es late.sums late.seen late.size h
