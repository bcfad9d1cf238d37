-- The elements in memory after a change.
use Rattle.std.proofs.Common.{◌≡◌, ℕ, ℤ, ◌+◌, ◌-◌, ◌*◌, ◌^◌, ◌<◌, ◌≤◌, List, [], ◌∷◌, ◌++◌, length, drop, slice_set, sym, ap, ◌∙◌, subst, arith, All}
use Rattle.std.proofs.lemmas.List.{length-drop, length-set, length_push}
use Rattle.std.proofs.lemmas.List.Elements.{All-drop, All-push, All-set}
use Rattle.lv_geometry.specs.Elements.{IsElement}
use Rattle.lv_series.specs.Blocks.{IsWindow}

module _ (base first : ℕ) (xs ys : List ℤ) (w : IsWindow base first xs) where
  -- one element more
  pub window_more : (x : ℤ) → ys ≡ xs ++ x ∷ [] → IsElement x → length ys ≤ 2 ^ 59 → 8 * base + length xs < 2 ^ 62 → IsWindow base first ys
  window_more x is fits few room =
      let more : length ys ≡ length xs + 1 = ap length is ∙ length_push xs x in
      record {
        low = w.low;
        high = omega (arith, w.high, more);
        all = subst (All IsElement) (sym is) (All-push IsElement xs x w.all fits);
        few = few;
        numbered = omega (arith, more, room);
      }

  -- another element in the place of one
  pub window_written : (at : ℕ) (x : ℤ) → ys ≡ slice_set xs at x → IsElement x → IsWindow base first ys
  window_written at x is fits =
      let size : length ys ≡ length xs = ap length is ∙ length-set xs at x in
      record {
        low = w.low;
        high = omega (arith, w.high, size);
        all = subst (All IsElement) (sym is) (All-set IsElement xs at x fits w.all);
        few = omega (arith, w.few, size);
        numbered = omega (arith, w.numbered, size);
      }

  -- without whole blocks in front
  pub window_expired : (to whole : ℕ) → first ≤ to → to ≤ 8 * base + length xs → 8 * whole ≤ to - 8 * base → ys ≡ drop (8 * whole) xs → IsWindow (base + whole) to ys
  window_expired to whole low high past is =
      let size : length ys ≡ length xs - 8 * whole = ap length is ∙ length-drop (8 * whole) xs in
      record {
        low = omega (arith, past, low, w.low);
        high = omega (arith, size, high, past, low, w.low);
        all = subst (All IsElement) (sym is) (All-drop IsElement (8 * whole) xs w.all);
        few = omega (arith, size, w.few);
        numbered = omega (arith, size, w.numbered, past, low, high);
      }
