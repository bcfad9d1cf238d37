-- The fold of the six, spread out, has the plain values, of however many elements.
use Rattle.std.proofs.Common.{◌≡◌, ℕ, ℤ, pos, List, ap, ◌∙◌}
use Rattle.std.specs.Prelude.{is_some, option_map, unwrap_or}
use Rattle.lv_bodies.specs.AffineLaws.{shown_alike}
use Rattle.lv_bodies.specs.BestLaws.{fold_of-best}
use Rattle.lv_bodies.specs.Body.{fold_of}
use Rattle.lv_bodies.specs.ExtremeLaws.{fold_of-greatest, fold_of-least}
use Rattle.lv_bodies.specs.Plain.{plain_best, plain_value_with}
use Rattle.lv_bodies.specs.Six.{six_operations_by}
use Rattle.lv_bodies.specs.SumLaws.{fold_of-sum}
use Rattle.lv_bodies.specs.TableLaws.{fold_of-automaton}
use Rattle.lv_bodies.specs.declared.kinds.Kind.{Kind}
use Rattle.lv_bodies.specs.declared.kinds.Kind.TheVariants.{Sum, Least, Greatest, Best, Affine, Automaton}
use Rattle.lv_bodies.specs.declared.kinds.Shown.TheVariants as shown
use Rattle.lv_tree.specs.KindSummaries.{shown_of, summary_by}
use Rattle.lv_tree.specs.OfSixLaws.{affine-part, automaton-part, best-part, greatest-part, least-part, sum-part}
use Rattle.lv_lines.specs.AffineFoldLaws.{fold_of-maps}
use Rattle.livevec_c.specs.Answers.{high_half, low_half, spread, word_of}
use Rattle.livevec_c.specs.CellLaws.{values_alike}
use Rattle.livevec_c.specs.Cells.{values_cell}
use Rattle.livevec_c.specs.Plainly.{AreValues}

module _ (table : List (List ℕ)) (xs : List ℤ) where
  -- the best run's total
  best_total : option_map (λ r. r.best) (fold_of (six_operations_by table) xs).1.1.1.0 ≡ plain_best xs
  best_total = ap (option_map (λ r. r.best)) (best-part table xs) ∙ fold_of-best xs

  -- the fold of the six, spread out, has the plain values
  pub spread-plain : AreValues table xs (spread (fold_of (six_operations_by table) xs))
  spread-plain =
      let maps = fold_of-maps xs in
      let least = least-part table xs ∙ fold_of-least xs in
      let greatest = greatest-part table xs ∙ fold_of-greatest xs in
      record {
        sum = sum-part table xs ∙ fold_of-sum xs;
        any = ap (λ x. word_of (is_some x)) least;
        least = ap (λ x. unwrap_or x (pos 0)) least;
        greatest = ap (λ x. unwrap_or x (pos 0)) greatest;
        best_low = ap (λ x. low_half (unwrap_or x (pos 0))) best_total;
        best_high = ap (λ x. high_half (unwrap_or x (pos 0))) best_total;
        affine_a = ap (λ m. m.a) (affine-part table xs) ∙ maps.0;
        affine_b = ap (λ m. m.b) (affine-part table xs) ∙ maps.1;
        automaton = automaton-part table xs ∙ fold_of-automaton table xs;
      }

  -- the fold of the six, spread out, is the cell of the elements
  pub fold-plain : spread (fold_of (six_operations_by table) xs) ≡ values_cell table xs
  fold-plain = values_alike table xs _ spread-plain

  -- the output of its part by a kind is the kind's plain value
  pub shown-plain : (kind : Kind) → shown_of (summary_by table kind xs) ≡ plain_value_with table kind xs
  shown-plain Sum = ap shown.Sum (sum-part table xs ∙ fold_of-sum xs)
  shown-plain Least = ap shown.Least (least-part table xs ∙ fold_of-least xs)
  shown-plain Greatest = ap shown.Greatest (greatest-part table xs ∙ fold_of-greatest xs)
  shown-plain Best = ap shown.Best best_total
  shown-plain Affine = let maps = fold_of-maps xs in shown_alike _ _ _ _ (ap (λ m. m.a) (affine-part table xs) ∙ maps.0) (ap (λ m. m.b) (affine-part table xs) ∙ maps.1)
  shown-plain Automaton = ap shown.Automaton (automaton-part table xs ∙ fold_of-automaton table xs)
