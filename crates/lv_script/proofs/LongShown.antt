-- What is shown of a summary by a kind, of however many elements, is the plain value.
use Rattle.std.proofs.Common.{◌≡◌, ℕ, ℤ, List, option_map, ap, ◌∙◌}
use Rattle.lv_bodies.specs.Plain.{plain_value_with}
use Rattle.lv_bodies.specs.SumLaws.{fold_of-sum}
use Rattle.lv_bodies.specs.ExtremeLaws.{fold_of-least, fold_of-greatest}
use Rattle.lv_bodies.specs.BestLaws.{fold_of-best}
use Rattle.lv_bodies.specs.AffineLaws.{shown_alike}
use Rattle.lv_bodies.specs.TableLaws.{fold_of-automaton}
use Rattle.lv_bodies.specs.declared.kinds.Kind.{Kind}
use Rattle.lv_bodies.specs.declared.kinds.Kind.TheVariants.{Sum, Least, Greatest, Best, Affine, Automaton}
use Rattle.lv_bodies.specs.declared.kinds.Shown.TheVariants as shown
use Rattle.lv_lines.specs.AffineFoldLaws.{fold_of-maps}
use Rattle.lv_tree.specs.KindSummaries.{shown_of, summary_by}
use Rattle.lv_tree.specs.OfSixLaws.{affine-part, automaton-part, best-part, greatest-part, least-part, sum-part}

-- what is shown of the summary of some elements by a kind is their plain value
pub shown_is_plain : (table : List (List ℕ)) (kind : Kind) (xs : List ℤ) → shown_of (summary_by table kind xs) ≡ plain_value_with table kind xs
shown_is_plain table Sum xs = ap shown.Sum (sum-part table xs ∙ fold_of-sum xs)
shown_is_plain table Least xs = ap shown.Least (least-part table xs ∙ fold_of-least xs)
shown_is_plain table Greatest xs = ap shown.Greatest (greatest-part table xs ∙ fold_of-greatest xs)
shown_is_plain table Best xs = ap (λ s. shown.Best (option_map (λ r. r.best) s)) (best-part table xs) ∙ ap shown.Best (fold_of-best xs)
shown_is_plain table Affine xs =
    let same = fold_of-maps xs in
    ap (λ s. shown.Affine s.a s.b) (affine-part table xs) ∙ shown_alike _ _ _ _ same.0 same.1
shown_is_plain table Automaton xs = ap shown.Automaton (automaton-part table xs ∙ fold_of-automaton table xs)
