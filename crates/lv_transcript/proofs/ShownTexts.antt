-- What is shown of a value is short, and has no byte below the space.
use Rattle.std.proofs.Common.{ℕ, suc, ◌*◌, ◌^◌, ◌<◌, ◌≤◌, List, [], ◌∷◌, ◌++◌, length, map, codes, All, Option, Some, None, IfSome, option_map, ℤ, pos, negsuc, lit<, lit≤, refl, subst, arith, length-append}
use Rattle.std.specs.Prelude.{decimal}
use Rattle.std.specs.Fmt.{signed_decimal}
use Rattle.std.specs.Int.RustNames.{unsigned_abs}
use Rattle.std.proofs.lemmas.Fmt.{decimal_is_IsNumeral_wide, length-decimal-le_wide}
use Rattle.std.proofs.lemmas.List.Elements.{All-nil, All-cons, All-append, All-head, All-tail, All-weaker}
use Rattle.lv_geometry.specs.Elements.{IsElement}
use Rattle.lv_bodies.specs.declared.kinds.Kind.{Kind}
use Rattle.lv_bodies.specs.declared.kinds.Kind.TheVariants.{Sum, Least, Greatest, Best, Affine, Automaton}
use Rattle.lv_bodies.specs.Body.{CanFold, fold_of}
use Rattle.lv_bodies.specs.FoldLaws.{fold_of-within}
use Rattle.lv_bodies.specs.Plain.{plain_value, plain_sum, plain_least, plain_greatest, plain_best, plain_affine, plain_automaton, program_table, total}
use Rattle.lv_bodies.specs.RemainderLaws.{remainder_below}
use Rattle.lv_bodies.specs.Extremes.{least_operations, greatest_operations, IsExtreme}
use Rattle.lv_bodies.specs.ExtremeLaws.{least_laws, greatest_laws, fold_of-least, fold_of-greatest}
use Rattle.lv_bodies.specs.declared.best.RunTotals.{RunTotals}
use Rattle.lv_bodies.specs.RunTotals.{best_operations, IsBest}
use Rattle.lv_bodies.specs.TotalsLaws.{best_laws}
use Rattle.lv_bodies.specs.BestLaws.{fold_of-best}
use Rattle.lv_bodies.specs.AffineMaps.{affine_operations, IsAffineMap}
use Rattle.lv_bodies.specs.AffineLaws.{affine_laws, fold_of-affine}
use Rattle.lv_bodies.specs.Tables.{automaton_operations, IsStateMap}
use Rattle.lv_bodies.specs.TableLaws.{automaton_laws, fold_of-automaton}
use Rattle.lv_lines.specs.Texts.{shown_text, some_number}
use Rattle.lv_lines.specs.Words.{spaced}
use Rattle.lv_lines.proofs.PrintedNumbers.{digits}
use Rattle.lv_lines.proofs.PrintedWords.{IsPrintable, IsVisible, plain_digits, plain_text}

-- a text of a value
pub record IsShownText (text : List ℕ) : Type 0 where
  pub short : length text ≤ 64
  pub printable : All IsPrintable text

-- what is visible is printable
printable_of_visible : (text : List ℕ) → All IsVisible text → All IsPrintable text
printable_of_visible text visible = All-weaker IsVisible IsPrintable (λ b seen. omega (arith, seen)) text visible

-- digits are printable
printable_decimal : (n : ℕ) → n < 10 ^ 64 → All IsPrintable (decimal n)
printable_decimal n small =
    printable_of_visible (decimal n) (plain_digits (decimal n) (digits.from (decimal n) (decimal_is_IsNumeral_wide n small).0.1))

-- the text of a number
shown_number : (n : ℕ) → n < 10 ^ 40 → IsShownText (decimal n)
shown_number n small = record {
  short = omega (arith, length-decimal-le_wide 40 n (lit< tt) small (omega arith));
  printable = printable_decimal n (omega arith);
}

-- the text of an integer
shown_integer : (x : ℤ) → unsigned_abs x < 10 ^ 40 → IsShownText (signed_decimal x)
shown_integer (pos n) small = shown_number n small
shown_integer (negsuc n) small =
    let digits_of : IsShownText (decimal (suc n)) = shown_number (suc n) small in
    record {
      short = omega (arith, length-decimal-le_wide 40 (suc n) (lit< tt) small (omega arith));
      printable = All-cons IsPrintable 45 (decimal (suc n)) (lit≤ tt) digits_of.printable;
    }

-- or of none
shown_some : (x : Option ℤ) → IfSome x (λ y. unsigned_abs y < 10 ^ 40) → IsShownText (some_number x)
shown_some None small = record { short = lit≤ tt; printable = printable_of_visible (codes "none") (plain_text (codes "none") refl).visible }
shown_some (Some x) small = shown_integer x small

-- an element is no greater than that
element_small : (x : ℤ) → IsElement x → unsigned_abs x < 10 ^ 40
element_small (pos n) fits = omega (arith, fits.sfits)
element_small (negsuc n) fits = omega (arith, fits.sfits)

-- the extremes are elements
extreme_small : (x : Option ℤ) (n : ℕ) → IsExtreme x n → IfSome x (λ y. unsigned_abs y < 10 ^ 40)
extreme_small None n within = tt
extreme_small (Some x) n within = element_small x within

-- the best run's total is no greater than that
best_small : (r : Option RunTotals) (n : ℕ) → n ≤ 2 ^ 20 → IsBest r n → IfSome (option_map (λ r. r.best) r) (λ y. unsigned_abs y < 10 ^ 40)
best_small None n few within = tt
best_small (Some r) n few within = omega (arith, within.best)

-- two numbers of 32 bits, with one space between, are short
two_numbers : (a b : ℕ) → a < 2 ^ 32 → b < 2 ^ 32 → IsShownText (decimal a ++ codes " " ++ decimal b)
two_numbers a b p q =
    let front = decimal a ++ codes " " in
    let left = length-decimal-le_wide 10 a (lit< tt) (omega arith) (omega arith) in
    let right = length-decimal-le_wide 10 b (lit< tt) (omega arith) (omega arith) in
    record {
      short = omega (arith, left, right, length-append front (decimal b), length-append (decimal a) (codes " "));
      printable =
          All-append IsPrintable front (decimal b)
          (All-append IsPrintable (decimal a) (codes " ") (printable_decimal a (omega arith)) (All-cons IsPrintable 32 [] (lit≤ tt) (All-nil IsPrintable)))
          (printable_decimal b (omega arith));
    }

-- states below 8, with one space between, are short
states_text : (states : List ℕ) → All (λ q. q < 8) states → (length (spaced (map decimal states)) ≤ 2 * length states) × All IsPrintable (spaced (map decimal states))
states_text [] small = (omega arith, All-nil IsPrintable)
states_text (q ∷ []) small =
    let here : q < 8 = All-head (λ s. s < 8) q [] small in
    (omega (arith, length-decimal-le_wide 1 q (lit< tt) (omega arith) (omega arith)), printable_decimal q (omega arith))
states_text (q ∷ r ∷ states) small =
    let here : q < 8 = All-head (λ s. s < 8) q (r ∷ states) small in
    let rest = states_text (r ∷ states) (All-tail (λ s. s < 8) q (r ∷ states) small) in
    let later = spaced (map decimal (r ∷ states)) in (
      omega (arith, rest.0, length-decimal-le_wide 1 q (lit< tt) (omega arith) (omega arith), length-append (decimal q) (32 ∷ later)),
      All-append IsPrintable (decimal q) (32 ∷ later) (printable_decimal q (omega arith)) (All-cons IsPrintable 32 later (lit≤ tt) rest.1),
    )

-- what is shown of a plain value
pub shown_plain : (kind : Kind) (xs : List ℤ) → CanFold xs → IsShownText (shown_text (plain_value kind xs))
shown_plain Sum xs can =
    let below : plain_sum xs < 2 ^ 64 = remainder_below (total xs) (2 ^ 64) (omega arith) in shown_number (plain_sum xs) (omega arith)
shown_plain Least xs can =
    let within = fold_of-within least_operations IsExtreme least_laws xs can in
    shown_some (plain_least xs) (extreme_small (plain_least xs) (length xs) (subst (λ (x : Option ℤ). IsExtreme x (length xs)) (fold_of-least xs) within))
shown_plain Greatest xs can =
    let within = fold_of-within greatest_operations IsExtreme greatest_laws xs can in
    shown_some (plain_greatest xs) (extreme_small (plain_greatest xs) (length xs) (subst (λ (x : Option ℤ). IsExtreme x (length xs)) (fold_of-greatest xs) within))
shown_plain Best xs can =
    let within = fold_of-within best_operations IsBest best_laws xs can in
    shown_some (plain_best xs)
    (subst (λ (x : Option ℤ). IfSome x (λ y. unsigned_abs y < 10 ^ 40)) (fold_of-best xs) (best_small (fold_of best_operations xs) (length xs) can.few within))
shown_plain Affine xs can =
    let within = fold_of-within affine_operations IsAffineMap affine_laws xs can in
    let same = fold_of-affine xs can in
    two_numbers (plain_affine xs).0 (plain_affine xs).1 (omega (arith, within.a, same.0)) (omega (arith, within.b, same.1))
shown_plain Automaton xs can =
    let row : IsStateMap (plain_automaton program_table xs) (length xs) =
    subst (λ (r : List ℕ). IsStateMap r (length xs)) (fold_of-automaton program_table xs) (fold_of-within (automaton_operations program_table) IsStateMap (automaton_laws program_table refl) xs can) in
    let text = states_text (plain_automaton program_table xs) row.states in
    record { short = omega (arith, text.0, row.eight); printable = text.1 }
