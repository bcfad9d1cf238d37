-- How far the summaries of short elements get, and what they keep.
use Rattle.std.specs.Prelude.{◌≡◌, ℕ, ℤ, pos, negsuc, ◌+◌, ◌*◌, ◌%◌, ◌^◌, ◌≤◌, ◌+ℤ◌, FitsSigned, Option, Some, None, List, [], ◌∷◌, length, fold, All}
use Rattle.std.specs.Int.{cast_unsigned, int_max, w32}
use Rattle.std.specs.Int.RustNames.{unsigned_abs}
use Rattle.std.proofs.Common.{arith, ap, ◌∙◌, subst, refl}
use Rattle.std.proofs.lemmas.Int.{ints, clamps, to_z-of_z}
use Rattle.std.proofs.lemmas.List.Elements.{All-head, All-tail, All-weaker}
use Rattle.lv_geometry.specs.Elements.{IsElement}
use Rattle.lv_bodies.specs.Body.{Operations, CanFold, fold_of}
use Rattle.lv_bodies.specs.Plain.{remainder, total}
use Rattle.lv_bodies.specs.Optional.{join_of_both, optional_operations}
use Rattle.lv_bodies.specs.RunTotals.{totals_of, join_totals}
use Rattle.lv_bodies.specs.declared.best.RunTotals.{RunTotals}
use Rattle.lv_bodies.specs.Parts.{IsShort, low_32, widened}

-- what each step keeps of a summary of n short elements holds of every fold of such
module _ {S : Type 0} (o : Operations S) (P : S → ℕ → Type 0) (step : (s : S) (n : ℕ) (x : ℤ) → P s n → IsShort x → P (o.join s (o.lift x)) (n + 1)) where
  -- of a fold that goes on from a summary of n elements
  along : (s : S) (n : ℕ) (xs : List ℤ) → P s n → All IsShort xs → P (fold (λ t x. o.join t (o.lift x)) s xs) (n + length xs)
  along s n [] h short = subst (λ k. P s k) (omega arith) h
  along s n (x ∷ xs) h short =
      let more = step s n x h (All-head IsShort x xs short) in
      let rest = along (o.join s (o.lift x)) (n + 1) xs more (All-tail IsShort x xs short) in
      subst (λ k. P (fold (λ t y. o.join t (o.lift y)) (o.join s (o.lift x)) xs) k) (omega arith) rest

  -- of a fold from the identity
  fold_of-short : P o.identity 0 → (xs : List ℤ) (n : ℕ) → length xs ≡ n → All IsShort xs → P (fold_of o xs) n
  fold_of-short none xs n e short = subst (λ k. P (fold_of o xs) k) (omega arith) (along o.identity 0 xs none short)

-- a number no further from 0 than n short elements can get
abbrev pub IsNear : ℤ → ℕ → Type 0
IsNear x n = unsigned_abs x ≤ n * 2 ^ 15

-- one short element more gets a number not further than that
near_more : (t : ℤ) (n : ℕ) (x : ℤ) → IsNear t n → IsShort x → IsNear (t +ℤ x) (n + 1)
near_more t n x h short = omega (arith, ints)

-- the total of eight short elements is near 0
pub near_total : (xs : List ℤ) → length xs ≡ 8 → All IsShort xs → IsNear (total xs) 8
near_total xs e short = fold_of-short record { identity = pos 0; lift = λ x. x; join = ◌+ℤ◌ } IsNear near_more (omega arith) xs 8 e short

-- the low 32 bits of what eight short elements can get to are those of a number of 32 bits with a sign
low-bits : (x : ℤ) → IsNear x 8 → low_32 x ≡ cast_unsigned w32 x
low-bits (pos a) h = omega arith
low-bits (negsuc a) h = omega arith

-- what eight short elements can get to is its low 32 bits, widened
pub widened-low : (x : ℤ) → IsNear x 8 → widened (low_32 x) ≡ x
widened-low x h =
    let fits : FitsSigned w32 x = omega (arith, ints) in
    ap widened (low-bits x h) ∙ to_z-of_z w32 x fits

-- the low 32 bits of the low 64 are those of the number
pub low-low : (x : ℤ) → IsNear x 8 → remainder x (2 ^ 64) % 2 ^ 32 ≡ low_32 x
low-low (pos a) h = omega (arith, ints)
low-low (negsuc a) h = omega (arith, ints)

-- what is there of n elements is kept, and there are elements where it is there
IsKeptIfSome : {T : Type 0} → (T → ℕ → Type 0) → Option T → ℕ → Type 0
IsKeptIfSome P None n = n ≡ 0
IsKeptIfSome P (Some t) n = P t n

-- what is kept of one element, and stays kept with one more, is kept of eight, which there are
module _ {T : Type 0} (lift : ℤ → T) (join : T → T → T) (P : T → ℕ → Type 0) (one : (x : ℤ) → IsShort x → P (lift x) 1) (more : (t : T) (n : ℕ) (x : ℤ) → P t n → IsShort x → P (join t (lift x)) (n + 1)) where
  -- one step
  kept_more : (s : Option T) (n : ℕ) (x : ℤ) → IsKeptIfSome P s n → IsShort x → IsKeptIfSome P (join_of_both join s (Some (lift x))) (n + 1)
  unfolding IsKeptIfSome
  kept_more None n x e short = subst (λ k. P (lift x) k) (omega arith) (one x short)
  kept_more (Some t) n x h short = more t n x h short

  -- of some elements there is a summary
  is_there : (s : Option T) → IsKeptIfSome P s 8 → (t : T) × (s ≡ Some t) × P t 8
  unfolding IsKeptIfSome
  is_there None e = absurd (omega arith)
  is_there (Some t) h = (t, refl, h)

  -- the fold of eight short elements
  pub kept_of_eight : (xs : List ℤ) → length xs ≡ 8 → All IsShort xs → (t : T) × (fold_of (optional_operations lift join) xs ≡ Some t) × P t 8
  unfolding IsKeptIfSome
  kept_of_eight xs eight short =
      is_there (fold_of (optional_operations lift join) xs) (fold_of-short (optional_operations lift join) (IsKeptIfSome P) kept_more refl xs 8 eight short)

-- all four totals are near 0
pub record AreNear (run : RunTotals) (n : ℕ) : Type 0 where
  pub total : IsNear run.total n
  pub prefix : IsNear run.prefix n
  pub suffix : IsNear run.suffix n
  pub best : IsNear run.best n

-- the totals of one short element are near 0
pub near_of_one : (x : ℤ) → IsShort x → AreNear (totals_of x) 1
near_of_one x short =
    let near : IsNear x 1 = omega (arith, ints) in
    record { total = near; prefix = near; suffix = near; best = near }

-- the greater of two numbers that are near is near
near_max : (x y : ℤ) (n : ℕ) → IsNear x n → IsNear y n → IsNear (int_max x y) n
near_max x y n p q = omega (arith, ints, clamps)

-- the totals are near 0 with one short element more
pub near_with_more : (run : RunTotals) (n : ℕ) (x : ℤ) → AreNear run n → IsShort x → AreNear (join_totals run (totals_of x)) (n + 1)
near_with_more run n x h short =
    let later : (y : ℤ) → IsNear y n → IsNear y (n + 1) = λ y near. omega arith in
    let alone : IsNear x (n + 1) = omega (arith, ints) in
    record {
      total = near_more run.total n x h.total short;
      prefix = near_max run.prefix (run.total +ℤ x) (n + 1) (later run.prefix h.prefix) (near_more run.total n x h.total short);
      suffix = near_max x (x +ℤ run.suffix) (n + 1) alone (omega (arith, ints, near_more run.suffix n x h.suffix short));
      best =
          near_max (int_max run.best x) (run.suffix +ℤ x) (n + 1) (near_max run.best x (n + 1) (later run.best h.best) alone)
          (near_more run.suffix n x h.suffix short);
    }

-- short elements can be folded
pub can_fold : (xs : List ℤ) → length xs ≡ 8 → All IsShort xs → CanFold xs
can_fold xs eight short = record { few = omega arith; elements = All-weaker IsShort IsElement (λ x h. omega (arith, ints)) xs short }
