-- Sums of leaves between two places.
use Rattle.std.proofs.Common.{◌≡◌, ◌⊎◌, ℕ, ◌+◌, ◌-◌, ◌%◌, ◌^◌, ◌<◌, ◌≤◌, List, [], ◌∷◌, length, take, drop, sum, get_or, set, fold, refl, ap, ◌∙◌, arith, inl, inr}
use Rattle.std.proofs.lemmas.List.{get_or-drop, get_or-take, length-drop, length-take}
use Rattle.std.proofs.lemmas.List.Sums.{sum_by-append, sum_by-set}
use Rattle.lv_bodies.specs.Sums.{sum_operations}
use Rattle.lv_tree.specs.Parts.{part_of, run_of}
use Rattle.lv_tree.specs.Rows.{sum_between}
use Rattle.lv_tree.proofs.Runs.{run_before_write, run_behind_write, run_cut, run_of_shorter}
use Rattle.lv_tree.proofs.Written.{leaves_written}

-- up to a place, and from there on
pub sum_cut : (xs : List ℕ) (a b c : ℕ) → a ≤ b → b ≤ c → sum_between xs a c ≡ (sum_between xs a b + sum_between xs b c) % 2 ^ 64
sum_cut xs a b c low high =
    let whole : sum (run_of xs a (c - a)) ≡ sum (run_of xs a (b - a)) + sum (run_of xs b (c - b)) = ap sum (run_cut xs a b c low high) ∙ sum_by-append (λ x. x) (run_of xs a (b - a)) (run_of xs b (c - b)) in
    omega (arith, whole)

-- of no leaves
pub sum_none : (xs : List ℕ) (a : ℕ) → sum_between xs a a ≡ 0
sum_none xs a = let none : a - a ≡ 0 = omega arith in ap (λ k. sum (run_of xs a k) % 2 ^ 64) none

-- of fewer leaves
pub sum_front : (xs : List ℕ) (count a b : ℕ) → a ≤ b → b ≤ count → sum_between (take count xs) a b ≡ sum_between xs a b
sum_front xs count a b order high = ap (λ l. sum l % 2 ^ 64) (run_of_shorter xs count a (b - a) (omega (arith, order, high)))

-- without the leaf that is written
pub sum_beside : (xs : List ℕ) (at s a b : ℕ) → a ≤ b → (at < a) ⊎ (b ≤ at) → sum_between (set xs at s) a b ≡ sum_between xs a b
sum_beside xs at s a b order (inl front) = ap (λ l. sum l % 2 ^ 64) (run_behind_write xs at a (b - a) s front)
sum_beside xs at s a b order (inr behind) = ap (λ l. sum l % 2 ^ 64) (run_before_write xs at a (b - a) s (omega (arith, behind, order)))

-- with it
pub sum_written : (xs : List ℕ) (at s a b : ℕ) → a ≤ at → at < b → at < length xs → get_or xs at 0 < 2 ^ 64 → sum_between (set xs at s) a b ≡ (sum_between xs a b + (s + (2 ^ 64 - get_or xs at 0)) % 2 ^ 64) % 2 ^ 64
sum_written xs at s a b low high inside small =
    let n = b - a in
    let ys = run_of xs a n in
    let place : a + (at - a) ≡ at = omega (arith, low) in
    let few : at - a < n = omega (arith, low, high) in
    let here : at - a < length ys = omega (arith, length-take n (drop a xs), length-drop a xs, inside, few, low) in
    let was : get_or ys (at - a) 0 ≡ get_or xs at 0 = get_or-take n (drop a xs) (at - a) 0 few ∙ get_or-drop a xs (at - a) 0 ∙ ap (λ k. get_or xs k 0) place in
    let run : run_of (set xs at s) a n ≡ set ys (at - a) s = leaves_written sum_operations xs a at s b low high in
    let is : sum (run_of (set xs at s) a n) ≡ sum (set ys (at - a) s) = ap sum run in
    let both = sum_by-set (λ x. x) ys (at - a) s 0 here in
    omega (arith, is, both, was, small)

-- the leaves joined in order come to their sum
joined_is_sum : (s : ℕ) (xs : List ℕ) (t : ℕ) → s ≡ t % 2 ^ 64 → fold (λ a b. (a + b) % 2 ^ 64) s xs ≡ (t + sum xs) % 2 ^ 64
joined_is_sum s [] t is = omega (arith, is)
joined_is_sum s (x ∷ xs) t is =
    let next : (s + x) % 2 ^ 64 ≡ (t + x) % 2 ^ 64 = omega (arith, is) in
    let more : sum (x ∷ xs) ≡ 0 + x + sum xs = sum_by-append (λ y. y) (x ∷ []) xs in
    let whole : t + x + sum xs ≡ t + sum (x ∷ xs) = omega (arith, more) in
    joined_is_sum ((s + x) % 2 ^ 64) xs (t + x) next ∙ ap (λ k. k % 2 ^ 64) whole

pub part_is_sum : (xs : List ℕ) (a b : ℕ) → part_of sum_operations xs a b ≡ sum_between xs a b
part_is_sum xs a b = let from_none : 0 + sum (run_of xs a (b - a)) ≡ sum (run_of xs a (b - a)) = omega arith in joined_is_sum 0 (run_of xs a (b - a)) 0 refl ∙ ap (λ k. k % 2 ^ 64) from_none

-- what two prefixes differ by
pub difference : (xs : List ℕ) (from to x y : ℕ) → from ≤ to → x ≡ sum_between xs 0 to → y ≡ sum_between xs 0 from → (x + (2 ^ 64 - y)) % 2 ^ 64 ≡ sum_between xs from to
difference xs from to x y order x_is y_is =
    let both = sum_cut xs 0 from to (omega arith) order in
    omega (arith, both, x_is, y_is)
