-- The laws of the affine map, and that its fold is the plain one.
use Rattle.std.specs.Prelude.{◌≡◌, ◌↔◌, ◌&&◌, ◌==◌, IsTrue, ℕ, ℤ, pos, ◌+◌, ◌*◌, ◌%◌, ◌^◌, ◌<◌, ◌+ℤ◌, ◌-◌, ◌-ℤ◌, List}
use Rattle.std.proofs.Common.{arith, ap, sym, ◌∙◌}
use Rattle.std.proofs.Math.Nat.{mul_assoc, mod-add-mod, add-mod-mod}
use Rattle.std.proofs.lemmas.Int.{ints}
use Rattle.std.proofs.lemmas.Nat.{mod_below, mul-mod_first, mul-mod_second}
use Rattle.std.proofs.lemmas.List.Folds.{fold_along}
use Rattle.std.proofs.lemmas.Bool.Decides.{Decides-eqb}
use Rattle.lv_bodies.specs.Body.{BodyLaws, CanFold, fold_of}
use Rattle.lv_bodies.specs.FoldLaws.{fold_of-within}
use Rattle.lv_bodies.specs.Plain.{remainder, over_256, affine_from, plain_affine}
use Rattle.lv_bodies.specs.EqualLaws.{both_true, all_true}
use Rattle.lv_bodies.specs.RemainderLaws.{remainder_below, remainder_by}
use Rattle.lv_bodies.specs.AffineMaps.{map_of, join_maps, affine_operations, IsAffineMap}
use Rattle.lv_bodies.specs.declared.affine.AffineMap.{AffineMap}
use Rattle.lv_bodies.specs.declared.kinds.Shown.TheVariants as shown

-- two equal numbers make equal maps
pub same_lines : (p q : AffineMap) → p.a ≡ q.a → p.b ≡ q.b → p ≡ q
same_lines p q e f = ap (λ x. record p { a = x }) e ∙ ap (λ x. record q { b = x }) f

module _ (m : ℕ) where
  -- the slope of three maps, if the first two or the last two are joined first
  slope_assoc : (x y z : ℕ) → ((x * y) % m * z) % m ≡ (x * ((y * z) % m)) % m
  slope_assoc x y z = mul-mod_first (x * y) z m ∙ ap (λ w. w % m) (mul_assoc x y z) ∙ sym (mul-mod_second x (y * z) m)

  -- the number to which three maps take 0, if the first two or the last two are joined first
  start_assoc : (b y c z d : ℕ) → (z * ((y * b + c) % m) + d) % m ≡ ((y * z) % m * b + (z * c + d) % m) % m
  start_assoc b y c z d =
      sym (mod-add-mod (z * ((y * b + c) % m)) m d)
      ∙ ap (λ w. (w + d) % m) (mul-mod_second z (y * b + c) m)
      ∙ mod-add-mod (z * (y * b + c)) m d
      ∙ ap (λ w. w % m) (omega arith)
      ∙ sym (mod-add-mod (y * z * b) m (z * c + d))
      ∙ ap (λ w. (w + (z * c + d)) % m) (sym (mul-mod_first (y * z) b m))
      ∙ mod-add-mod ((y * z) % m * b) m (z * c + d)
      ∙ sym (add-mod-mod ((y * z) % m * b) (z * c + d) m)

-- of three maps the first two or the last two may be joined first
lines_associative : (p q r : AffineMap) → join_maps (join_maps p q) r ≡ join_maps p (join_maps q r)
lines_associative p q r = same_lines _ _ (slope_assoc (2 ^ 32) p.a q.a r.a) (start_assoc (2 ^ 32) p.b q.a q.b r.a r.b)

-- a remainder by 256 is below 2 ^ 32
small : {r : ℕ} → r < 256 → r < 2 ^ 32
small h = omega arith

-- the affine map meets the laws of a body
pub affine_laws : BodyLaws affine_operations IsAffineMap
affine_laws = record {
  identity_within = record { a = omega arith; b = omega arith };
  lift_within = λ x h. record { a = remainder_below (over_256 x) (2 ^ 32) (omega arith); b = small (remainder_below x 256 (omega arith)) };
  join_within = λ p q n m h k few. record { a = mod_below (p.a * q.a) (2 ^ 32) (omega arith); b = mod_below (q.a * p.b + q.b) (2 ^ 32) (omega arith) };
  left_identity = λ p n h few. same_lines _ p (omega (arith, h.a)) (omega (arith, h.b));
  right_identity = λ p n h few. same_lines _ p (omega (arith, h.a)) (omega (arith, h.b));
  associative = λ p q r n m k h i j few. lines_associative p q r;
}

-- a number goes where the map of the fold takes it
goes : (y : ℕ) (xs : List ℤ) → y < 2 ^ 32 → let p = fold_of affine_operations xs in affine_from y xs ≡ (p.a * y + p.b) % 2 ^ 32
goes y xs h =
    fold_along (λ z x. (remainder (over_256 x) (2 ^ 32) * z + remainder x 256) % 2 ^ 32) (λ p x. join_maps p (map_of x))
    (λ z p. z ≡ (p.a * y + p.b) % 2 ^ 32)
    (λ z p x e.
    ap (λ w. (remainder (over_256 x) (2 ^ 32) * w + remainder x 256) % 2 ^ 32) e
    ∙ start_assoc (2 ^ 32) y p.a p.b (remainder (over_256 x) (2 ^ 32)) (remainder x 256))
    y affine_operations.identity xs (omega arith)

-- a map is known by the numbers to which it takes 0 and 1
known_from : (a b at_one at_zero : ℕ) → a < 2 ^ 32 → b < 2 ^ 32 → at_one ≡ (a * 1 + b) % 2 ^ 32 → at_zero ≡ (a * 0 + b) % 2 ^ 32 → (a ≡ remainder (pos at_one -ℤ pos at_zero) (2 ^ 32)) × (b ≡ at_zero)
known_from a b at_one at_zero h k e f =
    let start : b ≡ at_zero = omega arith in
    let moved : pos at_one -ℤ pos at_zero +ℤ pos (1 * 2 ^ 32) ≡ pos (at_one + 2 ^ 32 - at_zero) = omega (arith, ints) in
    let slope : remainder (pos at_one -ℤ pos at_zero) (2 ^ 32) ≡ (at_one + 2 ^ 32 - at_zero) % 2 ^ 32 =
    remainder_by (pos at_one -ℤ pos at_zero) (2 ^ 32) 1 (at_one + 2 ^ 32 - at_zero) (omega arith) moved in
    (omega arith ∙ sym slope, start)

-- the map of the fold is the one that is known by the numbers to which 0 and 1 are taken
pub fold_of-affine : (xs : List ℤ) → CanFold xs → let p = fold_of affine_operations xs in (p.a ≡ (plain_affine xs).0) × (p.b ≡ (plain_affine xs).1)
fold_of-affine xs can =
    let p = fold_of affine_operations xs in
    let within = fold_of-within affine_operations IsAffineMap affine_laws xs can in
    known_from p.a p.b (affine_from 1 xs) (affine_from 0 xs) within.a within.b (goes 1 xs (omega arith)) (goes 0 xs (omega arith))

-- the test of both numbers is true exactly of equal maps
pub exact_maps : (p q : AffineMap) → IsTrue ((p.a == q.a) && (p.b == q.b)) ↔ (p ≡ q)
exact_maps p q = (
  λ h. let (a, b) = both_true (p.a == q.a) _ h in same_lines p q ((Decides-eqb _ _).0 a) ((Decides-eqb _ _).0 b),
  λ e. all_true _ _ ((Decides-eqb p.a q.a).1 (ap (λ x. x.a) e)) ((Decides-eqb p.b q.b).1 (ap (λ x. x.b) e)),
)

-- equal numbers are shown alike
pub shown_alike : (a b c d : ℕ) → a ≡ c → b ≡ d → shown.Affine a b ≡ shown.Affine c d
shown_alike a b c d e f = ap (λ x. shown.Affine x b) e ∙ ap (shown.Affine c) f
