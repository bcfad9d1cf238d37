-- The map of a fold, of however many elements, is the one that is shown.
use Rattle.std.proofs.Common.{◌≡◌, ℕ, ℤ, pos, ◌+◌, ◌*◌, ◌%◌, ◌^◌, ◌<◌, ◌-ℤ◌, ◌+ℤ◌, ◌-◌, List, [], ◌∷◌, fold, ap, sym, ◌∙◌, arith}
use Rattle.std.proofs.Math.Nat.{mod-add-mod, add-mod-mod}
use Rattle.std.proofs.lemmas.Int.{ints}
use Rattle.std.proofs.lemmas.Nat.{mod_below, mul-mod_first, mul-mod_second}
use Rattle.std.proofs.lemmas.List.Folds.{fold_along}
use Rattle.lv_bodies.specs.AffineMaps.{IsAffineMap, affine_operations, join_maps, map_of}
use Rattle.lv_bodies.specs.Body.{fold_of}
use Rattle.lv_bodies.specs.Plain.{affine_from, over_256, plain_affine, remainder}
use Rattle.lv_bodies.specs.RemainderLaws.{remainder_by}
use Rattle.lv_bodies.specs.declared.affine.AffineMap.{AffineMap}

-- the number to which a map takes a number after another map
start_assoc : (m b y c z d : ℕ) → (z * ((y * b + c) % m) + d) % m ≡ ((y * z) % m * b + (z * c + d) % m) % m
start_assoc m b y c z d =
    sym (mod-add-mod (z * ((y * b + c) % m)) m d)
    ∙ ap (λ w. (w + d) % m) (mul-mod_second z (y * b + c) m)
    ∙ mod-add-mod (z * (y * b + c)) m d
    ∙ ap (λ w. w % m) (omega arith)
    ∙ sym (mod-add-mod (y * z * b) m (z * c + d))
    ∙ ap (λ w. (w + (z * c + d)) % m) (sym (mul-mod_first (y * z) b m))
    ∙ mod-add-mod ((y * z) % m * b) m (z * c + d)
    ∙ sym (add-mod-mod ((y * z) % m * b) (z * c + d) m)

-- a number is taken where the map of the fold takes it
goes : (y : ℕ) (xs : List ℤ) → y < 2 ^ 32 → let p = fold_of affine_operations xs in affine_from y xs ≡ (p.a * y + p.b) % 2 ^ 32
goes y xs h =
    fold_along (λ z x. (remainder (over_256 x) (2 ^ 32) * z + remainder x 256) % 2 ^ 32) (λ p x. join_maps p (map_of x))
    (λ z p. z ≡ (p.a * y + p.b) % 2 ^ 32)
    (λ z p x e.
    ap (λ w. (remainder (over_256 x) (2 ^ 32) * w + remainder x 256) % 2 ^ 32) e
    ∙ start_assoc (2 ^ 32) y p.a p.b (remainder (over_256 x) (2 ^ 32)) (remainder x 256))
    y affine_operations.identity xs (omega arith)

-- a map is known from the numbers to which it takes 0 and 1
known_from : (a b at_one at_zero : ℕ) → a < 2 ^ 32 → b < 2 ^ 32 → at_one ≡ (a * 1 + b) % 2 ^ 32 → at_zero ≡ (a * 0 + b) % 2 ^ 32 → (a ≡ remainder (pos at_one -ℤ pos at_zero) (2 ^ 32)) × (b ≡ at_zero)
known_from a b at_one at_zero h k e f =
    let start : b ≡ at_zero = omega arith in
    let moved : pos at_one -ℤ pos at_zero +ℤ pos (1 * 2 ^ 32) ≡ pos (at_one + 2 ^ 32 - at_zero) = omega (arith, ints) in
    let slope : remainder (pos at_one -ℤ pos at_zero) (2 ^ 32) ≡ (at_one + 2 ^ 32 - at_zero) % 2 ^ 32 =
    remainder_by (pos at_one -ℤ pos at_zero) (2 ^ 32) 1 (at_one + 2 ^ 32 - at_zero) (omega arith) moved in
    (omega arith ∙ sym slope, start)

-- the numbers of a fold's map are below 2 ^ 32
maps_within : (p : AffineMap) (xs : List ℤ) → IsAffineMap p 0 → IsAffineMap (fold (λ p x. join_maps p (map_of x)) p xs) 0
maps_within p [] h = h
maps_within p (x ∷ xs) h =
    maps_within (join_maps p (map_of x)) xs
    record { a = mod_below (p.a * (map_of x).a) (2 ^ 32) (omega arith); b = mod_below ((map_of x).a * p.b + (map_of x).b) (2 ^ 32) (omega arith) }

-- the fold's map is the one that is known from the numbers to which 0 and 1 are taken
pub fold_of-maps : (xs : List ℤ) → let p = fold_of affine_operations xs in (p.a ≡ (plain_affine xs).0) × (p.b ≡ (plain_affine xs).1)
fold_of-maps xs =
    let p = fold_of affine_operations xs in
    let within = maps_within affine_operations.identity xs record { a = omega arith; b = omega arith } in
    known_from p.a p.b (affine_from 1 xs) (affine_from 0 xs) within.a within.b (goes 1 xs (omega arith)) (goes 0 xs (omega arith))
