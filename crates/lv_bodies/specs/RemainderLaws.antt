-- Laws of the remainder that is never negative.
use Rattle.std.specs.Prelude.{◌≡◌, ℕ, ℤ, pos, negsuc, ◌+◌, ◌-◌, ◌*◌, ◌%◌, ◌<◌, ◌≤◌, ◌+ℤ◌, refl}
use Rattle.std.proofs.Common.{arith, ap, ◌∙◌, sym, suc}
use Rattle.std.proofs.Math.Nat.{add-mod, le-mul_of_pos_right}
use Rattle.std.proofs.lemmas.Int.{ints, int_rem_euclid_is}
use Rattle.std.proofs.lemmas.Nat.{mod_below}
use Rattle.std.specs.Int.RustNames.{unsigned_abs}
use Rattle.lv_bodies.specs.Plain.{remainder}

-- a remainder is below what it is taken by
pub remainder_below : (x : ℤ) (n : ℕ) → 0 < n → remainder x n < n
remainder_below (pos a) n h = mod_below a n h
remainder_below (negsuc a) n h = omega arith

-- a number moved up by k times n to the natural m has the remainder of m
pub remainder_by : (x : ℤ) (n k m : ℕ) → 0 < n → x +ℤ pos (k * n) ≡ pos m → remainder x n ≡ m % n
remainder_by x n k m h moved = ap unsigned_abs (int_rem_euclid_is x (pos n) n k m h refl moved)

-- how far up a number may be moved so that it is a natural
record MovesUp (x : ℤ) (n : ℕ) : Type 0 where
  by : ℕ
  to : ℕ
  moved : x +ℤ pos (by * n) ≡ pos to

-- every number may be moved up so
moved_up : (x : ℤ) (n : ℕ) → 0 < n → MovesUp x n
moved_up (pos a) n h = record { by = 0; to = a; moved = omega (arith, ints) }
moved_up (negsuc a) n h =
    let enough : suc a ≤ suc a * n = le-mul_of_pos_right (suc a) h in
    record { by = suc a; to = suc a * n - suc a; moved = omega (arith, ints) }

-- a number has the remainder of the natural that it is moved up to
remainder_moved : (x : ℤ) (n : ℕ) → 0 < n → (m : MovesUp x n) → remainder x n ≡ m.to % n
remainder_moved x n h m = remainder_by x n m.by m.to h m.moved

-- remainders are added modulo n
pub remainder-add : (a b : ℤ) (n : ℕ) → 0 < n → remainder (a +ℤ b) n ≡ (remainder a n + remainder b n) % n
remainder-add a b n h =
    let p = moved_up a n h in
    let q = moved_up b n h in
    let sum : MovesUp (a +ℤ b) n = record { by = p.by + q.by; to = p.to + q.to; moved = omega (arith, ints, p.moved, q.moved) } in
    remainder_moved (a +ℤ b) n h sum ∙ add-mod p.to q.to n
    ∙ ap (λ r. (r + q.to % n) % n) (sym (remainder_moved a n h p))
    ∙ ap (λ r. (remainder a n + r) % n) (sym (remainder_moved b n h q))
