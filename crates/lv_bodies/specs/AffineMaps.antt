-- The operations of the affine map: maps of numbers below 2 ^ 32, taken one after the other.
use Rattle.std.specs.Prelude.{ℕ, ℤ, ◌+◌, ◌*◌, ◌%◌, ◌^◌, ◌<◌}
use Rattle.lv_bodies.specs.Body.{Operations}
use Rattle.lv_bodies.specs.Plain.{remainder, over_256}
use Rattle.lv_bodies.specs.declared.affine.AffineMap.{AffineMap}

-- the map that an element x is: from y to a * y + b, for a of x / 256 rounded down, modulo 2 ^ 32, and b the rest
abbrev pub map_of : ℤ → AffineMap
map_of x = record { a = remainder (over_256 x) (2 ^ 32); b = remainder x 256 }

-- the map p, and then the map q
abbrev pub join_maps : AffineMap → AffineMap → AffineMap
join_maps p q = record { a = (p.a * q.a) % 2 ^ 32; b = (q.a * p.b + q.b) % 2 ^ 32 }

-- no elements leave each number as it is
abbrev pub affine_operations : Operations AffineMap
affine_operations = record {
  identity = record { a = 1; b = 0 };
  lift = map_of;
  join = join_maps;
}

-- any map of numbers below 2 ^ 32, of however many elements
pub record IsAffineMap (p : AffineMap) (n : ℕ) : Type 0 where
  pub a : p.a < 2 ^ 32
  pub b : p.b < 2 ^ 32
