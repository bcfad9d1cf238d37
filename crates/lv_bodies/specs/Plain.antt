-- The value of each kind over a whole list, stated without summaries and their joins.
use Rattle.std.specs.Prelude.{◌≡◌, ◌↔◌, ℕ, ℤ, pos, ◌+ℤ◌, ◌-ℤ◌, ◌≤ℤ◌, ◌+◌, ◌*◌, ◌%◌, ◌^◌, ◌<◌, ◌≤◌, Option, IsNone, IfSome, List, [], length, take, drop, map, fold, All, Contains, slice_index, slice_range}
use Rattle.std.specs.List.{flat_map, reduce, range_with_len, slice_index_or}
use Rattle.std.specs.Int.{int_rem_euclid, int_div_euclid, int_min, int_max}
use Rattle.std.specs.Int.RustNames.{unsigned_abs}
use Rattle.lv_bodies.specs.declared.kinds.Kind.{Kind}
use Rattle.lv_bodies.specs.declared.kinds.Kind.TheVariants.{Sum, Least, Greatest, Best, Affine, Automaton}
use Rattle.lv_bodies.specs.declared.kinds.Shown.{Shown}
use Rattle.lv_bodies.specs.declared.kinds.Shown.TheVariants as shown

-- the remainder of x by n, which is never negative
abbrev pub remainder : ℤ → ℕ → ℕ
remainder x n = unsigned_abs (int_rem_euclid x (pos n))

-- the elements added up
abbrev pub total : List ℤ → ℤ
total xs = fold ◌+ℤ◌ (pos 0) xs

-- sum: the total, modulo 2 ^ 64
abbrev pub plain_sum : List ℤ → ℕ
plain_sum xs = remainder (total xs) (2 ^ 64)

-- least and greatest: that element, or none
abbrev pub plain_least : List ℤ → Option ℤ
plain_least xs = reduce int_min xs

abbrev pub plain_greatest : List ℤ → Option ℤ
plain_greatest xs = reduce int_max xs

-- the least of a list: none if and only if the list is empty, else an element that no element is below
pub record IsPlainLeast (xs : List ℤ) (r : Option ℤ) : Type 0 where
  pub none : IsNone r ↔ (xs ≡ [])
  pub reached : IfSome r (Contains xs)
  pub bound : IfSome r (λ least. All (λ x. least ≤ℤ x) xs)

-- the greatest of a list: none if and only if the list is empty, else an element that is below no element
pub record IsPlainGreatest (xs : List ℤ) (r : Option ℤ) : Type 0 where
  pub none : IsNone r ↔ (xs ≡ [])
  pub reached : IfSome r (Contains xs)
  pub bound : IfSome r (λ greatest. All (λ x. x ≤ℤ greatest) xs)

-- the runs of a list that begin at a place: so many elements side by side, from there on
abbrev pub runs_at : List ℤ → ℕ → List (List ℤ)
runs_at xs i = map (λ n. take (n + 1) (drop i xs)) (range_with_len 0 (length (drop i xs)))

-- the runs of a list: one or more elements side by side
abbrev pub runs_of : List ℤ → List (List ℤ)
runs_of xs = flat_map (runs_at xs) (range_with_len 0 (length xs))

-- a run is the elements from some place up to a later one
pub record IsRunIn (xs run : List ℤ) : Type 0 where
  pub from : ℕ
  pub to : ℕ
  pub before : from < to
  pub within : to ≤ length xs
  pub is : run ≡ slice_range xs from to

-- some run has this total
abbrev pub HasTotal : List ℤ → ℤ → Type 0
HasTotal xs best = (i : ℕ) × (j : ℕ) × (i < j) × (j ≤ length xs) × (total (slice_range xs i j) ≡ best)

-- best: the greatest total of a run, or none
abbrev pub plain_best : List ℤ → Option ℤ
plain_best xs = plain_greatest (map total (runs_of xs))

-- the best total of a list: none if and only if the list is empty, else the greatest total from some place up to a later one
pub record IsPlainBest (xs : List ℤ) (r : Option ℤ) : Type 0 where
  pub none : IsNone r ↔ (xs ≡ [])
  pub reached : IfSome r (HasTotal xs)
  pub bound : IfSome r (λ best. (i j : ℕ) → i < j → j ≤ length xs → total (slice_range xs i j) ≤ℤ best)

-- x / 256, rounded down
abbrev pub over_256 : ℤ → ℤ
over_256 x = int_div_euclid x (pos 256)

-- the number that y becomes if each element x in turn takes it to a * y + b, for a of x / 256 and b of the rest, modulo 2 ^ 32
abbrev pub affine_from : ℕ → List ℤ → ℕ
affine_from y xs = fold (λ y x. (remainder (over_256 x) (2 ^ 32) * y + remainder x 256) % 2 ^ 32) y xs

-- affine: the map as its slope and what it makes of 0, modulo 2 ^ 32
abbrev pub plain_affine : List ℤ → ℕ × ℕ
plain_affine xs = (remainder (pos (affine_from 1 xs) -ℤ pos (affine_from 0 xs)) (2 ^ 32), affine_from 0 xs)

-- the state after each element in turn takes state s to the table's entry for s and the element modulo 4
abbrev pub state_from : List (List ℕ) → ℕ → List ℤ → ℕ
state_from table q xs = fold (λ s x. slice_index (slice_index_or table s []) (remainder x 4)) q xs

-- automaton: the state reached from each of the eight
abbrev pub plain_automaton : List (List ℕ) → List ℤ → List ℕ
plain_automaton table xs = map (λ q. state_from table q xs) (range_with_len 0 8)

-- the program's table: state q goes to (2 * q + c) mod 8 by an element whose remainder by 4 is c
abbrev pub program_table : List (List ℕ)
program_table = map (λ q. map (λ c. (2 * q + c) % 8) (range_with_len 0 4)) (range_with_len 0 8)

-- the plain value of each kind, for automata by a table
abbrev pub plain_value_with : List (List ℕ) → Kind → List ℤ → Shown
plain_value_with table Sum xs = shown.Sum (plain_sum xs)
plain_value_with table Least xs = shown.Least (plain_least xs)
plain_value_with table Greatest xs = shown.Greatest (plain_greatest xs)
plain_value_with table Best xs = shown.Best (plain_best xs)
plain_value_with table Affine xs = shown.Affine (plain_affine xs).0 (plain_affine xs).1
plain_value_with table Automaton xs = shown.Automaton (plain_automaton table xs)

-- the plain value of each kind, by the program's table
abbrev pub plain_value : Kind → List ℤ → Shown
plain_value kind xs = plain_value_with program_table kind xs
