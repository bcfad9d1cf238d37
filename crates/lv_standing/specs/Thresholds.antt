-- When a note of an answer is due.
use Rattle.std.specs.Prelude.{ℤ, Bool, ◌&&◌, false, Option, Some, None, not, int_le, nat_eq}
use Rattle.std.specs.Bool.{beq}
use Rattle.std.specs.Int.{w64, cast_signed}
use Rattle.std.specs.Option.{option_eq, option_map_or}
use Rattle.std.specs.Ordering.{int_eq}
use Rattle.std.specs.Str.{bytes_eq}
use Rattle.lv_bodies.specs.declared.kinds.Shown.{Shown}
use Rattle.lv_bodies.specs.declared.kinds.Shown.TheVariants.{Sum, Least, Greatest, Best, Affine, Automaton}
use Rattle.lv_tree.specs.declared.places.Bound.{Bound}
use Rattle.lv_tree.specs.declared.places.Bound.TheVariants.{AtLeast, AtMost}

-- whether two answers are the same
abbrev pub same_value : Shown → Shown → Bool
same_value (Sum a) (Sum b) = nat_eq a b
same_value (Least a) (Least b) = option_eq int_eq a b
same_value (Greatest a) (Greatest b) = option_eq int_eq a b
same_value (Best a) (Best b) = option_eq int_eq a b
same_value (Affine a b) (Affine c d) = nat_eq a c && nat_eq b d
same_value (Automaton a) (Automaton b) = bytes_eq a b
same_value _ _ = false

-- the number that an answer is, if it is one number; a sum is read as signed, by its 64 bits
abbrev pub number_in : Shown → Option ℤ
number_in (Sum n) = Some (cast_signed w64 n)
number_in (Least x) = x
number_in (Greatest x) = x
number_in (Best x) = x
number_in (Affine a b) = None
number_in (Automaton states) = None

-- whether a number is within a bound: at least so great, or at most
abbrev pub is_within : Bound → ℤ → Bool
is_within (AtLeast least) x = int_le least x
is_within (AtMost most) x = int_le x most

-- whether an answer is within a bound; an answer that is no number isn't
abbrev pub holds : Bound → Shown → Bool
holds bound answer = option_map_or (is_within bound) (number_in answer) false

-- whether the answer begins or ceases to be within a bound, from one answer to the next
abbrev pub crosses : Bound → Shown → Shown → Bool
crosses bound before now = not (beq (holds bound before) (holds bound now))

-- whether a note is due: without a bound, if the answer differs from the one before; with a bound, if it begins or ceases to be within it
abbrev pub is_due : Option Bound → Shown → Shown → Bool
is_due None before now = not (same_value now before)
is_due (Some bound) before now = crosses bound before now
