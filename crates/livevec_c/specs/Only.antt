-- By which kinds a vector may be asked that is of one kind, or of all six.
use Rattle.std.specs.Prelude.{ℕ, Bool, true, false, Option, Some, None, nat_eq, option_map}
use Rattle.lv_bodies.specs.declared.kinds.Kind.{Kind}
use Rattle.livevec_c.specs.Kinds.{kind_at, number_of_kind}

-- a vector of all six kinds is asked by each of them, and by all six at once; a vector of one kind only by that one
abbrev pub is_asked_by : Option Kind → Option Kind → Bool
is_asked_by None asked = true
is_asked_by (Some only) None = false
is_asked_by (Some only) (Some kind) = nat_eq (number_of_kind only) (number_of_kind kind)

-- the kinds of a new vector: all six, or the one that a number names, if it names one
abbrev pub only_asked : Bool → ℕ → Option (Option Kind)
only_asked true kind = Some None
only_asked false kind = option_map Some (kind_at kind)
