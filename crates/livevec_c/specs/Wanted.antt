-- The searches of a range that numbers name, and the kind that each needs.
use Rattle.std.specs.Prelude.{ℕ, ℤ, Option, [], ◌∷◌, slice_get}
use Rattle.lv_bodies.specs.declared.kinds.Kind.{Kind}
use Rattle.lv_bodies.specs.declared.kinds.Kind.TheVariants as kinds
use Rattle.lv_tree.specs.Where.{kind_within}
use Rattle.lv_tree.specs.declared.places.Bound.TheVariants.{AtLeast, AtMost}
use Rattle.livevec_c.specs.declared.wanted.Wanted.{Wanted as Sought}
use Rattle.livevec_c.specs.declared.wanted.Wanted.TheVariants.{Least, Greatest, Best, Reaches, ReachesBack, First, Last}

abbrev pub wanted_at : ℕ → ℤ → Option Sought
wanted_at number x =
    slice_get (Least ∷ Greatest ∷ Best ∷ Reaches x ∷ ReachesBack x ∷ First (AtLeast x) ∷ First (AtMost x) ∷ Last (AtLeast x) ∷ Last (AtMost x) ∷ []) number

abbrev pub kind_sought : Sought → Kind
kind_sought Least = kinds.Least
kind_sought Greatest = kinds.Greatest
kind_sought Best = kinds.Best
kind_sought (Reaches sum) = kinds.Best
kind_sought (ReachesBack sum) = kinds.Best
kind_sought (First bound) = kind_within bound
kind_sought (Last bound) = kind_within bound
