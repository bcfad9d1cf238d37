-- A new vector at equal limits and an equal table.
use Rattle.std.proofs.Common.{◌≡◌, ℕ, List, subst}
use Rattle.std.specs.Prelude.{Option}
use Rattle.lv_geometry.specs.Bounds.{Bounds}
use Rattle.lv_bodies.specs.declared.kinds.Kind.{Kind}
use Rattle.livevec_c.specs.declared.objects.Object.{Object}
use Rattle.livevec_c.specs.Lives.{OpensAt}

pub opens_alike : (only : Option Kind) (k l : Bounds) (t u : List (List ℕ)) (number : ℕ) (new : Option Object) → k ≡ l → t ≡ u → OpensAt only k t number new → OpensAt only l u number new
opens_alike only k l t u number new e f opens = subst (λ s. OpensAt only l s number new) f (subst (λ j. OpensAt only j t number new) e opens)
