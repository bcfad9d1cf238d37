-- When a test of equality holds exactly of equal values, at what is made of values.
use Rattle.std.specs.Prelude.{Bool, true, false, ◌&&◌, IsTrue, nat_eq, Some, None, refl}
use Rattle.std.specs.Option.{option_eq}
use Rattle.std.specs.Cmp.Lexicographic.{pointwise}
use Rattle.std.proofs.lemmas.Bool.Decides.{Decides-eqb}
use Rattle.std.proofs.lemmas.Slice.Eq.{slice_eq-Decides}
use Rattle.std.proofs.Common.{ap, ◌∙◌}
use Rattle.lv_bodies.specs.Body.{IsExact}

-- two tests are true together if each is
pub all_true : (a b : Bool) → IsTrue a → IsTrue b → IsTrue (a && b)
all_true a b p q = ap (λ c. c && b) p ∙ q

-- each of two tests is true if both are together
pub both_true : (a b : Bool) → IsTrue (a && b) → IsTrue a × IsTrue b
both_true true true h = (refl, refl)
both_true true false h = absurd (cc)
both_true false b h = absurd (cc)

-- a test of what may be missing is exact if that of what is there is
pub exact_option : {T : Type 0} (E : T → T → Bool) → IsExact E → IsExact (option_eq E)
exact_option E exact None None = (λ _. refl, λ _. refl)
exact_option E exact None (Some y) = ((λ h. absurd (cc)), (λ e. absurd (cc)))
exact_option E exact (Some x) None = ((λ h. absurd (cc)), (λ e. absurd (cc)))
exact_option E exact (Some x) (Some y) = (λ h. ap Some ((exact x y).0 h), λ e. (exact x y).1 (cc))

-- a test of lists is exact if that of their elements is
pub exact_pointwise : {T : Type 0} (E : T → T → Bool) → IsExact E → IsExact (pointwise E)
exact_pointwise E exact xs ys = slice_eq-Decides (λ x y. exact x y) xs ys (pointwise E xs ys) refl

-- the test of lists of numbers is exact
pub exact_numbers : IsExact (pointwise nat_eq)
exact_numbers = exact_pointwise nat_eq Decides-eqb
