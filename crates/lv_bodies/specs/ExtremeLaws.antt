-- The laws of the least and the greatest, and that their folds are the plain ones.
use Rattle.std.specs.Prelude.{true, false, cond, int_lt, ◌≡◌, ◌⊎◌, ℤ, pos, negsuc, ◌-◌, ◌^◌, Some, List, [], ◌∷◌, refl}
use Rattle.std.specs.Int.{int_min, int_max}
use Rattle.std.specs.List.{reduce}
use Rattle.std.proofs.Common.{arith, ap, sym, subst, inl, inr}
use Rattle.std.proofs.lemmas.Int.{ints, clamps}
use Rattle.std.proofs.lemmas.List.Folds.{fold_along}
use Rattle.lv_geometry.specs.Elements.{IsElement}
use Rattle.lv_bodies.specs.Body.{BodyLaws, fold_of}
use Rattle.lv_bodies.specs.Plain.{plain_least, plain_greatest}
use Rattle.lv_bodies.specs.Optional.{join_of_both}
use Rattle.lv_bodies.specs.OptionalLaws.{optional_laws}
use Rattle.lv_bodies.specs.Extremes.{OrderLaws, IsExtreme, IsBareExtreme, extreme_operations, bare_operations, least_operations, greatest_operations}

-- of three the smaller of the first two or of the last two may be taken first
pub int_min_assoc : (x y z : ℤ) → int_min (int_min x y) z ≡ int_min x (int_min y z)
int_min_assoc x y z = omega (arith, ints, clamps)

-- of three the greater of the first two or of the last two may be taken first
pub int_max_assoc : (x y z : ℤ) → int_max (int_max x y) z ≡ int_max x (int_max y z)
int_max_assoc x y z = omega (arith, ints, clamps)

-- one of two is one of them
int_min_one_of : (x y : ℤ) → (int_min x y ≡ x) ⊎ (int_min x y ≡ y)
int_min_one_of x y = elim (int_lt y x) as (λ b. (cond b y x ≡ x) ⊎ (cond b y x ≡ y)) [ true ↦ inr refl | false ↦ inl refl ]

int_max_one_of : (x y : ℤ) → (int_max x y ≡ x) ⊎ (int_max x y ≡ y)
int_max_one_of x y = elim (int_lt y x) as (λ b. (cond b x y ≡ x) ⊎ (cond b x y ≡ y)) [ true ↦ inl refl | false ↦ inr refl ]

-- the order by which the smaller comes first
pub upward : OrderLaws int_min (pos (2 ^ 63 - 1))
upward = record {
  one_of = int_min_one_of;
  associative = int_min_assoc;
  last_element = omega (arith, ints);
  before_last = λ x p. omega (arith, ints, clamps);
  after_any = λ x p. omega (arith, ints, clamps);
}

-- the order by which the greater comes first
pub downward : OrderLaws int_max (negsuc (2 ^ 63 - 1))
downward = record {
  one_of = int_max_one_of;
  associative = int_max_assoc;
  last_element = omega (arith, ints);
  before_last = λ x p. omega (arith, ints, clamps);
  after_any = λ x p. omega (arith, ints, clamps);
}

module _ (first : ℤ → ℤ → ℤ) (last : ℤ) (order : OrderLaws first last) where
  -- what holds of two elements holds of the one that comes first
  pub first_holds : (P : ℤ → Type 0) (x y : ℤ) → P x → P y → P (first x y)
  first_holds P x y p q = elim (order.one_of x y) [ inl e ↦ subst P (sym e) p | inr e ↦ subst P (sym e) q ]

  -- the first of all meets the laws of a body
  pub extreme_laws : BodyLaws (extreme_operations first) IsExtreme
  extreme_laws = optional_laws (λ x. x) first (λ x n. IsElement x) record {
    lift_within = λ x p. p;
    join_within = λ x y n m p q few. first_holds IsElement x y p q;
    more_within = λ x n m h p. p;
    associative = order.associative;
  }

  -- the bare form of the first of all meets the laws of a body too
  pub bare_laws : BodyLaws (bare_operations first last) IsBareExtreme
  bare_laws = record {
    identity_within = order.last_element;
    lift_within = λ x p. p;
    join_within = λ x y n m p q few. first_holds IsElement x y p q;
    left_identity = λ x n p few. order.after_any x p;
    right_identity = λ x n p few. order.before_last x p;
    associative = λ x y z n m k p q r few. order.associative x y z;
  }

-- the least meets the laws of a body
pub least_laws : BodyLaws least_operations IsExtreme
least_laws = extreme_laws int_min _ upward

-- the greatest meets the laws of a body
pub greatest_laws : BodyLaws greatest_operations IsExtreme
greatest_laws = extreme_laws int_max _ downward

-- the fold by a choice between two elements is that choice among all
pub fold_of-choice : (choose : ℤ → ℤ → ℤ) (xs : List ℤ) → fold_of (extreme_operations choose) xs ≡ reduce choose xs
fold_of-choice choose [] = refl
fold_of-choice choose (x ∷ xs) =
    fold_along (λ s y. join_of_both choose s (Some y)) choose (λ s z. s ≡ Some z)
    (λ s z y e. ap (λ t. join_of_both choose t (Some y)) e) (Some x) x xs refl

-- the fold is the plain least
pub fold_of-least : (xs : List ℤ) → fold_of least_operations xs ≡ plain_least xs
fold_of-least = fold_of-choice int_min

-- the fold is the plain greatest
pub fold_of-greatest : (xs : List ℤ) → fold_of greatest_operations xs ≡ plain_greatest xs
fold_of-greatest = fold_of-choice int_max
