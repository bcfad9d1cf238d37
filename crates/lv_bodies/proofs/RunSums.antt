-- That the sums by which two runs are joined fit 128 bits, so that the code's numbers are those of the definition.
use Rattle.std.proofs.Common.{◌≡◌, ℤ, pos, ◌^◌, ◌<◌, ◌+ℤ◌, FitsSigned, arith, ap, sym, subst, ◌∙◌}
use Rattle.std.specs.Int.{int_max, cast_signed, cast_unsigned, w128}
use Rattle.std.specs.Int.RustNames.{unsigned_abs}
use Rattle.std.proofs.lemmas.Int.{ints, clamps, to_z-of_z}
use Rattle.lv_bodies.specs.RunTotals.{totals_of, join_totals, AreSmall}
use Rattle.lv_bodies.specs.TotalsLaws.{same_runs}
use Rattle.lv_bodies.specs.declared.best.RunTotals.{RunTotals}

-- a number as the code reads it back from its 128 bits
abbrev pub read_back : ℤ → ℤ
read_back x = cast_signed w128 (cast_unsigned w128 x)

-- a number so small that it can be added to another one
abbrev pub IsSmall : ℤ → Type 0
IsSmall x = unsigned_abs x < 2 ^ 126

-- it is read as it is
pub read_small : (x : ℤ) → IsSmall x → read_back x ≡ x
read_small x h = to_z-of_z w128 x (omega (arith, ints))

-- small numbers can be added
pub sum_fits : (x y : ℤ) → IsSmall x → IsSmall y → FitsSigned w128 (read_back x +ℤ read_back y)
sum_fits x y p q =
    let left : FitsSigned w128 x = omega (arith, ints) in
    let right : FitsSigned w128 y = omega (arith, ints) in
    simp to_z-of_z (omega (arith, ints))

-- and the code reads the sum itself
pub read_sum : (x y : ℤ) → IsSmall x → IsSmall y → read_back (read_back x +ℤ read_back y) ≡ x +ℤ y
read_sum x y p q =
    let left : FitsSigned w128 x = omega (arith, ints) in
    let right : FitsSigned w128 y = omega (arith, ints) in
    let both : FitsSigned w128 (x +ℤ y) = omega (arith, ints) in
    simp to_z-of_z

-- a greater number that is read is that of the numbers, if they fit
greater_read : (x y a b m : ℤ) → FitsSigned w128 x → FitsSigned w128 y → a ≡ x → b ≡ y → m ≡ int_max a b → read_back m ≡ int_max x y
greater_read x y a b m p q e f g =
    let is : m ≡ int_max x y = g ∙ ap (λ z. int_max z b) e ∙ ap (int_max x) f in
    ap read_back is ∙ to_z-of_z w128 (int_max x y) (omega (arith, ints, clamps))

-- a small number fits into 128 bits, and the sum of two small numbers does too
fits : (x : ℤ) → IsSmall x → FitsSigned w128 x
fits x h = omega (arith, ints)

both_fit : (x y : ℤ) → IsSmall x → IsSmall y → FitsSigned w128 (x +ℤ y)
both_fit x y p q = omega (arith, ints)

greater_fits : (x y : ℤ) → FitsSigned w128 x → FitsSigned w128 y → FitsSigned w128 (int_max x y)
greater_fits x y p q = omega (arith, ints, clamps)

-- what the code computes is the runs joined
pub joined_by_code : (r s : RunTotals) → AreSmall r → AreSmall s → (prefix suffix inner best : ℤ)
    → prefix ≡ int_max (read_back r.prefix) (read_back (read_back r.total +ℤ read_back s.prefix))
    → suffix ≡ int_max (read_back s.suffix) (read_back (read_back s.total +ℤ read_back r.suffix))
    → inner ≡ int_max (read_back r.best) (read_back s.best)
    → best ≡ int_max (read_back inner) (read_back (read_back r.suffix +ℤ read_back s.prefix))
    → ◌≡◌ {A = RunTotals} record { total = read_back (read_back r.total +ℤ read_back s.total); prefix = read_back prefix; suffix = read_back suffix; best = read_back best } (join_totals r s)
joined_by_code r s p q prefix suffix inner best d e f g =
    let inner_is = greater_read r.best s.best _ _ inner (fits r.best p.best) (fits s.best q.best) (read_small r.best p.best) (read_small s.best q.best) f in
    let best_fits = greater_fits r.best s.best (fits r.best p.best) (fits s.best q.best) in
    same_runs _ (join_totals r s) (read_sum r.total s.total p.total q.total)
    (greater_read r.prefix _ _ _ prefix (fits r.prefix p.prefix) (both_fit r.total s.prefix p.total q.prefix) (read_small r.prefix p.prefix) (read_sum r.total s.prefix p.total q.prefix) d)
    (greater_read s.suffix _ _ _ suffix (fits s.suffix q.suffix) (both_fit s.total r.suffix q.total p.suffix) (read_small s.suffix q.suffix) (read_sum s.total r.suffix q.total p.suffix) e)
    (greater_read (int_max r.best s.best) _ _ _ best best_fits (both_fit r.suffix s.prefix p.suffix q.prefix) inner_is (read_sum r.suffix s.prefix p.suffix q.prefix) g)

-- the greatest total at the end goes on with an element from what was there, or begins anew
goes_on : (s x : ℤ) → int_max s (pos 0) +ℤ x ≡ int_max x (x +ℤ s)
goes_on s x = omega (arith, ints, clamps)

-- and the greatest total is the one before, or that
best_goes_on : (b s x : ℤ) → int_max b (int_max x (x +ℤ s)) ≡ int_max (int_max b x) (s +ℤ x)
best_goes_on b s x = omega (arith, ints, clamps)

-- the greater of a small number and of 0 is small
not_below_0 : (x : ℤ) → IsSmall x → IsSmall (int_max x (pos 0))
not_below_0 x h = omega (arith, ints, clamps)

-- what the code computes of one element more, read as y, is the run joined with that of the element
pub pushed_by_code : (r : RunTotals) (x y : ℤ) → AreSmall r → IsSmall x → y ≡ x → (end prefix best total suffix : ℤ)
    → end ≡ int_max (read_back r.suffix) (pos 0)
    → total ≡ read_back (read_back r.total +ℤ read_back y)
    → suffix ≡ read_back (read_back end +ℤ read_back y)
    → prefix ≡ int_max (read_back r.prefix) total
    → best ≡ int_max (read_back r.best) suffix
    → ◌≡◌ {A = RunTotals} record { total = total; prefix = read_back prefix; suffix = suffix; best = read_back best } (join_totals r (totals_of x))
pushed_by_code r x y p q e end prefix best total suffix f g h k l =
    let y_small : IsSmall y = subst IsSmall (sym e) q in
    let end_is : end ≡ int_max r.suffix (pos 0) = f ∙ ap (λ z. int_max z (pos 0)) (read_small r.suffix p.suffix) in
    let end_small : IsSmall end = subst IsSmall (sym end_is) (not_below_0 r.suffix p.suffix) in
    let total_is : total ≡ r.total +ℤ x = g ∙ read_sum r.total y p.total y_small ∙ ap (λ z. r.total +ℤ z) e in
    let suffix_is : suffix ≡ int_max x (x +ℤ r.suffix) = h ∙ read_sum end y end_small y_small ∙ ap (λ z. z +ℤ y) end_is ∙ ap (λ z. int_max r.suffix (pos 0) +ℤ z) e ∙ goes_on r.suffix x in
    let total_fits : FitsSigned w128 (r.total +ℤ x) = both_fit r.total x p.total q in
    let suffix_fits : FitsSigned w128 (int_max x (x +ℤ r.suffix)) = greater_fits x (x +ℤ r.suffix) (fits x q) (both_fit x r.suffix q p.suffix) in
    same_runs _ (join_totals r (totals_of x)) total_is
    (greater_read r.prefix (r.total +ℤ x) _ _ prefix (fits r.prefix p.prefix) total_fits (read_small r.prefix p.prefix) total_is k)
    suffix_is
    (greater_read r.best (int_max x (x +ℤ r.suffix)) _ _ best (fits r.best p.best) suffix_fits (read_small r.best p.best) suffix_is l ∙ best_goes_on r.best r.suffix x)
