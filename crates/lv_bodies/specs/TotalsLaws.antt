-- The laws of the best run.
use Rattle.std.specs.Prelude.{IsTrue, ◌&&◌, ◌↔◌, ◌≡◌, ℕ, ℤ, ◌+◌, ◌≤◌, ◌+ℤ◌}
use Rattle.std.specs.Int.{int_max}
use Rattle.std.proofs.Common.{arith, ap, sym, ◌∙◌}
use Rattle.std.proofs.Math.IntN.{+ℤ_assoc}
use Rattle.std.proofs.lemmas.Int.{ints, clamps}
use Rattle.std.specs.Ordering.{int_eq}
use Rattle.std.proofs.lemmas.Bool.Decides.{Decides-int_eq}
use Rattle.lv_bodies.specs.EqualLaws.{both_true, all_true}
use Rattle.lv_geometry.specs.Elements.{IsElement}
use Rattle.lv_bodies.specs.Body.{BodyLaws}
use Rattle.lv_bodies.specs.OptionalLaws.{optional_laws}
use Rattle.lv_bodies.specs.ExtremeLaws.{int_max_assoc}
use Rattle.lv_bodies.specs.RunTotals.{totals_of, join_totals, best_operations, IsTotalOf, AreTotalsOf, IsBest}
use Rattle.lv_bodies.specs.declared.best.RunTotals.{RunTotals}

-- four equal numbers make equal runs
pub same_runs : (r s : RunTotals) → r.total ≡ s.total → r.prefix ≡ s.prefix → r.suffix ≡ s.suffix → r.best ≡ s.best → r ≡ s
same_runs r s t p u b =
    ap (λ x. record r { total = x }) t ∙ ap (λ x. record r { total = s.total; prefix = x }) p
    ∙ ap (λ x. record s { suffix = x; best = r.best }) u ∙ ap (λ x. record s { best = x }) b

-- what begins on the left: of three parts it ends in the first, the second or the third
prefix_assoc : (p t q u r : ℤ) → int_max (int_max p (t +ℤ q)) ((t +ℤ u) +ℤ r) ≡ int_max p (t +ℤ int_max q (u +ℤ r))
prefix_assoc p t q u r = omega (arith, ints, clamps)

-- what ends on the right: of three parts it begins in the third, the second or the first
suffix_assoc : (s t q u r : ℤ) → int_max s (t +ℤ int_max q (u +ℤ r)) ≡ int_max (int_max s (t +ℤ q)) ((u +ℤ t) +ℤ r)
suffix_assoc s t q u r = omega (arith, ints, clamps)

-- the test of all four numbers is true exactly of equal runs
pub exact_totals : (r s : RunTotals) → IsTrue (int_eq r.total s.total && (int_eq r.prefix s.prefix && (int_eq r.suffix s.suffix && int_eq r.best s.best))) ↔ (r ≡ s)
exact_totals r s = (
  λ h.
      let (total, later) = both_true (int_eq r.total s.total) _ h in
      let (prefix, last) = both_true (int_eq r.prefix s.prefix) _ later in
      let (suffix, best) = both_true (int_eq r.suffix s.suffix) _ last in
      same_runs r s ((Decides-int_eq _ _).0 total) ((Decides-int_eq _ _).0 prefix) ((Decides-int_eq _ _).0 suffix) ((Decides-int_eq _ _).0 best),
  λ e.
      let number : (f : RunTotals → ℤ) → IsTrue (int_eq (f r) (f s)) = λ f. (Decides-int_eq (f r) (f s)).1 (ap f e) in
      all_true _ _ (number (λ x. x.total)) (all_true _ _ (number (λ x. x.prefix)) (all_true _ _ (number (λ x. x.suffix)) (number (λ x. x.best)))),
)

-- to add to the greater of two is to add to both
max-add : (x y z : ℤ) → int_max x y +ℤ z ≡ int_max (x +ℤ z) (y +ℤ z)
max-add x y z = omega (arith, ints, clamps)

-- to add the greater of two is to add both
add-max : (z x y : ℤ) → z +ℤ int_max x y ≡ int_max (z +ℤ x) (z +ℤ y)
add-max z x y = omega (arith, ints, clamps)

-- a sum over both seams of three parts may begin on either side
across : (x y z : ℤ) → (x +ℤ y) +ℤ z ≡ y +ℤ (x +ℤ z)
across x y z = omega (arith, ints)

-- the greater of two is the same in either order
max_comm : (x y : ℤ) → int_max x y ≡ int_max y x
max_comm x y = omega (arith, ints, clamps)

-- what six values make by a choice that may be grouped and turned at will
module _ (op : ℤ → ℤ → ℤ) (assoc : (x y z : ℤ) → op (op x y) z ≡ op x (op y z)) (comm : (x y : ℤ) → op x y ≡ op y x) where
  -- the first two of three operands may change places
  left_comm : (x y z : ℤ) → op x (op y z) ≡ op y (op x z)
  left_comm x y z = sym (assoc x y z) ∙ ap (λ w. op w z) (comm x y) ∙ assoc y x z

  -- the best of three parts, of both seams and of what goes over both, grouped from the left and from the right
  six_reordered : (a b p c q v : ℤ) → op (op (op (op a b) p) c) (op q v) ≡ op (op a (op (op b c) q)) (op p v)
  six_reordered a b p c q v = simp (assoc, left_comm)

-- the best run of three parts, if the first two or the last two are joined first
best_assoc : (a b c x y z u v : ℤ) → int_max (int_max (int_max (int_max a b) (x +ℤ y)) c) (int_max z (u +ℤ x) +ℤ v) ≡ int_max (int_max a (int_max (int_max b c) (z +ℤ v))) (x +ℤ int_max y (u +ℤ v))
best_assoc a b c x y z u v =
    ap (int_max (int_max (int_max (int_max a b) (x +ℤ y)) c)) (max-add z (u +ℤ x) v)
    ∙ six_reordered int_max int_max_assoc max_comm a b (x +ℤ y) c (z +ℤ v) ((u +ℤ x) +ℤ v)
    ∙ ap (λ w. int_max (int_max a (int_max (int_max b c) (z +ℤ v))) (int_max (x +ℤ y) w)) (across u x v)
    ∙ ap (int_max (int_max a (int_max (int_max b c) (z +ℤ v)))) (sym (add-max x y (u +ℤ v)))

-- of three parts the first two or the last two may be joined first
pub runs_associative : (r s t : RunTotals) → join_totals (join_totals r s) t ≡ join_totals r (join_totals s t)
runs_associative r s t =
    same_runs _ _ (+ℤ_assoc r.total s.total t.total) (prefix_assoc r.prefix r.total s.prefix s.total t.prefix)
    (suffix_assoc t.suffix t.total s.suffix s.total r.suffix)
    (best_assoc r.best s.best t.best r.suffix s.prefix s.suffix s.total t.prefix)

-- a total of n elements and one of m add up to one of n + m, or of more
pub added : (n m k : ℕ) (x y : ℤ) → n + m ≤ k → IsTotalOf n x → IsTotalOf m y → IsTotalOf k (x +ℤ y)
added n m k x y h p q = omega (arith, ints)

-- the greater of two totals of n elements is one of them
pub greater : (n : ℕ) (x y : ℤ) → IsTotalOf n x → IsTotalOf n y → IsTotalOf n (int_max x y)
greater n x y p q = omega (arith, ints, clamps)

-- a total of n elements is one of more
more : (n m : ℕ) (x : ℤ) → n ≤ m → IsTotalOf n x → IsTotalOf m x
more n m x h p = omega arith

-- the run of an element is a run of one
one_element : (x : ℤ) → IsElement x → AreTotalsOf (totals_of x) 1
one_element x p =
    let q : IsTotalOf 1 x = omega (arith, ints) in
    record { total = q; prefix = q; suffix = q; best = q }

-- a run of n elements is one of more
pub more_elements : (r : RunTotals) (n m : ℕ) → n ≤ m → AreTotalsOf r n → AreTotalsOf r m
more_elements r n m h p = record {
  total = more n m r.total h p.total;
  prefix = more n m r.prefix h p.prefix;
  suffix = more n m r.suffix h p.suffix;
  best = more n m r.best h p.best;
}

-- runs of n elements and of m are joined to one of n + m
pub joined_elements : (r s : RunTotals) (n m : ℕ) → AreTotalsOf r n → AreTotalsOf s m → AreTotalsOf (join_totals r s) (n + m)
joined_elements r s n m p q =
    let k = n + m in
    let left = more_elements r n k (omega arith) p in
    let right = more_elements s m k (omega arith) q in
    record {
      total = added n m k r.total s.total (omega arith) p.total q.total;
      prefix = greater k r.prefix (r.total +ℤ s.prefix) left.prefix (added n m k r.total s.prefix (omega arith) p.total q.prefix);
      suffix = greater k s.suffix (s.total +ℤ r.suffix) right.suffix (added m n k s.total r.suffix (omega arith) q.total p.suffix);
      best =
          greater k (int_max r.best s.best) (r.suffix +ℤ s.prefix) (greater k r.best s.best left.best right.best)
          (added n m k r.suffix s.prefix (omega arith) p.suffix q.prefix);
    }

-- the best run meets the laws of a body
pub best_laws : BodyLaws best_operations IsBest
best_laws = optional_laws totals_of join_totals AreTotalsOf record { lift_within = one_element; join_within = λ r s n m p q few. joined_elements r s n m p q; more_within = more_elements; associative = runs_associative }
