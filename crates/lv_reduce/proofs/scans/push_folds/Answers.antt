-- Proof of `push_folds`: puts the scan of some elements, continued from a summary, behind the values that are there, and returns the fold that it
-- reaches.
use Rattle.std.proofs.Common.{◌≡◌, ◌+◌, ◌<◌, ◌++◌, ◌∷◌, [], pos, length, slice_index_or, take, if◌then◌else◌, append-nil, append_assoc, rules, refl, subst, sym, ap, ◌∙◌, arith}
use Rattle.std.specs.Int.{w64}
use Rattle.std.proofs.lemmas.Int.{to_z-of_z}
use Rattle.std.proofs.lemmas.List.{take_all}
use Rattle.lv_geometry.specs.Elements.{IsElement}
use Rattle.lv_reduce.specs.Running.{reached, scan_from}
use Rattle.lv_reduce.proofs.RunLaws.{scan_from-more}
use Rattle.lv_reduce.proofs.scans.push_folds.Goals as goal
use Rattle.lv_reduce.proofs.scans.push_folds.Goals.{then-inclusive, else-inclusive}

pub loop-x-init : goal.loop-x-init
loop-x-init g c =
    let within = g.B.Body.is_within c.args.body.now in
    let none : c.requires.can.count ≡ c.requires.can.count + 0 = omega arith in
    record {
      sum = refl;
      values = sym (append-nil c.args.values.now.items);
      can = (c.requires.can.count, subst (within c.args.before) none c.requires.can.count_within, c.requires.can.few);
      count = omega arith;
      capacity = refl;
    }

pub fold_more-sum-requires-after_bounds : goal.fold_more-sum-requires-after_bounds
fold_more-sum-requires-after_bounds g c κs within =
    let can = c.loop-x.invariant.can in
    record { count = can.0 + c.loop-x.x-index; count_within = can.1; few = omega (arith, can.2) }

pub loop-x-preserved : goal.loop-x-preserved
loop-x-preserved g c =
    let body = c.args.body.now in
    let o = g.B.Body.operations body in
    let xs = c.args.xs.now in
    let k = c.loop-x.x-index in
    let x = slice_index_or xs k (pos 0) in
    let small : k < length xs = omega arith in
    let fits : IsElement x = search rules in
    let sum = c.loop-x.sum in
    let next = c.fold_more-sum.result in
    let value = c.if-inclusive.push_reserved in
    let old = c.args.values.now.items in
    let joined : next ≡ o.join sum (o.lift x) = c.fold_more-sum.ensures.value ∙ ap (λ y. o.join sum (o.lift y)) (to_z-of_z w64 x fits) in
    let chosen : value ≡ (if c.args.inclusive then next else sum) =
    elim c.if-inclusive.branch [
      | then-inclusive w ↦ w.push_reserved-is ∙ sym (ap (λ b. if b then next else sum) w.if-inclusive.true)
      | else-inclusive w ↦ w.push_reserved-is ∙ sym (ap (λ b. if b then next else sum) w.if-inclusive.false)
    ] in
    let front = scan_from c.args.inclusive o c.args.before (take k xs) in
    let gone = scan_from-more o c.args.inclusive c.args.before xs k x (pos 0) small refl sum next value front (front ++ value ∷ []) c.loop-x.invariant.sum joined chosen refl refl in
    let can = c.loop-x.invariant.can in
    let place : can.0 + k + 1 ≡ can.0 + (k + 1) = omega arith in
    record {
      sum = gone.0;
      values =
          c.push_reserved.ensures.items
          ∙ ap (λ ys. ys ++ value ∷ []) c.loop-x.invariant.values
          ∙ append_assoc old front (value ∷ [])
          ∙ ap (λ ys. old ++ ys) gone.1;
      can = (can.0, subst (g.B.Body.is_within body next) place (c.fold_more-sum.ensures.within (can.0 + k) can.1 (omega (arith, can.2))), can.2);
      count = omega (arith, c.push_reserved.ensures.len, c.loop-x.invariant.count);
      capacity = c.push_reserved.ensures.capacity ∙ c.loop-x.invariant.capacity;
    }

pub returns-clause-values : goal.returns-clause-values
returns-clause-values g c =
    let o = g.B.Body.operations c.args.body.now in
    c.loop-x.invariant.values ∙ ap (λ front. c.args.values.now.items ++ scan_from c.args.inclusive o c.args.before front) (take_all c.loop-x.x-index c.args.xs.now (omega arith))

pub returns-clause-sum : goal.returns-clause-sum
returns-clause-sum g c =
    let o = g.B.Body.operations c.args.body.now in
    c.loop-x.invariant.sum ∙ ap (reached o c.args.before) (take_all c.loop-x.x-index c.args.xs.now (omega arith))
