-- Proof of `scan_into`: puts the scan of some elements, continued from a summary, where its values belong: from an index on.
use Rattle.std.proofs.Common.{◌≡◌, ◌+◌, ◌<◌, ◌++◌, ◌∷◌, [], append-nil, append_assoc, pos, length, slice_index_or, slice_set, take, if◌then◌else◌, rules, refl, subst, sym, ap, ◌∙◌, arith}
use Rattle.std.specs.Int.{w64}
use Rattle.std.proofs.lemmas.Int.{to_z-of_z}
use Rattle.std.proofs.lemmas.List.{length-set, take_all, take_more_set}
use Rattle.lv_geometry.specs.Elements.{IsElement}
use Rattle.lv_reduce.specs.Running.{reached, scan_from}
use Rattle.lv_reduce.proofs.RunLaws.{scan_from-more}
use Rattle.lv_reduce.proofs.parallel.slices.scan_into.Goals as goal
use Rattle.lv_reduce.proofs.parallel.slices.scan_into.Goals.{then-inclusive, else-inclusive}

pub loop-k-preserved : goal.loop-k-preserved
loop-k-preserved g c =
    let body = c.args.body.now in
    let o = g.B.Body.operations body in
    let xs = c.args.xs.now in
    let k = c.loop-k.k in
    let x = slice_index_or xs k (pos 0) in
    let small : k < length xs = omega arith in
    let fits : IsElement x = search rules in
    let sum = c.loop-k.sum in
    let next = c.fold_more-sum.result in
    let value = c.if-inclusive.values in
    let values = c.loop-k.values in
    let joined : next ≡ o.join sum (o.lift x) = c.fold_more-sum.ensures.value ∙ ap (λ y. o.join sum (o.lift y)) (to_z-of_z w64 x fits) in
    let chosen : value ≡ (if c.args.inclusive then next else sum) =
    elim c.if-inclusive.branch [
      | then-inclusive w ↦ w.values-is ∙ sym (ap (λ b. if b then next else sum) w.if-inclusive.true)
      | else-inclusive w ↦ w.values-is ∙ sym (ap (λ b. if b then next else sum) w.if-inclusive.false)
    ] in
    let can = c.loop-k.invariant.can in
    let place : can.0 + k + 1 ≡ can.0 + (k + 1) = omega arith in
    let at = c.args.from + k in
    let next_place : c.args.from + (k + 1) ≡ at + 1 = omega arith in
    let here : at < length values = omega (arith, c.loop-k.invariant.len, c.requires.room) in
    let old = take c.args.from c.args.values.now in
    let front = scan_from c.args.inclusive o c.args.before (take k xs) in
    let gone = scan_from-more o c.args.inclusive c.args.before xs k x (pos 0) small refl sum next value front (front ++ value ∷ []) c.loop-k.invariant.sum joined chosen refl refl in
    record {
      sum = gone.0;
      values =
          ap (λ n. take n (slice_set values at value)) next_place
          ∙ take_more_set values at value here
          ∙ ap (λ ys. ys ++ value ∷ []) c.loop-k.invariant.values
          ∙ append_assoc old front (value ∷ [])
          ∙ ap (λ ys. old ++ ys) gone.1;
      can = (can.0, subst (g.B.Body.is_within body next) place (c.fold_more-sum.ensures.within (can.0 + k) can.1 (omega (arith, can.2))), can.2);
      len = length-set values at value ∙ c.loop-k.invariant.len;
    }

pub fold_more-sum-requires-after_bounds : goal.fold_more-sum-requires-after_bounds
fold_more-sum-requires-after_bounds g c κs within =
    let can = c.loop-k.invariant.can in
    record { count = can.0 + c.loop-k.k; count_within = can.1; few = omega (arith, can.2) }

pub loop-k-init : goal.loop-k-init
loop-k-init g c =
    let within = g.B.Body.is_within c.args.body.now in
    let none : c.requires.can.count ≡ c.requires.can.count + 0 = omega arith in
    let place : c.args.from + 0 ≡ c.args.from = omega arith in
    record {
      sum = refl;
      values = ap (λ n. take n c.args.values.now) place ∙ sym (append-nil (take c.args.from c.args.values.now));
      can = (c.requires.can.count, subst (within c.args.before) none c.requires.can.count_within, c.requires.can.few);
      len = refl;
    }

pub returns-clause-values : goal.returns-clause-values
returns-clause-values g c =
    let o = g.B.Body.operations c.args.body.now in
    let all : length c.args.xs.now ≡ c.loop-k.k = omega arith in
    ap (λ n. take (c.args.from + n) c.loop-k.values) all
    ∙ c.loop-k.invariant.values
    ∙ ap (λ front. take c.args.from c.args.values.now ++ scan_from c.args.inclusive o c.args.before front) (take_all c.loop-k.k c.args.xs.now (omega arith))

pub returns-clause-sum : goal.returns-clause-sum
returns-clause-sum g c =
    let o = g.B.Body.operations c.args.body.now in
    c.loop-k.invariant.sum ∙ ap (reached o c.args.before) (take_all c.loop-k.k c.args.xs.now (omega arith))
