-- Proof of `lay_run`: puts the cells of the scan of some elements into a column, from a place on.
use Rattle.std.proofs.Common.{◌≡◌, ◌+◌, ◌<◌, ◌++◌, ◌∷◌, [], append-nil, append_assoc, pos, length, map, slice_index_or, slice_range, slice_set, take, if◌then◌else◌, rules, refl, subst, sym, ap, ◌∙◌, arith}
use Rattle.std.specs.Int.{w64}
use Rattle.std.proofs.lemmas.Int.{to_z-of_z}
use Rattle.std.proofs.lemmas.List.{length-set, map-append, take_more_set}
use Rattle.lv_geometry.specs.Elements.{IsElement}
use Rattle.lv_reduce.specs.Running.{reached, scan_from}
use Rattle.lv_reduce.proofs.PieceLaws.{slice_range-whole}
use Rattle.livevec_c.proofs.ColumnFolds.{scan_one_more}
use Rattle.livevec_c.proofs.columns.lay_run.Goals as goal
use Rattle.livevec_c.proofs.columns.lay_run.Goals.{then-inclusive, else-inclusive}

pub loop-k-preserved : goal.loop-k-preserved
loop-k-preserved g c =
    let body = c.args.body.now in
    let o = g.B.Body.operations body in
    let xs = c.args.xs.now in
    let k = c.loop-k.k in
    let x = slice_index_or xs k (pos 0) in
    let small : k < length xs = omega arith in
    let fits : IsElement x = search rules in
    let sum = c.loop-k.sum in
    let next = c.extend_long-sum.result in
    let value = c.if-inclusive.cell in
    let column = c.loop-k.column in
    let joined : next ≡ o.join sum (o.lift x) = c.extend_long-sum.ensures ∙ ap (λ y. o.join sum (o.lift y)) (to_z-of_z w64 x fits) in
    let chosen : value ≡ (if c.args.inclusive then next else sum) =
    elim c.if-inclusive.branch [
      | then-inclusive w ↦ w.cell-is ∙ sym (ap (λ b. if b then next else sum) w.if-inclusive.true)
      | else-inclusive w ↦ w.cell-is ∙ sym (ap (λ b. if b then next else sum) w.if-inclusive.false)
    ] in
    let can = c.loop-k.invariant.can in
    let place : can.0 + k + 1 ≡ can.0 + (k + 1) = omega arith in
    let within = g.B.Body.is_within body in
    let laws = c.long_laws.ensures in
    let more = laws.join_within sum (o.lift x) (can.0 + k) 1 can.1 (laws.lift_within x fits) (omega (arith, can.2)) in
    let at = c.args.from + k in
    let next_place : c.args.from + (k + 1) ≡ at + 1 = omega arith in
    let here : at < length column = omega (arith, c.loop-k.invariant.len, c.requires.room) in
    let old = take c.args.from c.args.column.now in
    let cell_of = g.B.Celled.cell_of in
    let front = scan_from c.args.inclusive o c.args.before (slice_range xs 0 k) in
    let gone = scan_one_more o c.args.inclusive c.args.before xs k x small refl sum next value c.loop-k.invariant.sum joined chosen in
    record {
      sum = gone.0;
      cells =
          ap (λ n. take n (slice_set column at c.cell.result)) next_place
          ∙ take_more_set column at c.cell.result here
          ∙ ap (λ ys. ys ++ c.cell.result ∷ []) c.loop-k.invariant.cells
          ∙ append_assoc old (map cell_of front) (c.cell.result ∷ [])
          ∙ ap (λ y. old ++ (map cell_of front ++ y ∷ [])) c.cell.ensures
          ∙ ap (λ ys. old ++ ys) (sym (map-append cell_of front (value ∷ [])) ∙ ap (map cell_of) gone.1);
      can = (can.0, subst (within next) place (subst (λ s. within s (can.0 + k + 1)) (sym joined) more), can.2);
      len = length-set column at c.cell.result ∙ c.loop-k.invariant.len;
    }

pub extend_long-sum-requires : goal.extend_long-sum-requires
extend_long-sum-requires g c =
    let can = c.loop-k.invariant.can in
    record { count = can.0 + c.loop-k.k; count_within = can.1; few = omega (arith, can.2) }

pub loop-k-init : goal.loop-k-init
loop-k-init g c =
    let within = g.B.Body.is_within c.args.body.now in
    let none : c.requires.can.count ≡ c.requires.can.count + 0 = omega arith in
    let place : c.args.from + 0 ≡ c.args.from = omega arith in
    record {
      sum = refl;
      cells = ap (λ n. take n c.args.column.now) place ∙ sym (append-nil (take c.args.from c.args.column.now));
      can = (c.requires.can.count, subst (within c.args.before) none c.requires.can.count_within, c.requires.can.few);
      len = refl;
    }

pub returns-clause-cells : goal.returns-clause-cells
returns-clause-cells g c =
    let o = g.B.Body.operations c.args.body.now in
    let all : length c.args.xs.now ≡ c.loop-k.k = omega arith in
    ap (λ n. take (c.args.from + n) c.loop-k.column) all
    ∙ c.loop-k.invariant.cells
    ∙ ap (λ n. take c.args.from c.args.column.now ++ map g.B.Celled.cell_of (scan_from c.args.inclusive o c.args.before (slice_range c.args.xs.now 0 n))) (sym all)
    ∙ ap (λ front. take c.args.from c.args.column.now ++ map g.B.Celled.cell_of (scan_from c.args.inclusive o c.args.before front)) (slice_range-whole c.args.xs.now)

pub returns-clause-sum : goal.returns-clause-sum
returns-clause-sum g c =
    let o = g.B.Body.operations c.args.body.now in
    let all : length c.args.xs.now ≡ c.loop-k.k = omega arith in
    c.loop-k.invariant.sum ∙ ap (λ n. reached o c.args.before (slice_range c.args.xs.now 0 n)) (sym all) ∙ ap (reached o c.args.before) (slice_range-whole c.args.xs.now)
