-- Proof of `prepare_each`: makes the missing trees of all kinds, and returns whether there was memory for them.
use Rattle.std.proofs.Common.{refl, sym, ap, take, ◌∙◌}
use Rattle.std.proofs.lemmas.List.{take_all}
use Rattle.lv_bodies.specs.declared.kinds.Kind.TheVariants.{Sum}
use Rattle.livevec_c.proofs.HeldLaws.{done_at, each_kind, one_tree_more, same_at, with_trees}
use Rattle.livevec_c.proofs.series_asks.prepare_each.Goals as goal

pub loop-kind-init : goal.loop-kind-init
loop-kind-init g c = sym (g.H.HasSeries.own_series c.args.held.now)

pub returns-then-is_err-clause-kinds : goal.returns-then-is_err-clause-kinds
returns-then-is_err-clause-kinds g c =
    let same = same_at c.prepare.result (sym c.is_err.ensures.value ∙ c.if-is_err.true) c.prepare.ensures.same in
    (with_trees (take c.loop-kind.kind-index each_kind) (g.H.HasSeries.series_of c.args.held.now), same ∙ c.loop-kind.invariant, (_, refl))

pub loop-kind-preserved : goal.loop-kind-preserved
loop-kind-preserved g c =
    let done = done_at c.prepare.result (sym c.is_err.ensures.value ∙ c.if-is_err.false) c.prepare.ensures.ok in
    let held = g.H.HasSeries in
    one_tree_more held.series_of held.with_series held.given_series held.last_series c.loop-kind.kind-index Sum c.args.held.now c.loop-kind.held c.prepare.new.self c.loop-kind-test.true c.loop-kind.invariant done

pub returns-clause-kinds : goal.returns-clause-kinds
returns-clause-kinds g c = (with_trees (take c.loop-kind.kind-index each_kind) (g.H.HasSeries.series_of c.args.held.now), c.loop-kind.invariant, (_, refl))

pub returns-clause-all : goal.returns-clause-all
returns-clause-all g c is =
    c.loop-kind.invariant
    ∙ ap (λ kinds. g.H.HasSeries.with_series (with_trees kinds (g.H.HasSeries.series_of c.args.held.now)) c.args.held.now) (take_all c.loop-kind.kind-index each_kind c.loop-kind-test.false)
