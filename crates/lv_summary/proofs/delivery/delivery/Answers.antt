-- Proof of `delivery`: what would become of a summary of a version that is delivered to the table of six levels and a size.
use Rattle.std.proofs.Common.{sym, ◌∙◌}
use Rattle.std.proofs.lemmas.Bool.{cond-false, cond-true}
use Rattle.lv_summary.specs.Inner.{table_of}
use Rattle.lv_summary.proofs.TableLaws.{delivery_in-current}
use Rattle.lv_summary.proofs.delivery.delivery.Goals as goal

pub returns-then-is_fresh : goal.returns-then-is_fresh
returns-then-is_fresh g c =
    sym (delivery_in-current (table_of c.args.size c.args.levels.now) c.args.node c.args.version (sym c.is_whole.ensures ∙ c.if-not-is_whole.false) (sym c.last_touch-now.ensures.value ∙ c.if-now-version.false) ∙ cond-true _ _ _ (sym c.is_fresh.ensures ∙ c.if-is_fresh.true))

pub returns : goal.returns
returns g c =
    sym (delivery_in-current (table_of c.args.size c.args.levels.now) c.args.node c.args.version (sym c.is_whole.ensures ∙ c.if-not-is_whole.false) (sym c.last_touch-now.ensures.value ∙ c.if-now-version.false) ∙ cond-false _ _ _ (sym c.is_fresh.ensures ∙ c.if-is_fresh.false))
