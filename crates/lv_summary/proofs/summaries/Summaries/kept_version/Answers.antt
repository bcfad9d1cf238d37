-- Proof of `Summaries::kept_version`: the version of the summary that was delivered for a node, fresh or not; none if none was.
use Rattle.std.specs.Option.{option_map}
use Rattle.std.proofs.Common.{sym, ap, ◌∙◌, ◌-◌, Some, arith}
use Rattle.lv_summary.specs.Inner.{table_of}
use Rattle.lv_summary.proofs.NodeRows.{kept_in-outside, version-none, version-some}
use Rattle.lv_summary.proofs.summaries.Summaries.kept_version.Goals as goal

pub returns-in_err-level_of : goal.returns-in_err-level_of
returns-in_err-level_of g c =
    rw (← c.self.view_is) (c.from_residual.ensures ∙ sym (ap (option_map (λ kept. kept.0)) (kept_in-outside (table_of c.self.inside.size c.self.inside.levels) c.args.node c.in_err-level_of.ensures.none)))

pub returns-then-stamp-eq0 : goal.returns-then-stamp-eq0
returns-then-stamp-eq0 g c =
    rw (← c.self.view_is) (sym (version-none (table_of c.self.inside.size c.self.inside.levels) c.args.node c.in_ok-level_of.field-0.now.rows c.in_ok-level_of.ensures.some (sym c.stamp-stamp.ensures ∙ c.if-stamp-eq0.true)))

pub returns-else-stamp-eq0 : goal.returns-else-stamp-eq0
returns-else-stamp-eq0 g c =
    rw (← c.self.view_is) (ap (λ stamp. Some (stamp - 1)) c.stamp-stamp.ensures
    ∙ sym (version-some (table_of c.self.inside.size c.self.inside.levels) c.args.node c.in_ok-level_of.field-0.now.rows c.in_ok-level_of.ensures.some (omega (arith, c.stamp-stamp.ensures, c.if-stamp-eq0.false))))
