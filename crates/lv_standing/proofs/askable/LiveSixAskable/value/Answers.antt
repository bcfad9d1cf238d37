-- Proof of `value` of a live vector: the elements of a range that it has are folded one by one.
use Rattle.std.proofs.Common.{◌∙◌, ap, arith, sym}
use Rattle.std.proofs.lemmas.Option.{none-some}
use Rattle.lv_bodies.specs.Plain.{plain_value}
use Rattle.lv_edits.specs.History.{list_of}
use Rattle.lv_standing.proofs.AskableLaws.{from_start}
use Rattle.lv_standing.proofs.RangeLaws.{range_granted}
use Rattle.lv_standing.proofs.askable.LiveSixAskable.value.Goals as goal

pub unreachable-requires : goal.unreachable-requires
unreachable-requires c =
    none-some _ (sym (range_granted c.args.self.now.history.journal c.args.lo c.args.hi c.requires.order (omega (arith, c.requires.inside))) ∙ c.in-Err.ensures.err)

pub returns-clause-value : goal.returns-clause-value
returns-clause-value c =
    c.in-Ok.ensures.ok.value ∙ ap (plain_value c.args.kind) (sym (from_start (list_of c.args.self.now.history.journal) c.args.lo c.args.hi))
