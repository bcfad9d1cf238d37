-- Proof of `value_kept`: the value of a kind over what is kept of a range.
use Rattle.std.proofs.Common.{◌∙◌, ap, sym}
use Rattle.std.proofs.lemmas.Option.{none-some}
use Rattle.lv_bodies.specs.Plain.{plain_value_with}
use Rattle.lv_series.specs.Series.{slice_of}
use Rattle.lv_tree.specs.KindSummaries.{shown_of}
use Rattle.lv_script.proofs.LongShown.{shown_is_plain}
use Rattle.lv_script.proofs.asked_series.value_kept.Goals as goal

pub unreachable-requires : goal.unreachable-requires
unreachable-requires c = none-some _ (sym c.kept_of-kept.ensures.granted ∙ c.in-Err.ensures)

pub returns : goal.returns
returns c =
    let s = c.args.series.now in
    let kept = c.kept_of-kept.result in
    c.shown.ensures ∙ ap shown_of c.in-Ok.ensures.value ∙ shown_is_plain s.table c.args.kind (slice_of s.held kept.lo kept.hi)
    ∙ ap (plain_value_with s.table c.args.kind) c.kept_of-kept.ensures.same
