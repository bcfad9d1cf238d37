-- Proof of `Samples::expire_before`.
use Rattle.std.proofs.Common.{◌≡◌, ◌+◌, ◌-◌, ◌≤◌, length, to_z, of_z, arith, ap, subst, sym, ◌∙◌}
use Rattle.std.proofs.lemmas.Int.{ints}
use Rattle.std.specs.Int.{w128}
use Rattle.lv_series.specs.Samples.{AnswersSample, count_before}
use Rattle.lv_series.specs.declared.sample_edits.SampleEdit.TheVariants as asked
use Rattle.lv_series.proofs.TimeWindows.{counted_before}
use Rattle.lv_series.proofs.samples.Samples.expire_before.Goals as goal

pub returns : goal.returns
returns c =
    let s = c.args.self.now in
    let e = c.index_since-index.ensures in
    let index = c.index_since-index.result in
    let time : to_z w128 (of_z w128 c.from.result) ≡ c.args.time = omega (arith, ints) in
    let short : index - s.series.held.first ≤ length s.times = omega (arith, e.to, e.paired) in
    let count : count_before c.args.time s.times ≡ index - s.series.held.first =
    ap (λ t. count_before t s.times) (sym time) ∙ counted_before (to_z w128 (of_z w128 c.from.result)) (index - s.series.held.first) s.times short e.before e.behind in
    let place : index ≡ s.series.held.first + count_before c.args.time s.times = omega (arith, e.from) in
    subst (λ i. AnswersSample s (asked.Expire i) c.expire.result c.expire.new.self) place c.expire.ensures
