-- Proof of `push_object`: a push at an object.
use Rattle.std.proofs.Common.{refl, subst}
use Rattle.std.specs.Int.{w64}
use Rattle.std.proofs.lemmas.Int.{to_z-of_z}
use Rattle.lv_series.specs.declared.edits.LongEdit.TheVariants as asked
use Rattle.lv_series.specs.Series.{Answers}
use Rattle.livevec_c.proofs.series.push_object.Goals as goal

pub returns-in-Series : goal.returns-in-Series
returns-in-Series c =
    let answer = subst (λ x. Answers c.in-Series.series (asked.Push x) c.push.result c.push.new.self) (to_z-of_z w64 c.args.value c.ranges.value) c.push.ensures in
    rw c.in-Series.is (c.push.new.self, refl, (c.push.result, c.edit_answer.ensures, answer))
