-- Proof of `write_object`: a write at an object.
use Rattle.std.proofs.Common.{refl, subst}
use Rattle.std.specs.Int.{w64}
use Rattle.std.proofs.lemmas.Int.{to_z-of_z}
use Rattle.lv_series.specs.declared.edits.LongEdit.TheVariants as asked
use Rattle.lv_series.specs.Series.{Answers}
use Rattle.livevec_c.proofs.series.write_object.Goals as goal

pub returns-in-Series : goal.returns-in-Series
returns-in-Series c =
    let answer = subst (λ x. Answers c.in-Series.series (asked.Write c.args.index x) c.write.result c.write.new.self) (to_z-of_z w64 c.args.value c.ranges.value) c.write.ensures in
    rw c.in-Series.is (c.write.new.self, refl, (c.write.result, c.edit_answer.ensures, answer))
