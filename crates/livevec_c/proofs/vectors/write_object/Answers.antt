-- Proof of `write_object`: a write at an object.
use Rattle.std.proofs.Common.{refl, subst}
use Rattle.std.specs.Int.{w64}
use Rattle.std.proofs.lemmas.Int.{to_z-of_z}
use Rattle.lv_edits.specs.declared.edit.Edit.TheVariants as asked
use Rattle.lv_edits.specs.Verdict.{Answers}
use Rattle.livevec_c.proofs.vectors.write_object.Goals as goal

pub returns-in-Vector : goal.returns-in-Vector
returns-in-Vector c =
    let answer = subst (λ x. Answers c.in-Vector.vector.history (asked.Write c.args.index x) c.write.result c.write.new.self.history) (to_z-of_z w64 c.args.value c.ranges.value) c.write.ensures.answer in
    rw c.in-Vector.is (c.write.new.self, refl, (c.write.ensures.limits, c.write.ensures.refresh, (c.write.result, c.edit_answer.ensures, answer)))
