-- Proof of `face`: shows the summary of one kind.
use Rattle.std.proofs.Common.{◌∙◌}
use Rattle.lv_bodies.specs.Plain.{program_table}
use Rattle.lv_bodies.proofs.SixFolds.{face_of-fold}
use Rattle.lv_bodies.proofs.sixes.face.Goals as goal

pub returns-clause-plain : goal.returns-clause-plain
returns-clause-plain c = λ xs can e. c.part_shown.ensures ∙ face_of-fold program_table c.args.kind c.args.s xs can e

pub returns-clause-by_table : goal.returns-clause-by_table
returns-clause-by_table c = λ table xs can e. c.part_shown.ensures ∙ face_of-fold table c.args.kind c.args.s xs can e
