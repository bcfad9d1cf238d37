-- Proof of `a_script_is_answered_plainly`: if no line reports `NoMemory`, a text is the reference interpreter's.
use Rattle.lv_script.specs.PlainScript.{vector_script}
use Rattle.lv_script.proofs.InterpreterLaws.{room_text}
use Rattle.lv_script.proofs.PlainRunLaws.{room_answers}
use Rattle.lv_script.proofs.WholeLaws.{whole_command}
use Rattle.lv_script.proofs.laws.a_script_is_answered_plainly.Goals as goal

pub returns-clause-text : goal.returns-clause-text
returns-clause-text c = room_text vector_script whole_command

pub returns-clause-answers : goal.returns-clause-answers
returns-clause-answers c = room_answers
