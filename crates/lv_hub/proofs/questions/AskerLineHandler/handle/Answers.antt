-- Proof of `AskerLineHandler::handle`.
use Rattle.std.proofs.Common.{[], refl}
use Rattle.lv_lines.proofs.OutputLemmas.{Writes-nil}
use Rattle.lv_hub.specs.Asking.{AskStep}
use Rattle.lv_hub.proofs.questions.AskerLineHandler.handle.Goals as goal

pub returns-clause-ok : goal.returns-clause-ok
unfolding AskStep
returns-clause-ok g c = record { reply = []; answered = (refl, rw c.read_line_by.ensures at c.take.ensures); written = Writes-nil _ _ }
