-- Proof of `honesty_lasts_through_batches`: honesty lasts through the calls that make many steps at once, as it does through every event.
use Rattle.std.proofs.Common.{◌≡◌}
use Rattle.lv_edits.proofs.HistoryLaws.{list_of_legal}
use Rattle.lv_live.proofs.HonestCalls.{lasts_through_batch, lasts_through_edits, lasts_through_pushes, lasts_through_subtree, lasts_through_turns}
use Rattle.lv_live.proofs.theorems.honesty_lasts_through_batches.Goals as goal

pub returns-clause-pushes : goal.returns-clause-pushes
returns-clause-pushes g c = λ body old new xs answer. lasts_through_pushes (g.B.Body.operations body) old new xs answer

pub returns-clause-writes : goal.returns-clause-writes
returns-clause-writes g c = λ body old new edits answer. lasts_through_edits (g.B.Body.operations body) old new edits answer

pub returns-clause-batch : goal.returns-clause-batch
returns-clause-batch g c = λ body old new jobs before after legal. lasts_through_batch (g.B.Body.operations body) (λ other. g.B.Body.meaning body ≡ g.B.Body.meaning other) jobs old new before after (list_of_legal old.history.journal legal)

pub returns-clause-subtree : goal.returns-clause-subtree
returns-clause-subtree g c = λ body old new number legal. lasts_through_subtree (g.B.Body.operations body) old new number (list_of_legal old.history.journal legal)

pub returns-clause-turns : goal.returns-clause-turns
returns-clause-turns g c = λ body old new count legal. lasts_through_turns (g.B.Body.operations body) old new count (list_of_legal old.history.journal legal)
