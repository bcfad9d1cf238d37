-- Proof of `serve`: runs a session for each pair of streams, in a thread of its own if one can be made, and workers at the same time, on a vector
-- that begins with some updates.
use Rattle.std.proofs.lemmas.Result.{IfOk-weaker}
use Rattle.lv_server.proofs.PlainServedLaws.{served_plainly}
use Rattle.lv_server.proofs.ServedLaws.{starts_there}
use Rattle.lv_server.proofs.server.serve.Goals as goal

pub serve_as-requires-clause-start : goal.serve_as-requires-clause-start
serve_as-requires-clause-start g c = λ _ _. starts_there g.V.Write.contents c.args.file

pub returns-clause-plain : goal.returns-clause-plain
returns-clause-plain g c = IfOk-weaker _ _ _ (λ done. served_plainly _ _ _ _ _ _ _ _) c.serve_as.ensures.served
