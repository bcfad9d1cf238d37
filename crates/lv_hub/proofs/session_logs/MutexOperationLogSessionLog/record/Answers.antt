-- Proof of `record` of a log in a mutex: then there was a time when all that a share has seen was written, and so many entries.
use Rattle.std.proofs.Common.{Result, Ok, Err, OnOk}
use Rattle.lv_hub.proofs.LogLaws.{were_recorded}
use Rattle.lv_hub.proofs.session_logs.MutexOperationLogSessionLog.record.Goals as goal

-- the consequence of all three clauses at a success
on_all : {T E A B C D : Type 0} (result : Result T E) → OnOk result A → OnOk result B → OnOk result C → (A → B → C → D) → OnOk result D
on_all (Ok x) one other third then = then one other third
on_all (Err e) one other third then = one

pub returns-clause-recorded : goal.returns-clause-recorded
returns-clause-recorded g c =
    on_all c.record.result c.record.ensures.covers c.record.ensures.entries c.record.ensures.all
    (λ covers many all. were_recorded g.W.LogWriter.made g.N.Naming.limits g.N.Naming.numbers g.K.Begun.there g.K.Begun.start _ _ _ _ _ covers many all)
