-- Proof of `OperationLog::begin_file`: begins the file anew with these elements, and returns whether that succeeded.
use Rattle.std.proofs.Common.{◌∙◌, subst, sym}
use Rattle.lv_transcript.specs.Transcribing.{state_with}
use Rattle.lv_hub.specs.Logging.{BeginsAnew, IsLogInFile, LogState, MayBeginAnew}
use Rattle.lv_hub.proofs.LogLaws.{count_of_all, in_file_anew}
use Rattle.lv_hub.proofs.operation_log.OperationLog.begin_file.Goals as goal

pub begin_anew-requires-clause-count : goal.begin_anew-requires-clause-count
begin_anew-requires-clause-count g c = count_of_all g.N.Naming.numbers c.args.heading c.args.self.now.seen c.args.elements.now c.requires.begins.heading_is c.requires.begins.elements_are

-- the new file has these elements, and its writer has nothing buffered
pub invariant_of-self : goal.invariant_of-self
invariant_of-self g c =
    let self = c.self.inside in
    let contents = g.W.Write.contents c.begin_anew.new.self in
    let s : LogState = record { written = state_with contents self.transcript; seen = self.prefix; taken = self.taken } in
    let may = subst (MayBeginAnew g.K.Begun.there) (sym c.self.view_is) c.requires.may in
    let begins = subst (λ (l : LogState). BeginsAnew g.N.Naming.limits g.N.Naming.numbers l.seen c.args.heading c.args.elements.now) (sym c.self.view_is) c.requires.begins in
    let anew =
    in_file_anew g.W.LogWriter.made g.N.Naming.limits g.N.Naming.numbers g.K.Begun.there g.K.Begun.start self.is_log c.args.heading c.args.elements.now self.prefix self.taken contents self.transcript (c.self.invariant.1 ∙ may.behind) begins
    c.in-Ok.ensures.begun may.sent may.fine in (
      subst (λ n. IsLogInFile g.W.LogWriter.made g.N.Naming.limits g.N.Naming.numbers g.K.Begun.there g.K.Begun.start n c.args.heading.elements self.taken self.is_log s) (sym c.count-self-inside.ensures.count) anew,
      c.self.invariant.1,
      c.self.invariant.2,
      c.self.invariant.3,
      c.self.invariant.4,
    )
