-- Proof of `take`: gives what came to a transcript writer, has it written, and returns true, if it continues what the writer was given before.
use Rattle.std.proofs.Common.{◌≡◌, ◌+◌, ◌∙◌, ℕ, arith, length, map, subst, true}
use Rattle.std.proofs.lemmas.List.{length-map}
use Rattle.lv_transcript.specs.Transcribing.{WritingState, state_with}
use Rattle.lv_hub.specs.Logging.{CameSince, IsLogInFile, LogState, entry_of}
use Rattle.lv_hub.specs.Renewing.{renewed_after}
use Rattle.lv_hub.proofs.LogLaws.{in_file_more, in_file_rests}
use Rattle.lv_hub.proofs.operation_log.take.Goals as goal

pub returns-clause-log : goal.returns-clause-log
returns-clause-log g c =
    let entries = map entry_of c.args.entries.now in
    let seen = c.args.seen.now in
    let next = c.args.next.renewed in
    let is : c.is_next.result ≡ true = grind (arith, c.if-not-is_next.false) in
    let renewed_same = subst (λ (n : ℕ). CameSince (renewed_after n c.args.prefix) c.args.came.from entries) (c.is_next.ensures.renewed is) c.requires.came in
    let came = subst (λ (n : ℕ). CameSince (renewed_after next c.args.prefix) n entries) (c.is_next.ensures.from is ∙ c.requires.next) renewed_same in
    let many : c.args.taken.now + length entries ≡ c.args.came.given = omega (arith, c.is_next.ensures.given is, c.requires.given, length-map c.args.entries.now entry_of) in
    let given : WritingState = state_with (g.W.Write.contents c.give_all.new.writer) c.give_all.new.transcript in
    let written : WritingState = state_with (g.W.Write.contents c.flush.new.writer) c.flush.new.self in
    let old : LogState = record { written = state_with (g.W.Write.contents c.args.writer.now) c.args.transcript.now; seen = seen; taken = c.args.taken.now } in
    let new : LogState = record { written = given; seen = c.args.prefix; taken = c.args.taken.now + length entries } in
    λ made limits numbers log start renewed elements earlier is_log same was.
    subst (λ (n : ℕ). IsLogInFile made limits numbers log start renewed elements earlier is_log record { written = written; seen = c.args.prefix; taken = n }) many
    (in_file_rests made limits numbers log start renewed elements earlier is_log new written
    (in_file_more made limits numbers log start renewed elements earlier is_log old c.args.prefix entries given was c.requires.begins
    (subst (λ (n : ℕ). CameSince (renewed_after n c.args.prefix) (length (renewed_after n seen)) entries) same came) c.give_all.ensures)
    c.flush.ensures.rests)
