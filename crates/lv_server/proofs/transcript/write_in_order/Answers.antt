-- Proof of `write_in_order`: writes the transcript of a journal, with the reductions in the order of their versions.
use Rattle.lv_transcript.specs.Joined.{in_a_row, joined}
use Rattle.lv_server.proofs.ServedLaws.{ordered_text, writes_so}
use Rattle.lv_server.proofs.transcript.write_in_order.Goals as goal

-- the text is that of the answers in their order, in which they are as true
pub returns : goal.returns
returns g c =
    let lists = c.args.queues.now.items in
    writes_so c.args.journal.now (in_a_row lists) (joined lists) _ _ c.write_joined_transcript.result (ordered_text c.args.journal.now (in_a_row lists)) c.write_joined_transcript.ensures.text
    (c.write_joined_transcript.ensures.sound c.requires.accepted c.requires.all_true)
