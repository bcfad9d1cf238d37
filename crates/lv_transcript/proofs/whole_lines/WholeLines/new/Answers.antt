-- Proof of `WholeLines::new`: a reader that is not at the end.
use Rattle.lv_transcript.specs.Seals.{logical_of}
use Rattle.lv_transcript.specs.Unsealing.{text_to_come}
use Rattle.lv_transcript.proofs.UnsealLaws.{left_same}
use Rattle.lv_transcript.proofs.whole_lines.WholeLines.new.Goals as goal

pub returns : goal.returns
returns g c =
    let lines = c.in_ok-new.field-0 in
    left_same logical_of (text_to_come lines.form lines.hash lines.kept.items lines.ready.items) c.in_ok-new.ensures.text (g.R.Read.remaining c.args.reader)
