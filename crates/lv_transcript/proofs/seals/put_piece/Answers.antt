-- Proof of `put_piece`: puts bytes of a line.
use Rattle.std.proofs.Common.{ℕ, List, ◌++◌, sym, ap, ◌∙◌}
use Rattle.lv_shards.specs.Bytes.{checksum_from}
use Rattle.lv_transcript.proofs.SealLaws.{sealed-piece}
use Rattle.lv_transcript.proofs.seals.put_piece.Goals as goal

pub returns-clause-items : goal.returns-clause-items
returns-clause-items c =
    c.put.ensures.items ∙ ap (λ (bs : List ℕ). c.args.held.now.items ++ bs) (sym (sealed-piece c.args.hash c.args.count c.args.piece.now c.requires.line c.if-count-le-VERSION_AT.false))

pub returns-clause-hash : goal.returns-clause-hash
returns-clause-hash c = c.checksum_more.ensures ∙ ap (checksum_from c.args.hash) (sym (sealed-piece c.args.hash c.args.count c.args.piece.now c.requires.line c.if-count-le-VERSION_AT.false))
