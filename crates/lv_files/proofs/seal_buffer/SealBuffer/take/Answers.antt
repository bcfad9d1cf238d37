-- Proof of `SealBuffer::take`: takes the first bytes of a text.
use Rattle.std.proofs.Common.{◌≡◌, ℕ, List, ◌++◌, length, take, ap, sym, ◌∙◌}
use Rattle.lv_shards.specs.Bytes.{checksum_from}
use Rattle.lv_transcript.specs.Seals.{sealed_behind}
use Rattle.lv_files.proofs.SealBufferLaws.{seals_put}
use Rattle.lv_files.proofs.seal_buffer.SealBuffer.take.Goals as goal

pub returns-in-Ok-clause-sealed : goal.returns-in-Ok-clause-sealed
returns-in-Ok-clause-sealed g c =
    let made = c.make_room.new.self in
    let held = made.held.items in
    let piece = c.split_at.result.0.now in
    let text = c.args.text.now in
    let is : piece ≡ take (length piece) text = c.split_at.ensures.front ∙ ap (λ (n : ℕ). take n text) (sym c.split_at.ensures.front_len) in
    seals_put c.args.self.now.hash c.args.bytes (take (length piece) text) _ held c.put_sealed-hash.new.held.items made.sent made.hash c.put_sealed-hash.result _ _ c.make_room.ensures.sent made.within c.make_room.ensures.hash
    (c.put_sealed-hash.ensures.items ∙ ap (λ (t : List ℕ). held ++ sealed_behind made.hash c.args.bytes t) is)
    (c.put_sealed-hash.ensures.hash ∙ ap (λ (t : List ℕ). checksum_from made.hash (sealed_behind made.hash c.args.bytes t)) is)
