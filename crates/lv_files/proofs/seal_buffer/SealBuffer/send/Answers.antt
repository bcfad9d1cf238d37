-- Proof of `SealBuffer::send`: writes what is held.
use Rattle.std.proofs.Common.{drop, length, ap, ◌∙◌, arith, length-drop}
use Rattle.lv_files.proofs.SealBufferLaws.{sends_more}
use Rattle.lv_files.proofs.seal_buffer.SealBuffer.send.Goals as goal

pub sending-preserved : goal.sending-preserved
sending-preserved g c =
    let inv = c.sending.invariant in
    let sent = c.sending.self.sent in
    record {
      sends = sends_more _ c.sending.self.held.items c.unsent.result.now sent c.in-Ok.count _ _ _ inv.sends (c.unsent.ensures ∙ ap (drop sent) c.deref.ensures.value) c.in-Ok.ensures.bytes;
      within = omega (arith, inv.within, c.in-Ok.ensures.bound, ap length (c.unsent.ensures ∙ ap (drop sent) c.deref.ensures.value), length-drop sent c.sending.self.held.items);
      held = inv.held;
      room = inv.room;
      hash = inv.hash;
    }
