-- What the loop keeps in `SealBuffer::send`: writes what is held.
use Rattle.std.proofs.Common.{◌≡◌, ◌≤◌, ◌-◌, length, drop}
use Rattle.std.specs.Prelude.{vec_capacity}
use Rattle.lv_files.specs.Sealing.{Sends}
use Rattle.lv_files.proofs.seal_buffer.SealBuffer.send.Given as goal

-- what is no longer held is in the file
abbrev pub invariant-sending : goal.invariant-sending
invariant-sending g l = record {
  sends : Sends (drop l.fn.self.sent l.fn.self.held.items) (drop l.self.sent l.self.held.items) (g.W.Write.contents l.fn.file) (g.W.Write.contents l.file);
  within : l.self.sent ≤ length l.self.held.items;
  held : l.self.held.items ≡ l.fn.self.held.items;
  room : vec_capacity l.self.held ≡ vec_capacity l.fn.self.held;
  hash : l.self.hash ≡ l.fn.self.hash;
}

abbrev pub decreases-sending : goal.decreases-sending
decreases-sending g l = length l.self.held.items - l.self.sent
