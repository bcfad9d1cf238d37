-- Proof of `SealBuffer::make_room`: writes what is held, if there is no room for so many bytes more.
use Rattle.lv_files.proofs.SealBufferLaws.{sends_none}
use Rattle.lv_files.proofs.seal_buffer.SealBuffer.make_room.Goals as goal

pub returns-clause-sent : goal.returns-clause-sent
returns-clause-sent g c = sends_none _ _
