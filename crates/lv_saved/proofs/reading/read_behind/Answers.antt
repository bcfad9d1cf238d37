-- Proof of `read_behind`: what bytes say after their front.
use Rattle.lv_saved.proofs.ReadLaws.{not_sound}
use Rattle.lv_saved.proofs.reading.read_behind.Goals as goal

pub returns-else-is_sound-clause-damaged : goal.returns-else-is_sound-clause-damaged
returns-else-is_sound-clause-damaged c = λ _ s h form of is.
    not_sound s c.args.bytes.now c.args.timed c.in-Some.reading c.args.front c.is_sound.result c.is_sound.ensures c.if-is_sound.false c.in-Some.ensures.front c.in-Some.ensures.elements c.in-Some.ensures.times h form of is
