-- Proof of `read`: what bytes say.
use Rattle.std.proofs.Common.{length, ap, arith}
use Rattle.lv_saved.proofs.ReadLaws.{length_bytes}
use Rattle.lv_saved.proofs.reading.read.Goals as goal

pub returns-then-bytes-ne0-clause-damaged : goal.returns-then-bytes-ne0-clause-damaged
returns-then-bytes-ne0-clause-damaged c = λ _ s h form is. elim (c.if-bytes-ne0.true (omega (arith, ap length is, length_bytes s))) [ ]

pub returns-then-numbers-lt-LEAST_NUMBERS-clause-damaged : goal.returns-then-numbers-lt-LEAST_NUMBERS-clause-damaged
returns-then-numbers-lt-LEAST_NUMBERS-clause-damaged c = λ _ s h form is. absurd (omega (arith, ap length is, length_bytes s, c.if-numbers-lt-LEAST_NUMBERS.true))
