-- Proof of `livevec_proved_series_value`: the plain values of a range, by all six kinds or by one.
use Rattle.livevec_c.proofs.series_kinds.livevec_proved_series_value.Goals as goal

pub returns-then-six : goal.returns-then-six
returns-then-six c = rw c.if-six.true c.six_held.ensures

pub returns-else-six : goal.returns-else-six
returns-else-six c = rw c.if-six.false c.value_held.ensures
