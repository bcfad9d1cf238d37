-- Proof of `leads_in`: what the automaton leads to, if to states.
use Rattle.std.proofs.Common.{ℕ, ap, get_or}
use Rattle.lv_shards.proofs.reading.leads_in.Goals as goal

pub returns-clause-back : goal.returns-clause-back
returns-clause-back c = λ s leads is.
    let at = λ (k : ℕ). ap (λ ns. get_or ns k 0) is in
    c.leads_by_numbers.ensures.back s.leads leads (at 18) (at 19) (at 20) (at 21)
