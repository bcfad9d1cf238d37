-- Proof of `run_in`: the best run of some elements.
use Rattle.std.proofs.Common.{ℕ, ap, get_or}
use Rattle.lv_shards.specs.Bytes.{run_or_zeros}
use Rattle.lv_shards.proofs.Back.{run_back}
use Rattle.lv_shards.proofs.reading.run_in.Goals as goal

pub returns : goal.returns
returns c = λ s possible some is.
    let run = run_or_zeros s.six.1.1.1.0 in
    let at = λ (k : ℕ). ap (λ ns. get_or ns k 0) is in
    run_back s.six.1.1.1.0 s.count c.whole.result c.whole-2.result c.whole-3.result c.whole-4.result (possible.full some).best possible.within.1.1.1.0 possible.few
    (λ fits. c.whole.ensures run.total fits (at 7) (at 8)) (λ fits. c.whole-2.ensures run.prefix fits (at 9) (at 10))
    (λ fits. c.whole-3.ensures run.suffix fits (at 11) (at 12)) (λ fits. c.whole-4.ensures run.best fits (at 13) (at 14))
