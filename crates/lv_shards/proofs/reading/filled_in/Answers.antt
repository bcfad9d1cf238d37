-- Proof of `filled_in`: what some elements come to.
use Rattle.std.proofs.Common.{ℕ, ◌∙◌, ap, get_or}
use Rattle.lv_shards.specs.LeadsLaws.{states_back}
use Rattle.lv_shards.proofs.Back.{element_back, map_back, six_back}
use Rattle.lv_shards.proofs.reading.filled_in.Goals as goal

pub returns : goal.returns
returns c = λ s possible some is.
    let at = λ (k : ℕ). ap (λ ns. get_or ns k 0) is in
    let full = possible.full some in
    six_back _ s.six (at 4)
    (element_back s.six.1.0 c.cast_signed.result _ full.least possible.within.1.0 c.cast_signed.ensures (at 5))
    (element_back s.six.1.1.0 c.cast_signed-2.result _ full.greatest possible.within.1.1.0 c.cast_signed-2.ensures (at 6))
    (c.run_in.ensures s possible some is)
    (map_back s.six.1.1.1.1.0 _ _ s.count possible.within.1.1.1.1.0 (at 15) (at 16))
    (c.to_le_bytes.ensures ∙ states_back s.six.1.1.1.1.1 s.count _ possible.within.1.1.1.1.1 (at 17))
