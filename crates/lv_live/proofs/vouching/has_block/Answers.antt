-- Proof of `has_block`: whether the eight elements from a place on are those of a block.
use Rattle.std.proofs.Common.{◌≡◌, subst}
use Rattle.std.specs.Prelude.{◌↔◌, IsTrue, ◌+◌, slice_range}
use Rattle.std.specs.Ordering.{int_eq}
use Rattle.std.proofs.lemmas.Bool.Decides.{Decides-int_eq}
use Rattle.lv_bodies.specs.EqualLaws.{exact_pointwise}
use Rattle.lv_live.proofs.vouching.has_block.Goals as goal

pub returns : goal.returns
returns c =
    subst (λ xs. IsTrue c.eq.result ↔ (slice_range c.args.elements.now c.args.at (c.args.at + 8) ≡ xs)) c.block-here.ensures.value
    (rw c.eq.ensures (exact_pointwise int_eq Decides-int_eq (slice_range c.args.elements.now c.args.at (c.args.at + 8)) c.block-here.result))
