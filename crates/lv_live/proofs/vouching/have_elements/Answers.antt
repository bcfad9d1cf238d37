-- Proof of `have_elements`: whether elements are those of a whole block.
use Rattle.std.proofs.Common.{◌≡◌, subst}
use Rattle.std.specs.Prelude.{◌↔◌, IsTrue}
use Rattle.std.specs.Ordering.{int_eq}
use Rattle.std.proofs.lemmas.Bool.Decides.{Decides-int_eq}
use Rattle.lv_bodies.specs.EqualLaws.{exact_pointwise}
use Rattle.lv_edits.specs.Touch.{elements_under}
use Rattle.lv_live.proofs.vouching.have_elements.Goals as goal

pub returns : goal.returns
returns c =
    let cells : c.block.result ≡ elements_under c.args.history.now.journal c.args.block = rw c.requires.level c.block.ensures.value in
    subst (λ xs. IsTrue c.eq.result ↔ (c.args.elements.now ≡ xs)) cells (rw c.eq.ensures (exact_pointwise int_eq Decides-int_eq c.args.elements.now c.block.result))
