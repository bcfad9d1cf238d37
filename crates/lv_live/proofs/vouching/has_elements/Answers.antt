-- Proof of `has_elements`: whether elements are those of a whole node of level 4.
use Rattle.std.proofs.Common.{◌≡◌, true, false, refl, sym, ◌∙◌, arith}
use Rattle.std.proofs.lemmas.Bool.{false≢true}
use Rattle.lv_edits.specs.Touch.{elements_under}
use Rattle.lv_refresh.specs.Inner.{node_at}
use Rattle.lv_live.proofs.SubtreeElements.{all_same, block_in, block_of_same, same_more}
use Rattle.lv_live.proofs.vouching.has_elements.Goals as goal

pub returns-then-not-has_block : goal.returns-then-not-has_block
returns-then-not-has_block c =
    let no : c.has_block.result ≡ false = c.if-not-has_block.true in (
      λ is. absurd (false≢true is),
      λ same. absurd (false≢true (sym no ∙ c.has_block.ensures.1 (block_of_same c.args.history.now.journal c.args.number c.args.elements.now c.loop-k.k c.loop-k-test.true same))),
    )

pub loop-k-preserved : goal.loop-k-preserved
loop-k-preserved c =
    let yes : c.has_block.result ≡ true = c.if-not-has_block.false in
    same_more c.args.elements.now (elements_under c.args.history.now.journal (node_at 4 c.args.number)) c.loop-k.k c.loop-k.invariant
    (c.has_block.ensures.0 yes ∙ block_in c.args.history.now.journal c.args.number c.loop-k.k c.loop-k-test.true)

pub returns : goal.returns
returns c =
    let end : c.loop-k.k ≡ 512 = omega (arith, c.loop-k.auto.k-end, c.loop-k-test.false) in
    let same = all_same c.args.history.now.journal c.args.number c.args.elements.now c.loop-k.k end c.requires.many c.loop-k.invariant in
    (λ yes. same, λ is. refl)
