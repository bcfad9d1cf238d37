-- Proof of `Replay::swap`: exchanges two elements.
use Rattle.std.proofs.Common.{pos, get_or, sym, subst, ◌∙◌}
use Rattle.std.proofs.lemmas.List.Edits.{swap_is}
use Rattle.lv_transcript.specs.Blocks.{AreKept}
use Rattle.lv_transcript.proofs.plain_ranges.Replay.swap.Goals as goal

pub returns-clause-kept : goal.returns-clause-kept
returns-clause-kept c =
    let xs = c.args.self.now.list.items in
    let i = c.args.first in
    let j = c.args.second in
    subst (λ ys. AreKept c.forget-2.new.self ys) (swap_is xs i j (pos 0) c.requires.first c.requires.second ∙ sym c.swap.ensures.items)
    (c.forget-2.ensures _ (get_or xs i (pos 0)) (c.forget.ensures xs (get_or xs j (pos 0)) c.requires.kept))
