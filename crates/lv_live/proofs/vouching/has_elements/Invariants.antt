-- What the loop keeps in `has_elements`.
use Rattle.std.proofs.Common.{◌≡◌, ◌*◌, take}
use Rattle.lv_edits.specs.Touch.{elements_under}
use Rattle.lv_refresh.specs.Inner.{node_at}
use Rattle.lv_live.proofs.vouching.has_elements.Given as goal

-- the elements so far are the node's
abbrev pub invariant-loop-k : goal.invariant-loop-k
invariant-loop-k l = take (8 * l.k) l.fn.elements ≡ take (8 * l.k) (elements_under l.fn.history.journal (node_at 4 l.fn.number))
