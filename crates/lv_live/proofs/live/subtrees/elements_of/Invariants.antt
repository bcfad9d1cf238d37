-- What the loop keeps in `elements_of`.
use Rattle.std.proofs.Common.{◌≡◌, ◌*◌, take}
use Rattle.lv_edits.specs.Touch.{elements_under}
use Rattle.lv_refresh.specs.Inner.{node_at}
use Rattle.lv_live.proofs.live.subtrees.elements_of.Given as goal

-- the elements so far are the node's first
abbrev pub invariant-loop-k : goal.invariant-loop-k
invariant-loop-k l = l.elements.items ≡ take (8 * l.k) (elements_under l.fn.history.journal (node_at 4 l.fn.number))
