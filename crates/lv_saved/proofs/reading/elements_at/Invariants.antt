-- What the loop keeps in `elements_at`: so many numbers from a place on, as elements.
use Rattle.lv_saved.specs.Readings.{AreElementsAt}
use Rattle.lv_saved.proofs.reading.elements_at.Given as goal

-- the elements so far
abbrev pub invariant-loop-k : goal.invariant-loop-k
invariant-loop-k l = AreElementsAt l.bytes l.from l.k l.elements.items
