-- What the loop keeps in `Upper::set_below`: marks the numbers below `count`.
use Rattle.std.proofs.Common.{◌≡◌, ℕ, ◌||◌, length, nat_lt}
use Rattle.lv_refresh.specs.Marks.{is_marked}
use Rattle.lv_refresh.proofs.upper.Upper.set_below.Given as goal

-- the numbers before are marked, and no other further
abbrev pub invariant-loop-i : goal.invariant-loop-i
invariant-loop-i g l = record {
  marks : (j : ℕ) → is_marked (g.Self.Upper.words l.self) j ≡ nat_lt j l.i || is_marked (g.Self.Upper.words l.initial.self) j;
  room : length (g.Self.Upper.words l.self) ≡ length (g.Self.Upper.words l.initial.self);
}
