-- Proof of `Claims::touch`: takes note that an edit touched index `i`, so that its block may want a job.
use Rattle.std.proofs.Common.{◌/◌, arith, refl}
use Rattle.lv_geometry.specs.Levels.{with_thing}
use Rattle.lv_geometry.specs.Nodes.{over}
use Rattle.lv_refresh.specs.Inner.{HintsNode, claims_of}
use Rattle.lv_refresh.proofs.HintLaws.{AreClaims-hinted, HintsLevel-one, HintsNode-by_rows, block_hinted}
use Rattle.lv_refresh.proofs.RowLaws.{hint_of_index}
use Rattle.lv_refresh.proofs.claims.Claims.touch.Goals as goal

pub hint-requires : goal.hint-requires
hint-requires c = hint_of_index _ c.args.i 1 c.self.invariant (rw (← c.self.view_is) at c.requires) (omega arith) (omega arith)

pub invariant_of-self : goal.invariant_of-self
invariant_of-self c =
    AreClaims-hinted _ _ 1 (c.args.i / 8) (HintsLevel-one c.self.inside.levels 1 (c.args.i / 8) c.hint.new.self (omega arith) (omega arith) c.hint.ensures) c.self.invariant

-- the block of the index is hinted at
hinted : (c : goal.After-hint) → HintsNode (claims_of c.self.inside.levels) (claims_of (with_thing c.self.inside.levels 1 c.hint.new.self)) (over 1 c.args.i)
hinted c =
    HintsNode-by_rows _ _ 1 (c.args.i / 8) (HintsLevel-one c.self.inside.levels 1 (c.args.i / 8) c.hint.new.self (omega arith) (omega arith) c.hint.ensures) (over 1 c.args.i) refl refl

pub returns-clause-claimed : goal.returns-clause-claimed
returns-clause-claimed c = rw (← c.self.view_is) (hinted c).claimed

pub returns-clause-hints : goal.returns-clause-hints
returns-clause-hints c = rw (← c.self.view_is) (block_hinted _ _ c.args.i (hinted c))

pub returns-clause-blocks : goal.returns-clause-blocks
returns-clause-blocks c = rw (← c.self.view_is) (hinted c).blocks
