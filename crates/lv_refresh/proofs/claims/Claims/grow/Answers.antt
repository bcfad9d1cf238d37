-- Proof of `Claims::grow`: makes rows for so many blocks, and for the nodes above them.
use Rattle.std.proofs.Common.{arith, refl}
use Rattle.std.proofs.lemmas.Result.{err_from_is_err_and}
use Rattle.lv_refresh.specs.Inner.{FillsClaims, claims_of}
use Rattle.lv_refresh.proofs.ClaimLaws.{AreClaims-filled, FillsAll, FillsAll-levels, claim_blocks_enough, claim_blocks_more, claimed_in-filled, claims_of-same, is_hinted-filled}
use Rattle.lv_refresh.proofs.claims.Claims.grow.Goals as goal

-- every level is filled up to the rows that its indices need
rows_filled : (c : goal.After-fill_levels) → FillsAll (claims_of c.self.inside.levels) (claims_of c.fill_levels.new.levels) c.args.blocks
rows_filled c =
    FillsAll-levels c.self.inside.levels c.reserve_levels.new.levels c.fill_levels.new.levels c.rows_of-rows.result c.args.blocks
    c.in_ok-reserve_levels.ensures.rows c.fill_levels.ensures c.rows_of-rows.ensures.covers

-- the first level is filled up to a row for each block
first_filled : (c : goal.After-fill_levels) → FillsClaims c.self.inside.levels.level_1.rows c.fill_levels.new.levels.level_1.rows c.args.blocks
first_filled c =
    rw (← c.in_ok-reserve_levels.ensures.rows 1 (omega arith) (omega arith), ← c.rows_of-rows.ensures.blocks) (c.fill_levels.ensures 1 (omega arith) (omega arith))

pub invariant_of-self : goal.invariant_of-self
invariant_of-self c = rw (claims_of-same c.self.inside.levels c.reserve_levels.new.levels c.in_err-reserve_levels.ensures.rows) c.self.invariant

pub returns-in_err-reserve_levels : goal.returns-in_err-reserve_levels
returns-in_err-reserve_levels c =
    let same = claims_of-same c.self.inside.levels c.reserve_levels.new.levels c.in_err-reserve_levels.ensures.rows in
    let told = err_from_is_err_and c.from_residual.result c.from_residual.ensures.1 in
    rw (← c.self.view_is, same, told.1, told.2) record { claimed = λ n. refl; hints = λ n hint. hint; more = omega arith; ok = tt; err = c.in_err-reserve_levels.ensures.err; unchanged = refl }

pub fill_levels-requires-clause-few : goal.fill_levels-requires-clause-few
fill_levels-requires-clause-few c level low high = omega (arith, c.rows_of-rows.ensures.few level low high, c.requires)

pub invariant_of-self-2 : goal.invariant_of-self-2
invariant_of-self-2 c = AreClaims-filled _ _ c.args.blocks (rows_filled c) (first_filled c) c.requires c.self.invariant

pub returns-clause-claimed : goal.returns-clause-claimed
returns-clause-claimed c = rw (← c.self.view_is) (claimed_in-filled _ _ c.args.blocks (rows_filled c))

pub returns-clause-hints : goal.returns-clause-hints
returns-clause-hints c = rw (← c.self.view_is) (is_hinted-filled _ _ c.args.blocks (rows_filled c))

pub returns-clause-more : goal.returns-clause-more
returns-clause-more c = rw (← c.self.view_is) (claim_blocks_more _ _ c.args.blocks (rows_filled c) (first_filled c))

pub returns-clause-ok : goal.returns-clause-ok
returns-clause-ok c =
    let old = claims_of c.self.inside.levels in
    claim_blocks_enough old _ c.args.blocks (rows_filled c) (first_filled c)
