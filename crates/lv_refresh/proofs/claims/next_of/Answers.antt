-- Proof of `next_of`: the least node of a level that wants a job, and the number of the edit that touched it last, which is claimed with it.
use Rattle.std.proofs.Common.{◌≡◌, get_or, ◌∙◌}
use Rattle.lv_refresh.specs.ClaimTable.{version_of}
use Rattle.lv_refresh.proofs.PickLaws.{Passes-from, Picks-from, hints_after, row_of_wanted}
use Rattle.lv_refresh.proofs.claims.next_of.Goals as goal

pub claim-requires-clause-inside : goal.claim-requires-clause-inside
claim-requires-clause-inside g c =
    let stamps : c.unhint.new.self.rows.claimed ≡ c.args.rows.now.rows.claimed = c.unhint.ensures.claimed ∙ c.loop-number.invariant.claimed in
    rw stamps (row_of_wanted c.args.table.now (version_of (get_or c.unhint.new.self.rows.claimed c.in-Some.number 0)) c.args.level c.in-Some.number c.args.rows.now.rows c.in-Some-wanted.ensures.some.0 c.requires.rows_enough)

pub returns-in-Some-wanted : goal.returns-in-Some-wanted
returns-in-Some-wanted g c =
    let wants = c.in-Some-wanted.ensures.some.0 in
    let inside = row_of_wanted c.args.table.now (version_of (get_or c.unhint.new.self.rows.claimed c.in-Some.number 0)) c.args.level c.in-Some.number c.args.rows.now.rows wants c.requires.rows_enough in
    Picks-from c.args.table.now c.args.level c.args.rows.now.rows c.loop-number.rows.rows c.unhint.new.self.rows c.claim.new.self.rows c.in-Some.number c.in-Some-wanted.version
    c.loop-number.invariant.claimed c.loop-number.invariant.room c.loop-number.invariant.hints c.in-Some.ensures.some c.unhint.ensures c.claim.ensures inside wants c.in-Some-wanted.ensures.some.1

pub loop-number-preserved : goal.loop-number-preserved
loop-number-preserved g c =
    let away = c.unhint.ensures in
    record {
      claimed = away.claimed ∙ c.loop-number.invariant.claimed;
      room = away.room ∙ c.loop-number.invariant.room;
      hints = hints_after c.args.table.now c.args.level c.loop-number.rows.rows c.unhint.new.self.rows c.in-Some.number away c.loop-number.invariant.hints c.in_default-wanted.ensures.none;
    }

pub returns : goal.returns
returns g c =
    Passes-from c.args.table.now c.args.level c.args.rows.now.rows c.loop-number.rows.rows
    c.loop-number.invariant.claimed c.loop-number.invariant.room c.loop-number.invariant.hints c.in_default.ensures.none
