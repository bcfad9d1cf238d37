-- Proof of `Board::make_within`: makes a call, with at most this many tries of an update, and returns how it ends, with a fold as its plain
-- value.
use Rattle.std.proofs.Common.{rules}
use Rattle.std.specs.Int.{w64}
use Rattle.std.proofs.lemmas.Int.{to_z-of_z}
use Rattle.lv_board.proofs.board.Board.make_within.Goals as goal

pub returns-in-Push-clause-ends : goal.returns-in-Push-clause-ends
returns-in-Push-clause-ends g c =
    let same = to_z-of_z w64 c.in-Push.x (search rules) in
    let short = rw same at c.push_within.ensures.short in
    let wide = rw same at c.push_within.ensures.wide in
    rw c.in-Push.is (record {
      result = c.push_within.result;
      short = short;
      wide = λ w. ((wide w).0, (wide w).1.actor);
      end_is = c.tried.ensures;
    })

pub returns-in-Write-clause-ends : goal.returns-in-Write-clause-ends
returns-in-Write-clause-ends g c =
    let same = to_z-of_z w64 c.in-Write.value (search rules) in
    let short = rw same at c.write_within.ensures.short in
    let wide = rw same at c.write_within.ensures.wide in
    rw c.in-Write.is (record {
      result = c.write_within.result;
      short = short;
      wide = λ w. ((wide w).0, (wide w).1.actor);
      end_is = c.tried-in-Write.ensures;
    })
