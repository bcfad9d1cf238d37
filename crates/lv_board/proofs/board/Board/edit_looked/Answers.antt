-- Proof of `Board::edit_looked`: an update from the look that the seat has.
use Rattle.std.proofs.Common.{rules, subst}
use Rattle.std.specs.Int.{w64}
use Rattle.std.proofs.lemmas.Int.{to_z-of_z}
use Rattle.lv_machine.specs.History.{IsShortEdit}
use Rattle.lv_board.proofs.board.Board.edit_looked.Goals as goal

pub returns-in-Push-clause-answer : goal.returns-in-Push-clause-answer
returns-in-Push-clause-answer g c =
    let same = to_z-of_z w64 c.in-Push.x (search rules) in
    let short = rw same at c.push_looked.ensures.short in
    rw c.in-Push.is (short (subst IsShortEdit c.in-Push.is c.requires.short))

pub returns-in-Pop-clause-answer : goal.returns-in-Pop-clause-answer
returns-in-Pop-clause-answer g c = rw c.in-Pop.is c.pop_looked.ensures.answer

pub returns-in-Write-clause-answer : goal.returns-in-Write-clause-answer
returns-in-Write-clause-answer g c =
    let same = to_z-of_z w64 c.in-Write.value (search rules) in
    let short = rw same at c.write_looked.ensures.short in
    rw c.in-Write.is (short (subst IsShortEdit c.in-Write.is c.requires.short))
