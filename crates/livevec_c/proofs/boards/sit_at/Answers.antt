-- Proof of `sit_at`: the first of the seats that are there.
use Rattle.livevec_c.proofs.boards.sit_at.Goals as goal

-- each arm by its call
pub returns-in-Ok-clause-ok : goal.returns-in-Ok-clause-ok
returns-in-Ok-clause-ok c = rw c.in-Sum.is c.in-Ok.ensures.ok

pub returns-in-Err-clause-err : goal.returns-in-Err-clause-err
returns-in-Err-clause-err c = rw c.in-Sum.is c.in-Err.ensures.err

pub returns-in-Ok-sit-clause-ok : goal.returns-in-Ok-sit-clause-ok
returns-in-Ok-sit-clause-ok c = rw c.in-Least.is c.in-Ok-sit.ensures.ok

pub returns-in-Err-sit-clause-err : goal.returns-in-Err-sit-clause-err
returns-in-Err-sit-clause-err c = rw c.in-Least.is c.in-Err-sit.ensures.err

pub returns-in-Ok-sit-2-clause-ok : goal.returns-in-Ok-sit-2-clause-ok
returns-in-Ok-sit-2-clause-ok c = rw c.in-Greatest.is c.in-Ok-sit-2.ensures.ok

pub returns-in-Err-sit-2-clause-err : goal.returns-in-Err-sit-2-clause-err
returns-in-Err-sit-2-clause-err c = rw c.in-Greatest.is c.in-Err-sit-2.ensures.err

pub returns-in-Ok-sit-3-clause-ok : goal.returns-in-Ok-sit-3-clause-ok
returns-in-Ok-sit-3-clause-ok c = rw c.in-Best.is c.in-Ok-sit-3.ensures.ok

pub returns-in-Err-sit-3-clause-err : goal.returns-in-Err-sit-3-clause-err
returns-in-Err-sit-3-clause-err c = rw c.in-Best.is c.in-Err-sit-3.ensures.err

pub returns-in-Ok-sit-4-clause-ok : goal.returns-in-Ok-sit-4-clause-ok
returns-in-Ok-sit-4-clause-ok c = rw c.in-Affine.is c.in-Ok-sit-4.ensures.ok

pub returns-in-Err-sit-4-clause-err : goal.returns-in-Err-sit-4-clause-err
returns-in-Err-sit-4-clause-err c = rw c.in-Affine.is c.in-Err-sit-4.ensures.err

pub returns-in-Ok-sit-5-clause-ok : goal.returns-in-Ok-sit-5-clause-ok
returns-in-Ok-sit-5-clause-ok c = rw c.in-Automaton.is c.in-Ok-sit-5.ensures.ok

pub returns-in-Err-sit-5-clause-err : goal.returns-in-Err-sit-5-clause-err
returns-in-Err-sit-5-clause-err c = rw c.in-Automaton.is c.in-Err-sit-5.ensures.err
