-- Proof of `close_kind`: the vector of a board whose seats are all there, or the board again.
use Rattle.livevec_c.proofs.closed.close_kind.Goals as goal

-- each arm by its call; the search took nine seconds
pub returns-in-Ok-clause-ok : goal.returns-in-Ok-clause-ok
returns-in-Ok-clause-ok c = rw c.in-Sum.is c.in-Ok.ensures.ok

pub returns-in-Err-clause-err : goal.returns-in-Err-clause-err
returns-in-Err-clause-err c = rw c.in-Sum.is c.in-Err.ensures.err

pub returns-in-Ok-close-clause-ok : goal.returns-in-Ok-close-clause-ok
returns-in-Ok-close-clause-ok c = rw c.in-Least.is c.in-Ok-close.ensures.ok

pub returns-in-Err-close-clause-err : goal.returns-in-Err-close-clause-err
returns-in-Err-close-clause-err c = rw c.in-Least.is c.in-Err-close.ensures.err

pub returns-in-Ok-close-2-clause-ok : goal.returns-in-Ok-close-2-clause-ok
returns-in-Ok-close-2-clause-ok c = rw c.in-Greatest.is c.in-Ok-close-2.ensures.ok

pub returns-in-Err-close-2-clause-err : goal.returns-in-Err-close-2-clause-err
returns-in-Err-close-2-clause-err c = rw c.in-Greatest.is c.in-Err-close-2.ensures.err

pub returns-in-Ok-close-3-clause-ok : goal.returns-in-Ok-close-3-clause-ok
returns-in-Ok-close-3-clause-ok c = rw c.in-Best.is c.in-Ok-close-3.ensures.ok

pub returns-in-Err-close-3-clause-err : goal.returns-in-Err-close-3-clause-err
returns-in-Err-close-3-clause-err c = rw c.in-Best.is c.in-Err-close-3.ensures.err

pub returns-in-Ok-close-4-clause-ok : goal.returns-in-Ok-close-4-clause-ok
returns-in-Ok-close-4-clause-ok c = rw c.in-Affine.is c.in-Ok-close-4.ensures.ok

pub returns-in-Err-close-4-clause-err : goal.returns-in-Err-close-4-clause-err
returns-in-Err-close-4-clause-err c = rw c.in-Affine.is c.in-Err-close-4.ensures.err

pub returns-in-Ok-close-5-clause-ok : goal.returns-in-Ok-close-5-clause-ok
returns-in-Ok-close-5-clause-ok c = rw c.in-Automaton.is c.in-Ok-close-5.ensures.ok

pub returns-in-Err-close-5-clause-err : goal.returns-in-Err-close-5-clause-err
returns-in-Err-close-5-clause-err c = rw c.in-Automaton.is c.in-Err-close-5.ensures.err
