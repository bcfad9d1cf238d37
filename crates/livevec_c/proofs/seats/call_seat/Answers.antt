-- Proof of `call_seat`: a call of a seat.
use Rattle.livevec_c.proofs.seats.call_seat.Goals as goal

pub returns-in-Sum : goal.returns-in-Sum
returns-in-Sum c = rw c.in-Sum.is c.make.ensures.makes

pub returns-in-Least : goal.returns-in-Least
returns-in-Least c = rw c.in-Least.is c.make-in-Least.ensures.makes

pub returns-in-Greatest : goal.returns-in-Greatest
returns-in-Greatest c = rw c.in-Greatest.is c.make-in-Greatest.ensures.makes

pub returns-in-Best : goal.returns-in-Best
returns-in-Best c = rw c.in-Best.is c.make-in-Best.ensures.makes

pub returns-in-Affine : goal.returns-in-Affine
returns-in-Affine c = rw c.in-Affine.is c.make-in-Affine.ensures.makes

pub returns-in-Automaton : goal.returns-in-Automaton
returns-in-Automaton c = rw c.in-Automaton.is c.make-in-Automaton.ensures.makes
