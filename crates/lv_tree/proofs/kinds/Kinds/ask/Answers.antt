-- Proof of `Kinds::ask`: the summary by a kind of the elements from index `lo` up to `hi`, with the number of the last edit.
use Rattle.std.proofs.Common.{◌≡◌, ap, sym}
use Rattle.lv_bodies.specs.Automata.{table_of}
use Rattle.lv_bodies.specs.declared.kinds.Kind.TheVariants as kind
use Rattle.lv_tree.specs.Kinds.{KindsState}
use Rattle.lv_tree.proofs.AnswerLaws.{answer_by_sums, answer_by_table}
use Rattle.lv_tree.proofs.kinds.Kinds.ask.Goals as goal

pub returns-in-Sum-clause-ok : goal.returns-in-Sum-clause-ok
returns-in-Sum-clause-ok c = answer_by_sums c.ask_sum.result c.args.self.now.table c.args.cells.now.journal c.args.kind c.args.lo c.args.hi c.in-Sum.is c.ask_sum.ensures.ok

pub returns-in-Least-clause-ok : goal.returns-in-Least-clause-ok
returns-in-Least-clause-ok c = answer_by_table c.ask_by.result c.args.self.now.table c.args.cells.now.journal c.args.kind kind.Least c.args.lo c.args.hi (λ _. Unit {0}) c.in-Least.is tt c.ask_by.ensures.ok

pub returns-in-Greatest-clause-ok : goal.returns-in-Greatest-clause-ok
returns-in-Greatest-clause-ok c = answer_by_table c.ask_by-in-Greatest.result c.args.self.now.table c.args.cells.now.journal c.args.kind kind.Greatest c.args.lo c.args.hi (λ _. Unit {0}) c.in-Greatest.is tt c.ask_by-in-Greatest.ensures.ok

pub returns-in-Best-clause-ok : goal.returns-in-Best-clause-ok
returns-in-Best-clause-ok c = answer_by_table c.ask_by-in-Best.result c.args.self.now.table c.args.cells.now.journal c.args.kind kind.Best c.args.lo c.args.hi (λ _. Unit {0}) c.in-Best.is tt c.ask_by-in-Best.ensures.ok

pub returns-in-Affine-clause-ok : goal.returns-in-Affine-clause-ok
returns-in-Affine-clause-ok c = answer_by_table c.ask_by-in-Affine.result c.args.self.now.table c.args.cells.now.journal c.args.kind kind.Affine c.args.lo c.args.hi (λ _. Unit {0}) c.in-Affine.is tt c.ask_by-in-Affine.ensures.ok

pub returns-in-Automaton-clause-ok : goal.returns-in-Automaton-clause-ok
returns-in-Automaton-clause-ok c = answer_by_table c.ask_by-in-Automaton.result c.args.self.now.table c.args.cells.now.journal c.args.kind kind.Automaton c.args.lo c.args.hi (λ t. t ≡ table_of c.self.inside.states.body) c.in-Automaton.is (ap (λ (s : KindsState). s.table) (sym c.self.view_is)) c.ask_by-in-Automaton.ensures.ok
