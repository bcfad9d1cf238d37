-- Proof of `Automaton::tell`: the fold of some elements by a table is their summary by it.
use Rattle.lv_bodies.specs.Automata.{table_of}
use Rattle.lv_tree.proofs.ToldLaws.{automaton_told}
use Rattle.lv_tree.proofs.of_kind.AutomatonOfKind.tell.Goals as goal

pub returns : goal.returns
returns c body table xs fits elements some fold = automaton_told table xs (table_of body) c.args.s fits fold
