-- Proof of `deliver`: delivers a summary of a version, and returns what became of it.
use Rattle.std.proofs.Common.{sym}
use Rattle.lv_summary.specs.Inner.{table_of}
use Rattle.lv_summary.proofs.ChildLaws.{due_version}
use Rattle.lv_summary.proofs.delivery.deliver.Goals as goal

pub keep-requires-clause-version : goal.keep-requires-clause-version
keep-requires-clause-version g c = due_version (table_of c.args.size c.args.levels.now) c.args.node c.args.version c.requires (sym c.in-Installed.ensures)
