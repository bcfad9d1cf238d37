-- The ghost that is handed on in `summary_after`: the elements of the query before the edit.
use Rattle.lv_edits.specs.History.{list_of}
use Rattle.lv_standing.specs.Queries.{span_of}
use Rattle.lv_standing.proofs.watches.summary_after.Given as goal

abbrev pub ghost-joined : goal.ghost-joined
ghost-joined g a = span_of a._query.now.span (list_of g.old)
