-- The loop invariant of `ask_each`: the answers of the queries so far were computed.
use Rattle.std.proofs.Common.{◌≡◌, map, take, vec_capacity}
use Rattle.lv_standing.proofs.query_set.ask_each.Given as goal

abbrev pub invariant-loop-query : goal.invariant-loop-query
invariant-loop-query g l = record {
  answers : l.answers.items ≡ map (g.Q.Asks.answer_of l.fn.asked) (take l.query-index l.queries);
  capacity : vec_capacity l.answers ≡ vec_capacity l.fn.answers;
  same : l.asked ≡ l.fn.asked;
}
