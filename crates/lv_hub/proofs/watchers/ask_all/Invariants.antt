-- Loop invariants of `ask_all`: has a subscriber without questions ask these.
use Rattle.std.proofs.Common.{◌≡◌, [], None, map, take}
use Rattle.lv_standing.specs.Queries.{watch_answer}
use Rattle.lv_hub.specs.Asking.{refusal_behind}
use Rattle.lv_hub.proofs.watchers.ask_all.Given as goal

-- the questions so far are asked, each with its answer on no elements as the last one
abbrev pub invariant-loop-question : goal.invariant-loop-question
invariant-loop-question g l = record {
  share : l.subscriber.share ≡ l.initial.subscriber.share;
  questions : l.subscriber.questions ≡ take l.question-index l.questions;
  fit : refusal_behind [] l.subscriber.questions ≡ None;
  told : l.subscriber.told ≡ map (watch_answer []) (take l.question-index l.questions);
}
