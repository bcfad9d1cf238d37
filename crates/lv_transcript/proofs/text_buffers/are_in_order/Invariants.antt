-- What the loop keeps in `are_in_order`: the answers so far are in the rising order of their versions.
use Rattle.std.proofs.Common.{◌≡◌, ◌-◌, ◌<◌, ◌≤◌, get_or}
use Rattle.std.specs.List.{AllAdjacentBelow}
use Rattle.lv_transcript.specs.declared.claimed.Claimed.{Claimed}
use Rattle.lv_transcript.proofs.text_buffers.are_in_order.Given as goal

-- those so far rise, and the edit of the last of them is known
abbrev pub invariant-loop-answer : goal.invariant-loop-answer
invariant-loop-answer l =
    record {
      rise : AllAdjacentBelow (λ (x : Claimed) y. x.edit ≤ y.edit) l.answers l.answer-index;
      last : (d : Claimed) → 0 < l.answer-index → l.last ≡ (get_or l.answers (l.answer-index - 1) d).edit;
      none : l.answer-index ≡ 0 → l.last ≡ 0;
    }
