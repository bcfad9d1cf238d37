-- Proof of `leads_by_numbers`: what the automaton leads to, if to states.
use Rattle.std.proofs.Common.{[], get_or, ◌∙◌, arith}
use Rattle.lv_shards.specs.LeadsLaws.{row_at, states_back}
use Rattle.lv_shards.proofs.Back.{four_back, not_refused, row_back}
use Rattle.lv_shards.proofs.sixfold.leads_by_numbers.Goals as goal
use Rattle.lv_shards.proofs.sixfold.leads_by_numbers.Goals.{else-are_states-via-then-are_states+then-are_states-2+then-are_states-3+else-are_states-4, else-are_states-via-then-are_states+then-are_states-2+else-are_states-3, else-are_states-via-then-are_states+else-are_states-2, else-are_states-via-else-are_states}

pub returns-then-are_states-4-clause-back : goal.returns-then-are_states-4-clause-back
returns-then-are_states-4-clause-back c = λ leads are p q r s.
    four_back leads _ _ _ _ are.four
    (c.to_le_bytes-zero.ensures ∙ states_back (get_or leads 0 []) 0 _ (row_at leads 0 are (omega arith)) p)
    (c.to_le_bytes-one.ensures ∙ states_back (get_or leads 1 []) 0 _ (row_at leads 1 are (omega arith)) q)
    (c.to_le_bytes-two.ensures ∙ states_back (get_or leads 2 []) 0 _ (row_at leads 2 are (omega arith)) r)
    (c.to_le_bytes-three.ensures ∙ states_back (get_or leads 3 []) 0 _ (row_at leads 3 are (omega arith)) s)

pub returns-else-are_states-clause-back : goal.returns-else-are_states-clause-back
returns-else-are_states-clause-back c = λ leads are p q r s.
    let zero = row_back leads 0 _ _ are (omega arith) p c.to_le_bytes-zero.ensures in
    let one = row_back leads 1 _ _ are (omega arith) q c.to_le_bytes-one.ensures in
    let two = row_back leads 2 _ _ are (omega arith) r c.to_le_bytes-two.ensures in
    let three = row_back leads 3 _ _ are (omega arith) s c.to_le_bytes-three.ensures in
    elim c.else-are_states.branch [
      | else-are_states-via-then-are_states+then-are_states-2+then-are_states-3+else-are_states-4 w ↦ elim (not_refused w.are_states-then-are_states-3.result w.are_states-then-are_states-3.ensures w.if-are_states-4.false three) [ ]
      | else-are_states-via-then-are_states+then-are_states-2+else-are_states-3 w ↦ elim (not_refused w.are_states-then-are_states-2.result w.are_states-then-are_states-2.ensures w.if-are_states-3.false two) [ ]
      | else-are_states-via-then-are_states+else-are_states-2 w ↦ elim (not_refused w.are_states-then-are_states.result w.are_states-then-are_states.ensures w.if-are_states-2.false one) [ ]
      | else-are_states-via-else-are_states w ↦ elim (not_refused c.are_states.result c.are_states.ensures w.if-are_states.false zero) [ ]
    ]
