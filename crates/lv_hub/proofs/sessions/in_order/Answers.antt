-- Proof of `in_order`: sorts the reductions of several sessions by their versions, for a transcript.
use Rattle.std.proofs.Common.{◌≡◌, rules, Result, Ok, Err, OnOk}
use Rattle.std.proofs.lemmas.List.Sorted.{IsNonDecreasingBy-from_sort_by_key}
use Rattle.std.proofs.lemmas.Fn.{always_returns_same}
use Rattle.lv_hub.proofs.OrderLaws.{ties_kept}
use Rattle.lv_hub.proofs.sessions.in_order.Goals as goal

on_ok : {T E A B : Type 0} (result : Result T E) → (A → B) → OnOk result A → OnOk result B
on_ok (Ok x) then holds = then holds
on_ok (Err e) then holds = holds

pub returns-clause-order : goal.returns-clause-order
returns-clause-order c =
    on_ok c.sort_by_key.result (λ sorted. IsNonDecreasingBy-from_sort_by_key (λ reduction. reduction.edit) _ sorted (λ a r q k. search rules)) c.sort_by_key.ensures.sorted

pub returns-clause-stable : goal.returns-clause-stable
returns-clause-stable c =
    ties_kept _ _ (c.sort_by_key.ensures.stable (λ reduction. reduction.edit) (always_returns_same _ (λ a r. r ≡ a.0.now.edit) _ (λ a r q k. search rules)))
