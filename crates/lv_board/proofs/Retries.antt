-- The effect of several tries of one update.
use Rattle.std.proofs.Common.{rules, ◌≡◌, ℕ, zero, suc, ◌+◌, Some, Result, Ok, Err, List, ◌∷◌, refl, sym, ap, ◌∙◌, subst, inl, inr, arith}
use Rattle.lv_geometry.specs.Bounds.{Bounds}
use Rattle.lv_geometry.specs.declared.refusals.Refusal.{Refusal}
use Rattle.lv_geometry.specs.declared.refusals.Refusal.TheVariants.{Contended}
use Rattle.lv_edits.specs.declared.edit.Edit.{Edit}
use Rattle.lv_edits.specs.declared.receipt.Receipt.{Receipt}
use Rattle.lv_edits.specs.Verdict.{verdict_of}
use Rattle.lv_machine.specs.History.{edits_of, Ends, own}
use Rattle.lv_machine.specs.Terms.{Terms}
use Rattle.lv_machine.proofs.EndsLaws.{Ends-cons, Ends-trans, Ends-whole}
use Rattle.lv_board.specs.declared.actors.Actor.{Actor}
use Rattle.lv_board.specs.Calls.{HasLooked, TryAnswers}
use Rattle.lv_board.specs.Tells.{IsQuiet}
use Rattle.lv_board.specs.Retrying.{AreOutrun, HasTried, IsOutrun}
use Rattle.lv_board.specs.Steps.{HasFound}
use Rattle.lv_board.proofs.Calling.{quiet_same, quiet_then}

-- the precondition check never says that another update came first
no_contended : (limits : Bounds) (es : List Edit) (e : Edit) (n : ℕ) → verdict_of limits es e ≡ Some (Contended n) → ⊥
no_contended limits es e n is = grind arith

-- if a compare-and-swap found another descriptor, the look shows all that is known, so it serves as a new look
pub found_looked : (t : Terms) (e : Edit) (x y : Actor) (result : Result Receipt Refusal) → TryAnswers t x y e result → HasFound result → HasLooked t y y
found_looked t e x y (Ok receipt) last found = elim found [ ]
found_looked t e x y (Err refusal) (looked, inl verdict) (n, is) = absurd (no_contended t.limits (edits_of y.seen) e n (verdict ∙ ap Some is))
found_looked t e x y (Err refusal) (looked, inr (inl (loads, free, over))) (n, is) = search (rules, sym is ∙ over.refusal_is)
found_looked t e x y (Err refusal) (looked, inr (inr (h, first, then, at))) (n, is) = record {
  quiet = quiet_same y y refl refl refl;
  fresh = subst (Ends y.known) at.all (Ends-whole y.known);
  kept = looked.kept;
  legal = looked.legal;
}

-- tries that failed because of other seats made no update
outrun_quiet : (t : Terms) (e : Edit) (n : ℕ) (x y : Actor) → AreOutrun t e n x y → IsQuiet x y
outrun_quiet t e zero x y same = quiet_same x y (ap (λ (a : Actor). a.number) same) (ap (λ (a : Actor). a.known) same) (ap (λ (a : Actor). a.own) same)
outrun_quiet t e (suc n) x y (m, refusal, before, last, is) = quiet_then x m y (outrun_quiet t e n x m before) last.0.quiet

-- one more such try
pub outrun_more : (t : Terms) (e : Edit) (n : ℕ) (x m y : Actor) (result : Result Receipt Refusal) → AreOutrun t e n x m → TryAnswers t m y e result → IsOutrun result → AreOutrun t e (n + 1) x y
outrun_more t e n x m y (Ok receipt) before last is = elim is [ ]
outrun_more t e n x m y (Err refusal) before last is =
    let more : suc n ≡ n + 1 = omega arith in
    subst (λ k. AreOutrun t e k x y) more (m, refusal, before, last, is)

-- one more try after them
tried_then : (t : Terms) (e : Edit) (x m y : Actor) (result : Result Receipt Refusal) → IsQuiet x m → TryAnswers t m y e result → HasTried x y e result
tried_then t e x m y (Ok receipt) quiet (h, added) = record {
  number = added.number ∙ quiet.number;
  known = Ends-trans x.known m.known y.known quiet.known (subst (Ends m.known) (sym (added.known ∙ added.seen)) (Ends-cons m.known h record { actor = m.number; edit = e } added.knew));
  own_is = subst (λ n. own n y.known ≡ record { actor = n; edit = e } ∷ own n m.known) quiet.number added.own_is ∙ ap (λ k. record { actor = x.number; edit = e } ∷ k) quiet.own_is;
}
tried_then t e x m y (Err refusal) quiet (looked, why) =
    let all = quiet_then x m y quiet looked.quiet in
    record { number = all.number; known = all.known; own_is = all.own_is }

pub tried_within : (t : Terms) (e : Edit) (n : ℕ) (x m y : Actor) (result : Result Receipt Refusal) → AreOutrun t e n x m → TryAnswers t m y e result → HasTried x y e result
tried_within t e n x m y result outrun last = tried_then t e x m y result (outrun_quiet t e n x m outrun) last
