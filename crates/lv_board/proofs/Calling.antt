-- How the steps of a call make up its result.
use Rattle.std.proofs.Common.{◌≡◌, ◌≢◌, ℕ, ℤ, pos, ◌<◌, ◌≤◌, None, Result, Ok, Err, List, ◌∷◌, length, refl, sym, ap, ◌∙◌, subst, inl, inr, arith, ◌*◌}
use Rattle.std.specs.Prelude.{ok_or}
use Rattle.std.specs.List.{slice_index_or}
use Rattle.std.proofs.lemmas.Option.{none-some, slice_get-get_or, slice_get_past}
use Rattle.lv_geometry.specs.Cells.{capacity_of}
use Rattle.lv_geometry.specs.declared.refusals.Refusal.{Refusal}
use Rattle.lv_geometry.specs.declared.refusals.Refusal.TheVariants.{OutOfRange, Worn}
use Rattle.lv_edits.specs.declared.edit.Edit.{Edit}
use Rattle.lv_edits.specs.History.{list_of}
use Rattle.lv_edits.specs.declared.receipt.Receipt.{Receipt}
use Rattle.lv_edits.specs.Verdict.{element_at, receipt_of, verdict_of}
use Rattle.lv_machine.specs.declared.entries.Entry.{Entry}
use Rattle.lv_machine.specs.History.{descriptor_of, edits_of, elements_of, Ends, IsLegalHistory, IsShortEdit, own}
use Rattle.lv_machine.specs.Layout.{cell_place, mark_place}
use Rattle.lv_machine.specs.Shows.{IsCellRead, IsMarkRead}
use Rattle.lv_machine.specs.Terms.{AreTerms, Folding, Terms}
use Rattle.lv_machine.specs.Words.{cell_version, edit_of, HasPending, size_of}
use Rattle.lv_machine.proofs.EndsLaws.{Ends-trans, Ends-whole}
use Rattle.lv_machine.proofs.HistoryLaws.{length-edits_of, length_below}
use Rattle.lv_machine.proofs.MoveLaws.{same_refusal}
use Rattle.lv_geometry.proofs.Capacities.{capacity_of_mono}
use Rattle.lv_geometry.specs.Bounds.{Bounds}
use Rattle.lv_machine.specs.Moves.{verdict_at}
use Rattle.std.proofs.lemmas.Bool.{cond-true, eq-eqb}
use Rattle.lv_board.proofs.Advancing.{own-same}
use Rattle.lv_board.specs.declared.actors.Actor.{Actor}
use Rattle.lv_board.specs.declared.actors.Basis.{Basis}
use Rattle.lv_board.specs.Calls.{HasAdded, HasLooked, LoadsCell, LookedAnswers, TryAnswers}
use Rattle.lv_board.specs.Steps.{TakeAnswers}
use Rattle.lv_board.specs.Plays.{IsAccepted, IsContended, IsRead, SeesAll}
use Rattle.lv_board.specs.Tells.{IsQuiet}
use Rattle.lv_board.specs.Rule.{terms_of, limits_of}
use Rattle.lv_machine.specs.Ready.{CanPack, IsIndexShort}
use Rattle.lv_board.specs.Stands.{IsBasis, IsLook, IsReady}

-- quiet steps one after the other
pub quiet_then : (x y z : Actor) → IsQuiet x y → IsQuiet y z → IsQuiet x z
quiet_then x y z first second = record {
  number = second.number ∙ first.number;
  known = Ends-trans x.known y.known z.known first.known second.known;
  own_is = subst (λ n. own n z.known ≡ own n y.known) first.number second.own_is ∙ first.own_is;
  made = second.made ∙ first.made;
}

-- if an actor knows the same after a step, and has made the same, it has made no update
pub quiet_same : (x y : Actor) → y.number ≡ x.number → y.known ≡ x.known → y.own ≡ x.own → IsQuiet x y
quiet_same x y number known made = record {
  number = number;
  known = subst (Ends x.known) (sym known) (Ends-whole x.known);
  own_is = ap (own x.number) known;
  made = made;
}

-- a load of the descriptor is a look
pub has_looked : {B : Type 0} (f : B → Folding) (y z : Basis B) (a b : Actor) (found : ℕ) → y ≡ z → IsQuiet a b → SeesAll (terms_of f y) b found → HasLooked (terms_of f z) a b
has_looked f y z a b found same quiet sees = subst (λ w. HasLooked (terms_of f w) a b) same record {
  quiet = quiet;
  fresh = subst (Ends a.known) (sym sees.all) quiet.known;
  kept = subst (Ends b.seen) sees.all (Ends-whole b.seen);
  legal = sees.legal;
}

-- steps without an update after a look leave what was seen
pub looked_then : (t : Terms) (x y z : Actor) → HasLooked t x y → IsQuiet y z → z.seen ≡ y.seen → HasLooked t x z
looked_then t x y z looked quiet same = record {
  quiet = quiet_then x y z looked.quiet quiet;
  fresh = subst (Ends x.known) (sym same) looked.fresh;
  kept = subst (λ h. Ends h z.known) (sym same) (Ends-trans y.seen y.known z.known looked.kept quiet.known);
  legal = subst (IsLegalHistory t) (sym same) looked.legal;
}

-- a look after steps without an update extends what an actor knew
pub looked_before : (t : Terms) (x m y : Actor) → IsQuiet x m → HasLooked t m y → HasLooked t x y
looked_before t x m y quiet looked = record {
  quiet = quiet_then x m y quiet looked.quiet;
  fresh = Ends-trans x.known m.known y.seen quiet.known looked.fresh;
  kept = looked.kept;
  legal = looked.legal;
}

-- what a ready seat reads of a cell
pub cell_found : (t : Terms) (x y : Actor) (look at found i : ℕ) → IsRead t x y at found → look ≡ descriptor_of x.seen → IsReady x look → i < capacity_of t.limits.buckets → at ≡ cell_place i → IsCellRead i x.seen y.known found
cell_found t x y look at found i read is ready within place = read.cell i within place (λ has. ready.helped (subst HasPending (sym is) has))

-- the version of such a cell is the number of an update
pub version_few : (t : Terms) (i : ℕ) (k h : List Entry) (found : ℕ) → AreTerms t → IsLegalHistory t h → IsCellRead i k h found → cell_version found ≤ 16777215
version_few t i k h found terms legal read = let few = terms.allowed.few_edits in omega (arith, read.late, length_below t h terms legal)

-- the element at an index, if there is one, and if there is none
pub element_inside : (es : List Edit) (i : ℕ) (x : ℤ) → i < length (list_of es) → x ≡ slice_index_or (list_of es) i (pos 0) → element_at es i ≡ Ok x
element_inside es i x within is = ap (λ o. ok_or o (OutOfRange (length (list_of es)))) (slice_get-get_or (list_of es) i (pos 0) within) ∙ ap Ok (sym is)

pub element_outside : (es : List Edit) (i : ℕ) → length (list_of es) ≤ i → element_at es i ≡ Err (OutOfRange (length (list_of es)))
element_outside es i past = ap (λ o. ok_or o (OutOfRange (length (list_of es)))) (slice_get_past (list_of es) i past)

-- what a seat reads after a look and the completion of its pending write: nothing new was seen
pub helped_quiet : (x y : Actor) → y.own ≡ x.own → y.known ≡ x.known → y.number ≡ x.number → IsQuiet x y
helped_quiet x y made known number = quiet_same x y number known made

-- the precondition check at a look is that at the history that the look shows
pub verdict_is : (limits : Bounds) (look : ℕ) (h : List Entry) (e : Edit) → edit_of look ≡ length h → size_of look ≡ length (elements_of h) → verdict_at limits look e ≡ verdict_of limits (edits_of h) e
verdict_is limits look h e edit size = rw (edit, size, same_refusal, length-edits_of)

not_worn : (limits : Bounds) (look : ℕ) (e : Edit) → verdict_at limits look e ≡ None → edit_of look ≢ limits.edits
not_worn limits look e free same = none-some Worn (sym free ∙ cond-true _ _ _ (eq-eqb _ _ same))

-- an update that nothing refuses fits into a descriptor
pub can_pack : {B : Type 0} (z : Basis B) (look : ℕ) (h : List Entry) (e : Edit) → IsBasis z → IsLook z.buckets z.edits look h → IsShortEdit e → IsIndexShort e → verdict_at (limits_of z) look e ≡ None → CanPack look e
can_pack z look h e basis is short index free =
    let few = capacity_of_mono z.buckets 9 basis.few_buckets in
    let left = not_worn (limits_of z) look e free in
    record { short = short; number = omega (arith, is.few_edits, basis.few_edits); size = omega (arith, is.few_cells); index = index }

-- an accepted update is added to what was seen
pub added_of : (t : Terms) (x y : Actor) (e : Edit) (receipt : Receipt) → IsAccepted t x y record { actor = x.number; edit = e } → verdict_of t.limits (edits_of x.seen) e ≡ None → receipt ≡ receipt_of (edits_of x.seen) e → HasAdded t x y e x.seen receipt
added_of t x y e receipt told free is = record {
  number = told.number;
  seen = told.seen;
  known = told.known ∙ sym told.seen;
  knew = subst (λ k. Ends k x.seen) (sym told.current) (Ends-whole x.seen);
  own_is = ap (own x.number) told.known ∙ own-same x.number record { actor = x.number; edit = e } x.seen refl ∙ ap (λ k. record { actor = x.number; edit = e } ∷ own x.number k) (sym told.current);
  legal = subst (IsLegalHistory t) (sym told.seen) told.legal;
  verdict = free;
  receipt_is = is;
}

-- an update that is added after steps without an update is also added to what the actor knew before them
added_quiet : (t : Terms) (x m y : Actor) (e : Edit) (h : List Entry) (receipt : Receipt) → IsQuiet x m → Ends x.known h → HasAdded t m y e h receipt → HasAdded t x y e h receipt
added_quiet t x m y e h receipt quiet knew added = record {
  number = added.number ∙ quiet.number;
  seen = added.seen ∙ ap (λ (n : ℕ). record { actor = n; edit = e } ∷ h) quiet.number;
  known = added.known;
  knew = knew;
  own_is = subst (λ n. own n y.known ≡ record { actor = n; edit = e } ∷ own n m.known) quiet.number added.own_is ∙ ap (λ k. record { actor = x.number; edit = e } ∷ k) quiet.own_is;
  legal = added.legal;
  verdict = added.verdict;
  receipt_is = added.receipt_is;
}

-- completing a pending write changes nothing of this
pub accepted_before : (t : Terms) (x u y : Actor) (e : Edit) → u.number ≡ x.number → u.seen ≡ x.seen → u.known ≡ x.known → u.own ≡ x.own → IsAccepted t u y record { actor = u.number; edit = e } → IsAccepted t x y record { actor = x.number; edit = e }
accepted_before t x u y e number seen known made told = record {
  made = told.made ∙ ap (λ (n : ℕ). record { actor = n; edit = e } ∷ u.own) number ∙ ap (λ h. record { actor = x.number; edit = e } ∷ h) made;
  terms = told.terms;
  number = told.number ∙ number;
  current = sym known ∙ told.current ∙ seen;
  seen = told.seen ∙ ap (λ (n : ℕ). record { actor = n; edit = e } ∷ u.seen) number ∙ ap (λ h. record { actor = x.number; edit = e } ∷ h) seen;
  known = told.known ∙ ap (λ (n : ℕ). record { actor = n; edit = e } ∷ u.seen) number ∙ ap (λ h. record { actor = x.number; edit = e } ∷ h) seen;
  legal = subst (λ h. IsLegalHistory t (record { actor = x.number; edit = e } ∷ h)) seen (subst (λ (n : ℕ). IsLegalHistory t (record { actor = n; edit = e } ∷ u.seen)) number told.legal);
}

-- a try that came after another update has looked
pub contended_looked : (t : Terms) (x u y : Actor) (found : ℕ) → IsQuiet x u → IsContended t u y found → HasLooked t x y
contended_looked t x u y found quiet told = looked_before t x u y quiet record {
  quiet = told.quiet;
  fresh = subst (Ends u.known) (sym told.sees.all) told.quiet.known;
  kept = subst (Ends y.seen) told.sees.all (Ends-whole y.seen);
  legal = told.sees.legal;
}

-- the result of a compare-and-swap from a look is the result of a try that looked
pub try_of_looked : (t : Terms) (x m y : Actor) (e : Edit) (r : Result Receipt Refusal) → HasLooked t x m → LookedAnswers t m y e r → TryAnswers t x y e r
try_of_looked t x m y e (Ok receipt) looked added = (m.seen, added_quiet t x m y e m.seen receipt looked.quiet looked.fresh added)
try_of_looked t x m y e (Err refusal) looked (inl (verdict, same)) = (subst (HasLooked t x) (sym same) looked, inl (ap (λ (a : Actor). verdict_of t.limits (edits_of a.seen) e) same ∙ verdict))
try_of_looked t x m y e (Err refusal) looked (inr (inl (loads, free, quiet, same, over))) = (looked_then t x m y looked quiet same, inr (inl (loads, ap (λ h. verdict_of t.limits (edits_of h) e) same ∙ free, over)))
try_of_looked t x m y e (Err refusal) looked (inr (inr (again, contended))) = (
  looked_before t x m y looked.quiet again,
  inr (inr (m.seen, looked.fresh, Ends-trans m.seen m.known y.seen looked.kept again.fresh, contended)),
)

-- why a pop or a write isn't made from the look that the actor has
pub looked_of_untaken : (t : Terms) (x y : Actor) (e : Edit) (i : ℕ) (refusal : Refusal) → LoadsCell e → verdict_of t.limits (edits_of x.seen) e ≡ None → TakeAnswers t x y e i (Err refusal) → LookedAnswers t x y e (Err refusal)
looked_of_untaken t x y e i refusal loads free (inl (quiet, same, over)) = inr (inl (loads, free, quiet, same, over))
looked_of_untaken t x y e i refusal loads free (inr (u, first, same, again, later, all, is)) = inr (inr (
  looked_before t x u y first again,
  record { refusal_is = is; all = all; before = later; verdict = free },
))

-- and that it is made
pub looked_of_taken : (t : Terms) (x y : Actor) (e : Edit) (i : ℕ) (taken : ℕ × ℤ) (receipt : Receipt) → verdict_of t.limits (edits_of x.seen) e ≡ None → TakeAnswers t x y e i (Ok taken) → receipt ≡ receipt_of (edits_of x.seen) e → LookedAnswers t x y e (Ok receipt)
looked_of_taken t x y e i taken receipt free (u, quiet, same, told, number, value) is =
    let free' = ap (λ h. verdict_of t.limits (edits_of h) e) same ∙ free in
    let added = added_of t u y e receipt told free' (is ∙ ap (λ h. receipt_of (edits_of h) e) (sym same)) in
    subst (λ h. HasAdded t x y e h receipt) same (added_quiet t x u y e u.seen receipt quiet (subst (Ends x.known) told.current quiet.known) added)

-- what a ready seat reads of a mark
pub mark_found : (t : Terms) (x y : Actor) (look at found b : ℕ) → IsRead t x y at found → look ≡ descriptor_of x.seen → IsReady x look → 8 * b < capacity_of t.limits.buckets → at ≡ mark_place b → IsMarkRead b x.seen y.known found
mark_found t x y look at found b read is ready within place = read.mark b (omega arith) place (λ has. ready.marked (subst HasPending (sym is) has))

pub mark_few : (t : Terms) (b : ℕ) (k h : List Entry) (found : ℕ) → AreTerms t → IsLegalHistory t h → IsMarkRead b k h found → found ≤ 16777215
mark_few t b k h found terms legal read = let few = terms.allowed.few_edits in omega (arith, read.late, length_below t h terms legal)
