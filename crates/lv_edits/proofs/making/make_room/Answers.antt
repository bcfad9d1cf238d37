-- Proof of `make_room`: completes the write that is pending, and makes room for so many more edits, then for so many cells.
use Rattle.std.proofs.Common.{◌≡◌, ℕ, ◌∙◌, ap, sym, false, max, None, Ok, Err, OnOk, OnErr, Result}
use Rattle.std.specs.Result.{is_err}
use Rattle.lv_geometry.specs.Cells.{AreFewest}
use Rattle.lv_geometry.specs.declared.refusals.Refusal.{Refusal}
use Rattle.lv_store.specs.Inner.{IsStore}
use Rattle.lv_store.specs.State.{AreAlike, Opens, StoreState, settled}
use Rattle.lv_store.proofs.ElementsLaws.{alike_through, opens_alike, settled_alike}
use Rattle.lv_edits.proofs.making.make_room.Goals as goal

-- a store was settled, and then its buckets were opened or not
record Readied (s t : StoreState) (cells : ℕ) (r : Result (Unit {0}) Refusal) : Type 0 where
  alike : AreAlike s t
  settled : t.descriptor.pending ≡ None
  buckets : OnOk r ((k : ℕ) → AreFewest cells k → t.buckets ≡ max s.buckets k)
  closed : OnErr r (t.buckets ≡ s.buckets)

-- settling keeps what is read and how many buckets are open, and opening buckets that was rejected keeps both too
readied : (s t : StoreState) (cells : ℕ) (r : Result (Unit {0}) Refusal) → IsStore s → OnOk r (Opens (settled s) t cells) → OnErr r (t ≡ settled s) → Readied s t cells r
readied s t cells (Ok done) sound opens same =
    let (alike, buckets, pending) = settled_alike s sound in
    record {
      alike = alike_through s (settled s) t alike (opens_alike (settled s) t cells opens);
      settled = ap (λ d. d.pending) opens.descriptor ∙ pending;
      buckets = λ k fewest. opens.buckets k fewest ∙ ap (λ n. max n k) buckets;
      closed = tt;
    }
readied s t cells (Err refusal) sound opens same =
    let (alike, buckets, pending) = settled_alike s sound in
    record {
      alike = rw same alike;
      settled = rw same pending;
      buckets = tt;
      closed = rw same buckets;
    }

-- a statement that holds if a call succeeds holds if the call doesn't fail
kept_where_no_err : {T E : Type 0} (r : Result T E) (P : Type 0) → is_err r ≡ false → OnOk r P → P
kept_where_no_err (Ok done) P no_err p = p
kept_where_no_err (Err error) P no_err p = absurd (cc)

-- a statement that holds also holds if a call succeeds
kept_where_ok : {T E : Type 0} (r : Result T E) (P : Type 0) → P → OnOk r P
kept_where_ok (Ok done) P p = p
kept_where_ok (Err error) P p = tt

pub returns-then-is_err-clause-alike : goal.returns-then-is_err-clause-alike
returns-then-is_err-clause-alike c = rw c.settle.ensures.state (settled_alike c.args.store.now c.requires.sound).0

pub returns-then-is_err-clause-settled : goal.returns-then-is_err-clause-settled
returns-then-is_err-clause-settled c = rw c.settle.ensures.state (settled_alike c.args.store.now c.requires.sound).2

pub returns-then-is_err-clause-closed : goal.returns-then-is_err-clause-closed
returns-then-is_err-clause-closed c = rw c.settle.ensures.state (settled_alike c.args.store.now c.requires.sound).1

pub open_to-requires : goal.open_to-requires
open_to-requires c =
    record { few = rw (c.settle.ensures.state, (settled_alike c.args.store.now c.requires.sound).0.limits) c.requires.few }

pub returns-clause-alike : goal.returns-clause-alike
returns-clause-alike c =
    let state = c.settle.ensures.state in
    (readied _ _ _ _ c.requires.sound (rw state at c.open_to.ensures.ok) (rw state at c.open_to.ensures.unchanged)).alike

pub returns-clause-settled : goal.returns-clause-settled
returns-clause-settled c =
    let state = c.settle.ensures.state in
    (readied _ _ _ _ c.requires.sound (rw state at c.open_to.ensures.ok) (rw state at c.open_to.ensures.unchanged)).settled

pub returns-clause-buckets : goal.returns-clause-buckets
returns-clause-buckets c =
    let state = c.settle.ensures.state in
    (readied _ _ _ _ c.requires.sound (rw state at c.open_to.ensures.ok) (rw state at c.open_to.ensures.unchanged)).buckets

pub returns-clause-closed : goal.returns-clause-closed
returns-clause-closed c =
    let state = c.settle.ensures.state in
    (readied _ _ _ _ c.requires.sound (rw state at c.open_to.ensures.ok) (rw state at c.open_to.ensures.unchanged)).closed

pub returns-clause-edits : goal.returns-clause-edits
returns-clause-edits c =
    let room = kept_where_no_err c.reserve.result _ (sym c.is_err.ensures.value ∙ c.if-is_err.false) c.reserve.ensures.room in
    kept_where_ok c.open_to.result _ room
