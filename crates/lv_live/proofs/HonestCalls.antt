-- Honesty lasts through the calls that make many steps at once.
use Rattle.std.proofs.Common.{◌≡◌, ℕ, ℤ, ◌<◌, ◌⊎◌, true, Some, Result, Ok, Err, List, [], ◌∷◌, length, map, take, refl, sym, ap, ◌∙◌, subst, inl, inr, arith}
use Rattle.std.proofs.lemmas.Bool.{cases_Bool, cases_lt, cond-false, cond-true, eq-eqb}
use Rattle.lv_geometry.specs.declared.nodes.Node.{Node}
use Rattle.lv_geometry.specs.declared.refusals.Refusal.{Refusal}
use Rattle.lv_geometry.specs.Nodes.{child}
use Rattle.lv_bodies.specs.Body.{Operations}
use Rattle.lv_edits.specs.declared.edit.Edit.{Edit}
use Rattle.lv_edits.specs.declared.edit.Edit.TheVariants.{Push}
use Rattle.lv_edits.specs.Batches.{AnswersEdits, with_edits}
use Rattle.lv_edits.specs.History.{History, list_of, replayed, with_edit}
use Rattle.lv_edits.specs.Pushes.{AnswersAll, with_pushes}
use Rattle.lv_edits.specs.Touch.{is_whole, touched_by}
use Rattle.lv_edits.proofs.TouchLaws.{untouched_since, whole_below}
use Rattle.lv_summary.specs.declared.accepted.Accepted.{Accepted}
use Rattle.lv_summary.specs.declared.accepted.Accepted.TheVariants.{Held, Installed, Stale}
use Rattle.lv_refresh.specs.declared.contents.Contents.{Contents}
use Rattle.lv_refresh.specs.Delivery.{delivery_of}
use Rattle.lv_refresh.specs.Honesty.{IsHonest}
use Rattle.lv_refresh.specs.Inner.{node_at}
use Rattle.lv_refresh.specs.Record.{Record, SameRecord, is_version}
use Rattle.lv_refresh.specs.Subtrees.{IsInside, is_in_subtree}
use Rattle.lv_refresh.proofs.HonestyLaws.{honest_after_edit, honest_same}
use Rattle.lv_live.specs.declared.batches.Batched.{Batched}
use Rattle.lv_live.specs.declared.batches.BlockJob.{BlockJob}
use Rattle.lv_live.specs.Batches.{DeliversFrom}
use Rattle.lv_live.specs.State.{HasDelivery, HonestyLasts, LiveState, SameRefresh, node_and_version, recorded, with_issued}
use Rattle.lv_live.specs.Step.{after_accepted}
use Rattle.lv_live.specs.Subtrees.{HasSubtree}
use Rattle.lv_live.specs.Turns.{TakesTurns, turn_replies, turns}
use Rattle.lv_live.proofs.EveryRunLaws.{run_honest}
use Rattle.lv_live.proofs.HonestSteps.{honest_after_accepted}
use Rattle.lv_live.proofs.SubtreeLaws.{whole_inside}

module _ {S : Type 0} (o : Operations S) (n : Node) (v : ℕ) (c : Contents S) where
  -- more edits at the end of the journal keep honesty
  honest_after_edits : (r : Record) (h : History) (es : List Edit) → IsHonest o (record r { edits = h.journal }) n v c → IsHonest o (record r { edits = (with_edits h es).journal }) n v c
  honest_after_edits r h [] honest = honest
  honest_after_edits r h (e ∷ es) honest = honest_after_edits r (with_edit h e) es (honest_after_edit o (record r { edits = h.journal }) n v c e honest)

  honest_after_pushes : (r : Record) (h : History) (xs : List ℤ) → IsHonest o (record r { edits = h.journal }) n v c → IsHonest o (record r { edits = (with_pushes h xs).journal }) n v c
  honest_after_pushes r h [] honest = honest
  honest_after_pushes r h (x ∷ xs) honest = honest_after_pushes r (with_edit h (Push x)) xs (honest_after_edit o (record r { edits = h.journal }) n v c (Push x) honest)

  -- the children's versions stay, or are what touched them last
  child_kept : (es : List Edit) (m : Node) → replayed es ≡ Some (list_of es) → is_whole es m ≡ true → (is_version (touched_by (take v es) m) (Some (touched_by es m)) ≡ true) ⊎ (v < touched_by es m)
  child_kept es m legal whole =
      elim (cases_lt v (touched_by es m)) [
        | inl later ↦ inr later
        | inr early ↦ inl (eq-eqb _ _ (untouched_since es v m legal whole early).2)
      ]

-- a record that has what was delivered, if that was installed, and is else the same
same_delivered : (r next : Record) (m : Node) (w : ℕ) (accepted : Accepted) → next.edits ≡ r.edits → next.issued ≡ r.issued → ((k : Node) → next.claimed k ≡ r.claimed k) → ((k : Node) → next.kept k ≡ (after_accepted r m w accepted).kept k) → SameRecord (after_accepted r m w accepted) next
same_delivered r next m w Installed edits issued claimed kept = record { edits = edits; issued = issued; claimed = claimed; kept = kept }
same_delivered r next m w Held edits issued claimed kept = record { edits = edits; issued = issued; claimed = claimed; kept = kept }
same_delivered r next m w (Stale now) edits issued claimed kept = record { edits = edits; issued = issued; claimed = claimed; kept = kept }

module _ {B S : Type 0} (o : Operations S) (old new : LiveState B S) where
  pub lasts_through_pushes : (xs : List ℤ) (answer : Result ℕ Refusal) → AnswersAll old.history xs answer new.history → SameRefresh old new → HonestyLasts o old new
  lasts_through_pushes xs (Ok edit) accepts same n v c honest =
      honest_same o (record (recorded old) { edits = (with_pushes old.history xs).journal }) (recorded new) n v c (ap (λ (h : History). h.journal) accepts.journal) same.kept (honest_after_pushes o n v c (recorded old) old.history xs honest)
  lasts_through_pushes xs (Err refusal) refuses same n v c honest =
      honest_same o (recorded old) (recorded new) n v c (ap (λ (h : History). h.journal) refuses.same) same.kept honest

  pub lasts_through_edits : (es : List Edit) (answer : Result ℕ Refusal) → AnswersEdits old.history es answer new.history → SameRefresh old new → HonestyLasts o old new
  lasts_through_edits es (Ok edit) accepts same n v c honest =
      honest_same o (record (recorded old) { edits = (with_edits old.history es).journal }) (recorded new) n v c (ap (λ (h : History). h.journal) accepts.journal) same.kept (honest_after_edits o n v c (recorded old) old.history es honest)
  lasts_through_edits es (Err refusal) refuses same n v c honest =
      honest_same o (recorded old) (recorded new) n v c (ap (λ (h : History). h.journal) refuses.same) same.kept honest

  -- a delivery, whatever becomes of it
  lasts_through_delivery : (m : Node) (w : ℕ) → replayed old.history.journal ≡ Some (list_of old.history.journal) → HasDelivery old new m w (delivery_of (recorded old) m w) → HonestyLasts o old new
  lasts_through_delivery m w legal has n v c honest =
      let edits : new.history.journal ≡ old.history.journal = ap (λ (h : History). h.journal) has.history in
      honest_after_accepted o n v c (recorded old) (recorded new) m w (delivery_of (recorded old) m w) legal refl
      (same_delivered (recorded old) (recorded new) m w (delivery_of (recorded old) m w) edits refl has.claimed has.kept) honest

  pub lasts_through_subtree : (number : ℕ) → replayed old.history.journal ≡ Some (list_of old.history.journal) → is_whole old.history.journal (node_at 4 number) ≡ true → HasSubtree old new number → HonestyLasts o old new
  lasts_through_subtree number legal whole has n v c honest =
      let es = old.history.journal in
      let edits : new.history.journal ≡ es = ap (λ (h : History). h.journal) has.history in
      let inside : IsInside number (length (list_of es)) = omega (arith, whole_below es (node_at 4 number) whole) in
      let node_whole : (m : Node) → is_in_subtree number m ≡ true → is_whole es m ≡ true = λ m is. whole_inside es number m inside is in
      record {
        node = honest.node;
        past = rw edits honest.past;
        whole = rw edits honest.whole;
        touched = rw edits honest.touched;
        contents_then = rw edits honest.contents_then;
        children = λ above k within. elim (cases_Bool (is_in_subtree number (child n k))) [
          | inl is ↦ rw (edits, has.kept (child n k) ∙ cond-true (is_in_subtree number (child n k)) _ _ is) (child_kept o n v c es (child n k) legal (node_whole (child n k) is))
          | inr out ↦ rw (edits, has.kept (child n k) ∙ cond-false (is_in_subtree number (child n k)) _ _ out) (honest.children above k within)
        ];
      }

  pub lasts_through_turns : (count : ℕ) → replayed old.history.journal ≡ Some (list_of old.history.journal) → TakesTurns o old new count → HonestyLasts o old new
  lasts_through_turns count legal turned n v c honest =
      let after = run_honest o old.history.limits n v c (recorded old) (with_issued new turned.jobs) (turns 1 count) (turn_replies 1 (map node_and_version turned.jobs)) turned.run legal honest in
      honest_same o (with_issued new turned.jobs) (recorded new) n v c refl (λ k. refl) after.1

-- through outcomes of blocks, one after another, each taken in or a stranger's
pub lasts_through_batch : {B S : Type 0} (o : Operations S) (same : B → Type 0) (jobs : List (BlockJob B)) (old new : LiveState B S) (before after : Batched) → replayed old.history.journal ≡ Some (list_of old.history.journal) → DeliversFrom o same jobs old new before after → HonestyLasts o old new
lasts_through_batch o same [] old new before after legal is n v c honest = subst (λ s. IsHonest o (recorded s) n v c) (sym is.0) honest
lasts_through_batch o same (job ∷ jobs) old new before after legal (mid, between, inl taken, rest) n v c honest =
    let journal : mid.history.journal ≡ old.history.journal = ap (λ (h : History). h.journal) taken.1.history in
    let legal' : replayed mid.history.journal ≡ Some (list_of mid.history.journal) = rw journal legal in
    lasts_through_batch o same jobs mid new between after legal' rest n v c (lasts_through_delivery o old mid (node_at 1 job.number) job.version legal taken.1 n v c honest)
lasts_through_batch o same (job ∷ jobs) old new before after legal (mid, between, inr left, rest) n v c honest =
    let legal' : replayed mid.history.journal ≡ Some (list_of mid.history.journal) = subst (λ (s : LiveState _ _). replayed s.history.journal ≡ Some (list_of s.history.journal)) (sym left.1) legal in
    lasts_through_batch o same jobs mid new between after legal' rest n v c (subst (λ s. IsHonest o (recorded s) n v c) (sym left.1) honest)
