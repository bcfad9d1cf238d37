-- Honesty lasts through every step.
use Rattle.std.proofs.Common.{◌≡◌, ℕ, ◌&&◌, Option, Some, None, cond, Result, Ok, Err, nat_eq, sym, ap, refl, ◌∙◌}
use Rattle.std.proofs.lemmas.Bool.{and_parts, eqb-true}
use Rattle.lv_geometry.specs.Bounds.{Bounds}
use Rattle.lv_geometry.specs.declared.nodes.Node.{Node}
use Rattle.lv_geometry.specs.declared.refusals.Refusal.{Refusal}
use Rattle.lv_geometry.specs.Nodes.{same_node}
use Rattle.lv_bodies.specs.Body.{Operations}
use Rattle.lv_edits.specs.declared.edit.Edit.{Edit}
use Rattle.lv_edits.specs.declared.receipt.Receipt.{Receipt}
use Rattle.lv_edits.specs.History.{list_of, replayed}
use Rattle.lv_edits.specs.Touch.{is_whole, touched_by}
use Rattle.lv_summary.specs.declared.accepted.Accepted.{Accepted}
use Rattle.lv_summary.specs.declared.accepted.Accepted.TheVariants.{Held, Installed, Stale}
use Rattle.lv_refresh.specs.declared.contents.Contents.{Contents}
use Rattle.lv_refresh.specs.Delivery.{delivery_of}
use Rattle.lv_refresh.specs.Honesty.{IsHonest}
use Rattle.lv_refresh.specs.Record.{Record, SameRecord}
use Rattle.lv_refresh.proofs.HonestyLaws.{honest_after_edit, honest_after_install, honest_same}
use Rattle.lv_live.specs.declared.events.Event.{Event}
use Rattle.lv_live.specs.declared.events.Event.TheVariants as event
use Rattle.lv_live.specs.declared.replies.ReplyOf.{ReplyOf}
use Rattle.lv_live.specs.Step.{EditStep, Step, after_accepted, after_claim, after_delivery, after_edit, job_of}
use Rattle.lv_live.proofs.WorldLaws.{installed_test}

module _ {S : Type 0} (o : Operations S) (n : Node) (v : ℕ) (c : Contents S) where
  -- a record that says the same has the same honest contents
  honest_in : (r next : Record) → SameRecord r next → IsHonest o r n v c → IsHonest o next n v c
  honest_in r next same honest = honest_same o r next n v c same.edits same.kept honest

  -- honesty lasts through an edit, accepted or refused
  honest_after_edit_step : (limits : Bounds) (r next : Record) (e : Edit) (answer : Result Receipt Refusal) → EditStep limits r e answer next → IsHonest o r n v c → IsHonest o next n v c
  honest_after_edit_step limits r next e (Ok receipt) step honest = honest_in (after_edit r e) next step.2 (honest_after_edit o r n v c e honest)
  honest_after_edit_step limits r next e (Err refusal) step honest = honest_in r next step.1 honest

  -- honesty lasts when a job is claimed
  honest_after_claim : (r next : Record) (job : Option (Node × ℕ)) → SameRecord (after_claim r job) next → IsHonest o r n v c → IsHonest o next n v c
  honest_after_claim r next None same honest = honest_in r next same honest
  honest_after_claim r next (Some job) same honest = honest_same o r next n v c same.edits same.kept honest

  -- honesty lasts when an outcome is delivered, whatever becomes of it
  pub honest_after_accepted : (r next : Record) (m : Node) (w : ℕ) (accepted : Accepted) → replayed r.edits ≡ Some (list_of r.edits) → delivery_of r m w ≡ accepted → SameRecord (after_accepted r m w accepted) next → IsHonest o r n v c → IsHonest o next n v c
  honest_after_accepted r next m w Held legal is same honest = honest_in r next same honest
  honest_after_accepted r next m w (Stale now) legal is same honest = honest_in r next same honest
  honest_after_accepted r next m w Installed legal is same honest =
      let test = installed_test (is_whole r.edits m && nat_eq (touched_by r.edits m) w) _ _ is in
      let parts = and_parts _ _ test in
      let touched : touched_by r.edits m ≡ w = eqb-true _ _ parts.1 in
      honest_after_install o r next m n v c legal same.edits parts.0 (λ k. same.kept k ∙ ap (λ w. cond (same_node k m) (Some w) (r.kept k)) (sym touched)) honest

  -- honesty lasts when a job of a number is delivered, if there is one
  honest_after_delivery : (r next : Record) (job : Option (Node × ℕ)) → replayed r.edits ≡ Some (list_of r.edits) → SameRecord (after_delivery r job) next → IsHonest o r n v c → IsHonest o next n v c
  honest_after_delivery r next None legal same honest = honest_in r next same honest
  honest_after_delivery r next (Some job) legal same honest = honest_after_accepted r next job.0 job.1 (delivery_of r job.0 job.1) legal refl same honest

  -- honesty lasts through every event
  pub honest_after_step : (limits : Bounds) (r next : Record) (e : Event) (answered : ReplyOf S) → replayed r.edits ≡ Some (list_of r.edits) → Step o limits r e answered next → IsHonest o r n v c → IsHonest o next n v c
  honest_after_step limits r next (event.Edit e) answered legal step honest = honest_after_edit_step limits r next e step.0 step.2 honest
  honest_after_step limits r next event.Settle answered legal step honest = honest_in r next step.1 honest
  honest_after_step limits r next event.Claim answered legal step honest = honest_after_claim r next step.0 step.3 honest
  honest_after_step limits r next (event.Deliver k) answered legal step honest = honest_after_delivery r next (job_of r k) legal step.1 honest
  honest_after_step limits r next event.Forget answered legal step honest = honest_same o r next n v c step.1.edits step.1.kept honest
  honest_after_step limits r next (event.Reduce lo hi) answered legal step honest = honest_in r next step.3 honest
  honest_after_step limits r next (event.Scan lo hi inclusive) answered legal step honest = honest_in r next step.3 honest
