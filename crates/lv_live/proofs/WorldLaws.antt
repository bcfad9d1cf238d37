-- The jobs of a world stay its own, whatever happens.
use Rattle.std.proofs.Common.{◌≡◌, ◌⊎◌, ℕ, ◌+◌, ◌-◌, ◌<◌, ◌≤◌, Bool, true, false, ◌&&◌, cond, Option, Some, None, option_map, Result, Ok, Err, IfSome, List, [], ◌∷◌, ◌++◌, get_or, if◌then◌else◌, length, map, All, subst, nat_eq, refl, sym, ap, ◌∙◌, inl, inr, arith}
use Rattle.std.proofs.lemmas.List.{length-map, map-append}
use Rattle.std.proofs.lemmas.List.Elements.{All-push}
use Rattle.std.proofs.lemmas.Option.{none-some, same_Some, slice_get-map, slice_get_cases}
use Rattle.std.proofs.lemmas.Bool.{and_parts, eqb-true}
use Rattle.lv_geometry.specs.Bounds.{Bounds}
use Rattle.std.specs.Prelude.{slice_get}
use Rattle.lv_geometry.specs.declared.nodes.Node.{Node}
use Rattle.lv_geometry.specs.declared.refusals.Refusal.{Refusal}
use Rattle.lv_geometry.specs.declared.refusals.Refusal.TheVariants.{NoJob}
use Rattle.lv_bodies.specs.Body.{Operations}
use Rattle.lv_edits.specs.declared.edit.Edit.{Edit}
use Rattle.lv_edits.specs.History.{list_of, replayed}
use Rattle.lv_edits.specs.declared.receipt.Receipt.{Receipt}
use Rattle.lv_edits.specs.Kept.{IsLegalInLimits}
use Rattle.lv_edits.specs.Touch.{is_whole, touched_by}
use Rattle.lv_edits.specs.Verdict.{Answers}
use Rattle.lv_geometry.specs.Nodes.{same_node}
use Rattle.lv_summary.specs.declared.accepted.Accepted.{Accepted}
use Rattle.lv_summary.specs.declared.accepted.Accepted.TheVariants.{Held, Installed, Stale}
use Rattle.lv_reduce.specs.declared.reductions.Answer.{Answer}
use Rattle.lv_reduce.specs.declared.scans.Scan.{Scan}
use Rattle.lv_refresh.specs.declared.contents.Contents.{Contents}
use Rattle.lv_refresh.specs.declared.contents.Contents.TheVariants.{Children, Elements}
use Rattle.lv_refresh.specs.Claim.{IsNextJob, children_fresh}
use Rattle.lv_refresh.specs.Carried.{Carried}
use Rattle.lv_refresh.specs.Delivery.{delivery_of}
use Rattle.lv_refresh.specs.Honesty.{IsHonest, Stands}
use Rattle.lv_refresh.specs.Record.{Record, SameRecord}
use Rattle.lv_refresh.proofs.HonestyLaws.{honest_after_edit, honest_after_install, honest_same, vouched_of_honest}
use Rattle.lv_live.specs.declared.events.Event.{Event}
use Rattle.lv_live.specs.declared.replies.ReplyOf.{ReplyOf}
use Rattle.lv_live.specs.declared.events.Event.TheVariants as event
use Rattle.lv_live.specs.declared.replies.ReplyOf.TheVariants as reply
use Rattle.lv_live.specs.Kept.{AllOwn, IsOwn, IsWorld}
use Rattle.lv_live.specs.State.{CanRemake, HasClaim, HasDelivery, HasNoClaims, LiveState, SameLive, SameRefresh, SameSetting, job_at, jobs_with, node_and_version, recorded, with_issued}
use Rattle.lv_live.specs.Step.{Reduces, Run, Scans, Step, after_accepted, after_delivery, after_edit, claim_reply, delivery_reply, edit_reply, job_of, reduction_reply, scan_reply}

-- what holds of each element holds of each in another way
all_mono : {X : Type 0} (P Q : X → Type 0) (xs : List X) → ((x : X) → P x → Q x) → All P xs → All Q xs
all_mono P Q xs each all = λ k d inside. each _ (all k d inside)

module _ {S : Type 0} (o : Operations S) (limits : Bounds) where
  -- a run goes on with one more step
  pub run_goes_on : (r mid next : Record) (events : List Event) (replies : List (ReplyOf S)) (event : Event) (reply : ReplyOf S) → Run o limits r events replies mid → Step o limits mid event reply next → Run o limits r (events ++ event ∷ []) (replies ++ reply ∷ []) next
  run_goes_on r mid next [] [] event reply run step = (next, rw (← run) step, refl)
  run_goes_on r mid next [] (_ ∷ _) event reply run step = absurd run
  run_goes_on r mid next (_ ∷ _) [] event reply run step = absurd run
  run_goes_on r mid next (e ∷ events) (y ∷ replies) event reply (first, done, run) step = (first, done, run_goes_on first mid next events replies event reply run step)

-- what was installed passed the test
pub installed_test : (b held : Bool) (now : ℕ) → cond b (cond held Held Installed) (Stale now) ≡ Installed → b ≡ true
installed_test true held now is = refl
installed_test false held now is = cc

-- a record says the same as itself
SameRecord-self : {r : Record} → SameRecord r r
SameRecord-self = record { edits = refl; issued = refl; claimed = λ n. refl; kept = λ n. refl }

-- the name of a number is that of the job of this number
pub named_at : {B S : Type 0} (jobs : List (Carried B S)) (k : ℕ) → (if nat_eq k 0 then None else slice_get (map node_and_version jobs) (k - 1)) ≡ option_map node_and_version (job_at jobs k)
named_at jobs k = by_number (nat_eq k 0)
  where
    by_number : (none : Bool) → cond none None (slice_get (map node_and_version jobs) (k - 1)) ≡ option_map node_and_version (cond none None (slice_get jobs (k - 1)))
    by_number true = refl
    by_number false = slice_get-map node_and_version jobs (k - 1)

-- so it is in a record
job_of_names : {B S : Type 0} (s : LiveState B S) (jobs : List (Carried B S)) (k : ℕ) → job_of (with_issued s jobs) k ≡ option_map node_and_version (job_at jobs k)
job_of_names s jobs k = named_at jobs k

-- the record after a delivery
same_delivered : {B S : Type 0} (old new : LiveState B S) (name : Node × ℕ) (jobs : List (Carried B S)) → HasDelivery old new name.0 name.1 (delivery_of (recorded old) name.0 name.1) → SameRecord (after_delivery (with_issued old jobs) (Some name)) (with_issued new jobs)
same_delivered old new name jobs has = by_accepted (delivery_of (recorded old) name.0 name.1) has
  where
    by_accepted : (accepted : Accepted) → HasDelivery old new name.0 name.1 accepted → SameRecord (after_accepted (with_issued old jobs) name.0 name.1 accepted) (with_issued new jobs)
    by_accepted Installed has = record { edits = ap (λ h. h.journal) has.history; issued = refl; claimed = has.claimed; kept = has.kept }
    by_accepted Held has = record { edits = ap (λ h. h.journal) has.history; issued = refl; claimed = has.claimed; kept = has.kept }
    by_accepted (Stale now) has = record { edits = ap (λ h. h.journal) has.history; issued = refl; claimed = has.claimed; kept = has.kept }

-- contents that are current can be made anew
remake_of_standing : {S : Type 0} (o : Operations S) (r : Record) (n : Node) (contents : Contents S) → Stands o r n contents → 1 < n.level → children_fresh r n ≡ true
remake_of_standing o r n (Elements xs) stands above = absurd (omega (arith, stands.0, above))
remake_of_standing o r n (Children summaries) stands above = stands.1

module _ {B S : Type 0} (o : Operations S) where
  -- jobs stay own under an edit
  pub own_after_edit : (old new : LiveState B S) (e : Edit) (jobs : List (Carried B S)) → SameRefresh old new → new.history.journal ≡ old.history.journal ++ e ∷ [] → AllOwn o old jobs → AllOwn o new jobs
  own_after_edit old new e jobs same journal own =
      all_mono (IsOwn o old) (IsOwn o new) jobs (λ job is. (is.0 ∙ sym same.body, honest_same o (after_edit (recorded old) e) (recorded new) job.node job.version job.contents journal same.kept (honest_after_edit o (recorded old) job.node job.version job.contents e is.1))) own

  -- jobs stay own if neither edits nor kept versions change
  pub own_same : (old new : LiveState B S) (jobs : List (Carried B S)) → new.body ≡ old.body → new.history ≡ old.history → ((n : Node) → (recorded new).kept n ≡ (recorded old).kept n) → AllOwn o old jobs → AllOwn o new jobs
  own_same old new jobs body history kept own =
      all_mono (IsOwn o old) (IsOwn o new) jobs (λ job is. (is.0 ∙ sym body, honest_same o (recorded old) (recorded new) job.node job.version job.contents (ap (λ h. h.journal) history) kept is.1)) own

  -- jobs stay own when an outcome is delivered
  pub own_after_delivery : (old new : LiveState B S) (n : Node) (v : ℕ) (jobs : List (Carried B S)) → replayed old.history.journal ≡ Some (list_of old.history.journal) → HasDelivery old new n v (delivery_of (recorded old) n v) → AllOwn o old jobs → AllOwn o new jobs
  own_after_delivery old new n v jobs legal delivered own = by_accepted (delivery_of (recorded old) n v) refl delivered
    where
      by_accepted : (accepted : Accepted) → delivery_of (recorded old) n v ≡ accepted → HasDelivery old new n v accepted → AllOwn o new jobs
      by_accepted Held is delivered = own_same old new jobs delivered.body delivered.history delivered.kept own
      by_accepted (Stale now) is delivered = own_same old new jobs delivered.body delivered.history delivered.kept own
      by_accepted Installed is delivered =
          let test = installed_test (is_whole old.history.journal n && nat_eq (touched_by old.history.journal n) v) _ _ is in
          let parts = and_parts _ _ test in
          let touched : touched_by old.history.journal n ≡ v = eqb-true _ _ parts.1 in
          all_mono (IsOwn o old) (IsOwn o new) jobs (λ job own. (
            own.0 ∙ sym delivered.body,
            honest_after_install o (recorded old) (recorded new) n job.node job.version job.contents legal (ap (λ h. h.journal) delivered.history) parts.0 (λ k. delivered.kept k ∙ ap (λ v. cond (same_node k n) (Some v) ((recorded old).kept k)) (sym touched)) own.1,
          )) own

  -- an edit is a step, with whatever jobs were issued
  pub step_edit : (old new : LiveState B S) (e : Edit) (answer : Result Receipt Refusal) (jobs : List (Carried B S)) → SameRefresh old new → Answers old.history e answer new.history → Step o old.history.limits (with_issued old jobs) (event.Edit e) (edit_reply answer) (with_issued new jobs)
  step_edit old new e (Ok receipt) jobs same accepts =
      (Ok receipt, refl, (accepts.verdict, accepts.receipt_is, record { edits = ap (λ h. h.journal) accepts.journal; issued = refl; claimed = same.claimed; kept = same.kept }))
  step_edit old new e (Err refusal) jobs same refuses =
      (Err refusal, refl, (refuses.verdict, record { edits = ap (λ h. h.journal) refuses.same; issued = refl; claimed = same.claimed; kept = same.kept }))

  -- jobs stay own under an edit, accepted or not
  pub own_edit : (old new : LiveState B S) (e : Edit) (answer : Result Receipt Refusal) (jobs : List (Carried B S)) → SameRefresh old new → Answers old.history e answer new.history → AllOwn o old jobs → AllOwn o new jobs
  own_edit old new e (Ok receipt) jobs same accepts own = own_after_edit old new e jobs same (ap (λ h. h.journal) accepts.journal) own
  own_edit old new e (Err refusal) jobs same refuses own = own_same old new jobs same.body refuses.same same.kept own

  -- an edit keeps body and limits
  pub setting_edit : (old new : LiveState B S) (e : Edit) (answer : Result Receipt Refusal) → SameRefresh old new → Answers old.history e answer new.history → SameSetting old new
  setting_edit old new e (Ok receipt) same accepts = record { body = same.body; limits = ap (λ h. h.limits) accepts.journal }
  setting_edit old new e (Err refusal) same refuses = record { body = same.body; limits = ap (λ h. h.limits) refuses.same }

  -- a claim is a step, and its job, if there is one, is issued
  pub step_claim : (old new : LiveState B S) (job : Option (Carried B S)) (jobs : List (Carried B S)) → IsNextJob (recorded old) (option_map node_and_version job) → HasClaim old new (option_map node_and_version job)
      → Step o old.history.limits (with_issued old jobs) event.Claim (claim_reply (length jobs + 1) (option_map node_and_version job)) (with_issued new (jobs_with jobs job))
  step_claim old new (Some job) jobs next has =
      (Some (node_and_version job), next, ap (λ k. claim_reply (k + 1) (Some (node_and_version job))) (sym (length-map jobs node_and_version)), record { edits = ap (λ h. h.journal) has.history; issued = map-append node_and_version jobs (job ∷ []); claimed = has.claimed; kept = has.kept })
  step_claim old new None jobs next has =
      (None, next, refl, record { edits = ap (λ h. h.journal) has.history; issued = refl; claimed = has.claimed; kept = has.kept })

  -- jobs stay own under a claim, and the job that it hands out is own too
  pub own_claim : (old new : LiveState B S) (job : Option (Carried B S)) (jobs : List (Carried B S)) → HasClaim old new (option_map node_and_version job) → IfSome job (λ job. job.body ≡ old.body) → IfSome job (λ job. IsHonest o (recorded new) job.node job.version job.contents) → AllOwn o old jobs → AllOwn o new (jobs_with jobs job)
  own_claim old new (Some job) jobs has body honest own = All-push (IsOwn o new) jobs job (own_same old new jobs has.body has.history has.kept own) (body ∙ sym has.body, honest)
  own_claim old new None jobs has body honest own = own_same old new jobs has.body has.history has.kept own

  -- a delivery of an issued job, which is known by its name, is a step
  pub step_delivery : (old new : LiveState B S) (k : ℕ) (name : Node × ℕ) (jobs : List (Carried B S)) → option_map node_and_version (job_at jobs k) ≡ Some name → HasDelivery old new name.0 name.1 (delivery_of (recorded old) name.0 name.1)
      → Step o old.history.limits (with_issued old jobs) (event.Deliver k) (reply.Gave (delivery_of (recorded old) name.0 name.1)) (with_issued new jobs)
  step_delivery old new k name jobs is has =
      let issued : job_of (with_issued old jobs) k ≡ Some name = job_of_names old jobs k ∙ is in
      (ap (delivery_reply (with_issued old jobs)) (sym issued), rw issued (same_delivered old new name jobs has))

  -- a delivery of no issued job is a step that changes nothing
  pub step_no_job : (s : LiveState B S) (k : ℕ) (jobs : List (Carried B S)) → option_map node_and_version (job_at jobs k) ≡ None → Step o s.history.limits (with_issued s jobs) (event.Deliver k) (reply.Refused NoJob) (with_issued s jobs)
  step_no_job s k jobs none =
      let issued : job_of (with_issued s jobs) k ≡ None = job_of_names s jobs k ∙ none in
      (ap (delivery_reply (with_issued s jobs)) (sym issued), rw issued SameRecord-self)

  -- that claims are forgotten is a step
  pub step_forget : (old new : LiveState B S) (jobs : List (Carried B S)) → HasNoClaims old new → Step o old.history.limits (with_issued old jobs) event.Forget reply.Forgotten (with_issued new jobs)
  step_forget old new jobs has = (refl, record { edits = ap (λ h. h.journal) has.history; issued = refl; claimed = has.claimed; kept = has.kept })

  -- that what is pending is completed is a step
  pub step_settle : (old new : LiveState B S) (jobs : List (Carried B S)) → SameLive old new → Step o old.history.limits (with_issued old jobs) event.Settle reply.Settled (with_issued new jobs)
  step_settle old new jobs same = (refl, record { edits = ap (λ h. h.journal) same.history; issued = refl; claimed = same.claimed; kept = same.kept })

  -- a reduction is a step that changes nothing
  pub step_reduction : (s : LiveState B S) (lo hi : ℕ) (answer : Result (Answer S) Refusal) (jobs : List (Carried B S)) → Reduces o (recorded s) lo hi answer → Step o s.history.limits (with_issued s jobs) (event.Reduce lo hi) (reduction_reply answer) (with_issued s jobs)
  step_reduction s lo hi (Ok answer) jobs is = (Ok answer, refl, is, SameRecord-self)
  step_reduction s lo hi (Err refusal) jobs is = (Err refusal, refl, is, SameRecord-self)

  -- a scan is a step that changes nothing
  pub step_scan : (s : LiveState B S) (lo hi : ℕ) (inclusive : Bool) (answer : Result (Scan S) Refusal) (jobs : List (Carried B S)) → Scans o (recorded s) lo hi inclusive answer → Step o s.history.limits (with_issued s jobs) (event.Scan lo hi inclusive) (scan_reply answer) (with_issued s jobs)
  step_scan s lo hi inclusive (Ok scan) jobs is = (Ok scan, refl, is, SameRecord-self)
  step_scan s lo hi inclusive (Err refusal) jobs is = (Err refusal, refl, is, SameRecord-self)

  -- a job of a number is own if all are
  own_job : (s : LiveState B S) (jobs : List (Carried B S)) (k : ℕ) (job : Carried B S) → AllOwn o s jobs → job_at jobs k ≡ Some job → IsOwn o s job
  own_job s jobs k job own is = by_number (nat_eq k 0) is
    where
      own_at : ((x : Carried B S) × (k - 1 < length jobs) × (slice_get jobs (k - 1) ≡ Some x) × (get_or jobs (k - 1) x ≡ x)) ⊎ ((length jobs ≤ k - 1) × (slice_get jobs (k - 1) ≡ None)) → slice_get jobs (k - 1) ≡ Some job → IsOwn o s job
      own_at (inl (x, inside, got, read)) is = subst (IsOwn o s) (read ∙ same_Some _ _ (sym got ∙ is)) (own (k - 1) x inside)
      own_at (inr (past, got)) is = absurd (none-some job (sym got ∙ is))

      by_number : (none : Bool) → cond none None (slice_get jobs (k - 1)) ≡ Some job → IsOwn o s job
      by_number true is = absurd (none-some job is)
      by_number false is = own_at (slice_get_cases jobs (k - 1)).1 is

  -- a world stays one if the journal does
  world_same : (old new : LiveState B S) (jobs more : List (Carried B S)) → new.history ≡ old.history → IsWorld o old jobs → AllOwn o new more → IsWorld o new more
  world_same old new jobs more history world own = record { limits = rw history world.limits; own = own }

  -- and under an edit
  pub world_edit : (old new : LiveState B S) (e : Edit) (answer : Result Receipt Refusal) (jobs : List (Carried B S)) → SameRefresh old new → Answers old.history e answer new.history → IsLegalInLimits new.history → IsWorld o old jobs → IsWorld o new jobs
  world_edit old new e answer jobs same answers limits world = record { limits = limits; own = own_edit old new e answer jobs same answers world.own }

  -- under a claim
  pub world_claim : (old new : LiveState B S) (job : Option (Carried B S)) (jobs : List (Carried B S)) → HasClaim old new (option_map node_and_version job) → IfSome job (λ job. job.body ≡ old.body) → IfSome job (λ job. IsHonest o (recorded new) job.node job.version job.contents) → IsWorld o old jobs → IsWorld o new (jobs_with jobs job)
  world_claim old new job jobs has body honest world = world_same old new jobs (jobs_with jobs job) has.history world (own_claim old new job jobs has body honest world.own)

  -- under a delivery
  pub world_delivery : (old new : LiveState B S) (n : Node) (v : ℕ) (jobs : List (Carried B S)) → HasDelivery old new n v (delivery_of (recorded old) n v) → IsWorld o old jobs → IsWorld o new jobs
  world_delivery old new n v jobs has world = world_same old new jobs jobs has.history world (own_after_delivery old new n v jobs world.limits.legal has world.own)

  -- if claims are forgotten
  pub world_forget : (old new : LiveState B S) (jobs : List (Carried B S)) → HasNoClaims old new → IsWorld o old jobs → IsWorld o new jobs
  world_forget old new jobs has world = world_same old new jobs jobs has.history world (own_same old new jobs has.body has.history has.kept world.own)

  -- and if what is pending is completed
  pub world_settle : (old new : LiveState B S) (jobs : List (Carried B S)) → SameLive old new → IsWorld o old jobs → IsWorld o new jobs
  world_settle old new jobs same world = world_same old new jobs jobs same.history world (own_same old new jobs same.body same.history same.kept world.own)

  -- what a job of a world carried can be made anew
  pub remade_job : (s : LiveState B S) (jobs : List (Carried B S)) (k : ℕ) (name : Node × ℕ) → IsWorld o s jobs → option_map node_and_version (job_at jobs k) ≡ Some name → CanRemake (recorded s) name.0 name.1
  remade_job s jobs k name world named = by_job (job_at jobs k) refl named
    where
      by_job : (found : Option (Carried B S)) → job_at jobs k ≡ found → option_map node_and_version found ≡ Some name → CanRemake (recorded s) name.0 name.1
      by_job None is named = absurd (none-some name named)
      by_job (Some job) is named =
          let own = own_job s jobs k job world.own is in
          subst (λ (name : Node × ℕ). CanRemake (recorded s) name.0 name.1) (same_Some _ _ named) record {
            node = own.1.node;
            ready = λ whole touched. remake_of_standing o (recorded s) job.node job.contents (vouched_of_honest o (recorded s) job.node job.version job.contents world.limits.legal own.1 whole touched);
          }
