-- Jobs of blocks, by the table of summaries; and outcomes that are taken in one after the other.
use Rattle.std.proofs.Common.{◌≡◌, ℕ, ℤ, ◌+◌, ◌*◌, ◌<◌, true, false, ◌&&◌, not, List, [], ◌∷◌, ◌++◌, length, get_or, take, drop, refl, sym, ap, subst, ◌∙◌, inl, inr, if◌then◌else◌, arith}
use Rattle.std.proofs.lemmas.Grind.{take_at_read}
use Rattle.std.proofs.lemmas.List.{append-nil}
use Rattle.lv_geometry.specs.declared.nodes.Node.{Node}
use Rattle.lv_bodies.specs.Body.{BodyLaws, Operations, fold_of}
use Rattle.lv_edits.specs.History.{list_of}
use Rattle.lv_summary.specs.declared.accepted.Accepted.{Accepted}
use Rattle.lv_summary.specs.declared.accepted.Accepted.TheVariants.{Held, Installed, Stale}
use Rattle.lv_summary.specs.Changes.{Keeps}
use Rattle.lv_summary.specs.Table.{Table, delivery_in, fresh_in, touched_in, whole_in}
use Rattle.lv_summary.proofs.AgreesLaws.{whole_agrees}
use Rattle.lv_refresh.specs.ClaimTable.{ClaimTable}
use Rattle.lv_refresh.specs.declared.contents.Contents.TheVariants.{Elements}
use Rattle.lv_refresh.specs.Delivery.{delivery_of}
use Rattle.lv_refresh.specs.Honesty.{Vouched}
use Rattle.lv_refresh.specs.Inner.{node_at}
use Rattle.lv_refresh.specs.Record.{is_fresh}
use Rattle.lv_refresh.proofs.RecordLaws.{fresh_agrees}
use Rattle.lv_live.specs.declared.batches.Batched.{Batched}
use Rattle.lv_live.specs.declared.batches.BlockJob.{BlockJob}
use Rattle.lv_live.specs.Batches.{DeliversFrom, DeliversOne, all_told, due_at, is_due, job_at_block, told_with}
use Rattle.lv_live.specs.Kept.{IsLive}
use Rattle.lv_live.specs.State.{LiveState, recorded}
use Rattle.lv_live.proofs.DeliverLaws.{HintsParent, live_after_accept}

module _ {B S : Type 0} (o : Operations S) (s : LiveState B S) (live : IsLive o s) (k : ℕ) where
  -- a block is due where the table says so
  due_in : is_due (recorded s) k ≡ (whole_in s.table (node_at 1 k) && not (fresh_in s.table (node_at 1 k)))
  due_in =
      ap (λ whole. whole && not (is_fresh (recorded s) (node_at 1 k))) (whole_agrees o s.history.journal s.table live.agrees (node_at 1 k))
      ∙ ap (λ fresh. whole_in s.table (node_at 1 k) && not fresh) (sym (fresh_agrees o s.history.journal s.table s.claims live.agrees (node_at 1 k)))

  -- one that isn't due adds nothing
  pub none_due : (jobs : List (BlockJob B)) → (whole_in s.table (node_at 1 k) && not (fresh_in s.table (node_at 1 k))) ≡ false → jobs ≡ jobs ++ due_at s.body (recorded s) k
  none_due jobs none =
      sym (ap (λ due. jobs ++ (if due then job_at_block s.body s.history.journal k ∷ [] else [])) (due_in ∙ none) ∙ append-nil jobs)

  -- one that is due adds its job
  pub one_due : (jobs : List (BlockJob B)) (version : ℕ) → whole_in s.table (node_at 1 k) ≡ true → fresh_in s.table (node_at 1 k) ≡ false → version ≡ touched_in s.table (node_at 1 k)
      → jobs ++ record { number = k; version = version; elements = take 8 (drop (k * 8) (list_of s.history.journal)); body = s.body } ∷ [] ≡ jobs ++ due_at s.body (recorded s) k
  one_due jobs version whole fresh is =
      ap (λ v. jobs ++ record { number = k; version = v; elements = take 8 (drop (k * 8) (list_of s.history.journal)); body = s.body } ∷ []) (is ∙ live.agrees.touched (node_at 1 k) refl)
      ∙ sym (ap (λ due. jobs ++ (if due then job_at_block s.body s.history.journal k ∷ [] else [])) (due_in ∙ ap (λ whole. whole && not (fresh_in s.table (node_at 1 k))) whole ∙ ap (λ fresh. not fresh) fresh))

-- the counts grow by one
pub told_one_more : (told : Batched) (accepted : Accepted) → all_told (told_with told accepted) ≡ all_told told + 1
told_one_more told Installed = omega (arith)
told_one_more told Held = omega (arith)
told_one_more told (Stale now) = omega (arith)

-- once the outcome of a block that is vouched for was installed, and the block's parent hinted, all is kept
pub live_after_block : {B S : Type 0} (o : Operations S) (within : S → ℕ → Type 0) (laws : BodyLaws o within) (s : LiveState B S) → IsLive o s → (t : Table S) (c : ClaimTable) (n : Node) (number v : ℕ) (xs : List ℤ) (summary : S) (same : Type 0)
    → n ≡ node_at 1 number → Vouched o (recorded s) same (node_at 1 number) v (Elements xs) → Installed ≡ delivery_in s.table n v → Keeps s.table t n v summary → (same → summary ≡ fold_of o xs) → HintsParent s.claims c n
    → IsLive o (record s { table = t; claims = c })
live_after_block o within laws s live t c n number v xs summary same is vouched installed keeps fold hinted =
    live_after_accept o within laws s live t c n v (Elements xs) summary same (subst (λ n. Vouched o (recorded s) same n v (Elements xs)) (sym is) vouched) installed keeps fold hinted

module _ {B S : Type 0} (o : Operations S) (same : B → Type 0) where
  -- one outcome is counted once, and body and history stay
  pub counted_once : (job : BlockJob B) (old new : LiveState B S) (before after : Batched) → DeliversOne o same job old new before after → (all_told after ≡ all_told before + 1) × (new.body ≡ old.body) × (new.history ≡ old.history)
  counted_once job old new before after (inl took) =
      (ap all_told took.2 ∙ told_one_more before (delivery_of (recorded old) (node_at 1 job.number) job.version), took.1.body, took.1.history)
  counted_once job old new before after (inr strange) = (ap all_told strange.2 ∙ omega (arith), ap (λ s. s.body) strange.1, ap (λ s. s.history) strange.1)

  -- one more outcome after some
  pub delivers_then : (jobs : List (BlockJob B)) (job : BlockJob B) (old mid new : LiveState B S) (before between after : Batched) → DeliversFrom o same jobs old mid before between → DeliversOne o same job mid new between after
      → DeliversFrom o same (jobs ++ job ∷ []) old new before after
  delivers_then [] job old mid new before between after some one =
      (new, after, rw (← some.0) (rw (← some.1) one), (refl, refl))
  delivers_then (first ∷ jobs) job old mid new before between after some one =
      (some.0, some.1, some.2, delivers_then jobs job some.0 mid new some.1 between after some.3 one)

  -- one more outcome after some, if these are the first of a list and it is the next of that list
  pub delivers_next : (jobs : List (BlockJob B)) (i : ℕ) (d job : BlockJob B) → i < length jobs → job ≡ get_or jobs i d → (old mid new : LiveState B S) (before between after : Batched) → DeliversFrom o same (take i jobs) old mid before between
      → DeliversOne o same job mid new between after → DeliversFrom o same (take (i + 1) jobs) old new before after
  delivers_next jobs i d job inside is old mid new before between after some one =
      subst (λ first. DeliversFrom o same first old new before after) (sym ((take_at_read jobs i d inside).1 ∙ ap (λ x. take i jobs ++ x ∷ []) (sym is)))
      (delivers_then (take i jobs) job old mid new before between after some one)
