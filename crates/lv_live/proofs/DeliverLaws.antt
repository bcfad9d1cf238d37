-- What an outcome that is vouched for brings, and what a claim takes.
use Rattle.std.proofs.Common.{◌≡◌, ◌↔◌, ℕ, ◌+◌, ◌*◌, ◌^◌, ◌≤◌, Bool, true, ◌&&◌, ◌||◌, IsTrue, Option, Some, None, option_map, IfSome, IfNone, if◌then◌else◌, refl, sym, ap, ◌∙◌, arith}
use Rattle.std.proofs.lemmas.Bool.{and_from, and_parts, le-leb, leb-true, or_left, or_right}
use Rattle.lv_geometry.specs.declared.nodes.Node.{Node}
use Rattle.lv_geometry.specs.Nodes.{is_below, is_node, parent, same_node}
use Rattle.lv_bodies.specs.Body.{BodyLaws, Operations, fold_of}
use Rattle.lv_edits.specs.Touch.{elements_under, is_whole, touched_by}
use Rattle.lv_summary.specs.declared.accepted.Accepted.{Accepted}
use Rattle.lv_summary.specs.declared.accepted.Accepted.TheVariants.{Held, Installed, Stale}
use Rattle.lv_summary.specs.Changes.{AfterDelivery, Keeps}
use Rattle.lv_summary.specs.Table.{Table, delivery_in, kept_in, touched_in, whole_in}
use Rattle.lv_summary.proofs.AgreesLaws.{whole_agrees}
use Rattle.lv_summary.proofs.FoldableLaws.{can_fold}
use Rattle.lv_summary.proofs.TableLaws.{current_of_installed, same_node-self, version_kept}
use Rattle.lv_refresh.specs.declared.contents.Contents.{Contents}
use Rattle.lv_refresh.specs.Carried.{Carried}
use Rattle.lv_refresh.specs.Claim.{IsNextJob}
use Rattle.lv_refresh.specs.ClaimTable.{ClaimTable, claim_blocks, claimed_in, is_hinted}
use Rattle.lv_refresh.specs.Contents.{fold_of_contents}
use Rattle.lv_refresh.specs.Honesty.{IsHonest, Stands, Vouched}
use Rattle.lv_refresh.specs.Inner.{IsReady}
use Rattle.lv_refresh.proofs.HonestyLaws.{fold_of_standing, honest_at_claim, honest_same}
use Rattle.lv_refresh.proofs.RecordLaws.{children_agree}
use Rattle.lv_live.specs.Follows.{ClaimsHear}
use Rattle.lv_live.specs.Kept.{IsLive}
use Rattle.lv_live.specs.State.{CanRemake, HasClaim, HasDelivery, LiveState, node_and_version, recorded}
use Rattle.lv_live.proofs.LiveLaws.{live_after_install}

-- the parent of a node was hinted, and nothing else has changed
pub record HintsParent (old new : ClaimTable) (node : Node) : Type 0 where
  pub claimed : (n : Node) → claimed_in new n ≡ claimed_in old n
  pub hints : (n : Node) → is_hinted new n ≡ (is_node n && same_node n (parent node)) || is_hinted old n
  pub blocks : claim_blocks new ≡ claim_blocks old

module _ {B S : Type 0} (o : Operations S) (within : S → ℕ → Type 0) (laws : BodyLaws o within) (s : LiveState B S) (live : IsLive o s) where
  -- what is vouched for, and is installed, is the fold of its node's elements, by the vector's body
  pub installed_fold : (n : Node) (v : ℕ) (contents : Contents S) (same : Type 0) → Vouched o (recorded s) same n v contents → delivery_in s.table n v ≡ Installed
      → same × (fold_of_contents o contents ≡ fold_of o (elements_under s.history.journal n)) × (whole_in s.table n ≡ true) × (touched_in s.table n ≡ v)
  installed_fold n v contents same vouched installed =
      let current = current_of_installed s.table n v installed in
      let node = (and_parts _ _ current.0).0 in
      let whole : is_whole s.history.journal n ≡ true = whole_agrees o s.history.journal s.table live.agrees n ∙ current.0 in
      let touched : touched_by s.history.journal n ≡ v = sym (live.agrees.touched n node) ∙ current.1 in
      let stands = vouched whole touched in
      (stands.0, fold_of_standing o within laws (recorded s) n contents (can_fold s.history live.limits) stands.1, current.0, current.1)

  -- its node has its room for claims
  pub installed_inside : (n : Node) (v : ℕ) → delivery_in s.table n v ≡ Installed → is_below n (8 * claim_blocks s.claims) ≡ true
  installed_inside n v installed =
      let below : (n.number + 1) * 8 ^ n.level ≤ s.table.size = leb-true ((n.number + 1) * 8 ^ n.level) s.table.size (and_parts _ _ (current_of_installed s.table n v installed).0).1 in
      le-leb ((n.number + 1) * 8 ^ n.level) (8 * claim_blocks s.claims) (omega (arith, below, live.grown))

  -- a delivery, by what became of it
  pub delivered : (t : Table S) (c : ClaimTable) (n : Node) (v : ℕ) (summary : S) (accepted : Accepted) → ((n : Node) → claimed_in c n ≡ claimed_in s.claims n) → AfterDelivery s.table t n v summary accepted → HasDelivery s (record s { table = t; claims = c }) n v accepted
  delivered t c n v summary Installed claimed after =
      record { body = refl; history = refl; claimed = claimed; kept = version_kept s.table t n v summary after }
  delivered t c n v summary Held claimed after = record { body = refl; history = refl; claimed = claimed; kept = λ m. ap (λ t. option_map (λ kept. kept.0) (kept_in t m)) after }
  delivered t c n v summary (Stale now) claimed after = record { body = refl; history = refl; claimed = claimed; kept = λ m. ap (λ t. option_map (λ kept. kept.0) (kept_in t m)) after }

  -- a claim, by whether there is a job
  pub claimed_by : (c : ClaimTable) (job : Option (Carried B S)) → IfSome job (λ job. (n : Node) → claimed_in c n ≡ (if same_node n job.node then Some job.version else claimed_in s.claims n)) → IfNone job ((n : Node) → claimed_in c n ≡ claimed_in s.claims n)
      → HasClaim s (record s { claims = c }) (option_map node_and_version job)
  claimed_by c (Some job) some none = record { body = refl; history = refl; claimed = some; kept = λ n. refl }
  claimed_by c None some none = record { body = refl; history = refl; claimed = none; kept = λ n. refl }

  -- a job is honest when it is handed out
  pub honest_claim : (c : ClaimTable) (job : Option (Carried B S)) → IsNextJob (recorded s) (option_map node_and_version job) → IfSome job (λ job. Stands o (recorded s) job.node job.contents) → IfSome job (λ job. IsHonest o (recorded (record s { claims = c })) job.node job.version job.contents)
  honest_claim c (Some job) next stands =
      honest_same o (recorded s) (recorded (record s { claims = c })) job.node job.version job.contents refl (λ n. refl) (honest_at_claim o (recorded s) job.node job.version job.contents live.limits.legal next.0 next.1 stands)
  honest_claim c None next stands = stands

  -- once an outcome that is vouched for was installed, and its node's parent hinted, all is kept
  pub live_after_accept : (t : Table S) (c : ClaimTable) (n : Node) (v : ℕ) (contents : Contents S) (summary : S) (same : Type 0) → Vouched o (recorded s) same n v contents → Installed ≡ delivery_in s.table n v → Keeps s.table t n v summary
      → (same → summary ≡ fold_of_contents o contents) → HintsParent s.claims c n → IsLive o (record s { table = t; claims = c })
  live_after_accept t c n v contents summary same vouched installed keeps is hinted =
      let fold = installed_fold n v contents same vouched (sym installed) in
      live_after_install o s t c n v summary live keeps fold.2 fold.3 (is fold.0 ∙ fold.1)
      record { claimed = hinted.claimed; hints = λ m was. hinted.hints m ∙ or_right _ _ was; more = omega (arith, hinted.blocks) }
      (λ inside. hinted.hints (parent n) ∙ or_left _ _ (and_from _ _ inside (same_node-self (parent n))))

  -- claims that heard of a delivery are those of before
  pub claimed_heard : (c : ClaimTable) (n : Node) (accepted : Accepted) → ClaimsHear s.claims c n accepted → (m : Node) → claimed_in c m ≡ claimed_in s.claims m
  claimed_heard c n Installed hears = hears.claimed
  claimed_heard c n Held hears = λ m. ap (λ c. claimed_in c m) hears
  claimed_heard c n (Stale now) hears = λ m. ap (λ c. claimed_in c m) hears

  -- what can be made anew has its children's summaries if it is to be installed
  pub ready_to_remake : (n : Node) (v : ℕ) → CanRemake (recorded s) n v → delivery_in s.table n v ≡ Installed → IsReady s.table n
  ready_to_remake n v remake installed above =
      let current = current_of_installed s.table n v installed in
      children_agree o s.history.journal s.table s.claims live.agrees n
      ∙ remake.ready (whole_agrees o s.history.journal s.table live.agrees n ∙ current.0) (sym (live.agrees.touched n remake.node) ∙ current.1) above

  -- once a summary that was made anew was delivered, all is kept
  pub live_after_anew : (t : Table S) (c : ClaimTable) (n : Node) (v : ℕ) (accepted : Accepted) → accepted ≡ delivery_in s.table n v → AfterDelivery s.table t n v (fold_of o (elements_under s.history.journal n)) accepted → ClaimsHear s.claims c n accepted
      → IsLive o (record s { table = t; claims = c })
  live_after_anew t c n v Installed is keeps hears =
      let current = current_of_installed s.table n v (sym is) in
      live_after_install o s t c n v (fold_of o (elements_under s.history.journal n)) live keeps current.0 current.1 refl
      record { claimed = hears.claimed; hints = λ m was. hears.hints m ∙ or_right _ _ was; more = omega (arith, hears.blocks) }
      (λ inside. hears.hints (parent n) ∙ or_left _ _ (and_from _ _ inside (same_node-self (parent n))))
  live_after_anew t c n v Held is same hears = rw same (rw hears live)
  live_after_anew t c n v (Stale now) is same hears = rw same (rw hears live)

  -- whether an outcome is vouched for, if its node is whole and was touched at its version last
  pub vouched_where : (n : Node) (v : ℕ) (contents : Contents S) (same : Type 0) (told : Bool) → whole_in s.table n ≡ true → touched_in s.table n ≡ v → same → (IsTrue told ↔ Stands o (recorded s) n contents) → IsTrue told ↔ Vouched o (recorded s) same n v contents
  vouched_where n v contents same told whole touched is stands =
      let node = (and_parts _ _ whole).0 in
      let whole_then : is_whole s.history.journal n ≡ true = whole_agrees o s.history.journal s.table live.agrees n ∙ whole in
      let touched_then : touched_by s.history.journal n ≡ v = sym (live.agrees.touched n node) ∙ touched in
      (λ y w t. (is, stands.0 y), λ vouched. stands.1 (vouched whole_then touched_then).1)
