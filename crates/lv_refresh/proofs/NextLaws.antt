-- Which job comes next by the record of what a vector has seen, and what it carries.
use Rattle.std.proofs.Common.{◌≡◌, ℕ, ◌<◌, true, false, ◌&&◌, ◌||◌, not, if◌then◌else◌, Option, Some, None, option_map, List, get_or, nat_eq, slice_get, sym, ap, ◌∙◌, inl, inr, arith}
use Rattle.std.specs.Option.{IfNone, IfSome}
use Rattle.std.proofs.lemmas.Bool.{and_left, and_parts, cases_Bool, false≢true, ne_eqb, true≢false}
use Rattle.std.proofs.lemmas.Option.{slice_get-get_or}
use Rattle.lv_geometry.specs.declared.nodes.Node.{Node}
use Rattle.lv_geometry.specs.Nodes.{child, is_below, is_node, same_node}
use Rattle.lv_bodies.specs.Body.{BodyLaws, CanFold, Operations}
use Rattle.lv_edits.specs.declared.edit.Edit.{Edit}
use Rattle.lv_edits.specs.History.{History, list_of}
use Rattle.lv_edits.specs.Kept.{IsLegalInLimits}
use Rattle.lv_edits.specs.Touch.{touched_by}
use Rattle.lv_summary.specs.Agrees.{Agrees}
use Rattle.lv_summary.specs.Table.{Table, entry_in, fresh_in, touched_in, whole_in}
use Rattle.lv_summary.proofs.AgreesLaws.{whole_agrees}
use Rattle.lv_summary.proofs.FoldableLaws.{can_fold}
use Rattle.lv_summary.proofs.TableLaws.{fresh_of_entry}
use Rattle.lv_refresh.specs.declared.contents.Contents.{Contents}
use Rattle.lv_refresh.specs.declared.contents.Contents.TheVariants.{Children, Elements}
use Rattle.lv_refresh.specs.Carried.{Carried}
use Rattle.lv_refresh.specs.Claim.{IsNextJob, children_fresh, wants_job}
use Rattle.lv_refresh.specs.ClaimTable.{AreHints, ClaimTable, claimed_in, record_of}
use Rattle.lv_refresh.specs.Contents.{CanFoldContents, in_order}
use Rattle.lv_refresh.specs.Honesty.{Stands}
use Rattle.lv_refresh.specs.Inner.{AreContentsIn, HintsWants, IsJobOf, ServesNext, ServesNode, children_fresh_in, wants_in}
use Rattle.lv_refresh.specs.Record.{is_fresh, is_version}
use Rattle.lv_refresh.proofs.HonestyLaws.{can_fold_standing, children_fresh_from}
use Rattle.lv_refresh.proofs.PickLaws.{whole_of_wants, wants_in-outside}
use Rattle.lv_refresh.proofs.RecordLaws.{children_agree, fresh_agrees}

module _ {S : Type 0} (o : Operations S) (edits : List Edit) (t : Table S) (agrees : Agrees o edits t) (c : ClaimTable) where
  -- the nodes that want a job are the same by the record and by the table
  pub wants_agrees : (n : Node) → wants_job (record_of edits t c) n ≡ wants_in t (claimed_in c n) n
  wants_agrees n =
      elim (cases_Bool (is_node n)) [
        | inl member ↦
            ap (λ whole. whole && not (is_fresh (record_of edits t c) n) && not (is_version (touched_by edits n) (claimed_in c n)) && (nat_eq n.level 1 || children_fresh (record_of edits t c) n)) (whole_agrees o edits t agrees n)
            ∙ ap (λ fresh. whole_in t n && not fresh && not (is_version (touched_by edits n) (claimed_in c n)) && (nat_eq n.level 1 || children_fresh (record_of edits t c) n)) (sym (fresh_agrees o edits t c agrees n))
            ∙ ap (λ edit. whole_in t n && not (fresh_in t n) && not (is_version edit (claimed_in c n)) && (nat_eq n.level 1 || children_fresh (record_of edits t c) n)) (sym (agrees.touched n member))
            ∙ ap (λ children. whole_in t n && not (fresh_in t n) && not (is_version (touched_in t n) (claimed_in c n)) && (nat_eq n.level 1 || children)) (sym (children_agree o edits t c agrees n))
        | inr stranger ↦
            and_left _ _ (and_left _ _ (and_left _ _ (and_left _ _ stranger))) ∙ sym (wants_in-outside t (claimed_in c n) n stranger)
      ]

  -- the nodes that want a job are hinted at by the table if they are by the record
  pub HintsWants-from : AreHints (record_of edits t c) c → HintsWants t c
  HintsWants-from hints n wants = hints n (wants_agrees n ∙ wants)

  -- contents that are gathered from the cells and the table are current
  pub Stands-from : (n : Node) (contents : Contents S) → AreContentsIn edits t n contents → Stands o (record_of edits t c) n contents
  Stands-from n (Elements xs) holds = holds
  Stands-from n (Children summaries) holds =
      let part = λ (k : ℕ). get_or (in_order summaries) k summaries.a in
      let there : (k : ℕ) → k < 8 → slice_get (in_order summaries) k ≡ Some (part k) = λ k small. slice_get-get_or (in_order summaries) k summaries.a small in
      let entry : (k : ℕ) → k < 8 → entry_in t (child n k) ≡ Some (part k) = λ k small. sym (holds.1 k small) ∙ there k small in (
        holds.0,
        children_fresh_from (record_of edits t c) n (λ k small. sym (fresh_agrees o edits t c agrees (child n k)) ∙ fresh_of_entry t (child n k) (part k) (entry k small)),
        λ k small. there k small ∙ ap Some (agrees.folds (child n k) (part k) (entry k small)),
      )

  -- and can be folded
  pub can_fold_gathered : (within : S → ℕ → Type 0) → BodyLaws o within → (h : History) → h.journal ≡ edits → IsLegalInLimits h → (n : Node) (contents : Contents S) → whole_in t n ≡ true → AreContentsIn edits t n contents → CanFoldContents within contents
  can_fold_gathered within laws h is limits n contents whole holds =
      let can : CanFold (list_of edits) = rw (← is) (can_fold h limits) in
      can_fold_standing o within laws (record_of edits t c) n contents can (whole_agrees o edits t agrees n ∙ whole) (Stands-from n contents holds)

module _ {S : Type 0} (o : Operations S) (edits : List Edit) (t : Table S) (agrees : Agrees o edits t) (old new : ClaimTable) where
  -- the job that was given is the next by the record
  pub IsNextJob-served : (result : Option (Node × ℕ)) → ServesNext t old new result → IsNextJob (record_of edits t old) result
  IsNextJob-served None served = λ n. wants_agrees o edits t agrees old n ∙ served.none n
  IsNextJob-served (Some job) served =
      let member = (and_parts (is_node job.0) (is_below job.0 t.size) (whole_of_wants t _ job.0 served.wants)).0 in
      (wants_agrees o edits t agrees old job.0 ∙ served.wants, served.version ∙ agrees.touched job.0 member, λ n before. wants_agrees o edits t agrees old n ∙ served.before n before)

  -- each node that wants a job is hinted at afterwards
  pub AreHints-served : (result : Option (Node × ℕ)) → ServesNext t old new result → AreHints (record_of edits t new) new
  AreHints-served None served =
      λ n wants. absurd (false≢true (sym (served.none n) ∙ ap (λ claimed. wants_in t claimed n) (sym (served.claimed n)) ∙ sym (wants_agrees o edits t agrees new n) ∙ wants))
  AreHints-served (Some job) served = λ n wants. served.hints n (sym (wants_agrees o edits t agrees new n) ∙ wants)

module _ {B S : Type 0} (o : Operations S) (edits : List Edit) (t : Table S) (agrees : Agrees o edits t) (old new : ClaimTable) (node : Node) (version : ℕ) (body : B) (served : ServesNode t old new (node, version)) where
  -- above level 1 the children of the node that was picked are fresh
  ready_of_served : 1 < node.level → children_fresh_in t node ≡ false → ⊥
  ready_of_served above stale =
      let either = (and_parts (whole_in t node && not (fresh_in t node) && not (is_version (touched_in t node) (claimed_in old node))) (nat_eq node.level 1 || children_fresh_in t node) served.wants).1 in
      let high : nat_eq node.level 1 ≡ false = ne_eqb node.level 1 (λ low. omega (arith, low, above)) in
      true≢false (sym either ∙ ap (λ low. low || children_fresh_in t node) high ∙ stale)

  -- the job of the node that was picked is the next by the record
  pub IsNextJob-job : (result : Option (Carried B S)) → IfSome result (λ job. IsJobOf edits t node version body job) → IfNone result ((1 < node.level) × (children_fresh_in t node ≡ false)) → IsNextJob (record_of edits t old) (option_map (λ job. (job.node, job.version)) result)
  IsNextJob-job None is never = absurd (ready_of_served never.0 never.1)
  IsNextJob-job (Some job) is never = rw (is.node_is, is.version_is) (IsNextJob-served o edits t agrees old new (Some (node, version)) served)

  -- and is claimed
  pub claimed-job : (result : Option (Carried B S)) → IfSome result (λ job. IsJobOf edits t node version body job) → IfSome result (λ job. (n : Node) → claimed_in new n ≡ (if same_node n job.node then Some job.version else claimed_in old n))
  claimed-job None is = tt
  claimed-job (Some job) is = rw (is.node_is, is.version_is) served.claimed

  -- and what it carries is current
  pub Stands-job : (result : Option (Carried B S)) → IfSome result (λ job. IsJobOf edits t node version body job) → IfSome result (λ job. Stands o (record_of edits t old) job.node job.contents)
  Stands-job None is = tt
  Stands-job (Some job) is = rw is.node_is (Stands-from o edits t agrees old node job.contents is.contents)

  -- some job was given then
  pub idle-job : (result : Option (Carried B S)) → IfNone result ((1 < node.level) × (children_fresh_in t node ≡ false)) → IfNone result ((n : Node) → claimed_in new n ≡ claimed_in old n)
  idle-job None never = absurd (ready_of_served never.0 never.1)
  idle-job (Some job) never = tt

  -- and is by the body
  pub body-job : (result : Option (Carried B S)) → IfSome result (λ job. IsJobOf edits t node version body job) → IfSome result (λ job. job.body ≡ body)
  body-job None is = tt
  body-job (Some job) is = is.body_is
