-- A fresh node stays fresh through each change of a live vector, while it is whole and no edit touches it.
use Rattle.std.proofs.Common.{◌≡◌, ℕ, List, true, sym, ap, ◌∙◌, inl, inr}
use Rattle.std.proofs.lemmas.Bool.{and_from, and_parts, cases_Bool, eq-eqb}
use Rattle.lv_geometry.specs.declared.nodes.Node.{Node}
use Rattle.lv_geometry.specs.Nodes.{same_node}
use Rattle.lv_bodies.specs.Body.{Operations}
use Rattle.lv_edits.specs.History.{History}
use Rattle.lv_edits.specs.Touch.{is_whole, touched_by}
use Rattle.lv_summary.specs.declared.accepted.Accepted.{Accepted}
use Rattle.lv_summary.specs.declared.accepted.Accepted.TheVariants.{Held, Installed, Stale}
use Rattle.lv_summary.specs.Changes.{AfterDelivery, AnswersAlike}
use Rattle.lv_summary.specs.Table.{Table, delivery_in, fresh_in, kept_in, touched_in, whole_in}
use Rattle.lv_summary.proofs.TableLaws.{current_of_installed, fresh_in-kept, fresh_in-other, fresh_in-same, same_node-eq, whole_of_fresh}
use Rattle.lv_summary.proofs.AgreesLaws.{whole_agrees}
use Rattle.lv_refresh.specs.ClaimTable.{ClaimTable}
use Rattle.lv_live.specs.Follows.{TableFollows}
use Rattle.lv_live.specs.Kept.{IsLive}
use Rattle.lv_live.specs.State.{LiveState, Remembers}

module _ {S : Type 0} where
  -- what was fresh is fresh after a delivery
  pub fresh_after_delivery : (t u : Table S) (n : Node) (v : ℕ) (s : S) (accepted : Accepted) → accepted ≡ delivery_in t n v → AfterDelivery t u n v s accepted → (m : Node) → fresh_in t m ≡ true → fresh_in u m ≡ true
  fresh_after_delivery t u n v s Installed is keeps m fresh =
      elim (cases_Bool (same_node m n)) [
        | inl same ↦
            let current = current_of_installed t n v (sym is) in
            ap (fresh_in u) (same_node-eq m n same) ∙ fresh_in-kept t u n v s keeps ∙ and_from _ _ current.0 (eq-eqb v (touched_in t n) (sym current.1))
        | inr other ↦ fresh_in-other t u n v s keeps m other ∙ fresh
      ]
  fresh_after_delivery t u n v s Held is same m fresh = ap (λ t. fresh_in t m) same ∙ fresh
  fresh_after_delivery t u n v s (Stale now) is same m fresh = ap (λ t. fresh_in t m) same ∙ fresh

module _ {B S : Type 0} where
  -- what is remembered through two changes that leave the edits is remembered through both
  pub remembers_then : (old mid new : LiveState B S) → mid.history ≡ old.history → new.history ≡ mid.history → Remembers old mid → Remembers mid new → Remembers old new
  remembers_then old mid new first then before after n fresh whole touched =
      let mid_touched : touched_by mid.history.journal n ≡ touched_by old.history.journal n = ap (λ (h : History). touched_by h.journal n) first in
      let mid_whole : is_whole mid.history.journal n ≡ true = sym (ap (λ (h : History). is_whole h.journal n) then) ∙ whole in
      after n (before n fresh mid_whole mid_touched) whole (ap (λ (h : History). touched_by h.journal n) then)

  module _ (o : Operations S) where
    -- a live vector whose edits grew, and for which the same is kept, remembers
    pub remembers_same : (old new : LiveState B S) → IsLive o old → IsLive o new → ((n : Node) → kept_in new.table n ≡ kept_in old.table n) → Remembers old new
    remembers_same old new live after kept n fresh whole touched =
        let was = whole_of_fresh old.table n fresh in
        let node = (and_parts _ _ was).0 in
        let still : whole_in new.table n ≡ whole_in old.table n = sym (whole_agrees o new.history.journal new.table after.agrees n) ∙ whole ∙ sym was in
        let edit : touched_in new.table n ≡ touched_in old.table n = after.agrees.touched n node ∙ touched ∙ sym (live.agrees.touched n node) in
        fresh_in-same old.table new.table n still edit (kept n) ∙ fresh

    -- a live vector whose table grew and then followed an edit remembers too
    pub remembers_edit : (s : LiveState B S) (h : History) (t u : Table S) (d : ClaimTable) (indices : List ℕ) (edit size : ℕ) → IsLive o s → IsLive o (record s { history = h; table = u; claims = d }) → AnswersAlike s.table t → TableFollows t u indices edit size → Remembers s (record s { history = h; table = u; claims = d })
    remembers_edit s h t u d indices edit size live after alike (mid, touch, sized) =
        remembers_same s (record s { history = h; table = u; claims = d }) live after (λ n. sized.kept n ∙ touch.kept n ∙ alike.kept n)
