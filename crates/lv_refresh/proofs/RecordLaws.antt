-- Which nodes are fresh by the record, if a table agrees with its edits.
use Rattle.std.proofs.Common.{◌≡◌, ℕ, ◌≤◌, Bool, ◌&&◌, Option, Some, None, option_map, List, length, refl, sym, ap, ◌∙◌, inl, inr, arith}
use Rattle.std.specs.List.{list_all, range_with_len}
use Rattle.std.proofs.lemmas.Bool.{cases_Bool}
use Rattle.std.proofs.lemmas.Option.{none-some, same_Some}
use Rattle.lv_geometry.specs.declared.nodes.Node.{Node}
use Rattle.lv_geometry.specs.Nodes.{child, is_below, is_node}
use Rattle.lv_bodies.specs.Body.{Operations}
use Rattle.lv_edits.specs.declared.edit.Edit.{Edit}
use Rattle.lv_edits.specs.History.{list_of}
use Rattle.lv_edits.specs.Touch.{is_whole, touched_by}
use Rattle.lv_summary.specs.Agrees.{Agrees}
use Rattle.lv_summary.specs.Table.{Table, fresh_in, has_version, kept_in, touched_in}
use Rattle.lv_refresh.specs.Claim.{children_fresh}
use Rattle.lv_refresh.specs.ClaimTable.{ClaimTable, record_of}
use Rattle.lv_refresh.specs.Inner.{children_fresh_in}
use Rattle.lv_refresh.specs.Record.{is_fresh, is_version}

-- what is kept has a version if its version is that
pub same_version : {S : Type 0} (v : ℕ) (kept : Option (ℕ × S)) → has_version v kept ≡ is_version v (option_map (λ kept. kept.0) kept)
same_version v None = refl
same_version v (Some kept) = refl

-- the version of what is kept is one that it is kept at
version_of_kept : {S : Type 0} (kept : Option (ℕ × S)) (most : ℕ) → ((version : ℕ) (s : S) → kept ≡ Some (version, s) → version ≤ most) → (v : ℕ) → option_map (λ kept. kept.0) kept ≡ Some v → v ≤ most
version_of_kept None most past v is = absurd (none-some v is)
version_of_kept (Some kept) most past v is = omega (arith, past kept.0 kept.1 refl, same_Some kept.0 v is)

module _ {S : Type 0} (o : Operations S) where
  -- no version that is kept is of an edit to come, if a table agrees
  pub kept_past : (es : List Edit) (t : Table S) (c : ClaimTable) → Agrees o es t → (n : Node) (v : ℕ) → (record_of es t c).kept n ≡ Some v → v ≤ length es
  kept_past es t c agrees n = version_of_kept (kept_in t n) (length es) (agrees.versions n)

  -- the nodes that are fresh in a table that agrees are those that are fresh by the record
  pub fresh_agrees : (es : List Edit) (t : Table S) (c : ClaimTable) → Agrees o es t → (n : Node) → fresh_in t n ≡ is_fresh (record_of es t c) n
  fresh_agrees es t c agrees n =
      elim (cases_Bool (is_node n)) [
        | inl node ↦
            ap (λ size. (is_node n && is_below n size) && has_version (touched_in t n) (kept_in t n)) agrees.size
            ∙ ap (λ v. is_whole es n && has_version v (kept_in t n)) (agrees.touched n node)
            ∙ ap (λ has. is_whole es n && has) (same_version (touched_by es n) (kept_in t n))
        | inr outside ↦
            ap (λ b. (b && is_below n t.size) && has_version (touched_in t n) (kept_in t n)) outside
            ∙ sym (ap (λ b. (b && is_below n (length (list_of es))) && is_version (touched_by es n) (option_map (λ kept. kept.0) (kept_in t n))) outside)
      ]

  -- the children of a node are fresh by table and by record
  pub children_agree : (es : List Edit) (t : Table S) (c : ClaimTable) → Agrees o es t → (n : Node) → children_fresh_in t n ≡ children_fresh (record_of es t c) n
  children_agree es t c agrees n = ap (λ (fresh : Node → Bool). list_all (λ k. fresh (child n k)) (range_with_len 0 8)) (λ i n. fresh_agrees es t c agrees n i)
