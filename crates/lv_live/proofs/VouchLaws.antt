-- Contents gathered from a table that agrees with a record are current, and no others are.
use Rattle.std.proofs.Common.{◌≡◌, ℕ, ◌<◌, true, false, Some, List, get_or, slice_get, sym, ap, ◌∙◌}
use Rattle.std.proofs.lemmas.Bool.{true≢false}
use Rattle.lv_geometry.specs.declared.nodes.Node.{Node}
use Rattle.lv_geometry.specs.Nodes.{child}
use Rattle.lv_bodies.specs.Body.{BodyLaws, Operations, fold_of}
use Rattle.lv_edits.specs.declared.edit.Edit.{Edit}
use Rattle.lv_edits.specs.Touch.{elements_under}
use Rattle.lv_summary.specs.Agrees.{Agrees}
use Rattle.lv_summary.specs.Table.{Table, entry_in}
use Rattle.lv_summary.proofs.TableLaws.{entry_of_fresh}
use Rattle.lv_refresh.specs.declared.contents.Contents.TheVariants.{Children}
use Rattle.lv_refresh.specs.declared.contents.Eight.{Eight}
use Rattle.lv_refresh.specs.Claim.{children_fresh}
use Rattle.lv_refresh.specs.ClaimTable.{ClaimTable, record_of}
use Rattle.lv_refresh.specs.Contents.{in_order}
use Rattle.lv_refresh.specs.Honesty.{Stands}
use Rattle.lv_refresh.specs.Inner.{children_fresh_in}
use Rattle.lv_refresh.proofs.HonestyLaws.{each_child_fresh, summaries_in_order}
use Rattle.lv_refresh.proofs.RecordLaws.{children_agree, fresh_agrees}

-- eight summaries are known by their list
eight_of_list : {S : Type 0} (x y : Eight S) → in_order x ≡ in_order y → x ≡ y
eight_of_list x y same = λ i. record {
  a = get_or (same i) 0 x.a;
  b = get_or (same i) 1 x.a;
  c = get_or (same i) 2 x.a;
  d = get_or (same i) 3 x.a;
  e = get_or (same i) 4 x.a;
  f = get_or (same i) 5 x.a;
  g = get_or (same i) 6 x.a;
  h = get_or (same i) 7 x.a;
}

module _ {S : Type 0} (o : Operations S) (within : S → ℕ → Type 0) (laws : BodyLaws o within) (es : List Edit) (t : Table S) (c : ClaimTable) (agrees : Agrees o es t) where
  -- summaries are those kept for the eight children of a node
  abbrev HaveEntries : Node → Eight S → Type 0
  HaveEntries n x = (k : ℕ) → k < 8 → slice_get (in_order x) k ≡ entry_in t (child n k)

  -- the summary of a fresh child is the fold of its elements
  child_entry : (n : Node) (k : ℕ) → k < 8 → children_fresh (record_of es t c) n ≡ true → entry_in t (child n k) ≡ Some (fold_of o (elements_under es (child n k)))
  child_entry n k small fresh =
      let is = entry_of_fresh t (child n k) (fresh_agrees o es t c agrees (child n k) ∙ each_child_fresh (record_of es t c) n fresh k small) in
      is.1 ∙ ap Some (agrees.folds (child n k) is.0 is.1)

  -- gathered summaries are current
  pub stands_of_children : (n : Node) (x : Eight S) → 1 < n.level → children_fresh_in t n ≡ true → HaveEntries n x → Stands o (record_of es t c) n (Children x)
  stands_of_children n x above ready are =
      let fresh = sym (children_agree o es t c agrees n) ∙ ready in
      (above, fresh, λ k small. are k small ∙ child_entry n k small fresh)

  -- summaries that are current are those gathered
  pub children_of_stands : (n : Node) (x y : Eight S) → 1 < n.level → children_fresh_in t n ≡ true → HaveEntries n x → Stands o (record_of es t c) n (Children y) → x ≡ y
  children_of_stands n x y above ready are stands =
      let here = stands_of_children n x above ready are in
      eight_of_list x y (summaries_in_order o within laws es n x here.2 ∙ sym (summaries_in_order o within laws es n y stands.2))

  -- if a child isn't fresh, no summaries are current
  pub nothing_stands : (n : Node) (y : Eight S) → children_fresh_in t n ≡ false → Stands o (record_of es t c) n (Children y) → ⊥
  nothing_stands n y stale stands = true≢false (sym (children_agree o es t c agrees n ∙ stands.1) ∙ stale)
