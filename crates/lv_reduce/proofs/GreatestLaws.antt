-- The greatest fresh node that begins at an index, looked for from the greatest level that fits on down.
use Rattle.std.proofs.Common.{◌≡◌, ℕ, ◌-◌, ◌≤◌, true, false, None, sym, ap, ◌∙◌, inl, inr, arith}
use Rattle.std.proofs.lemmas.Bool.{cases_Bool, cases_lt}
use Rattle.std.proofs.lemmas.Option.{none-some}
use Rattle.lv_geometry.specs.declared.nodes.Node.{Node}
use Rattle.lv_geometry.specs.Nodes.{over}
use Rattle.lv_summary.specs.Table.{Table, entry_in, fresh_in}
use Rattle.lv_summary.proofs.TableLaws.{entry_of_fresh, fresh_of_entry}
use Rattle.lv_reduce.specs.Pieces.{IsGreatestFresh, NoneFresh}

module _ {S : Type 0} (t : Table S) where
  -- a node with no entry isn't fresh
  pub stale_of_none : (n : Node) → entry_in t n ≡ None → fresh_in t n ≡ false
  stale_of_none n none =
      elim (cases_Bool (fresh_in t n)) [
        | inl fresh ↦ let found = entry_of_fresh t n fresh in absurd (none-some found.0 (sym none ∙ found.1))
        | inr stale ↦ stale
      ]

  -- if the node of a level isn't fresh either, the next level is looked at
  pub none_at_next : (at hi level : ℕ) → NoneFresh (fresh_in t) at hi level → 1 ≤ level → fresh_in t (over level at) ≡ false → NoneFresh (fresh_in t) at hi (level - 1)
  none_at_next at hi level none low stale above more few fits =
      elim (cases_lt level above) [
        | inl past ↦ none above past few fits
        | inr same ↦ let is : above ≡ level = omega arith in ap (λ l. fresh_in t (over l at)) is ∙ stale
      ]

  -- the greatest fresh node is fresh
  pub fresh_of_piece : (at hi level : ℕ) (s : S) → IsGreatestFresh t at hi level s → fresh_in t (over level at) ≡ true
  fresh_of_piece at hi level s piece = fresh_of_entry t (over level at) s piece.entry
