-- What a table that agrees says of queries and of outcomes is what the record says.
use Rattle.std.proofs.Common.{◌≡◌, ℕ, Some, Result, Ok, Err, IfOk, IfErr, None, OnOk, List}
use Rattle.lv_geometry.specs.declared.refusals.Refusal.{Refusal}
use Rattle.lv_bodies.specs.Body.{Operations}
use Rattle.lv_edits.specs.declared.edit.Edit.{Edit}
use Rattle.lv_edits.specs.Ranges.{range_refusal}
use Rattle.lv_summary.specs.Agrees.{Agrees}
use Rattle.lv_summary.specs.Table.{Table, fresh_in}
use Rattle.lv_refresh.specs.ClaimTable.{ClaimTable, record_of}
use Rattle.lv_refresh.specs.Record.{is_fresh}
use Rattle.lv_reduce.specs.declared.costs.Reads.{Reads}
use Rattle.lv_reduce.specs.declared.reductions.Answer.{Answer}
use Rattle.lv_reduce.specs.Answer.{IsAnswer}
use Rattle.lv_reduce.specs.Cost.{IsCost, IsFew}
use Rattle.lv_refresh.proofs.RecordLaws.{fresh_agrees}
use Rattle.lv_live.specs.Step.{Costs, Reduces}

module _ {S : Type 0} (o : Operations S) (es : List Edit) (t : Table S) (c : ClaimTable) (agrees : Agrees o es t) where
  -- a node is fresh by the table if and only if it is by the record
  same_fresh : fresh_in t ≡ is_fresh (record_of es t c)
  same_fresh = λ i n. fresh_agrees o es t c agrees n i

  -- a reduction's reads, by the record
  pub reduces_by : (lo hi : ℕ) (result : Result (Answer S) Refusal) → IfOk result (λ answer. IsAnswer o es lo hi answer) → IfErr result (λ refusal. range_refusal es lo hi ≡ Some refusal)
      → IfOk result (λ answer. IsCost (fresh_in t) lo hi answer.cells_read answer.summaries_read) → Reduces o (record_of es t c) lo hi result
  reduces_by lo hi (Ok answer) is refused cost = (is, rw (← same_fresh) cost)
  reduces_by lo hi (Err refusal) is refused cost = refused

  -- a reduction's reads by the record, where only the counts are returned
  pub costs_by : (lo hi : ℕ) (result : Result Reads Refusal) → IfOk result (λ reads. IsCost (fresh_in t) lo hi reads.cells reads.summaries) → OnOk result (range_refusal es lo hi ≡ None)
      → IfErr result (λ refusal. range_refusal es lo hi ≡ Some refusal) → Costs (record_of es t c) lo hi result
  costs_by lo hi (Ok reads) cost granted refused = (granted, rw (← same_fresh) cost)
  costs_by lo hi (Err refusal) cost granted refused = refused

  -- and that they are few
  pub few_by : (lo hi : ℕ) (result : Result (Answer S) Refusal) → IfOk result (λ answer. IsFew (fresh_in t) lo hi answer.cells_read answer.summaries_read)
      → IfOk result (λ answer. IsFew (is_fresh (record_of es t c)) lo hi answer.cells_read answer.summaries_read)
  few_by lo hi (Ok answer) few = rw (← same_fresh) few
  few_by lo hi (Err refusal) few = few
