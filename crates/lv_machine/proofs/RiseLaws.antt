-- Only the descriptor can become smaller, and what a call knows remains true while others make steps.
use Rattle.std.proofs.Common.{ℕ, ◌/◌, ◌<◌, ◌≤◌, max, Bool, true, false, Option, Some, None, List, length, nat_eq, slice_index, slice_set, sym, subst, inl, inr, arith}
use Rattle.std.specs.Prelude.{if◌then◌else◌, IfSome}
use Rattle.std.proofs.lemmas.Bool.{cases_eq, cases_lt}
use Rattle.std.proofs.lemmas.List.{get_or-set_other, get_or-set_same, get_or_past}
use Rattle.lv_geometry.specs.Bounds.{Bounds}
use Rattle.lv_bodies.specs.Body.{Operations}
use Rattle.lv_edits.specs.declared.edit.Edit.{Edit}
use Rattle.lv_machine.specs.declared.entries.Entry.{Entry}
use Rattle.lv_machine.specs.declared.tasks.Parts.{Parts}
use Rattle.lv_machine.specs.declared.tasks.Task.{Task}
use Rattle.lv_machine.specs.declared.tasks.Task.TheVariants as task
use Rattle.lv_machine.specs.History.{descriptor_of, Ends}
use Rattle.lv_machine.specs.Layout.{cell_place, mark_place, place}
use Rattle.lv_machine.specs.Calls.{move_of}
use Rattle.lv_machine.specs.Moves.{accepted, Config, IsComplete, looked, moved}
use Rattle.lv_machine.specs.Progress.{AreTaken, Keeps, Knows, MayEdit, Walks, WalksBlock}
use Rattle.lv_machine.specs.Words.{index_of}
use Rattle.lv_machine.proofs.EndsLaws.{Ends-cons, Ends-whole}
use Rattle.lv_machine.proofs.ShowsLaws.{place_is}
use Rattle.lv_machine.proofs.WordLaws.{cell_version-grows}

-- words that are nowhere lower, but perhaps in the descriptor
pub record Rise (words more : List ℕ) : Type 0 where
  pub rises : (p : ℕ) → 0 < p → slice_index words p ≤ slice_index more p

rise_none : (words : List ℕ) → Rise words words
rise_none words = record { rises = λ p some. omega arith }

pub rise_set : (words : List ℕ) (at n p : ℕ) → slice_index words p ≤ slice_index (slice_set words at (max (slice_index words at) n)) p
rise_set words at n p = elim (cases_eq p at) [
  | inl same ↦ elim (cases_lt at (length words)) [
    | inl within ↦ subst (λ q. slice_index words q ≤ slice_index (slice_set words at (max (slice_index words at) n)) q) (sym same) (omega (arith, get_or-set_same words at (max (slice_index words at) n) 0 within))
    | inr past ↦ omega (arith, get_or_past words p 0 (omega arith))
  ]
  | inr apart ↦ omega (arith, get_or-set_other words at p (max (slice_index words at) n) 0 apart)
]

rise_first : (words : List ℕ) (n : ℕ) → Rise words (slice_set words 0 n)
rise_first words n = record { rises = λ p some. omega (arith, get_or-set_other words 0 p n 0 (λ is. omega arith)) }

rise_exchange : (c : Config) (a : ℕ) (e : Edit) (found : Bool) → Rise c.words (if found then accepted c a e else looked c a).words
rise_exchange c a e true = rise_first c.words _
rise_exchange c a e false = rise_none c.words

pub rise : {S : Type 0} (c : Config) (a : ℕ) (t : Task S) → Rise c.words (moved c (move_of a t)).words
rise c a (task.Look g) = rise_none c.words
rise c a (task.CompleteCell g) = record { rises = λ p some. rise_set c.words _ _ p }
rise c a (task.CompleteMark g) = record { rises = λ p some. rise_set c.words _ _ p }
rise c a (task.ReadBefore edit i) = rise_none c.words
rise c a (task.Exchange edit before) = rise_exchange c a edit (nat_eq (slice_index c.words 0) (c.looks a))
rise c a (task.ReadCell i) = rise_none c.words
rise c a (task.SumCell walk) = rise_none c.words
rise c a (task.SumMark walk) = rise_none c.words
rise c a (task.SumPart walk parts) = rise_none c.words
rise c a (task.KeepMark b) = rise_none c.words
rise c a (task.KeepCell keep) = rise_none c.words
rise c a (task.KeepPart b parts) = record { rises = λ p some. rise_set c.words _ _ p }

grow_exchange : (c : Config) (a : ℕ) (e : Edit) (found : Bool) → Ends c.history (if found then accepted c a e else looked c a).history
grow_exchange c a e true = Ends-cons c.history c.history _ (Ends-whole c.history)
grow_exchange c a e false = Ends-whole c.history

-- a history never loses what it has
pub grow : {S : Type 0} (c : Config) (a : ℕ) (t : Task S) → Ends c.history (moved c (move_of a t)).history
grow c a (task.Look g) = Ends-whole c.history
grow c a (task.CompleteCell g) = Ends-whole c.history
grow c a (task.CompleteMark g) = Ends-whole c.history
grow c a (task.ReadBefore edit i) = Ends-whole c.history
grow c a (task.Exchange edit before) = grow_exchange c a edit (nat_eq (slice_index c.words 0) (c.looks a))
grow c a (task.ReadCell i) = Ends-whole c.history
grow c a (task.SumCell walk) = Ends-whole c.history
grow c a (task.SumMark walk) = Ends-whole c.history
grow c a (task.SumPart walk parts) = Ends-whole c.history
grow c a (task.KeepMark b) = Ends-whole c.history
grow c a (task.KeepCell keep) = Ends-whole c.history
grow c a (task.KeepPart b parts) = Ends-whole c.history

some_place : (b r : ℕ) → 0 < place b r
some_place b r = omega (arith, place_is b r)

pub complete_rises : (words more : List ℕ) (look : ℕ) → Rise words more → IsComplete words look → IsComplete more look
complete_rises words more look rise complete = record {
  cell = λ has. omega (arith, complete.cell has, cell_version-grows (slice_index words (cell_place (index_of look))) (slice_index more (cell_place (index_of look))) (rise.rises _ (some_place _ _)));
  mark = λ has. omega (arith, complete.mark has, rise.rises (mark_place (index_of look / 8)) (some_place _ _));
}

module _ {S : Type 0} (o : Operations S) (count : ℕ) (parts_of : S → List ℕ) (limits : Bounds) (words more : List ℕ) (k : List Entry) (rise : Rise words more) where
  walks_rise : (walk : _) → Walks o count parts_of limits words k walk → Walks o count parts_of limits more k walk
  walks_rise walk w = record { granted = w.granted; complete = complete_rises words more _ rise w.complete; low = w.low; high = w.high; sum = w.sum; counts = w.counts }

  block_rise : (walk : _) → WalksBlock o count parts_of limits words k walk → WalksBlock o count parts_of limits more k walk
  block_rise walk w = record { walks = walks_rise walk w.walks; begins = w.begins; ends = w.ends }

  keeps_rise : (b : ℕ) → Keeps o count parts_of limits words k b → Keeps o count parts_of limits more k b
  keeps_rise b w = record { granted = w.granted; complete = complete_rises words more _ rise w.complete }

  edit_rise : (e : Edit) → MayEdit o count parts_of limits words k e → MayEdit o count parts_of limits more k e
  edit_rise e w = record { granted = w.granted; complete = complete_rises words more _ rise w.complete }

  taken_rise : (b : ℕ) (parts : Parts) → AreTaken o count parts_of limits words k b parts → AreTaken o count parts_of limits more k b parts
  taken_rise b parts w = record { version = w.version; some = w.some; four = w.four; taken = w.taken; others = w.others }

  -- what a call knows of an earlier history remains true
  pub knows_rise : (t : Task S) → Knows o count parts_of limits words k t → Knows o count parts_of limits more k t
  knows_rise (task.Look g) w = w
  knows_rise (task.CompleteCell g) w = w
  knows_rise (task.CompleteMark g) w = (w.0, w.1, omega (arith, w.2, cell_version-grows (slice_index words (cell_place (index_of (descriptor_of k)))) (slice_index more (cell_place (index_of (descriptor_of k)))) (rise.rises (cell_place (index_of (descriptor_of k))) (some_place _ _))))
  knows_rise (task.ReadBefore edit i) w = (edit_rise edit w.0, w.1)
  knows_rise (task.Exchange edit before) w = (edit_rise edit w.0, w.1)
  knows_rise (task.ReadCell i) w = (w.0, complete_rises words more _ rise w.1)
  knows_rise (task.SumCell walk) w = (walks_rise walk w.0, w.1)
  knows_rise (task.SumMark walk) w = block_rise walk w
  knows_rise (task.SumPart walk parts) w = (block_rise walk w.0, taken_rise (walk.at / 8) parts w.1)
  knows_rise (task.KeepMark b) w = keeps_rise b w
  knows_rise (task.KeepCell keep) w = record { keeps = keeps_rise keep.block w.keeps; version = w.version; low = w.low; high = w.high; sum = w.sum }
  knows_rise (task.KeepPart b parts) w = record { keeps = keeps_rise b w.keeps; version = w.version; some = w.some; values = w.values }

  pub maybe_rise : (t : Option (Task S)) → IfSome t (Knows o count parts_of limits words k) → IfSome t (Knows o count parts_of limits more k)
  maybe_rise None w = w
  maybe_rise (Some t) w = knows_rise t w
