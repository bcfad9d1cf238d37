-- What a scan of a vector leaves in its column, if this is filled.
use Rattle.std.proofs.Common.{◌≡◌, ℕ, ℤ, ◌-◌, ◌≤◌, ◌++◌, Bool, List, length, map, drop, sym, ap, ◌∙◌}
use Rattle.std.specs.Prelude.{None, nat_lt}
use Rattle.std.proofs.lemmas.Bool.{le-ltb}
use Rattle.std.proofs.lemmas.List.FromFn.{length-map-range_with_len}
use Rattle.lv_bodies.specs.Automata.{table_of}
use Rattle.lv_bodies.specs.Body.{Operations, fold_of}
use Rattle.lv_edits.specs.History.{list_of}
use Rattle.lv_edits.proofs.Slices.{length-slice_range}
use Rattle.lv_edits.specs.Ranges.{range_refusal, slice_of}
use Rattle.lv_reduce.specs.Answer.{scan_of}
use Rattle.livevec_c.specs.Behind.{State}
use Rattle.livevec_c.specs.Cells.{column_of}
use Rattle.livevec_c.specs.Columns.{column_after, filled}
use Rattle.livevec_c.proofs.ColumnFolds.{cells_of-scan}

pub filled_column : {S C : Type 0} (state : State) (lo hi : ℕ) (o : Operations S) (cell_of : S → C) (cell : List (List ℕ) → List ℤ → C) (inclusive : Bool) (old new : List C) → ((ys : List ℤ) → cell_of (fold_of o ys) ≡ cell (table_of state.body.automaton) ys) → range_refusal state.history.journal lo hi ≡ None → lo ≤ hi → hi ≤ length (list_of state.history.journal) → hi - lo ≤ length old
    → new ≡ map cell_of (scan_of inclusive o (slice_of state.history.journal lo hi)) ++ drop (hi - lo) old → new ≡ filled cell inclusive lo hi old state
filled_column state lo hi o cell_of cell inclusive old new plain granted order inside room is =
    let xs = list_of state.history.journal in
    let part = slice_of state.history.journal lo hi in
    let made = cell (table_of state.body.automaton) in
    let cells = column_of made inclusive part in
    let long : hi - lo ≡ length cells = sym (length-map-range_with_len _ 0 (length part) ∙ length-slice_range xs lo hi order inside) in
    is
    ∙ ap (λ ys. ys ++ drop (hi - lo) old) (cells_of-scan o cell_of made inclusive part plain)
    ∙ ap (λ n. cells ++ drop n old) long
    ∙ ap (λ b. column_after None b cells old) (sym (le-ltb (length old) (hi - lo) room))
    ∙ ap (λ r. column_after r (nat_lt (length old) (hi - lo)) cells old) (sym granted)
