-- A board and a seat of any of the six kinds: what they are, and what they know.
use Rattle.std.specs.Prelude.{◌≡◌, ℕ, Option, List, [], ◌∷◌, slice_get}
use Rattle.lv_bodies.specs.declared.kinds.Kind.{Kind}
use Rattle.lv_bodies.specs.declared.kinds.Kind.TheVariants as kind
use Rattle.lv_bodies.specs.AffineMaps.{affine_operations}
use Rattle.lv_bodies.specs.Automata.{table_of}
use Rattle.lv_bodies.specs.Body.{Operations}
use Rattle.lv_bodies.specs.Extremes.{greatest_operations, least_operations}
use Rattle.lv_bodies.specs.Parts.{affine_parts, automaton_parts, best_parts, extreme_parts, sum_parts}
use Rattle.lv_bodies.specs.Plain.{plain_value, plain_value_with, program_table}
use Rattle.lv_bodies.specs.RunTotals.{best_operations}
use Rattle.lv_bodies.specs.Sums.{sum_operations}
use Rattle.lv_bodies.specs.Tables.{automaton_operations}
use Rattle.lv_machine.specs.Terms.{Folding}
use Rattle.lv_board.specs.Rule.{folds}
use Rattle.lv_board.specs.Sharing.{IsOut, Sat, sat_of, Shared, shared_of}
use Rattle.livevec_c.specs.declared.kind_boards.KindBoard.{KindBoard}
use Rattle.livevec_c.specs.declared.kind_boards.KindBoard.TheVariants as boards
use Rattle.livevec_c.specs.declared.kind_seats.KindSeat.{KindSeat}
use Rattle.livevec_c.specs.declared.kind_seats.KindSeat.TheVariants as seats

-- the kind of a number, if it is one
abbrev pub kind_at : ℕ → Option Kind
kind_at number = slice_get (kind.Sum ∷ kind.Least ∷ kind.Greatest ∷ kind.Best ∷ kind.Affine ∷ kind.Automaton ∷ []) number

-- the number of a kind
abbrev pub number_of_kind : Kind → ℕ
number_of_kind kind.Sum = 0
number_of_kind kind.Least = 1
number_of_kind kind.Greatest = 2
number_of_kind kind.Best = 3
number_of_kind kind.Affine = 4
number_of_kind kind.Automaton = 5

-- how the folds of a kind's blocks are kept
abbrev pub kept_as : {S : Type 0} → ℕ → (S → List ℕ) → Operations S → Folding
kept_as count parts operations = folds {B = Unit {0}} count parts (λ _. operations) tt

-- how they are kept for each kind; the automaton is the program's
abbrev pub folding_of : Kind → Folding
folding_of kind.Sum = kept_as 1 sum_parts sum_operations
folding_of kind.Least = kept_as 1 extreme_parts least_operations
folding_of kind.Greatest = kept_as 1 extreme_parts greatest_operations
folding_of kind.Best = kept_as 4 best_parts best_operations
folding_of kind.Affine = kept_as 2 affine_parts affine_operations
folding_of kind.Automaton = kept_as 1 automaton_parts (automaton_operations program_table)

-- where a seat is, and what it knows
abbrev pub sat_at : KindSeat → Sat
sat_at (seats.Sum s) = sat_of (folds 1 sum_parts (λ _. sum_operations)) kind.Sum (λ _. plain_value kind.Sum) s
sat_at (seats.Least s) = sat_of (folds 1 extreme_parts (λ _. least_operations)) kind.Least (λ _. plain_value kind.Least) s
sat_at (seats.Greatest s) = sat_of (folds 1 extreme_parts (λ _. greatest_operations)) kind.Greatest (λ _. plain_value kind.Greatest) s
sat_at (seats.Best s) = sat_of (folds 4 best_parts (λ _. best_operations)) kind.Best (λ _. plain_value kind.Best) s
sat_at (seats.Affine s) = sat_of (folds 2 affine_parts (λ _. affine_operations)) kind.Affine (λ _. plain_value kind.Affine) s
sat_at (seats.Automaton s) = sat_of (folds 1 automaton_parts (λ a. automaton_operations (table_of a))) kind.Automaton (λ a. plain_value_with (table_of a) kind.Automaton) s

-- which board it is, and what the seats know that are not out
abbrev pub shared_at : KindBoard → Shared
shared_at (boards.Sum o) = shared_of (folds 1 sum_parts (λ _. sum_operations)) kind.Sum (λ _. plain_value kind.Sum) o
shared_at (boards.Least o) = shared_of (folds 1 extreme_parts (λ _. least_operations)) kind.Least (λ _. plain_value kind.Least) o
shared_at (boards.Greatest o) = shared_of (folds 1 extreme_parts (λ _. greatest_operations)) kind.Greatest (λ _. plain_value kind.Greatest) o
shared_at (boards.Best o) = shared_of (folds 4 best_parts (λ _. best_operations)) kind.Best (λ _. plain_value kind.Best) o
shared_at (boards.Affine o) = shared_of (folds 2 affine_parts (λ _. affine_operations)) kind.Affine (λ _. plain_value kind.Affine) o
shared_at (boards.Automaton o) = shared_of (folds 1 automaton_parts (λ a. automaton_operations (table_of a))) kind.Automaton (λ a. plain_value_with (table_of a) kind.Automaton) o

-- a seat of the board; no seat that is not out has its number
abbrev pub IsOutOf : KindBoard → KindSeat → Type 0
IsOutOf (boards.Sum o) (seats.Sum s) = IsOut o s
IsOutOf (boards.Least o) (seats.Least s) = IsOut o s
IsOutOf (boards.Greatest o) (seats.Greatest s) = IsOut o s
IsOutOf (boards.Best o) (seats.Best s) = IsOut o s
IsOutOf (boards.Affine o) (seats.Affine s) = IsOut o s
IsOutOf (boards.Automaton o) (seats.Automaton s) = IsOut o s
IsOutOf _ _ = ⊥

-- a seat that has the stamp of a board is one of that board's; this is true if each board has a stamp of its own
abbrev pub HasOwnStamp : KindBoard → KindSeat → Type 0
HasOwnStamp o s = (sat_at s).stamp ≡ (shared_at o).stamp → IsOutOf o s
