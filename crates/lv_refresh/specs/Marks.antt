-- Marks on numbers, 64 a word.
use Rattle.std.specs.Prelude.{ℕ, ◌/◌, ◌%◌, Bool, List, slice_index, nat_eq}
use Rattle.std.specs.Int.{bit_at}

-- words of marks, and for how many numbers there is memory
pub record MarksState : Type 0 where
  pub words : List ℕ
  pub capacity : ℕ

-- whether a number is marked: its bit is set in its word
abbrev pub is_marked : List ℕ → ℕ → Bool
is_marked words i = nat_eq (bit_at (slice_index words (i / 64)) (i % 64)) 1
