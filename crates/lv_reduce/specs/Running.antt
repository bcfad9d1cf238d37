-- Folds and scans that go on from a summary.
use Rattle.std.specs.Prelude.{◌≡◌, ℕ, ℤ, ◌+◌, ◌-◌, ◌*◌, ◌%◌, ◌^◌, ◌<◌, ◌≤◌, Bool, List, [], ◌∷◌, fold, length, take, drop, slice_index_or, if◌then◌else◌}
use Rattle.lv_bodies.specs.Body.{Operations, fold_of}
use Rattle.lv_reduce.specs.declared.rows.Part.{Part}
use Rattle.lv_reduce.specs.Rows.{IsPart, elements_of}

-- the summary that a fold over a list reaches from another
abbrev pub reached : {S : Type 0} → Operations S → S → List ℤ → S
reached o s xs = fold (λ t x. o.join t (o.lift x)) s xs

-- one of the two scans of a list, going on from a summary
abbrev pub scan_from : {S : Type 0} → Bool → Operations S → S → List ℤ → List S
scan_from inclusive o s [] = []
scan_from inclusive o s (x ∷ xs) = (if inclusive then o.join s (o.lift x) else s) ∷ scan_from inclusive o (o.join s (o.lift x)) xs

-- a summary may take so many elements more: it is within a number of elements that is few with them
pub record CanGoOn {S : Type 0} (within : S → ℕ → Type 0) (s : S) (more : ℕ) : Type 0 where
  pub count : ℕ
  pub count_within : within s count
  pub few : count + more ≤ 2 ^ 20

-- the folds of the pieces of so many elements of a list
abbrev pub AreOfPieces : {S : Type 0} → Operations S → ℕ → List ℤ → List S → Type 0
AreOfPieces {S} o size xs folds = (n : ℕ) (d : S) → n < length folds → slice_index_or folds n d ≡ fold_of o (take size (drop (n * size) xs))

-- for each piece of so many elements of a list, the fold of all elements before it
pub record AreBefore {S : Type 0} (o : Operations S) (size : ℕ) (xs : List ℤ) (befores : List S) : Type 0 where
  pub count : (n : ℕ) → n * size < length xs → n < length befores
  pub folds : (n : ℕ) (d : S) → n < length befores → slice_index_or befores n d ≡ fold_of o (take (n * size) xs)

-- so many elements of a part from an index on are in the piece that begins there, and the fold of the elements before each piece is known
pub record IsPiece {S : Type 0} (o : Operations S) (part : Part) (befores : List S) (size start many : ℕ) : Type 0 where
  pub can_fold : IsPart part
  pub are_before : AreBefore o size (elements_of part) befores
  pub wide : 0 < size
  pub begins : start % size ≡ 0
  pub some : 0 < many
  pub inside : start + many ≤ part.hi - part.lo
