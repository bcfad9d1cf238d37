-- How the list with the least answer is found: words for private functions.
use Rattle.std.specs.Prelude.{◌≡◌, ℕ, ◌<◌, ◌≤◌, All, List, [], ◌∷◌, ◌++◌, MatchOption, Option, length}
use Rattle.lv_transcript.specs.declared.claimed.Claimed.{Claimed}

-- no answer's edit is below this, or each is above it
abbrev pub AreFrom : ℕ → List Claimed → Type 0
AreFrom edit answers = All (λ answer. edit ≤ answer.edit) answers

abbrev pub AreAbove : ℕ → List Claimed → Type 0
AreAbove edit answers = All (λ answer. edit < answer.edit) answers

-- a list begins with an answer of this edit, which none of its answers is below
pub record BeginsAt (edit : ℕ) (answers : List Claimed) : Type 0 where
  pub first : Claimed
  pub rest : List Claimed
  pub is : answers ≡ first ∷ rest
  pub edit_is : first.edit ≡ edit
  pub least : AreFrom edit answers

-- the list of this index begins at this edit, the least of all; those before it begin later
pub record IsLeast (index edit : ℕ) (lists : List (List Claimed)) : Type 0 where
  pub before : List (List Claimed)
  pub own : List Claimed
  pub after : List (List Claimed)
  pub lists_are : lists ≡ before ++ own ∷ after
  pub index_is : length before ≡ index
  pub begins : BeginsAt edit own
  pub later : All (AreAbove edit) before
  pub others : All (AreFrom edit) after

-- the list found among some lists, as its index and its least version, or none if all are empty
abbrev pub FindsLeast : List (List Claimed) → Option (ℕ × ℕ) → Type 0
FindsLeast lists found = MatchOption found (All (λ answers. answers ≡ []) lists) (λ found. IsLeast found.0 found.1 lists)
