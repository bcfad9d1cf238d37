-- Many lists and their summaries in order, and shards that are ranges of vectors after edits of their own.
use Rattle.std.specs.Prelude.{◌≡◌, ℕ, ℤ, Some, List, [], ◌∷◌, take, slice_range}
use Rattle.std.specs.List.{flat_map}
use Rattle.lv_edits.specs.declared.edit.Edit.{Edit}
use Rattle.lv_edits.specs.History.{list_of}
use Rattle.lv_shards.specs.Summaries.{IsSummaryOf, Summary}

-- each is the summary of the list at its place
abbrev pub AreSummariesOf : List (List ℕ) → List (List ℤ) → List Summary → Type 0
AreSummariesOf table [] [] = Unit {0}
AreSummariesOf table [] (s ∷ parts) = ⊥
AreSummariesOf table (xs ∷ lists) [] = ⊥
AreSummariesOf table (xs ∷ lists) (s ∷ parts) = IsSummaryOf table xs s × AreSummariesOf table lists parts

-- the lists end to end, in order
abbrev pub end_to_end : List (List ℤ) → List ℤ
end_to_end lists = flat_map (λ xs. xs) lists

-- a range of a vector that has accepted these edits, as it was after so many of them
pub record Shard : Type 0 where
  pub journal : List Edit
  pub edit : ℕ
  pub lo : ℕ
  pub hi : ℕ

-- the elements that it had then
abbrev pub elements_of : Shard → List ℤ
elements_of shard = slice_range (list_of (take shard.edit shard.journal)) shard.lo shard.hi

-- the summary of a shard's elements, which has the shard's version
abbrev pub IsOfShard : List (List ℕ) → Shard → Summary → Type 0
IsOfShard table shard s = IsSummaryOf table (elements_of shard) s × (s.edit ≡ Some shard.edit)

-- each is that of the shard at its place
abbrev pub AreOfShards : List (List ℕ) → List Shard → List Summary → Type 0
AreOfShards table [] [] = Unit {0}
AreOfShards table [] (s ∷ parts) = ⊥
AreOfShards table (shard ∷ shards) [] = ⊥
AreOfShards table (shard ∷ shards) (s ∷ parts) = IsOfShard table shard s × AreOfShards table shards parts
