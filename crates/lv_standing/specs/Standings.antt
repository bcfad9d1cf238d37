-- The state of a vector with standing queries.
use Rattle.std.specs.Prelude.{◌≡◌, ◌≢◌, ◌≤◌, ℕ, ℤ, All, AllPairs, IfErr, IfOk, List, None, Result, Some, length, map}
use Rattle.lv_geometry.specs.declared.refusals.Refusal.{Refusal}
use Rattle.lv_bodies.specs.declared.kinds.Kind.{Kind}
use Rattle.lv_bodies.specs.declared.sixes.Six.{Six}
use Rattle.lv_bodies.specs.Plain.{program_table}
use Rattle.lv_bodies.specs.Six.{SixSummary}
use Rattle.lv_edits.specs.declared.edit.Edit.{Edit}
use Rattle.lv_edits.specs.History.{list_of}
use Rattle.lv_edits.specs.Kept.{IsLegalInLimits}
use Rattle.lv_edits.specs.Ranges.{range_refusal}
use Rattle.lv_live.specs.State.{LiveState}
use Rattle.lv_tree.specs.declared.kind_summaries.KindSummary.{KindSummary}
use Rattle.lv_tree.specs.Kinds.{AreReady, HaveRoomFor, IsLeftOrFollows, KindsState, LeavesOthers, blocks_of, followed_by}
use Rattle.lv_tree.specs.KindSummaries.{summary_of}
use Rattle.lv_standing.specs.declared.queries.Query.{Query}
use Rattle.lv_standing.specs.Queries.{span_of, watch_answer}
use Rattle.lv_standing.specs.QuerySets.{QuerySetState}

-- a live vector of all six aggregates (*kinds*), its standing queries in the order of their registration, and what it stores for each
-- kind that it was asked for
pub record StandingState : Type 0 where
  pub live : LiveState Six SixSummary
  pub queries : List Query
  pub kinds : KindsState

-- the summary of a query's elements after some edits, by its kind
abbrev pub summary_at : List Edit → Query → KindSummary
summary_at edits q = summary_of q.kind (span_of q.span (list_of edits))

-- no two queries have one name
abbrev pub HaveOwnNames : List Query → Type 0
HaveOwnNames queries = AllPairs (λ a b. a.name ≢ b.name) queries

-- no query is of a kind
abbrev pub IsUnasked : List Query → Kind → Type 0
IsUnasked queries k = All (λ q. q.kind ≢ k) queries

-- each kind that no query is of has followed as many edits and has as many blocks as before, and there is room for at least as much
pub record LeavesUnasked (queries : List Query) (old new : KindsState) : Type 0 where
  pub table : new.table ≡ old.table
  pub followed : (k : Kind) → IsUnasked queries k → followed_by new k ≡ followed_by old k
  pub blocks : (k : Kind) → IsUnasked queries k → blocks_of new k ≡ blocks_of old k
  pub room : (size : ℕ) → HaveRoomFor old size → HaveRoomFor new size

-- each kind that no query is of is as it was, or has followed all edits because many have waited; there is room for at least as much
pub record LeavesOrFollowsUnasked (edits : List Edit) (queries : List Query) (old new : KindsState) : Type 0 where
  pub table : new.table ≡ old.table
  pub followed : (k : Kind) → IsUnasked queries k → IsLeftOrFollows edits k old new
  pub room : (size : ℕ) → HaveRoomFor old size → HaveRoomFor new size

-- a search of a range finds a place in the vector's list, or the range is rejected; only what is stored for one kind may have changed
pub record Searches {T : Type 0} (IsPlace : List ℤ → ℕ → ℕ → T → Type 0) (kind : Kind) (old : StandingState) (lo hi : ℕ) (result : Result T Refusal) (new : StandingState) : Type 0 where
  pub ok : IfOk result (λ place. IsPlace (list_of old.live.history.journal) lo hi place)
  pub granted : IfOk result (λ _. range_refusal old.live.history.journal lo hi ≡ None)
  pub err : IfErr result (λ refusal. range_refusal old.live.history.journal lo hi ≡ Some refusal)
  pub live : new.live ≡ old.live
  pub queries : new.queries ≡ old.queries
  pub others : LeavesOthers kind old.kinds new.kinds

-- the vector is within its limits; there are at most 64 queries, each with a name of its own; the reported answer of each is the one at
-- the last edit, and its aggregate is that of its elements; what is stored by kind is right for the vector, with room for any question
pub record IsStanding (live : LiveState Six SixSummary) (set : QuerySetState Query) (summaries : List KindSummary) (kinds : KindsState) : Type 0 where
  pub limits : IsLegalInLimits live.history
  pub most : set.most ≡ 64
  pub few : length set.queries ≤ 64
  pub apart : HaveOwnNames set.queries
  pub told : set.told ≡ map (watch_answer live.history.journal) set.queries
  pub summaries_are : summaries ≡ map (summary_at live.history.journal) set.queries
  pub kept : AreReady program_table live.history.journal kinds
