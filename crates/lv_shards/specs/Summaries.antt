-- Aggregates (*summaries*) of shards: what they contain, when one is that of a list, and how two are combined.
use Rattle.std.specs.Prelude.{◌≡◌, ℕ, ℤ, pos, ◌+◌, ◌^◌, ◌<◌, ◌≤◌, Bool, IsTrue, nat_eq, nat_lt, Option, None, IfSome, IsSome, Result, Ok, Err, List, [], ◌∷◌, length, map, fold, All, slice_index, if◌then◌else◌}
use Rattle.std.specs.Cmp.Lexicographic.{pointwise}
use Rattle.std.specs.List.{range_with_len}
use Rattle.lv_geometry.specs.Elements.{IsElement}
use Rattle.lv_bodies.specs.Body.{fold_of}
use Rattle.lv_bodies.specs.Long.{CanFoldLong}
use Rattle.lv_bodies.specs.Six.{SixSummary, six_operations, six_operations_by, six_within}
use Rattle.lv_bodies.specs.Tables.{IsStateMap, column_of, is_table}
use Rattle.lv_shards.specs.declared.refusals.JoinRefusal.{JoinRefusal}
use Rattle.lv_shards.specs.declared.refusals.JoinRefusal.TheVariants.{OtherTable, TooLong}

-- a summary: how many elements it is of, the version at which one vector had them, their fold by each of the six monoid instances, and the
-- automaton, as the states to which it leads for each remainder by 4
pub record Summary : Type 0 where
  pub count : ℕ
  pub edit : Option ℕ
  pub six : SixSummary
  pub leads : List (List ℕ)

-- for each remainder by 4, the states that a table leads to by it, from each of the eight
abbrev pub leads_of : List (List ℕ) → List (List ℕ)
leads_of table = column_of table (pos 0) ∷ column_of table (pos 1) ∷ column_of table (pos 2) ∷ column_of table (pos 3) ∷ []

-- the table again: for each of the eight states, the states to which it leads by each remainder
abbrev pub rows_of : List (List ℕ) → List (List ℕ)
rows_of leads = map (λ q. map (λ states. slice_index states q) leads) (range_with_len 0 8)

-- the summary of these elements by an automaton of this table: their count, and their plain fold by each of the six
pub record IsSummaryOf (table : List (List ℕ)) (xs : List ℤ) (s : Summary) : Type 0 where
  pub states : IsTrue (is_table table)
  pub elements : All IsElement xs
  pub count : s.count ≡ length xs
  pub six : s.six ≡ fold_of (six_operations_by table) xs
  pub leads : s.leads ≡ leads_of table

-- the summary of no elements
abbrev pub empty_of : List (List ℕ) → Summary
empty_of leads = record { count = 0; edit = None; six = six_operations.identity; leads = leads }

-- the values that only some elements have, and not an empty list: a minimum, a maximum and a best run
pub record HasElements (six : SixSummary) : Type 0 where
  pub least : IsSome six.1.0
  pub greatest : IsSome six.1.1.0
  pub best : IsSome six.1.1.1.0

-- for each of the four remainders, a state for each of the eight
pub record AreLeads (leads : List (List ℕ)) : Type 0 where
  pub four : length leads ≡ 4
  pub states : All (λ row. IsStateMap row 0) leads

-- it may be the summary of its count of elements, as far as the bounds of the six say: of at most 2 ^ 62, by an automaton of eight states. If
-- there are no elements, it is that of none
pub record IsPossible (s : Summary) : Type 0 where
  pub few : s.count ≤ 2 ^ 62
  pub edit : IfSome s.edit (λ e. e < 2 ^ 32)
  pub leads : AreLeads s.leads
  pub within : six_within s.six s.count
  pub empty : s.count ≡ 0 → s.six ≡ six_operations.identity
  pub full : 0 < s.count → HasElements s.six

-- the count and the six summaries are those of some elements
pub record IsFold (table : List (List ℕ)) (count : ℕ) (six : SixSummary) : Type 0 where
  pub xs : List ℤ
  pub can : CanFoldLong xs
  pub count_is : count ≡ length xs
  pub six_is : six ≡ fold_of (six_operations_by table) xs

-- whether two automata lead to the same states
abbrev pub same_leads : List (List ℕ) → List (List ℕ) → Bool
same_leads = pointwise (pointwise nat_eq)

-- the summary of the elements of the one, then of those of the other; it has no version, since no one vector had them at one
abbrev pub joined : Summary → Summary → Summary
joined s t = record { count = s.count + t.count; edit = None; six = six_operations.join s.six t.six; leads = s.leads }

-- two summaries are combined if they have one automaton, and at most 2 ^ 62 elements together
abbrev pub join_of : Summary → Summary → Result Summary JoinRefusal
join_of s t = if same_leads s.leads t.leads then (if nat_lt (2 ^ 62) (s.count + t.count) then Err TooLong else Ok (joined s t)) else Err OtherTable

-- one more summary combined with those before it
abbrev pub join_next : Result Summary JoinRefusal → Summary → Result Summary JoinRefusal
join_next (Ok s) t = join_of s t
join_next (Err refusal) t = Err refusal

-- all combined in order, from the left, until one is rejected
abbrev pub join_all_of : List (List ℕ) → List Summary → Result Summary JoinRefusal
join_all_of leads parts = fold join_next (Ok (empty_of leads)) parts
