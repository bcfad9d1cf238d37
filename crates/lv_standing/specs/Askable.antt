-- The state of whatever is asked: its elements, which of them are in a span, and their plain value.
use Rattle.std.specs.Prelude.{ℕ, ℤ, ◌+◌, ◌-◌, List, drop, length}
use Rattle.std.specs.List.{slice_range}
use Rattle.lv_bodies.specs.declared.kinds.Kind.{Kind}
use Rattle.lv_bodies.specs.declared.kinds.Shown.{Shown}
use Rattle.lv_bodies.specs.Plain.{plain_value_with}
use Rattle.lv_edits.specs.declared.edit.Edit.{Edit}
use Rattle.lv_edits.specs.History.{list_of}
use Rattle.lv_standing.specs.declared.spans.Span.{Span}
use Rattle.lv_standing.specs.declared.spans.Span.TheVariants.{Between, Last}

-- the state: the table of the automaton, the index of the first element, the elements, and how many edits were accepted
pub record AskableState : Type 0 where
  pub table : List (List ℕ)
  pub first : ℕ
  pub elements : List ℤ
  pub edit : ℕ

-- a vector after some edits: its first element has index 0
abbrev pub vector_after : List (List ℕ) → List Edit → AskableState
vector_after table edits = record { table = table; first = 0; elements = list_of edits; edit = length edits }

-- the index after that of the last element
abbrev pub end_of : AskableState → ℕ
end_of s = s.first + length s.elements

-- the plain value of a kind over the elements that it has from one index up to another
abbrev pub value_between : AskableState → Kind → ℕ → ℕ → Shown
value_between s kind lo hi = plain_value_with s.table kind (slice_range s.elements (lo - s.first) (hi - s.first))

-- the elements of a list in a span, if the first element has the given index: those at the indices of a range, or the last so many, but
-- only as many as there are
abbrev pub span_from : ℕ → Span → List ℤ → List ℤ
span_from first (Between lo hi) xs = slice_range xs (lo - first) (hi - first)
span_from first (Last n) xs = drop (length xs - n) xs

-- the plain value of a kind over the elements in a span
abbrev pub value_in_span : AskableState → Kind → Span → Shown
value_in_span s kind span = plain_value_with s.table kind (span_from s.first span s.elements)
