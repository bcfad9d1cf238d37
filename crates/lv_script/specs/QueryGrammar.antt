-- What the words after `watch` ask for.
use Rattle.std.specs.Prelude.{ℕ, Bool, true, false, if◌then◌else◌, List, [], ◌∷◌, codes, Option, Some, None, option_map}
use Rattle.std.specs.Str.{bytes_eq}
use Rattle.lv_bodies.specs.declared.kinds.Kind.{Kind}
use Rattle.lv_bodies.specs.declared.kinds.Kind.TheVariants.{Affine, Automaton}
use Rattle.lv_tree.specs.declared.places.Bound.{Bound}
use Rattle.lv_tree.specs.declared.places.Bound.TheVariants.{AtLeast, AtMost}
use Rattle.lv_lines.specs.Grammar.{◌>>=◌, kind_in, lone, name_in}
use Rattle.lv_lines.specs.Numbers.{element_in, number_up_to}
use Rattle.lv_standing.specs.declared.queries.Query.{Query}
use Rattle.lv_standing.specs.declared.spans.Span.{Span}
use Rattle.lv_standing.specs.declared.spans.Span.TheVariants.{Between, Last}

-- the span that a query asks for, by numbers up to a bound: two words `lo hi`, or `last n`
unfoldable pub span_in : ℕ → List ℕ → List ℕ → Option Span
span_in most word second =
    if bytes_eq word (codes "last") then option_map Last (number_up_to most second) else (do
      lo ← number_up_to most word
      hi ← number_up_to most second
      Some (Between lo hi))

-- a bound: two words `at-least x`, or `at-most x`
unfoldable pub bound_in : List ℕ → List ℕ → Option Bound
bound_in word second =
    if bytes_eq word (codes "at-least") then option_map AtLeast (element_in second)
    else (if bytes_eq word (codes "at-most") then option_map AtMost (element_in second) else None)

-- whether the value of a kind is one number
abbrev pub is_one_number : Kind → Bool
is_one_number Affine = false
is_one_number Automaton = false
is_one_number kind = true

-- the bound of a query, whose value is then one number; no bound if there are no words
unfoldable pub threshold_in : Kind → List (List ℕ) → Option (Option Bound)
threshold_in kind [] = Some None
threshold_in kind (word ∷ words) = if is_one_number kind then option_map Some (lone (bound_in word) words) else None

-- a query: the words `name kind`, those of a span, and maybe those of a bound
unfoldable pub query_in : ℕ → List (List ℕ) → Option Query
query_in most [] = None
query_in most (word ∷ []) = None
query_in most (word ∷ second ∷ []) = None
query_in most (word ∷ second ∷ third ∷ []) = None
query_in most (word ∷ second ∷ third ∷ fourth ∷ words) = do
  name ← name_in word
  kind ← kind_in second
  span ← span_in most third fourth
  bound ← threshold_in kind words
  Some (record { name = name; kind = kind; span = span; bound = bound })
