-- What a line of a series' script says.
use Rattle.std.specs.Prelude.{ℕ, ◌^◌, true, false, List, [], ◌∷◌, codes, Option, Some, None, option_map}
use Rattle.lv_bodies.specs.declared.kinds.Kind.{Kind}
use Rattle.lv_tree.specs.declared.places.Bound.{Bound}
use Rattle.lv_series.specs.declared.edits.LongEdit.TheVariants as edit
use Rattle.lv_lines.specs.Grammar.{◌>>=◌, alone, first_and, Forms, lone, made_of, name_in, read_by, bounds_up_to, range_up_to, line_by}
use Rattle.lv_lines.specs.Numbers.{element_in, number_up_to}
use Rattle.lv_script.specs.declared.long_commands.LongCommand.{LongCommand}
use Rattle.lv_script.specs.declared.long_commands.LongCommand.TheVariants.{Edit, First, Size, Get, Reduce, Scan, Find, BestRun, Watch, Unwatch, Answer}
use Rattle.lv_lines.specs.declared.lines.Line.{Line}
use Rattle.lv_script.specs.declared.long_commands.Search.TheVariants as sought
use Rattle.lv_standing.specs.declared.queries.Query.{Query}
use Rattle.lv_script.specs.QueryGrammar.{bound_in, query_in}

-- the greatest index that may come after the last element
abbrev pub most_long : ℕ
most_long = 2 ^ 62

-- a number of a series' line, two of them, and a kind with two
abbrev pub long_number_in : List ℕ → Option ℕ
long_number_in word = number_up_to most_long word

abbrev pub long_bounds_in : List (List ℕ) → Option (ℕ × ℕ)
long_bounds_in words = bounds_up_to most_long words

abbrev pub long_range_in : List (List ℕ) → Option (Kind × ℕ × ℕ)
long_range_in words = range_up_to most_long words

-- the command that registers a query
abbrev pub watch_of : Query → LongCommand
watch_of q = Watch q.name q.kind q.span q.bound

-- the words of a bound, and `lo hi`
unfoldable pub within_in : List (List ℕ) → Option (Bound × ℕ × ℕ)
within_in [] = None
within_in (word ∷ []) = None
within_in (word ∷ second ∷ words) = do
  bound ← bound_in word second
  range ← long_bounds_in words
  Some (bound, range.0, range.1)

-- the command `first`: without arguments, or a search for an element within a bound
unfoldable pub first_in : List (List ℕ) → Option LongCommand
first_in [] = Some First
first_in (word ∷ words) = option_map (λ w. Find (sought.First w.0) w.1 w.2) (within_in (word ∷ words))

-- the words that may follow `where`: what to search for
abbrev pub where_forms : Forms LongCommand
where_forms =
    (codes "least", made_of long_bounds_in (λ w. Find sought.Least w.0 w.1))
    ∷ (codes "greatest", made_of long_bounds_in (λ w. Find sought.Greatest w.0 w.1))
    ∷ (codes "best", made_of long_bounds_in (λ w. BestRun w.0 w.1))
    ∷ []

-- the command `where`
unfoldable pub where_in : List (List ℕ) → Option LongCommand
where_in [] = None
where_in (word ∷ words) = read_by where_forms word words

-- every line that is a command: about elements, about ranges and names
abbrev pub long_forms : Forms LongCommand
long_forms =
    (codes "push", made_of (lone element_in) (λ value. Edit (edit.Push value)))
    ∷ (codes "pop", alone (Edit edit.Pop))
    ∷ (codes "write", made_of (first_and long_number_in (lone element_in)) (λ w. Edit (edit.Write w.0 w.1)))
    ∷ (codes "swap", made_of long_bounds_in (λ w. Edit (edit.Swap w.0 w.1)))
    ∷ (codes "truncate", made_of (lone long_number_in) (λ size. Edit (edit.Truncate size)))
    ∷ (codes "expire", made_of (lone long_number_in) (λ first. Edit (edit.Expire first)))
    ∷ (codes "get", made_of (lone long_number_in) Get)
    ∷ (codes "size", alone Size)
    ∷ (codes "first", first_in)
    ∷ (codes "reduce", made_of long_range_in (λ w. Reduce w.0 w.1 w.2))
    ∷ (codes "inc", made_of long_range_in (λ w. Scan true w.0 w.1 w.2))
    ∷ (codes "exc", made_of long_range_in (λ w. Scan false w.0 w.1 w.2))
    ∷ (codes "watch", made_of (query_in most_long) watch_of)
    ∷ (codes "unwatch", made_of (lone name_in) Unwatch)
    ∷ (codes "answer", made_of (lone name_in) Answer)
    ∷ (codes "last", made_of within_in (λ w. Find (sought.Last w.0) w.1 w.2))
    ∷ (codes "reach", made_of (first_and element_in long_bounds_in) (λ w. Find (sought.Reach w.0) w.1.0 w.1.1))
    ∷ (codes "where", where_in)
    ∷ []

-- the command that the words of a line are
unfoldable pub long_command_in : List (List ℕ) → Option LongCommand
long_command_in [] = None
long_command_in (verb ∷ words) = read_by long_forms verb words

-- what a line says, given without its LF
abbrev pub long_line_of : List ℕ → Line LongCommand
long_line_of bytes = line_by long_command_in bytes
