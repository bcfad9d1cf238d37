-- Sessions of a board: what each line says.
use Rattle.std.specs.Prelude.{ℕ, if◌then◌else◌, List, [], ◌∷◌, codes, Option, None, option_map}
use Rattle.std.specs.Str.{bytes_eq}
use Rattle.lv_bodies.specs.declared.kinds.Kind.{Kind}
use Rattle.lv_machine.specs.declared.events.Call.{Call}
use Rattle.lv_machine.specs.declared.events.Call.TheVariants as call
use Rattle.lv_lines.specs.declared.lines.Line.{Line}
use Rattle.lv_lines.specs.Grammar.{bounds_in, kind_name, line_by}
use Rattle.lv_script.specs.Schedule.{plain_call_in}

-- the reduction that the words `kind lo hi` ask for, if the kind is the board's
unfoldable pub own_range_in : Kind → List (List ℕ) → Option Call
own_range_in kind [] = None
own_range_in kind (word ∷ words) =
    if bytes_eq word (kind_name kind) then option_map (λ bounds. call.Reduce bounds.0 bounds.1) (bounds_in words) else None

-- the call that some words ask for: `reduce kind lo hi` by the board's kind, or as a schedule asks for it
unfoldable pub board_call_in : Kind → List (List ℕ) → Option Call
board_call_in kind [] = None
board_call_in kind (verb ∷ words) = if bytes_eq verb (codes "reduce") then own_range_in kind words else plain_call_in (verb ∷ words)

-- what a line says on such a board, given without its LF
abbrev pub board_line_of : Kind → List ℕ → Line Call
board_line_of kind bytes = line_by (board_call_in kind) bytes
