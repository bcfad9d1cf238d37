-- The bytes that a stream of lines passes on at its end, after its own.
use Rattle.std.specs.Prelude.{◌≡◌, ℕ, Bool, false, not, ◌==◌, if◌then◌else◌, List, [], ◌∷◌, ◌++◌, Option, option_map}
use Rattle.lv_files.specs.declared.stream_end.StreamEnd.{StreamEnd}
use Rattle.lv_lines.specs.declared.lines.Line.TheVariants.{Bad}
use Rattle.lv_lines.specs.Grammar.{line_of}
use Rattle.lv_lines.specs.Input.{has_end, lines_of}

-- whether some bytes end within a line, if a line was begun before them or not
abbrev pub ends_within : Bool → List ℕ → Bool
ends_within begun [] = begun
ends_within begun (byte ∷ bytes) = ends_within (not (byte == 10)) bytes

-- the part of a mark that is passed on after a last line: all of it if that line is torn
abbrev pub mark_behind : List ℕ → Bool → List ℕ
mark_behind mark is_torn = if is_torn then mark else []

-- all bytes that are passed on if a stream has these bytes left: the rest of a mark that is due, the stream's own bytes, and the mark if the last
-- line is torn
abbrev pub with_mark : List ℕ → List ℕ → Bool → Option (List ℕ) → Option (List ℕ)
with_mark owed mark is_within left = option_map (λ bytes. owed ++ (bytes ++ mark_behind mark (ends_within is_within bytes))) left

abbrev pub handed_on : StreamEnd → Option (List ℕ) → Option (List ℕ)
handed_on end left = with_mark end.owed.now end.mark.now end.is_within left

-- after any torn line it makes one line, which is bad
abbrev pub MakesBad : List ℕ → Type 0
MakesBad mark = (torn : List ℕ) → has_end torn ≡ false → (line : List ℕ) × (lines_of (torn ++ mark) ≡ line ∷ []) × (line_of line ≡ Bad)
