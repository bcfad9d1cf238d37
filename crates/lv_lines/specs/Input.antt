-- The lines of an input of bytes.
use Rattle.std.specs.Prelude.{ℕ, Bool, true, false, List, [], ◌∷◌, if◌then◌else◌, ◌==◌}

-- a byte put before the first of some lines; if there are none, one line of this byte
abbrev pub begun_with : ℕ → List (List ℕ) → List (List ℕ)
begun_with byte [] = (byte ∷ []) ∷ []
begun_with byte (line ∷ lines) = (byte ∷ line) ∷ lines

-- a byte put before the first of some lines, if there is one
abbrev pub put_before : ℕ → List (List ℕ) → List (List ℕ)
put_before byte [] = []
put_before byte (line ∷ lines) = (byte ∷ line) ∷ lines

-- the lines of an input, each without the LF (byte 10) that ends it. A last line without an LF counts unless it is empty
abbrev pub lines_of : List ℕ → List (List ℕ)
lines_of [] = []
lines_of (byte ∷ bytes) = if byte == 10 then [] ∷ lines_of bytes else begun_with byte (lines_of bytes)

-- the lines that an LF ends
abbrev pub whole_lines_of : List ℕ → List (List ℕ)
whole_lines_of [] = []
whole_lines_of (byte ∷ bytes) = if byte == 10 then [] ∷ whole_lines_of bytes else put_before byte (whole_lines_of bytes)

-- whether there is an LF, so that some line is ended
abbrev pub has_end : List ℕ → Bool
has_end [] = false
has_end (byte ∷ bytes) = if byte == 10 then true else has_end bytes

-- the bytes after the last LF
abbrev pub unended_of : List ℕ → List ℕ
unended_of [] = []
unended_of (byte ∷ bytes) = if has_end (byte ∷ bytes) then unended_of bytes else byte ∷ bytes

-- those bytes as a line, unless there are none
abbrev pub last_line : List ℕ → List (List ℕ)
last_line [] = []
last_line (byte ∷ bytes) = (byte ∷ bytes) ∷ []
