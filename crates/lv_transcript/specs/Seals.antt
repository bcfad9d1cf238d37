-- The lines of a log in its file, where each ends in a checksum (its *seal*), and the text of such a file, which has none.
use Rattle.std.specs.Prelude.{ℕ, ◌+◌, ◌-◌, ◌*◌, ◌^◌, min, Bool, true, false, ◌&&◌, ◌==◌, nat_le, if◌then◌else◌, List, [], ◌∷◌, ◌++◌, length, take, drop, map, codes, Option, None, Some, option_map}
use Rattle.std.specs.Int.{w64, to_be_bytes}
use Rattle.std.specs.Str.{bytes_eq}
use Rattle.hex.specs.Hex.{encode_lower}
use Rattle.lv_lines.specs.Input.{unended_of, whole_lines_of}
use Rattle.lv_shards.specs.Bytes.{checksum_from}
use Rattle.lv_transcript.specs.Transcript.{ended}

-- ---- a line's seal

-- the checksum of no bytes
abbrev pub hash_of_none : ℕ
hash_of_none = 14695981039346656037

-- the end of a line, if all bytes of the file up to the digits have this checksum: a space, which is one of those bytes, and the 16 digits
unfoldable pub seal_by : ℕ → List ℕ
seal_by hash = 32 ∷ encode_lower (to_be_bytes w64 hash)

-- the checksum of the bytes up to the digits, if the bytes before the line have the checksum `hash`
abbrev pub hash_before : ℕ → List ℕ → ℕ
hash_before hash text = checksum_from hash (text ++ 32 ∷ [])

-- ---- how a text is written

-- the bytes of a file for one byte of a text, after `count` bytes of the file with this checksum: a seal comes before each LF, and the version is 3
unfoldable pub sealed_byte : ℕ → ℕ → ℕ → List ℕ
sealed_byte hash count byte =
    if byte == 10 then seal_by (checksum_from hash (32 ∷ [])) ++ 10 ∷ [] else (if count == 8 then 51 else byte) ∷ []

-- the bytes of a file for a text, after `count` bytes of the file with this checksum
unfoldable pub sealed_behind : ℕ → ℕ → List ℕ → List ℕ
sealed_behind hash count [] = []
sealed_behind hash count (byte ∷ text) =
    let first = sealed_byte hash count byte in
    first ++ sealed_behind (checksum_from hash first) (count + length first) text

-- the bytes of a file of version 3 that has this text
abbrev pub sealed : List ℕ → List ℕ
sealed text = sealed_behind hash_of_none 0 text

-- ---- how a file is read

-- whether a line is rightly sealed, and has at most 137 bytes, if the bytes before it have this checksum
unfoldable pub is_sealed : ℕ → List ℕ → Bool
is_sealed hash line =
    nat_le 17 (length line) && (nat_le (length line) 137 && bytes_eq (drop (length line - 17) line) (seal_by (hash_before hash (take (length line - 17) line))))

-- whether bytes begin as a file of version 3 does
unfoldable pub is_version_3 : List ℕ → Bool
is_version_3 bytes = bytes_eq (take 10 bytes) (codes "livevec 3 ")

-- a line with 2 as its version, if it begins as a file of version 3 does
unfoldable pub in_version_2 : List ℕ → List ℕ
in_version_2 line = if is_version_3 line then codes "livevec 2 " ++ drop 10 line else line

-- a line as it is in the text, if the bytes before it have this checksum: without its seal. It is empty if it isn't rightly sealed, or if a line
-- before it isn't
abbrev pub line_in : Option ℕ → List ℕ → List ℕ
line_in None line = []
line_in (Some hash) line = if is_sealed hash line then in_version_2 (take (length line - 17) line) else []

-- the checksum of the bytes up to the line's LF, if it is rightly sealed
abbrev pub hash_behind : Option ℕ → List ℕ → Option ℕ
hash_behind None line = None
hash_behind (Some hash) line = if is_sealed hash line then Some (checksum_from hash (line ++ 10 ∷ [])) else None

-- lines as they are in the text
abbrev pub lines_in : Option ℕ → List (List ℕ) → List (List ℕ)
lines_in hash [] = []
lines_in hash (line ∷ lines) = line_in hash line ∷ lines_in (hash_behind hash line) lines

-- the checksum of the bytes up to the last LF, if all lines are rightly sealed
abbrev pub hash_of_lines : Option ℕ → List (List ℕ) → Option ℕ
hash_of_lines hash [] = hash
hash_of_lines hash (line ∷ lines) = hash_of_lines (hash_behind hash line) lines

-- whether the bytes after the last LF are a rightly sealed line and then one byte other than LF
abbrev pub is_unended : Option ℕ → List ℕ → Bool
is_unended None bytes = false
is_unended (Some hash) bytes = nat_le 1 (length bytes) && is_sealed hash (take (length bytes - 1) bytes)

-- such bytes are a wrong line in the text. Any others are not a line
abbrev pub last_in : Option ℕ → List ℕ → List ℕ
last_in hash bytes = if is_unended hash bytes then 10 ∷ [] else []

-- the first 138 bytes of each line of a file. A line with that many is too long
abbrev pub first_bytes : List ℕ → List (List ℕ)
first_bytes bytes = map (take 138) (whole_lines_of bytes)

-- the text of the lines that come after bytes with this checksum
unfoldable pub text_behind : Option ℕ → List ℕ → List ℕ
text_behind hash bytes = ended (lines_in hash (first_bytes bytes)) ++ last_in (hash_of_lines hash (first_bytes bytes)) (take 138 (unended_of bytes))

-- the text of a file: without seals if it is of version 3, and its bytes if it is not
unfoldable pub logical_of : List ℕ → List ℕ
logical_of bytes = if is_version_3 bytes then text_behind (Some hash_of_none) bytes else bytes

-- the text of what a reader gives, if that is known
abbrev pub text_of : Option (List ℕ) → Option (List ℕ)
text_of remaining = option_map logical_of remaining

-- the number of bytes in a file for so many bytes of its text, which are so many lines: each line has 17 more if the file has seals. The count
-- is at most the greatest 64-bit number
abbrev pub bytes_in_file : Option ℕ → ℕ → ℕ → ℕ
bytes_in_file None bytes lines = bytes
bytes_in_file (Some hash) bytes lines = min (bytes + 17 * lines) (2 ^ 64 - 1)
