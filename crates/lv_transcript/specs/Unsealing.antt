-- The progress of a reader that gives the text of a file.
use Rattle.std.specs.Prelude.{◌≡◌, ℕ, ◌<◌, ◌≤◌, Bool, false, List, [], ◌++◌, length, Option, Some, option_map}
use Rattle.lv_lines.specs.Input.{has_end}
use Rattle.lv_transcript.specs.declared.unsealer.Form.{Form}
use Rattle.lv_transcript.specs.declared.unsealer.Form.TheVariants.{Unknown, Plain, Sealed}
use Rattle.lv_transcript.specs.Seals.{hash_of_none, logical_of, text_behind}

-- the text of bytes that come after some that were kept, given the form of the file and the checksum of the lines before
abbrev pub text_after : Form → Option ℕ → List ℕ → List ℕ → List ℕ
text_after Unknown hash kept bytes = logical_of (kept ++ bytes)
text_after Plain hash kept bytes = bytes
text_after Sealed hash kept bytes = text_behind hash (kept ++ bytes)

-- the text that waits to be given, and then the text of these bytes
abbrev pub text_to_come : Form → Option ℕ → List ℕ → List ℕ → List ℕ → List ℕ
text_to_come form hash kept ready bytes = ready ++ text_after form hash kept bytes

-- the bytes that are kept: if the form of the file isn't known, all bytes, which are fewer than decide it; in a plain file none; else the first
-- bytes of an unended line
abbrev pub AreKept : Form → Option ℕ → List ℕ → Type 0
AreKept form hash kept =
    (form ≡ Unknown → (hash ≡ Some hash_of_none) × (length kept < 10)) × (form ≡ Plain → kept ≡ []) × (form ≡ Sealed → has_end kept ≡ false) × (length kept ≤ 138)

-- the text that a reader has still to give, if that is known
abbrev pub text_left : Form → Option ℕ → List ℕ → List ℕ → Option (List ℕ) → Option (List ℕ)
text_left form hash kept ready remaining = option_map (text_to_come form hash kept ready) remaining

-- bytes were taken in such a way that the text is the same, whatever comes after them
abbrev pub Takes : Form → Option ℕ → List ℕ → List ℕ → List ℕ → Form → Option ℕ → List ℕ → List ℕ → Type 0
Takes form hash kept ready bytes form_new hash_new kept_new ready_new =
    (rest : List ℕ) → text_to_come form_new hash_new kept_new ready_new rest ≡ text_to_come form hash kept ready (bytes ++ rest)

-- the bytes that a reader has still to give, and whether it has found its end
pub record WholeState : Type 0 where
  pub remaining : Option (List ℕ)
  pub at_end : Bool
