-- How a text is put into bytes of a caller's.
use Rattle.std.specs.Prelude.{◌≡◌, ◌++◌, ◌<◌, ◌≤◌, ℕ, List, Result, Ok, Err, drop, length}
use Rattle.lv_transcript.specs.declared.text_buffers.Unput.{Unput}
use Rattle.lv_transcript.specs.declared.text_buffers.Unput.TheVariants.{NoMemory, Short}

-- all of a text was put at the start of some bytes, and this is its length; or it doesn't fit, or there was no memory, and no byte has changed
abbrev pub PutsText : List ℕ → List ℕ → List ℕ → Result ℕ Unput → Type 0
PutsText text old new (Ok taken) = (taken ≡ length text) × (length text ≤ length old) × (new ≡ text ++ drop (length text) old)
PutsText text old new (Err (Short wanted)) = (wanted ≡ length text) × (length old < length text) × (new ≡ old)
PutsText text old new (Err NoMemory) = new ≡ old
