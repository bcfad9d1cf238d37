-- Bytes of a log on their way to its file.
use Rattle.std.specs.Prelude.{◌≡◌, ℕ, List, ◌++◌, Option, None, Some}
use Rattle.std.specs.Io.KnownBytes.{Appends}
use Rattle.lv_shards.specs.Bytes.{checksum_from}
use Rattle.lv_transcript.specs.Seals.{sealed_behind}

-- a prefix of the bytes that were held went to a file
pub record Sends (held_old held_new : List ℕ) (contents_old contents_new : Option (List ℕ)) : Type 0 where
  pub sent : List ℕ
  pub appended : Appends contents_old contents_new sent
  pub all : held_old ≡ sent ++ held_new

-- a text was taken after bytes that were held, where all bytes before it have this checksum and are so many: what went to the file and what is held
-- are the bytes that were held, and then those of a file for the text; and the new checksum is that of all these bytes
pub record Seals (hash count : ℕ) (text held_old held_new : List ℕ) (hash_new : ℕ) (contents_old contents_new : Option (List ℕ)) : Type 0 where
  pub sent : List ℕ
  pub appended : Appends contents_old contents_new sent
  pub all : held_old ++ sealed_behind hash count text ≡ sent ++ held_new
  pub hash_is : hash_new ≡ checksum_from hash (sealed_behind hash count text)

-- the bytes that the file of a transcript or of a log has received. For one whose lines are sealed nothing is known
abbrev pub got : {S : Type 0} → Option S → Option (List ℕ) → Option (List ℕ)
got None contents = contents
got (Some buffer) contents = None
