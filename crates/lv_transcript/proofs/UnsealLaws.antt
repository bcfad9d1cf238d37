-- The text of lines that are taken one after the other.
use Rattle.std.proofs.Common.{◌≡◌, ℕ, ◌+◌, ◌-◌, ◌<◌, ◌≤◌, ◌==◌, Bool, true, false, List, [], ◌∷◌, ◌++◌, length, drop, take, map, codes, refl, sym, ap, ◌∙◌, subst, arith, append_assoc, append-nil, length-append, Option, None, Some}
use Rattle.std.specs.Prelude.{if◌then◌else◌}
use Rattle.std.proofs.lemmas.List.{take_all, take-append-le, take-take, length-take}
use Rattle.std.specs.Prelude.{option_map}
use Rattle.std.specs.Io.KnownBytes.{Consumes, IsAtEnd, Keeps}
use Rattle.std.specs.Str.{bytes_eq}
use Rattle.std.proofs.lemmas.Slice.Eq.{bytes_eq-Decides}
use Rattle.std.proofs.lemmas.Bool.{and_parts, false_from_ne_true, leb-true}
use Rattle.lv_shards.specs.Bytes.{checksum_from}
use Rattle.lv_lines.specs.Input.{has_end, unended_of, whole_lines_of}
use Rattle.lv_lines.proofs.InputLemmas.{has_end-append_none, has_end-take, unended_of-begun, unended_of-ended, unended_of-front, whole_lines_of-begun, whole_lines_of-ended, whole_lines_of-front}
use Rattle.lv_transcript.specs.Seals.{first_bytes, hash_behind, hash_of_lines, hash_of_none, in_version_2, is_sealed, is_version_3, last_in, line_in, lines_in, logical_of, text_behind}
use Rattle.lv_transcript.specs.Transcript.{ended}
use Rattle.lv_transcript.specs.Unsealing.{Takes, text_after, text_to_come}
use Rattle.lv_transcript.specs.declared.unsealer.Form.{Form}
use Rattle.lv_transcript.specs.declared.unsealer.Form.TheVariants.{Plain, Sealed, Unknown}

-- the text of the lines of a file and of the bytes after them
abbrev text_of_lines : Option ℕ → List (List ℕ) → List ℕ → List ℕ
text_of_lines hash lines rest = ended (lines_in hash lines) ++ last_in (hash_of_lines hash lines) rest

-- a line, and what comes after it
pub line_first : (hash : Option ℕ) (line bytes : List ℕ) → has_end line ≡ false
    → text_behind hash (line ++ 10 ∷ bytes) ≡ (line_in hash (take 138 line) ++ 10 ∷ []) ++ text_behind (hash_behind hash (take 138 line)) bytes
unfolding text_behind
line_first hash line bytes none =
    let first = take 138 line in
    let more = hash_behind hash first in
    let lines : first_bytes (line ++ 10 ∷ bytes) ≡ first ∷ first_bytes bytes = ap (map (take 138)) (whole_lines_of-ended line bytes none) in
    let rest : take 138 (unended_of (line ++ 10 ∷ bytes)) ≡ take 138 (unended_of bytes) = ap (take 138) (unended_of-ended line bytes) in
    ap (λ (ls : List (List ℕ)). text_of_lines hash ls (take 138 (unended_of (line ++ 10 ∷ bytes)))) lines
    ∙ ap (text_of_lines hash (first ∷ first_bytes bytes)) rest
    ∙ append_assoc (line_in hash first ++ 10 ∷ []) (ended (lines_in more (first_bytes bytes))) (last_in (hash_of_lines more (first_bytes bytes)) (take 138 (unended_of bytes)))

-- of a line its first bytes are enough
pub begun_by_first : (hash : Option ℕ) (xs ys bytes : List ℕ) → has_end xs ≡ false → has_end ys ≡ false → take 138 xs ≡ take 138 ys → text_behind hash (xs ++ bytes) ≡ text_behind hash (ys ++ bytes)
unfolding text_behind
begun_by_first hash xs ys bytes first second same =
    ap (λ (ls : List (List ℕ)). text_of_lines hash ls (take 138 (unended_of (xs ++ bytes)))) (whole_lines_of-front 138 xs ys bytes first second same)
    ∙ ap (text_of_lines hash (first_bytes (ys ++ bytes))) (unended_of-front 138 xs ys bytes first second same)

-- a line more was put
pub line_taken : (hash : Option ℕ) (kept piece line more ready new : List ℕ) → has_end kept ≡ false → has_end piece ≡ false → line ≡ take 138 (kept ++ piece) → new ≡ ready ++ (line_in hash line ++ 10 ∷ [])
    → new ++ text_behind (hash_behind hash line) more ≡ ready ++ text_behind hash (kept ++ ((piece ++ 10 ∷ []) ++ more))
line_taken hash kept piece line more ready new begun none line_is new_is =
    let whole : kept ++ ((piece ++ 10 ∷ []) ++ more) ≡ (kept ++ piece) ++ 10 ∷ more =
    ap (λ (bs : List ℕ). kept ++ bs) (append_assoc piece (10 ∷ []) more) ∙ sym (append_assoc kept piece (10 ∷ more)) in
    let first = line_first hash (kept ++ piece) more (has_end-append_none kept piece begun ∙ none) in
    let here : text_behind hash (kept ++ ((piece ++ 10 ∷ []) ++ more)) ≡ (line_in hash line ++ 10 ∷ []) ++ text_behind (hash_behind hash line) more =
    ap (text_behind hash) whole ∙ first ∙ ap (λ (l : List ℕ). (line_in hash l ++ 10 ∷ []) ++ text_behind (hash_behind hash l) more) (sym line_is) in
    ap (λ (bs : List ℕ). bs ++ text_behind (hash_behind hash line) more) new_is ∙ append_assoc ready (line_in hash line ++ 10 ∷ []) (text_behind (hash_behind hash line) more)
    ∙ ap (λ (bs : List ℕ). ready ++ bs) (sym here)

-- the first bytes of a line were kept
pub piece_taken : (hash : Option ℕ) (kept piece new more : List ℕ) → has_end kept ≡ false → has_end piece ≡ false → new ≡ take 138 (kept ++ piece)
    → text_behind hash (new ++ more) ≡ text_behind hash (kept ++ (piece ++ more))
piece_taken hash kept piece new more begun none is =
    let open_line : has_end (kept ++ piece) ≡ false = has_end-append_none kept piece begun ∙ none in
    ap (λ (bs : List ℕ). text_behind hash (bs ++ more)) is
    ∙ begun_by_first hash (take 138 (kept ++ piece)) (kept ++ piece) more (has_end-take 138 (kept ++ piece) open_line) open_line (take-take 138 138 (kept ++ piece) (omega arith))
    ∙ ap (text_behind hash) (append_assoc kept piece more)

-- ---- lines that have a seal

seal_tells : (hash : ℕ) (line : List ℕ) → is_sealed hash line ≡ true → 17 ≤ length line
unfolding is_sealed
seal_tells hash line right = leb-true 17 (length line) (and_parts _ _ right).0

-- a line after which there is a checksum
pub told_sealed : (hash : Option ℕ) (line : List ℕ) (behind : ℕ) → Some behind ≡ hash_behind hash line → (17 ≤ length line) × (line_in hash line ≡ in_version_2 (take (length line - 17) line))
told_sealed None line behind is = absurd (cc is)
told_sealed (Some hash) line behind is = of (is_sealed hash line) refl is
  where
    of : (b : Bool) → is_sealed hash line ≡ b → Some behind ≡ (if b then Some (checksum_from hash (line ++ 10 ∷ [])) else None) → (17 ≤ length line) × (line_in (Some hash) line ≡ in_version_2 (take (length line - 17) line))
    of true right is = (seal_tells hash line right, rw right refl)
    of false right is = absurd (cc is)

-- and one after which there is none
pub told_unsealed : (hash : Option ℕ) (line : List ℕ) → None ≡ hash_behind hash line → line_in hash line ≡ []
told_unsealed None line is = refl
told_unsealed (Some hash) line is = of (is_sealed hash line) refl is
  where
    of : (b : Bool) → is_sealed hash line ≡ b → None ≡ (if b then Some (checksum_from hash (line ++ 10 ∷ [])) else None) → line_in (Some hash) line ≡ []
    of true right is = absurd (cc is)
    of false right is = rw right refl

-- ---- what tells the version

pub version_is : (bytes : List ℕ) → is_version_3 bytes ≡ true → take 10 bytes ≡ codes "livevec 3 "
unfolding is_version_3
version_is bytes tested = (bytes_eq-Decides (take 10 bytes) (codes "livevec 3 ")).0 tested

pub version_long : (bytes : List ℕ) → is_version_3 bytes ≡ true → 10 ≤ length bytes
version_long bytes tested = omega (arith, ap length (version_is bytes tested), length-take 10 bytes)

-- a line that has it, and one that hasn't
pub version_2_of : (line : List ℕ) → is_version_3 line ≡ true → in_version_2 line ≡ codes "livevec 2 " ++ drop 10 line
unfolding in_version_2
version_2_of line tested = rw tested refl

pub version_kept : (line : List ℕ) → is_version_3 line ≡ false → in_version_2 line ≡ line
unfolding in_version_2
version_kept line tested = rw tested refl

-- ten bytes decide whether a file is of version 3
pub told_by_ten : (bytes more : List ℕ) → 10 ≤ length bytes → is_version_3 (bytes ++ more) ≡ is_version_3 bytes
unfolding is_version_3
told_by_ten bytes more long = ap (λ (bs : List ℕ). bytes_eq bs (codes "livevec 3 ")) (take-append-le 10 bytes more long)

pub not_by_fewer : (bytes : List ℕ) → length bytes < 10 → is_version_3 bytes ≡ false
not_by_fewer bytes short = false_from_ne_true (is_version_3 bytes) (λ is. omega (arith, version_long bytes is, short))

-- a file of this version, and any other
pub sealed_file : (bytes : List ℕ) → is_version_3 bytes ≡ true → logical_of bytes ≡ text_behind (Some hash_of_none) bytes
unfolding logical_of
sealed_file bytes tested = rw tested refl

pub plain_file : (bytes : List ℕ) → is_version_3 bytes ≡ false → logical_of bytes ≡ bytes
unfolding logical_of
plain_file bytes tested = rw tested refl

-- bytes that tell the version begin a line
begun_line : (kept : List ℕ) → length kept ≤ 10 → is_version_3 kept ≡ true → has_end kept ≡ false
begun_line kept few tested = rw (sym (take_all 10 kept few) ∙ version_is kept tested) refl

-- ---- the first bytes

module _ (old bytes kept : List ℕ) (few : length old + length bytes ≤ 10) (is : kept ≡ take 138 (old ++ bytes)) where
  -- all are kept
  pub all_kept : kept ≡ old ++ bytes
  all_kept = is ∙ take_all 138 (old ++ bytes) (omega (arith, few, length-append old bytes))

  pub kept_few : length kept ≤ 10
  kept_few = omega (arith, few, ap length all_kept, length-append old bytes)

  -- fewer than tell the version
  pub still_unknown : (ready rest : List ℕ) → ready ++ logical_of (kept ++ rest) ≡ ready ++ logical_of (old ++ (bytes ++ rest))
  still_unknown ready rest = ap (λ (bs : List ℕ). ready ++ logical_of bs) (ap (λ (bs : List ℕ). bs ++ rest) all_kept ∙ append_assoc old bytes rest)

  -- they tell it
  pub known_sealed : 10 ≤ length kept → is_version_3 kept ≡ true → (ready rest : List ℕ) → ready ++ text_behind (Some hash_of_none) (kept ++ rest) ≡ ready ++ logical_of (old ++ (bytes ++ rest))
  known_sealed long tested ready rest =
      ap (λ (bs : List ℕ). ready ++ bs) (sym (sealed_file (kept ++ rest) (told_by_ten kept rest long ∙ tested))) ∙ still_unknown ready rest

  pub known_begun : is_version_3 kept ≡ true → has_end kept ≡ false
  known_begun tested = begun_line kept kept_few tested

  pub known_plain : 10 ≤ length kept → is_version_3 kept ≡ false → (ready new rest : List ℕ) → new ≡ ready ++ kept → new ++ rest ≡ ready ++ logical_of (old ++ (bytes ++ rest))
  known_plain long tested ready new rest new_is =
      ap (λ (bs : List ℕ). bs ++ rest) new_is ∙ append_assoc ready kept rest
      ∙ ap (λ (bs : List ℕ). ready ++ bs) (sym (plain_file (kept ++ rest) (told_by_ten kept rest long ∙ tested))) ∙ still_unknown ready rest

-- ---- the end

pub nothing_behind : (hash : Option ℕ) → text_behind hash [] ≡ []
unfolding text_behind
nothing_behind None = refl
nothing_behind (Some hash) = refl

-- the text of an unended line at the end is nothing, or a wrong line
pub ended_file : (hash : Option ℕ) (kept : List ℕ) → has_end kept ≡ false → length kept ≤ 138 → text_behind hash (kept ++ []) ≡ last_in hash kept
unfolding text_behind
ended_file hash kept begun short =
    let same : kept ++ [] ≡ kept = append-nil kept in
    rw (same, whole_lines_of-begun kept begun, unended_of-begun kept begun, take_all 138 kept short) refl

-- the text of what was kept at the end of a file whose form isn't known
pub unknown_end : (form : Form) (hash : Option ℕ) (kept : List ℕ) → form ≡ Unknown → length kept < 10 → kept ≡ text_after form hash kept []
unknown_end form hash kept is short =
    subst (λ (f : Form). kept ≡ text_after f hash kept []) (sym is) (sym (ap logical_of (append-nil kept) ∙ plain_file kept (not_by_fewer kept short)))

-- and of one of lines that have seals
pub sealed_end : (form : Form) (hash : Option ℕ) (kept : List ℕ) → form ≡ Sealed → has_end kept ≡ false → length kept ≤ 138 → last_in hash kept ≡ text_after form hash kept []
sealed_end form hash kept is begun short = subst (λ (f : Form). last_in hash kept ≡ text_after f hash kept []) (sym is) (sym (ended_file hash kept begun short))

pub sealed_over : (form : Form) (hash : Option ℕ) (kept : List ℕ) → form ≡ Sealed → kept ≡ [] → text_after form hash kept [] ≡ []
sealed_over form hash kept is none =
    ap (λ (k : List ℕ). text_after form hash k []) none ∙ subst (λ (f : Form). text_after f hash [] [] ≡ []) (sym is) (nothing_behind hash)

-- ---- what a reader has still to give

-- bytes were read, and taken
pub taken_keeps : (old new : List ℕ → List ℕ) (bytes : List ℕ) (before after : Option (List ℕ)) → Consumes before after bytes → ((rest : List ℕ) → new rest ≡ old (bytes ++ rest)) → Keeps (option_map old before) (option_map new after)
taken_keeps old new bytes None after read same = tt
taken_keeps old new bytes (Some xs) None read same = absurd read
taken_keeps old new bytes (Some xs) (Some ys) read same = same ys ∙ ap old (sym read)

-- none was read: it is the end
pub ended_keeps : (old new : List ℕ → List ℕ) (before after : Option (List ℕ)) → Consumes before after [] → IsAtEnd after → new [] ≡ old [] → Keeps (option_map old before) (option_map new after)
ended_keeps old new None after read end same = tt
ended_keeps old new (Some xs) None read end same = absurd read
ended_keeps old new (Some xs) (Some ys) read end same = ap new end ∙ same ∙ ap old (sym (read ∙ end))

-- if nothing waits then, nothing is left
pub left_none : (new : List ℕ → List ℕ) (after : Option (List ℕ)) → IsAtEnd after → new [] ≡ [] → IsAtEnd (option_map new after)
left_none new None end none = tt
left_none new (Some ys) end none = ap new end ∙ none

-- what waited was given
pub given_consumes : (after : List ℕ → List ℕ) (old new bytes : List ℕ) (remaining : Option (List ℕ)) → old ≡ bytes ++ new → Consumes (option_map (λ rest. old ++ after rest) remaining) (option_map (λ rest. new ++ after rest) remaining) bytes
given_consumes after old new bytes None is = tt
given_consumes after old new bytes (Some rest) is = ap (λ (bs : List ℕ). bs ++ after rest) is ∙ append_assoc bytes new (after rest)

-- the remaining text is equal
pub left_same : (old new : List ℕ → List ℕ) → ((bytes : List ℕ) → new bytes ≡ old bytes) → (remaining : Option (List ℕ)) → option_map new remaining ≡ option_map old remaining
left_same old new same None = refl
left_same old new same (Some xs) = ap Some (same xs)

-- what was kept, and then given
pub kept_consumes : (a b c : Option (List ℕ)) (bytes : List ℕ) → Keeps a b → Consumes b c bytes → Consumes a c bytes
kept_consumes None b c bytes kept given = tt
kept_consumes (Some xs) None c bytes kept given = absurd kept
kept_consumes (Some xs) (Some ys) None bytes kept given = absurd given
kept_consumes (Some xs) (Some ys) (Some zs) bytes kept given = sym kept ∙ given
