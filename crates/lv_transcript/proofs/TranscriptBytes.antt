-- The bytes of a transcript, and its lines.
use Rattle.std.proofs.Common.{◌≡◌, ◌⊎◌, ℕ, ◌≤◌, ◌==◌, true, false, List, [], ◌∷◌, ◌++◌, length, get_or, take, map, All, refl, sym, ap, ◌∙◌, inl, inr, arith, append_assoc}
use Rattle.std.proofs.lemmas.Bool.{cases_Bool, eqb-true, ne_eqb}
use Rattle.std.proofs.lemmas.List.{get_or_push, length_push, length-take, take_all}
use Rattle.std.proofs.lemmas.List.Elements.{All-head, All-tail, All-weaker}
use Rattle.std.proofs.lemmas.List.Folds.{map_fixed}
use Rattle.lv_lines.specs.Input.{begun_with, lines_of, put_before, whole_lines_of, has_end, unended_of, last_line}
use Rattle.lv_lines.proofs.InputLemmas.{lines_of-parts, lines_of-ended, whole_lines_of-begun, whole_lines_of-ended, whole_lines_of-push_end, unended_of-ended, last_line-some}
use Rattle.lv_lines.proofs.PrintedWords.{IsPrintable}
use Rattle.lv_transcript.specs.Transcript.{ended}

-- ---- lines without LF

-- a line that has no LF
abbrev pub IsUnended : List ℕ → Type 0
IsUnended line = has_end line ≡ false

-- if no byte is below the space, none is LF
pub unended_printable : (line : List ℕ) → All IsPrintable line → IsUnended line
unended_printable [] printable = refl
unended_printable (b ∷ bs) printable =
    let here : 32 ≤ b = All-head IsPrintable b bs printable in
    rw (ne_eqb b 10 (λ same. omega arith), unended_printable bs (All-tail IsPrintable b bs printable)) refl

-- a line and its LF are the first line of an input
lines_of-first : (line rest : List ℕ) → IsUnended line → lines_of (line ++ 10 ∷ rest) ≡ line ∷ lines_of rest
lines_of-first line rest none =
    rw (lines_of-parts (line ++ 10 ∷ rest), whole_lines_of-ended line rest none, unended_of-ended line rest, lines_of-parts rest) refl

-- lines that are ended are the lines of their text
pub lines_of_text : (lines : List (List ℕ)) → All IsUnended lines → lines_of (ended lines) ≡ lines
lines_of_text [] whole = refl
lines_of_text (line ∷ lines) whole =
    ap lines_of (append_assoc line (10 ∷ []) (ended lines))
    ∙ lines_of-first line (ended lines) (All-head IsUnended line lines whole)
    ∙ ap (λ (ls : List (List ℕ)). line ∷ ls) (lines_of_text lines (All-tail IsUnended line lines whole))

-- lists that are pushed to the same list had the same pushed
same_last : (xs ys : List (List ℕ)) (a b : List ℕ) → xs ++ a ∷ [] ≡ ys ++ b ∷ [] → a ≡ b
same_last xs ys a b same =
    let long : length ys ≡ length xs = omega (arith, length_push xs a, length_push ys b, ap length same) in
    sym (get_or_push xs a [] (length xs) refl) ∙ ap (λ (ls : List (List ℕ)). get_or ls (length xs) []) same ∙ get_or_push ys b [] (length xs) long

-- a text whose last line has bytes may lack the last LF
pub lines_of_unended_text : (bytes : List ℕ) (front : List (List ℕ)) (last : List ℕ) → (length last == 0) ≡ false → All IsUnended (front ++ last ∷ []) → bytes ++ 10 ∷ [] ≡ ended (front ++ last ∷ []) → lines_of bytes ≡ front ++ last ∷ []
lines_of_unended_text bytes front last some whole is =
    let lines = front ++ last ∷ [] in
    let all : whole_lines_of bytes ++ unended_of bytes ∷ [] ≡ lines =
    sym (whole_lines_of-push_end bytes) ∙ sym (lines_of-ended bytes) ∙ ap lines_of is ∙ lines_of_text lines whole in
    let behind : unended_of bytes ≡ last = same_last (whole_lines_of bytes) front (unended_of bytes) last all in
    lines_of-parts bytes
    ∙ ap (λ (ls : List (List ℕ)). whole_lines_of bytes ++ ls) (ap last_line behind ∙ last_line-some last some ∙ ap (λ (l : List ℕ). l ∷ []) (sym behind))
    ∙ all

-- bytes that are lines with their LFs, but for that of the last perhaps
abbrev pub AreEnded : List ℕ → List (List ℕ) → Type 0
AreEnded bytes lines = (bytes ≡ ended lines) ⊎ (bytes ++ 10 ∷ [] ≡ ended lines)

-- one more LF before them
ended_end : (b : ℕ) (bs : List ℕ) (lines : List (List ℕ)) → b ≡ 10 → AreEnded bs lines → AreEnded (b ∷ bs) ([] ∷ lines)
ended_end b bs lines is (inl same) = inl (rw (is, same) refl)
ended_end b bs lines is (inr same) = inr (rw (is, same) refl)

-- one more byte of the first line
ended_begun : (b : ℕ) (bs : List ℕ) (lines : List (List ℕ)) → AreEnded bs lines → AreEnded (b ∷ bs) (begun_with b lines)
ended_begun b bs [] (inl same) = inr (rw same refl)
ended_begun b [] [] (inr same) = absurd (cc (same))
ended_begun b (c ∷ cs) [] (inr same) = absurd (cc (same))
ended_begun b bs (line ∷ lines) (inl same) = inl (ap (λ (xs : List ℕ). b ∷ xs) same)
ended_begun b bs (line ∷ lines) (inr same) = inr (ap (λ (xs : List ℕ). b ∷ xs) same)

-- bytes are their lines so
pub bytes_of_lines : (bytes : List ℕ) → AreEnded bytes (lines_of bytes)
bytes_of_lines [] = inl refl
bytes_of_lines (b ∷ bs) =
    elim (cases_Bool (b == 10)) [
      | inl ends ↦ rw ends (ended_end b bs (lines_of bs) (eqb-true b 10 ends) (bytes_of_lines bs))
      | inr other ↦ rw other (ended_begun b bs (lines_of bs) (bytes_of_lines bs))
    ]

-- a byte before the first of some lines
whole_begun : (b : ℕ) (bs rest : List ℕ) (lines : List (List ℕ)) → (lines ≡ [] → ⊥) → bs ≡ ended lines ++ rest → b ∷ bs ≡ ended (put_before b lines) ++ rest
whole_begun b bs rest [] some is = absurd (some refl)
whole_begun b bs rest (line ∷ lines) some is = ap (λ (xs : List ℕ). b ∷ xs) is

-- an LF among bytes ends a line
some_whole : (bs : List ℕ) → has_end bs ≡ true → whole_lines_of bs ≡ [] → ⊥
some_whole [] some none = absurd (cc some)
some_whole (b ∷ bs) some none =
    elim (cases_Bool (b == 10)) [
      | inl ends ↦ absurd (cc (rw ends at none))
      | inr other ↦ some_whole bs (rw other at some) (none_before b (whole_lines_of bs) (rw other at none))
    ]
  where
    none_before : (b : ℕ) (lines : List (List ℕ)) → put_before b lines ≡ [] → lines ≡ []
    none_before b [] is = refl
    none_before b (line ∷ lines) is = absurd (cc is)

-- bytes are their whole lines, and then the bytes after the last LF
pub whole_parts : (bytes : List ℕ) → bytes ≡ ended (whole_lines_of bytes) ++ unended_of bytes
whole_parts [] = refl
whole_parts (b ∷ bs) =
    elim (cases_Bool (b == 10)) [
      | inl ends ↦ rw (eqb-true b 10 ends) (ap (λ (xs : List ℕ). 10 ∷ xs) (whole_parts bs))
      | inr other ↦
          elim (cases_Bool (has_end bs)) [
            | inl some ↦ rw (other, some) (whole_begun b bs (unended_of bs) (whole_lines_of bs) (some_whole bs some) (whole_parts bs))
            | inr none ↦ rw (other, none, whole_lines_of-begun bs none) refl
          ]
    ]

-- ---- the first bytes of short lines

-- a line of at most 120 bytes
abbrev pub IsShort : List ℕ → Type 0
IsShort line = length line ≤ 120

-- short lines are their first 121 bytes
pub first_of_short : (lines : List (List ℕ)) → All IsShort lines → map (take 121) lines ≡ lines
first_of_short lines short =
    map_fixed (take 121) lines (All-weaker IsShort (λ line. take 121 line ≡ line) (λ line few. take_all 121 line (omega (arith, few))) lines short)

-- and lines are short if their first 121 bytes are
pub short_of_first : (lines : List (List ℕ)) → All IsShort (map (take 121) lines) → map (take 121) lines ≡ lines
short_of_first [] short = refl
short_of_first (line ∷ lines) short =
    let few : length (take 121 line) ≤ 120 = All-head IsShort (take 121 line) (map (take 121) lines) short in
    let whole : take 121 line ≡ line = take_all 121 line (omega (arith, few, length-take 121 line)) in
    rw (whole, short_of_first lines (All-tail IsShort (take 121 line) (map (take 121) lines) short)) refl
