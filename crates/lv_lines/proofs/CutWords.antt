-- How the words of a line are cut, one after another from the front.
use Rattle.std.proofs.Common.{◌≡◌, ℕ, suc, ◌+◌, ◌<◌, ◌≤◌, Bool, true, false, not, cond, ltb, List, [], ◌∷◌, length, get_or, take, drop, filter, Option, Some, None, unwrap_or, refl, sym, ap, ◌∙◌, arith, inl, inr}
use Rattle.std.specs.List.{slice_split, onto_first, position_or_len}
use Rattle.std.proofs.lemmas.Bool.{cases_Bool, cases_lt, lt-ltb, le-ltb, ltb-true, not-true, cond-true}
use Rattle.std.proofs.lemmas.Option.{none-some, cond_some}
use Rattle.std.proofs.lemmas.List.{drop_all, drop_more, length-drop}
use Rattle.std.proofs.lemmas.List.Sums.{prefix_len-le-length, passes_at_first}
use Rattle.std.proofs.lemmas.List.Splits.{slice_split-cons_yes, slice_split-cons_no}
use Rattle.std.proofs.Math.Numerals.{one-add}
use Rattle.lv_lines.specs.Words.{is_space, is_word, words_of}

-- whether a byte is part of a word
abbrev pub in_word : ℕ → Bool
in_word b = not (is_space b)

-- the first place that passes is the front, if that passes
pub first_at_front : (p : ℕ → Bool) (b : ℕ) (bytes : List ℕ) → p b ≡ true → position_or_len p (b ∷ bytes) ≡ 0
first_at_front p b bytes passes = rw passes refl

-- if the front fails, it is one after that of the rest
pub first_behind_front : (p : ℕ → Bool) (b : ℕ) (bytes : List ℕ) → p b ≡ false → position_or_len p (b ∷ bytes) ≡ suc (position_or_len p bytes)
first_behind_front p b bytes fails = rw fails (one-add (position_or_len p bytes))

-- a space at the front is no part of a word
pub words_of-space : (b : ℕ) (bytes : List ℕ) → is_space b ≡ true → words_of (b ∷ bytes) ≡ words_of bytes
unfolding words_of
words_of-space b bytes space = ap (filter is_word) (slice_split-cons_yes is_space b bytes space)

-- spaces at the front are no part of a word
pub words_of-skip : (bytes : List ℕ) → words_of (drop (position_or_len in_word bytes) bytes) ≡ words_of bytes
words_of-skip [] = refl
words_of-skip (b ∷ bytes) =
    elim (cases_Bool (is_space b)) [
      | inl space ↦
          rw (first_behind_front in_word b bytes (ap not space)) (words_of-skip bytes ∙ sym (words_of-space b bytes space))
      | inr other ↦ rw (first_at_front in_word b bytes (ap not other)) refl
    ]

-- the bytes up to the first space are the first piece, and the words after it are those of the rest
pub record Cuts (bytes : List ℕ) : Type 0 where
  pub pieces : List (List ℕ)
  pub first : slice_split is_space bytes ≡ take (position_or_len is_space bytes) bytes ∷ pieces
  pub rest : filter is_word pieces ≡ words_of (drop (position_or_len is_space bytes) bytes)

-- each line is cut so
pub cuts : (bytes : List ℕ) → Cuts bytes
unfolding words_of
cuts [] = record { pieces = []; first = refl; rest = refl }
cuts (b ∷ bytes) =
    elim (cases_Bool (is_space b)) [
      | inl space ↦
          let here = first_at_front is_space b bytes space in
          record {
            pieces = slice_split is_space bytes;
            first = rw here (slice_split-cons_yes is_space b bytes space);
            rest = rw here (sym (words_of-space b bytes space));
          }
      | inr other ↦
          let later = first_behind_front is_space b bytes other in
          let cut = cuts bytes in
          record {
            pieces = cut.pieces;
            first = rw later (slice_split-cons_no is_space b bytes other ∙ ap (onto_first b) cut.first);
            rest = rw later cut.rest;
          }
    ]

-- the bytes up to the first space, and the words after them
abbrev pub first_and_rest : List ℕ → List (List ℕ)
first_and_rest bytes = take (position_or_len is_space bytes) bytes ∷ words_of (drop (position_or_len is_space bytes) bytes)

-- what begins with no space has its first word up to the first space, and its other words after that
pub words_of-first : (b : ℕ) (bytes : List ℕ) → is_space b ≡ false → words_of (b ∷ bytes) ≡ first_and_rest (b ∷ bytes)
unfolding words_of
words_of-first b bytes other =
    let cut = cuts bytes in
    rw (first_behind_front is_space b bytes other)
    (ap (filter is_word) (slice_split-cons_no is_space b bytes other ∙ ap (onto_first b) cut.first)
    ∙ ap (λ words. (b ∷ take (position_or_len is_space bytes) bytes) ∷ words) cut.rest)

-- bytes that are all spaces have no words
pub no_words : (bytes : List ℕ) → length bytes ≤ position_or_len in_word bytes → words_of bytes ≡ []
unfolding words_of
no_words bytes spaces = sym (words_of-skip bytes) ∙ ap words_of (drop_all _ bytes spaces)

-- a line that has another byte than spaces has its first word after the spaces at its front
pub some_word : (bytes : List ℕ) → position_or_len in_word bytes < length bytes → words_of bytes ≡ first_and_rest (drop (position_or_len in_word bytes) bytes)
some_word bytes within =
    let start = position_or_len in_word bytes in
    let other = not-true _ (passes_at_first in_word bytes 0 within) in
    let first = words_of-first (get_or bytes start 0) (drop (start + 1) bytes) other in
    sym (words_of-skip bytes) ∙ rw (drop_more bytes start 0 within) first

-- the bytes from the first word on
pub from_first : (bytes text : List ℕ) → position_or_len in_word bytes < length bytes → text ≡ drop (position_or_len in_word bytes) bytes
    → (words_of bytes ≡ words_of text) × (0 < length text) × (is_space (get_or text 0 0) ≡ false)
from_first bytes text within cut =
    let start = position_or_len in_word bytes in
    let other = not-true _ (passes_at_first in_word bytes 0 within) in (
      sym (words_of-skip bytes) ∙ ap words_of (sym cut),
      omega (arith, ap length cut, length-drop start bytes),
      ap (λ (xs : List ℕ). is_space (get_or xs 0 0)) (cut ∙ drop_more bytes start 0 within) ∙ other,
    )

-- what a search for the first place that passes gives
abbrev pub search_of : (ℕ → Bool) → List ℕ → Option ℕ
search_of p bytes = cond (ltb (position_or_len p bytes) (length bytes)) (Some (position_or_len p bytes)) None

-- a search that finds nothing went to the end
pub none_found : (p : ℕ → Bool) (bytes : List ℕ) (at : Option ℕ) → at ≡ search_of p bytes → at ≡ None → length bytes ≤ position_or_len p bytes
none_found p bytes at found none =
    elim (cases_lt (position_or_len p bytes) (length bytes)) [
      | inl below ↦
          absurd (none-some _ (sym none ∙ found ∙ cond-true _ (Some (position_or_len p bytes)) None (lt-ltb _ _ below)))
      | inr past ↦ past
    ]

-- a search that finds a place finds the first
pub place_found : (p : ℕ → Bool) (bytes : List ℕ) (at : Option ℕ) (i : ℕ) → at ≡ search_of p bytes → at ≡ Some i → (position_or_len p bytes < length bytes) × (position_or_len p bytes ≡ i)
place_found p bytes at i found some =
    let parts = cond_some _ _ _ (sym found ∙ some) in
    (ltb-true _ _ parts.0, parts.1)

-- the place that a search finds, or the end
pub first_or_end : (p : ℕ → Bool) (bytes : List ℕ) (at : Option ℕ) → at ≡ search_of p bytes → unwrap_or at (length bytes) ≡ position_or_len p bytes
first_or_end p bytes at found =
    let first = position_or_len p bytes in
    rw found (elim (cases_lt first (length bytes)) [
      | inl below ↦ ap (λ b. unwrap_or (cond b (Some first) None) (length bytes)) (lt-ltb _ _ below)
      | inr past ↦
          let same : length bytes ≡ first = omega (arith, prefix_len-le-length (λ b. not (p b)) bytes) in
          ap (λ b. unwrap_or (cond b (Some first) None) (length bytes)) (le-ltb _ _ past) ∙ same
    ])
