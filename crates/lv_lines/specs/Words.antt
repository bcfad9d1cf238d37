-- The words of a line: the pieces between its spaces.
use Rattle.std.specs.Prelude.{ℕ, Bool, true, false, List, [], ◌∷◌, nat_eq, filter, Option, Some, None}
use Rattle.std.specs.List.{slice_split, join_with_byte, flat_map}

-- whether a byte is a space; a tab is not one
abbrev pub is_space : ℕ → Bool
is_space b = nat_eq b 32

-- whether a piece has any bytes
abbrev pub is_word : List ℕ → Bool
is_word [] = false
is_word (b ∷ bytes) = true

-- the words of a line: the pieces between spaces that have any bytes
unfoldable pub words_of : List ℕ → List (List ℕ)
words_of bytes = filter is_word (slice_split is_space bytes)

-- the only word, if there is exactly one
abbrev pub only_word : List (List ℕ) → Option (List ℕ)
only_word [] = None
only_word (word ∷ []) = Some word
only_word (word ∷ other ∷ words) = None

-- what the first word is read as; nothing if there is no word
abbrev pub first_read : {X : Type 0} → (List ℕ → Option X) → List (List ℕ) → Option X
first_read read [] = None
first_read read (word ∷ words) = read word

-- words with one space between each two
abbrev pub spaced : List (List ℕ) → List ℕ
spaced words = join_with_byte 32 words

-- words, each after a space
abbrev pub behind_spaces : List (List ℕ) → List ℕ
behind_spaces words = flat_map (λ word. 32 ∷ word) words
