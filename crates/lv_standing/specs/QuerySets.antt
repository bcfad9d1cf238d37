-- Sets of named queries, whatever they ask: the state of a set, and which notes are due.
use Rattle.std.specs.Prelude.{◌≡◌, ◌⊎◌, ℕ, Bool, true, false, Option, Some, None, List, [], ◌∷◌, ◌++◌, is_some, length, nat_lt, position, slice_set, if◌then◌else◌}
use Rattle.std.specs.List.{remove}
use Rattle.std.specs.Str.{bytes_eq}
use Rattle.lv_geometry.specs.declared.refusals.Refusal.{Refusal}
use Rattle.lv_geometry.specs.declared.refusals.Refusal.TheVariants.{BadRange, NameTaken, TooMany}
use Rattle.lv_bodies.specs.declared.kinds.Shown.{Shown}
use Rattle.lv_standing.specs.declared.notes.Note.{Note}
use Rattle.lv_standing.specs.declared.questions.Terms.{Terms}
use Rattle.lv_standing.specs.Thresholds.{is_due}

-- a set: its queries in the order of their registration, for each the answer that was reported last, the answers that were computed last,
-- and how many queries it may have
pub record QuerySetState (Q : Type 0) : Type 0 where
  pub queries : List Q
  pub told : List Shown
  pub answers : List Shown
  pub most : ℕ

-- why a query is rejected if memory suffices: its range is backwards, its name is taken, or there are as many queries as there may be
abbrev pub refusal_by : Bool → Bool → ℕ → ℕ → Option Refusal
refusal_by is_backwards is_taken count most = if is_backwards then Some BadRange else (if is_taken then Some NameTaken else (if nat_lt count most then None else Some TooMany))

module _ {Q : Type 0} where
  -- a set with one more query, whose reported answer is given; no answers were computed since
  abbrev pub with_query : QuerySetState Q → Q → Shown → QuerySetState Q
  with_query s q told = record { queries = s.queries ++ q ∷ []; told = s.told ++ told ∷ []; answers = []; most = s.most }

  -- a set without the query at a place; the others keep their order and their reported answers
  abbrev pub without_place : QuerySetState Q → ℕ → QuerySetState Q
  without_place s at = record { queries = remove s.queries at; told = remove s.told at; answers = []; most = s.most }

  -- a set whose computed answers are the given ones
  abbrev pub with_answers : QuerySetState Q → List Shown → QuerySetState Q
  with_answers s answers = record { queries = s.queries; told = s.told; answers = answers; most = s.most }

  -- a set in which the reported answer of the query at a place is the given one
  abbrev pub told_at : QuerySetState Q → ℕ → Shown → QuerySetState Q
  told_at s at answer = record s { told = slice_set s.told at answer }

  -- a set in which the computed answers count as reported
  abbrev pub with_told : QuerySetState Q → QuerySetState Q
  with_told s = record { queries = s.queries; told = s.answers; answers = []; most = s.most }

  module _ (terms_of : Q → Terms) where
    abbrev pub name_of : Q → List ℕ
    name_of q = (terms_of q).name

    -- the place of the query with a name, if there is one, and whether there is one
    abbrev pub place_of : List Q → List ℕ → Option ℕ
    place_of queries name = position (λ q. bytes_eq (name_of q) name) queries

    abbrev pub is_taken : List Q → List ℕ → Bool
    is_taken queries name = is_some (place_of queries name)

    -- why a set that has some queries, and may have `most`, rejects one more if memory suffices
    abbrev pub refusal_of : ℕ → List Q → Q → Option Refusal
    refusal_of most queries q = refusal_by (terms_of q).is_backwards (is_taken queries (name_of q)) (length queries) most

    -- the notes of some answers: one for each query, in order, for which a note is due after the answer that was reported, with the new answer
    abbrev pub AreDue : List Q → List Shown → List Shown → List Note → Type 0
    AreDue [] told answers notes = notes ≡ []
    AreDue (q ∷ queries) [] answers notes = notes ≡ []
    AreDue (q ∷ queries) (before ∷ told) [] notes = notes ≡ []
    AreDue (q ∷ queries) (before ∷ told) (answer ∷ answers) notes =
        ((is_due (terms_of q).bound before answer ≡ false) × AreDue queries told answers notes)
        ⊎ ((is_due (terms_of q).bound before answer ≡ true) × (rest : List Note) × (notes ≡ record { name = name_of q; value = answer } ∷ rest) × AreDue queries told answers rest)

    -- a list of notes has those notes appended to it
    pub record AddsDue (queries : List Q) (told answers : List Shown) (notes more : List Note) : Type 0 where
      pub added : List Note
      pub are : AreDue queries told answers added
      pub all : more ≡ notes ++ added
