-- Entries of transcripts: edits and answers; the prefixes (*fronts*) that are written in the order of time; and the first fault among lines.
use Rattle.std.proofs.Common.{inl, inr}
use Rattle.std.specs.Prelude.{◌≡◌, ◌≢◌, ◌⊎◌, ℕ, ◌+◌, ◌<◌, ◌≤◌, All, Bool, true, false, Option, None, Some, List, [], ◌∷◌, ◌++◌, length, map, take}
use Rattle.lv_edits.specs.declared.edit.Edit.{Edit}
use Rattle.lv_edits.specs.declared.edit.Edit.TheVariants.{Push}
use Rattle.lv_edits.specs.Kept.{CarriesElement}
use Rattle.lv_edits.specs.Verdict.{verdict_of}
use Rattle.lv_lines.specs.Input.{whole_lines_of}
use Rattle.lv_transcript.specs.declared.claimed.Claimed.{Claimed}
use Rattle.lv_transcript.specs.declared.log_heading.LogHeading.{LogHeading}
use Rattle.lv_transcript.specs.Transcript.{answer_line, edit_line, end_line, greatest, heading_line, last_edit, BeginsAnswer, HasEditForm, IsHeading, IsTrueAnswer}

-- ---- the definition of a prefix

-- an entry: an edit, or a reduction that was answered
abbrev pub Entry : Type 0
Entry = Edit ⊎ Claimed

-- its line
abbrev pub entry_line : Entry → List ℕ
entry_line (inl edit) = edit_line edit
entry_line (inr answer) = answer_line answer

-- the edits among some entries, in order
abbrev pub edits_in : List Entry → List Edit
edits_in [] = []
edits_in (inl edit ∷ entries) = edit ∷ edits_in entries
edits_in (inr answer ∷ entries) = edits_in entries

-- the answers among them
abbrev pub answers_in : List Entry → List Claimed
answers_in [] = []
answers_in (inl edit ∷ entries) = answers_in entries
answers_in (inr answer ∷ entries) = answer ∷ answers_in entries

-- entries that are true in the order of time, after some updates and an answer at version `last`. Each update is accepted after those before it.
-- Each answer is true of the updates before it, and its version is not below that of the answer before it
abbrev pub AreTrueAfter : List Edit → ℕ → List Entry → Type 0
AreTrueAfter before last [] = Unit {0}
AreTrueAfter before last (inl edit ∷ entries) =
    CarriesElement edit × (verdict_of greatest before edit ≡ None) × AreTrueAfter (before ++ edit ∷ []) last entries
AreTrueAfter before last (inr answer ∷ entries) = (last ≤ answer.edit) × IsTrueAnswer before answer × AreTrueAfter before answer.edit entries

-- ---- how a log begins

-- how many of the first updates represent elements
abbrev pub elements_of : Option LogHeading → ℕ
elements_of None = 0
elements_of (Some heading) = heading.elements

-- an entry is a push, as those that represent elements are
abbrev pub IsPush : Entry → Type 0
IsPush (inl (Push x)) = Unit {0}
IsPush entry = ⊥

-- entries that a log with this heading may have: they are true in the order of time, and those that represent elements are pushes
pub record AreLogged (heading : LogHeading) (entries : List Entry) : Type 0 where
  pub numbers : IsHeading heading
  pub all_true : AreTrueAfter [] 0 entries
  pub pushes : All IsPush (take heading.elements entries)

-- entries that a log may have, or a transcript if there is no heading
abbrev pub AreTrueOf : Option LogHeading → List Entry → Type 0
AreTrueOf None entries = AreTrueAfter [] 0 entries
AreTrueOf (Some heading) entries = AreLogged heading entries

-- no push that represents an element is missing
abbrev pub HasElements : Option LogHeading → List Entry → Type 0
HasElements heading entries = elements_of heading ≤ length entries

-- ---- the lines of a prefix

-- the lines after the entries of a whole text: the last line of a transcript, and none in a log
abbrev pub ending : Option LogHeading → List (List ℕ)
ending None = end_line ∷ []
ending (Some heading) = []

-- lines are those of entries, perhaps followed by the last line
abbrev pub AreEntryLines : Option LogHeading → List Entry → List (List ℕ) → Type 0
AreEntryLines heading entries lines = (lines ≡ map entry_line entries) ⊎ (lines ≡ map entry_line entries ++ ending heading)

-- the lines of a prefix with these entries: none, or the first line and those of the entries
abbrev pub AreFrontLines : Option LogHeading → List Entry → List (List ℕ) → Type 0
AreFrontLines heading entries [] = entries ≡ []
AreFrontLines heading entries (line ∷ lines) = (line ≡ heading_line heading) × AreEntryLines heading entries lines

-- bytes are a prefix with this heading and these entries, which are true. The bytes after the last LF do not count
pub record IsFrontOf (heading : Option LogHeading) (bytes : List ℕ) (entries : List Entry) : Type 0 where
  pub lines : AreFrontLines heading entries (whole_lines_of bytes)
  pub all_true : AreTrueOf heading entries

-- bytes are a prefix of a transcript with these entries
abbrev pub IsFront : List ℕ → List Entry → Type 0
IsFront bytes entries = IsFrontOf None bytes entries

-- bytes are a prefix, and no element that its heading counts is missing
pub record IsWholeFront (heading : Option LogHeading) (bytes : List ℕ) (entries : List Entry) : Type 0 where
  pub front : IsFrontOf heading bytes entries
  pub elements : HasElements heading entries

-- ---- the first fault among the lines of a whole transcript, or of a prefix, in which updates and answers may be mixed

-- the order that entries have: in a whole transcript all answers follow the edits
abbrev pub AreOrdered : Bool → List Entry → Type 0
AreOrdered true entries = Unit {0}
AreOrdered false entries = entries ≡ map inl (edits_in entries) ++ map inr (answers_in entries)

-- a text may have this heading: only a prefix may be a log, and a whole transcript has none
abbrev pub MayBegin : Bool → Option LogHeading → Type 0
MayBegin mixed None = Unit {0}
MayBegin mixed (Some heading) = (mixed ≡ true) × IsHeading heading

-- entries that are true, and have that order
pub record AreSound (mixed : Bool) (heading : Option LogHeading) (entries : List Entry) : Type 0 where
  pub begins : MayBegin mixed heading
  pub all_true : AreTrueOf heading entries
  pub ordered : AreOrdered mixed entries

-- all lines of a transcript, or of a log, with these entries
abbrev pub all_lines : Option LogHeading → List Entry → List (List ℕ)
all_lines heading entries = heading_line heading ∷ (map entry_line entries ++ ending heading)

-- no transcript and no log with sound entries begins with these lines
abbrev pub NoneBegins : Bool → List (List ℕ) → Type 0
NoneBegins mixed lines =
    (heading : Option LogHeading) (entries : List Entry) (rest : List (List ℕ)) → AreSound mixed heading entries → lines ++ rest ≢ all_lines heading entries

-- an update may follow these entries: if updates and answers may be mixed, or if there is no answer among the entries
abbrev pub MayEditFollow : Bool → List Entry → Type 0
MayEditFollow mixed entries = (mixed ≡ true) ⊎ (answers_in entries ≡ [])

-- a line of at most 120 bytes has the form of an update that may follow these entries, or that of an answer, in order after them
abbrev pub HasEntryForm : Bool → List Entry → List ℕ → Type 0
HasEntryForm mixed entries line = (length line ≤ 120) × ((MayEditFollow mixed entries × HasEditForm line) ⊎ BeginsAnswer (last_edit (answers_in entries)) line)

-- a line is one that a text may begin with
abbrev pub IsFirst : Bool → List ℕ → Type 0
IsFirst mixed line = (heading : Option LogHeading) × MayBegin mixed heading × (line ≡ heading_line heading)

-- the form of a line allows it to follow these lines: as the first line; or after that and these entries, as that of an update or of an answer, or
-- as the last
abbrev pub MayFollow : Bool → Option LogHeading → List (List ℕ) → List Entry → List ℕ → Type 0
MayFollow mixed heading front entries line =
    ((front ≡ []) × IsFirst mixed line)
    ⊎ ((front ≡ heading_line heading ∷ map entry_line entries) × (HasEntryForm mixed entries line ⊎ (line ∷ [] ≡ ending heading)))

-- line n of some lines is the first fault, and is false. The lines before it are the first line and those of sound entries, with these updates.
-- Line n has the form of an update or of an answer that may come there, and no text begins with these lines and it
pub record IsFalseAt (mixed : Bool) (heading : Option LogHeading) (lines : List (List ℕ)) (n : ℕ) (edits : List Edit) : Type 0 where
  pub entries : List Entry
  pub line : List ℕ
  pub rest : List (List ℕ)
  pub all : lines ≡ heading_line heading ∷ map entry_line entries ++ line ∷ rest
  pub number_is : n ≡ 2 + length entries
  pub sound : AreSound mixed heading entries
  pub edits_are : edits ≡ edits_in entries
  pub form : HasEntryForm mixed entries line
  pub none_begins : NoneBegins mixed (heading_line heading ∷ map entry_line entries ++ line ∷ [])

-- what follows these lines is bad: a line whose form may not follow them, and no text begins with them and it; or nothing follows, although they
-- are not all lines of a whole transcript, or an element is missing
abbrev pub IsBadNext : Bool → Option LogHeading → List (List ℕ) → List Entry → List (List ℕ) → Type 0
IsBadNext mixed heading front entries [] = ((mixed ≡ false) × (front ≢ all_lines heading entries)) ⊎ (length entries < elements_of heading)
IsBadNext mixed heading front entries (line ∷ rest) = (MayFollow mixed heading front entries line → ⊥) × NoneBegins mixed (front ++ line ∷ [])

-- if there is no first line, there is no heading
abbrev pub IsToldBy : List (List ℕ) → Option LogHeading → Type 0
IsToldBy [] heading = heading ≡ None
IsToldBy (line ∷ lines) heading = Unit {0}

-- line n of some lines is the first fault, and is missing or not of a form that may come there. Those before it are lines of sound entries, with
-- these updates
pub record IsBadAt (mixed : Bool) (heading : Option LogHeading) (lines : List (List ℕ)) (n : ℕ) (edits : List Edit) : Type 0 where
  pub entries : List Entry
  pub front : List (List ℕ)
  pub rest : List (List ℕ)
  pub all : lines ≡ front ++ rest
  pub number_is : n ≡ 1 + length front
  pub told : IsToldBy front heading
  pub begun : AreFrontLines heading entries front
  pub sound : AreSound mixed heading entries
  pub edits_are : edits ≡ edits_in entries
  pub bad : IsBadNext mixed heading front entries rest
