-- The log that a server continues: what was found in its file, and how it is begun.
use Rattle.std.specs.Prelude.{◌≡◌, ℕ, ◌≤◌, ◌^◌, List, Some}
use Rattle.lv_edits.specs.declared.edit.Edit.{Edit}
use Rattle.lv_transcript.specs.declared.fronts.FoundFront.{FoundFront}
use Rattle.lv_transcript.specs.declared.fronts.FrontVerdict.{FrontVerdict}
use Rattle.lv_transcript.specs.declared.fronts.FrontVerdict.TheVariants as fronts
use Rattle.lv_transcript.specs.declared.log_heading.LogHeading.{LogHeading}
use Rattle.lv_transcript.specs.Logs.{IsLogOfEdits, base_of}

-- a verdict says that a prefix was found
abbrev pub IsFound : FrontVerdict → Type 0
IsFound verdict = (edits : ℕ) × (answers : ℕ) × (verdict ≡ fronts.Front edits answers)

-- the findings about a file are right: if it is a log, its updates are those of one
abbrev pub IsRightStore : FoundFront → Type 0
IsRightStore found = IsFound found.verdict → (heading : LogHeading) → found.heading ≡ Some heading → IsLogOfEdits heading found.edits.journal

-- a prefix was found, and the numbers of the updates after it fit
pub record IsFit (found : FoundFront) : Type 0 where
  pub front : IsFound found.verdict
  pub numbers : base_of found.heading ≤ 2 ^ 62

-- a server may go on from a log with this heading and these edits
pub record MayStart (heading : LogHeading) (edits : List Edit) : Type 0 where
  pub log : IsLogOfEdits heading edits
  pub numbers : heading.base ≤ 2 ^ 62
