-- What was found in the file of a log, and what a server may go on from.
use Rattle.std.proofs.Common.{◌≡◌, ℕ, Option, Some, Ok, List, subst}
use Rattle.lv_edits.specs.declared.edit.Edit.{Edit}
use Rattle.lv_transcript.specs.Logs.{IsLogOfEdits}
use Rattle.lv_transcript.proofs.ContinuedLogs.{found_goes_on}
use Rattle.lv_transcript.specs.declared.fronts.FoundFront.{FoundFront}
use Rattle.lv_transcript.specs.declared.fronts.FrontVerdict.{FrontVerdict}
use Rattle.lv_transcript.specs.declared.fronts.FrontVerdict.TheVariants as fronts
use Rattle.lv_transcript.specs.declared.log_heading.LogHeading.{LogHeading}
use Rattle.lv_transcript.specs.Audits.{FrontFound, IsRightFound, IsRightOfFront, ReadsInput}
use Rattle.lv_files.specs.Stores.{IsRightStore}

-- if a verdict is right, and says that a prefix was found after a log's first line, the edits are those of a log
right_journal : (there : Option LogHeading) (seen : List ℕ) (journal : List Edit) (verdict : FrontVerdict) → IsRightOfFront there seen journal verdict → (edits answers : ℕ) → verdict ≡ fronts.Front edits answers
    → (heading : LogHeading) → there ≡ Some heading → IsLogOfEdits heading journal
right_journal there seen journal verdict right edits answers is heading has =
    let found : FrontFound there seen journal edits answers = subst (λ (v : FrontVerdict). IsRightOfFront there seen journal v) is right in
    let front : FrontFound (Some heading) seen journal edits answers = subst (λ (o : Option LogHeading). FrontFound o seen journal edits answers) has found in
    found_goes_on heading seen front.entries journal front.front front.journal_is

-- what was found in the text of a file is right
pub right_store : (most : ℕ) (text : Option (List ℕ)) (found : FoundFront) → ((rest : Option (List ℕ)) × ReadsInput most IsRightFound text rest (Ok found)) → IsRightStore found
right_store most text found read front heading has =
    let right = read.1.ends.1.right in
    right_journal found.heading read.1.seen found.edits.journal found.verdict right front.0 front.1 front.2 heading has
