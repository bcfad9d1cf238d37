-- What audits of a text in the caller's memory answer.
use Rattle.std.specs.Prelude.{◌≡◌, ℕ, Bool, true, false, Result, Ok, Err, List}
use Rattle.lv_transcript.specs.ReadTexts.{AuditsFront, AuditsText}
use Rattle.lv_transcript.specs.declared.text_audits.Unread.{Unread}
use Rattle.lv_transcript.specs.declared.text_audits.Unread.TheVariants.{NoMemory, TooLong}
use Rattle.lv_transcript.specs.declared.auditor.Verdict.{Verdict}
use Rattle.lv_transcript.specs.declared.auditor.Verdict.TheVariants as verdicts
use Rattle.lv_transcript.specs.declared.fronts.FrontVerdict.{FrontVerdict}
use Rattle.lv_transcript.specs.declared.fronts.FrontVerdict.TheVariants as fronts
use Rattle.livevec_c.specs.declared.transcript_audits.Audited.{Audited}

-- the answer if there is no verdict
abbrev pub unaudited : ℕ → Audited
unaudited refusal = record { refusal = refusal; detail = 0; verdict = 0; line = 0; edits = 0; answers = 0 }

-- the answer that has a verdict, 1 yes, 2 no and 3 bad, and the line of a fault
abbrev pub verdict_at : ℕ → ℕ → Audited
verdict_at verdict line = record { refusal = 0; detail = 0; verdict = verdict; line = line; edits = 0; answers = 0 }

-- a verdict on a transcript
abbrev pub verdict_for : Verdict → Audited
verdict_for verdicts.Yes = verdict_at 1 0
verdict_for (verdicts.No line) = verdict_at 2 line
verdict_for (verdicts.Bad line) = verdict_at 3 line

-- a verdict on a prefix of a transcript, with how many edits and answers it has
abbrev pub fronted_by : FrontVerdict → Audited
fronted_by (fronts.Front edits answers) = record { refusal = 0; detail = 0; verdict = 1; line = 0; edits = edits; answers = answers }
fronted_by (fronts.No line) = verdict_at 2 line
fronted_by (fronts.Bad line) = verdict_at 3 line

-- the answer that refuses a text which is no prefix of a transcript, with the verdict on it
abbrev pub no_front : FrontVerdict → Audited
no_front verdict = record (fronted_by verdict) { refusal = 116 }

-- the number for why bytes got no verdict
abbrev pub unread_number : Unread → ℕ
unread_number NoMemory = 6
unread_number TooLong = 112

-- what an audit answers
abbrev pub audited_by : Result Verdict Unread → Audited
audited_by (Ok verdict) = verdict_for verdict
audited_by (Err why) = unaudited (unread_number why)

abbrev pub front_by : Result FrontVerdict Unread → Audited
front_by (Ok verdict) = fronted_by verdict
front_by (Err why) = unaudited (unread_number why)

-- the verdict on bytes is the library's, which is right
abbrev pub AuditsFor : List ℕ → Audited → Type 0
AuditsFor text answer = (r : Result Verdict Unread) × AuditsText text r × (answer ≡ audited_by r)

abbrev pub AuditsFrontFor : List ℕ → Audited → Type 0
AuditsFrontFor text answer = (r : Result FrontVerdict Unread) × AuditsFront text r × (answer ≡ front_by r)

-- an audit of a text as a prefix, or as a whole transcript
abbrev pub Audits : Bool → List ℕ → Audited → Type 0
Audits true text answer = AuditsFrontFor text answer
Audits false text answer = AuditsFor text answer
