-- A reference model of `livevec serve`, of its replies and of the transcript that it writes. There is one list of updates: those that the server
-- began with, and those that the sessions made. Each line is answered after some prefix of that list. The transcript has the list, and answers
-- that are true of it.
use Rattle.std.specs.Prelude.{⊤, ◌≡◌, ℕ, ◌+◌, ◌^◌, ◌≤◌, Option, List, [], ◌∷◌, All, length, take, map}
use Rattle.std.specs.List.{sum_by}
use Rattle.std.specs.Io.KnownBytes.{Appends, Consumes, IsAtEnd}
use mathlib.Core.List.{IsPrefix}
use Rattle.lv_geometry.specs.Bounds.{Bounds}
use Rattle.lv_edits.specs.declared.edit.Edit.{Edit}
use Rattle.lv_edits.specs.Kept.{IsLegalInLimits}
use Rattle.lv_lines.specs.Input.{lines_of}
use Rattle.lv_lines.specs.Replies.{Answered}
use Rattle.lv_transcript.specs.declared.claimed.Claimed.{Claimed}
use Rattle.lv_transcript.specs.declared.log_heading.LogHeading.{LogHeading}
use Rattle.lv_transcript.specs.Transcript.{IsTrueAnswer, transcript_text}
use Rattle.lv_hub.specs.PlainSession.{PlainSessionStep, Seen}
use Rattle.lv_server.specs.Served.{Sides}

-- The server began with the updates `begun`, and has this numbering of updates.
module _ (limits : Bounds) (numbers : LogHeading) (begun : List Edit) where
  -- A session began having seen `begun` and made no update, and ran to the end of its lines. At most 2 ^ 30 bytes of them were read. Each line
  -- was answered in turn, from its first 121 bytes, and all replies were written. `seen` is what the session had seen and made at its end.
  pub record IsHeldPlainly (old new : Sides) (seen : Seen) : Type 0 where
    pub input : List ℕ
    pub read : Consumes old.lines new.lines input
    pub at_end : IsAtEnd new.lines
    pub few : length input ≤ 2 ^ 30
    pub text : List ℕ
    pub answered : Answered (PlainSessionStep limits numbers) record { edits = begun; made = 0 } 1 (map (take 121) (lines_of input)) text seen
    pub written : Appends old.replies new.replies text

  -- Each of several sessions ran to its end.
  abbrev pub AreHeldPlainly : List Sides → List Sides → List Seen → Type 0
  AreHeldPlainly [] [] [] = ⊤
  AreHeldPlainly (old ∷ olds) (new ∷ news) (seen ∷ sessions) = IsHeldPlainly old new seen × AreHeldPlainly olds news sessions
  AreHeldPlainly _ _ _ = ⊥

  -- Sessions were served. There is one legal list of updates. It begins with `begun`, and has as many more updates as the sessions made together.
  -- What each session has seen at its end is a prefix of it. The text that was written is the transcript of that list, with answers that are true
  -- of it.
  pub record ServedPlainly (old new : List Sides) (contents_old contents_new : Option (List ℕ)) : Type 0 where
    pub edits : List Edit
    pub legal : IsLegalInLimits record { limits = limits; journal = edits }
    pub sessions : List Seen
    pub held : AreHeldPlainly old new sessions
    pub starts : IsPrefix begun edits
    pub seen : All (λ seen. IsPrefix seen.edits edits) sessions
    pub made : length edits ≡ length begun + sum_by (λ seen. seen.made) sessions
    pub answers : List Claimed
    pub all_true : All (IsTrueAnswer edits) answers
    pub written : Appends contents_old contents_new (transcript_text edits answers)
