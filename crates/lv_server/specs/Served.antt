-- What it means that sessions were served. Each was answered on its own streams, by one vector with one list of updates. The transcript has that
-- list, and what sessions were answered.
use Rattle.std.specs.Prelude.{⊤, ◌≡◌, ◌⊎◌, ℕ, ◌+◌, Bool, Option, Result, Ok, List, [], ◌∷◌, All, length}
use Rattle.std.specs.List.{flat_map, sum_by}
use Rattle.std.specs.List.Sorted.{IsPermutation}
use Rattle.std.specs.Io.KnownBytes.{Appends}
use mathlib.Core.List.{IsPrefix}
use Rattle.lv_edits.specs.declared.edit.Edit.{Edit}
use Rattle.lv_transcript.specs.declared.claimed.Claimed.{Claimed}
use Rattle.lv_transcript.specs.declared.log_heading.LogHeading.{LogHeading}
use Rattle.lv_lines.specs.declared.fault.Fault.{Fault}
use Rattle.lv_lines.specs.declared.fault.Fault.TheVariants.{WriteFault}
use Rattle.lv_geometry.specs.Bounds.{Bounds}
use Rattle.lv_edits.specs.Kept.{IsLegalInLimits}
use Rattle.lv_lines.specs.Output.{WritesFront}
use Rattle.lv_lines.specs.Replies.{LinesServed}
use Rattle.lv_transcript.specs.Transcript.{AreAccepted, AreInOrder, IsSoundTranscript, IsTrueAnswer, greatest, transcript_text}
use Rattle.lv_hub.specs.Session.{KeepTies, SessionState, SessionStep}
use Rattle.lv_hub.specs.Told.{history_of}

-- The state of a session's streams: the bytes of its lines that are still to be read, and the bytes of its replies that were written.
pub record Sides : Type 0 where
  pub lines : Option (List ℕ)
  pub replies : Option (List ℕ)

-- The result of a session that ran to the end of its lines.
abbrev pub ended_well : Result (Unit {0}) Fault
ended_well = Ok tt

-- A session that has counted no update, has seen those that the server began with, and was answered no reduction.
abbrev pub new_session : List Edit → SessionState
new_session begun = record { count = 0; seen = begun; answers = [] }

-- The updates that sessions count together, and the reductions that they were answered, session by session.
abbrev pub counted_by : List SessionState → ℕ
counted_by states = sum_by (λ state. state.count) states

abbrev pub answered_to : List SessionState → List Claimed
answered_to states = flat_map (λ state. state.answers) states

-- The server began with the updates `begun`.
module _ (limits : Bounds) (begun : List Edit) where
  -- A text is the transcript of sessions that reached these states. There is one list of updates. It begins with `begun`, and has as many more
  -- updates as the sessions count together. What each session has seen is a prefix of it. The answers are the reductions that the sessions were
  -- answered, in the order of their versions, and at one version in the order of the sessions.
  pub record Transcript (states : List SessionState) (text : List ℕ) : Type 0 where
    pub journal : List Edit
    pub answers : List Claimed
    pub text_is : text ≡ transcript_text journal answers
    pub within : IsLegalInLimits (history_of limits journal)
    pub accepted : AreAccepted greatest journal
    pub starts : IsPrefix begun journal
    pub seen : All (λ state. IsPrefix state.seen journal) states
    pub counted : length journal ≡ length begun + counted_by states
    pub listed : IsPermutation (answered_to states) answers
    pub ties : KeepTies (answered_to states) answers
    pub order : AreInOrder answers
    pub all_true : All (IsTrueAnswer journal) answers

  -- Sessions were not served. Either nothing was written, or a write failed, and what was written is at most a prefix of a transcript.
  abbrev pub FailsToServe : Option (List ℕ) → Option (List ℕ) → Fault → Type 0
  FailsToServe contents_old contents_new fault =
      (contents_new ≡ contents_old)
      ⊎ ((fault ≡ WriteFault) × (states : List SessionState) × (text : List ℕ) × Transcript states text × WritesFront contents_old [] contents_new text)

-- The server has this numbering of updates, and lists the reductions that sessions are answered, for the transcript, or not.
module _ (limits : Bounds) (numbers : LogHeading) (listing : Bool) (begun : List Edit) where
  -- A session ran to the end of its lines, and reached this state.
  abbrev pub IsHeld : Sides → Sides → SessionState → Type 0
  IsHeld old new state = LinesServed (SessionStep limits numbers listing) (new_session begun) state old.lines new.lines old.replies new.replies ended_well

  -- Each of several sessions ran to its end.
  abbrev pub AreHeld : List Sides → List Sides → List SessionState → Type 0
  AreHeld [] [] [] = ⊤
  AreHeld (old ∷ olds) (new ∷ news) (state ∷ states) = IsHeld old new state × AreHeld olds news states
  AreHeld _ _ _ = ⊥

  -- Sessions were served. Each ran to its end, and their transcript was written, which is valid.
  pub record Served (old new : List Sides) (contents_old contents_new : Option (List ℕ)) : Type 0 where
    pub states : List SessionState
    pub held : AreHeld old new states
    pub text : List ℕ
    pub transcript : Transcript limits begun states text
    pub sound : IsSoundTranscript text
    pub written : Appends contents_old contents_new text
