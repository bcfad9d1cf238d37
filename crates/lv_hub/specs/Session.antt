-- How each line of a session is answered, and which state it leaves: the reply of the reference model, and the list of answered reductions.
use Rattle.std.specs.Prelude.{◌≡◌, ◌⊎◌, ℕ, Bool, true, false, List, ◌∷◌, [], ◌++◌, filter, length, nat_eq}
use Rattle.lv_geometry.specs.Bounds.{Bounds}
use Rattle.lv_geometry.specs.declared.refusals.Refusal.{Refusal}
use Rattle.lv_bodies.specs.declared.kinds.Kind.{Kind}
use Rattle.lv_bodies.specs.Plain.{plain_value}
use Rattle.lv_edits.specs.declared.edit.Edit.{Edit}
use Rattle.lv_edits.specs.Ranges.{slice_of}
use Rattle.lv_lines.specs.declared.command.Command.TheVariants.{Reduce}
use Rattle.lv_lines.specs.declared.command.Command.{Command}
use Rattle.lv_lines.specs.declared.lines.Line.{Line}
use Rattle.lv_lines.specs.declared.lines.Line.TheVariants.{Do}
use Rattle.lv_lines.specs.Texts.{answer_text, refused_text}
use Rattle.lv_transcript.specs.declared.claimed.Claimed.{Claimed}
use Rattle.lv_transcript.specs.declared.log_heading.LogHeading.{LogHeading}
use Rattle.lv_hub.specs.declared.kept_answers.KeptAnswers.{KeptAnswers}
use Rattle.lv_hub.specs.declared.kept_answers.KeptAnswers.TheVariants.{Listed}
use Rattle.lv_hub.specs.Counting.{ShareState}
use Rattle.lv_history.specs.Numbering.{told_number}
use Rattle.lv_hub.specs.PlainSession.{PlainSessionStep, Seen, session_line_of}
use Rattle.lv_hub.specs.Renewing.{IsRun}

-- How many updates the session's share counts, the prefix of the hub's updates that it has seen, and the reductions that it was answered, in
-- order.
pub record SessionState : Type 0 where
  pub count : ℕ
  pub seen : List Edit
  pub answers : List Claimed

-- The state of a session with this share and these answered reductions.
abbrev pub session_at : ShareState → List Claimed → SessionState
session_at share answers = record { count = share.count; seen = share.seen; answers = answers }

-- A running session: its state, and the number of log entries that must have been written before its replies may be sent.
pub record HeldSession : Type 0 where
  pub session : SessionState
  pub entry : ℕ

-- The part of the state that the reference model keeps.
abbrev pub kept_by : SessionState → Seen
kept_by s = record { edits = s.seen; made = s.count }

-- Reductions at the same version are in the same order in both lists.
abbrev pub KeepTies : List Claimed → List Claimed → Type 0
KeepTies old new = (edit : ℕ) → filter (λ reduction. nat_eq reduction.edit edit) new ≡ filter (λ reduction. nat_eq reduction.edit edit) old

-- Whether a session lists the reductions that it is answered, and then at most how many.
abbrev pub are_listed : KeptAnswers → Bool
are_listed (Listed most) = true
are_listed _ = false

abbrev pub most_listed : KeptAnswers → ℕ
most_listed (Listed most) = most
most_listed _ = 0

-- The list after an answered reduction: the reduction is appended if reductions are listed.
abbrev pub listed_if : Bool → List Claimed → Claimed → List Claimed
listed_if true answers claim = answers ++ claim ∷ []
listed_if false answers claim = answers

-- A reduction after these updates, as it is listed. Its version is the hub's own number.
abbrev pub claim_at : List Edit → Kind → ℕ → ℕ → Claimed
claim_at edits kind lo hi = record { edit = length edits; kind = kind; lo = lo; hi = hi; value = plain_value kind (slice_of edits lo hi) }

module _ (numbers : LogHeading) (listing : Bool) where
  -- A reduction after these updates was either answered by its value, and appended if reductions are listed, or it was refused. No other line
  -- changes the list.
  abbrev pub Lists : List Edit → Line Command → List ℕ → List Claimed → List Claimed → Type 0
  Lists edits (Do (Reduce kind lo hi)) text old new =
      ((text ≡ answer_text (told_number numbers (length edits)) kind (plain_value kind (slice_of edits lo hi))) × (new ≡ listed_if listing old (claim_at edits kind lo hi)))
      ⊎ ((refusal : Refusal) × (text ≡ refused_text refusal) × (new ≡ old))
  Lists edits _ text old new = new ≡ old

module _ (limits : Bounds) where
  -- A command was answered after updates that are legal within the limits. Any other line changed nothing.
  abbrev pub IsWithin : SessionState → List Edit → Line Command → SessionState → Type 0
  IsWithin old before (Do c) new = IsRun limits before
  IsWithin old before _ new = new ≡ old

module _ (limits : Bounds) (numbers : LogHeading) (listing : Bool) where
  -- One line of a session, given by its bytes and its number: its reply is that of the reference model, and it leaves this state.
  pub record SessionStep (old : SessionState) (n : ℕ) (line text : List ℕ) (new : SessionState) : Type 0 where
    pub plain : PlainSessionStep limits numbers (kept_by old) n line text (kept_by new)
    pub within : IsWithin limits old plain.before (session_line_of line) new
    pub lists : Lists numbers listing plain.before (session_line_of line) text old.answers new.answers
