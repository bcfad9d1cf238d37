-- A running session, compared with only its state.
use Rattle.std.proofs.Common.{◌≡◌, ℕ, Bool, List, refl, subst}
use Rattle.lv_geometry.specs.Bounds.{Bounds}
use Rattle.lv_transcript.specs.declared.log_heading.LogHeading.{LogHeading}
use Rattle.lv_lines.proofs.LineLoopLaws.{Moves}
use Rattle.lv_hub.specs.Replying.{TellsLine}
use Rattle.lv_hub.specs.Session.{HeldSession, SessionState}

-- a running session has this state
abbrev pub stands_for : HeldSession → SessionState → Type 0
stands_for held session = held.session ≡ session

module _ (limits : Bounds) (numbers : LogHeading) (listing : Bool) where
  -- a line of a running session is a line of its state
  pub as_session : Moves (λ (old : HeldSession) (n : ℕ) (line reply : List ℕ) (new : HeldSession). TellsLine limits numbers listing old.session n line reply new.session) (TellsLine limits numbers listing) stands_for
  as_session = record { moves = λ old session n line reply new fits tells. (new.session, refl, subst (λ (s : SessionState). TellsLine limits numbers listing s n line reply new.session) fits tells) }
