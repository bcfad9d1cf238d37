-- A vector that refreshes itself in turns: each claims the next job and delivers its outcome at once.
use Rattle.std.specs.Prelude.{◌≡◌, ℕ, zero, suc, ◌+◌, Some, List, [], ◌∷◌, length, map}
use Rattle.lv_geometry.specs.declared.nodes.Node.{Node}
use Rattle.lv_bodies.specs.Body.{Operations}
use Rattle.lv_summary.specs.declared.accepted.Accepted.TheVariants.{Installed}
use Rattle.lv_refresh.specs.Carried.{Carried}
use Rattle.lv_refresh.specs.Claim.{IsNextJob}
use Rattle.lv_live.specs.declared.events.Event.{Event}
use Rattle.lv_live.specs.declared.events.Event.TheVariants as event
use Rattle.lv_live.specs.declared.replies.ReplyOf.{ReplyOf}
use Rattle.lv_live.specs.declared.replies.ReplyOf.TheVariants as reply
use Rattle.lv_live.specs.State.{HasClaim, HasDelivery, LiveState, node_and_version, recorded, with_issued}
use Rattle.lv_live.specs.Step.{Run}

-- the events of n turns, whose jobs have the numbers from k on
abbrev pub turns : ℕ → ℕ → List Event
turns k zero = []
turns k (suc n) = event.Claim ∷ event.Deliver k ∷ turns (k + 1) n

-- the replies to turns with these jobs: each outcome is installed
abbrev pub turn_replies : {S : Type 0} → ℕ → List (Node × ℕ) → List (ReplyOf S)
turn_replies k [] = []
turn_replies k (job ∷ jobs) = reply.Claimed k job.0 job.1 ∷ reply.Gave Installed ∷ turn_replies (k + 1) jobs

-- a vector took one turn: the next job was claimed, and its outcome delivered and installed
pub record TakesTurn {B S : Type 0} (old new : LiveState B S) : Type 0 where
  pub job : Node × ℕ
  pub mid : LiveState B S
  pub next : IsNextJob (recorded old) (Some job)
  pub claims : HasClaim old mid (Some job)
  pub delivers : HasDelivery mid new job.0 job.1 Installed

-- a vector took n turns: it has the body and the history that it had, and the run of the turns' events leads from its record to its present
-- record, with the jobs issued
pub record TakesTurns {B S : Type 0} (o : Operations S) (old new : LiveState B S) (n : ℕ) : Type 0 where
  pub body : new.body ≡ old.body
  pub history : new.history ≡ old.history
  pub jobs : List (Carried B S)
  pub many : length jobs ≡ n
  pub run : Run o old.history.limits (recorded old) (turns 1 n) (turn_replies 1 (map node_and_version jobs)) (with_issued new jobs)
