-- The state of a script: its vector with standing queries, and the tasks that were claimed.
use Rattle.std.specs.Prelude.{◌≡◌, ◌≤◌, ℕ, List, length}
use Rattle.lv_bodies.specs.Six.{SixSummary}
use Rattle.lv_bodies.specs.declared.sixes.Six.{Six}
use Rattle.lv_refresh.specs.Carried.{Carried}
use Rattle.lv_live.specs.State.{with_issued}
use Rattle.lv_standing.specs.Standings.{StandingState}
use Rattle.lv_script.specs.Script.{ScriptState, ScriptStep}

-- a vector with standing queries, the jobs that were claimed, in order, and at most how many of them there may be
pub record Scripted : Type 0 where
  pub standing : StandingState
  pub jobs : List (Carried Six SixSummary)
  pub most : ℕ

-- the state that such a script has come to
abbrev pub state_of : StandingState → List (Carried Six SixSummary) → ScriptState
state_of s jobs = record { limits = s.live.history.limits; seen = with_issued s.live jobs; queries = s.queries }

-- a script, and at most how many jobs it may claim
pub record Bounded : Type 0 where
  pub script : ScriptState
  pub most : ℕ

-- one line of it: the reply is that of any script, and no more tasks are claimed than may be
pub record BoundedStep (old : Bounded) (n : ℕ) (line text : List ℕ) (new : Bounded) : Type 0 where
  pub step : ScriptStep old.script n line text new.script
  pub most : new.most ≡ old.most
  pub few : length old.script.seen.issued ≤ old.most → length new.script.seen.issued ≤ new.most
