-- A schedule while it is played, with its machine in a place: words for private functions.
use Rattle.std.specs.Prelude.{◌≡◌, ℕ, List}
use Rattle.lv_script.specs.Schedule.{ScheduleStep, SumMachine}

-- a machine, and the name of the reference to its place
pub record Played : Type 0 where
  pub machine : SumMachine
  pub place : ℕ

-- one line of a schedule, after which the machine is in its place
pub record PlayedStep (old : Played) (n : ℕ) (line text : List ℕ) (new : Played) : Type 0 where
  pub place : new.place ≡ old.place
  pub answered : ScheduleStep old.machine n line text new.machine
