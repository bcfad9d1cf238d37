-- A schedule's player, seen as the machine in its place, and that machine at the end.
use Rattle.std.proofs.Common.{◌≡◌, ℕ, Option, None, Result, List, refl, sym, ◌∙◌}
use Rattle.lv_lines.specs.declared.fault.Fault.{Fault}
use Rattle.lv_lines.specs.declared.lines.Line.{Line}
use Rattle.lv_lines.specs.declared.lines.Line.TheVariants.{Nothing, Bad, Do}
use Rattle.lv_lines.specs.Grammar.{command_of}
use Rattle.lv_lines.specs.Replies.{LinesServed}
use Rattle.lv_lines.specs.Texts.{unasked_text}
use Rattle.lv_lines.proofs.LineLoopLaws.{lines_served_as}
use Rattle.lv_machine.specs.declared.events.Event.{Event}
use Rattle.lv_script.specs.Played.{Played, PlayedStep}
use Rattle.lv_script.specs.Schedule.{ScheduleStep, SumMachine, line_text, machine_after}

-- a player has this machine in this place
pub record Plays (place : ℕ) (s : Played) (m : SumMachine) : Type 0 where
  pub here : s.place ≡ place
  pub machine : s.machine ≡ m

-- a line of the player is one of the machine in its place
line_as : (place : ℕ) (s : Played) (m : SumMachine) (n : ℕ) (line text : List ℕ) (u : Played) → Plays place s m → PlayedStep s n line text u
    → (v : SumMachine) × Plays place u v × ScheduleStep m n line text v
line_as place s m n line text u fits step = (u.machine, record { here = step.place ∙ fits.here; machine = refl }, rw fits.machine at step.answered)

-- if the player's machine is still in the owner's place, the owner has the machine of the end
pub played_as : {R : Type 0} (name place : ℕ) (first last owned : SumMachine) (a b k l : Option (List ℕ)) (result : Result R Fault)
    → (name ≡ place → owned ≡ last)
    → LinesServed PlayedStep record { machine = first; place = name } record { machine = last; place = place } a b k l result
    → LinesServed ScheduleStep first owned a b k l result
played_as name place first last owned a b k l result is c =
    let came = lines_served_as (Plays name) (record { moves = line_as name }) _ first _ a b k l result (record { here = refl; machine = refl }) c in
    let same = is (sym came.1.here) in
    rw (same, came.1.machine) came.2

-- a line that is no event is answered so, and changes nothing
pub unasked_event : (m : SumMachine) (n : ℕ) (line : Line Event) → None ≡ command_of line → (unasked_text n line ≡ line_text m n line) × (m ≡ machine_after m line)
unasked_event m n Nothing none = (refl, refl)
unasked_event m n Bad none = (refl, refl)
unasked_event m n (Do e) none = absurd (cc)
