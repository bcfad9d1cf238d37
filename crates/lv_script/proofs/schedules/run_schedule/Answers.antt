-- Proof of `run_schedule`: answers a schedule on a machine: reads its lines, does the event that each says, and writes what it comes to.
use Rattle.std.proofs.Common.{rules}
use Rattle.lv_script.proofs.Playing.{played_as}
use Rattle.lv_script.proofs.schedules.run_schedule.Goals as goal

pub returns : goal.returns
returns g c = played_as _ _ _ c.serve_lines.new.handler.machine.now _ _ _ _ _ c.serve_lines.result (search rules) c.serve_lines.ensures.served
