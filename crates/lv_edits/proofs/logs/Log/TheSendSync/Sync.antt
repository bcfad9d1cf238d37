-- A log owns nothing, so threads may share it.
use denote.RattleType.{RattleType}
use denote.Param.Send.{IsSync, owning_send, part_keyless, sendable}
use Rattle.lv_edits.specs.contracts.logs.Log.{the_row, the_type}

pub sync : (T : RattleType) → IsSync (the_row T)
sync T = record { shared = λ d b o κ q. part_keyless (the_row T) (owning_send (the_type T) (search sendable, tt) (λ d. tt) (λ k x w. tt)) q d b o }
