-- The state under a hub's lock, how a worker counts the results of its outcomes, and when a sleeping worker is woken.
use Rattle.std.specs.Prelude.{◌+◌, ◌-◌, ◌%◌, ℕ, Bool, true, false, Result, Ok, Err, List, nat_eq, if◌then◌else◌}
use Rattle.lv_geometry.specs.declared.refusals.Refusal.{Refusal}
use Rattle.lv_summary.specs.declared.accepted.Accepted.{Accepted}
use Rattle.lv_summary.specs.declared.accepted.Accepted.TheVariants.{Held, Installed, Stale}
use Rattle.lv_edits.specs.declared.edit.Edit.{Edit}
use Rattle.lv_edits.specs.declared.receipt.Receipt.{Receipt}
use Rattle.lv_edits.specs.declared.receipt.Receipt.TheVariants.{Pushed, Popped, Written, Reserved, Swapped, Truncated}
use Rattle.lv_live.specs.State.{LiveState}
use Rattle.lv_hub.specs.declared.worked.Worked.{Worked}

-- What a worker has counted, with one more outcome.
abbrev pub noted : Worked → Result Accepted Refusal → Worked
noted w (Ok Installed) = record w { installed = w.installed + 1 }
noted w (Ok Held) = record w { held = w.held + 1 }
noted w (Ok (Stale now)) = record w { stale = w.stale + 1 }
noted w (Err refusal) = record w { strangers = w.strangers + 1 }

-- Whether an update may have made a node need a job. It overwrote an element, or swapped two, or pushed the last one of a block.
abbrev pub makes_work : Result Receipt Refusal → Bool
makes_work (Ok (Pushed edit index)) = nat_eq (index % 8) 7
makes_work (Ok (Popped edit value)) = false
makes_work (Ok (Written edit before)) = true
makes_work (Ok (Reserved edit capacity)) = false
makes_work (Ok (Swapped edit first second)) = true
makes_work (Ok (Truncated edit dropped)) = false
makes_work (Err refusal) = false

-- How many workers count as asleep after one was woken, or none.
abbrev pub left_asleep : ℕ → Bool → ℕ
left_asleep asleep wakes = if wakes then asleep - 1 else asleep

-- The state under a hub's lock: its updates, its vector, a lower bound of the number of workers that sleep and were not woken, whether the
-- workers were dismissed, and whether a subscriber may sleep that was not woken.
pub record DeskState (B S : Type 0) : Type 0 where
  pub edits : List Edit
  pub live : LiveState B S
  pub asleep : ℕ
  pub dismissed : Bool
  pub listened : Bool
