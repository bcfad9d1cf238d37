-- Jobs of the blocks of a range, and what becomes of their outcomes.
use Rattle.std.specs.Prelude.{◌≡◌, ◌⊎◌, ℕ, zero, suc, ◌+◌, Bool, ◌&&◌, not, List, [], ◌∷◌, ◌++◌, if◌then◌else◌}
use Rattle.lv_bodies.specs.Body.{Operations}
use Rattle.lv_edits.specs.declared.edit.Edit.{Edit}
use Rattle.lv_edits.specs.Touch.{elements_under, is_whole, touched_by}
use Rattle.lv_summary.specs.declared.accepted.Accepted.{Accepted}
use Rattle.lv_summary.specs.declared.accepted.Accepted.TheVariants.{Held, Installed, Stale}
use Rattle.lv_refresh.specs.declared.contents.Contents.TheVariants.{Elements}
use Rattle.lv_refresh.specs.Delivery.{delivery_of}
use Rattle.lv_refresh.specs.Honesty.{Vouched}
use Rattle.lv_refresh.specs.Inner.{node_at}
use Rattle.lv_refresh.specs.Record.{Record, is_fresh}
use Rattle.lv_live.specs.declared.batches.Batched.{Batched}
use Rattle.lv_live.specs.declared.batches.BlockJob.{BlockJob}
use Rattle.lv_live.specs.State.{HasDelivery, LiveState, recorded}

-- whether a block is due: it is whole and not fresh
abbrev pub is_due : Record → ℕ → Bool
is_due r number = is_whole r.edits (node_at 1 number) && not (is_fresh r (node_at 1 number))

-- the job of a block: its number, the edit that touched it last, its elements, and the body to fold them by
abbrev pub job_at_block : {B : Type 0} → B → List Edit → ℕ → BlockJob B
job_at_block body edits number =
    record { number = number; version = touched_by edits (node_at 1 number); elements = elements_under edits (node_at 1 number); body = body }

-- the job of a block as a list, which is empty if the block isn't due
abbrev pub due_at : {B : Type 0} → B → Record → ℕ → List (BlockJob B)
due_at body r number = if is_due r number then job_at_block body r.edits number ∷ [] else []

-- the jobs of the blocks that are due, of so many from one on, in order
abbrev pub due_jobs : {B : Type 0} → B → Record → ℕ → ℕ → List (BlockJob B)
due_jobs body r first zero = []
due_jobs body r first (suc n) = due_jobs body r first n ++ due_at body r (first + n)

-- no outcome yet
abbrev pub none_told : Batched
none_told = record { installed = 0; held = 0; stale = 0; strangers = 0 }

-- how many outcomes were counted
abbrev pub all_told : Batched → ℕ
all_told told = told.installed + told.held + told.stale + told.strangers

-- the counts with one outcome more, by what became of it
abbrev pub told_with : Batched → Accepted → Batched
told_with told Installed = record told { installed = told.installed + 1 }
told_with told Held = record told { held = told.held + 1 }
told_with told (Stale now) = record told { stale = told.stale + 1 }

-- an outcome that is vouched for was taken in as a single one is, and counted by what became of it; any other is counted as a stranger, and
-- changes nothing
abbrev pub DeliversOne : {B S : Type 0} → Operations S → (B → Type 0) → BlockJob B → LiveState B S → LiveState B S → Batched → Batched → Type 0
DeliversOne o same job old new before after =
    (Vouched o (recorded old) (same job.body) (node_at 1 job.number) job.version (Elements job.elements)
    × HasDelivery old new (node_at 1 job.number) job.version (delivery_of (recorded old) (node_at 1 job.number) job.version)
    × (after ≡ told_with before (delivery_of (recorded old) (node_at 1 job.number) job.version)))
    ⊎ ((¬ Vouched o (recorded old) (same job.body) (node_at 1 job.number) job.version (Elements job.elements))
    × (new ≡ old)
    × (after ≡ record before { strangers = before.strangers + 1 }))

-- each of some outcomes was taken in or is a stranger, in order, with the counts continued from some others
abbrev pub DeliversFrom : {B S : Type 0} → Operations S → (B → Type 0) → List (BlockJob B) → LiveState B S → LiveState B S → Batched → Batched → Type 0
DeliversFrom o same [] old new before after = (new ≡ old) × (after ≡ before)
DeliversFrom {B} {S} o same (job ∷ jobs) old new before after =
    (mid : LiveState B S) × (between : Batched) × DeliversOne o same job old mid before between × DeliversFrom o same jobs mid new between after

-- each of all outcomes was taken in or is a stranger, in order, with the counts from 0 on
abbrev pub DeliversEach : {B S : Type 0} → Operations S → (B → Type 0) → List (BlockJob B) → LiveState B S → LiveState B S → Batched → Type 0
DeliversEach o same jobs old new told = DeliversFrom o same jobs old new none_told told
