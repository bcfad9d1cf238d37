-- Jobs of many blocks: how many there are.
use Rattle.std.proofs.Common.{◌≡◌, ℕ, zero, suc, ◌+◌, ◌-◌, ◌<◌, ◌≤◌, ◌^◌, ◌/◌, Bool, true, false, List, [], ◌∷◌, length, arith, if◌then◌else◌}
use Rattle.std.specs.Prelude.{min}
use Rattle.std.proofs.Math.Nat.{min-le_left}
use Rattle.std.proofs.lemmas.List.{length-append}
use Rattle.lv_bodies.specs.declared.sixes.SixByTable.{SixByTable}
use Rattle.lv_edits.specs.History.{list_of}
use Rattle.lv_refresh.specs.Record.{Record}
use Rattle.lv_live.specs.declared.batches.BlockJob.{BlockJob}
use Rattle.lv_live.specs.Batches.{due_at, due_jobs, is_due, job_at_block}
use Rattle.lv_live.specs.State.{recorded}
use Rattle.livevec_c.specs.Behind.{State}
use Rattle.livevec_c.specs.Blocks.{jobs_in}

-- a block has one job at most
one_at_most : {A : Type 0} (b : Bool) (x : A) → length (if b then x ∷ [] else []) ≤ 1
one_at_most true x = omega (arith)
one_at_most false x = omega (arith)

-- so many blocks have no more jobs
jobs_are_few : {B : Type 0} (body : B) (r : Record) (first n : ℕ) → length (due_jobs body r first n) ≤ n
jobs_are_few body r first zero = omega (arith)
jobs_are_few body r first (suc n) =
    omega (arith, length-append (due_jobs body r first n) (due_at body r (first + n)), one_at_most (is_due r (first + n)) (job_at_block body r.edits (first + n)), jobs_are_few body r first n)

-- a batch has no more jobs than it was to have
pub copies_are_few : (first limit : ℕ) (state : State) (jobs : List (BlockJob SixByTable)) → limit < 2 ^ 32 → jobs ≡ jobs_in first limit state → length jobs < 2 ^ 32
copies_are_few first limit state jobs small is =
    let all = length (list_of state.history.journal) / 8 - first in
    rw is (omega (arith, small, jobs_are_few state.body (recorded state) first (min limit all), min-le_left limit all))
