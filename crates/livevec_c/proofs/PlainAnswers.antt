-- The answers of a range are its plain values.
use Rattle.std.proofs.Common.{◌≡◌, ℕ, ◌≤◌, lit≤, sym, ap, ◌∙◌, subst, arith}
use Rattle.std.specs.Prelude.{Bool, true, false, Option, Some, None, Result, Ok, Err, IfOk}
use Rattle.lv_geometry.specs.Numbers.{number_of}
use Rattle.lv_geometry.specs.declared.refusals.Refusal.{Refusal}
use Rattle.lv_geometry.specs.declared.refusals.Refusal.TheVariants.{Worn, Empty, OutOfRange, TooLarge, Full, NoMemory, BadRange, BadLimits, BadTable, NameTaken, NoSuchName, TooMany, ReadFault, WriteFault, Stranger, TooWide, Contended, Overtaken, NoJob, NotNow}
use Rattle.lv_bodies.specs.Automata.{table_of}
use Rattle.lv_bodies.specs.Six.{SixSummary, six_operations_by}
use Rattle.lv_bodies.specs.declared.kinds.Kind.{Kind}
use Rattle.lv_edits.specs.Ranges.{slice_of}
use Rattle.lv_reduce.specs.declared.reductions.Answer.{Answer}
use Rattle.lv_reduce.specs.Answer.{IsAnswer}
use Rattle.livevec_c.specs.declared.objects.Object.{Object}
use Rattle.livevec_c.specs.declared.objects.Object.TheVariants.{Vector, Job, Outcome, Batch, BatchOutcome, Subtree, SubtreeOutcome, Board, Seat, Closed, Series, Samples, Loader, Queries}
use Rattle.livevec_c.specs.declared.results.Reduced.{Reduced}
use Rattle.livevec_c.specs.Answers.{reduced_by, spread, unreduced}
use Rattle.livevec_c.specs.Behind.{SixIn, SixOf, State}
use Rattle.livevec_c.specs.Plainly.{AreValues, IsPlainObject, IsPlainOf}
use Rattle.livevec_c.specs.SpreadLaws.{spread-plain}

-- no refusal has the number 0
positive : (r : Refusal) → 1 ≤ number_of r
positive Worn = lit≤ tt
positive Empty = lit≤ tt
positive (OutOfRange size) = lit≤ tt
positive (TooLarge limit) = lit≤ tt
positive Full = lit≤ tt
positive NoMemory = lit≤ tt
positive BadRange = lit≤ tt
positive BadLimits = lit≤ tt
positive BadTable = lit≤ tt
positive NameTaken = lit≤ tt
positive NoSuchName = lit≤ tt
positive TooMany = lit≤ tt
positive ReadFault = lit≤ tt
positive WriteFault = lit≤ tt
positive Stranger = lit≤ tt
positive TooWide = lit≤ tt
positive (Contended edit) = lit≤ tt
positive (Overtaken edit) = lit≤ tt
positive NoJob = lit≤ tt
positive NotNow = lit≤ tt

refused : (r : Refusal) → number_of r ≡ 0 → ⊥
refused r zero = omega (arith, positive r, zero)

-- an answer that is the fold of its range
pub plain_ok : (state : State) (lo hi : ℕ) (r : Result (Answer SixSummary) Refusal) (answer : Reduced) → answer ≡ reduced_by r → IfOk r (λ a. IsAnswer (six_operations_by (table_of state.body.automaton)) state.history.journal lo hi a) → IsPlainOf lo hi answer state
plain_ok state lo hi (Ok a) answer is fine zero =
    let xs = slice_of state.history.journal lo hi in
    let m = table_of state.body.automaton in
    subst (λ q. AreValues (m) xs q.values) (sym is) (subst (λ s. AreValues (m) xs (spread s)) (sym fine.value) (spread-plain m xs))
plain_ok state lo hi (Err refusal) answer is fine zero = elim (refused refusal (sym (ap (λ q. q.refusal) is) ∙ zero)) [ ]

-- a vector of one kind has no such answer
refused_kind : (state : State) (lo hi : ℕ) (answer : Reduced) → answer ≡ unreduced 113 0 → IsPlainOf lo hi answer state
refused_kind state lo hi answer is zero = elim (apart answer.refusal (ap (λ q. q.refusal) is) zero) [ ] where
  apart : (n : ℕ) → n ≡ 113 → n ≡ 0 → ⊥
  apart n is zero = omega (arith, is, zero)

-- the answers of a vector, by its trees or by its summaries
six_of_plain : (only : Option Kind) (trees : Bool) (lo hi : ℕ) (answer : Reduced) (state : State) → SixOf only trees lo hi answer state → IsPlainOf lo hi answer state
six_of_plain (Some only) trees lo hi answer state is = refused_kind state lo hi answer is
six_of_plain None true lo hi answer state asks = plain_ok state lo hi asks.r answer asks.answer_is asks.ok
six_of_plain None false lo hi answer state (Ok a, is, within, fine) = plain_ok state lo hi (Ok a) answer is fine.0
six_of_plain None false lo hi answer state (Err refusal, is, within, why) = plain_ok state lo hi (Err refusal) answer is tt

pub six_plain : (trees : Bool) (lo hi : ℕ) (answer : Reduced) (object : Object) → SixIn trees lo hi answer object → IsPlainObject lo hi answer object
six_plain trees lo hi answer (Vector state only) is = six_of_plain only trees lo hi answer state is
six_plain trees lo hi answer (Job other) is = tt
six_plain trees lo hi answer (Outcome other) is = tt
six_plain trees lo hi answer (Batch jobs) is = tt
six_plain trees lo hi answer (BatchOutcome jobs) is = tt
six_plain trees lo hi answer (Subtree job) is = tt
six_plain trees lo hi answer (SubtreeOutcome outcome) is = tt
six_plain trees lo hi answer (Board other) is = tt
six_plain trees lo hi answer (Seat other) is = tt
six_plain trees lo hi answer (Closed other) is = tt
six_plain trees lo hi answer (Series other) is = tt
six_plain trees lo hi answer (Samples samples) is = tt
six_plain trees lo hi answer (Loader bytes) is = tt
six_plain trees lo hi answer (Queries set) is = tt
