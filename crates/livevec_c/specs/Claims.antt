-- Answers as a caller recorded them, read as claims of a transcript.
use Rattle.std.specs.Prelude.{◌≡◌, ◌⊎◌, ◌+ℤ◌, ◌*ℤ◌, ◌^◌, ℕ, ℤ, pos, Bool, Option, Some, None, Result, Ok, Err, List, Vec, map, Any, if◌then◌else◌}
use Rattle.lv_bodies.specs.declared.kinds.Kind.{Kind}
use Rattle.lv_bodies.specs.declared.kinds.Kind.TheVariants as kind
use Rattle.lv_bodies.specs.declared.kinds.Shown.{Shown}
use Rattle.lv_bodies.specs.declared.kinds.Shown.TheVariants as shown
use Rattle.lv_transcript.specs.declared.claimed.Claimed.{Claimed}
use Rattle.lv_transcript.specs.Transcript.{AreInOrder}
use Rattle.livevec_c.specs.declared.claims.GivenValues.{GivenValues}
use Rattle.livevec_c.specs.declared.claims.Recorded.{Recorded}
use Rattle.livevec_c.specs.Kinds.{kind_at}

-- the number of 128 bits whose low 64 bits and whose others these are
abbrev pub whole_of : ℕ → ℤ → ℤ
whole_of low high = high *ℤ pos (2 ^ 64) +ℤ pos low

-- a value, if there is an element
abbrev pub where_any : {A : Type 0} → Bool → A → Option A
where_any any x = if any then Some x else None

-- the value of a kind among the plain values that C gives
abbrev pub shown_in : Kind → GivenValues → Shown
shown_in kind.Sum values = shown.Sum values.sum
shown_in kind.Least values = shown.Least (where_any values.any values.least)
shown_in kind.Greatest values = shown.Greatest (where_any values.any values.greatest)
shown_in kind.Best values = shown.Best (where_any values.any (whole_of values.best_low values.best_high))
shown_in kind.Affine values = shown.Affine values.affine_a values.affine_b
shown_in kind.Automaton values = shown.Automaton values.automaton

-- a recorded answer as a claim by a kind, if its number names one
abbrev pub claimed_by : Option Kind → Recorded → Option Claimed
claimed_by None answer = None
claimed_by (Some kind) answer = Some record { edit = answer.edit; kind = kind; lo = answer.lo; hi = answer.hi; value = shown_in kind answer.values }

abbrev pub claimed_of : Recorded → Option Claimed
claimed_of answer = claimed_by (kind_at answer.kind) answer

-- claims are those of recorded answers, one of each
abbrev pub AreClaimsOf : List Recorded → List Claimed → Type 0
AreClaimsOf answers claims = map claimed_of answers ≡ map Some claims

-- the kind of some answer is none
abbrev pub HasBadKind : List Recorded → Type 0
HasBadKind answers = Any (λ answer. claimed_of answer ≡ None) answers

-- what a list that was made has, or why it was not made
abbrev pub made_list : {Z : Type 0} → Result (Vec Claimed Z) ℕ → Result (List Claimed) ℕ
made_list (Ok claims) = Ok claims.items
made_list (Err number) = Err number

-- recorded answers as claims, or the number for why there are none: out of memory, or a number that names no kind
abbrev pub ClaimsAre : List Recorded → Result (List Claimed) ℕ → Type 0
ClaimsAre answers (Ok claims) = AreClaimsOf answers claims
ClaimsAre answers (Err number) = (number ≡ 6) ⊎ ((number ≡ 113) × HasBadKind answers)

-- recorded answers as claims that are in the order of their edits, or the number for why not: as above, or because they are in another order
abbrev pub ClaimsInOrder : List Recorded → Result (List Claimed) ℕ → Type 0
ClaimsInOrder answers (Ok claims) = AreClaimsOf answers claims × AreInOrder claims
ClaimsInOrder answers (Err number) =
    ((number ≡ 6) ⊎ ((number ≡ 113) × HasBadKind answers))
    ⊎ ((number ≡ 115) × ((claims : List Claimed) × AreClaimsOf answers claims × ¬ AreInOrder claims))
