-- The values that C sees, without any summary.
use Rattle.std.specs.Prelude.{◌≡◌, ℕ, ℤ, pos, Bool, true, false, Option, Some, None, List, is_some, unwrap_or}
use Rattle.lv_bodies.specs.Plain.{plain_affine, plain_automaton, plain_best, plain_greatest, plain_least, plain_sum}
use Rattle.lv_bodies.specs.Automata.{table_of}
use Rattle.lv_edits.specs.Ranges.{slice_of}
use Rattle.livevec_c.specs.declared.objects.Object.{Object}
use Rattle.livevec_c.specs.declared.objects.Object.TheVariants.{Vector}
use Rattle.livevec_c.specs.declared.values.PlainValues.{PlainValues}
use Rattle.livevec_c.specs.declared.results.Reduced.{Reduced}
use Rattle.livevec_c.specs.Answers.{high_half, low_half, word_of}
use Rattle.livevec_c.specs.Behind.{State}

-- the plain values of a list; those that an empty list doesn't have are 0
pub record AreValues (table : List (List ℕ)) (xs : List ℤ) (values : PlainValues) : Type 0 where
  pub sum : values.sum ≡ plain_sum xs
  pub any : values.any ≡ word_of (is_some (plain_least xs))
  pub least : values.least ≡ unwrap_or (plain_least xs) (pos 0)
  pub greatest : values.greatest ≡ unwrap_or (plain_greatest xs) (pos 0)
  pub best_low : values.best_low ≡ low_half (unwrap_or (plain_best xs) (pos 0))
  pub best_high : values.best_high ≡ high_half (unwrap_or (plain_best xs) (pos 0))
  pub affine_a : values.affine_a ≡ (plain_affine xs).0
  pub affine_b : values.affine_b ≡ (plain_affine xs).1
  pub automaton : values.automaton ≡ plain_automaton table xs

-- a reduction of a vector that was answered has the plain values of the elements of its range, by the vector's own table
abbrev pub IsPlainOf : ℕ → ℕ → Reduced → State → Type 0
IsPlainOf lo hi answer state =
    answer.refusal ≡ 0 → AreValues (table_of state.body.automaton) (slice_of state.history.journal lo hi) answer.values

abbrev pub IsPlainObject : ℕ → ℕ → Reduced → Object → Type 0
IsPlainObject lo hi answer (Vector state only) = IsPlainOf lo hi answer state
IsPlainObject lo hi answer other = Unit {0}

abbrev pub IsPlain : ℕ → ℕ → Reduced → Option Object → Type 0
IsPlain lo hi answer None = Unit {0}
IsPlain lo hi answer (Some object) = IsPlainObject lo hi answer object

-- a reduction is plain, if it is by all six
abbrev pub IsPlainBy : Bool → ℕ → ℕ → Reduced → Option Object → Type 0
IsPlainBy true lo hi answer slot = IsPlain lo hi answer slot
IsPlainBy false lo hi answer slot = Unit {0}
