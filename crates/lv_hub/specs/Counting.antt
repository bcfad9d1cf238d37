-- The parts of a per-thread handle of a hub (a share), and how a call changes it.
use Rattle.std.specs.Prelude.{◌≡◌, ◌⊎◌, ℕ, ◌+◌, Result, Ok, Err, List}
use mathlib.Core.List.{IsPrefix}
use Rattle.lv_edits.specs.declared.edit.Edit.{Edit}

-- How many of the hub's parts a share has, how many accepted updates it counts, and the prefix of the hub's updates that it has seen.
pub record ShareState : Type 0 where
  pub parts : ℕ
  pub count : ℕ
  pub seen : List Edit

-- The share, with one more update counted.
abbrev pub one_more : ShareState → ShareState
one_more h = record h { count = h.count + 1 }

-- A share counts one more update if and only if the update was accepted.
abbrev pub Counts : {A E : Type 0} → ShareState → Result A E → ShareState → Type 0
Counts old (Ok receipt) new = new ≡ one_more old
Counts old (Err refusal) new = new ≡ old

-- The share, having seen these updates.
abbrev pub having_seen : ShareState → List Edit → ShareState
having_seen h edits = record h { seen = edits }

-- Two shares are merged into one. It has the sum of their parts and of their counts, and has seen what both had seen.
pub record AreTogether (a b both : ShareState) : Type 0 where
  pub parts : both.parts ≡ a.parts + b.parts
  pub count : both.count ≡ a.count + b.count
  pub first : IsPrefix a.seen both.seen
  pub second : IsPrefix b.seen both.seen
  pub one : (both.seen ≡ a.seen) ⊎ (both.seen ≡ b.seen)
