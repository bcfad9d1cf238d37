-- How far a walk over elements has come, on the way to the place at which a test on their fold becomes true.
use Rattle.std.specs.Prelude.{◌≡◌, ℕ, ℤ, Bool, false, ◌<◌, ◌≤◌, List, slice_range}
use Rattle.lv_bodies.specs.Body.{Operations, fold_of}

-- a walk up from lo has come to an index: the sum is the fold so far, and does not pass unless nothing was folded
pub record HasWalkedUp {S : Type 0} (o : Operations S) (test : S → Bool) (xs : List ℤ) (lo at : ℕ) (sum : S) : Type 0 where
  pub order : lo ≤ at
  pub sum_is : sum ≡ fold_of o (slice_range xs lo at)
  pub before : lo < at → test sum ≡ false

-- a walk down from hi has come to an index: the sum is the fold so far, and does not pass unless nothing was folded
pub record HasWalkedDown {S : Type 0} (o : Operations S) (test : S → Bool) (xs : List ℤ) (at hi : ℕ) (sum : S) : Type 0 where
  pub order : at ≤ hi
  pub sum_is : sum ≡ fold_of o (slice_range xs at hi)
  pub after : at < hi → test sum ≡ false
