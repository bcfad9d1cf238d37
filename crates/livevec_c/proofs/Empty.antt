-- What a test of a slot says.
use Rattle.std.proofs.Common.{◌≡◌, false, refl}
use Rattle.std.specs.Prelude.{Option, Some, None, is_some}
use Rattle.std.proofs.lemmas.Bool.{true≢false}

-- an option that has no value is `None`
pub is_none-None : {A : Type 0} (o : Option A) → is_some o ≡ false → o ≡ None
is_none-None None e = refl
is_none-None (Some x) e = elim (true≢false e) [ ]
