-- A stream that gave or took nothing is as it was.
use Rattle.std.proofs.Common.{ℕ, ◌∙◌, List, Option, Some, None, refl}
use Rattle.std.specs.Io.KnownBytes.{Keeps}

-- what was kept twice was kept
pub keeps_both : (a b c : Option (List ℕ)) → Keeps a b → Keeps b c → Keeps a c
keeps_both None b c first second = tt
keeps_both (Some xs) None c first second = absurd first
keeps_both (Some xs) (Some ys) None first second = absurd second
keeps_both (Some xs) (Some ys) (Some zs) first second = second ∙ first

-- at first it is kept
pub keeps_itself : (a : Option (List ℕ)) → Keeps a a
keeps_itself None = tt
keeps_itself (Some xs) = refl
