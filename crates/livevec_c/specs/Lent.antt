-- What a pointer ends as once the object that it owns is no longer lent.
use Rattle.std.specs.Prelude.{Some}
use Rattle.std.specs.Borrow.{Fml, Lends, MutBor}
use Rattle.livevec_c.specs.declared.objects.Object.{Object}
use Rattle.livevec_c.specs.declared.raw.Raw.{Raw}
use Rattle.livevec_c.specs.contracts.objects.Object as object
use Rattle.livevec_c.specs.contracts.raw.Raw as raw

-- a pointer that owns another object
abbrev pub with_inner : Raw → Object → Raw
with_inner r w = record r { inner = Some w }

-- the pointer ends with the last object that was written through the loan
abbrev pub LendsInner : MutBor Raw → MutBor Object → Fml
LendsInner r lent = Lends raw.the_row object.the_row r lent (with_inner r.now)
