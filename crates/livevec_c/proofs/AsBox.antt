-- The pointer that C keeps, if it owns an object, and its parts own what a box of the object owns.
use Rattle.std.specs.Prelude.{◌≡◌, Option, IsSome, Some, None}
use Rattle.std.proofs.lemmas.Bool.{false≢true}
use Rattle.livevec_c.specs.declared.objects.Object.{Object as Held}
use mathlib.Core.Path.{refl}
use mir.Syntax.{impl, tnil, dnil}
use mathlib.Core.List.{[]}
use denote.Signature.{Slot, plain}
use Rattle.std_alloc.proofs.BoxSteps.Form.{Bx}
use Rattle.std_heap.specs.contracts.Global as Heap
use Rattle.std_heap.specs.contracts.GlobalAllocator.TheImpl.{ghosts, dict}
use Rattle.std_heap.proofs.Global.TheLaws as heap
use Rattle.livevec_c.specs.contracts.objects.Object as Object
use Rattle.livevec_c.proofs.objects.Object.TheLaws as object
use Rattle.livevec_c.specs.contracts.raw.parts.Parts as Parts
use Rattle.livevec_c.specs.contracts.raw.Raw as Raw

abbrev pub E : Bx
E = record { row = Object.the_row; laws = object.the_row_laws; al = record { row = Heap.the_row; laws = heap.the_row_laws; g = ghosts; d = dict; drops = impl [] tnil dnil } }

abbrev pub FromParts : Slot 0
FromParts = plain (λ _. Parts.the_row Object.the_row Heap.the_row ghosts)

abbrev pub FromRaw : Slot 0
FromRaw = plain (λ _. Raw.the_row)

-- the value of an option that has one
pub some_of : (o : Option Held) → IsSome o → (x : Held) × (o ≡ Some x)
some_of (Some x) p = (x, refl)
some_of None p = elim (false≢true p) [ ]
