-- What the pointer that C keeps owns: what a box of the object would, or nothing.
use Rattle.std.specs.Prelude.{Option, Some, None}
use Rattle.std.specs.Coded.{Coded, coded_option}
use base.Fml.{Fml, ftrue}
use denote.RawPtr.{Ptr}
use Rattle.std.specs.Box.Ownership.{box_owns}
use Rattle.std.specs.Global.{Global}
use Rattle.std_heap.specs.contracts.GlobalAllocator.TheImpl.{ghosts}
use Rattle.livevec_c.specs.contracts.objects.Object.{the_row}

abbrev pub raw_owns : Global → Ptr → Option the_row.Denot → Fml
raw_owns alloc p None = ftrue
raw_owns alloc p (Some object) = box_owns (ghosts.dealloc_token alloc) the_row p object

abbrev pub inner_coded : Coded (Option the_row.Denot)
inner_coded = coded_option the_row.coded
