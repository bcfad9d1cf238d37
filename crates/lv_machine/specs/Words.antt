-- The words of the lock-free form: which bits of a word have which field.
use Rattle.std.specs.Prelude.{ℕ, ℤ, ◌+◌, ◌-◌, ◌*◌, ◌/◌, ◌%◌, ◌<◌, nat_eq, nat_lt, if◌then◌else◌}
use Rattle.std.specs.Int.{w16, cast_signed, cast_unsigned}
use Rattle.lv_edits.specs.declared.edit.Edit.{Edit}
use Rattle.lv_edits.specs.declared.edit.Edit.TheVariants.{Push, Pop, Write}

-- The 16 bits of an element, in two's complement.
unfoldable pub bits_of : ℤ → ℕ
bits_of x = cast_unsigned w16 x

-- The element that 16 bits represent.
unfoldable pub signed : ℕ → ℤ
signed bits = cast_signed w16 bits

-- A descriptor: the number of the last update in bits 63 to 40, the size in 39 to 28, the index of the pending write in 27 to 16, and its bits in
-- 15 to 0.
unfoldable pub descriptor : ℕ → ℕ → ℕ → ℕ → ℕ
descriptor edit size index bits = edit * 1099511627776 + size * 268435456 + index * 65536 + bits

-- The number of the last update.
unfoldable pub edit_of : ℕ → ℕ
edit_of word = word / 1099511627776

-- The size after it.
unfoldable pub size_of : ℕ → ℕ
size_of word = word / 268435456 % 4096

-- The index of the pending write, or 4095 for none.
unfoldable pub index_of : ℕ → ℕ
index_of word = word / 65536 % 4096

-- The bits of the pending write, or 0 for none. A cell has the bits of its element in the same place.
unfoldable pub value_of : ℕ → ℕ
value_of word = word % 65536

-- Whether a descriptor has a pending write. No index is above 4087.
abbrev pub HasPending : ℕ → Type 0
HasPending word = index_of word < 4088

-- A cell: the number of the update that wrote it in bits 39 to 16, and the bits of the element in 15 to 0.
unfoldable pub cell_word : ℕ → ℕ → ℕ
cell_word version bits = version * 65536 + bits

-- The number of the update that wrote a cell.
unfoldable pub cell_version : ℕ → ℕ
cell_version word = word / 65536

-- A part of a block's aggregate: its version in bits 55 to 32, and the part in 31 to 0.
unfoldable pub part_word : ℕ → ℕ → ℕ
part_word version part = version * 4294967296 + part

unfoldable pub part_version : ℕ → ℕ
part_version word = word / 4294967296

unfoldable pub part_value : ℕ → ℕ
part_value word = word % 4294967296

-- The bits of the element that an update puts into the list, or 0 if it puts none.
abbrev pub bits_written : Edit → ℕ
bits_written (Push x) = bits_of x
bits_written (Write i x) = bits_of x
bits_written _ = 0

-- The descriptor after an update of another descriptor. The lock-free form has no reserve, no swap and no truncate.
abbrev pub descriptor_after : ℕ → Edit → ℕ
descriptor_after look (Push x) = descriptor (edit_of look + 1) (size_of look + 1) (size_of look) (bits_of x)
descriptor_after look Pop = descriptor (edit_of look + 1) (size_of look - 1) 4095 0
descriptor_after look (Write i x) = descriptor (edit_of look + 1) (size_of look) i (bits_of x)
descriptor_after look _ = look

-- The update between two successive descriptors, computed from only these.
abbrev pub edit_between : ℕ → ℕ → Edit
edit_between old new =
    if nat_eq (index_of new) 4095 then Pop
    else (if nat_lt (size_of old) (size_of new) then Push (signed (value_of new)) else Write (index_of new) (signed (value_of new)))
