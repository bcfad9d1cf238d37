-- Each field of a word is what was put into it.
use Rattle.std.proofs.Common.{◌≡◌, ℕ, ℤ, ◌+◌, ◌*◌, ◌<◌, ◌≤◌, refl, arith}
use Rattle.std.specs.Int.{w16}
use Rattle.std.proofs.lemmas.Int.{ints, to_z-of_z}
use Rattle.lv_geometry.specs.Elements.{IsElement}
use Rattle.lv_bodies.specs.Parts.{IsShort}
use Rattle.lv_machine.specs.Words.{bits_of, cell_version, cell_word, descriptor, edit_of, index_of, part_value, part_version, part_word, signed, size_of, value_of}

module _ (edit size index bits : ℕ) (few : size < 4096) (near : index < 4096) (short : bits < 65536) where
  pub edit_of-descriptor : edit_of (descriptor edit size index bits) ≡ edit
  unfolding edit_of descriptor
  edit_of-descriptor = omega arith

  pub size_of-descriptor : size_of (descriptor edit size index bits) ≡ size
  unfolding size_of descriptor
  size_of-descriptor = omega arith

  pub index_of-descriptor : index_of (descriptor edit size index bits) ≡ index
  unfolding index_of descriptor
  index_of-descriptor = omega arith

  pub value_of-descriptor : value_of (descriptor edit size index bits) ≡ bits
  unfolding value_of descriptor
  value_of-descriptor = omega arith

-- a descriptor fits into a word if its fields are short enough
pub descriptor-below : (edit size index bits : ℕ) → edit < 16777216 → size < 4096 → index < 4096 → bits < 65536 → descriptor edit size index bits < 18446744073709551616
unfolding descriptor
descriptor-below edit size index bits e s i b = omega arith

pub cell_version-word : (version bits : ℕ) → bits < 65536 → cell_version (cell_word version bits) ≡ version
unfolding cell_version cell_word
cell_version-word version bits short = omega arith

pub value_of-cell : (version bits : ℕ) → bits < 65536 → value_of (cell_word version bits) ≡ bits
unfolding value_of cell_word
value_of-cell version bits short = omega arith

-- a cell is less than each cell of a later version
pub cell_word-below : (version bits later : ℕ) → bits < 65536 → version < later → cell_word version bits < later * 65536
unfolding cell_word
cell_word-below version bits later short before = omega arith

-- and no less than the cell of its version with the bits 0
pub cell_word-above : (version bits : ℕ) → version * 65536 ≤ cell_word version bits
unfolding cell_word
cell_word-above version bits = omega arith

-- a cell of at least some version is no less than that version's cell with the bits 0
pub cell_version-least : (version word : ℕ) → version ≤ cell_version word → version * 65536 ≤ word
unfolding cell_version
cell_version-least version word least = omega arith

pub cell_version-most : (version word : ℕ) → word < (version + 1) * 65536 → cell_version word ≤ version
unfolding cell_version
cell_version-most version word below = omega arith

pub cell_version-grows : (word more : ℕ) → word ≤ more → cell_version word ≤ cell_version more
unfolding cell_version
cell_version-grows word more le = omega arith

pub cell_version-zero : cell_version 0 ≡ 0
unfolding cell_version
cell_version-zero = refl

pub part_version-word : (version part : ℕ) → part < 4294967296 → part_version (part_word version part) ≡ version
unfolding part_version part_word
part_version-word version part short = omega arith

pub part_value-word : (version part : ℕ) → part < 4294967296 → part_value (part_word version part) ≡ part
unfolding part_value part_word
part_value-word version part short = omega arith

pub part_version-zero : part_version 0 ≡ 0
unfolding part_version
part_version-zero = refl

pub part_word-below : (version part : ℕ) → version < 16777216 → part < 4294967296 → part_word version part < 18446744073709551616
unfolding part_word
part_word-below version part few short = omega arith

pub cell_word-small : (version bits : ℕ) → version < 16777216 → bits < 65536 → cell_word version bits < 18446744073709551616
unfolding cell_word
cell_word-small version bits few short = omega arith

-- a value is of 16 bits
pub value_of-short : (word : ℕ) → value_of word < 65536
unfolding value_of
value_of-short word = omega arith

-- the bits of a short element are 16, and represent it
pub bits_of-short : (x : ℤ) → IsShort x → bits_of x < 65536
unfolding bits_of
bits_of-short x short = omega (arith, ints)

pub signed-bits_of : (x : ℤ) → IsShort x → signed (bits_of x) ≡ x
unfolding bits_of signed
signed-bits_of x short = to_z-of_z w16 x short

-- a short element is an element
pub short_element : (x : ℤ) → IsShort x → IsElement x
short_element x short = omega (arith, ints)
