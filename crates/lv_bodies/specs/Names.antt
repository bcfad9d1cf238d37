-- The names that standing queries go by.
use Rattle.std.specs.Prelude.{ℕ, ◌-◌, Bool, ◌&&◌, ◌||◌, List, ◌++◌, length, replicate, nat_eq, nat_le, IsTrue}
use Rattle.std.specs.List.{list_all, before_first}

-- a small letter, a decimal digit or `_`
abbrev pub is_name_byte : ℕ → Bool
is_name_byte b = (nat_le 97 b && nat_le b 122) || (nat_le 48 b && nat_le b 57) || nat_eq b 95

-- whether bytes are a name: 1 to 16 of them, each of them one that a name may have
abbrev pub is_name : List ℕ → Bool
is_name bytes = nat_le 1 (length bytes) && nat_le (length bytes) 16 && list_all is_name_byte bytes

-- bytes that are a name
abbrev pub IsName : List ℕ → Type 0
IsName bytes = IsTrue (is_name bytes)

-- the 16 bytes in which a name is stored: the name, then zeros
abbrev pub padded : List ℕ → List ℕ
padded name = name ++ replicate (16 - length name) 0

-- the name that 16 bytes keep: those before the first zero
abbrev pub kept_name : List ℕ → List ℕ
kept_name bytes = before_first (λ b. nat_eq b 0) bytes
