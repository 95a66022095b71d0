-- What a name is.
use Rattle.std.specs.Prelude.{ℕ, List, Bool, ◌≡◌, ◌==◌, ◌||◌, ◌&&◌, ◌++◌, ◌-◌, length, nat_le, replicate, take, IsTrue, Option, Some, None, if◌then◌else◌}
use Rattle.std.specs.Char.{is_ascii_alphanumeric}
use Rattle.std.specs.List.{list_all}
use Rattle.base.specs.declared.name.Name.TheInside.{Inside}

-- a letter, a digit, or one of _ - .
abbrev pub is_name_byte : ℕ → Bool
is_name_byte b = is_ascii_alphanumeric b || b == 95 || b == 45 || b == 46

-- 1 to 32 such bytes
abbrev pub is_name : List ℕ → Bool
is_name bytes = nat_le 1 (length bytes) && nat_le (length bytes) 32 && list_all is_name_byte bytes

abbrev pub IsName : List ℕ → Type 0
IsName bytes = IsTrue (is_name bytes)

-- the name that bytes are
abbrev pub name_of : List ℕ → Option (List ℕ)
name_of bytes = if is_name bytes then Some bytes else None

-- the bytes of a name as its value keeps them, with zeros up to 32
abbrev pub padded_name : List ℕ → List ℕ
padded_name bytes = bytes ++ replicate (32 - length bytes) 0

pub padded_inverse : (bytes : List ℕ) (len : ℕ) → len ≡ length (take len bytes) → bytes ≡ padded_name (take len bytes) → ◌≡◌ {A = Inside} (record { bytes = padded_name (take len bytes); len = length (take len bytes) }) (record { bytes = bytes; len = len })
padded_inverse bytes len h k = cc
