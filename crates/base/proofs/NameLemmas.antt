-- Bytes of names: they are ASCII, digits are among them, and zeros follow them up to 32.
use Rattle.std.proofs.Common.{◌≡◌, ℕ, zero, suc, ◌<◌, ◌&&◌, true, List, [], ◌∷◌, ◌++◌, length, drop, replicate, refl, ap, ap₂, arith}
use Rattle.std.specs.Int.{IsInRange}
use Rattle.std.specs.List.{list_all}
use Rattle.std.specs.Str.{IsAscii, IsUtf8}
use Rattle.std.specs.Str.Parse.{AllDigits}
use Rattle.std.proofs.lemmas.Bool.{and_parts}
use Rattle.std.proofs.lemmas.Bool.Decides.{nat_tests}
use Rattle.std.proofs.lemmas.List.{drop-replicate}
use Rattle.std.proofs.lemmas.Str.{IsUtf8-from_ascii}
use Rattle.std.proofs.lemmas.Str.Parse.{digit_from_value}
use Rattle.base.specs.Names.{is_name, is_name_byte, padded_name}

pub front_padded : (s : List ℕ) → s ++ drop (length s) (replicate 32 0) ≡ padded_name s
front_padded s = ap (λ t. s ++ t) (drop-replicate (length s) 32 0)

byte_small : (b : ℕ) → is_name_byte b ≡ true → b < 128
byte_small b e = grind (arith, nat_tests)

all_small : (bytes : List ℕ) → list_all is_name_byte bytes ≡ true → IsAscii bytes
all_small [] e i = omega arith
all_small (b ∷ bytes) e zero = byte_small b (and_parts (is_name_byte b) _ e).0
all_small (b ∷ bytes) e (suc i) = all_small bytes (and_parts (is_name_byte b) _ e).1 i

pub name_is_text : (bytes : List ℕ) → is_name bytes ≡ true → IsUtf8 bytes
name_is_text bytes e = IsUtf8-from_ascii bytes (all_small bytes (and_parts _ (list_all is_name_byte bytes) e).1)

pub digit_named : (c : ℕ) → IsInRange 48 57 c → is_name_byte c ≡ true
digit_named c in_range = grind (arith, nat_tests)

-- digits are bytes of names
pub digits_named : (ds : List ℕ) → AllDigits 10 ds → list_all is_name_byte ds ≡ true
digits_named [] all = refl
digits_named (c ∷ cs) all = ap₂ (λ a b. a && b) (digit_named c (digit_from_value c all.0)) (digits_named cs all.1)
