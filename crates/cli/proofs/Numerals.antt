-- Words of digits alone, as `parse` reads them.
use Rattle.std.proofs.Common.{◌≡◌, ◌<◌, ◌≤◌, ◌^◌, ◌&&◌, ◌+◌, ℕ, Bool, List, [], ◌∷◌, Option, Some, None, true, false, length, nat_le, get_or, refl, sym, subst, arith}
use Rattle.std.specs.Prelude.{if◌then◌else◌}
use Rattle.std.specs.Char.{digit_value, is_ascii_digit}
use Rattle.std.specs.List.{list_all}
use Rattle.std.specs.Str.Parse.{AllDigits, IsNumeral, digits_value, without_leading_plus}
use Rattle.std.proofs.lemmas.Bool.{leb-true}
use Rattle.std.proofs.lemmas.Str.{digit_value_digit}
use Rattle.std.proofs.lemmas.Str.Parse.{without_leading_plus_none}
use Rattle.base.proofs.Booleans.{both}
use Rattle.cli.specs.Numbers.{is_number, number_within}

digit : (c : ℕ) → is_ascii_digit c ≡ true → (48 ≤ c) × (digit_value c < 10)
digit c is =
    let entries = both (nat_le 48 c) (nat_le c 57) is in
    let low : 48 ≤ c = leb-true 48 c entries.0 in
    let high : c ≤ 57 = leb-true c 57 entries.1 in
    let value : digit_value c + 48 ≡ c = digit_value_digit c (low, high) in
    (low, omega (arith, value, high))

digits : (word : List ℕ) → list_all is_ascii_digit word ≡ true → AllDigits 10 word
digits [] all = tt
digits (c ∷ cs) all = let entries = both (is_ascii_digit c) (list_all is_ascii_digit cs) all in ((digit c entries.0).1, digits cs entries.1)

no_plus : (word : List ℕ) → list_all is_ascii_digit word ≡ true → get_or word 0 0 ≡ 43 → ⊥
no_plus [] all e = absurd (omega (arith, e))
no_plus (c ∷ cs) all e = let low = (digit c (both (is_ascii_digit c) (list_all is_ascii_digit cs) all).0).0 in absurd (omega (arith, low, e))

none_if : (read within : Bool) (value : ℕ) → (within ≡ true → ⊥) → ◌≡◌ {A = Option ℕ} None (if read && within then Some value else None)
none_if false within value outside = refl
none_if true true value outside = absurd (outside refl)
none_if true false value outside = refl

-- a number that `parse` does not read is too large
pub unread : (least most : ℕ) (word : List ℕ) → is_number word ≡ true → ¬ (IsNumeral 10 (without_leading_plus word) × (digits_value 10 (without_leading_plus word) < 2 ^ 32)) → most < 2 ^ 32 → ◌≡◌ {A = Option ℕ} None (number_within least most word)
unread least most word is none few = none_if (is_number word) (nat_le least value && nat_le value most) value over
  where
    value : ℕ
    value = digits_value 10 word

    entries : ((nat_le 1 (length word) && nat_le (length word) 10) ≡ true) × (list_all is_ascii_digit word ≡ true)
    entries = both (nat_le 1 (length word) && nat_le (length word) 10) (list_all is_ascii_digit word) is

    all : list_all is_ascii_digit word ≡ true
    all = entries.1

    over : (nat_le least value && nat_le value most) ≡ true → ⊥
    over e =
        let within : value ≤ most = leb-true value most (both (nat_le least value) (nat_le value most) e).1 in
        let some : 0 < length word = leb-true 1 (length word) (both (nat_le 1 (length word)) (nat_le (length word) 10) entries.0).0 in
        let less : value < 2 ^ 32 = omega (arith, within, few) in
        none (subst (λ (ds : List ℕ). IsNumeral 10 ds × (digits_value 10 ds < 2 ^ 32)) (sym (without_leading_plus_none word (no_plus word all))) ((some, digits word all), less))
