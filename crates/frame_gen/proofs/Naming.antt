-- Names that end in a number.
use Rattle.std.proofs.Common.{◌≡◌, ℕ, ◌+◌, ◌<◌, ◌^◌, ◌++◌, ◌&&◌, List, ◌∷◌, length, take, true, Option, Some, None, ap, ap₂, ◌∙◌, add-one, if◌then◌else◌, arith}
use Rattle.std.specs.Fmt.{decimal}
use Rattle.std.proofs.Math.Seq.{take-append_seam}
use Rattle.std.proofs.lemmas.Bool.{le-leb}
use Rattle.std.proofs.lemmas.Fmt.{decimal_is_IsNumeral, length-decimal-le}
use Rattle.base.proofs.NameLemmas.{digits_named}
use Rattle.base.specs.Names.{is_name, is_name_byte, name_of}

pub is_numbered : (letter i : ℕ) → is_name_byte letter ≡ true → i < 2 ^ 32 → is_name (letter ∷ decimal i) ≡ true
is_numbered letter i is small =
    let digits = length-decimal-le 10 i (omega arith) (omega (arith, small)) (omega (arith, small)) in
    ap₂ (λ a b. a && b)
    (ap₂ (λ a b. a && b) (le-leb 1 (length (letter ∷ decimal i)) (omega arith)) (le-leb (length (letter ∷ decimal i)) 32 (omega (arith, digits))))
    (ap₂ (λ a b. a && b) is (digits_named (decimal i) (decimal_is_IsNumeral i (omega (arith, small))).0.1))

-- the bytes of which a name is read
bytes_are : (letter i : ℕ) (digits copied rest : List ℕ) → digits ≡ decimal i → copied ≡ digits → take (length digits + 1) (letter ∷ (copied ++ rest)) ≡ letter ∷ decimal i
bytes_are letter i digits copied rest is same =
    rw add-one (ap (λ ds. letter ∷ take (length digits) (ds ++ rest)) same ∙ ap (λ ds. letter ∷ ds) (take-append_seam digits rest) ∙ ap (λ ds. letter ∷ ds) is)

pub read_as : (letter i : ℕ) (digits copied rest : List ℕ) (name : Option (List ℕ)) → is_name_byte letter ≡ true → i < 2 ^ 32 → digits ≡ decimal i → copied ≡ digits → name ≡ name_of (take (length digits + 1) (letter ∷ (copied ++ rest))) → name ≡ Some (letter ∷ decimal i)
read_as letter i digits copied rest name is_letter small is same read =
    read ∙ ap name_of (bytes_are letter i digits copied rest is same) ∙ ap (λ b. if b then Some (letter ∷ decimal i) else None) (is_numbered letter i is_letter small)
