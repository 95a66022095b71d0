-- Names of a window are names.
use Rattle.std.proofs.Common.{◌≡◌, ℕ, ◌+◌, ◌<◌, ◌≤◌, ◌^◌, ◌++◌, ◌&&◌, List, ◌∷◌, length, suc, take, true, Option, Some, None, codes, refl, ap, ap₂, ◌∙◌, if◌then◌else◌, arith}
use Rattle.std.specs.Fmt.{decimal}
use Rattle.std.specs.List.{list_all}
use Rattle.std.proofs.Math.Seq.{take-append_seam}
use Rattle.std.proofs.lemmas.Bool.{le-leb}
use Rattle.std.proofs.lemmas.Fmt.{decimal_is_IsNumeral, length-decimal-le}
use Rattle.base.proofs.NameLemmas.{digit_named, digits_named}
use Rattle.base.specs.Names.{is_name, is_name_byte, name_of}
use Rattle.law_window.specs.Names.{join_name, numbered_name}

dotted_name : (i : ℕ) (rest : List ℕ) → i < 10 → length rest ≤ 20 → list_all is_name_byte rest ≡ true → is_name ((48 + i) ∷ 46 ∷ rest) ≡ true
dotted_name i rest digit short named =
    let one : is_name_byte (48 + i) ≡ true = digit_named (48 + i) (omega arith, omega arith) in
    ap₂ (λ a b. a && b)
    (ap₂ (λ a b. a && b) (le-leb 1 (length ((48 + i) ∷ 46 ∷ rest)) (omega arith)) (le-leb (length ((48 + i) ∷ 46 ∷ rest)) 32 (omega arith)))
    (ap₂ (λ a b. a && b) one named)

pub digits_short : (j : ℕ) → j < 2 ^ 64 → length (decimal j) ≤ 20
digits_short j small = length-decimal-le 20 j (omega arith) (omega (arith, small)) small

pub is_numbered : (i j : ℕ) → i < 10 → j < 2 ^ 64 → is_name (numbered_name i j) ≡ true
is_numbered i j digit small = dotted_name i (decimal j) digit (digits_short j small) (digits_named (decimal j) (decimal_is_IsNumeral j small).0.1)

pub is_join : (i : ℕ) → i < 10 → is_name (join_name i) ≡ true
is_join i digit = dotted_name i (codes "join") digit (omega arith) refl

-- the bytes of which a name is read
bytes_are : (a b : ℕ) (rest copied more : List ℕ) → copied ≡ rest → take (length rest + 2) (a ∷ b ∷ (copied ++ more)) ≡ a ∷ b ∷ rest
bytes_are a b rest copied more same =
    let two : length rest + 2 ≡ suc (suc (length rest)) = omega arith in
    rw two (ap (λ bs. a ∷ b ∷ take (length rest) (bs ++ more)) same ∙ ap (λ bs. a ∷ b ∷ bs) (take-append_seam rest more))

pub read_as : (a b : ℕ) (rest copied more : List ℕ) (name : Option (List ℕ)) → is_name (a ∷ b ∷ rest) ≡ true → copied ≡ rest → name ≡ name_of (take (length rest + 2) (a ∷ b ∷ (copied ++ more))) → name ≡ Some (a ∷ b ∷ rest)
read_as a b rest copied more name named same read =
    read ∙ ap name_of (bytes_are a b rest copied more same) ∙ ap (λ t. if t then Some (a ∷ b ∷ rest) else None) named
