-- Texels of blocks, and of bytes that are put together of blocks.
use Rattle.std.proofs.Common.{◌≡◌, ℕ, ◌+◌, ◌*◌, ◌/◌, ◌%◌, ◌-◌, ◌^◌, ◌<◌, ◌≤◌, Fits, w8, w32, List, ◌++◌, length, get_or, drop, arith, refl, sym, ap, ◌∙◌, inl, inr}
use Rattle.std.specs.Prelude.{replicate}
use Rattle.std.specs.Simd.Lanes.{Each1, digits_l, number_l}
use Rattle.std.proofs.lemmas.Bool.{cases_lt}
use Rattle.std.proofs.lemmas.Grind.{common_steps}
use Rattle.std.proofs.lemmas.List.{get_or_past}
use Rattle.std.proofs.lemmas.Nat.{from_le_bytes-to_le_bytes_4}
use Rattle.std.proofs.lemmas.Simd.{below_from_Fits, get_or_narrower, Each1-get_or}
use Rattle.base.specs.Shapes.{texel_bytes}
use Rattle.base.specs.Texels.{texel_at, modulus}
use Rattle.base.specs.declared.shape.Texel.{Texel}
use Rattle.base.specs.declared.shape.Texel.TheVariants.{R8, R32}
use Rattle.kernel.proofs.Numbers.{AreBytes, byte_is, word_is}
use Rattle.kernel_simd.proofs.Lanes.{lane_fits}
use Rattle.kernel_simd.specs.Internal.Blocks.{block_texels, AreTexels}

-- fewer bytes, and zeros after them
pub padded_at : (xs zeros : List ℕ) (n k : ℕ) → zeros ≡ replicate n 0 → get_or (xs ++ drop (length xs) zeros) k 0 ≡ get_or xs k 0
padded_at xs zeros n k e = grind (arith, common_steps)

-- texels whose bytes are the same
pub same_texel : (t : Texel) (xs ys : List ℕ) (i j : ℕ) → ((r : ℕ) → r < texel_bytes t → get_or xs (texel_bytes t * i + r) 0 ≡ get_or ys (texel_bytes t * j + r) 0) → texel_at t xs i ≡ texel_at t ys j
same_texel R8 xs ys i j same =
    let a : 1 * i + 0 ≡ i = omega arith in
    let b : 1 * j + 0 ≡ j = omega arith in
    byte_is xs i ∙ rw (a, b) at (same 0 (omega arith)) ∙ sym (byte_is ys j)
same_texel R32 xs ys i j same =
    let a : 4 * i + 0 ≡ 4 * i = omega arith in
    let b : 4 * j + 0 ≡ 4 * j = omega arith in
    word_is xs i
    ∙ omega (arith, rw (a, b) at (same 0 (omega arith)), same 1 (omega arith), same 2 (omega arith), same 3 (omega arith))
    ∙ sym (word_is ys j)

-- a byte of a texel of a block
in_block : (t : Texel) (j r : ℕ) → j < block_texels t → r < texel_bytes t → texel_bytes t * j + r < 32
in_block R8 j r hj hr = omega arith
in_block R32 j r hj hr = omega arith

place : (t : Texel) (b j r : ℕ) → texel_bytes t * (block_texels t * b + j) + r ≡ 32 * b + (texel_bytes t * j + r)
place R8 b j r = omega arith
place R32 b j r = omega arith

-- a texel of the block that stands at place b
pub texel_of_block : (t : Texel) (block bytes : List ℕ) (b j : ℕ) → j < block_texels t → ((k : ℕ) → k < 32 → get_or block k 0 ≡ get_or bytes (32 * b + k) 0) → texel_at t block j ≡ texel_at t bytes (block_texels t * b + j)
texel_of_block t block bytes b j hj same =
    same_texel t block bytes j (block_texels t * b + j) (λ r hr.
    same (texel_bytes t * j + r) (in_block t j r hj hr) ∙ ap (λ k. get_or bytes k 0) (sym (place t b j r)))

-- the bytes of a texel among the first n
room : (t : Texel) (n k r : ℕ) → k < n / texel_bytes t → r < texel_bytes t → texel_bytes t * k + r < n
room R8 n k r h hr = omega arith
room R32 n k r h hr = omega arith

-- a texel before place b
before : (t : Texel) (b k r : ℕ) → k < block_texels t * b → r < texel_bytes t → texel_bytes t * k + r < 32 * b
before R8 b k r h hr = omega arith
before R32 b k r h hr = omega arith

-- a texel of the block at place b, where there are fewer than place b + 1
at_block : (t : Texel) (b k rest : ℕ) → rest ≤ 32 → k < (32 * b + rest) / texel_bytes t → k - block_texels t * b < block_texels t
at_block R8 b k rest le h = omega arith
at_block R32 b k rest le h = omega arith

-- a block is put at place b, or the first of its bytes
pub laid_on : (t : Texel) (p : ℕ → ℕ) (old block new : List ℕ) (b rest : ℕ) → rest ≤ 32
    → ((i : ℕ) → i < 32 * b → get_or new i 0 ≡ get_or old i 0)
    → ((i : ℕ) → i < rest → get_or new (32 * b + i) 0 ≡ get_or block i 0)
    → AreTexels t old (block_texels t * b) p
    → AreTexels t block (block_texels t) (λ j. p (block_texels t * b + j))
    → AreTexels t new ((32 * b + rest) / texel_bytes t) p
laid_on t p old block new b rest le front back up here k h =
    elim (cases_lt k (block_texels t * b)) [
      | inl lt ↦ same_texel t new old k k (λ r hr. front (texel_bytes t * k + r) (before t b k r lt hr)) ∙ up k lt
      | inr ge ↦
          let j = k - block_texels t * b in
          let e : block_texels t * b + j ≡ k = omega arith in
          let inside : j < block_texels t = at_block t b k rest le h in
          let bytes : (r : ℕ) → r < texel_bytes t → get_or new (texel_bytes t * k + r) 0 ≡ get_or block (texel_bytes t * j + r) 0 =
          λ r hr.
          let at : texel_bytes t * k + r ≡ 32 * b + (texel_bytes t * j + r) = ap (λ (m : ℕ). texel_bytes t * m + r) (sym e) ∙ place t b j r in
          let lt : texel_bytes t * j + r < rest = let m = room t (32 * b + rest) k r h hr in omega (arith, at, m) in
          ap (λ (m : ℕ). get_or new m 0) at ∙ back (texel_bytes t * j + r) lt in
          same_texel t new block k j bytes ∙ here j inside ∙ ap (λ (m : ℕ). p m % modulus t) e
    ]

pub whole_block : (t : Texel) (b : ℕ) → (32 * b + 32) / texel_bytes t ≡ block_texels t * (b + 1)
whole_block R8 b = omega arith
whole_block R32 b = omega arith

-- a word among the bytes of words
pub narrowed : (words : List ℕ) (j : ℕ) → (length words ≡ 8) × Each1 (Fits w32) words → j < 8 → texel_at R32 (digits_l 256 32 (number_l 4294967296 words)) j ≡ get_or words j 0
narrowed words j fits lt =
    let bytes = digits_l 256 32 (number_l 4294967296 words) in
    let small : Each1 (λ x. x < 4294967296) words = below_from_Fits w32 words fits.1 in
    let v = get_or words j 0 in
    let within : v < 2 ^ 32 = lane_fits w32 words 8 j fits lt in
    let at = λ (r : ℕ) (h : r < 4). get_or_narrower 4294967296 4 256 32 words j r refl small h (omega arith) in
    let start : 4 * j + 0 ≡ 4 * j = omega arith in
    let first = ap (λ (k : ℕ). get_or bytes k 0) start in
    word_is bytes j
    ∙ omega (arith, first, at 0 (omega arith), at 1 (omega arith), at 2 (omega arith), at 3 (omega arith), from_le_bytes-to_le_bytes_4 v within)

-- lanes of bytes are bytes
pub block_fits : (xs : List ℕ) → Each1 (Fits w8) xs → AreBytes xs
block_fits xs fits i =
    elim (cases_lt i (length xs)) [
      | inl lt ↦ Each1-get_or (Fits w8) xs i 0 lt fits
      | inr ge ↦ rw (get_or_past xs i 0 ge) (record { fits = omega arith })
    ]
