-- Bytes that repeat.
use Rattle.std.proofs.Common.{◌≡◌, ℕ, zero, suc, ◌+◌, ◌-◌, ◌*◌, ◌/◌, ◌%◌, ◌^◌, ◌<◌, ◌≤◌, List, length, get_or, take, drop, replicate, [], ◌++◌, refl, sym, ap, ◌∙◌, ⊎_elim, arith}
use Rattle.std.specs.Prelude.{slice_index, slice_range}
use Rattle.std.proofs.lemmas.Bool.{cases_lt}
use Rattle.std.proofs.lemmas.List.{get_or-replicate, length-replicate, length-append, get_or-take, get_or-drop, get_or_append_left, get_or-append_right, nil_from_length}
use Rattle.std.proofs.lemmas.Grind.{common_steps}
use Rattle.std.proofs.lemmas.List.FromFn.{fill_by_all, get_or-map-range_with_len, length-map-range_with_len}
use Rattle.device_cache.specs.Repeats.{byte_of, repeated}

pub length_repeated : (word n : ℕ) → length (repeated word n) ≡ n
unfolding repeated
length_repeated word n = length-map-range_with_len (byte_of word) 0 n

pub repeated_at : (word n k : ℕ) → k < n → slice_index (repeated word n) k ≡ byte_of word k
unfolding repeated
repeated_at word n k lt = get_or-map-range_with_len (byte_of word) 0 n k k 0 lt (omega arith)

-- bytes that are those of the word in their places
pub repeats : (word n : ℕ) (bytes : List ℕ) → length bytes ≡ n → ((k : ℕ) → k < n → slice_index bytes k ≡ byte_of word k) → bytes ≡ repeated word n
unfolding repeated
repeats word n bytes long each = fill_by_all (byte_of word) bytes n 0 long each

-- one byte in each place
same_byte : (byte r : ℕ) → byte < 256 → r < 4 → byte * 16843009 / 2 ^ (8 * r) % 256 ≡ byte
same_byte byte zero small lt = omega (arith, small)
same_byte byte (suc zero) small lt = omega (arith, small)
same_byte byte (suc (suc zero)) small lt = omega (arith, small)
same_byte byte (suc (suc (suc zero))) small lt = omega (arith, small)
same_byte byte (suc (suc (suc (suc r)))) small lt = absurd (omega (arith, lt))

pub one_byte : (byte n : ℕ) → byte < 256 → repeated (byte * 16843009) n ≡ replicate n byte
one_byte byte n small =
    sym (repeats (byte * 16843009) n (replicate n byte) (length-replicate n byte) (λ k lt.
    get_or-replicate n k byte 0 lt ∙ sym (same_byte byte (k % 4) small (omega arith))))

pub itself : (word n : ℕ) → repeated word n ≡ repeated word (length (repeated word n))
itself word n = ap (repeated word) (sym (length_repeated word n))

-- the places of a word, from one of them on
pub turned : (word first k : ℕ) → byte_of word (first % 4 + k % 4) ≡ byte_of word (first + k)
turned word first k = let e : (first % 4 + k % 4) % 4 ≡ (first + k) % 4 = omega arith in ap (λ r. word / 2 ^ (8 * r) % 256) e

slice_range_at : (xs : List ℕ) (first size k : ℕ) → k < size → slice_index (slice_range xs first (first + size)) k ≡ get_or (drop first xs) k 0
slice_range_at xs first size k lt = let e : first + size - first ≡ size = omega arith in ap (λ n. get_or (take n (drop first xs)) k 0) e ∙ get_or-take size (drop first xs) k 0 lt

-- so many from a place on, where the word begins again
pub repeated_part : (word n first size : ℕ) → first % 4 ≡ 0 → first + size ≤ n → repeated word size ≡ slice_range (repeated word n) first (first + size)
repeated_part word n first size whole within =
    sym (repeats word size (slice_range (repeated word n) first (first + size)) (grind (arith, common_steps, length_repeated word n)) (λ k lt.
    let turn : (first + k) % 4 ≡ k % 4 = omega (arith, whole) in
    slice_range_at (repeated word n) first size k lt
    ∙ get_or-drop first (repeated word n) k 0
    ∙ repeated_at word n (first + k) (omega (arith, lt, within))
    ∙ ap (λ r. word / 2 ^ (8 * r) % 256) turn))

-- the first ones of them
pub first_part : (word n size : ℕ) → size ≤ n → take size (repeated word n) ≡ repeated word size
first_part word n size within =
    let e : 0 + size - 0 ≡ size = omega arith in
    ap (λ m. take m (repeated word n)) (sym e) ∙ sym (repeated_part word n 0 size refl (omega (arith, within)))

pub none_repeated : (word : ℕ) → [] ≡ repeated word 0
none_repeated word = sym (nil_from_length (repeated word 0) (length_repeated word 0))

-- so many and then more, where the word begins again
pub longer : (word m n : ℕ) → m % 4 ≡ 0 → repeated word m ++ repeated word n ≡ repeated word (m + n)
longer word m n whole =
    let first = repeated word m in
    let more = repeated word n in
    let long : length (first ++ more) ≡ m + n = length-append first more ∙ omega (arith, length_repeated word m, length_repeated word n) in
    repeats word (m + n) (first ++ more) long (λ k lt. ⊎_elim
    (λ (lo : k < m). get_or_append_left first more 0 k (omega (arith, lo, length_repeated word m)) ∙ repeated_at word m k lo)
    (λ (hi : m ≤ k).
    let turn : (k - m) % 4 ≡ k % 4 = omega (arith, whole, hi) in
    get_or-append_right first more m k 0 (length_repeated word m) hi
    ∙ repeated_at word n (k - m) (omega (arith, hi, lt))
    ∙ ap (λ r. word / 2 ^ (8 * r) % 256) turn)
    (cases_lt k m))
