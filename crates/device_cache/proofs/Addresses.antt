-- Which address belongs to which memory.
use Rattle.std.proofs.Common.{◌≡◌, ℕ, ◌+◌, ◌<◌, ◌≤◌, true, ltb, leb, ◌&&◌, length, sym, ap, ⊎_elim, subst, arith}
use Rattle.std.specs.Prelude.{nat_le, nat_lt, ◌==◌}
use Rattle.std.proofs.lemmas.Bool.{cases_lt, cases_order, lt-ltb, ltb-true, le-leb, leb-true, eq-eqb, eqb-true, and_parts, and_from}
use Rattle.std.proofs.lemmas.List.{get_or_past}
use Rattle.std.specs.Cmp.{both_ways}
use Rattle.device_cache.specs.declared.memory.Memory.{Memory}
use Rattle.device_cache.specs.Lines.{is_in, range}
use Rattle.device_cache.specs.Internal.Segments.{within}
use Rattle.device_cache.specs.Tables.{Table, memory_of, size_of, address, InMemory}
use Rattle.device_cache.specs.Internal.Kept.{AreApart}

pub memory_there : (t : Table) (m i : ℕ) → i < size_of t m → m < length t.memories
unfolding size_of
memory_there t m i lt = ⊎_elim (λ h. h) (λ ge. absurd (omega (arith, lt, ap (λ (d : Memory). d.size) (get_or_past t.memories m (record { start = 0; size = 0 }) ge)))) (cases_lt m (length t.memories))

pub address_inside : (t : Table) (m i : ℕ) → AreApart t.total t.memories → i < size_of t m → address t m i < t.total
unfolding address size_of
address_inside t m i A lt = omega (arith, lt, A.inside m (record { start = 0; size = 0 }) (memory_there t m i lt))

-- two bytes in one place are of one memory
same_memory : (t : Table) (m n i j : ℕ) → AreApart t.total t.memories → i < size_of t m → j < size_of t n → address t m i ≤ address t n j → address t n j < (memory_of t m).start + size_of t m → m ≡ n
unfolding address size_of
same_memory t m n i j A li lj low high = ⊎_elim (λ e. e) (λ o. ⊎_elim
    (λ less. absurd (omega (arith, A.rising m n (record { start = 0; size = 0 }) less (memory_there t n j lj), high)))
    (λ more. absurd (omega (arith, A.rising n m (record { start = 0; size = 0 }) more (memory_there t m i li), lj, low)))
    o) (cases_order m n)

-- a byte is in the range exactly where its address is
pub range_addresses : (t : Table) (memory start size m i : ℕ) → AreApart t.total t.memories → InMemory t memory start size → i < size_of t m → within (address t memory start) (address t memory start + size) (address t m i) ≡ is_in (range memory start size) m i
unfolding address size_of
range_addresses t memory start size m i A R lt = both_ways (within from (from + size) x) (is_in (range memory start size) m i)
    (λ h.
    let p = and_parts (leb from x) (ltb x (from + size)) h in
    let low = leb-true from x p.0 in
    let high = ltb-true x (from + size) p.1 in
    let small : start < (memory_of t memory).size = omega (arith, low, high, R.within) in
    let e : memory ≡ m = same_memory t memory m start i A small lt low (omega (arith, high, R.within)) in
    let same : (memory_of t memory).start ≡ (memory_of t m).start = ap (λ n. (memory_of t n).start) e in
    and_from (memory == m) (nat_le start i && nat_lt i (start + size)) (eq-eqb memory m e) (and_from (leb start i) (ltb i (start + size)) (le-leb start i (omega (arith, low, same))) (lt-ltb i (start + size) (omega (arith, high, same)))))
    (λ h.
    let p = and_parts (memory == m) (nat_le start i && nat_lt i (start + size)) h in
    let q = and_parts (leb start i) (ltb i (start + size)) p.1 in
    let low = leb-true start i q.0 in
    let high = ltb-true i (start + size) q.1 in
    let same : (memory_of t m).start ≡ (memory_of t memory).start = ap (λ n. (memory_of t n).start) (sym (eqb-true memory m p.0)) in
    and_from (leb from x) (ltb x (from + size)) (le-leb from x (omega (arith, low, same))) (lt-ltb x (from + size) (omega (arith, high, same))))
  where
    from : ℕ
    from = address t memory start

    x : ℕ
    x = address t m i

pub range_inside : (t : Table) (memory start size m i : ℕ) → InMemory t memory start size → is_in (range memory start size) m i ≡ true → i < size_of t m
range_inside t memory start size m i R h =
    let p = and_parts (memory == m) (nat_le start i && nat_lt i (start + size)) h in
    let q = and_parts (leb start i) (ltb i (start + size)) p.1 in
    let high = ltb-true i (start + size) q.1 in
    let P : ℕ → Type 0 = λ n. i < size_of t n in
    subst P (eqb-true memory m p.0) (omega (arith, high, R.within))
