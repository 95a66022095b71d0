-- Bytes that pieces share.
use Rattle.std.proofs.Common.{◌≡◌, ℕ, zero, suc, ◌+◌, ◌<◌, ◌≤◌, ◌==◌, ◌&&◌, nat_le, nat_lt, true, map, refl, sym, ◌∙◌, eq-eqb, eqb-true, arith}
use Rattle.std.specs.List.{range_with_len}
use Rattle.std.proofs.lemmas.Bool.{and_parts, and_from, leb-true, ltb-true, le-leb, lt-ltb}
use Rattle.device_cache.specs.Lines.{Bytes}
use Rattle.law_runs.specs.States.{bytes_in}
use Rattle.law_runs.specs.Systems.{System, covers, overlap}

-- functions that agree below n give one list
maps_agree : (f g : ℕ → ℕ) (a n : ℕ) → ((k : ℕ) → a ≤ k → k < a + n → f k ≡ g k) → map f (range_with_len a n) ≡ map g (range_with_len a n)
maps_agree f g a zero h = refl
maps_agree f g a (suc n) h =
    let e : f a ≡ g a = h a (omega arith) (omega arith) in
    let r : map f (range_with_len (a + 1) n) ≡ map g (range_with_len (a + 1) n) = maps_agree f g (a + 1) n (λ k p q. h k (omega arith) (omega arith)) in
    cc

module _ (S : System) where
  -- the memory and place of a byte that a piece covers
  pub covers_place : (p m i : ℕ) → covers S p m i ≡ true → ((S.range p).memory ≡ m) × ((S.range p).start ≤ i) × (i < (S.range p).start + (S.range p).len)
  covers_place p m i h =
      let q = S.range p in
      let a = and_parts (q.memory == m) (nat_le q.start i && nat_lt i (q.start + q.len)) h in
      let b = and_parts (nat_le q.start i) (nat_lt i (q.start + q.len)) a.1 in
      (eqb-true q.memory m a.0, leb-true q.start i b.0, ltb-true i (q.start + q.len) b.1)

  pub place_covered : (p m i : ℕ) → (S.range p).memory ≡ m → (S.range p).start ≤ i → i < (S.range p).start + (S.range p).len → covers S p m i ≡ true
  place_covered p m i e a b =
      let q = S.range p in
      and_from (q.memory == m) (nat_le q.start i && nat_lt i (q.start + q.len)) (eq-eqb q.memory m e)
      (and_from (nat_le q.start i) (nat_lt i (q.start + q.len)) (le-leb q.start i a) (lt-ltb i (q.start + q.len) b))

  pub covers_at : (p k : ℕ) → k < (S.range p).len → covers S p (S.range p).memory ((S.range p).start + k) ≡ true
  covers_at p k lt = place_covered p (S.range p).memory ((S.range p).start + k) refl (omega arith) (omega (arith, lt))

  -- pieces that share a byte overlap
  pub overlap_at : (p q m i : ℕ) → covers S p m i ≡ true → covers S q m i ≡ true → overlap S p q ≡ true
  overlap_at p q m i h k =
      let a = covers_place p m i h in
      let b = covers_place q m i k in
      let x = S.range p in
      let y = S.range q in
      and_from (x.memory == y.memory) (nat_lt x.start (y.start + y.len) && nat_lt y.start (x.start + x.len)) (eq-eqb x.memory y.memory (a.0 ∙ sym b.0))
      (and_from (nat_lt x.start (y.start + y.len)) (nat_lt y.start (x.start + x.len))
      (lt-ltb x.start (y.start + y.len) (omega (arith, a.1, a.2, b.1, b.2)))
      (lt-ltb y.start (x.start + x.len) (omega (arith, a.1, a.2, b.1, b.2))))

  pub overlap_self : (p : ℕ) → 0 < (S.range p).len → overlap S p p ≡ true
  overlap_self p some = let at = place_covered p (S.range p).memory (S.range p).start refl (omega arith) (omega (arith, some)) in overlap_at p p (S.range p).memory (S.range p).start at at

  -- bytes that agree on a piece
  pub same_bytes : (f g : Bytes) (p : ℕ) → ((m i : ℕ) → covers S p m i ≡ true → f m i ≡ g m i) → bytes_in S f p ≡ bytes_in S g p
  same_bytes f g p h =
      let m = (S.range p).memory in
      let o = (S.range p).start in
      maps_agree (λ k. f m (o + k)) (λ k. g m (o + k)) 0 (S.range p).len (λ k low lt. h m (o + k) (covers_at p k (omega (arith, lt))))
