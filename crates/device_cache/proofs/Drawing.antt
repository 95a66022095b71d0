-- What a tender draws is a move in a memory.
use Rattle.std.proofs.Common.{◌≡◌, ℕ, zero, suc, ◌+◌, ◌-◌, ◌<◌, ◌≤◌, Bool, true, false, List, [], ◌∷◌, length, get_or, refl, arith}
use Rattle.std.specs.Prelude.{◌%◌, nat_lt, min, if◌then◌else◌, filter}
use Rattle.std.specs.List.{enumerate_from}
use Rattle.std.proofs.Math.Nat.{mod-lt}
use Rattle.std.proofs.lemmas.Bool.{and_parts, ltb-true}
use Rattle.device_cache.specs.declared.words.Words.{Words}
use Rattle.device_cache.specs.Draws.{filled, may_draw, move_in, move_of, Moves}

-- a memory that has a byte, numbered from i on, and its size
record IsSized (i : ℕ) (sizes : List ℕ) (p : ℕ × ℕ) : Type 0 where
  from : i ≤ p.0
  there : p.0 < i + length sizes
  size : p.1 ≡ get_or sizes (p.0 - i) 0
  some : 0 < p.1

behind : (i x : ℕ) (xs : List ℕ) (p : ℕ × ℕ) → IsSized (i + 1) xs p → IsSized i (x ∷ xs) p
behind i x xs p h =
    let next : p.0 - i ≡ suc (p.0 - (i + 1)) = omega (arith, h.from) in
    record { from = omega (arith, h.from); there = omega (arith, h.there); size = rw next h.size; some = h.some }

either : (b : Bool) (i x : ℕ) (xs : List ℕ) (later : List (ℕ × ℕ)) → nat_lt 0 x ≡ b → ((k : ℕ) → k < length later → IsSized (i + 1) xs (get_or later k (0, 1))) → (k : ℕ) → k < length (if b then (i, x) ∷ later else later) → IsSized i (x ∷ xs) (get_or (if b then (i, x) ∷ later else later) k (0, 1))
either true i x xs later is rest zero lt = let e : i - i ≡ 0 = omega arith in record { from = omega arith; there = omega arith; size = rw e refl; some = ltb-true 0 x is }
either true i x xs later is rest (suc k) lt = behind i x xs (get_or later k (0, 1)) (rest k (omega (arith, lt)))
either false i x xs later is rest k lt = behind i x xs (get_or later k (0, 1)) (rest k lt)

filled_sized : (sizes : List ℕ) (i k : ℕ) → k < length (filter (λ (p : ℕ × ℕ). nat_lt 0 p.1) (enumerate_from i sizes)) → IsSized i sizes (get_or (filter (λ (p : ℕ × ℕ). nat_lt 0 p.1) (enumerate_from i sizes)) k (0, 1))
filled_sized [] i k lt = absurd (omega (arith, lt))
filled_sized (x ∷ xs) i k lt = either (nat_lt 0 x) i x xs (filter (λ (p : ℕ × ℕ). nat_lt 0 p.1) (enumerate_from (i + 1) xs)) refl (filled_sized xs (i + 1)) k lt

-- a range that begins in a memory and stays in it
drawn_range : (agents : ℕ) (sizes : List ℕ) (w : Words) (memory size : ℕ) → 0 < agents → memory < length sizes → 0 < size → size ≡ get_or sizes memory 0 → Moves agents sizes (move_in agents w (memory, size))
drawn_range agents sizes w memory size some there full is =
    let start : w.start % size < size = mod-lt w.start full in
    let most : 0 < min 4096 (size - w.start % size) = omega (arith, start) in
    let len : w.len % min 4096 (size - w.start % size) < min 4096 (size - w.start % size) = mod-lt w.len most in
    record { known = mod-lt w.agent some; there = there; some = omega arith; within = omega (arith, start, len, is) }

pub is_drawn : (agents : ℕ) (sizes : List ℕ) (w : Words) → may_draw agents sizes ≡ true → Moves agents sizes (move_of agents sizes w)
is_drawn agents sizes w may =
    let both = and_parts (nat_lt 0 agents) (nat_lt 0 (length (filled sizes))) may in
    let k = w.memory % length (filled sizes) in
    let p = get_or (filled sizes) k (0, 1) in
    let h = filled_sized sizes 0 k (mod-lt w.memory (ltb-true 0 (length (filled sizes)) both.1)) in
    let e : p.0 - 0 ≡ p.0 = omega arith in
    drawn_range agents sizes w p.0 p.1 (ltb-true 0 agents both.0) (omega (arith, h.there)) h.some (rw (← e) h.size)
