use Rattle.std.proofs.Common.{◌≡◌, ◌<◌, ◌≤◌, inl, inr, ◌||◌, ◌+◌, ◌*◌, ◌-◌, ◌%◌, ◌==◌, ℕ, length, true, get_or, sym, subst, ap, ◌∙◌, eq-eqb, ⊎_elim, refl, false, arith, rules, w64}
use Rattle.std.proofs.lemmas.Nat.Bits.{bit_at-trailing_zeros}
use Rattle.std.proofs.lemmas.Bool.{or_left, or_right}
use Rattle.std.specs.Int.{trailing_zeros, bit_at}
use Rattle.base_reach.specs.Bits.{bit}
use Rattle.base_reach.specs.Internal.Closing.{row_bit}
use Rattle.base_reach.proofs.WordBits.{word_bit_at, word_bit_from, minus_less, minus_stays, minus_smaller, row_within, row_low, grow}
use Rattle.base_reach.proofs.close.take_word.Goals as goal

pub bits-init : goal.bits-init
bits-init c = record {
  size = refl;
  grown = c.requires.grown;
  keeps = λ b lt h. h;
  left = λ j lt h. word_bit_from c.args.direct.now c.args.at j lt (minus_less (get_or c.args.direct.now c.args.at 0) (get_or c.args.row.now c.args.at 0) j h);
  taken = λ j lt h. ⊎_elim (λ k. inl k) (λ k. inr (word_bit_from c.args.row.now c.args.at j lt k)) (minus_stays (get_or c.args.direct.now c.args.at 0) (get_or c.args.row.now c.args.at 0) j (search rules) lt (word_bit_at c.args.direct.now c.args.at j lt h));
}

pub overflow_sub-place : goal.overflow_sub-place
overflow_sub-place c =
    let low = bit_at-trailing_zeros w64 c.bits.left (omega arith) (search rules) in
    (c.requires.above (c.args.at * 64 + trailing_zeros w64 c.bits.left) (omega (arith, low.0, c.requires.at)) (c.bits.invariant.left (trailing_zeros w64 c.bits.left) low.0 low.1)).0

pub take_row-requires-clause-within : goal.take_row-requires-clause-within
take_row-requires-clause-within c =
    let low = bit_at-trailing_zeros w64 c.bits.left (omega arith) (search rules) in
    let a = c.requires.above (c.args.at * 64 + trailing_zeros w64 c.bits.left) (omega (arith, low.0, c.requires.at)) (c.bits.invariant.left (trailing_zeros w64 c.bits.left) low.0 low.1) in
    subst (λ n. (c.args.at * 64 + trailing_zeros w64 c.bits.left - c.args.from) * n + n ≤ length c.args.table.now) (sym c.bits.invariant.size) (row_within c.args.table.now (length c.args.row.now) c.args.from c.args.count (c.args.at * 64 + trailing_zeros w64 c.bits.left) c.requires.rows a.0 a.1)

pub take_row-requires-clause-low : goal.take_row-requires-clause-low
take_row-requires-clause-low c =
    let low = bit_at-trailing_zeros w64 c.bits.left (omega arith) (search rules) in
    let a = c.requires.above (c.args.at * 64 + trailing_zeros w64 c.bits.left) (omega (arith, low.0, c.requires.at)) (c.bits.invariant.left (trailing_zeros w64 c.bits.left) low.0 low.1) in
    subst (λ n. (b : ℕ) → b < c.args.at * 64 + trailing_zeros w64 c.bits.left → bit c.args.table.now ((c.args.at * 64 + trailing_zeros w64 c.bits.left - c.args.from) * n * 64 + b) ≡ false) (sym c.bits.invariant.size) (λ b lt. row_low c.args.table.now (length c.args.row.now) c.args.from c.args.count (c.args.at * 64 + trailing_zeros w64 c.bits.left) b c.requires.rows a.0 a.1 lt)

pub bits-smaller : goal.bits-smaller
bits-smaller c =
    let low = bit_at-trailing_zeros w64 c.bits.left (omega arith) (search rules) in
    let t : ℕ = trailing_zeros w64 c.bits.left in
    let place : ℕ = c.args.at * 64 + t in
    let here : bit c.take_row.new.row place ≡ true = c.take_row.ensures.bits place (omega (arith, low.0, c.requires.at, c.bits.invariant.size)) ∙ or_left (place == place) _ (eq-eqb place place refl) in
    minus_smaller c.bits.left (get_or c.take_row.new.row c.args.at 0) t (search rules) low.0 low.1 (word_bit_at c.take_row.new.row c.args.at t low.0 here)

pub bits-preserved : goal.bits-preserved
bits-preserved c =
    let low = bit_at-trailing_zeros w64 c.bits.left (omega arith) (search rules) in
    let t : ℕ = trailing_zeros w64 c.bits.left in
    let place : ℕ = c.args.at * 64 + t in
    let is : bit c.args.direct.now place ≡ true = c.bits.invariant.left t low.0 low.1 in
    let a = c.requires.above place (omega (arith, low.0, c.requires.at)) is in
    let bits : (b : ℕ) → b < 64 * length c.args.row.now → bit c.take_row.new.row b ≡ ((b == place) || (bit c.bits.row b || row_bit c.args.table.now (length c.args.row.now) c.args.from place b)) =
    λ b lt. c.take_row.ensures.bits b (omega (arith, lt, c.bits.invariant.size)) ∙ ap (λ n. (b == place) || (bit c.bits.row b || row_bit c.args.table.now n c.args.from place b)) c.bits.invariant.size in
    let stays : (b : ℕ) → b < 64 * length c.args.row.now → bit c.bits.row b ≡ true → bit c.take_row.new.row b ≡ true =
    λ b lt h. bits b lt ∙ or_right (b == place) _ (or_left (bit c.bits.row b) _ h) in
    record {
      size = c.take_row.ensures.length ∙ c.bits.invariant.size;
      grown = grow c.args.direct.now c.args.table.now c.bits.row c.take_row.new.row (length c.args.row.now) c.args.from c.args.count place c.requires.rows is a.0 a.1 c.bits.invariant.grown bits;
      keeps = λ b lt h. stays b lt (c.bits.invariant.keeps b lt h);
      left = λ j lt h. c.bits.invariant.left j lt (minus_less c.bits.left (get_or c.take_row.new.row c.args.at 0) j h);
      taken = λ j lt h.
          ⊎_elim
          (λ k. ⊎_elim (λ q. inl q) (λ q. inr (word_bit_from c.take_row.new.row c.args.at j lt q)) (minus_stays c.bits.left (get_or c.take_row.new.row c.args.at 0) j (search rules) lt k))
          (λ k. inr (stays (c.args.at * 64 + j) (omega (arith, lt, c.requires.at)) k))
          (c.bits.invariant.taken j lt h);
    }

pub returns-clause-takes : goal.returns-clause-takes
returns-clause-takes c b e h =
    let split : c.args.at * 64 + b % 64 ≡ b = omega (arith, e) in
    let zero_left : c.bits.left ≡ 0 = omega arith in
    ⊎_elim
    (λ k. absurd (let z : bit_at 0 (b % 64) ≡ 1 = subst (λ x. bit_at x (b % 64) ≡ 1) zero_left k in omega (arith, Rattle.std.proofs.lemmas.Nat.Bits.bit_at-zero (b % 64), z)))
    (λ k. subst (λ x. bit c.bits.row x ≡ true) split k)
    (c.bits.invariant.taken (b % 64) (omega arith) (subst (λ x. bit c.args.direct.now x ≡ true) (sym split) h))
