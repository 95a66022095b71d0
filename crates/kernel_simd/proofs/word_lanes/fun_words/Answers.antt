use Rattle.std.proofs.Common.{ℕ, ◌+◌, ◌*◌, ◌/◌, ◌%◌, ◌^◌, ◌<◌, ◌∙◌, get_or, bit_and, bit_or, bit_xor, arith, w32, ap}
use Rattle.std.proofs.Math.Nat.{div-le_self}
use Rattle.std.proofs.lemmas.Nat.{and_le_l, or_lt, xor_lt}
use Rattle.kernel_simd.proofs.Lanes.{lane, lane_fits}
use Rattle.kernel_simd.proofs.word_lanes.fun_words.Goals as goal
use Rattle.kernel_simd.proofs.word_lanes.fun_words.Goals.{in-Add, in-Sub, in-Mul, in-And, in-Or, in-Xor, in-Min, in-Max, in-Shl, in-Shr}

pub returns : goal.returns
returns c j lt =
    let a = c.args.a in
    let b = c.args.b in
    let x = get_or a j 0 in
    let y = get_or b j 0 in
    let sx : x < 2 ^ 32 = lane_fits w32 a 8 j c.fits-a lt in
    let sy : y < 2 ^ 32 = lane_fits w32 b 8 j c.fits-b lt in
    let at = λ (f : ℕ → ℕ → ℕ). lane f a b 8 j c.fits-a.0 c.fits-b.0 lt in
    elim c.match-fun.branch [
      | in-Add w ↦ rw (w.result-is, w.in-Add.is) (at (λ (a b : ℕ). (a + b) % 2 ^ 32))
      | in-Sub w ↦ rw (w.result-is, w.in-Sub.is) (lane _ a b 8 j c.fits-a.0 c.fits-b.0 lt ∙ omega (arith, sx, sy))
      | in-Mul w ↦ rw (w.result-is, w.in-Mul.is) (at (λ (a b : ℕ). a * b % 2 ^ 32))
      | in-And w ↦ rw (w.result-is, w.in-And.is) (at bit_and ∙ omega (arith, sx, and_le_l x y))
      | in-Or w ↦ rw (w.result-is, w.in-Or.is) (at bit_or ∙ omega (arith, or_lt 32 x y sx sy))
      | in-Xor w ↦ rw (w.result-is, w.in-Xor.is) (at bit_xor ∙ omega (arith, xor_lt 32 x y sx sy))
      | in-Min w ↦ rw (w.result-is, w.in-Min.is) (w.least.ensures j lt ∙ omega (arith, sx, sy))
      | in-Max w ↦ rw (w.result-is, w.in-Max.is) (w.greatest.ensures j lt ∙ omega (arith, sx, sy))
      | in-Shl w ↦ rw (w.result-is, w.in-Shl.is) (w.up.ensures j lt ∙ ap (λ (k : ℕ). x * 2 ^ k % 2 ^ 32) (w.amounts.ensures j lt))
      | in-Shr w ↦
          let by = y % 32 in
          rw (w.result-is, w.in-Shr.is) (w.down.ensures j lt ∙ ap (λ (k : ℕ). x / 2 ^ k) (w.amounts-in-Shr.ensures j lt) ∙ omega (arith, sx, div-le_self x (2 ^ by)))
    ]
