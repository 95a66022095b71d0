use Rattle.std.proofs.Common.{ℕ, ◌+◌, ◌*◌, ◌%◌, ◌∙◌, ◌≡◌, ap, arith, get_or, refl, zero-add}
use Rattle.std.specs.Prelude.{replicate}
use Rattle.std.specs.List.{range_with_len}
use Rattle.std.specs.Simd.Lanes.{zip2}
use Rattle.std.proofs.lemmas.List.FromFn.{get_or-range_with_len}
use Rattle.std.proofs.lemmas.Simd.{get_or-replicate, length-replicate}
use Rattle.kernel_simd.proofs.Lanes.{lane, lane_splat}
use Rattle.kernel_simd.proofs.byte_lanes.rising_bytes.Goals as goal

pub returns : goal.returns
returns c j lt =
    let start = c.args.start in
    let step = c.args.step in
    let places = range_with_len 0 32 in
    let risen = zip2 (λ (a b : ℕ). a * b % 256) places (replicate 32 step) in
    let at_place = get_or-range_with_len 0 32 j 0 lt ∙ zero-add j in
    let at_risen : get_or risen j 0 ≡ j * step % 256 = lane_splat (λ (a b : ℕ). a * b % 256) places 32 step j refl lt ∙ ap (λ (k : ℕ). k * step % 256) at_place in
    lane (λ (a b : ℕ). (a + b) % 256) (replicate 32 start) risen 32 j (length-replicate 32 start) refl lt
    ∙ ap (λ (n : ℕ). (n + get_or risen j 0) % 256) (get_or-replicate 32 j start 0 lt)
    ∙ ap (λ (n : ℕ). (start + n) % 256) at_risen
    ∙ omega arith
