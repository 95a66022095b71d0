use Rattle.std.proofs.Common.{◌≡◌, ℕ, List, ◌+◌, ◌-◌, ◌*◌, ◌/◌, ◌≤◌, length, get_or, rules, arith, subst, true, false, ◌∙◌, ap}
use Rattle.std.specs.Simd.Lanes.{put_chunk}
use Rattle.std.proofs.lemmas.List.{get_or-take}
use Rattle.std.proofs.lemmas.Simd.{get_or-put_chunk_below, get_or-put_chunk_at}
use borrow.Rule.Slice.PartMut.{put_mid}
use Rattle.base.proofs.Lists.{mid_below, mid_at}
use Rattle.base.specs.Shapes.{texel_bytes}
use Rattle.kernel_simd.specs.Internal.Blocks.{block_texels, AreTexels}
use Rattle.kernel_simd.proofs.Blocks.{laid_on, whole_block}
use Rattle.kernel_simd.proofs.laying.lay.Goals as goal

pub loop-block-preserved : goal.loop-block-preserved
loop-block-preserved g c t p gives =
    let b = c.loop-block.block in
    let out = c.loop-block.out in
    let block = c.f.result in
    let long : length block ≡ 32 = search rules in
    let room : 32 * b + 32 ≤ length out = omega arith in
    subst (λ (n : ℕ). AreTexels t (put_chunk (32 * b) out block) n p) (whole_block t b)
    (laid_on t p out block (put_chunk (32 * b) out block) b 32 (omega arith)
    (λ i lt. get_or-put_chunk_below (32 * b) out block i 0 lt)
    (λ i lt. get_or-put_chunk_at (32 * b) out block i 0 (omega (arith, long)) (omega (arith, long)))
    (c.loop-block.invariant t p gives)
    (gives b false block (record { 0 = omega arith; 1 = λ e. omega arith; 2 = λ e. absurd cc }) c.f.ensures))

pub returns : goal.returns
returns g c t p gives =
    let out = c.loop-block.out in
    let b = length c.args.out.now / 32 in
    let rest = length out - 32 * b in
    let start : 32 * b ≤ length out = omega arith in
    let part = c.copy_from_slice.new.self in
    let long : length part ≡ rest = search rules in
    let whole : 32 * b + rest ≡ length c.args.out.now = omega arith in
    subst (λ (n : ℕ). AreTexels t (put_mid (32 * b) rest out part) (n / texel_bytes t) p) whole
    (laid_on t p out c.f-2.result (put_mid (32 * b) rest out part) b rest (omega arith)
    (λ i lt. mid_below (32 * b) rest out part i start lt)
    (λ i lt. mid_at (32 * b) rest out part i start (omega (arith, long)) ∙ ap (λ (l : List ℕ). get_or l i 0) c.copy_from_slice.ensures.after ∙ get_or-take rest c.f-2.result i 0 lt)
    (subst (λ (n : ℕ). AreTexels t out (block_texels t * n) p) (omega arith) (c.loop-block.invariant t p gives))
    (gives b true c.f-2.result (record { 0 = omega arith; 1 = λ e. absurd cc; 2 = λ e. omega arith }) c.f-2.ensures))
