use Rattle.std.proofs.Common.{ℕ, ◌∙◌, ap, cond, eqb, get_or, w8}
use Rattle.std.specs.Prelude.{replicate}
use Rattle.std.proofs.lemmas.Simd.{get_or-replicate, length-replicate}
use Rattle.kernel_simd.proofs.Lanes.{lane_chosen}
use Rattle.kernel_simd.proofs.byte_lanes.choose_bytes.Goals as goal

pub returns : goal.returns
returns c j lt =
    let mask = c.args.mask in
    let a = c.args.a in
    let b = c.args.b in
    let zero : ℕ = 0 in
    lane_chosen w8 eqb mask (replicate 32 zero) b a 32 j c.fits-mask.0 (length-replicate 32 zero) c.fits-b.0 c.fits-a.0 lt
    ∙ ap (λ (z : ℕ). cond (eqb (get_or mask j 0) z) (get_or b j 0) (get_or a j 0)) (get_or-replicate 32 j zero 0 lt)
