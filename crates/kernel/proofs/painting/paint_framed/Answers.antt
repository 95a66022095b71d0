use Rattle.std.proofs.Common.{◌≡◌, ℕ, ◌+◌, ◌-◌, ◌*◌, ◌%◌, ◌∙◌, arith, ap, sym}
use Rattle.base.specs.Texels.{modulus, texel_at}
use Rattle.kernel.proofs.Pieces.{band_from}
use Rattle.kernel.proofs.Rows.{place_fits, frame_goes_on, frame_ends}
use Rattle.kernel.proofs.painting.paint_framed.Goals as goal

pub returns-then-width-eq0 : goal.returns-then-width-eq0
returns-then-width-eq0 g c p inside around =
    let args = c.args in
    band_from args.texel args.width args.first args.count p args.out.now c.type_inv.out c.requires.size (λ x y hx hy. absurd (omega (arith, hx)))

pub put-requires : goal.put-requires
put-requires g c =
    let args = c.args in
    place_fits args.texel c.loop-y.start args.width args.count c.loop-y.y 0 _ (omega arith) (omega arith) c.loop-y-test.true (omega arith)

pub put-requires-in-loop-y : goal.put-requires-in-loop-y
put-requires-in-loop-y g c =
    let args = c.args in
    place_fits args.texel (c.loop-y.start + (args.width - 1)) args.width args.count c.loop-y.y (args.width - 1) _ (omega arith) (omega arith) c.loop-y-test.true (omega arith)

pub put-requires-in-loop-x : goal.put-requires-in-loop-x
put-requires-in-loop-x g c =
    let args = c.args in
    place_fits args.texel (c.loop-y.start + c.loop-x.x) args.width args.count c.loop-y.y c.loop-x.x _ (omega arith) (omega arith) c.loop-y-test.true (omega arith)

pub loop-x-preserved : goal.loop-x-preserved
loop-x-preserved g c =
    let args = c.args in
    let w = args.width in
    let x = c.loop-x.x in
    let y = c.loop-y.y in
    let place : c.loop-y.start + x ≡ y * w + x = omega arith in (
      c.type_inv.out,
      λ p inside around.
          let up = c.loop-x.invariant.1 p inside around in
          let given = inside x y c.inner.result (omega arith) c.loop-y-test.true c.inner.ensures in
          let now : texel_at args.texel c.put-in-loop-x.new.bytes (y * w + x) ≡ p x (args.first + y) % modulus args.texel =
          ap (λ (k : ℕ). texel_at args.texel c.put-in-loop-x.new.bytes k) (sym place) ∙ c.put-in-loop-x.ensures.here ∙ given in
          frame_goes_on (texel_at args.texel c.loop-x.out) (texel_at args.texel c.put-in-loop-x.new.bytes) w y x (λ a b. p a (args.first + b) % modulus args.texel)
          c.loop-x-test.true up now (λ k ne. c.put-in-loop-x.ensures.others k (λ same. ne (same ∙ place))),
    )

pub loop-y-preserved : goal.loop-y-preserved
loop-y-preserved g c =
    let args = c.args in (
      omega arith,
      c.loop-x.invariant.0,
      λ p inside around.
          frame_ends (texel_at args.texel c.loop-x.out) args.width c.loop-y.y c.loop-x.x (λ a b. p a (args.first + b) % modulus args.texel) c.loop-x-test.false (c.loop-x.invariant.1 p inside around),
    )

pub returns : goal.returns
returns g c p inside around =
    let args = c.args in
    let up = c.loop-y.invariant in
    band_from args.texel args.width args.first args.count p c.loop-y.out up.1 (c.loop-y.auto.out ∙ c.requires.size) (λ x y hx hy. up.2 p inside around x y hx (omega arith))
