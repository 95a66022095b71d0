use Rattle.std.proofs.Common.{◌≡◌, ℕ, ◌+◌, ◌-◌, ◌*◌, ◌/◌, List, ◌++◌, length, arith, sym, ap, ◌∙◌}
use Rattle.std.proofs.Math.Nat.{div-mul-le_self}
use Rattle.base.specs.Shapes.{texel_bytes}
use Rattle.base.specs.Texels.{band}
use Rattle.kernel_simd.proofs.Joins.{bands_on, no_rows, rows_within, rows_long, strip_within}
use Rattle.kernel_simd.proofs.strips.paint_strips.Goals as goal

pub paint_strip-requires-clause-room : goal.paint_strip-requires-clause-room
paint_strip-requires-clause-room g c =
    let b = texel_bytes c.args.texel in
    let r = c.rows_in_strip-rows.result in
    let k = c.loop-strip.strip in
    rows_within b c.args.width (k * r) r c.args.height _ _ (strip_within k c.args.height r c.loop-strip-test.true) c.loop-strip.invariant.1 c.loop-strip.invariant.2

pub paint_strip-requires-clause-calls : goal.paint_strip-requires-clause-calls
paint_strip-requires-clause-calls g c from n out is =
    let within = strip_within c.loop-strip.strip c.args.height c.rows_in_strip-rows.result c.loop-strip-test.true in
    c.requires.calls from n out (omega arith, omega (arith, is.1, within), is.2)

pub loop-strip-init : goal.loop-strip-init
loop-strip-init g c =
    let b = texel_bytes c.args.texel in
    let w = c.args.width in
    let r = c.rows_in_strip-rows.result in
    let none : 0 * r ≡ 0 = omega arith in
    let no_bytes : b * (w * (0 * r)) ≡ 0 = ap (λ (n : ℕ). b * (w * n)) none ∙ omega arith in (
      (λ p paints. c.clear.ensures.items ∙ no_rows c.args.texel w 0 (0 * r) p none),
      ap length c.clear.ensures.items ∙ sym no_bytes,
      omega (arith, c.requires.room, c.clear.ensures.capacity),
    )

pub loop-strip-preserved : goal.loop-strip-preserved
loop-strip-preserved g c =
    let t = c.args.texel in
    let b = texel_bytes t in
    let w = c.args.width in
    let r = c.rows_in_strip-rows.result in
    let k = c.loop-strip.strip in
    let within = strip_within k c.args.height r c.loop-strip-test.true in
    let next : k * r + r ≡ (k + 1) * r = omega arith in (
      (λ p paints.
          c.paint_strip.ensures.bytes p (λ from n out done is post. paints from n out done (omega arith, omega (arith, is.1, within), is.2) post)
          ∙ ap (λ (l : List ℕ). l ++ band t w (k * r) r p) (c.loop-strip.invariant.0 p paints)
          ∙ bands_on t w (k * r) r ((k + 1) * r) p next),
      rows_long b w (k * r) r ((k + 1) * r) _ _ next c.loop-strip.invariant.1 c.paint_strip.ensures.size,
      omega (arith, c.loop-strip.invariant.2, c.paint_strip.ensures.capacity),
    )

pub paint_strip-requires-2-clause-room : goal.paint_strip-requires-2-clause-room
paint_strip-requires-2-clause-room g c =
    let b = texel_bytes c.args.texel in
    let w = c.args.width in
    let h = c.args.height in
    let r = c.rows_in_strip-rows.result in
    let most = div-mul-le_self h r in
    let all : c.loop-strip.strip ≡ h / r = omega (arith, c.loop-strip.auto.strip-end, c.loop-strip-test.false) in
    rows_within b w (h / r * r) (h - h / r * r) h _ _ (omega (arith, most)) (c.loop-strip.invariant.1 ∙ ap (λ (n : ℕ). b * (w * (n * r))) all) c.loop-strip.invariant.2

pub returns-clause-bytes : goal.returns-clause-bytes
returns-clause-bytes g c p paints =
    let t = c.args.texel in
    let w = c.args.width in
    let h = c.args.height in
    let r = c.rows_in_strip-rows.result in
    let done = h / r * r in
    let most = div-mul-le_self h r in
    let all : c.loop-strip.strip ≡ h / r = omega (arith, c.loop-strip.auto.strip-end, c.loop-strip-test.false) in
    c.from_vec.ensures
    ∙ c.paint_strip-2.ensures.bytes p (λ from n out done is post. paints from n out done (omega arith, omega (arith, is.1, most), is.2) post)
    ∙ ap (λ (l : List ℕ). l ++ band t w done (h - done) p) (c.loop-strip.invariant.0 p paints ∙ ap (λ (n : ℕ). band t w 0 (n * r) p) all)
    ∙ bands_on t w done (h - done) h p (omega (arith, most))

pub returns-clause-long : goal.returns-clause-long
returns-clause-long g c =
    let b = texel_bytes c.args.texel in
    let w = c.args.width in
    let h = c.args.height in
    let r = c.rows_in_strip-rows.result in
    let done = h / r * r in
    let most = div-mul-le_self h r in
    let all : c.loop-strip.strip ≡ h / r = omega (arith, c.loop-strip.auto.strip-end, c.loop-strip-test.false) in
    ap length c.from_vec.ensures ∙ rows_long b w done (h - done) h _ _ (omega (arith, most)) (c.loop-strip.invariant.1 ∙ ap (λ (n : ℕ). b * (w * (n * r))) all) c.paint_strip-2.ensures.size
