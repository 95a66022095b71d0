use Rattle.std.proofs.Common.{◌≡◌, ℕ, ◌+◌, ◌%◌, ◌<◌, ◌∙◌, refl, arith, subst}
use Rattle.std.specs.Prelude.{if◌then◌else◌}
use Rattle.base.specs.Kernels.{is_inside}
use Rattle.base.specs.Texels.{modulus, picture}
use Rattle.kernel.proofs.Areas.{reached_none, reached_row, reached_all, reached_more, untouched}
use Rattle.kernel.proofs.Pieces.{band_from}
use Rattle.kernel.proofs.Rows.{place_fits}
use Rattle.kernel.proofs.repainting.repaint.Goals as goal

pub loop-row-init : goal.loop-row-init
loop-row-init g c = (c.type_inv.out, c.type_inv.out, λ p only. reached_none c.args.grid c.args.area p c.args.out.now c.type_inv.out)

pub get-old-requires : goal.get-old-requires
get-old-requires g c =
    let grid = c.args.grid in
    let area = c.args.area in
    place_fits grid.texel _ grid.width grid.height (area.top + c.loop-row.row) (area.left + c.loop-column.column) _ refl (omega arith) (omega arith) (omega arith)

pub put-requires : goal.put-requires
put-requires g c =
    let grid = c.args.grid in
    let area = c.args.area in
    place_fits grid.texel _ grid.width grid.height (area.top + c.loop-row.row) (area.left + c.loop-column.column) _ refl (omega arith) (omega arith) (omega arith)

pub loop-column-preserved : goal.loop-column-preserved
loop-column-preserved g c =
    let grid = c.args.grid in
    let area = c.args.area in
    let row = c.loop-row.row in
    let column = c.loop-column.column in
    let x = area.left + column in
    let y = area.top + row in
    let across : x < grid.width = omega arith in
    let down : y < grid.height = omega arith in (
      c.loop-column.invariant.0,
      c.type_inv.out,
      λ p only.
          let up = c.loop-column.invariant.2 p only in
          let was : c.get-old.result ≡ picture grid c.args.out.now x y =
          c.get-old.ensures.value ∙ untouched grid area row column p c.args.out.now c.loop-column.out c.loop-column.invariant.0 across down up in
          let now : c.f.result % modulus grid.texel ≡ p x y % modulus grid.texel =
          only column row c.f.result (omega arith) (omega arith) (subst (λ (old : ℕ). goal.F-post g c.args.f old x y c.f.result) was c.f.ensures) in
          reached_more grid area row column (picture grid c.args.out.now) p c.loop-column.out c.put.new.bytes across down up (c.put.ensures.here ∙ now) c.put.ensures.others,
    )

pub loop-row-preserved : goal.loop-row-preserved
loop-row-preserved g c = (
  c.loop-column.invariant.0,
  c.loop-column.invariant.1,
  λ p only.
      reached_row c.args.grid c.args.area c.loop-row.row c.loop-column.column (picture c.args.grid c.args.out.now) p c.loop-column.out (omega arith) (c.loop-column.invariant.2 p only),
)

pub returns : goal.returns
returns g c p only =
    let grid = c.args.grid in
    let area = c.args.area in
    band_from grid.texel grid.width 0 grid.height (λ x y. if is_inside area.left area.top area.width area.height x y then p x y else picture grid c.args.out.now x y) c.loop-row.out c.loop-row.invariant.1 (omega arith)
    (reached_all grid area c.loop-row.row (picture grid c.args.out.now) p c.loop-row.out (omega arith) (c.loop-row.invariant.2 p only))
