use Rattle.std.proofs.Common.{◌≡◌, ◌∙◌, sym, ap, subst, arith}
use Rattle.device_cache.specs.declared.row.Row.{Row}
use Rattle.device_cache.specs.Internal.Rows.{HasLine, seen_part}
use Rattle.device_cache.specs.Places.{place, row_at, segment_at}
use Rattle.device_cache.proofs.Placing.{at_place}
use Rattle.device_cache.proofs.Running.{run_row, next_place}
use Rattle.device_cache.proofs.runs.run_at.Goals as goal

pub seen_in-requires : goal.seen_in-requires
unfolding row_at
seen_in-requires c = let P : Row → Type 0 = λ r. HasLine r c.args.agent in subst P (ap (λ n. (segment_at c.args.segments.now n).row) (sym c.requires.index)) c.requires.lines

pub returns-clause-some : goal.returns-clause-some
returns-clause-some c =
    let h = at_place c.args.segments.now c.args.at (omega (arith, c.requires.index, c.requires.covered)) in
    omega (arith, h, ap (λ n. (segment_at c.args.segments.now n).end) c.requires.index, c.min.ensures, c.requires.some)

pub returns-clause-part : goal.returns-clause-part
returns-clause-part c x low high = ap (λ (r : Row). seen_part r c.args.agent) (run_row c.args.segments.now c.args.index c.args.at c.requires.index c.requires.covered x low (omega (arith, high, c.min.ensures))) ∙ sym c.seen_in.ensures

pub returns-clause-next : goal.returns-clause-next
returns-clause-next c less =
    let whole : c.min.result ≡ (segment_at c.args.segments.now c.args.index).end = omega (arith, less, c.min.ensures) in
    ap (place c.args.segments.now) whole ∙ next_place c.args.segments.now c.args.index c.args.at c.requires.index c.requires.covered c.requires.ascending
