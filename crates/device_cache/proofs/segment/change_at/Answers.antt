use Rattle.std.proofs.Common.{ℕ, ◌+◌, ◌-◌, ◌≤◌, slice_set, arith, ap}
use Rattle.std.proofs.lemmas.List.Sums.{get_or-le-sum_by}
use Rattle.device_cache.specs.declared.segment.Segment.{Segment}
use Rattle.device_cache.specs.Internal.Rows.{changed}
use Rattle.device_cache.specs.Internal.Uses.{row_uses, uses, Counts}
use Rattle.device_cache.specs.Places.{nowhere, segment_at}
use Rattle.device_cache.proofs.Counting.{fewer, set_uses}
use Rattle.device_cache.proofs.segment.change_at.Goals as goal

pub returns-clause-counted : goal.returns-clause-counted
returns-clause-counted c =
    let segments = c.args.segments.now in
    let k = c.args.k in
    let old = segment_at segments k in
    let next : Segment = record { end = old.end; row = c.change.new.self } in
    let f : ℕ → ℕ = λ slot. uses slot segments - row_uses slot old.row in
    let own : (slot : ℕ) → row_uses slot old.row ≤ uses slot segments = λ slot. get_or-le-sum_by (λ (s : Segment). row_uses slot s.row) segments k nowhere c.requires.there in
    let before : Counts c.args.counts.now (λ slot. f slot + row_uses slot old.row) = fewer c.args.counts.now (λ slot. uses slot segments) (λ slot. f slot + row_uses slot old.row) c.requires.counted (λ slot. omega (arith, own slot)) in
    fewer c.recount.new.counts (λ slot. f slot + row_uses slot (changed c.args.agent c.args.change old.row)) (λ slot. uses slot (slice_set segments k next)) (c.recount.ensures f before) (λ slot. omega (arith, set_uses slot segments k next c.requires.there, ap (row_uses slot) c.change.ensures, own slot))
