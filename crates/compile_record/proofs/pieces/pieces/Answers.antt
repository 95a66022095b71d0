use Rattle.std.proofs.Common.{◌≡◌, ◌∙◌, [], length, map, ap, arith}
use Rattle.std.specs.List.{filter, range_with_len}
use Rattle.compile_record.proofs.Counts.{resources_count, mapped_more}
use Rattle.compile_record.proofs.pieces.pieces.Goals as goal
use Rattle.compile_record.specs.Pieces.{has_piece, piece}

pub overflow_cast-r-end : goal.overflow_cast-r-end
overflow_cast-r-end c =
    let count = resources_count c.args.groups.now c.args.resources.now c.requires.resources in
    let few = c.requires.few in
    omega (arith, count, few)

pub push_piece-requires-clause-r : goal.push_piece-requires-clause-r
push_piece-requires-clause-r c =
    let count = resources_count c.args.groups.now c.args.resources.now c.requires.resources in
    let below = c.loop-r-test.true in
    omega (arith, count, below)

pub loop-r-preserved : goal.loop-r-preserved
loop-r-preserved c = mapped_more [] (piece c.args.groups.now c.args.placement.now.offsets) (has_piece c.args.groups.now) c.loop-r.r c.loop-r.list c.push_piece.new.list c.loop-r.invariant c.in_ok-push_piece.ensures

pub returns : goal.returns
returns c =
    let count = resources_count c.args.groups.now c.args.resources.now c.requires.resources in
    let end = c.loop-r-test.false in
    let within = c.loop-r.auto.r-end in
    let all : c.loop-r.r ≡ length c.args.groups.now.shapes = omega (arith, count, end, within) in
    c.loop-r.invariant ∙ ap (λ n. map (piece c.args.groups.now c.args.placement.now.offsets) (filter (has_piece c.args.groups.now) (range_with_len 0 n))) all
