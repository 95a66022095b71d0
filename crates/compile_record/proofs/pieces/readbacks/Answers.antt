use Rattle.std.proofs.Common.{◌≡◌, ◌∙◌, [], length, map, ap, arith}
use Rattle.std.specs.List.{filter, range_with_len}
use Rattle.compile_record.proofs.Counts.{resources_count, mapped_more}
use Rattle.compile_record.proofs.pieces.readbacks.Goals as goal
use Rattle.compile_record.specs.Pieces.{is_readback, piece_of}

pub overflow_cast-r-end : goal.overflow_cast-r-end
overflow_cast-r-end c =
    let count = resources_count c.args.groups.now c.args.resources.now c.requires.resources in
    let few = c.requires.few in
    omega (arith, count, few)

pub push_readback-requires-clause-r : goal.push_readback-requires-clause-r
push_readback-requires-clause-r c =
    let count = resources_count c.args.groups.now c.args.resources.now c.requires.resources in
    let below = c.loop-r-test.true in
    omega (arith, count, below)

pub loop-r-preserved : goal.loop-r-preserved
loop-r-preserved c = mapped_more [] (piece_of c.args.groups.now) (is_readback c.args.groups.now) c.loop-r.r c.loop-r.list c.push_readback.new.list c.loop-r.invariant c.in_ok-push_readback.ensures

pub returns : goal.returns
returns c =
    let count = resources_count c.args.groups.now c.args.resources.now c.requires.resources in
    let end = c.loop-r-test.false in
    let within = c.loop-r.auto.r-end in
    let all : c.loop-r.r ≡ length c.args.groups.now.shapes = omega (arith, count, end, within) in
    c.loop-r.invariant ∙ ap (λ n. map (piece_of c.args.groups.now) (filter (is_readback c.args.groups.now) (range_with_len 0 n))) all
