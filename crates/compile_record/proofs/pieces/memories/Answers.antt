use Rattle.std.proofs.Common.{◌≡◌, ◌∙◌, ◌∷◌, [], length, map, ap, arith}
use Rattle.std.specs.List.{filter, range_with_len}
use Rattle.frame.specs.Numbered.{numbered}
use Rattle.compile_record.proofs.Counts.{resources_count, mapped_more}
use Rattle.compile_record.proofs.Settings.{shapes_few, shape_fits}
use Rattle.compile_record.proofs.pieces.memories.Goals as goal
use Rattle.compile_record.specs.Pieces.{has_memory, own_memory, imported}
use Rattle.program.specs.declared.program.Memory.TheVariants.{Plain}

pub overflow_cast-r-end : goal.overflow_cast-r-end
overflow_cast-r-end c =
    let count = resources_count c.args.groups.now c.args.resources.now c.requires.resources in
    let few = shapes_few (numbered c.args.frame.now) c.args.groups.now c.requires.of c.requires.good in
    omega (arith, count, few)

pub push_memory-requires-clause-r : goal.push_memory-requires-clause-r
push_memory-requires-clause-r c =
    let count = resources_count c.args.groups.now c.args.resources.now c.requires.resources in
    let below = c.loop-r-test.true in
    omega (arith, count, below)

pub push_memory-requires-clause-small : goal.push_memory-requires-clause-small
push_memory-requires-clause-small c =
    let count = resources_count c.args.groups.now c.args.resources.now c.requires.resources in
    let below = c.loop-r-test.true in
    shape_fits (numbered c.args.frame.now) c.args.groups.now c.loop-r.r c.requires.of c.requires.good (omega (arith, count, below))

pub loop-r-preserved : goal.loop-r-preserved
loop-r-preserved c = mapped_more (Plain c.args.heap ∷ []) (λ r. own_memory c.args.groups.now r (imported (numbered c.args.frame.now) r)) (has_memory c.args.groups.now) c.loop-r.r c.loop-r.list c.push_memory.new.list c.loop-r.invariant c.in_ok-push_memory.ensures

pub returns : goal.returns
returns c =
    let count = resources_count c.args.groups.now c.args.resources.now c.requires.resources in
    let end = c.loop-r-test.false in
    let within = c.loop-r.auto.r-end in
    let all : c.loop-r.r ≡ length c.args.groups.now.shapes = omega (arith, count, end, within) in
    c.loop-r.invariant ∙ ap (λ n. Plain c.args.heap ∷ map (λ r. own_memory c.args.groups.now r (imported (numbered c.args.frame.now) r)) (filter (has_memory c.args.groups.now) (range_with_len 0 n))) all
