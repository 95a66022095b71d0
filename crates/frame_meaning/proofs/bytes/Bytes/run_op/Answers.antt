use Rattle.std.proofs.Common.{◌≡◌, [], ap, ap₂, arith, slice_set, ◌∙◌}
use Rattle.base.proofs.Lists.{written_back}
use Rattle.base.specs.Applied.{bytes_at}
use Rattle.base.specs.Operands.{destination_of}
use Rattle.frame_meaning.proofs.Runs.{taken_sized, taken_count, out_long, destination_fits, op_done, put_long}
use Rattle.frame_meaning.proofs.bytes.Bytes.run_op.Goals as goal

pub store-requires-clause-sources : goal.store-requires-clause-sources
store-requires-clause-sources c =
    let old = c.args.self.now in
    let taken : c.take.new.self ≡ slice_set old (destination_of c.args.op.now) [] = c.take.ensures.rest ∙ ap (λ d. slice_set old d []) c.destination-dst.ensures in
    taken_sized c.args.shapes.now old c.args.op.now c.requires.count c.requires.sized c.requires.operands c.requires.apart c.take.new.self taken

pub store-requires-clause-out : goal.store-requires-clause-out
store-requires-clause-out c = out_long c.args.shapes.now c.args.self.now c.args.op.now c.requires.count c.requires.sized c.requires.operands c.requires.apart c.deref_mut.result.now (c.deref_mut.ensures.value ∙ c.into_vec-out.ensures ∙ c.take.ensures.bytes ∙ ap (bytes_at c.args.self.now) c.destination-dst.ensures)

pub put-requires : goal.put-requires
put-requires c =
    let old = c.args.self.now in
    let taken : c.take.new.self ≡ slice_set old (destination_of c.args.op.now) [] = c.take.ensures.rest ∙ ap (λ d. slice_set old d []) c.destination-dst.ensures in
    let count = taken_count c.args.shapes.now old c.args.op.now c.requires.count c.requires.sized c.requires.operands c.requires.apart c.take.new.self taken in
    let fits = destination_fits c.args.shapes.now old c.args.op.now c.requires.count c.requires.sized c.requires.operands c.requires.apart in
    omega (arith, count, fits, c.requires.count, c.destination-dst.ensures)

pub returns-clause-bytes : goal.returns-clause-bytes
returns-clause-bytes c =
    let old = c.args.self.now in
    let taken : c.take.new.self ≡ slice_set old (destination_of c.args.op.now) [] = c.take.ensures.rest ∙ ap (λ d. slice_set old d []) c.destination-dst.ensures in
    let was : c.deref_mut.result.now ≡ bytes_at old (destination_of c.args.op.now) = c.deref_mut.ensures.value ∙ c.into_vec-out.ensures ∙ c.take.ensures.bytes ∙ ap (bytes_at old) c.destination-dst.ensures in
    let back = c.from_vec.ensures ∙ written_back c.into_vec-out.result.len c.store.new.out _ (c.store.auto.out ∙ c.deref_mut.ensures.len) in
    op_done c.args.shapes.now old c.args.op.now c.requires.count c.requires.sized c.requires.operands c.requires.apart c.take.new.self c.put.new.self c.deref_mut.result.now c.store.new.out was taken c.store.ensures (c.put.ensures ∙ ap₂ (slice_set c.take.new.self) c.destination-dst.ensures back)

pub returns-clause-sized : goal.returns-clause-sized
returns-clause-sized c =
    let old = c.args.self.now in
    let taken : c.take.new.self ≡ slice_set old (destination_of c.args.op.now) [] = c.take.ensures.rest ∙ ap (λ d. slice_set old d []) c.destination-dst.ensures in
    let was : c.deref_mut.result.now ≡ bytes_at old (destination_of c.args.op.now) = c.deref_mut.ensures.value ∙ c.into_vec-out.ensures ∙ c.take.ensures.bytes ∙ ap (bytes_at old) c.destination-dst.ensures in
    let back = c.from_vec.ensures ∙ written_back c.into_vec-out.result.len c.store.new.out _ (c.store.auto.out ∙ c.deref_mut.ensures.len) in
    put_long c.args.shapes.now old c.args.op.now c.requires.count c.requires.sized c.requires.operands c.requires.apart c.put.new.self c.store.new.out (c.put.ensures ∙ ap₂ (slice_set c.take.new.self) c.destination-dst.ensures back ∙ ap (λ b. slice_set b (destination_of c.args.op.now) c.store.new.out) taken) (c.store.auto.out ∙ out_long c.args.shapes.now old c.args.op.now c.requires.count c.requires.sized c.requires.operands c.requires.apart c.deref_mut.result.now was)
