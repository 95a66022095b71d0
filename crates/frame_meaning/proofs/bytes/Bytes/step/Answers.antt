use Rattle.std.proofs.Common.{◌≡◌, ◌<◌, ◌≤◌, ◌+◌, ◌∷◌, length, true, subst, sym, ap, ◌∙◌, arith}
use Rattle.std.specs.List.{All}
use Rattle.base.specs.Applied.{bytes_at, after_op}
use Rattle.base.specs.Fits.{fits}
use Rattle.base.specs.Operands.{destination_of, operands_of, mapped}
use Rattle.base.specs.Shapes.{bytes_of, shape_at}
use Rattle.frame.specs.Valid.{shapes_in}
use Rattle.frame.specs.Numbered.{numbered}
use Rattle.frame_meaning.proofs.Remaining.{next_op}
use Rattle.frame_meaning.proofs.Settling.{ready_count, ready_sized, run_within, stepped}
use Rattle.frame_meaning.proofs.bytes.Bytes.step.Goals as goal
use Rattle.frame_meaning.specs.Internal.Held.{IsAt, ops_at, ops_from}
use Rattle.frame_meaning.specs.Internal.Sizes.{IsRunnable}

pub make_room-requires : goal.make_room-requires
make_room-requires c =
    let less : c.args.k < length c.ops_of-ops.result.now = subst (λ ops. c.args.k < length ops) (sym c.ops_of-ops.ensures.at) c.requires.k in
    record {
      runnable = subst (IsRunnable (shapes_in (numbered c.args.frame.now))) (sym c.index-ops-k.is) (c.ops_of-ops.ensures.runnable c.args.k c.index-ops-k.result less);
      count = c.requires.at.count;
    }

pub settle_operands-requires-clause-operands : goal.settle_operands-requires-clause-operands
settle_operands-requires-clause-operands c =
    let n = numbered c.args.frame.now in
    let less : c.args.k < length c.ops_of-ops.result.now = subst (λ ops. c.args.k < length ops) (sym c.ops_of-ops.ensures.at) c.requires.k in
    subst (λ o. All (λ unit. unit < length n.units) (operands_of o)) (sym c.index-ops-k.is) (c.ops_of-ops.ensures.within c.args.k c.index-ops-k.result less)

pub settle_operands-requires-clause-count : goal.settle_operands-requires-clause-count
settle_operands-requires-clause-count c =
    let n = numbered c.args.frame.now in
    let op = c.index-ops-k.result in
    let at = c.in_ok-make_room.ensures (ops_from n.passes c.args.pass (c.args.k + 1)) (subst (λ ops. IsAt n ops c.args.self.now) (next_op n.passes c.args.pass c.ops_of-ops.result.now c.args.k op c.ops_of-ops.ensures.at c.requires.k c.index-ops-k.is) c.requires.at) in
    at.count

pub run_op-requires : goal.run_op-requires
run_op-requires c =
    let n = numbered c.args.frame.now in
    let op = c.index-ops-k.result in
    let rest = ops_from n.passes c.args.pass (c.args.k + 1) in
    let less : c.args.k < length c.ops_of-ops.result.now = subst (λ ops. c.args.k < length ops) (sym c.ops_of-ops.ensures.at) c.requires.k in
    let at : IsAt n (op ∷ rest) c.make_room.new.self = c.in_ok-make_room.ensures rest (subst (λ ops. IsAt n ops c.args.self.now) (next_op n.passes c.args.pass c.ops_of-ops.result.now c.args.k op c.ops_of-ops.ensures.at c.requires.k c.index-ops-k.is) c.requires.at) in
    let within : All (λ unit. unit < length n.units) (operands_of op) = subst (λ o. All (λ unit. unit < length n.units) (operands_of o)) (sym c.index-ops-k.is) (c.ops_of-ops.ensures.within c.args.k op less) in
    let ready = c.settle_operands.new.self in
    let runnable : IsRunnable (shapes_in n) op = subst (IsRunnable (shapes_in n)) (sym c.index-ops-k.is) (c.ops_of-ops.ensures.runnable c.args.k op less) in
    record {
      count = ready_count n c.ops_of-ops.ensures.good op rest c.make_room.new.self at within ready c.in_ok-settle_operands.ensures ∙ ap length (sym c.shapes.ensures);
      sized = subst (λ s. All (λ unit. length (bytes_at ready unit) ≡ bytes_of (shape_at s unit)) (operands_of op)) (sym c.shapes.ensures) (ready_sized n c.ops_of-ops.ensures.good op rest c.make_room.new.self at within ready c.in_ok-settle_operands.ensures);
      operands = subst (λ s. All (λ unit. unit < length s) (operands_of op)) (sym c.shapes.ensures) runnable.operands;
      fits = subst (λ s. fits (mapped (shape_at s) op) ≡ true) (sym c.shapes.ensures) runnable.fitting;
      apart = runnable.not_in_place;
    }

pub release_operands-requires : goal.release_operands-requires
release_operands-requires c =
    let n = numbered c.args.frame.now in
    let op = c.index-ops-k.result in
    let rest = ops_from n.passes c.args.pass (c.args.k + 1) in
    let less : c.args.k < length c.ops_of-ops.result.now = subst (λ ops. c.args.k < length ops) (sym c.ops_of-ops.ensures.at) c.requires.k in
    let at : IsAt n (op ∷ rest) c.make_room.new.self = c.in_ok-make_room.ensures rest (subst (λ ops. IsAt n ops c.args.self.now) (next_op n.passes c.args.pass c.ops_of-ops.result.now c.args.k op c.ops_of-ops.ensures.at c.requires.k c.index-ops-k.is) c.requires.at) in
    let within : All (λ unit. unit < length n.units) (operands_of op) = subst (λ o. All (λ unit. unit < length n.units) (operands_of o)) (sym c.index-ops-k.is) (c.ops_of-ops.ensures.within c.args.k op less) in
    let ready = c.settle_operands.new.self in
    let run = c.run_op.new.self in
    let runs : run ≡ after_op (shapes_in n) ready op = c.run_op.ensures.bytes ∙ ap (λ s. after_op s ready op) c.shapes.ensures in
    let long : length (bytes_at run (destination_of op)) ≡ bytes_of (shape_at (shapes_in n) (destination_of op)) = subst (λ s. length (bytes_at run (destination_of op)) ≡ bytes_of (shape_at s (destination_of op))) c.shapes.ensures c.run_op.ensures.sized in
    let next : c.args.k + 1 ≤ length (ops_at n.passes c.args.pass) = (let before = c.requires.k in omega (arith, before)) in
    record {
      pass = c.requires.pass;
      next = next;
      operands = run_within n c.ops_of-ops.ensures.good op rest c.make_room.new.self at within ready c.in_ok-settle_operands.ensures run runs long;
    }

pub returns : goal.returns
returns c =
    let n = numbered c.args.frame.now in
    let op = c.index-ops-k.result in
    let rest = ops_from n.passes c.args.pass (c.args.k + 1) in
    let less : c.args.k < length c.ops_of-ops.result.now = subst (λ ops. c.args.k < length ops) (sym c.ops_of-ops.ensures.at) c.requires.k in
    let at : IsAt n (op ∷ rest) c.make_room.new.self = c.in_ok-make_room.ensures rest (subst (λ ops. IsAt n ops c.args.self.now) (next_op n.passes c.args.pass c.ops_of-ops.result.now c.args.k op c.ops_of-ops.ensures.at c.requires.k c.index-ops-k.is) c.requires.at) in
    let within : All (λ unit. unit < length n.units) (operands_of op) = subst (λ o. All (λ unit. unit < length n.units) (operands_of o)) (sym c.index-ops-k.is) (c.ops_of-ops.ensures.within c.args.k op less) in
    let ready = c.settle_operands.new.self in
    let run = c.run_op.new.self in
    let runs : run ≡ after_op (shapes_in n) ready op = c.run_op.ensures.bytes ∙ ap (λ s. after_op s ready op) c.shapes.ensures in
    let long : length (bytes_at run (destination_of op)) ≡ bytes_of (shape_at (shapes_in n) (destination_of op)) = subst (λ s. length (bytes_at run (destination_of op)) ≡ bytes_of (shape_at s (destination_of op))) c.shapes.ensures c.run_op.ensures.sized in
    stepped n c.ops_of-ops.ensures.good op rest c.make_room.new.self at within ready c.in_ok-settle_operands.ensures run runs long c.release_operands.new.self c.release_operands.ensures
