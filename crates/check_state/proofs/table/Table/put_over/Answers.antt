use Rattle.std.proofs.Common.{◌≡◌, ◌<◌, true, length, get_or, subst, sym, arith}
use Rattle.check_state.specs.Internal.Tables.{PutWhere}
use Rattle.check_state.proofs.Tables.{among, put_over}
use Rattle.check_access.proofs.Overlapping.{known_overlapping}
use Rattle.check_access.specs.AccessKinds.{changes}
use Rattle.check_state.proofs.table.Table.put_over.Goals as goal

pub put_at-requires : goal.put_at-requires
put_at-requires c =
    let known : get_or c.overlapping-p-items.result.now c.loop-p.p-index 0 < length c.args.view.now.pieces = subst (λ ps. c.loop-p.p-index < length ps → get_or ps c.loop-p.p-index 0 < length c.args.view.now.pieces) (sym c.overlapping-p-items.ensures) (known_overlapping c.args.view.now c.args.node_access.access.piece c.loop-p.p-index 0) c.loop-p-test.true in
    omega (arith, known, c.loop-p.invariant.size, c.requires.size)

pub returns : goal.returns
returns c =
    let change : changes c.args.node_access.access.kind ≡ true = sym (c.if-not-changes.ensures) in
    let all : c.loop-p.p-index ≡ length c.overlapping-p-items.result.now = omega (arith, c.loop-p-test.false, c.loop-p.auto.p-index-end) in
    put_over c.args.view.now c.args.node_access c.args.self.now c.loop-p.self c.requires.size change
    (subst (λ ps. PutWhere (among ps (length ps)) c.args.node_access c.args.self.now c.loop-p.self) c.overlapping-p-items.ensures
    (subst (λ k. PutWhere (among c.overlapping-p-items.result.now k) c.args.node_access c.args.self.now c.loop-p.self) all c.loop-p.invariant))
