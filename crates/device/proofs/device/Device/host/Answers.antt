use Rattle.std.proofs.Common.{◌≡◌, ◌∙◌, true, refl, ap}
use Rattle.std.specs.Arc.{arc_value}
use Rattle.device.proofs.Going.{read_there, read_ready, kept_host}
use Rattle.device.proofs.Hosted.{by_host, piece_there, room_for, in_memory, reads}
use Rattle.device.proofs.device.Device.host.Goals as goal
use Rattle.check_order.specs.Edges.{is_host}
use Rattle.device_model.specs.Ready.{kind_at, read_node}
use Rattle.program.specs.declared.program.Program.{Program}
use Rattle.check_access.specs.Views.{view_of}

pub loads_undefined-requires-clause-piece : goal.loads_undefined-requires-clause-piece
loads_undefined-requires-clause-piece c =
    let at = read_there c.self.inside c.self.view_is c.args.readback c.requires.there (c.program.ensures.program ∙ c.deref-2.ensures) c.index-piece.result.now c.index-piece.ensures in
    piece_there c.self.inside c.self.invariant c.args.readback c.index-piece.result.now at c.self.inside.control.view refl

pub piece-from-requires : goal.piece-from-requires
piece-from-requires c =
    let at = read_there c.self.inside c.self.view_is c.args.readback c.requires.there (c.program.ensures.program ∙ c.deref-2.ensures) c.index-piece.result.now c.index-piece.ensures in
    piece_there c.self.inside c.self.invariant c.args.readback c.index-piece.result.now at c.view.result.now c.view.ensures.view

pub read_piece-requires-clause-room : goal.read_piece-requires-clause-room
read_piece-requires-clause-room c =
    let at = read_there c.self.inside c.self.view_is c.args.readback c.requires.there (c.program.ensures.program ∙ c.deref-2.ensures) c.index-piece.result.now c.index-piece.ensures in
    room_for c.self.inside c.self.invariant c.args.readback c.index-piece.result.now at c.view.result.now c.view.ensures.view c.piece-from.result c.piece-from.ensures

pub read_piece-requires-clause-within : goal.read_piece-requires-clause-within
read_piece-requires-clause-within c =
    let at = read_there c.self.inside c.self.view_is c.args.readback c.requires.there (c.program.ensures.program ∙ c.deref-2.ensures) c.index-piece.result.now c.index-piece.ensures in
    in_memory c.self.inside c.self.invariant c.args.readback c.index-piece.result.now at c.view.result.now c.view.ensures.view c.piece-from.result c.piece-from.ensures

pub host-requires : goal.host-requires
host-requires c = (read_ready c.self.inside c.self.invariant c.self.view_is c.args.readback c.requires.ready c.deref.ensures c.read_node-node.result c.read_node-node.ensures.node).told

pub push_reserved-requires : goal.push_reserved-requires
push_reserved-requires c = (read_ready c.self.inside c.self.invariant c.self.view_is c.args.readback c.requires.ready c.deref.ensures c.read_node-node.result c.read_node-node.ensures.node).room

pub invariant_of-self : goal.invariant_of-self
invariant_of-self c =
    let i = c.self.inside in
    let K = c.self.invariant in
    let k = c.args.readback in
    let n = c.read_node-node.result in
    let q = c.index-piece.result.now in
    let at = read_there i c.self.view_is k c.requires.there (c.program.ensures.program ∙ c.deref-2.ensures) q c.index-piece.ensures in
    let node : n ≡ read_node (arc_value i.program) k = c.read_node-node.ensures.node ∙ ap (λ (p : Program). read_node p k) c.deref.ensures in
    let R = read_ready i K c.self.view_is k c.requires.ready c.deref.ensures n c.read_node-node.ensures.node in
    let by : is_host (kind_at (view_of (arc_value i.program)) n) ≡ true = ap (λ m. is_host (kind_at (view_of (arc_value i.program)) m)) node ∙ by_host i K k q at in
    let p = c.push_reserved.ensures in
    kept_host i K n c.host.new.self c.host.ensures.view c.push_reserved.new.self p.len p.capacity c.event_laws.ensures.nodes
    R by c.read_piece.new.reads
    (reads i K k q at c.view.result.now c.view.ensures.view c.piece-from.result c.piece-from.ensures n node c.junk_if-junk.result c.loads_undefined.result c.loads_undefined.ensures c.junk_if-junk.ensures c.host.new.self c.host.ensures.agrees R.fresh c.read_piece.new.reads.items c.read_piece.ensures)
    p.items
