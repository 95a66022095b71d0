use Rattle.std.proofs.Common.{◌∙◌, arith}
use Rattle.device.proofs.Reaches.{store_in_view, store_sized}
use Rattle.device.proofs.device.Device.store_len.Goals as goal

pub piece-piece-requires : goal.piece-piece-requires
piece-piece-requires c = store_in_view c.self.inside c.self.invariant c.args.self.now c.self.view_is c.args.node c.requires.command c.requires.node c.view-view.result.now c.view-view.ensures.view c.store_of.result c.store_of.ensures

pub overflow_cast-result : goal.overflow_cast-result
overflow_cast-result c = omega (arith, c.bytes.ensures.bytes, (store_sized c.self.inside c.self.invariant c.args.self.now c.self.view_is c.args.node c.requires.command c.requires.node c.view-view.result.now c.view-view.ensures.view c.store_of.result c.store_of.ensures c.piece-piece.result c.piece-piece.ensures).0)

pub returns : goal.returns
returns c = c.bytes.ensures.bytes ∙ (store_sized c.self.inside c.self.invariant c.args.self.now c.self.view_is c.args.node c.requires.command c.requires.node c.view-view.result.now c.view-view.ensures.view c.store_of.result c.store_of.ensures c.piece-piece.result c.piece-piece.ensures).1
