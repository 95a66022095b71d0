use Rattle.std.proofs.Common.{refl, ◌∙◌, arith}
use Rattle.std.specs.Prelude.{replicate}
use Rattle.base.specs.Shapes.{bytes_of}
use Rattle.device.proofs.Reaches.{in_view, in_agents, agent_fits, piece_fits, in_memory, is_taken}
use Rattle.device.proofs.device.Device.load.Goals as goal

pub piece-piece-requires : goal.piece-piece-requires
piece-piece-requires c = in_view c.self.inside c.self.invariant c.args.self.now c.self.view_is c.args.node c.requires.command c.args.access c.requires.has c.view.result.now c.view.ensures.view

pub loads_undefined-undefined-requires-clause-piece : goal.loads_undefined-undefined-requires-clause-piece
loads_undefined-undefined-requires-clause-piece c = in_view c.self.inside c.self.invariant c.args.self.now c.self.view_is c.args.node c.requires.command c.args.access c.requires.has c.self.inside.control.view refl

pub agent_of-agent-requires : goal.agent_of-agent-requires
agent_of-agent-requires c = agent_fits c.self.inside c.self.invariant c.args.self.now c.self.view_is c.args.node c.requires.command c.args.access c.requires.has

pub sight-requires-clause-small : goal.sight-requires-clause-small
sight-requires-clause-small c = piece_fits c.self.inside c.self.invariant c.args.self.now c.self.view_is c.args.node c.requires.command c.args.access c.requires.has c.view.result.now c.view.ensures.view c.piece-piece.result c.piece-piece.ensures

pub sight-requires-clause-agent : goal.sight-requires-clause-agent
sight-requires-clause-agent c = omega (arith, c.agent_of-agent.ensures, in_agents c.self.inside c.self.invariant c.args.self.now c.self.view_is c.args.node c.requires.command c.args.access c.requires.has)

pub sight-requires-clause-within : goal.sight-requires-clause-within
sight-requires-clause-within c = in_memory c.self.inside c.self.invariant c.args.self.now c.self.view_is c.args.node c.requires.command c.args.access c.requires.has c.view.result.now c.view.ensures.view c.piece-piece.result c.piece-piece.ensures

pub returns : goal.returns
returns c =
    c.in_ok-contents.ensures
    ∙ is_taken c.self.inside c.self.invariant c.args.self.now c.self.view_is c.args.node c.requires.command c.args.access c.requires.has c.view.result.now c.view.ensures.view c.piece-piece.result c.piece-piece.ensures c.loads_undefined-undefined.result c.agent_of-agent.result (replicate (bytes_of c.piece-piece.result.shape) c.self.inside.fill) c.loads_undefined-undefined.ensures c.agent_of-agent.ensures refl
