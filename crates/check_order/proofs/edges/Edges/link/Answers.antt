use Rattle.check_order.proofs.Tables.{links_length, link_there}
use Rattle.check_order.proofs.edges.Edges.link.Goals as goal

pub index-requires : goal.index-requires
index-requires c = links_length c.self.inside.nodes c.args.self.now c.self.inside.links c.args.n c.self.view_is c.self.invariant.links c.requires.n

pub returns : goal.returns
returns c = link_there c.self.inside.nodes c.args.self.now c.self.inside.links c.args.n c.index.result.now c.self.view_is c.self.invariant.links c.requires.n c.index.ensures
