use Rattle.check_access.specs.AccessKinds.{sets_layout, sets_owner, transfers}
use Rattle.check_state.proofs.Tables.{last_own_more}
use Rattle.check_state.proofs.past.Past.add.Goals as goal

pub returns : goal.returns
returns c = λ pieces accesses j at P. record {
  layouts = last_own_more (λ a. sets_layout a.access.kind) pieces accesses j c.args.node_access c.sets_layout.result c.args.self.now.layouts c.put.new.self at c.sets_layout.ensures c.put.ensures P.layouts;
  owners = last_own_more (λ a. sets_owner a.access.kind) pieces accesses j c.args.node_access c.sets_owner.result c.args.self.now.owners c.put-2.new.self at c.sets_owner.ensures c.put-2.ensures P.owners;
  transfers = last_own_more (λ a. transfers a.access.kind) pieces accesses j c.args.node_access c.transfers.result c.args.self.now.transfers c.put-3.new.self at c.transfers.ensures c.put-3.ensures P.transfers;
}
