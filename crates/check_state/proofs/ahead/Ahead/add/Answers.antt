use Rattle.std.proofs.Common.{length, slice_set, not, sym, subst, ap, ◌∙◌}
use Rattle.std.proofs.lemmas.List.{length-set}
use Rattle.check_order.specs.Edges.{is_host, node_at}
use Rattle.check_access.specs.AccessKinds.{transfers}
use Rattle.check_state.specs.PieceStates.{kind_of}
use Rattle.check_state.specs.Internal.Tables.{NextFrom}
use Rattle.check_state.proofs.Tables.{first_own_more, next_more}
use Rattle.check_state.proofs.ahead.Ahead.add.Goals as goal

pub returns : goal.returns
returns c = λ accesses at A. record {
  owners = first_own_more (λ a. not (is_host (node_at c.args.view.now.nodes a.node).kind)) (length c.args.view.now.pieces) accesses c.args.j c.args.node_access (not c.is_host.result) c.args.self.now.owners c.put-2.new.self at (ap not (c.is_host.ensures ∙ ap (λ n. is_host n.kind) c.node.ensures)) c.put-2.ensures A.owners;
  transfers = first_own_more (λ a. transfers a.access.kind) (length c.args.view.now.pieces) accesses c.args.j c.args.node_access c.transfers.result c.args.self.now.transfers c.put.new.self at c.transfers.ensures c.put.ensures A.transfers;
  size = ap length c.set.ensures ∙ length-set c.args.self.now.next c.args.j c.kind_of.result ∙ A.size;
  next = subst (λ z. NextFrom accesses c.args.j z) (sym (c.set.ensures ∙ ap (λ d. slice_set c.args.self.now.next c.args.j d) (c.kind_of.ensures ∙ ap kind_of c.at.ensures))) (next_more (length c.args.view.now.pieces) accesses c.args.j c.args.node_access c.args.self.now.transfers c.args.self.now.next at A.transfers c.requires.transfers c.requires.next A.next);
}
