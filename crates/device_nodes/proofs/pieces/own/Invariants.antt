use Rattle.std.proofs.Common.{◌≡◌, length}
use Rattle.device_nodes.proofs.Walking.{OwnedFrom}
use Rattle.device_nodes.proofs.pieces.own.Given as goal

abbrev pub invariant-loop-access : goal.invariant-loop-access
invariant-loop-access l = record {
  size : length l.owners ≡ length l.initial.owners;
  owned : OwnedFrom l.view l.n l.access-items l.access-index l.initial.owners l.owners;
}
