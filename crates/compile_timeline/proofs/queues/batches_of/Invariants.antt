use Rattle.std.proofs.Common.{◌≡◌, length}
use Rattle.compile_timeline.specs.Below.{all_below}
use Rattle.compile_timeline.specs.Internal.Submissions.{nothing, Adds, ClosedAt}
use Rattle.compile_timeline.specs.Internal.Walks.{Knows}
use Rattle.compile_timeline.specs.Parts.{parts_at}
use Rattle.compile_timeline.proofs.queues.batches_of.Given as goal

abbrev pub invariant-loop-at : goal.invariant-loop-at
invariant-loop-at l = record {
  count : length l.needs.latest ≡ l.count;
  knows : Knows l.script l.queue l.at l.needs;
  added : Adds nothing l.submission (all_below (parts_at l.script l.count l.queue) l.at);
  closed : ClosedAt l.script l.count l.queue l.at l.submission;
}
