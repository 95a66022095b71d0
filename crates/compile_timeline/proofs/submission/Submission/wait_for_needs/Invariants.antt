use Rattle.compile_timeline.specs.Internal.Submissions.{Adds, needed_waits}
use Rattle.compile_timeline.proofs.submission.Submission.wait_for_needs.Given as goal

abbrev pub invariant-loop-queue : goal.invariant-loop-queue
invariant-loop-queue l = Adds l.fn.self l.self (needed_waits l.needs l.values l.queue)
