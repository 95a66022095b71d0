use Rattle.std.proofs.Common.{◌≡◌, take}
use Rattle.frame.specs.Numbered.{numbered}
use Rattle.compile_groups.proofs.setting.families.Given as goal

abbrev pub invariant-loop-queue : goal.invariant-loop-queue
invariant-loop-queue l = l.families ≡ take l.queue (numbered l.frame).queues
