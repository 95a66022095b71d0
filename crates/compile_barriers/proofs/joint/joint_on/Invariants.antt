use Rattle.std.proofs.Common.{◌≡◌, drop}
use Rattle.vk.specs.Sets.{union_from}
use Rattle.compile_barriers.specs.Unions.{on, stages_on, accesses_on, writes_on}
use Rattle.compile_barriers.proofs.joint.joint_on.Given as goal

abbrev pub invariant-loop-one : goal.invariant-loop-one
invariant-loop-one l = record {
  stages : union_from l.joint.stages.0 (λ u. u.stage.0) (on l.queue (drop l.one-index l.uses)) ≡ stages_on l.uses l.queue;
  accesses : union_from l.joint.accesses.0 (λ u. u.accesses.0) (on l.queue (drop l.one-index l.uses)) ≡ accesses_on l.uses l.queue;
  writes : union_from l.joint.writes.0 (λ u. u.writes.0) (on l.queue (drop l.one-index l.uses)) ≡ writes_on l.uses l.queue;
}
