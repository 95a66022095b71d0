use Rattle.std.proofs.Common.{◌≡◌, drop, take}
use Rattle.base.specs.Walks.{first_in}
use Rattle.program.proofs.walk.in_batches.Given as goal
use Rattle.program.specs.Rules.{next_place}
use Rattle.program.specs.Timelines.{highest}

abbrev pub invariant-loop-b : goal.invariant-loop-b
invariant-loop-b l = record {
  reached : l.reached ≡ highest (take l.b l.batches);
  so_far : first_in (next_place l.test.rule l.test.count l.test.shapes.now l.family l.q l.batches) l.b (drop l.b l.batches) ≡ first_in (next_place l.test.rule l.test.count l.test.shapes.now l.family l.q l.batches) 0 l.batches;
}
