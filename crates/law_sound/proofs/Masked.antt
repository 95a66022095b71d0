-- On one queue the masks of barriers do what is asked of them.
use Rattle.law_sound.proofs.Reading.{reads}
use Rattle.law_sound.proofs.Served.{takes_prologue, takes_release, gives_prologue}
use Rattle.law_sound.proofs.Setting.{IsSet}
use Rattle.law_sound.specs.Nodes.{nodes_of}
use Rattle.law_sound.specs.Plan.{plan_of}
use Rattle.law_plan.specs.Masks.{Masks}
use Rattle.compile_groups.specs.declared.grouping.Grouping.{Grouping}
use Rattle.program.specs.declared.program.Program.{Program}
use Rattle.compile_barriers.specs.Under.{Heap}
use Rattle.check_access.specs.Views.{view_of}

pub masked : (G : Grouping) (heap : Heap) (P : Program) → IsSet G heap P → Masks (plan_of G heap) (view_of P) (nodes_of G heap)
masked G heap P S = record {
  takes_prologue = takes_prologue G heap P S;
  takes_release = takes_release G heap P S;
  gives = gives_prologue G heap P S;
  reads = reads G heap P S;
}
