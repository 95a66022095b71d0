-- A worked row: two queues, the second of which begins first and waits late.
use Rattle.std.proofs.Common.{◌≡◌, true, false, List, [], ◌∷◌, map, refl}
use Rattle.base.specs.declared.shape.Family.{Family}
use Rattle.base.specs.declared.shape.Family.TheVariants.{Graphics, Compute}
use Rattle.law_plan.specs.Levels.{by_level}
use Rattle.law_schedule.specs.Levels.{level_of}
use Rattle.law_schedule.specs.Standing.{IsCut, read_number}
use Rattle.check_order.specs.Edges.{edge}
use Rattle.check_order.specs.Nodes.{program_nodes}
use Rattle.check_order.specs.declared.kind.Kind.TheVariants.{Barrier, Wait, Signal, Host}
use Rattle.program.specs.declared.program.Item as programs
use Rattle.program.specs.declared.program.Item.TheVariants.{Global}
use Rattle.program.specs.declared.program.Program.{Program}
use Rattle.compile_timeline.specs.Batches.{queues}
use Rattle.compile_timeline.specs.Places.{wait_number, item_number, signal_number}
use Rattle.compile_timeline.specs.declared.step.Step.{Step}
use Rattle.compile_timeline.specs.declared.step.Step.TheVariants.{Item, Need}

abbrev x : programs.Item
x = Global (record { src_stages = record { 0 = 0 }; src_accesses = record { 0 = 0 }; dst_stages = record { 0 = 0 }; dst_accesses = record { 0 = 0 } })

abbrev script : List Step
script = Item 1 x ∷ Item 0 x ∷ Item 0 x ∷ Need 1 1 ∷ Item 1 x ∷ Item 0 x ∷ []

abbrev families : List Family
families = Graphics ∷ Compute ∷ []

abbrev program : Program
program = record { memories = []; pieces = []; queues = queues script families; readbacks = 0 ∷ [] }

is_cut : IsCut program script families
is_cut = refl

-- queue 0 is signalled after the item that queue 1 waits for, and at its end
kinds : map (λ node. node.kind) (program_nodes program) ≡ Barrier ∷ Signal 1 ∷ Barrier ∷ Barrier ∷ Signal 2 ∷ Barrier ∷ Wait 0 1 ∷ Barrier ∷ Signal 1 ∷ Host ∷ []
kinds = refl

numbers : signal_number script 2 0 1 ∷ wait_number script 2 1 4 0 ∷ item_number script 2 1 4 ∷ item_number script 2 0 5 ∷ read_number script 2 0 ∷ [] ≡ 1 ∷ 6 ∷ 7 ∷ 3 ∷ 9 ∷ []
numbers = refl

crosses : edge (program_nodes program) 1 6 ≡ true
crosses = refl

-- queue 0 goes on without queue 1
free : edge (program_nodes program) 7 3 ≡ false
free = refl

levels : map (level_of script 2) (0 ∷ 1 ∷ 2 ∷ 3 ∷ 4 ∷ 5 ∷ 6 ∷ 7 ∷ 8 ∷ 9 ∷ []) ≡ 1 ∷ 1 ∷ 2 ∷ 5 ∷ 5 ∷ 0 ∷ 4 ∷ 4 ∷ 4 ∷ 6 ∷ []
levels = refl

-- step by step, and not queue by queue
in_order : by_level (level_of script 2) 10 ≡ 5 ∷ 0 ∷ 1 ∷ 2 ∷ 6 ∷ 7 ∷ 8 ∷ 3 ∷ 4 ∷ 9 ∷ []
in_order = refl
