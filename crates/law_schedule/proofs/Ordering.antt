-- The order by steps.
use Rattle.std.proofs.Common.{◌≡◌, inl, ℕ, ◌<◌, List, length, true, arith}
use Rattle.law_plan.specs.Laws.{LevelsGiveOrder, LowerFirst}
use Rattle.law_plan.specs.Levels.{Leveled, by_level}
use Rattle.law_schedule.specs.Levels.{level_of, AreSteps, IsByStep}
use Rattle.law_schedule.specs.Standing.{AllStand}
use Rattle.check_order.specs.Nodes.{program_nodes}
use Rattle.check_order.specs.Orders.{Earlier}
use Rattle.program.specs.declared.program.Program.{Program}
use Rattle.compile_timeline.proofs.Latest.{item_there}
use Rattle.compile_timeline.specs.Places.{item_number}
use Rattle.compile_timeline.specs.Steps.{has_item, IsScript}
use Rattle.compile_timeline.specs.declared.step.Step.{Step}

module _ (P : Program) (script : List Step) (count : ℕ) (T : AllStand P script count) (steps : AreSteps script count) (K : IsScript script count) (leveled : Leveled (program_nodes P) (level_of script count)) (has_order : LevelsGiveOrder (program_nodes P) (level_of script count)) (sorted : LowerFirst (level_of script count) (length (program_nodes P))) where
  abbrev order : List ℕ
  order = by_level (level_of script count) (length (program_nodes P))

  there : (q i : ℕ) → has_item script q i ≡ true → item_number script count q i < length (program_nodes P)
  there q i h = let t = item_there script q i h in (T.item q i t.0 (K.items i q h) t.1).within

  items : (q r i k : ℕ) → has_item script q i ≡ true → has_item script r k ≡ true → i < k → Earlier order (item_number script count q i) (item_number script count r k)
  items q r i k hi hk lt =
      let a = steps.item q i (K.items i q hi) hi in
      let b = steps.item r k (K.items k r hk) hk in
      sorted (item_number script count q i) (item_number script count r k) (there q i hi) (there r k hk) (inl (omega (arith, a, b, lt)))

  pub by_step : (order : List ℕ) × IsByStep P script count order
  by_step = (order, record { order = has_order leveled; levels = sorted; items = items })
