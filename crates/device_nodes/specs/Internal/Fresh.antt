-- What is known before anything has run.
use Rattle.std.specs.Prelude.{◌≡◌, length, replicate, false}
use Rattle.vk.specs.declared.layout.Layout.TheVariants.{Undefined}
use Rattle.device_nodes.specs.declared.fresh.Fresh.{Fresh}
use Rattle.device_model.specs.declared.owner.Owner.TheVariants.{Unused}
use Rattle.device_model.specs.declared.phase.Phase.TheVariants.{Idle}
use Rattle.check_access.specs.Views.{View}

pub record IsFresh (V : View) (fresh : Fresh) : Type 0 where
  pub phases : fresh.phases ≡ replicate (length V.nodes) Idle
  pub marked : fresh.marked ≡ replicate (length V.nodes) false
  pub layouts : fresh.layouts ≡ replicate (length V.pieces) Undefined
  pub owners : fresh.owners ≡ replicate (length V.pieces) Unused
  pub counters : fresh.counters ≡ replicate (length V.families) 0
