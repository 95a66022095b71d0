-- One tap among several is served.
use Rattle.std.specs.Prelude.{◌≡◌, ℕ, List, Bool, slice_set}
use Rattle.std.specs.List.{HoldsAt}
use Rattle.std.specs.declared.option.Option.{Option}
use Rattle.base.specs.declared.event.Event.{Event}
use Rattle.base_io.specs.Served.{IsServed}

-- the tap at this place was served, and the others are as they were
pub record ServesAt {T : Type 0} (heard : T → Option (List Event)) (finished : T → Type 0) (events : List Event) (old : List T) (at : ℕ) (new : List T) (done : Bool) : Type 0 where
  pub tap : T
  pub items : new ≡ slice_set old at tap
  pub served : HoldsAt (λ before. IsServed (heard before) (heard tap) (finished tap) events done) old at
