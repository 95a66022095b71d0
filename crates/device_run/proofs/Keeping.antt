-- Devices that are handed over, one after another.
use Rattle.std.proofs.Common.{◌≡◌, ◌++◌, List, [], Option, Some, None, refl, sym, ap, ◌∙◌, append_assoc, append-nil}
use Rattle.base.proofs.Absence.{some_same}
use Rattle.device_model.specs.Devices.{Device}
use Rattle.device_run.specs.Keepers.{KeptDevices, Kept}

-- nothing is handed over
pub kept_none : (o : Option (List Device)) → KeptDevices o o []
kept_none None = refl
kept_none (Some old) = ap (λ (ds : List Device). Some ds) (sym (append-nil old))

-- some devices, and then others
pub kept_more : (old middle new : Option (List Device)) (first second : List Device) → KeptDevices old middle first → KeptDevices middle new second → KeptDevices old new (first ++ second)
kept_more None middle new first second kept more = tells_nothing middle kept more
  where
    tells_nothing : (middle : Option (List Device)) → middle ≡ None → KeptDevices middle new second → new ≡ None
    tells_nothing None is more = more
    tells_nothing (Some devices) is more = absurd cc
kept_more (Some old) middle new first second kept more = tells_all middle kept more
  where
    tells_all : (middle : Option (List Device)) → middle ≡ Some (old ++ first) → KeptDevices middle new second → new ≡ Some (old ++ (first ++ second))
    tells_all None is more = absurd cc
    tells_all (Some devices) is more = more ∙ ap (λ (ds : List Device). Some (ds ++ second)) (some_same is) ∙ ap (λ (ds : List Device). Some ds) (append_assoc old first second)

-- what holds of the devices that were handed over
pub none_kept : (o : Option (List Device)) (P : List Device → Type 0) → P [] → Kept o o P
none_kept o P meets = record { devices = []; kept = kept_none o; meets = meets }

pub kept_so : (old new : Option (List Device)) (P Q : List Device → Type 0) → Kept old new P → ((devices : List Device) → P devices → Q devices) → Kept old new Q
kept_so old new P Q kept follows = record { devices = kept.devices; kept = kept.kept; meets = follows kept.devices kept.meets }
