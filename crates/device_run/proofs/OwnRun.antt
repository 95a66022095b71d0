-- What has happened on a device is a run.
use Rattle.std.proofs.Common.{◌≡◌, ◌∙◌, ◌<◌, ℕ, List, length, map, take, slice_get, Bool, true, false, Option, Some, None, refl, sym, ap, subst}
use Rattle.std.specs.Option.{option_map, option_map_or}
use Rattle.std.proofs.lemmas.List.{take-map}
use Rattle.std.proofs.lemmas.Option.{slice_get-map, slice_get_within}
use Rattle.base.proofs.Absence.{some_same}
use Rattle.base.specs.declared.event.Event.{Event}
use Rattle.device_model.proofs.Running.{opening_holds}
use Rattle.device_model.specs.Coming.{AllCame, is_enabled, left_by}
use Rattle.device_model.specs.Devices.{Device, IsComplete, opening, state_of, told}
use Rattle.device_model.specs.States.{opened}
use Rattle.device_model.specs.Steps.{Told, after}
use Rattle.device_run.specs.EveryRun.{IsRun}
use Rattle.program.specs.declared.program.Program.{Program}

-- the state that events leave, each with the fill byte as its junk
left_after : (program : Program) (fill : ℕ) (events : List Event) → left_by program fill events ≡ after program (opened (opening program fill)) (map (told fill) events)
unfolding state_of
left_after program fill events = refl

module _ (d : Device) (came : AllCame d) where
  abbrev Came : ℕ → Told → Type 0
  Came k t = is_enabled d.program (after d.program (opened (opening d.program d.fill)) (take k (map (told d.fill) d.history))) t.event ≡ true

  came_so : (k : ℕ) (t : Told) (found : Option Event) → slice_get d.history k ≡ found → option_map (told d.fill) found ≡ Some t → Came k t
  came_so k t None at is = absurd cc
  came_so k t (Some event) at is =
      let before = take k d.history in
      let there : is_enabled d.program (left_by d.program d.fill before) event ≡ true = sym (ap (λ (o : Option Event). option_map_or (is_enabled d.program (left_by d.program d.fill before)) o false) at) ∙ came k (slice_get_within d.history k event at) in
      let left = left_after d.program d.fill before ∙ ap (after d.program (opened (opening d.program d.fill))) (sym (take-map (told d.fill) k d.history)) in
      subst (λ (u : Told). Came k u) (some_same is) (subst (λ s. is_enabled d.program s event ≡ true) left there)

  pub own_run : IsComplete d → IsRun d.program (opening d.program d.fill) (map (told d.fill) d.history)
  unfolding state_of
  own_run complete = record {
    holds = opening_holds d.program d.fill;
    enabled = λ k t at. came_so k t (slice_get d.history k) refl (sym (slice_get-map (told d.fill) d.history k) ∙ at);
    complete = complete;
  }
