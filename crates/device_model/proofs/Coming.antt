-- One more event that can come.
use Rattle.std.proofs.Common.{◌≡◌, ◌∙◌, ℕ, ◌<◌, ◌+◌, List, [], ◌∷◌, ◌++◌, length, Bool, true, false, Option, Some, refl, sym, ap, ap₂, ⊎_elim, eq-or-lt_of_le, arith}
use Rattle.std.specs.Option.{option_map_or}
use Rattle.std.proofs.Math.Seq.{take-append_seam, get_or-append_seam}
use Rattle.std.proofs.lemmas.List.{take-append-le, get_or_append_left, length-append}
use Rattle.std.proofs.lemmas.Option.{slice_get-get_or}
use Rattle.base.specs.declared.event.Event.{Event}
use Rattle.device_model.specs.Coming.{is_enabled, left_by, is_enabled_at, AreEnabled, AllCame}
use Rattle.device_model.specs.Devices.{Device, state_of, did}
use Rattle.device_model.specs.States.{State}
use Rattle.program.specs.declared.program.Program.{Program}

-- moves that are left change nothing of the state
pub left_is : (d : Device) → left_by d.program d.fill d.history ≡ state_of d
unfolding state_of
left_is d = refl

module _ (program : Program) (fill : ℕ) where
  abbrev seen : List Event → Option Event → Bool
  seen before event = option_map_or (is_enabled program (left_by program fill before)) event false

  module _ (events : List Event) (event : Event) where
    longer : length (events ++ event ∷ []) ≡ length events + 1
    longer = length-append events (event ∷ [])

    -- the earlier ones are as they were
    earlier : (k : ℕ) → k < length events → is_enabled_at program fill (events ++ event ∷ []) k ≡ is_enabled_at program fill events k
    earlier k lt =
        ap₂ seen
        (take-append-le k events (event ∷ []) (omega (arith, lt)))
        (slice_get-get_or (events ++ event ∷ []) k event (omega (arith, lt, longer)) ∙ ap Some (get_or_append_left events (event ∷ []) event k lt) ∙ sym (slice_get-get_or events k event lt))

    last : is_enabled_at program fill (events ++ event ∷ []) (length events) ≡ is_enabled program (left_by program fill events) event
    last =
        ap₂ seen
        (take-append_seam events (event ∷ []))
        (slice_get-get_or (events ++ event ∷ []) (length events) event (omega (arith, longer)) ∙ ap Some (get_or-append_seam events event [] event))

    enabled_more : AreEnabled program fill events (length events) → is_enabled program (left_by program fill events) event ≡ true → AreEnabled program fill (events ++ event ∷ []) (length (events ++ event ∷ []))
    enabled_more so_far may k lt = ⊎_elim
        (λ same. ap (is_enabled_at program fill (events ++ event ∷ [])) same ∙ last ∙ may)
        (λ less. earlier k less ∙ so_far k less)
        (eq-or-lt_of_le (omega (arith, lt, longer)))

-- each event of a history could come, and one more can
pub came_more : (d : Device) (event : Event) → AllCame d → is_enabled d.program (state_of d) event ≡ true → AllCame (did d event)
came_more d event came may = enabled_more d.program d.fill d.history event came (ap (λ (s : State). is_enabled d.program s event) (left_is d) ∙ may)
