-- What holds of a running device.
use Rattle.std.specs.Prelude.{◌≡◌, ◌⊎◌, ℕ, ◌<◌, [], ◌∷◌, length, true}
use Rattle.base.specs.declared.event.Event.{Event}
use Rattle.base.specs.declared.event.Event.TheVariants.{Begin, End, Sync, Host}
use Rattle.check_program.specs.Sound.{IsSound}
use Rattle.device_model.specs.Devices.{Device, state_of, view_in, did, is_ready, IsComplete, NoneBegun, LoadsApart, StoresApart, ReadsApart, NeverStands}
use Rattle.device_model.specs.Ready.{is_command, kind_at, read_node}
use Rattle.device_model.specs.States.{is_begun, is_done}
use Rattle.device_model.specs.Steps.{begun, made, ended, synced, hosted, step}
use Rattle.check_order.specs.Edges.{is_sync, is_host}

-- one more event is one step
abbrev pub StepsOn : Device → Type 0
StepsOn d = (event : Event) → state_of (did d event) ≡ step d.program (state_of d) event (d.fill ∷ [])

-- what each enabled event of a node does
pub record GoesOnBy (d : Device) (n : ℕ) : Type 0 where
  pub begins : is_command (kind_at (view_in d) n) ≡ true → is_ready d n ≡ true → state_of (did d (Begin n)) ≡ begun (view_in d) (state_of d) n (d.fill ∷ [])
  pub ends : is_begun ((state_of d).phase n) ≡ true → state_of (did d (End n)) ≡ ended (view_in d) (state_of d) n (made d.program (state_of d) n (d.fill ∷ []))
  pub syncs : is_sync (kind_at (view_in d) n) ≡ true → is_ready d n ≡ true → state_of (did d (Sync n)) ≡ synced (view_in d) (state_of d) n (d.fill ∷ [])
  pub reads : is_host (kind_at (view_in d) n) ≡ true → is_ready d n ≡ true → state_of (did d (Host n)) ≡ hosted (view_in d) (state_of d) n (d.fill ∷ [])

pub record Runs (d : Device) : Type 0 where
  pub steps : StepsOn d
  pub goes : (n : ℕ) → GoesOnBy d n
  -- where its program is sound
  pub loads : (n : ℕ) → is_begun ((state_of d).phase n) ≡ true → LoadsApart d n ((state_of d).loaded n)
  pub stores : (n : ℕ) → is_begun ((state_of d).phase n) ≡ true → StoresApart d n (made d.program (state_of d) n (d.fill ∷ []))
  pub read : (k : ℕ) → k < length d.program.readbacks → is_done ((state_of d).phase (read_node d.program k)) ≡ true → ReadsApart d k ((state_of d).host (read_node d.program k))
  pub all_read : IsComplete d → (k : ℕ) → k < length d.program.readbacks → ReadsApart d k ((state_of d).host (read_node d.program k))
  pub stands : NeverStands d
  pub next : IsSound d.program → NoneBegun d → IsComplete d ⊎ ((n : ℕ) × (is_ready d n ≡ true))
