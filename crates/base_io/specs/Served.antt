-- What taps heard that were served one after another.
use Rattle.std.specs.Prelude.{◌≡◌, ◌<◌, ℕ, List, [], ◌∷◌, ◌++◌, length, take, slice_index, Bool, true, false}
use Rattle.std.specs.declared.option.Option.{Option}
use Rattle.base_io.specs.Taps.{Hears}
use Rattle.base.specs.declared.event.Event.{Event}

-- it heard the events before one of them, at which it finished
abbrev pub HearsBefore : Option (List Event) → Option (List Event) → Type 0 → List Event → Type 0
HearsBefore old new finished events = (n : ℕ) × (n < length events) × Hears old new (take n events) × finished

-- a tap was told the events: all of them, or those up to the one at which it finished
abbrev pub IsServed : Option (List Event) → Option (List Event) → Type 0 → List Event → Bool → Type 0
IsServed old new finished events false = Hears old new events
IsServed old new finished events true = HearsBefore old new finished events

-- The lent taps were served in their order. One that stays is among the kept, one that finished among the spent, with its
-- old place.
pub data Splits {T : Type 0} (heard : T → Option (List Event)) (finished : T → Type 0) (events : List Event) : List T → List T → List T → List ℕ → Type 0 where
  none : Splits heard finished events [] [] [] []
  stays : {lent kept spent : List T} {places : List ℕ} (old new : T)
      → Splits heard finished events lent kept spent places
      → IsServed (heard old) (heard new) (finished new) events false
      → Splits heard finished events (lent ++ old ∷ []) (kept ++ new ∷ []) spent places
  ends : {lent kept spent : List T} {places : List ℕ} (old new : T)
      → Splits heard finished events lent kept spent places
      → IsServed (heard old) (heard new) (finished new) events true
      → Splits heard finished events (lent ++ old ∷ []) kept (spent ++ new ∷ []) (places ++ length lent ∷ [])

-- each number is greater than the one before it, and all are below the end
abbrev pub IsRising : List ℕ → ℕ → Type 0
IsRising xs end = (k : ℕ) → k < length xs → (slice_index xs k < end) × ((j : ℕ) → j < k → slice_index xs j < slice_index xs k)

pub record AreServed {T : Type 0} (heard : T → Option (List Event)) (finished : T → Type 0) (events : List Event) (lent kept spent : List T) (places : List ℕ) : Type 0 where
  pub split : Splits heard finished events lent kept spent places
  -- so the places rise, each is one of the lent list, and there are as many as spent taps
  pub rising : IsRising places (length lent)
  pub as_many : length places ≡ length spent
