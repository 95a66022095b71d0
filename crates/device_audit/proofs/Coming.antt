-- Events come one after another, each in its place.
use Rattle.std.proofs.Common.{◌≡◌, ℕ, suc, ◌+◌, ◌-◌, ◌<◌, List, [], ◌∷◌, ◌++◌, length, take, drop, take-suc, drop-cons, get_or, slice_get, Bool, true, false, Some, if◌then◌else◌, refl, sym, ap, ap₂, ◌∙◌, subst, ⊎_elim, eq-or-lt_of_le, arith}
use Rattle.std.specs.Option.{option_map_or}
use Rattle.std.proofs.Math.Seq.{take-length, drop-length}
use Rattle.std.proofs.lemmas.List.{get_or_default}
use Rattle.std.proofs.lemmas.Option.{slice_get-get_or}
use Rattle.device_audit.specs.Internal.Following.{at_place, came, goes, Follows}
use Rattle.device_audit.specs.Runs.{IsFirstStray}
use Rattle.device_audit.specs.Verdicts.{ran}
use Rattle.base.specs.declared.event.Event.{Event}
use Rattle.device_model.specs.Coming.{is_enabled, left_by, is_enabled_at, AreEnabled}
use Rattle.device_model.specs.Devices.{Device, state_of, fresh}
use Rattle.device_model.specs.Histories.{is_move, moves_in}
use Rattle.program.specs.declared.program.Program.{Program}

module _ (program : Program) (events : List Event) where
  pub at_start : at_place program events 0 ≡ fresh program 0 (length (moves_in events))
  at_start = refl

  pub at_end : at_place program events (length events) ≡ ran program events
  at_end = ap₂ (λ h m. record { program = program; fill = 0; history = h; moves = m }) (take-length events) (ap (λ l. length (moves_in l)) (drop-length events))

  pub state_at : (k : ℕ) → state_of (at_place program events k) ≡ left_by program 0 (take k events)
  unfolding state_of
  state_at k = refl

  module _ (k : ℕ) (event : Event) (lt : k < length events) (is : get_or events k event ≡ event) where
    got : slice_get events k ≡ Some event
    got = slice_get-get_or events k event lt ∙ ap (λ e. Some e) is

    rest : drop k events ≡ event ∷ drop (k + 1) events
    rest = drop-cons events k event lt ∙ ap₂ (λ e j. e ∷ drop j events) is (let e : suc k ≡ k + 1 = omega arith in e)

    longer : take (k + 1) events ≡ take k events ++ event ∷ []
    longer = ap (λ j. take j events) (let e : k + 1 ≡ suc k = omega arith in e) ∙ take-suc events k event lt ∙ ap (λ e. take k events ++ e ∷ []) is

    pub goes_here : goes (at_place program events k) event ≡ is_enabled_at program 0 events k
    goes_here = ap (λ s. is_enabled program s event) (state_at k) ∙ sym (ap (λ e. option_map_or (is_enabled program (left_by program 0 (take k events))) e false) got)

    counted : (b : Bool) (moves : List Event) (d : Device) → (if b then record d { history = d.history ++ event ∷ []; moves = length (if b then event ∷ moves else moves) - 1 } else record d { history = d.history ++ event ∷ []; moves = length (if b then event ∷ moves else moves) }) ≡ record d { history = d.history ++ event ∷ []; moves = length moves }
    counted true moves d = ap (λ m. record d { history = d.history ++ event ∷ []; moves = m }) (omega arith)
    counted false moves d = refl

    pub came_next : came (at_place program events k) event ≡ at_place program events (k + 1)
    came_next =
        ap (λ m. came (record { program = program; fill = 0; history = take k events; moves = m }) event) (ap (λ l. length (moves_in l)) rest)
        ∙ counted (is_move event) (moves_in (drop (k + 1) events)) (record { program = program; fill = 0; history = take k events; moves = 0 })
        ∙ ap (λ h. record { program = program; fill = 0; history = h; moves = length (moves_in (drop (k + 1) events)) }) (sym longer)

    module _ (new : Device) (made : Bool) (follows : Follows (at_place program events k) new event made) where
      -- it came
      pub next_place : made ≡ true → new ≡ at_place program events (k + 1)
      next_place went = follows.effect ∙ ap (λ (b : Bool). if b then came (at_place program events k) event else at_place program events k) went ∙ came_next

      pub enabled_next : made ≡ true → AreEnabled program 0 events k → AreEnabled program 0 events (k + 1)
      enabled_next went so_far j small = ⊎_elim
          (λ same. subst (λ i. is_enabled_at program 0 events i ≡ true) (sym same) (sym goes_here ∙ sym follows.enabled ∙ went))
          (λ earlier. so_far j earlier)
          (eq-or-lt_of_le (omega (arith, small)))

      -- it cannot come
      pub first_stray : made ≡ false → AreEnabled program 0 events k → IsFirstStray program events k
      first_stray not so_far = record { there = lt; before = so_far; stray = sym goes_here ∙ sym follows.enabled ∙ not }

-- the event in its place is made, or not
module _ (program : Program) (events : List Event) (k : ℕ) (lt : k < length events) (d : Event) (old new : Device) (made : Bool) (place : old ≡ at_place program events k) (follows : Follows old new (get_or events k d) made) (so_far : AreEnabled program 0 events k) where
  abbrev event : Event
  event = get_or events k d

  here : Follows (at_place program events k) new event made
  here = subst (λ (x : Device). Follows x new event made) place follows

  own : get_or events k event ≡ event
  own = get_or_default events k event d lt

  pub placed : made ≡ true → new ≡ at_place program events (k + 1)
  placed went = next_place program events k event lt own new made here went

  pub enabled_on : made ≡ true → AreEnabled program 0 events (k + 1)
  enabled_on went = enabled_next program events k event lt own new made here went so_far

  pub strays : made ≡ false → IsFirstStray program events k
  strays not = first_stray program events k event lt own new made here not so_far
