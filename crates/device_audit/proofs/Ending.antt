-- A node is done exactly where an event has ended it.
use Rattle.std.proofs.Common.{◌≡◌, ℕ, zero, suc, ◌<◌, ◌≤◌, ◌==◌, ◌||◌, List, [], ◌∷◌, ◌++◌, length, take, take-suc, get_or, Bool, true, false, if◌then◌else◌, refl, sym, ap, ◌∙◌, arith}
use Rattle.std.specs.Option.{option_map_or}
use Rattle.std.proofs.lemmas.Bool.{and_parts}
use Rattle.std.proofs.lemmas.List.Folds.{list_any-append}
use Rattle.std.proofs.lemmas.Option.{slice_get-get_or}
use Rattle.device_audit.specs.Internal.Following.{ends, is_ended}
use Rattle.device_audit.specs.Verdicts.{ran}
use Rattle.base.specs.declared.event.Event.{Event}
use Rattle.base.specs.declared.event.Event.TheVariants.{Begin, End, Sync, Move, Host}
use Rattle.device_model.specs.Coming.{is_enabled, left_by, is_enabled_at, AreEnabled}
use Rattle.device_model.specs.Devices.{state_of}
use Rattle.device_model.specs.Ready.{is_command, kind_at, ready}
use Rattle.device_model.specs.States.{is_done, State}
use Rattle.device_model.specs.Steps.{step, may_move, begun, made, ended, synced, hosted, lines_moved}
use Rattle.device_model.specs.declared.phase.Phase.{Phase}
use Rattle.device_model.specs.declared.phase.Phase.TheVariants.{Done}
use Rattle.device_model.proofs.Control.{done_begun, idle_not_done, ready_first}
use Rattle.device_model.proofs.Moving.{lines_alone}
use Rattle.device_model.proofs.Running.{steps_on}
use Rattle.program.specs.declared.program.Program.{Program}
use Rattle.check_access.specs.Views.{view_of}

or_false : (b : Bool) → b ≡ (b || false)
or_false true = refl
or_false false = refl

or_true : (b : Bool) → true ≡ (b || true)
or_true true = refl
or_true false = refl

done_or : (b : Bool) (p : Phase) → is_done (if b then Done else p) ≡ (is_done p || b)
done_or true p = or_true (is_done p)
done_or false p = or_false (is_done p)

-- ONE EVENT

module _ (program : Program) (s : State) (junk : List ℕ) (n : ℕ) where
  stays : (t : State) (b : Bool) → t.phase ≡ s.phase → is_done ((if b then t else s).phase n) ≡ (is_done (s.phase n) || false)
  stays t true same = ap (λ (f : ℕ → Phase). is_done (f n)) same ∙ or_false (is_done (s.phase n))
  stays t false same = or_false (is_done (s.phase n))

  pub step_ends : (event : Event) → is_enabled program s event ≡ true → is_done ((step program s event junk).phase n) ≡ (is_done (s.phase n) || ends n event)
  step_ends (Begin m) may =
      let V = view_of program in
      let goes = (and_parts (is_command (kind_at V m)) (ready V s m) may).1 in
      ap (λ b. is_done ((if b then begun V s m junk else s).phase n)) may
      ∙ sym (done_begun s.phase m (idle_not_done (s.phase m) (ready_first V s m goes)) n)
      ∙ or_false (is_done (s.phase n))
  step_ends (End m) may =
      ap (λ b. is_done ((if b then ended (view_of program) s m (made program s m junk) else s).phase n)) may ∙ done_or (n == m) (s.phase n)
  step_ends (Sync m) may =
      ap (λ b. is_done ((if b then synced (view_of program) s m junk else s).phase n)) may ∙ done_or (n == m) (s.phase n)
  step_ends (Host m) may =
      ap (λ b. is_done ((if b then hosted (view_of program) s m junk else s).phase n)) may ∙ done_or (n == m) (s.phase n)
  step_ends (Move m) may = stays (lines_moved s m) (may_move program m) (ap (λ s. s.phase) (lines_alone s m))

-- ALL EVENTS

pub left_more : (program : Program) (events : List Event) (event : Event) → left_by program 0 (events ++ event ∷ []) ≡ step program (left_by program 0 events) event (0 ∷ [])
left_more program events event = steps_on (ran program events) event

module _ (program : Program) (events : List Event) where
  abbrev before : ℕ → List Event
  before k = take k events

  came_at : (k : ℕ) → k < length events → is_enabled_at program 0 events k ≡ true → is_enabled program (left_by program 0 (before k)) (get_or events k (Begin 0)) ≡ true
  came_at k lt may = sym (ap (λ e. option_map_or (is_enabled program (left_by program 0 (before k))) e false) (slice_get-get_or events k (Begin 0) lt)) ∙ may

  pub ended_at : (k : ℕ) → k ≤ length events → AreEnabled program 0 events k → (n : ℕ) → is_done ((left_by program 0 (before k)).phase n) ≡ is_ended (before k) n
  unfolding state_of
  ended_at zero le may n = refl
  ended_at (suc k) le may n =
      let lt : k < length events = omega (arith, le) in
      let event = get_or events k (Begin 0) in
      let longer = take-suc events k (Begin 0) lt in
      ap (λ l. is_done ((left_by program 0 l).phase n)) longer
      ∙ ap (λ s. is_done (s.phase n)) (left_more program (before k) event)
      ∙ step_ends program (left_by program 0 (before k)) (0 ∷ []) n event (came_at k lt (may k (omega arith)))
      ∙ ap (λ b. b || ends n event) (ended_at k (omega (arith, le)) (λ j small. may j (omega (arith, small))) n)
      ∙ ap (λ b. is_ended (before k) n || b) (or_false (ends n event))
      ∙ sym (list_any-append (ends n) (before k) (event ∷ []))
      ∙ ap (λ l. is_ended l n) (sym longer)
