-- What a round of events of one node leaves.
use Rattle.std.proofs.Common.{◌≡◌, ℕ, ◌+◌, ◌==◌, Bool, true, false, [], ◌∷◌, length, None, if◌then◌else◌, refl, sym, ap, ◌∙◌, ⊎_elim}
use mathlib.Core.Path.{fun_ext}
use Rattle.std.proofs.lemmas.Bool.{false≢true, cases_Bool}
use Rattle.base.specs.declared.event.Event.{Event}
use Rattle.base.specs.declared.event.Event.TheVariants.{Begin, End, Sync, Move, Host}
use Rattle.device_model.specs.Devices.{Device, state_of, did, view_in, is_ready, NoneBegun}
use Rattle.device_model.specs.Histories.{is_move}
use Rattle.device_model.specs.Ready.{is_command}
use Rattle.device_model.specs.Rounds.{left, Round, MayGo, IsRound, IsJob, LeavesPhases, CountsDown}
use Rattle.device_model.specs.States.{is_begun, is_done, State, put}
use Rattle.device_model.specs.Steps.{lines_moved, may_move, step}
use Rattle.device_model.specs.declared.phase.Phase.{Phase}
use Rattle.device_model.specs.declared.phase.Phase.TheVariants.{Begun, Done}
use Rattle.device_model.proofs.Control.{put_at, still_begun, ready_within, idle_not_done, ready_first}
use Rattle.device_model.proofs.Left.{left_less, left_most, none_left}
use Rattle.device_model.proofs.Moving.{lines_alone}
use Rattle.device_model.proofs.Running.{steps_on, goes_on_by, moved_as, runs}
use Rattle.program.specs.FirstFault.{first_fault}

-- A JOB

begun_then : (d : Device) (n : ℕ) → MayGo is_command d n → is_begun ((state_of (did d (Begin n))).phase n) ≡ true
begun_then d n may = ap (λ s. is_begun (s.phase n)) ((goes_on_by d n).begins may.kind may.ready) ∙ ap is_begun (put_at (state_of d).phase n n Begun refl)

pub is_job : (d : Device) → first_fault d.program ≡ None → (n : ℕ) → MayGo is_command d n → IsJob d n
is_job d none n may = record { begun = begun_then d n may; apart = (runs (did d (Begin n)) none).loads n (begun_then d n may) }

-- CACHE MOVES

kept : (b : Bool) (s t : State) → t.phase ≡ s.phase → (if b then t else s).phase ≡ s.phase
kept true s t e = e
kept false s t e = refl

pub leaves_phases : (d : Device) (event : Event) → is_move event ≡ true → LeavesPhases d event
leaves_phases d event e = ap (λ s. s.phase) (moved_as d event ∙ steps_on d event) ∙ by event e
  where
    by : (event : Event) → is_move event ≡ true → (step d.program (state_of d) event (d.fill ∷ [])).phase ≡ (state_of d).phase
    by (Move m) e = kept (may_move d.program m) (state_of d) (lines_moved (state_of d) m) (ap (λ s. s.phase) (lines_alone (state_of d) m))
    by event e = absurd (false≢true e)

-- A ROUND

module _ (d : Device) (n : ℕ) (idle : NoneBegun d) where
  settled : is_ready d n ≡ true → (e : Device) → view_in e ≡ view_in d → (state_of e).phase ≡ put (state_of d).phase n Done → Round d e
  settled may e same phases = record {
    idle = λ k. ⊎_elim (λ b. absurd (false≢true (sym (idle k) ∙ still_begun (state_of d).phase n k (sym (ap (λ f. is_begun (f k)) phases) ∙ b)))) (λ b. b) (cases_Bool (is_begun ((state_of e).phase k)));
    less = ap (λ V. left (state_of e).phase (length V.nodes) + 1) same ∙ ap (λ f. left f (length (view_in d).nodes) + 1) phases ∙ left_less (state_of d).phase (length (view_in d).nodes) n (ready_within (view_in d) (state_of d) n may) fresh;
  }
    where
      fresh : is_done ((state_of d).phase n) ≡ false
      fresh = ⊎_elim (λ h. absurd (idle_not_done ((state_of d).phase n) (ready_first (view_in d) (state_of d) n may) h)) (λ h. h) (cases_Bool (is_done ((state_of d).phase n)))

  command_round : MayGo is_command d n → Round d (did (did d (Begin n)) (End n))
  command_round may = settled may.ready (did (did d (Begin n)) (End n)) refl (ended ∙ fun_ext once)
    where
      began : (state_of (did d (Begin n))).phase ≡ put (state_of d).phase n Begun
      began = ap (λ s. s.phase) ((goes_on_by d n).begins may.kind may.ready)

      ended : (state_of (did (did d (Begin n)) (End n))).phase ≡ put (put (state_of d).phase n Begun) n Done
      ended = ap (λ s. s.phase) ((goes_on_by (did d (Begin n)) n).ends (begun_then d n may)) ∙ ap (λ f. put f n Done) began

      last : (b : Bool) (u v w : Phase) → (if b then u else (if b then v else w)) ≡ (if b then u else w)
      last true u v w = refl
      last false u v w = refl

      once : (x : ℕ) → put (put (state_of d).phase n Begun) n Done x ≡ put (state_of d).phase n Done x
      once x = last (x == n) Done Begun ((state_of d).phase x)

  pub is_round : IsRound d n
  is_round = record {
    command = command_round;
    sync = λ may. settled may.ready (did d (Sync n)) refl (ap (λ s. s.phase) ((goes_on_by d n).syncs may.kind may.ready));
    host = λ may. settled may.ready (did d (Host n)) refl (ap (λ s. s.phase) ((goes_on_by d n).reads may.kind may.ready));
  }

pub counts_down : (d : Device) → CountsDown d
counts_down d = record {
  most = left_most (state_of d).phase (length (view_in d).nodes);
  none = λ e. none_left (state_of d).phase (length (view_in d).nodes) e;
}
