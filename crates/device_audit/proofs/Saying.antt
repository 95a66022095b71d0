-- One verdict holds of a trace, and no other.
use Rattle.std.proofs.Common.{◌≡◌, ◌⊎◌, inl, inr, ◌↔◌, ℕ, ◌<◌, List, length, None, IsTrue, refl, sym, ap, ◌∙◌, subst, arith}
use Rattle.std.proofs.Math.Seq.{take-length}
use Rattle.std.proofs.lemmas.Bool.{cases_order, false≢true}
use Rattle.device_audit.specs.Internal.Following.{is_ended, AreEnded, IsLeastUnended}
use Rattle.device_audit.specs.Runs.{IsRun, IsFirstStray, IsLeastUndone}
use Rattle.device_audit.specs.Verdicts.{is_run, ran, AllReadApart, IfRun, IsRunOn, Says}
use Rattle.device_audit.specs.declared.verdict.Verdict.{Verdict}
use Rattle.device_audit.specs.declared.verdict.Verdict.TheVariants.{Run, NotEnabled, Unfinished}
use Rattle.device_audit.proofs.Ending.{ended_at}
use Rattle.base.specs.declared.event.Event.{Event}
use Rattle.device_model.specs.Coming.{left_by, AreEnabled}
use Rattle.device_model.specs.Devices.{Device, IsComplete}
use Rattle.device_model.specs.Laws.{AllDone}
use Rattle.device_model.specs.Runs.{Runs}
use Rattle.device_model.specs.States.{is_done}
use Rattle.program.specs.FirstFault.{first_fault}
use Rattle.program.specs.declared.program.Program.{Program}
use Rattle.check_access.specs.Views.{view_of}

module _ (program : Program) (events : List Event) where
  -- what cannot come first cannot come first at another place
  first_once : (a b : ℕ) → IsFirstStray program events a → IsFirstStray program events b → a ≡ b
  first_once a b x y = by (cases_order a b)
    where
      by : (a ≡ b) ⊎ ((a < b) ⊎ (b < a)) → a ≡ b
      by (inr (inl lt)) = absurd (false≢true (sym x.stray ∙ y.before a lt))
      by (inl e) = e
      by (inr (inr gt)) = absurd (false≢true (sym y.stray ∙ x.before b gt))

  least_once : (a b : ℕ) → IsLeastUndone program events a → IsLeastUndone program events b → a ≡ b
  least_once a b x y = by (cases_order a b)
    where
      by : (a ≡ b) ⊎ ((a < b) ⊎ (b < a)) → a ≡ b
      by (inr (inl lt)) = absurd (false≢true (sym x.undone ∙ y.least a lt))
      by (inl e) = e
      by (inr (inr gt)) = absurd (false≢true (sym y.undone ∙ x.least b gt))

  no_stray : AreEnabled program 0 events (length events) → (at : ℕ) → IsFirstStray program events at → ⊥
  no_stray all at x = false≢true (sym x.stray ∙ all at x.there)

  no_undone : AllDone (view_of program) (left_by program 0 events) → (node : ℕ) → IsLeastUndone program events node → ⊥
  no_undone all node x = false≢true (sym x.undone ∙ all node x.there)

  pub only : (a b : Verdict) → Says program events a → Says program events b → b ≡ a
  only (Run d) (Run e) x y = ap Run (y.same ∙ sym x.same)
  only (Run d) (NotEnabled at) x y = absurd (no_stray x.run.enabled at y)
  only (Run d) (Unfinished node) x y = absurd (no_undone x.run.complete node y)
  only (NotEnabled at) (Run e) x y = absurd (no_stray y.run.enabled at x)
  only (NotEnabled at) (NotEnabled to) x y = ap NotEnabled (first_once to at y x)
  only (NotEnabled at) (Unfinished node) x y = absurd (no_stray y.enabled at x)
  only (Unfinished node) (Run e) x y = absurd (no_undone y.run.complete node x)
  only (Unfinished node) (NotEnabled at) x y = absurd (no_stray x.enabled at y)
  only (Unfinished node) (Unfinished other) x y = ap Unfinished (least_once other node y x)

  pub run_says : (verdict : Verdict) → Says program events verdict → IsTrue (is_run verdict) ↔ IsRun program events
  run_says (Run d) x = ((λ is. x.run), (λ run. refl))
  run_says (NotEnabled at) x = ((λ is. absurd (false≢true is)), (λ run. absurd (no_stray run.enabled at x)))
  run_says (Unfinished node) x = ((λ is. absurd (false≢true is)), (λ run. absurd (no_undone run.complete node x)))

  run_complete : IsRun program events → IsComplete (ran program events)
  run_complete run = run.complete

  pub complete : (verdict : Verdict) → Says program events verdict → IfRun IsComplete verdict
  complete (Run d) x = subst IsComplete (sym x.same) (run_complete x.run)
  complete (NotEnabled at) x = tt
  complete (Unfinished node) x = tt

  pub apart : ((d : Device) → first_fault d.program ≡ None → Runs d) → first_fault program ≡ None → (verdict : Verdict) → Says program events verdict → IfRun AllReadApart verdict
  apart laws none (Run d) x = subst AllReadApart (sym x.same) (λ k lt. (laws (ran program events) none).all_read (run_complete x.run) k lt)
  apart laws none (NotEnabled at) x = tt
  apart laws none (Unfinished node) x = tt

-- WHERE ALL EVENTS HAVE COME

module _ (program : Program) (events : List Event) (may : AreEnabled program 0 events (length events)) where
  done_is : (n : ℕ) → is_done ((left_by program 0 events).phase n) ≡ is_ended events n
  done_is n =
      ap (λ l. is_done ((left_by program 0 l).phase n)) (sym (take-length events))
      ∙ ended_at program events (length events) (omega arith) may n
      ∙ ap (λ l. is_ended l n) (take-length events)

  pub undone : (count node : ℕ) → count ≡ length (view_of program).nodes → IsLeastUnended events count node → IsLeastUndone program events node
  undone count node same least = record {
    enabled = may;
    there = omega (arith, least.there, same);
    undone = done_is node ∙ least.unended;
    least = λ n lt. done_is n ∙ least.least n lt;
  }

  pub all_done : (count : ℕ) → count ≡ length (view_of program).nodes → AreEnded events count → IsRun program events
  all_done count same ended = record { enabled = may; complete = λ n lt. done_is n ∙ ended n (omega (arith, lt, same)) }

  pub has_run : (count : ℕ) (device : Device) → count ≡ length (view_of program).nodes → AreEnded events count → (IsComplete (ran program events) → device ≡ ran program events) → IsRunOn program events device
  has_run count device same ended is =
      let run = all_done count same ended in
      record { run = run; same = is (run_complete program events run) }
