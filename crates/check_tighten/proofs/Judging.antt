-- What is judged, and what a judgement makes of a candidate.
use Rattle.std.proofs.Common.{◌≡◌, ◌∙◌, ◌↔◌, ℕ, Bool, true, false, List, Result, Ok, Err, None, IfOk, refl, subst, sym, ap}
use Rattle.base.proofs.Booleans.{clash}
use Rattle.check_program.specs.Sound.{IsSound}
use Rattle.program.specs.FirstFault.{first_fault}
use Rattle.program.specs.Obeys.{BatchAt}
use Rattle.program.specs.declared.program.Batch.{Batch}
use Rattle.program.specs.declared.program.Program.{Program}
use Rattle.program.specs.declared.program.Queue.{Queue}
use Rattle.program.specs.declared.program.WaitFor.{WaitFor}
use Rattle.check_tighten.specs.Internal.Rounds.{HasWait, Tried}
use Rattle.check_tighten.specs.declared.trial.Trial.{Trial}
use Rattle.check_tighten.specs.Edits.{program_with}
use Rattle.check_tighten.specs.Tight.{Passes}
use Rattle.check_tighten.proofs.Programs.{undone}

-- without a fault it passes exactly where it is sound
pub sound_passes : (program : Program) (passes : Bool) → first_fault program ≡ None → ((passes ≡ true) ↔ IsSound program) → ((passes ≡ true) ↔ Passes program)
sound_passes program passes none h = ((λ e. record { faultless = none; sound = h.0 e }), (λ p. h.1 p.sound))

-- kept where it passes, and else undone
pub tried_as : (program judged now : Program) (passes changed : Bool) (q b k : ℕ) (waits old : List WaitFor) → HasWait program q b k
    → ((queue : Queue) (batch : Batch) → BatchAt program q b queue batch → old ≡ batch.waits)
    → judged ≡ program_with q b waits program → ((passes ≡ true) ↔ Passes (program_with q b waits program))
    → (passes ≡ true → (changed ≡ true) × (now ≡ judged)) → (passes ≡ false → (changed ≡ false) × (now ≡ program_with q b old judged))
    → Tried program (program_with q b waits program) now changed
tried_as program judged now true changed q b k waits old has is_old same passes kept back = record {
  proved_sound = λ e. ((kept refl).1 ∙ same, passes.0 refl);
  refused = λ e. absurd (clash (sym e ∙ (kept refl).0));
}
tried_as program judged now false changed q b k waits old has is_old same passes kept back = record {
  proved_sound = λ e. absurd (clash (sym (back refl).0 ∙ e));
  refused = λ e. ((back refl).1 ∙ (ap (program_with q b old) same ∙ undone program q b has.queue has.batch waits old has.at.batch_at (is_old has.queue has.batch has.at.batch_at)), (λ p. clash (passes.1 p)));
}

-- with the waits of the batch edited
pub edited : {E : Type 0} (program : Program) (q b : ℕ) (edit : List WaitFor → List WaitFor) (made : List WaitFor) (r : Result Trial E)
    → ((queue : Queue) (batch : Batch) → BatchAt program q b queue batch → made ≡ edit batch.waits)
    → IfOk r (λ trial. Tried program (program_with q b made program) trial.program trial.changed)
    → IfOk r (λ trial. (queue : Queue) (batch : Batch) → BatchAt program q b queue batch → Tried program (program_with q b (edit batch.waits) program) trial.program trial.changed)
edited program q b edit made (Ok trial) is h = λ queue batch at. subst (λ l. Tried program (program_with q b l program) trial.program trial.changed) (is queue batch at) h
edited program q b edit made (Err e) is h = tt

-- a copy of a sound program passes
pub copy_passes : {E : Type 0} (given inner lent : Program) (r : Result Program E) → IsSound given → first_fault inner ≡ None → inner ≡ given → lent ≡ inner → IfOk r (λ copy. copy ≡ lent) → IfOk r Passes
copy_passes given inner lent (Ok copy) sound none same also is =
    subst Passes (sym (is ∙ (also ∙ same))) (record { faultless = subst (λ p. first_fault p ≡ None) same none; sound = sound })
copy_passes given inner lent (Err e) sound none same also is = tt
