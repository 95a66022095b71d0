-- What a verdict comes to.
use Rattle.std.proofs.Common.{◌≡◌, ◌∙◌, ◌≤◌, ◌↔◌, List, length, IsTrue, refl, sym, ap, subst, arith}
use Rattle.std.proofs.lemmas.Bool.{false≢true}
use Rattle.device_audit.specs.Runs.{IsRun}
use Rattle.device_audit.specs.Verdicts.{is_run, AllReadApart, IfRun, Says}
use Rattle.device_audit.specs.declared.verdict.Verdict.{Verdict}
use Rattle.device_audit.specs.declared.verdict.Verdict.TheVariants.{Run, NotEnabled, Unfinished}
use Rattle.base.specs.declared.event.Event.{Event}
use Rattle.check_program.specs.Sound.{IsSound}
use Rattle.device_model.specs.Devices.{Device}
use Rattle.program.specs.declared.program.Program.{Program}
use Rattle.top.specs.Audits.{Judges, verdict_answer}
use Rattle.answer.specs.Statuses.{number_of, status_of}
use Rattle.answer.specs.declared.answer.Answer.{Answer}
use Rattle.answer.specs.declared.status.AnswerStatus.{AnswerStatus}
use Rattle.answer.specs.declared.status.AnswerStatus.TheVariants.{Done, Rejected}

rejected : Rejected ≡ Done → ⊥
rejected e = let n : 1 ≡ 0 = ap (λ status. number_of (status_of status)) e in absurd (omega (arith, n))

done_if_run : (verdict : Verdict) → ((verdict_answer verdict).status ≡ Done) ↔ IsTrue (is_run verdict)
done_if_run (Run device) = ((λ e. refl), (λ is. refl))
done_if_run (NotEnabled at) = ((λ e. absurd (rejected e)), (λ is. absurd (false≢true is)))
done_if_run (Unfinished node) = ((λ e. absurd (rejected e)), (λ is. absurd (false≢true is)))

abbrev how : Answer → AnswerStatus
how answer = answer.status

pub judges : (program : Program) (events : List Event) (verdict : Verdict) (answer : Answer) → IsSound program → Says program events verdict → IfRun AllReadApart verdict → IsTrue (is_run verdict) ↔ IsRun program events → answer ≡ verdict_answer verdict → Judges program events answer
judges program events verdict answer sound says apart run is = record {
  sound = sound;
  verdict = verdict;
  says = says;
  apart = apart;
  whole = is;
  run = (
    (λ e. run.0 ((done_if_run verdict).0 (sym (ap how is) ∙ e))),
    (λ r. ap how is ∙ (done_if_run verdict).1 (run.1 r)),
  );
}

-- a run has the events that were judged
pub few_events : (program : Program) (events : List Event) (verdict : Verdict) → length events ≤ 65536 → Says program events verdict → IfRun (λ device. length device.history ≤ 65536) verdict
few_events program events (Run device) few says = subst (λ (d : Device). length d.history ≤ 65536) (sym says.same) few
few_events program events (NotEnabled at) few says = tt
few_events program events (Unfinished node) few says = tt
