-- What a call comes to, from what its parts come to.
use Rattle.std.proofs.Common.{◌≡◌, ℕ, List, [], Some, None, is_some, sym, ap, subst, inl, inr, refl, arith, codes}
use Rattle.std.proofs.KnownBytes.{Keeps-refl}
use Rattle.std.proofs.lemmas.Bool.{true≢false}
use Rattle.std.proofs.lemmas.Option.{same_Some}
use Rattle.std.specs.Io.KnownBytes.{Appends, Consumes}
use Rattle.std.specs.Prelude.{◌⊎◌}
use Rattle.std.specs.declared.option.Option.{Option}
use Rattle.base_io.specs.Counts.{Rose}
use Rattle.base.specs.declared.event.Event.{Event}
use Rattle.device_model.specs.Devices.{Device}
use Rattle.top.specs.Answers.{IsAnswered}
use Rattle.top.specs.Calls.{Call}
use Rattle.top.specs.Causes.{ReadCause, WriteCause}
use Rattle.top.specs.Complete.{Completes}
use Rattle.top.specs.Ends.{Ends}
use Rattle.answer.specs.Inputs.{file_of}
use Rattle.top.specs.Takes.{TakesAll, TakesFew, file_in}
use Rattle.top.specs.Outcomes.{EndsAs, IsUnanswered}
use Rattle.answer.specs.declared.status.AnswerStatus.TheVariants as answers
use Rattle.answer.specs.declared.status.Status.{Status}
use Rattle.answer.specs.declared.status.Status.TheVariants.{Done, Rejected, Refused, Words, ReadFault, WriteFault, NoMemory}
use Rattle.answer.specs.declared.files.File.{File}
use Rattle.cli.specs.declared.command.Command.{Command}

module _ (told : Option (List Event) → Type 0) (kept : List Device → Type 0) (none : told None) (keeps : kept []) where
  answered_still : (command : Command) (left old new : Option (List ℕ)) (status : Status) → IsAnswered command left old new (λ history. history ≡ None) (λ devices. devices ≡ []) status → IsAnswered command left old new told kept status
  answered_still command left old new Done is = (is.0, is.1, is.2, is.3, subst told (sym is.4) none, subst kept (sym is.5) keeps)
  answered_still command left old new Rejected is = (is.0, is.1, is.2, is.3, subst told (sym is.4) none, subst kept (sym is.5) keeps)
  answered_still command left old new Refused is = (is.0, is.1, is.2, is.3, subst told (sym is.4) none, subst kept (sym is.5) keeps)
  answered_still command left old new Words is = (is.0, is.1, is.2, is.3, subst told (sym is.4) none, subst kept (sym is.5) keeps)
  answered_still command left old new ReadFault is = (is.0, none, keeps)
  answered_still command left old new WriteFault is = (is.0, is.1, is.2, is.3, subst told (sym is.4) none, subst kept (sym is.5) keeps)
  answered_still command left old new NoMemory is = (is.0, none)

  -- a call in which no device ran, where taps were told nothing
  pub still : (line : Option Command) (before after : Ends) (status : Status) → Call line before after (λ history. history ≡ None) (λ devices. devices ≡ []) status → Call line before after told kept status
  still line before after status call = record {
    words = λ e. ((call.words e).0, none, keeps);
    answered = λ command e. answered_still command before.left before.written after.written status (call.answered command e);
    taken = call.taken;
    whole = call.whole;
    read = call.read;
    write = call.write;
    complete = call.complete;
  }

-- the same of the status that was handed on
pub still_as : (line : Option Command) (before after : Ends) (told : Option (List Event) → Type 0) (kept : List Device → Type 0) (status given : Status) → given ≡ status → told None → kept [] → Call line before after (λ history. history ≡ None) (λ devices. devices ≡ []) status → Call line before after told kept given
still_as line before after told kept status given is none keeps call = subst (λ (s : Status). Call line before after told kept s) (sym is) (still told kept none keeps line before after status call)

-- a call over ends that were left as they were
pub from_ends : {I O : Type 0} (tell : I → O → Ends) (line : Option Command) (input input' : I) (output output' : O) (after : Ends) (told : Option (List Event) → Type 0) (kept : List Device → Type 0) (status : Status) → input' ≡ input → output' ≡ output → Call line (tell input' output') after told kept status → Call line (tell input output) after told kept status
from_ends tell line input input' output output' after told kept status same_input same_output call =
    subst (λ i. Call line (tell i output) after told kept status) same_input (subst (λ o. Call line (tell input' o) after told kept status) same_output call)

-- an answer that was found is written whole where no read and no write failed
pub completes : (command : Command) (left old new : Option (List ℕ)) (told : Option (List Event) → Type 0) (kept : List Device → Type 0) (status : Status) (reads reads' writes writes' : ℕ) → IsAnswered command left old new told kept status → ReadCause reads reads' status → WriteCause writes writes' status → ¬ Rose reads reads' → ¬ Rose writes writes' → (status ≡ NoMemory) ⊎ Completes command left old new status
completes command left old new told kept Done reads reads' writes writes' is read write steady_read steady_write = inr (record { reply = is.0; devices = is.1; answers = is.2; given = is.3.0; written = is.3.1 })
completes command left old new told kept Rejected reads reads' writes writes' is read write steady_read steady_write = inr (record { reply = is.0; devices = is.1; answers = is.2; given = is.3.0; written = is.3.1 })
completes command left old new told kept Refused reads reads' writes writes' is read write steady_read steady_write = inr (record { reply = is.0; devices = is.1; answers = is.2; given = is.3.0; written = is.3.1 })
completes command left old new told kept Words reads reads' writes writes' is read write steady_read steady_write = inr (record { reply = is.0; devices = is.1; answers = is.2; given = is.3.0; written = is.3.1 })
completes command left old new told kept ReadFault reads reads' writes writes' is read write steady_read steady_write = absurd (steady_read read)
completes command left old new told kept WriteFault reads reads' writes writes' is read write steady_read steady_write = absurd (steady_write write)
completes command left old new told kept NoMemory reads reads' writes writes' is read write steady_read steady_write = inl refl

few_none : (file : Option File) (left : Option (List ℕ)) → TakesFew file left left
few_none None left = Keeps-refl left
few_none (Some file) left = ([], none_taken left, omega arith)
  where
    none_taken : (bytes : Option (List ℕ)) → Consumes bytes bytes []
    none_taken None = tt
    none_taken (Some all) = refl

-- nothing was read, written or told
pub nothing : (line : Option Command) (ends : Ends) (told : Option (List Event) → Type 0) (kept : List Device → Type 0) → told None → kept [] → Call line ends ends told kept NoMemory
nothing line ends told kept none keeps = record {
  words = λ e. (Keeps-refl ends.written, none, keeps);
  answered = λ command e. (Keeps-refl ends.written, none);
  taken = few_none (file_in line) ends.left;
  whole = λ some. absurd (some tt);
  read = refl;
  write = refl;
  complete = λ steady_read steady_write. inl refl;
}

-- the same of a status that was handed on
pub nothing_as : (line : Option Command) (ends : Ends) (told : Option (List Event) → Type 0) (kept : List Device → Type 0) (status : Status) → status ≡ NoMemory → told None → kept [] → Call line ends ends told kept status
nothing_as line ends told kept status is none keeps = subst (λ (s : Status). Call line ends ends told kept s) (sym is) (nothing line ends told kept none keeps)

-- a command was answered
pub called : (line : Option Command) (command : Command) (before after : Ends) (told : Option (List Event) → Type 0) (kept : List Device → Type 0) (status : Status) → line ≡ Some command → IsAnswered command before.left before.written after.written told kept status → ReadCause before.read_faults after.read_faults status → WriteCause before.write_faults after.write_faults status → TakesFew (file_of command) before.left after.left → (¬ IsUnanswered status → TakesAll (file_of command) before.left after.left) → Call line before after told kept status
called line command before after told kept status is answered read write taken whole = subst (λ (l : Option Command). Call l before after told kept status) (sym is) (record {
  words = λ e. absurd (true≢false (ap is_some e));
  answered = λ other e. subst (λ (c : Command). IsAnswered c before.left before.written after.written told kept status) (same_Some command other e) answered;
  taken = taken;
  whole = whole;
  read = read;
  write = write;
  complete = completes command before.left before.written after.written told kept status before.read_faults after.read_faults before.write_faults after.write_faults answered read write;
})

-- words that are no command line: nothing is read
pub worded : (line : Option Command) (before after : Ends) (told : Option (List Event) → Type 0) (kept : List Device → Type 0) (status : Status) → line ≡ None → told None → kept [] → after.left ≡ before.left → after.read_faults ≡ before.read_faults → EndsAs answers.Words (codes "words\n") before.written after.written status → WriteCause before.write_faults after.write_faults status → (status ≡ Words) ⊎ (status ≡ WriteFault) → Call line before after told kept status
worded line before after told kept status is none keeps left faults ends write either = subst (λ (l : Option Command). Call l before after told kept status) (sym is) (record {
  words = λ e. (ends, none, keeps);
  answered = λ command e. absurd (true≢false (sym (ap is_some e)));
  taken = subst (λ (o : Option (List ℕ)). TakesFew None before.left o) (sym left) (Keeps-refl before.left);
  whole = λ some. subst (λ (o : Option (List ℕ)). TakesAll None before.left o) (sym left) (Keeps-refl before.left);
  read = by either;
  write = write;
  complete = λ steady_read steady_write. inr (whole_line steady_write either);
})
  where
    by : (status ≡ Words) ⊎ (status ≡ WriteFault) → ReadCause before.read_faults after.read_faults status
    by (inl e) = rw e faults
    by (inr e) = rw e faults

    whole_line : ¬ Rose before.write_faults after.write_faults → (status ≡ Words) ⊎ (status ≡ WriteFault) → (status ≡ Words) × Appends before.written after.written (codes "words\n")
    whole_line steady (inl e) = (e, (subst (EndsAs answers.Words (codes "words\n") before.written after.written) e ends).1)
    whole_line steady (inr e) = absurd (steady (subst (WriteCause before.write_faults after.write_faults) e write))
