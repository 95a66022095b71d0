-- What a call answers to a file, and where it has no answer.
use Rattle.std.proofs.Common.{◌≡◌, ℕ, List, [], Vec, Global, Some, None, refl, sym, ap, ◌∙◌, subst, inl, inr, arith}
use Rattle.std.proofs.KnownBytes.{Keeps-refl}
use Rattle.std.proofs.lemmas.Option.{same_Some}
use Rattle.std.specs.Prelude.{◌⊎◌}
use Rattle.std.specs.declared.option.Option.{Option}
use Rattle.answer.proofs.AnswerLemmas.{no_file, whole_file, without_file}
use Rattle.answer.specs.Answers as rest
use Rattle.answer.specs.Answers.{over_input}
use Rattle.answer.specs.Forms.{form_of}
use Rattle.answer.specs.Inputs.{file_of}
use Rattle.answer.specs.Statuses.{status_of}
use Rattle.answer.specs.declared.answer.Answer.{Answer}
use Rattle.answer.specs.declared.files.File.{File}
use Rattle.answer.specs.declared.files.File.TheVariants as files
use Rattle.answer.specs.declared.status.AnswerStatus.{AnswerStatus}
use Rattle.answer.specs.declared.status.AnswerStatus.TheVariants as answers
use Rattle.answer.specs.declared.status.Status.{Status}
use Rattle.answer.specs.declared.status.Status.TheVariants.{Done, Rejected, Refused, Words, ReadFault, WriteFault, NoMemory}
use Rattle.base.specs.declared.event.Event.{Event}
use Rattle.device_model.specs.Devices.{Device}
use Rattle.top.specs.Answers.{AnswersBytes, AnswersLeft, IsAnswered}
use Rattle.top.specs.Internal.Intakes.{IsGiven, IsMore, IsRead}
use Rattle.top.specs.Outcomes.{EndsAs, IsUnanswered}
use Rattle.top.specs.Replies.{IsStill, still}
use Rattle.top.specs.declared.input.Input.{Input}
use Rattle.top.specs.declared.input.Input.TheVariants.{Bytes, Over as Much}
use Rattle.top.specs.declared.reply.Reply.{Reply}
use Rattle.cli.specs.declared.command.Command.{Command}
use Rattle.cli.specs.declared.command.Command.TheVariants as reads

-- the status of an answer, or a write fault in its place
has_answer : (wanted : AnswerStatus) → IsUnanswered (status_of wanted) → ⊥
has_answer answers.Done none = none
has_answer answers.Rejected none = none
has_answer answers.Refused none = none
has_answer answers.Words none = none

pub stands : (wanted : AnswerStatus) (status : Status) → (status ≡ status_of wanted) ⊎ (status ≡ WriteFault) → IsUnanswered status → ⊥
stands wanted status (inl e) none = has_answer wanted (subst IsUnanswered e none)
stands wanted status (inr e) none = subst IsUnanswered e none

pub answered : (command : Command) (left old new : Option (List ℕ)) (told : Option (List Event) → Type 0) (kept : List Device → Type 0) (reply : Reply) (devices : List Device) (status : Status) → AnswersLeft command left devices reply → EndsAs reply.answer.status reply.answer.text old new status → told reply.history → kept devices → (IsUnanswered status → ⊥) → IsAnswered command left old new told kept status
answered command left old new told kept reply devices Done is ends hears keeps some = (reply, devices, is, ends, hears, keeps)
answered command left old new told kept reply devices Rejected is ends hears keeps some = (reply, devices, is, ends, hears, keeps)
answered command left old new told kept reply devices Refused is ends hears keeps some = (reply, devices, is, ends, hears, keeps)
answered command left old new told kept reply devices Words is ends hears keeps some = (reply, devices, is, ends, hears, keeps)
answered command left old new told kept reply devices ReadFault is ends hears keeps some = absurd (some tt)
answered command left old new told kept reply devices WriteFault is ends hears keeps some = (reply, devices, is, ends, hears, keeps)
answered command left old new told kept reply devices NoMemory is ends hears keeps some = absurd (some tt)

pub unanswered : (command : Command) (left written : Option (List ℕ)) (told : Option (List Event) → Type 0) (kept : List Device → Type 0) (status : Status) → told None → (status ≡ ReadFault → kept []) → (status ≡ ReadFault) ⊎ (status ≡ NoMemory) → IsAnswered command left written written told kept status
unanswered command left written told kept status none keeps (inl e) = let nothing_kept = keeps e in rw e (Keeps-refl written, none, nothing_kept)
unanswered command left written told kept status none keeps (inr e) = rw e (Keeps-refl written, none)

-- THE BYTES THAT ARE ANSWERED

-- where nothing is read the bytes are of no account
any_bytes : (command : Command) (bytes other : List ℕ) (devices : List Device) (reply : Reply) → file_of command ≡ None → AnswersBytes command bytes devices reply → AnswersBytes command other devices reply
any_bytes (reads.Frame asked) bytes other devices reply none is = absurd (no_file files.Frame (sym none))
any_bytes (reads.Submission asked) bytes other devices reply none is = absurd (no_file files.Submission (sym none))
any_bytes (reads.Gen number passes) bytes other devices reply none is = record { answer = is.answer; untold = is.untold; none = is.none }
any_bytes (reads.Run options trace tight) bytes other devices reply none is = absurd (no_file files.Frame (sym none))
any_bytes (reads.Exec options trace) bytes other devices reply none is = absurd (no_file files.Submission (sym none))
any_bytes (reads.Summary number passes options) bytes other devices reply none is = is
any_bytes (reads.Flight options persist depth) bytes other devices reply none is = absurd (no_file files.Frame (sym none))
any_bytes reads.Audit bytes other devices reply none is = absurd (no_file files.Submission (sym none))

module _ (command : Command) (left : Option (List ℕ)) (devices : List Device) (reply : Reply) where
  abbrev Over : File → Type 0
  Over file = IsStill (λ answer. answer ≡ over_input (form_of command) file) devices reply

  unread : (told : Option (List ℕ)) (bytes : List ℕ) → file_of command ≡ None → AnswersBytes command bytes devices reply → AnswersLeft command told devices reply
  unread None bytes none is = record { bytes = bytes; told = tt; answers = without_file command bytes Over (AnswersBytes command bytes devices reply) none is }
  unread (Some all) bytes none is = record { bytes = all; told = refl; answers = without_file command all Over (AnswersBytes command all devices reply) none (any_bytes command bytes all devices reply none is) }

  answered_bytes : (bytes : List ℕ) → IsRead (file_of command) left bytes → AnswersBytes command bytes devices reply → AnswersLeft command left devices reply
  answered_bytes bytes given is = by (file_of command) refl given
    where
      by : (file : Option File) → file_of command ≡ file → IsRead file left bytes → AnswersLeft command left devices reply
      by None e was = unread left bytes e is
      by (Some file) e was = record { bytes = bytes; told = was.0; answers = whole_file command bytes Over (AnswersBytes command bytes devices reply) file e was.1 is }

  -- the bytes that were read
  pub answered_read : (file : Option File) (input : Input) (bytes : Vec ℕ Global) (read : List ℕ) → file ≡ file_of command → IsGiven file left input → input ≡ Bytes bytes → read ≡ bytes.items → AnswersBytes command read devices reply → AnswersLeft command left devices reply
  answered_read file input bytes read reads_it given is same answers =
      answered_bytes bytes.items
      (subst (λ (f : Option File). IsRead f left bytes.items) reads_it (subst (λ (i : Input). IsGiven file left i) is given))
      (subst (λ (b : List ℕ). AnswersBytes command b devices reply) same answers)

-- WHERE NO DEVICE RAN

-- more bytes than the limit
pub answered_over : (command : Command) (left : Option (List ℕ)) (file : Option File) (input : Input) (other : File) → file ≡ file_of command → IsGiven file left input → input ≡ Much other → AnswersLeft command left [] (still (over_input (form_of command) other))
answered_over command left file input other reads_it given is =
    by (file_of command) refl (subst (λ (f : Option File). IsMore f left other) reads_it (subst (λ (i : Input). IsGiven file left i) is given))
  where
    told_so : (found : File) → other ≡ found → IsStill (λ answer. answer ≡ over_input (form_of command) found) [] (still (over_input (form_of command) other))
    told_so found same = record { answer = ap (over_input (form_of command)) same; untold = refl; none = refl }

    by : (found : Option File) → file_of command ≡ found → IsMore found left other → AnswersLeft command left [] (still (over_input (form_of command) other))
    by None e more = absurd more
    by (Some found) e more = record {
      bytes = more.1;
      told = more.2;
      answers = record {
        over = λ second at large. told_so second (more.0 ∙ same_Some found second (sym e ∙ at));
        within = λ few. absurd (omega (arith, more.3, few found e));
      };
    }

-- an answer at rest
pub rested : (command : Command) (bytes : List ℕ) (answer : Answer) → rest.AnswersBytes command bytes answer → AnswersBytes command bytes [] (still answer)
rested (reads.Frame asked) bytes answer is = record { answer = is; untold = refl; none = refl }
rested (reads.Submission asked) bytes answer is = record { answer = is; untold = refl; none = refl }
rested (reads.Gen number passes) bytes answer is = record { answer = is; untold = refl; none = refl }
rested (reads.Run options trace tight) bytes answer is = absurd is
rested (reads.Exec options trace) bytes answer is = absurd is
rested (reads.Summary number passes options) bytes answer is = absurd is
rested (reads.Flight options persist depth) bytes answer is = absurd is
rested reads.Audit bytes answer is = absurd is
