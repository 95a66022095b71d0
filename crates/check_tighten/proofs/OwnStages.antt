-- A program passes with a wait's own stages alone.
use Rattle.std.proofs.Common.{◌≡◌, ◌∙◌, ℕ, true, length, not, slice_set, refl, sym}
use Rattle.std.proofs.lemmas.Bool.{and_parts}
use Rattle.base.proofs.Absence.{map_none}
use Rattle.base.proofs.Lists.{entry_of}
use Rattle.vk.specs.Families.{family_number, on_family}
use Rattle.vk.specs.Sets.{meets}
use Rattle.vk.specs.Stages.{host}
use Rattle.program.proofs.Few.{is_small}
use Rattle.program.proofs.Obeying.{obeys, entries_obey}
use Rattle.program.specs.FirstFault.{first_broken}
use Rattle.program.specs.Obeys.{Obeys}
use Rattle.program.specs.Paths.{fault_of}
use Rattle.program.specs.Rules.{wait_obeys}
use Rattle.program.specs.declared.program.Batch.{Batch}
use Rattle.program.specs.declared.program.Program.{Program}
use Rattle.program.specs.declared.program.Queue.{Queue}
use Rattle.program.specs.declared.program.WaitFor.{WaitFor}
use Rattle.program.specs.declared.rule.Rule.{Rule}
use Rattle.program.specs.declared.rule.Rule.TheVariants as rules
use Rattle.check_access.proofs.Viewing.{shaped}
use Rattle.check_access.specs.ValidView.{ValidView}
use Rattle.check_access.specs.Views.{view_of}
use Rattle.law_alike.proofs.Sound.{sound_on}
use Rattle.check_tighten.specs.Edits.{program_with}
use Rattle.check_tighten.specs.Own.{fitted}
use Rattle.check_tighten.specs.Tight.{Passes, WaitAt, OwnStagesDo}
use Rattle.check_tighten.proofs.Faultless.{fault_same}
use Rattle.check_tighten.proofs.Fitting.{own_some, own_on_queue}
use Rattle.check_tighten.proofs.OwnViews.{seen_alike_wholly}

module _ (program : Program) (q b k : ℕ) (queue : Queue) (batch : Batch) (wait : WaitFor) (passes : Passes program) (at : WaitAt program q b k queue batch wait) where
  obeyed : (rule : Rule) → Obeys rule program
  obeyed = obeys program (map_none fault_of (first_broken program) passes.faultless)

  abbrev Holds : Rule → Type 0
  Holds rule = wait_obeys rule (length program.queues) queue.family wait ≡ true

  holds : (rule : Rule) → Holds rule
  holds rule = entry_of (λ w. wait_obeys rule (length program.queues) queue.family w ≡ true) batch.waits k wait ((obeyed rule).batches q b queue batch at.batch_at).waits at.wait_is

  on : on_family wait.stages.0 (family_number queue.family) ≡ true
  on = (and_parts (on_family wait.stages.0 (family_number queue.family)) (not (meets wait.stages.0 host)) (holds rules.OnQueue)).0

  -- it breaks no rule
  alike : (rule : Rule) → wait_obeys rule (length program.queues) queue.family (fitted queue.family wait) ≡ wait_obeys rule (length program.queues) queue.family wait
  alike rules.Limits = refl
  alike rules.Range = refl
  alike rules.Known = refl
  alike rules.Stages = own_some queue.family wait.stages.0 on (holds rules.Stages) ∙ sym (holds rules.Stages)
  alike rules.Ignored = refl
  alike rules.Supported = refl
  alike rules.OnQueue = own_on_queue queue.family wait.stages.0 (holds rules.OnQueue) ∙ sym (holds rules.OnQueue)
  alike rules.Runs = refl
  alike rules.Timeline = refl

  valid : ValidView (view_of program)
  valid = shaped program (is_small program (map_none fault_of (first_broken program) passes.faultless)) (λ rule. entries_obey program rule (obeyed rule))

  abbrev edited : Program
  edited = program_with q b (slice_set batch.waits k (fitted queue.family wait)) program

  passes_so : Passes edited
  passes_so = record {
    faultless = fault_same program q b k queue batch wait (fitted queue.family wait) at alike ∙ passes.faultless;
    sound = (
      passes.sound.0,
      sound_on (view_of program) (view_of edited)
          (seen_alike_wholly program q b k queue batch wait at valid (entries_obey program rules.OnQueue (obeyed rules.OnQueue)) (entries_obey program rules.Runs (obeyed rules.Runs)) on)
          passes.sound.0 passes.sound.1,
    );
  }

pub own_stages_do : OwnStagesDo
own_stages_do program q b k queue batch wait passes at = passes_so program q b k queue batch wait passes at
