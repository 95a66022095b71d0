-- A program that breaks no rule obeys each.
use Rattle.std.proofs.Common.{◌≡◌, ℕ, subst, length, take, not, true, Option, None, Some, IfSome, refl}
use Rattle.std.specs.List.{All, position}
use Rattle.std.specs.Option.{option_or, option_map}
use Rattle.base.specs.Walks.{first_in}
use Rattle.base.specs.Broken.{of_rule}
use Rattle.base.specs.declared.broken.Broken.{Broken}
use Rattle.base.specs.declared.shape.Family.{Family}
use Rattle.base.proofs.Absence.{or_first, or_second, map_none, has_it, all_pass, none_from}
use Rattle.program.proofs.Entering.{batch_each, queue_each, program_each}
use Rattle.program.specs.Entries.{entries_of}
use Rattle.program.specs.FirstFault.{rule_broken, form_broken, use_broken, rules_broken, first_broken}
use Rattle.program.specs.Obeys.{BatchObeys, EntryObeys, Obeys}
use Rattle.program.specs.Limits.{limit_broken}
use Rattle.program.specs.Rules.{piece_obeys, wait_obeys, item_obeys, signal_obeys, readback_obeys, signal_place, batch_place, next_place, queue_place, broken_at, shapes_of}
use Rattle.program.specs.Timelines.{highest}
use Rattle.program.specs.declared.location.Location.{Location}
use Rattle.program.specs.declared.location.Location.TheVariants as at
use Rattle.program.specs.declared.program.Batch.{Batch}
use Rattle.program.specs.declared.program.Program.{Program}
use Rattle.program.specs.declared.program.Queue.{Queue}
use Rattle.program.specs.declared.program.Signal.{Signal}
use Rattle.program.specs.declared.rule.Rule.{Rule}
use Rattle.program.specs.declared.rule.Rule.TheVariants as rules

-- EACH RULE BY ITSELF

module _ (program : Program) (none : first_broken program ≡ None) where
  abbrev by : Rule → Option (Broken Rule Location)
  by rule = rule_broken rule program (shapes_of program)

  all_none : rules_broken program (shapes_of program) ≡ None
  all_none = or_second (limit_broken program) (rules_broken program (shapes_of program)) none

  form_none : form_broken program (shapes_of program) ≡ None
  form_none = or_first (form_broken program (shapes_of program)) (use_broken program (shapes_of program)) all_none

  use_none : use_broken program (shapes_of program) ≡ None
  use_none = or_second (form_broken program (shapes_of program)) (use_broken program (shapes_of program)) all_none

  after_range : option_or (by rules.Known) (option_or (by rules.Stages) (by rules.Ignored)) ≡ None
  after_range = or_second (by rules.Range) (option_or (by rules.Known) (option_or (by rules.Stages) (by rules.Ignored))) form_none

  after_known : option_or (by rules.Stages) (by rules.Ignored) ≡ None
  after_known = or_second (by rules.Known) (option_or (by rules.Stages) (by rules.Ignored)) after_range

  after_supported : option_or (by rules.OnQueue) (option_or (by rules.Runs) (by rules.Timeline)) ≡ None
  after_supported = or_second (by rules.Supported) (option_or (by rules.OnQueue) (option_or (by rules.Runs) (by rules.Timeline))) use_none

  after_on_queue : option_or (by rules.Runs) (by rules.Timeline) ≡ None
  after_on_queue = or_second (by rules.OnQueue) (option_or (by rules.Runs) (by rules.Timeline)) after_supported

  -- the rule on limits asks nothing of parts
  abbrev Unbroken : Rule → Type 0
  Unbroken rules.Limits = Unit {0}
  Unbroken rule = by rule ≡ None

  each_none : (rule : Rule) → Unbroken rule
  each_none rules.Limits = tt
  each_none rules.Range = or_first (by rules.Range) (option_or (by rules.Known) (option_or (by rules.Stages) (by rules.Ignored))) form_none
  each_none rules.Known = or_first (by rules.Known) (option_or (by rules.Stages) (by rules.Ignored)) after_range
  each_none rules.Stages = or_first (by rules.Stages) (by rules.Ignored) after_known
  each_none rules.Ignored = or_second (by rules.Stages) (by rules.Ignored) after_known
  each_none rules.Supported = or_first (by rules.Supported) (option_or (by rules.OnQueue) (option_or (by rules.Runs) (by rules.Timeline))) use_none
  each_none rules.OnQueue = or_first (by rules.OnQueue) (option_or (by rules.Runs) (by rules.Timeline)) after_supported
  each_none rules.Runs = or_first (by rules.Runs) (by rules.Timeline) after_on_queue
  each_none rules.Timeline = or_second (by rules.Runs) (by rules.Timeline) after_on_queue

-- EACH PART

signal_passes : (rule : Rule) (family : Family) (reached q b : ℕ) (signal : Option Signal) → signal_place rule family reached q b signal ≡ None → IfSome signal (λ s. signal_obeys rule family reached s ≡ true)
signal_passes rule family reached q b None none = tt
signal_passes rule family reached q b (Some signal) none = has_it (signal_obeys rule family reached signal) (at.Signal q b) none

batch_passes : (rule : Rule) (program : Program) (queue : Queue) (q b : ℕ) (batch : Batch) → batch_place rule (length program.queues) (shapes_of program) queue.family (highest (take b queue.batches)) q b batch ≡ None → BatchObeys rule program queue b batch
batch_passes rule program queue q b batch none =
    let waits = position (λ wait. not (wait_obeys rule (length program.queues) queue.family wait)) batch.waits in
    let items = position (λ item. not (item_obeys rule (shapes_of program) queue.family item)) batch.items in
    let signal = signal_place rule queue.family (highest (take b queue.batches)) q b batch.signal in
    let after = or_second (option_map (λ k. at.Wait q b k) waits) (option_or (option_map (λ k. at.Item q b k) items) signal) none in
    record {
      waits = all_pass (wait_obeys rule (length program.queues) queue.family) batch.waits (map_none (λ k. at.Wait q b k) waits (or_first (option_map (λ k. at.Wait q b k) waits) (option_or (option_map (λ k. at.Item q b k) items) signal) none));
      items = all_pass (item_obeys rule (shapes_of program) queue.family) batch.items (map_none (λ k. at.Item q b k) items (or_first (option_map (λ k. at.Item q b k) items) signal after));
      signal = signal_passes rule queue.family (highest (take b queue.batches)) q b batch.signal (or_second (option_map (λ k. at.Item q b k) items) signal after);
    }

obeys_from : (program : Program) (rule : Rule) → rule_broken rule program (shapes_of program) ≡ None → Obeys rule program
obeys_from program rule none =
    let shapes = shapes_of program in
    let count = length program.queues in
    let pieces = option_map (λ i. at.Piece i) (position (λ piece. not (piece_obeys rule program.memories piece)) program.pieces) in
    let queues = first_in (queue_place rule count shapes) 0 program.queues in
    let readbacks = option_map (λ k. at.Readback k) (position (λ piece. not (readback_obeys rule shapes piece)) program.readbacks) in
    let all = map_none (of_rule rule) (broken_at rule program shapes) none in
    let after = or_second pieces (option_or queues readbacks) all in
    let no_queue = or_first queues readbacks after in
    record {
      pieces = all_pass (piece_obeys rule program.memories) program.pieces (map_none (λ i. at.Piece i) (position (λ piece. not (piece_obeys rule program.memories piece)) program.pieces) (or_first pieces (option_or queues readbacks) all));
      batches = λ q b queue batch there.
          let in_queue : queue_place rule count shapes q queue ≡ None = none_from (queue_place rule count shapes) program.queues no_queue q queue there.queue_is in
          let in_batch : next_place rule count shapes queue.family q queue.batches b batch ≡ None = none_from (next_place rule count shapes queue.family q queue.batches) queue.batches in_queue b batch there.batch_is in
          batch_passes rule program queue q b batch in_batch;
      readbacks = all_pass (readback_obeys rule shapes) program.readbacks (map_none (λ k. at.Readback k) (position (λ piece. not (readback_obeys rule shapes piece)) program.readbacks) (or_second queues readbacks after));
    }

no_signal : (family : Family) (reached : ℕ) (signal : Option Signal) → IfSome signal (λ s. signal_obeys rules.Limits family reached s ≡ true)
no_signal family reached None = tt
no_signal family reached (Some signal) = refl

limits_obeyed : (program : Program) → Obeys rules.Limits program
limits_obeyed program = record {
  pieces = λ i d lt. refl;
  batches = λ q b queue batch there. record { waits = λ i d lt. refl; items = λ i d lt. refl; signal = no_signal queue.family (highest (take b queue.batches)) batch.signal };
  readbacks = λ i d lt. refl;
}

pub obeys : (program : Program) → first_broken program ≡ None → (rule : Rule) → Obeys rule program
obeys program none rules.Limits = limits_obeyed program
obeys program none rules.Range = obeys_from program rules.Range (each_none program none rules.Range)
obeys program none rules.Known = obeys_from program rules.Known (each_none program none rules.Known)
obeys program none rules.Stages = obeys_from program rules.Stages (each_none program none rules.Stages)
obeys program none rules.Ignored = obeys_from program rules.Ignored (each_none program none rules.Ignored)
obeys program none rules.Supported = obeys_from program rules.Supported (each_none program none rules.Supported)
obeys program none rules.OnQueue = obeys_from program rules.OnQueue (each_none program none rules.OnQueue)
obeys program none rules.Runs = obeys_from program rules.Runs (each_none program none rules.Runs)
obeys program none rules.Timeline = obeys_from program rules.Timeline (each_none program none rules.Timeline)

pub entries_obey : (program : Program) (rule : Rule) → Obeys rule program → All (EntryObeys rule program) (entries_of program)
entries_obey program rule obeyed =
    program_each (EntryObeys rule program) program
    (λ q queue is. queue_each (EntryObeys rule program) q queue
    (λ b batch at.
    let each = obeyed.batches q b queue batch (record { queue_is = is; batch_is = at }) in
    let reached = highest (take b queue.batches) in
    batch_each (EntryObeys rule program) q batch
    (λ i d lt. (queue, is, each.waits i d lt))
    (λ i d lt. (queue, is, each.items i d lt))
    (λ s here. (queue, reached, is, subst (λ o. IfSome o (λ signal. signal_obeys rule queue.family reached signal ≡ true)) here each.signal))))
    (λ i d lt. obeyed.readbacks i d lt)
