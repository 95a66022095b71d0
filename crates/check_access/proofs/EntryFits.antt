-- What each part of a program that breaks no rule does as a node.
use Rattle.std.proofs.Common.{◌≡◌, ℕ, false, length, map, slice_get, Some, sym, ap, ◌∙◌, subst}
use Rattle.std.specs.Option.{option_map}
use Rattle.std.proofs.lemmas.Bool.{ltb-true}
use Rattle.std.proofs.lemmas.Option.{slice_get-map}
use Rattle.base.specs.declared.shape.Family.{Family}
use Rattle.check_order.proofs.HostReads.{item_queue}
use Rattle.check_order.specs.Edges.{is_host}
use Rattle.check_order.specs.Nodes.{entry_node}
use Rattle.program.specs.Entries.{Entry, OfWait, OfItem, OfSignal, OfHost}
use Rattle.program.specs.Obeys.{EntryObeys}
use Rattle.program.specs.Rules.{shapes_of}
use Rattle.program.specs.declared.program.Program.{Program}
use Rattle.program.specs.declared.program.Queue.{Queue}
use Rattle.program.specs.declared.rule.Rule.TheVariants as rules
use Rattle.check_access.proofs.Fitting.{FitsNode, item_fits, wait_fits, signal_fits, host_fits}
use Rattle.check_access.specs.Internal.KnownEntries.{IsKnown}
use Rattle.check_access.specs.Effects.{entry_effect}

pub entry_known : (program : Program) (entry : Entry) → EntryObeys rules.Known program entry → IsKnown (shapes_of program) entry
entry_known program (OfWait q wait) obeys = tt
entry_known program (OfItem q item) obeys = obeys.2
entry_known program (OfSignal q signal) obeys = tt
entry_known program (OfHost piece) obeys = tt

pub entry_fits : (program : Program) (entry : Entry) → EntryObeys rules.Known program entry → FitsNode (length (shapes_of program)) (entry_node (length program.queues) entry) (entry_effect (shapes_of program) entry)
entry_fits program (OfWait q wait) obeys = wait_fits (length (shapes_of program)) q wait
entry_fits program (OfItem q item) obeys = item_fits (shapes_of program) q item obeys.2
entry_fits program (OfSignal q signal) obeys = signal_fits (length (shapes_of program)) q signal
entry_fits program (OfHost piece) obeys = host_fits (length (shapes_of program)) (length program.queues) piece (ltb-true piece (length (shapes_of program)) obeys)

-- FAMILIES

abbrev pub HasFamily : Program → ℕ → Type 0
HasFamily program q = (f : Family) × (slice_get (map (λ queue. queue.family) program.queues) q ≡ Some f)

of_queue : (program : Program) (q : ℕ) (queue : Queue) → slice_get program.queues q ≡ Some queue → HasFamily program q
of_queue program q queue is = (queue.family, slice_get-map (λ queue. queue.family) program.queues q ∙ ap (option_map (λ queue. queue.family)) is)

pub entry_family : (program : Program) (entry : Entry) → EntryObeys rules.Known program entry → is_host (entry_node (length program.queues) entry).kind ≡ false → HasFamily program (entry_node (length program.queues) entry).queue
entry_family program (OfWait q wait) obeys queued = of_queue program q obeys.0 obeys.1
entry_family program (OfItem q item) obeys queued = subst (HasFamily program) (sym (item_queue q item)) (of_queue program q obeys.0 obeys.1)
entry_family program (OfSignal q signal) obeys queued = of_queue program q obeys.0 obeys.2
entry_family program (OfHost piece) obeys queued = absurd cc
