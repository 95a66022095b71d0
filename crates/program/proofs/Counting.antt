-- How many nodes there are.
use Rattle.std.proofs.Common.{◌≡◌, ℕ, suc, ◌+◌, ◌<◌, ◌≤◌, List, [], ◌∷◌, ◌++◌, length, map, get_or, drop, take, Option, Some, None, option_to_list, refl, sym, ap, ap₂, ◌∙◌, add-one, drop-cons, arith}
use Rattle.std.specs.List.{flat_map}
use Rattle.std.proofs.lemmas.List.{length-append, length-map}
use Rattle.program.specs.Internal.Counts.{signal_count, batch_count, batches_count, queues_count}
use Rattle.base.specs.Maxima.{max_nodes}
use Rattle.program.specs.Internal.Nodes.{nodes_of}
use Rattle.program.specs.Entries.{OfWait, OfItem, OfSignal, OfHost, batch_entries, queue_entries, entries_of, first_node}
use Rattle.program.specs.FirstFault.{first_broken}
use Rattle.program.specs.Places.{all_in}
use Rattle.program.specs.declared.program.Batch.{Batch}
use Rattle.program.specs.declared.program.Program.{Program}
use Rattle.program.specs.declared.program.Queue.{Queue}
use Rattle.program.specs.declared.program.Signal.{Signal}
use Rattle.program.proofs.Entering.{as_many, by_queue}
use Rattle.program.proofs.Few.{is_small}

-- the count from one entry on
pub batches_on : (xs : List Batch) (i : ℕ) (x : Batch) → i < length xs → x ≡ get_or xs i x → batches_count (drop i xs) ≡ batch_count x + batches_count (drop (i + 1) xs)
batches_on xs i x lt is = rw add-one (ap batches_count (drop-cons xs i x lt) ∙ ap (λ y. batch_count y + batches_count (drop (suc i) xs)) (sym is))

pub queues_on : (xs : List Queue) (i : ℕ) (x : Queue) → i < length xs → x ≡ get_or xs i x → queues_count (drop i xs) ≡ batches_count x.batches + queues_count (drop (i + 1) xs)
queues_on xs i x lt is = rw add-one (ap queues_count (drop-cons xs i x lt) ∙ ap (λ y. batches_count y.batches + queues_count (drop (suc i) xs)) (sym is))

signals : (signal : Option Signal) → length (option_to_list signal) ≡ signal_count signal
signals None = refl
signals (Some signal) = refl

in_batch : (q : ℕ) (batch : Batch) → length (batch_entries q batch) ≡ batch_count batch
in_batch q batch =
    let waits = map (OfWait q) batch.waits in
    let items = map (OfItem q) batch.items in
    let ends = map (OfSignal q) (option_to_list batch.signal) in
    let first = length-append waits items in
    let all = length-append (waits ++ items) ends in
    let own = length-map batch.waits (OfWait q) in
    let next = length-map batch.items (OfItem q) in
    let last = length-map (option_to_list batch.signal) (OfSignal q) in
    let one = signals batch.signal in
    let sum : length (waits ++ items) + length ends ≡ length batch.waits + length batch.items + signal_count batch.signal = omega (arith, first, own, next, last, one) in
    all ∙ sum

in_batches : (q : ℕ) (batches : List Batch) → length (flat_map (batch_entries q) batches) ≡ batches_count batches
in_batches q [] = refl
in_batches q (batch ∷ batches) = length-append (batch_entries q batch) (flat_map (batch_entries q) batches) ∙ ap₂ (λ m n. m + n) (in_batch q batch) (in_batches q batches)

in_queues : (q : ℕ) (queues : List Queue) → length (all_in queue_entries q queues) ≡ queues_count queues
in_queues q [] = refl
in_queues q (queue ∷ queues) = length-append (queue_entries q queue) (all_in queue_entries (suc q) queues) ∙ ap₂ (λ m n. m + n) (in_batches q queue.batches) (in_queues (suc q) queues)

pub entries_count : (program : Program) → length (entries_of program) ≡ queues_count program.queues + length program.readbacks
entries_count program = length-append (all_in queue_entries 0 program.queues) (map OfHost program.readbacks) ∙ ap₂ (λ m n. m + n) (in_queues 0 program.queues) (length-map program.readbacks OfHost)

pub few_nodes : (program : Program) → first_broken program ≡ None → length (nodes_of program) ≤ max_nodes
few_nodes program none = let few = (is_small program none).entries in let same = as_many program in omega (arith, few, same)

pub first_is : (program : Program) (q : ℕ) → queues_count (take q program.queues) ≡ first_node program q
first_is program q = sym (in_queues 0 (take q program.queues))

pub first_few : (program : Program) (q : ℕ) → first_broken program ≡ None → q ≤ length program.queues → queues_count (take q program.queues) ≤ max_nodes
first_few program q none le =
    let few = (is_small program none).entries in
    let all = (by_queue program).count in
    let low = (by_queue program).rising q (length program.queues) le in
    let is = first_is program q in
    omega (arith, few, all, low, is)
