-- Which queues nodes are of, and that a run does not stand still.
use Rattle.std.proofs.Common.{◌≡◌, ℕ, ◌+◌, ◌-◌, ◌<◌, ◌≤◌, true, length, get_or, slice_get, Some, None, refl, sym, ap, ◌∙◌, subst, ⊎_elim, arith}
use Rattle.std.proofs.lemmas.Bool.{false≢true}
use Rattle.std.proofs.lemmas.List.{get_or-map, length-map}
use Rattle.std.proofs.lemmas.Option.{slice_get-get_or}
use Rattle.check_program.specs.Sound.{IsSound}
use Rattle.device_drive.specs.Firsts.{IsFirst, NothingReady}
use Rattle.check_order.proofs.HostReads.{no_item, item_queue}
use Rattle.check_order.specs.Edges.{node_at, is_host}
use Rattle.check_order.specs.Nodes.{entry_node, no_node}
use Rattle.device_model.specs.Devices.{Device, IsNext, NoneReady, IsComplete, NoneBegun, NeverStands}
use Rattle.device_model.specs.Ready.{kind_at, read_node}
use Rattle.program.specs.Entries.{Entry, OfWait, OfItem, OfSignal, OfHost, entries_of, queue_of, first_node, ByQueue}
use Rattle.program.specs.declared.program.Program.{Program}
use Rattle.check_access.specs.Views.{view_of}

host_queue : (queues : ℕ) (entry : Entry) → is_host (entry_node queues entry).kind ≡ true → queue_of entry ≡ None
host_queue queues (OfWait q wait) h = absurd (false≢true h)
host_queue queues (OfItem q item) h = absurd (no_item q item h)
host_queue queues (OfSignal q signal) h = absurd (false≢true h)
host_queue queues (OfHost piece) h = refl

pub record IsRead (program : Program) (n first : ℕ) : Type 0 where
  pub from : first ≤ n
  pub there : n - first < length program.readbacks
  pub read : read_node program (n - first) ≡ n

module _ (program : Program) (queued : ByQueue program) where
  entry_low : (n : ℕ) (entry : Entry) → slice_get (entries_of program) n ≡ Some entry → (entry_node (length program.queues) entry).queue ≤ length program.queues
  entry_low n (OfWait q wait) is = omega (arith, (queued.queued n q (OfWait q wait) is refl).0)
  entry_low n (OfItem q item) is = omega (arith, item_queue q item, (queued.queued n q (OfItem q item) is refl).0)
  entry_low n (OfSignal q signal) is = omega (arith, (queued.queued n q (OfSignal q signal) is refl).0)
  entry_low n (OfHost piece) is = omega arith

  module _ (n : ℕ) (lt : n < length (view_of program).nodes) where
    there : n < length (entries_of program)
    there = subst (λ count. n < count) (length-map (entries_of program) (entry_node (length program.queues))) lt

    stands : slice_get (entries_of program) n ≡ Some (get_or (entries_of program) n (OfHost 0))
    stands = slice_get-get_or (entries_of program) n (OfHost 0) there

    node_is : node_at (view_of program).nodes n ≡ entry_node (length program.queues) (get_or (entries_of program) n (OfHost 0))
    node_is = get_or-map (entry_node (length program.queues)) (entries_of program) n (OfHost 0) no_node there

    pub queue_low : (node_at (view_of program).nodes n).queue ≤ length program.queues
    queue_low = subst (λ node. node.queue ≤ length program.queues) (sym node_is) (entry_low n (get_or (entries_of program) n (OfHost 0)) stands)

    read_from : is_host (kind_at (view_of program) n) ≡ true → first_node program (length program.queues) ≤ n
    read_from host = queued.hosts n (get_or (entries_of program) n (OfHost 0)) stands (host_queue (length program.queues) (get_or (entries_of program) n (OfHost 0)) (ap (λ node. is_host node.kind) (sym node_is) ∙ host))

    -- the number of its read-back, by that of the first host read
    pub read_at : (first : ℕ) → first ≡ first_node program (length program.queues) → is_host (kind_at (view_of program) n) ≡ true → IsRead program n first
    read_at first is host =
        let from = read_from host in
        record {
          from = omega (arith, from, is);
          there = omega (arith, from, is, there, queued.count);
          read = omega (arith, from, is);
        }

-- a node is of a queue, or of the number after the last one
pub nothing_ready : (d : Device) → ByQueue d.program → ((queue : ℕ) → queue < length d.program.queues + 1 → NoneReady d queue) → NothingReady d
nothing_ready d queued quiet queue n lt on = quiet queue (omega (arith, queue_low d.program queued n lt, on)) n lt on

pub first : (d : Device) (queue n : ℕ) → ((r : ℕ) → r < queue → NoneReady d r) → IsNext d queue n → IsFirst d n
first d queue n quiet next = record {
  next = subst (λ q. IsNext d q n) (sym next.on) next;
  first = λ r lt. quiet r (subst (λ q. r < q) next.on lt);
}

-- where nothing is ready and no command is begun, all is done
pub all_done : (d : Device) → NeverStands d → IsSound d.program → NoneBegun d → NothingReady d → IsComplete d
all_done d stands sound idle quiet = ⊎_elim (λ all. all) (λ begun. absurd (false≢true (sym (idle begun.0) ∙ begun.1))) (stands sound quiet)
