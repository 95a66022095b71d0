-- The nodes of host reads.
use Rattle.std.proofs.Common.{◌≡◌, ℕ, ◌+◌, ◌<◌, length, map, slice_get, Some, sym, ap, ◌∙◌, subst}
use Rattle.std.specs.Option.{option_map}
use Rattle.std.proofs.lemmas.List.{length-map}
use Rattle.std.proofs.lemmas.Option.{slice_get-map, slice_get-get_or, slice_get_within}
use Rattle.std.proofs.Math.Seq.{take-length}
use Rattle.base.proofs.Lists.{got_back}
use Rattle.check_order.specs.Nodes.{entry_node}
use Rattle.device_model.specs.Ready.{read_node}
use Rattle.program.specs.Entries.{OfHost, queue_entries, entries_of}
use Rattle.program.specs.Places.{all_in}
use Rattle.program.specs.declared.program.Program.{Program}
use Rattle.check_access.specs.Views.{view_of}

pub read_entry : (program : Program) (k p : ℕ) → slice_get program.readbacks k ≡ Some p → slice_get (entries_of program) (read_node program k) ≡ Some (OfHost p)
read_entry program k p is =
    ap (λ queues. slice_get (entries_of program) (length (all_in queue_entries 0 queues) + k)) (take-length program.queues)
    ∙ got_back (all_in queue_entries 0 program.queues) (map OfHost program.readbacks) k
    ∙ slice_get-map OfHost program.readbacks k
    ∙ ap (option_map OfHost) is

pub read_within : (program : Program) (k : ℕ) → k < length program.readbacks → read_node program k < length (view_of program).nodes
read_within program k lt =
    let is = slice_get-get_or program.readbacks k 0 lt in
    subst (λ m. read_node program k < m) (sym (length-map (entries_of program) (entry_node (length program.queues)))) (slice_get_within (entries_of program) (read_node program k) _ (read_entry program k _ is))
