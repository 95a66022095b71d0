-- Nothing comes after a host read, which is no item of a queue.
use Rattle.std.proofs.Common.{◌≡◌, inl, inr, ℕ, zero, suc, ◌==◌, ◌&&◌, ◌||◌, Bool, true, false, not, List, [], ◌∷◌, map, length, refl, sym, ap, ◌∙◌}
use Rattle.std.specs.Int.Bits.{bit_and, and_zero_l}
use Rattle.std.proofs.lemmas.Bool.{false≢true, and_parts}
use Rattle.base.proofs.Booleans.{clash}
use Rattle.check_order.proofs.Bridge.{EdgeCase, edge_cases}
use Rattle.check_order.proofs.Lines.{met_sync}
use Rattle.check_order.specs.Edges.{edge, is_host, is_sync, is_signal, node_at, holds_back}
use Rattle.check_order.specs.Laws.{IsEnding}
use Rattle.check_order.specs.Nodes.{item_node, host_node, entry_node, program_nodes}
use Rattle.check_order.specs.declared.node.Node.{Node}
use Rattle.program.specs.Entries.{Entry, OfWait, OfItem, OfSignal, OfHost, entries_of}
use Rattle.program.specs.declared.program.Item.{Item}
use Rattle.program.specs.declared.program.Item.TheVariants.{Command, Global, BufferBarrier, ImageBarrier, Release, Acquire}
use Rattle.program.specs.declared.program.Program.{Program}

pub no_item : (q : ℕ) (item : Item) → is_host (item_node q item).kind ≡ true → ⊥
no_item q (Command op) h = clash h
no_item q (Global masks) h = clash h
no_item q (BufferBarrier piece masks) h = clash h
no_item q (ImageBarrier piece layouts masks) h = clash h
no_item q (Release transfer) h = clash h
no_item q (Acquire transfer) h = clash h

of_host : (queues : ℕ) (entry : Entry) → is_host (entry_node queues entry).kind ≡ true → entry_node queues entry ≡ host_node queues
of_host queues (OfWait q wait) h = absurd (clash h)
of_host queues (OfItem q item) h = absurd (no_item q item h)
of_host queues (OfSignal q signal) h = absurd (clash h)
of_host queues (OfHost piece) h = refl

at_host : (queues : ℕ) (entries : List Entry) (x : ℕ) → is_host (node_at (map (entry_node queues) entries) x).kind ≡ true → node_at (map (entry_node queues) entries) x ≡ host_node queues
at_host queues [] x h = absurd (clash h)
at_host queues (entry ∷ entries) zero h = of_host queues entry h
at_host queues (entry ∷ entries) (suc x) h = at_host queues entries x h

-- no stage waits for a host read
ended : (a : Bool) (bits : ℕ) → (a && not (bit_and 0 bits == 0)) ≡ true → ⊥
ended a bits h =
    let e = (and_parts a (not (bit_and 0 bits == 0)) h).1 in
    let f : not (bit_and 0 bits == 0) ≡ false = ap (λ m. not (m == 0)) (and_zero_l bits) in
    false≢true (sym f ∙ e)

nothing_after : (nodes : List Node) (queues x y : ℕ) → node_at nodes x ≡ host_node queues → edge nodes x y ≡ true → ⊥
nothing_after nodes queues x y is e = go (edge_cases nodes x y e)
  where
    go : EdgeCase nodes x y → ⊥
    go (inl h) =
        let k : holds_back (host_node queues) (node_at nodes y) ≡ true = ap (λ z. holds_back z (node_at nodes y)) (sym is) ∙ h.1 in
        let p = and_parts (queues == (node_at nodes y).queue) ((false || is_sync (node_at nodes y).kind) && not (bit_and 0 (node_at nodes y).src_stages.0 == 0)) k in
        ended (false || is_sync (node_at nodes y).kind) (node_at nodes y).src_stages.0 p.1
    go (inr (inl h)) = false≢true (ap (λ z. is_signal z.kind) (sym is) ∙ h.0)
    go (inr (inr (inl h))) = false≢true (ap (λ z. is_sync z.kind) (sym is) ∙ (met_sync nodes (node_at nodes y).kind x h).1)
    go (inr (inr (inr h))) = false≢true (ap (λ z. is_signal z.kind) (sym is) ∙ h.1)

pub ends : (program : Program) → IsEnding program
ends program x y h e = nothing_after (program_nodes program) (length program.queues) x y (at_host (length program.queues) (entries_of program) x h) e

-- an item's node is of its queue
pub item_queue : (q : ℕ) (item : Item) → (item_node q item).queue ≡ q
item_queue q (Command op) = refl
item_queue q (Global masks) = refl
item_queue q (BufferBarrier piece masks) = refl
item_queue q (ImageBarrier piece layouts masks) = refl
item_queue q (Release transfer) = refl
item_queue q (Acquire transfer) = refl
