-- The nodes of a program stand in line.
use Rattle.std.proofs.Common.{◌≡◌, ◌⊎◌, inl, inr, ℕ, ◌+◌, ◌<◌, ◌≤◌, true, false, Option, Some, None, List, length, get_or, slice_get, refl, sym, ap, ◌∙◌, subst, ⊎_elim, arith}
use Rattle.std.specs.Option.{option_map}
use Rattle.std.proofs.lemmas.List.{length-map}
use Rattle.std.proofs.lemmas.Option.{slice_get-map, slice_get-get_or, get_or_from_slice_get}
use Rattle.check_order.specs.Edges.{is_host, node_at}
use Rattle.check_order.specs.Nodes.{item_node, entry_node, program_nodes, no_node}
use Rattle.check_order.specs.Internal.Queues.{Ready}
use Rattle.check_order.specs.declared.node.Node.{Node}
use Rattle.base.proofs.Booleans.{clash}
use Rattle.check_order.proofs.Lines.{Lines, lined}
use Rattle.check_order.proofs.Tables.{as_many}
use Rattle.program.specs.Entries.{Entry, OfWait, OfItem, OfSignal, OfHost, entries_of, queue_of, first_node, ByQueue}
use Rattle.program.specs.declared.program.Item.{Item}
use Rattle.program.specs.declared.program.Item.TheVariants.{Command, Global, BufferBarrier, ImageBarrier, Release, Acquire}
use Rattle.program.specs.declared.program.Program.{Program}

-- a host read, or a node of a queue
abbrev Sort : Option ℕ → Node → Type 0
Sort queue node = ((queue ≡ None) × (is_host node.kind ≡ true)) ⊎ ((queue ≡ Some node.queue) × (is_host node.kind ≡ false))

item_sort : (q : ℕ) (item : Item) → Sort (Some q) (item_node q item)
item_sort q (Command op) = inr (refl, refl)
item_sort q (Global masks) = inr (refl, refl)
item_sort q (BufferBarrier piece masks) = inr (refl, refl)
item_sort q (ImageBarrier piece layouts masks) = inr (refl, refl)
item_sort q (Release transfer) = inr (refl, refl)
item_sort q (Acquire transfer) = inr (refl, refl)

entry_sort : (queues : ℕ) (entry : Entry) → Sort (queue_of entry) (entry_node queues entry)
entry_sort queues (OfWait q wait) = inr (refl, refl)
entry_sort queues (OfItem q item) = item_sort q item
entry_sort queues (OfSignal q signal) = inr (refl, refl)
entry_sort queues (OfHost piece) = inl (refl, refl)

module _ (P : Program) (starts : List ℕ) (B : ByQueue P) (begins : (q : ℕ) → q ≤ length P.queues → get_or starts q 0 ≡ first_node P q) where
  abbrev Q : ℕ
  Q = length P.queues

  abbrev make : Entry → Node
  make = entry_node Q

  count : length (program_nodes P) ≡ length (entries_of P)
  count = length-map (entries_of P) make

  abbrev entry : ℕ → Entry
  entry n = get_or (entries_of P) n (OfHost 0)

  there : (n : ℕ) → n < length (program_nodes P) → slice_get (entries_of P) n ≡ Some (entry n)
  there n lt = slice_get-get_or (entries_of P) n (OfHost 0) (subst (λ k. n < k) count lt)

  is_made : (n : ℕ) → n < length (program_nodes P) → node_at (program_nodes P) n ≡ make (entry n)
  is_made n lt = get_or_from_slice_get (program_nodes P) n (make (entry n)) no_node (slice_get-map make (entries_of P) n ∙ ap (option_map make) (there n lt))

  -- where a node of a queue stands
  abbrev Stands : ℕ → Node → Type 0
  Stands n node = is_host node.kind ≡ false → (node.queue < Q) × (get_or starts node.queue 0 ≤ n) × (n < get_or starts (node.queue + 1) 0)

  stands : (n : ℕ) → n < length (program_nodes P) → Stands n (make (entry n))
  stands n lt e = ⊎_elim
      (λ h. absurd (clash (sym e ∙ h.1)))
      (λ h.
      let q : ℕ = (make (entry n)).queue in
      let p = B.queued n q (entry n) (there n lt) h.0 in
      let from = begins q (omega (arith, p.0)) in
      let until = begins (q + 1) (omega (arith, p.0)) in
      (p.0, omega (arith, from, p.1), omega (arith, until, p.2)))
      (entry_sort Q (entry n))

  abbrev Ends : ℕ → Node → Type 0
  Ends n node = is_host node.kind ≡ true → get_or starts Q 0 ≤ n

  ends : (n : ℕ) → n < length (program_nodes P) → Ends n (make (entry n))
  ends n lt e = ⊎_elim
      (λ h. let p = B.hosts n (entry n) (there n lt) h.0 in let from = begins Q (omega arith) in omega (arith, from, p))
      (λ h. absurd (clash (sym h.1 ∙ e)))
      (entry_sort Q (entry n))

  program_lines : Lines (program_nodes P) starts Q
  program_lines = record {
    queued = λ n lt. subst (Stands n) (sym (is_made n lt)) (stands n lt);
    hosts = λ n lt. subst (Ends n) (sym (is_made n lt)) (ends n lt);
    rising = λ q r le lt.
        let a = begins q (omega (arith, le, lt)) in
        let b = begins r lt in
        let c = B.rising q r le in
        omega (arith, a, b, c);
    fewer =
        let a = begins Q (omega arith) in
        let all = B.count in
        omega (arith, a, all, count);
  }

  pub program_ready : (nodes : List Node) (queues : ℕ) → nodes ≡ program_nodes P → length (entries_of P) ≤ 20000 → queues ≡ Q → length starts ≡ queues + 1 → Ready nodes starts queues
  program_ready nodes queues is few same size = record {
    few = as_many make (entries_of P) nodes 20000 is few;
    lined = lined nodes starts queues (subst (λ q. Lines nodes starts q) (sym same) (subst (λ l. Lines l starts Q) (sym is) program_lines));
    size = size;
  }
