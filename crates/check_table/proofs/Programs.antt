-- The nodes of a program, for its table.
use Rattle.std.proofs.Common.{◌≡◌, ℕ, ◌<◌, ◌≤◌, true, false, [], Option, Some, length, get_or, slice_get, refl, sym, subst, ⊎_elim, arith}
use Rattle.std.proofs.lemmas.Bool.{cases_lt}
use Rattle.std.proofs.lemmas.List.{get_or-map, get_or_past, length-map}
use Rattle.std.proofs.lemmas.Option.{slice_get-get_or}
use Rattle.base.proofs.Booleans.{clash}
use Rattle.vk.specs.Stages.{host, expand}
use Rattle.program.specs.Entries.{Entry, OfWait, OfItem, OfSignal, OfHost, ByQueue, entries_of, queue_of}
use Rattle.program.specs.declared.program.Item.{Item}
use Rattle.program.specs.declared.program.Item.TheVariants.{Command, Global, BufferBarrier, ImageBarrier, Release, Acquire}
use Rattle.program.specs.declared.program.Program.{Program}
use Rattle.check_order.specs.Edges.{is_sync, is_host, node_at}
use Rattle.check_order.specs.Nodes.{item_node, entry_node, no_node, program_nodes}
use Rattle.check_order.specs.declared.node.Node.{Node}
use Rattle.check_table.specs.Channels.{MadeOf}
use Rattle.check_table.specs.Joined.{joined}
use Rattle.check_table.specs.Tables.{HasQueues}
use Rattle.check_table.proofs.Stages.{OfFive, five, one_bit, nothing, union, hosts, expanded, meets_five, five_meets}

-- SCOPES

abbrev HasFive : Node → Type 0
HasFive node = is_sync node.kind ≡ true → OfFive node.src_stages.0 × OfFive node.dst_stages.0

item_five : (q : ℕ) (item : Item) → HasFive (item_node q item)
item_five q (Command op) h = absurd (clash h)
item_five q (Global masks) h = (expanded masks.src_stages.0, expanded masks.dst_stages.0)
item_five q (BufferBarrier piece masks) h = (expanded masks.src_stages.0, expanded masks.dst_stages.0)
item_five q (ImageBarrier piece layouts masks) h = (expanded masks.src_stages.0, expanded masks.dst_stages.0)
item_five q (Release transfer) h = (expanded transfer.masks.src_stages.0, expanded transfer.masks.dst_stages.0)
item_five q (Acquire transfer) h = (expanded transfer.masks.src_stages.0, expanded transfer.masks.dst_stages.0)

entry_five : (queues : ℕ) (entry : Entry) → HasFive (entry_node queues entry)
entry_five queues (OfWait q wait) h = (nothing, expanded wait.stages.0)
entry_five queues (OfItem q item) h = item_five q item h
entry_five queues (OfSignal q signal) h = (union (expand signal.stages.0) host (expanded signal.stages.0) hosts, nothing)
entry_five queues (OfHost piece) h = absurd (clash h)

-- QUEUES

abbrev IsOnIts : Option ℕ → Node → Type 0
IsOnIts queue node = is_host node.kind ≡ false → queue ≡ Some node.queue

item_queue : (q : ℕ) (item : Item) → IsOnIts (Some q) (item_node q item)
item_queue q (Command op) h = refl
item_queue q (Global masks) h = refl
item_queue q (BufferBarrier piece masks) h = refl
item_queue q (ImageBarrier piece layouts masks) h = refl
item_queue q (Release transfer) h = refl
item_queue q (Acquire transfer) h = refl

entry_queue : (queues : ℕ) (entry : Entry) → IsOnIts (queue_of entry) (entry_node queues entry)
entry_queue queues (OfWait q wait) h = refl
entry_queue queues (OfItem q item) h = item_queue q item h
entry_queue queues (OfSignal q signal) h = refl
entry_queue queues (OfHost piece) h = absurd (clash (sym h))

module _ (P : Program) where
  abbrev make : Entry → Node
  make = entry_node (length P.queues)

  abbrev entry : ℕ → Entry
  entry n = get_or (entries_of P) n (OfHost 0)

  pub as_many : length (program_nodes P) ≡ length (entries_of P)
  as_many = length-map (entries_of P) make

  is_made : (n : ℕ) → n < length (entries_of P) → node_at (program_nodes P) n ≡ make (entry n)
  is_made n lt = get_or-map make (entries_of P) n (OfHost 0) no_node lt

  nodes_five : (n : ℕ) → HasFive (node_at (program_nodes P) n)
  nodes_five n = ⊎_elim
      (λ (lt : n < length (entries_of P)). subst HasFive (sym (is_made n lt)) (entry_five (length P.queues) (entry n)))
      (λ (ge : length (entries_of P) ≤ n). subst HasFive (sym (get_or_past (program_nodes P) n no_node (omega (arith, ge, as_many)))) (λ h. absurd (clash h)))
      (cases_lt n (length (entries_of P)))

  -- scopes are made of five stages
  pub made_of : MadeOf (joined (program_nodes P) []) five
  made_of = record {
    one = one_bit;
    src = λ x bit h m. five_meets (node_at (program_nodes P) x).src_stages.0 bit (nodes_five x h).0 m;
    dst = λ x bit h m. meets_five (node_at (program_nodes P) x).dst_stages.0 bit (nodes_five x h).1 m;
  }

  pub has_queues : ByQueue P → HasQueues (program_nodes P) (length P.queues)
  has_queues B n lt = subst (λ node. is_host node.kind ≡ false → node.queue < length P.queues) (sym (is_made n below))
      (λ h. (B.queued n (make (entry n)).queue (entry n) there (entry_queue (length P.queues) (entry n) h)).0)
    where
      below : n < length (entries_of P)
      below = omega (arith, lt, as_many)

      there : slice_get (entries_of P) n ≡ Some (entry n)
      there = slice_get-get_or (entries_of P) n (OfHost 0) below
