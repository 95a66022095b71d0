-- What each node of a program is to the order of nodes. Stages are expanded here.
use Rattle.std.specs.Prelude.{ℕ, List, map, length}
use Rattle.std.specs.Int.RustNames.{bit_or}
use Rattle.vk.specs.Roles.{op_stage}
use Rattle.vk.specs.Stages.{host, expand}
use Rattle.vk.specs.declared.masks.Masks.{Masks}
use Rattle.check_order.specs.declared.kind.Kind.{Kind}
use Rattle.check_order.specs.declared.kind.Kind.TheVariants as kinds
use Rattle.check_order.specs.declared.node.Node.{Node}
use Rattle.program.specs.Entries.{Entry, OfWait, OfItem, OfSignal, OfHost, entries_of}
use Rattle.program.specs.declared.program.Item.{Item}
use Rattle.program.specs.declared.program.Item.TheVariants.{Command, Global, BufferBarrier, ImageBarrier, Release, Acquire}
use Rattle.program.specs.declared.program.Program.{Program}
use Rattle.program.specs.declared.program.Signal.{Signal}
use Rattle.program.specs.declared.program.WaitFor.{WaitFor}

-- of a queue, with the stages that it waits for and those that wait for it
abbrev pub node : Kind → ℕ → ℕ → ℕ → Node
node kind queue src dst = record { kind = kind; queue = queue; src_stages = record { 0 = src }; dst_stages = record { 0 = dst } }

abbrev pub wait_node : ℕ → WaitFor → Node
wait_node q wait = node (kinds.Wait wait.queue wait.value) q 0 (expand wait.stages.0)

abbrev pub barrier_node : ℕ → Masks → Node
barrier_node q masks = node kinds.Barrier q (expand masks.src_stages.0) (expand masks.dst_stages.0)

-- release and acquire are barriers
abbrev pub item_node : ℕ → Item → Node
item_node q (Command op) = node kinds.Command q (op_stage op) (op_stage op)
item_node q (Global masks) = barrier_node q masks
item_node q (BufferBarrier piece masks) = barrier_node q masks
item_node q (ImageBarrier piece layouts masks) = barrier_node q masks
item_node q (Release transfer) = barrier_node q transfer.masks
item_node q (Acquire transfer) = barrier_node q transfer.masks

-- the host may read what comes before a signal
abbrev pub signal_node : ℕ → Signal → Node
signal_node q signal = node (kinds.Signal signal.value) q (bit_or (expand signal.stages.0) host) 0

-- host reads come after all queues
abbrev pub host_node : ℕ → Node
host_node queues = node kinds.Host queues 0 0

abbrev pub entry_node : ℕ → Entry → Node
entry_node queues (OfWait q wait) = wait_node q wait
entry_node queues (OfItem q item) = item_node q item
entry_node queues (OfSignal q signal) = signal_node q signal
entry_node queues (OfHost piece) = host_node queues

-- all nodes, in the order of their numbers
abbrev pub program_nodes : Program → List Node
program_nodes program = map (entry_node (length program.queues)) (entries_of program)

-- a node without edges, for numbers past the last node
abbrev pub no_node : Node
no_node = node kinds.Command 0 0 0
