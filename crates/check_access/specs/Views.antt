-- A program as it is checked, by the numbers of its nodes and pieces.
use Rattle.std.specs.Prelude.{ℕ, List, ◌+◌, ◌==◌, ◌&&◌, ◌||◌, nat_lt, length, map, get_or, slice_get, Bool, true, false, Option}
use Rattle.std.specs.List.{filter, flat_map, range_with_len}
use Rattle.std.specs.Option.{option_map_or}
use Rattle.base.specs.Shapes.{bytes_of, is_buffer}
use Rattle.base.specs.declared.shape.Family.{Family}
use Rattle.base.specs.declared.shape.Shape.TheVariants.{Buffer}
use Rattle.vk.specs.Agents.{host_agent}
use Rattle.vk.specs.Sets.{meets}
use Rattle.vk.specs.Sharings.{is_shared}
use Rattle.vk.specs.declared.sharing.Sharing.TheVariants.{Exclusive}
use Rattle.check_order.specs.Edges.{node_at}
use Rattle.check_order.specs.Nodes.{program_nodes}
use Rattle.check_order.specs.declared.node.Node.{Node}
use Rattle.program.specs.Entries.{entries_of}
use Rattle.program.specs.Rules.{shapes_of}
use Rattle.program.specs.declared.program.Memory.{Memory}
use Rattle.program.specs.declared.program.Memory.TheVariants.{Plain, Import}
use Rattle.program.specs.declared.program.Piece.{Piece}
use Rattle.program.specs.declared.program.Program.{Program}
use Rattle.check_access.specs.AccessKinds.{changes, loads, transfers}
use Rattle.check_access.specs.Effects.{entry_effect, no_effect}
use Rattle.check_access.specs.declared.access.Access.{Access}
use Rattle.check_access.specs.declared.access.Agent.{Agent}
use Rattle.check_access.specs.declared.access.Agent.TheVariants as agent
use Rattle.check_access.specs.declared.node_access.NodeAccess.{NodeAccess}
use Rattle.check_access.specs.declared.effect.Scope.{Scope}
use Rattle.check_access.specs.declared.effect.Scope.TheVariants as scopes
use Rattle.check_access.specs.declared.effect.Effect.{Effect}

-- nodes and what they do by their numbers, pieces and whether they begin with an import's bytes, families of queues
pub record View : Type 0 where
  pub nodes : List Node
  pub effects : List Effect
  pub pieces : List Piece
  pub imported : List Bool
  pub families : List Family

abbrev pub is_import : Memory → Bool
is_import (Plain size) = false
is_import (Import bytes) = true

-- a buffer in an import memory
abbrev pub piece_imported : List Memory → Piece → Bool
piece_imported memories piece = is_buffer piece.shape && option_map_or is_import (slice_get memories piece.memory) false

abbrev pub view_of : Program → View
view_of program = record {
  nodes = program_nodes program;
  effects = map (entry_effect (shapes_of program)) (entries_of program);
  pieces = program.pieces;
  imported = map (piece_imported program.memories) program.pieces;
  families = map (λ queue. queue.family) program.queues;
}

-- NODES

abbrev pub effect_at : View → ℕ → Effect
effect_at V n = get_or V.effects n no_effect

abbrev pub accesses_of : View → ℕ → List Access
accesses_of V n = (effect_at V n).accesses

-- the loads of a node, in their order
abbrev pub loads_of : View → ℕ → List Access
loads_of V n = filter (λ a. loads a.kind) (accesses_of V n)

abbrev pub queue_at : View → ℕ → ℕ
queue_at V n = (node_at V.nodes n).queue

-- the family of a node's queue; a host read has none
abbrev pub family_at : View → ℕ → Option Family
family_at V n = slice_get V.families (queue_at V n)

-- agents of a queue and the host, as a set, have the agent
abbrev pub has_agent : ℕ → ℕ → Agent → Bool
has_agent q set (agent.Of queue bit) = (queue == q) && meets set bit
has_agent q set agent.Host = meets set host_agent

abbrev pub is_on : ℕ → Scope → Bool
is_on p scopes.Everywhere = true
is_on p (scopes.Piece piece) = piece == p

-- node n makes the agent's stores to the piece available
abbrev pub makes_available : View → ℕ → Agent → ℕ → Bool
makes_available V n agent p = has_agent (queue_at V n) (effect_at V n).available agent && is_on p (effect_at V n).scope

-- node n makes the piece's memory visible to the agent
abbrev pub makes_visible : View → ℕ → Agent → ℕ → Bool
makes_visible V n agent p = has_agent (queue_at V n) (effect_at V n).visible agent && is_on p (effect_at V n).scope

-- PIECES

-- a piece of no bytes, where there is none with the number
abbrev pub no_piece : Piece
no_piece = record { shape = Buffer 0; memory = 0; offset = 0; sharing = Exclusive }

abbrev pub piece_at : View → ℕ → Piece
piece_at V p = get_or V.pieces p no_piece

abbrev pub is_before_end : Piece → Piece → Bool
is_before_end a b = nat_lt a.offset (b.offset + bytes_of b.shape)

-- in one memory, and with bytes in common
abbrev pub pieces_overlap : Piece → Piece → Bool
pieces_overlap a b = (a.memory == b.memory) && (is_before_end a b && is_before_end b a)

abbrev pub overlap : View → ℕ → ℕ → Bool
overlap V p q = pieces_overlap (piece_at V p) (piece_at V q)

-- the numbers of those pieces that overlap this one, in rising order
abbrev pub overlapping_in : List Piece → Piece → List ℕ
overlapping_in pieces a = filter (λ q. pieces_overlap a (get_or pieces q no_piece)) (range_with_len 0 (length pieces))

abbrev pub overlapping : View → ℕ → List ℕ
overlapping V p = overlapping_in V.pieces (piece_at V p)

abbrev pub shared_at : View → ℕ → Bool
shared_at V p = is_shared (piece_at V p).sharing

abbrev pub imported_at : View → ℕ → Bool
imported_at V p = get_or V.imported p false

-- ACCESSES IN AN ORDER

abbrev pub node_access : ℕ → Access → NodeAccess
node_access n access = record { node = n; access = access }

-- node by node, and each node's in their order
abbrev pub node_accesses_of : View → List ℕ → List NodeAccess
node_accesses_of V order = flat_map (λ n. map (node_access n) (accesses_of V n)) order

-- two accesses that may not be in either order: a change and what touches the same bytes, or a transfer and what touches the
-- same piece
abbrev pub clash : View → Access → Access → Bool
clash V a b =
    (overlap V a.piece b.piece && (changes a.kind || changes b.kind))
    || ((a.piece == b.piece) && (transfers a.kind || transfers b.kind))
