-- Agents by their numbers, eight for each queue, and the bytes of pieces that they touch.
use Rattle.std.specs.Prelude.{ℕ, List, ◌+◌, ◌*◌, ◌/◌, ◌%◌, ◌^◌, ◌&&◌, map, Bool, true}
use Rattle.std.specs.Int.{trailing_zeros}
use Rattle.std.specs.Int.Width.{w16}
use Rattle.std.specs.List.{range_with_len}
use Rattle.base.specs.Shapes.{bytes_of}
use Rattle.base.specs.declared.memory_range.MemoryRange.{MemoryRange}
use Rattle.device_cache.specs.Lines.{Bytes, range, is_in}
use Rattle.check_access.specs.Views.{View, effect_at, queue_at, piece_at, has_agent}
use Rattle.check_access.specs.declared.access.Agent.{Agent}
use Rattle.check_access.specs.declared.access.Agent.TheVariants as agent
use Rattle.check_access.specs.declared.access.AccessKind.{AccessKind}
use Rattle.check_access.specs.declared.access.AccessKind.TheVariants.{Load, Store, Transition, Discard, Release, Acquire}
use Rattle.check_access.specs.declared.effect.Scope.{Scope}
use Rattle.check_access.specs.declared.effect.Scope.TheVariants as scopes

-- the agent with a number
abbrev pub agent_at : ℕ → Agent
agent_at g = agent.Of (g / 8) (2 ^ (g % 8))

-- its number; the host has no lines, and none is asked for
abbrev pub agent_number : Agent → ℕ
agent_number (agent.Of queue bit) = 8 * queue + trailing_zeros w16 bit
agent_number agent.Host = 0

-- the number of the agent that loads or stores
abbrev pub agent_of : AccessKind → ℕ
agent_of (Load agent layout) = agent_number agent
agent_of (Store agent layout) = agent_number agent
agent_of (Transition layouts) = 0
agent_of (Discard layout) = 0
agent_of (Release handover) = 0
agent_of (Acquire handover) = 0

-- BYTES OF PIECES

abbrev pub piece_range : View → ℕ → MemoryRange
piece_range V p = range (piece_at V p).memory (piece_at V p).offset (bytes_of (piece_at V p).shape)

-- the byte is one of the piece
abbrev pub covers : View → ℕ → ℕ → ℕ → Bool
covers V p m i = is_in (piece_range V p) m i

-- what a memory has at the bytes of the piece
abbrev pub bytes_in : View → Bytes → ℕ → List ℕ
bytes_in V main p = map (λ k. main (piece_at V p).memory ((piece_at V p).offset + k)) (range_with_len 0 (bytes_of (piece_at V p).shape))

-- WHAT NODES MAKE AVAILABLE AND VISIBLE

abbrev pub in_scope : View → Scope → ℕ → ℕ → Bool
in_scope V scopes.Everywhere m i = true
in_scope V (scopes.Piece p) m i = covers V p m i

-- node n makes what the agent stored to the byte available
abbrev pub flushes_at : View → ℕ → ℕ → ℕ → ℕ → Bool
flushes_at V n g m i = has_agent (queue_at V n) (effect_at V n).available (agent_at g) && in_scope V (effect_at V n).scope m i

-- node n makes the byte visible to the agent
abbrev pub shows_at : View → ℕ → ℕ → ℕ → ℕ → Bool
shows_at V n g m i = has_agent (queue_at V n) (effect_at V n).visible (agent_at g) && in_scope V (effect_at V n).scope m i
