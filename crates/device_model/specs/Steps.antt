-- The state after an event.
use Rattle.std.specs.Prelude.{ℕ, zero, suc, List, [], ◌∷◌, ◌+◌, ◌*◌, ◌-◌, ◌==◌, ◌&&◌, ◌||◌, nat_le, nat_lt, max, map, length, slice_get, Bool, false, Option, None, if◌then◌else◌}
use Rattle.std.specs.List.{find}
use Rattle.std.specs.Option.{option_map_or}
use Rattle.base.specs.Shapes.{bytes_of}
use Rattle.base.specs.declared.cache_move.CacheMove.{CacheMove}
use Rattle.base.specs.declared.cache_move.MoveKind.{MoveKind}
use Rattle.base.specs.declared.cache_move.MoveKind.TheVariants.{WriteBack, Fill, DropLine}
use Rattle.base.specs.declared.event.Event.{Event}
use Rattle.base.specs.declared.event.Event.TheVariants.{Begin, End, Sync, Move, Host}
use Rattle.base.specs.declared.shape.Family.{Family}
use Rattle.vk.specs.declared.layout.Layout.{Layout}
use Rattle.device_cache.specs.Effects.{stored_in, wrote_main, wrote_back, filled_from, dropped_in}
use Rattle.base.specs.declared.memory_range.MemoryRange.{MemoryRange}
use Rattle.device_cache.specs.Lines.{Line, Lines, seen, written, cleaned, dropped}
use Rattle.device_model.specs.Agents.{agent_of, piece_range, covers, bytes_in, flushes_at, shows_at}
use Rattle.device_model.specs.Outputs.{stored}
use Rattle.device_model.specs.Ready.{is_command, kind_at, some_node, ready, loads_undefined, hits, marked_by}
use Rattle.device_model.specs.States.{is_begun, State, put, junk_at, junk_bytes}
use Rattle.device_model.specs.declared.phase.Phase.TheVariants.{Begun, Done}
use Rattle.device_model.specs.declared.owner.Owner.{Owner}
use Rattle.device_model.specs.declared.owner.Owner.TheVariants.{Unused, Left}
use Rattle.check_order.specs.Edges.{is_sync, is_host}
use Rattle.check_order.specs.declared.kind.Kind.{Kind}
use Rattle.check_order.specs.declared.kind.Kind.TheVariants.{Signal}
use Rattle.check_state.specs.PieceStates.{layout_after, owner_after}
use Rattle.program.specs.Limits.{memory_bytes}
use Rattle.program.specs.declared.program.Program.{Program}
use Rattle.check_access.specs.AccessKinds.{changes, loads, sets_layout, sets_owner, is_discard}
use Rattle.check_access.specs.Effects.{access}
use Rattle.check_access.specs.Views.{View, view_of, accesses_of, loads_of, queue_at, family_at, piece_at}
use Rattle.check_access.specs.declared.access.Access.{Access}
use Rattle.check_access.specs.declared.access.AccessKind.{AccessKind}
use Rattle.check_access.specs.declared.access.Agent.TheVariants as agent
use Rattle.check_access.specs.declared.access.AccessKind.TheVariants as access_kinds

-- OWNERS AND LAYOUTS

-- an unused piece is taken
abbrev pub used : Owner → Option Family → Owner
used Unused family = Left family
used (Left owner) family = Left owner

-- a discard, a release and an acquire decide who owns the piece; any other access takes an unused one
abbrev pub owner_by : AccessKind → Option Family → Owner → Owner
owner_by kind family owner = if sets_owner kind then Left (owner_after kind family) else used owner family

abbrev pub layout_by : AccessKind → Layout → Layout
layout_by kind layout = if sets_layout kind then layout_after kind else layout

-- after the accesses of node n
abbrev pub owned_after : View → ℕ → List Access → ℕ → Owner → Owner
owned_after V n [] p owner = owner
owned_after V n (a ∷ rest) p owner = owned_after V n rest p (if a.piece == p then owner_by a.kind (family_at V n) owner else owner)

abbrev pub laid_after : List Access → ℕ → Layout → Layout
laid_after [] p layout = layout
laid_after (a ∷ rest) p layout = laid_after rest p (if a.piece == p then layout_by a.kind layout else layout)

-- BEGIN

-- what the agent of an access sees of its piece
abbrev pub sight : View → State → Access → List ℕ
sight V s a = bytes_in V (λ m i. seen (s.line (agent_of a.kind) m i) (s.main m i)) a.piece

abbrev pub loaded_by : View → State → ℕ → List ℕ → Access → List ℕ
loaded_by V s n junk a = if loads_undefined V s n a then junk_bytes junk (bytes_of (piece_at V a.piece).shape) else sight V s a

abbrev pub begun : View → State → ℕ → List ℕ → State
begun V s n junk = record {
  main = s.main;
  line = s.line;
  phase = put s.phase n Begun;
  loaded = put s.loaded n (map (loaded_by V s n junk) (loads_of V n));
  marked = put (marked_by V s n) n (some_node V (λ x. is_begun (s.phase x) && hits V n x));
  host = s.host;
  layout = s.layout;
  owner = λ p. owned_after V n (accesses_of V n) p (s.owner p);
  counter = s.counter;
}

-- END

-- the store of a command
abbrev pub store_of : View → ℕ → Access
store_of V n = option_map_or (λ a. a) (find (λ a. changes a.kind) (accesses_of V n)) (access 0 (access_kinds.Load agent.Host None))

-- a marked command stores junk
abbrev pub made : Program → State → ℕ → List ℕ → List ℕ
made program s n junk =
    if s.marked n then junk_bytes junk (bytes_of (piece_at (view_of program) (store_of (view_of program) n).piece).shape) else stored program n (s.loaded n)

abbrev pub ended : View → State → ℕ → List ℕ → State
ended V s n bytes = record s {
  -- dirty lines over the whole piece
  line = stored_in (agent_of (store_of V n).kind) (piece_range V (store_of V n).piece) bytes s.line;
  phase = put s.phase n Done;
}

-- SYNC

-- main's byte once the dirty lines of the first k agents that pass are written to it, in rising number
abbrev pub flushed : ℕ → (ℕ → Bool) → (ℕ → Line) → ℕ → ℕ
flushed zero pass lines v = v
flushed (suc k) pass lines v = if pass k then written (lines k) (flushed k pass lines v) else flushed k pass lines v

-- a discard leaves junk, and so does a keeping transition whose load is undefined
abbrev pub junks : View → State → ℕ → Access → Bool
junks V s n a = is_discard a.kind || (loads a.kind && loads_undefined V s n a)

abbrev pub after_junk : View → State → ℕ → List ℕ → List Access → ℕ → ℕ → ℕ → ℕ
after_junk V s n junk [] m i v = v
after_junk V s n junk (a ∷ rest) m i v =
    after_junk V s n junk rest m i (if covers V a.piece m i && junks V s n a then junk_at junk (i - (piece_at V a.piece).offset) else v)

-- the value of its queue's timeline after a node: a signal raises it
abbrev pub raised_by : Kind → ℕ → ℕ
raised_by (Signal value) reached = max value reached
raised_by kind reached = reached

abbrev pub raised : ℕ → Kind → (ℕ → ℕ) → ℕ → ℕ
raised queue kind counter q = if queue == q then raised_by kind (counter q) else counter q

abbrev pub agent_count : View → ℕ
agent_count V = 8 * length V.families

-- lines of one byte after it is made available, and then visible
abbrev pub cleaned_at : View → ℕ → Lines → Lines
cleaned_at V n lines g m i = if flushes_at V n g m i then cleaned (lines g m i) else lines g m i

abbrev pub shown_at : View → ℕ → Lines → Lines
shown_at V n lines g m i = if shows_at V n g m i then dropped (lines g m i) else lines g m i

abbrev pub synced : View → State → ℕ → List ℕ → State
synced V s n junk = record {
  main = λ m i. after_junk V s n junk (accesses_of V n) m i (flushed (agent_count V) (λ g. flushes_at V n g m i) (λ g. s.line g m i) (s.main m i));
  line = shown_at V n (cleaned_at V n s.line);
  phase = put s.phase n Done;
  loaded = s.loaded;
  marked = marked_by V s n;
  host = s.host;
  layout = λ p. laid_after (accesses_of V n) p (s.layout p);
  owner = λ p. owned_after V n (accesses_of V n) p (s.owner p);
  counter = raised (queue_at V n) (kind_at V n) s.counter;
}

-- HOST

-- what the host reads: a read has one load
abbrev pub host_takes : View → State → ℕ → List ℕ → List Access → List ℕ
host_takes V s n junk [] = []
host_takes V s n junk (a ∷ rest) = if loads_undefined V s n a then junk_bytes junk (bytes_of (piece_at V a.piece).shape) else bytes_in V s.main a.piece

abbrev pub hosted : View → State → ℕ → List ℕ → State
hosted V s n junk = record s {
  phase = put s.phase n Done;
  marked = marked_by V s n;
  host = put s.host n (host_takes V s n junk (accesses_of V n));
}

-- CACHE MOVES

abbrev pub written_back : State → ℕ → MemoryRange → State
written_back s agent range = record s { main = wrote_main agent range s.line s.main; line = wrote_back agent range s.line }

abbrev pub lines_filled : State → ℕ → MemoryRange → State
lines_filled s agent range = record s { line = filled_from agent range s.main s.line }

abbrev pub lines_dropped : State → ℕ → MemoryRange → State
lines_dropped s agent range = record s { line = dropped_in agent range s.line }

abbrev pub moved_by : MoveKind → State → ℕ → MemoryRange → State
moved_by WriteBack s agent range = written_back s agent range
moved_by Fill s agent range = lines_filled s agent range
moved_by DropLine s agent range = lines_dropped s agent range

abbrev pub lines_moved : State → CacheMove → State
lines_moved s m = moved_by m.kind s m.agent m.range

-- EVENTS

-- the agent is known, and the range is one of a memory
abbrev pub may_move : Program → CacheMove → Bool
may_move program m =
    nat_lt m.agent (8 * length program.queues)
    && option_map_or (λ memory. nat_le (m.range.start + m.range.len) (memory_bytes memory)) (slice_get program.memories m.range.memory) false

-- an event that is not enabled changes nothing
abbrev pub after_begin : Program → State → ℕ → List ℕ → State
after_begin program s n junk = if is_command (kind_at (view_of program) n) && ready (view_of program) s n then begun (view_of program) s n junk else s

abbrev pub after_end : Program → State → ℕ → List ℕ → State
after_end program s n junk = if is_begun (s.phase n) then ended (view_of program) s n (made program s n junk) else s

abbrev pub after_sync : Program → State → ℕ → List ℕ → State
after_sync program s n junk = if is_sync (kind_at (view_of program) n) && ready (view_of program) s n then synced (view_of program) s n junk else s

abbrev pub after_host : Program → State → ℕ → List ℕ → State
after_host program s n junk = if is_host (kind_at (view_of program) n) && ready (view_of program) s n then hosted (view_of program) s n junk else s

abbrev pub after_move : Program → State → CacheMove → State
after_move program s m = if may_move program m then lines_moved s m else s

abbrev pub step : Program → State → Event → List ℕ → State
step program s (Begin n) junk = after_begin program s n junk
step program s (End n) junk = after_end program s n junk
step program s (Sync n) junk = after_sync program s n junk
step program s (Move m) junk = after_move program s m
step program s (Host n) junk = after_host program s n junk

-- an event, with the junk of what goes wrong in it
pub record Told : Type 0 where
  pub event : Event
  pub junk : List ℕ

abbrev pub after : Program → State → List Told → State
after program s [] = s
after program s (t ∷ rest) = after program (step program s t.event t.junk) rest
