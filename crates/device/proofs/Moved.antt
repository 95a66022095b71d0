-- A cache move keeps the device.
use Rattle.std.proofs.Common.{◌≡◌, ◌∙◌, ℕ, ◌+◌, ◌*◌, ◌-◌, ◌<◌, ◌≤◌, nat_le, nat_lt, true, false, [], ◌∷◌, ◌++◌, List, length, slice_get, Option, Some, None, Vec, Global, vec_len, refl, sym, ap, subst, arith}
use Rattle.std.specs.Arc.{arc_value}
use Rattle.std.specs.Option.{option_map_or}
use Rattle.std.specs.Prelude.{vec_capacity}
use Rattle.std.proofs.lemmas.Bool.{false≢true, and_parts, leb-true, ltb-true}
use Rattle.std.proofs.lemmas.Option.{slice_get_within}
use Rattle.base.specs.declared.cache_move.CacheMove.{CacheMove}
use Rattle.base.specs.declared.event.Event.{Event}
use Rattle.base.specs.declared.event.Event.TheVariants.{Move}
use Rattle.device_cache.specs.Effects.{Caches, move_lines}
use Rattle.base.specs.declared.memory_range.MemoryRange.{MemoryRange}
use Rattle.device_cache.specs.Lines.{Line}
use Rattle.device_cache.specs.Tables.{Table, caches_of, missing, InMemory, Keeps}
use Rattle.device_nodes.specs.Controls.{Control, Agrees}
use Rattle.device.proofs.Changed.{kept_with}
use Rattle.device.proofs.Events.{moves, room_moved}
use Rattle.device.proofs.Fitting.{missing_le, still_fits}
use Rattle.device.proofs.SeenBytes.{moves as moves_bytes}
use Rattle.device.specs.Internal.Kept.{device_in, IsKept}
use Rattle.device.specs.Internal.Tables.{memory_size, HasBytes}
use Rattle.device.specs.declared.device.Device.TheInside.{Inside}
use Rattle.device_model.proofs.Coming.{came_more}
use Rattle.device_model.proofs.Moving.{lines_alone}
use Rattle.device_model.specs.Coming.{is_enabled, AreEnabled}
use Rattle.device_model.specs.Devices.{Device, state_of}
use Rattle.device_model.specs.Histories.{moved}
use Rattle.device_model.specs.Moves.{MovesBy}
use Rattle.device_model.specs.States.{State}
use Rattle.device_model.specs.Steps.{lines_moved, may_move}
use Rattle.program.specs.Limits.{memory_bytes}
use Rattle.program.specs.declared.program.Memory.{Memory}
use Rattle.program.specs.declared.program.Program.{Program}

-- a known agent, and a range of a memory
pub record IsMove (program : Program) (m : CacheMove) : Type 0 where
  pub known : m.agent < 8 * length program.queues
  pub there : m.range.memory < length program.memories
  pub within : m.range.start + m.range.len ≤ memory_size program m.range.memory

in_memory : (program : Program) (r : MemoryRange) (o : Option Memory) → slice_get program.memories r.memory ≡ o → option_map_or (λ memory. nat_le (r.start + r.len) (memory_bytes memory)) o false ≡ true → (r.memory < length program.memories) × (r.start + r.len ≤ option_map_or memory_bytes o 0)
in_memory program r None is e = absurd (false≢true e)
in_memory program r (Some memory) is e = (slice_get_within program.memories r.memory memory is, leb-true (r.start + r.len) (memory_bytes memory) e)

pub is_move : (program : Program) (m : CacheMove) → may_move program m ≡ true → IsMove program m
is_move program move e =
    let r = move.range in
    let p = and_parts (nat_lt move.agent (8 * length program.queues)) (option_map_or (λ memory. nat_le (r.start + r.len) (memory_bytes memory)) (slice_get program.memories r.memory) false) e in
    let m = in_memory program r (slice_get program.memories r.memory) refl p.1 in
    record { known = ltb-true move.agent (8 * length program.queues) p.0; there = m.0; within = m.1 }

-- a move that the device may make, and what its table asks of it
pub record IsAsked (i : Inside) (m : CacheMove) : Type 0 where
  pub may : may_move (arc_value i.program) m ≡ true
  pub move : IsMove (arc_value i.program) m
  pub some : 0 < i.moves
  pub known : m.agent < i.table.agents
  pub within : InMemory i.table m.range.memory m.range.start m.range.len
  pub room : missing i.table m.range.memory m.range.start m.range.len ≤ i.table.cuts_left

-- phases, marks, layouts, owners and counters are as before
agrees_still : (control : Control) (s : State) (main : ℕ → ℕ → ℕ) (lines : ℕ → ℕ → ℕ → Line) → Agrees control s → Agrees control (record s { main = main; line = lines })
agrees_still control s main lines A = record { phase = A.phase; mark = A.mark; layout = A.layout; owner = A.owner; counter = A.counter }

module _ (i : Inside) (K : IsKept i) {d : Device} (same : device_in i ≡ d) (m : CacheMove) (may : may_move d.program m ≡ true) (some : 0 < d.moves) where
  pub asked : IsAsked i m
  asked =
      let F = K.table in
      let here = subst (λ (d : Device). (may_move d.program m ≡ true) × (0 < d.moves)) (sym same) (may, some) in
      let M = is_move (arc_value i.program) m here.0 in
      record {
        may = here.0;
        move = M;
        some = here.1;
        known = omega (arith, M.known, F.agents);
        within = record { there = omega (arith, M.there, F.memories); within = omega (arith, M.within, F.sizes m.range.memory) };
        room = omega (arith, missing_le i.table m.range.memory m.range.start m.range.len, K.room.for_moves, here.1);
      }

  module _ (u : Table) (keeps : Keeps i.table u) (cuts : i.table.cuts_left ≤ u.cuts_left + missing i.table m.range.memory m.range.start m.range.len) (stores : u.stores_left ≡ i.table.stores_left) (h : Vec Event Global) (longer : vec_len h ≡ vec_len i.history + 1) (capacity : vec_capacity h ≡ vec_capacity i.history) where
    -- main and lines alone are others
    kept_by : (event : Event) → is_enabled (arc_value i.program) (state_of (device_in i)) event ≡ true → (main : ℕ → ℕ → ℕ) (lines : ℕ → ℕ → ℕ → Line) (c : Caches) → (let r : State = record (state_of (device_in i)) { main = main; line = lines } in state_of (moved (device_in i) event) ≡ r → HasBytes (arc_value i.program) c r → caches_of u ≡ c → h.items ≡ i.history.items ++ event ∷ [] → IsKept (record i { table = u; history = h; moves = i.moves - 1 }))
    kept_by event goes main lines c is bytes made items =
        let program = arc_value i.program in
        let s = state_of (device_in i) in
        let r : State = record s { main = main; line = lines } in
        kept_with i K i.control u i.pending i.reads h (i.moves - 1) refl refl (still_fits i.table u program i.fill keeps K.table) r
        (ap (λ (history : List Event). state_of (record { program = program; fill = i.fill; history = history; moves = i.moves - 1 })) items ∙ is)
        (moves program i.control i.table u i.pending.items i.reads.items s r K.state (agrees_still i.control s main lines K.state.agrees) (subst (λ (c : Caches). HasBytes program c r) (sym made) bytes) (λ n. refl) (λ n. refl) (λ n. refl))
        (room_moved program s r i.moves i.table.cuts_left i.table.stores_left (vec_len i.history) (vec_capacity i.history) u.cuts_left u.stores_left (vec_len h) (vec_capacity h) K.room asked.some (λ n. refl) (omega (arith, cuts, missing_le i.table m.range.memory m.range.start m.range.len)) stores longer capacity)
        (subst (λ (events : List Event). AreEnabled program i.fill events (length events)) (sym items) (came_more (device_in i) event K.came goes))

    pub kept_move : ((d : Device) (m : CacheMove) → MovesBy d m) → caches_of u ≡ move_lines m (caches_of i.table) → h.items ≡ i.history.items ++ Move m ∷ [] → IsKept (record i { table = u; history = h; moves = i.moves - 1 })
    kept_move laws made items =
        let s = state_of (device_in i) in
        let after = lines_moved s m in
        let same = lines_alone s m in
        kept_by (Move m) asked.may after.main after.line (move_lines m (caches_of i.table)) (laws (device_in i) m asked.may ∙ same)
        (subst (λ (s : State). HasBytes (arc_value i.program) (move_lines m (caches_of i.table)) s) same (moves_bytes (arc_value i.program) (caches_of i.table) s K.state.bytes m.agent m.range asked.move.within m.kind)) made items
