-- No line stands for a byte behind the end of a memory, whatever events come, of any program without a fault.
use Rattle.std.proofs.Common.{◌≡◌, ℕ, ◌+◌, ◌*◌, ◌<◌, ◌≤◌, ◌&&◌, ◌==◌, nat_le, nat_lt, Bool, true, false, List, [], ◌∷◌, length, map, get_or, slice_get, slice_index, Option, Some, None, if◌then◌else◌, refl, sym, ap, ◌∙◌, subst, ⊎_elim, arith, eqb-true}
use Rattle.std.specs.Prelude.{◌-◌}
use Rattle.std.specs.Option.{option_map_or}
use Rattle.std.proofs.lemmas.Bool.{false≢true, cases_eq, and_parts, and_right, lt-ltb, ltb-true, leb-true}
use Rattle.std.proofs.lemmas.Option.{slice_get-get_or}
use Rattle.base.proofs.Absence.{map_none}
use Rattle.base.proofs.Booleans.{kept_false}
use Rattle.base.specs.declared.cache_move.CacheMove.{CacheMove}
use Rattle.base.specs.declared.cache_move.MoveKind.{MoveKind}
use Rattle.base.specs.declared.cache_move.MoveKind.TheVariants.{WriteBack, Fill, DropLine}
use Rattle.base.specs.declared.event.Event.{Event}
use Rattle.base.specs.declared.event.Event.TheVariants.{Begin, End, Sync, Move, Host}
use Rattle.base.specs.declared.memory_range.MemoryRange.{MemoryRange}
use Rattle.device_cache.specs.Lines.{Absent, Dirty, is_in, cleaned, filled, dropped}
use Rattle.check_order.specs.Edges.{is_sync, is_host}
use Rattle.device_model.specs.Agents.{agent_of, piece_range, covers, flushes_at, shows_at}
use Rattle.device_model.specs.Devices.{Device, opening, told, state_of}
use Rattle.device_model.specs.Ready.{is_command, kind_at, ready}
use Rattle.device_model.specs.States.{is_begun, State, opened}
use Rattle.device_model.specs.Steps.{store_of, begun, made, ended, synced, hosted, moved_by, lines_moved, may_move, step, Told, after}
use Rattle.device_model.specs.Within.{is_byte, LinesWithin}
use Rattle.device_model.specs.declared.phase.Phase.TheVariants.{Begun}
use Rattle.device_model.proofs.Control.{put_other, still_begun, ready_within}
use Rattle.device_model.proofs.Formed.{Formed, has_store}
use Rattle.device_model.proofs.Programs.{formed, in_range}
use Rattle.device_model.proofs.Shared.{covers_place}
use Rattle.program.proofs.Obeying.{obeys}
use Rattle.program.specs.FirstFault.{first_broken, first_fault}
use Rattle.program.specs.Limits.{memory_bytes}
use Rattle.program.specs.Paths as paths
use Rattle.program.specs.declared.program.Memory.{Memory}
use Rattle.program.specs.declared.program.Memory.TheVariants.{Plain}
use Rattle.program.specs.declared.program.Program.{Program}
use Rattle.program.specs.declared.rule.Rule.TheVariants as rules
use Rattle.check_access.specs.Views.{View, view_of, no_piece, piece_at}

module _ (program : Program) (none : first_broken program ≡ None) where
  abbrev V : View
  V = view_of program

  abbrev F : Formed V
  F = formed program none

  -- BYTES OF PIECES AND RANGES

  piece_inside : (p m i : ℕ) → p < length V.pieces → covers V p m i ≡ true → is_byte program m i ≡ true
  piece_inside p m i lt h =
      let a = covers_place V p m i h in
      let known : (piece_at V p).memory < length program.memories = ltb-true (piece_at V p).memory (length program.memories) ((obeys program none rules.Known).pieces p no_piece lt) in
      let memory : Memory = get_or program.memories (piece_at V p).memory (Plain 0) in
      let at : slice_get program.memories (piece_at V p).memory ≡ Some memory = slice_get-get_or program.memories (piece_at V p).memory (Plain 0) known in
      let room = in_range program none p lt memory at in
      ap (λ o. option_map_or (λ memory. nat_lt i (memory_bytes memory)) o false) (ap (slice_get program.memories) (sym a.0) ∙ at)
      ∙ lt-ltb i (memory_bytes memory) (omega (arith, room, a.1, a.2))

  range_inside : (move : CacheMove) (m i : ℕ) → may_move program move ≡ true → is_in move.range m i ≡ true → is_byte program m i ≡ true
  range_inside move m i may h = go (slice_get program.memories range.memory) refl (and_parts (nat_lt move.agent (8 * length program.queues)) _ may).1
    where
      range : MemoryRange
      range = move.range

      go : (o : Option Memory) → slice_get program.memories range.memory ≡ o → option_map_or (λ memory. nat_le (range.start + range.len) (memory_bytes memory)) o false ≡ true → is_byte program m i ≡ true
      go None e k = absurd (false≢true k)
      go (Some memory) e k =
          let a = and_parts (range.memory == m) (nat_le range.start i && nat_lt i (range.start + range.len)) h in
          let b = and_parts (nat_le range.start i) (nat_lt i (range.start + range.len)) a.1 in
          let below : i < range.start + range.len = ltb-true i (range.start + range.len) b.1 in
          let room : range.start + range.len ≤ memory_bytes memory = leb-true (range.start + range.len) (memory_bytes memory) k in
          ap (λ o. option_map_or (λ memory. nat_lt i (memory_bytes memory)) o false) (ap (slice_get program.memories) (sym (eqb-true range.memory m a.0)) ∙ e)
          ∙ lt-ltb i (memory_bytes memory) (omega (arith, below, room))

  -- EACH EVENT

  record Stays (s : State) : Type 0 where
    commands : (n : ℕ) → is_begun (s.phase n) ≡ true → (n < length V.nodes) × (is_command (kind_at V n) ≡ true)
    lines : LinesWithin program s

  -- a line that is not there does not come by these
  still : (a b : Bool) → (if a then dropped (if b then cleaned Absent else Absent) else (if b then cleaned Absent else Absent)) ≡ Absent
  still true true = refl
  still true false = refl
  still false true = refl
  still false false = refl

  module _ (s : State) (K : Stays s) where
    begin_or : (n : ℕ) (junk : List ℕ) (b : Bool) → (is_command (kind_at V n) && ready V s n) ≡ b → Stays (if b then begun V s n junk else s)
    begin_or n junk false e = K
    begin_or n junk true e =
        let p = and_parts (is_command (kind_at V n)) (ready V s n) e in
        record {
          commands = λ x h. ⊎_elim
              (λ q. (subst (λ z. z < length V.nodes) (sym q) (ready_within V s n p.1), ap (λ z. is_command (kind_at V z)) q ∙ p.0))
              (λ q. K.commands x (ap is_begun (sym (put_other s.phase n x Begun q)) ∙ h))
              (cases_eq x n);
          lines = K.lines;
        }

    end_or : (n : ℕ) (bytes : List ℕ) (b : Bool) → is_begun (s.phase n) ≡ b → Stays (if b then ended V s n bytes else s)
    end_or n bytes false e = K
    end_or n bytes true e = record { commands = λ x h. K.commands x (still_begun s.phase n x h); lines = lines }
      where
        p : ℕ
        p = (store_of V n).piece

        there : (store_of V n).piece < length V.pieces
        there = let c = K.commands n e in let h = (has_store V F n c.0 c.1).0 in F.shaped.known n h.0 (store_of V n) h.1

        lines : LinesWithin program (ended V s n bytes)
        lines g m i h =
            ap (λ z. if z then Dirty (slice_index bytes (i - (piece_range V (store_of V n).piece).start)) else s.line g m i)
            (and_right (g == agent_of (store_of V n).kind) (covers V (store_of V n).piece m i) (kept_false (covers V (store_of V n).piece m i) (is_byte program m i) (piece_inside (store_of V n).piece m i there) h))
            ∙ K.lines g m i h

    sync_or : (n : ℕ) (junk : List ℕ) (b : Bool) → Stays (if b then synced V s n junk else s)
    sync_or n junk false = K
    sync_or n junk true = record {
      commands = λ x h. K.commands x (still_begun s.phase n x h);
      lines = λ g m i h.
          ap (λ l. if shows_at V n g m i then dropped (if flushes_at V n g m i then cleaned l else l) else (if flushes_at V n g m i then cleaned l else l)) (K.lines g m i h)
          ∙ still (shows_at V n g m i) (flushes_at V n g m i);
    }

    host_or : (n : ℕ) (junk : List ℕ) (b : Bool) → Stays (if b then hosted V s n junk else s)
    host_or n junk false = K
    host_or n junk true = record { commands = λ x h. K.commands x (still_begun s.phase n x h); lines = K.lines }

    move_stays : (agent : ℕ) (range : MemoryRange) → ((m i : ℕ) → is_in range m i ≡ true → is_byte program m i ≡ true) → (kind : MoveKind) → Stays (moved_by kind s agent range)
    move_stays agent range inside WriteBack = record {
      commands = K.commands;
      lines = λ g m i h. ap (λ l. if (g == agent) && is_in range m i then cleaned l else l) (K.lines g m i h) ∙ still false ((g == agent) && is_in range m i);
    }
    move_stays agent range inside Fill = record {
      commands = K.commands;
      lines = λ g m i h.
          ap (λ z. if z then filled (s.line g m i) (s.main m i) else s.line g m i) (and_right (g == agent) (is_in range m i) (kept_false (is_in range m i) (is_byte program m i) (inside m i) h))
          ∙ K.lines g m i h;
    }
    move_stays agent range inside DropLine = record {
      commands = K.commands;
      lines = λ g m i h. ap (λ l. if (g == agent) && is_in range m i then dropped l else l) (K.lines g m i h) ∙ gone ((g == agent) && is_in range m i);
    }
      where
        gone : (b : Bool) → (if b then dropped Absent else Absent) ≡ Absent
        gone true = refl
        gone false = refl

    move_or : (move : CacheMove) (b : Bool) → may_move program move ≡ b → Stays (if b then lines_moved s move else s)
    move_or move false e = K
    move_or move true e = move_stays move.agent move.range (λ m i. range_inside move m i e) move.kind

    step_stays : (event : Event) (junk : List ℕ) → Stays (step program s event junk)
    step_stays (Begin n) junk = begin_or n junk _ refl
    step_stays (End n) junk = end_or n (made program s n junk) _ refl
    step_stays (Sync n) junk = sync_or n junk (is_sync (kind_at V n) && ready V s n)
    step_stays (Move m) junk = move_or m _ refl
    step_stays (Host n) junk = host_or n junk (is_host (kind_at V n) && ready V s n)

  after_stays : (told : List Told) (s : State) → Stays s → Stays (after program s told)
  after_stays [] s K = K
  after_stays (t ∷ rest) s K = after_stays rest (step program s t.event t.junk) (step_stays s K t.event t.junk)

pub lines_within : (d : Device) → first_fault d.program ≡ None → LinesWithin d.program (state_of d)
unfolding state_of
lines_within d none =
    (after_stays d.program (map_none paths.fault_of (first_broken d.program) none) (map (told d.fill) d.history) (opened (opening d.program d.fill))
    (record { commands = λ n h. absurd (false≢true h); lines = λ g m i h. refl })).lines
