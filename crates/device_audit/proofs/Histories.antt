-- How many events a history has, and that its numbers are those of nodes, agents and memories: so it is read again as it is printed.
use Rattle.std.proofs.Common.{◌≡◌, ◌∙◌, ℕ, zero, suc, ◌+◌, ◌*◌, ◌^◌, ◌<◌, ◌≤◌, List, [], ◌∷◌, ◌++◌, length, take, take-suc, get_or, true, false, refl, sym, ap, subst, ⊎_elim, arith}
use Rattle.std.specs.Option.{option_map_or}
use Rattle.std.proofs.Math.Seq.{take-length}
use Rattle.std.proofs.lemmas.Bool.{and_parts, cases_eq, false≢true}
use Rattle.std.proofs.lemmas.List.{length-append, length-map}
use Rattle.std.proofs.lemmas.List.Elements.{filter-append}
use Rattle.std.proofs.lemmas.Option.{slice_get-get_or}
use Rattle.device_audit.specs.Again.{HasNumbers, HaveNumbers, HistoriesAreRead}
use Rattle.device_audit.proofs.Again.{read_again}
use Rattle.base.proofs.Absence.{map_none}
use Rattle.base.specs.declared.cache_move.CacheMove.{CacheMove}
use Rattle.base.specs.declared.event.Event.{Event}
use Rattle.base.specs.declared.event.Event.TheVariants.{Begin, End, Sync, Move, Host}
use Rattle.device.proofs.Facts.{memory_small}
use Rattle.device.proofs.Keeping.{begun_is, ready_inside, ready_idle}
use Rattle.device.proofs.Lefts.{first_events, left_put}
use Rattle.device.proofs.Moved.{IsMove, is_move}
use Rattle.device.specs.Internal.Rooms.{events_left, left_of}
use Rattle.check_order.specs.Edges.{is_sync, is_host}
use Rattle.check_order.specs.Nodes.{entry_node}
use Rattle.device_model.proofs.Control.{put_other, still_begun}
use Rattle.device_model.proofs.Moving.{lines_alone}
use Rattle.device_model.proofs.Running.{goes_on_by, moved_as, moves_by, opens}
use Rattle.device_model.specs.Coming.{is_enabled, left_by, AreEnabled}
use Rattle.device_model.specs.Devices.{Device, state_of, did, is_ready}
use Rattle.device_model.specs.Histories as histories
use Rattle.device_model.specs.Histories.{moves_in}
use Rattle.device_model.specs.Ready.{is_command, kind_at}
use Rattle.device_model.specs.States.{is_begun, put}
use Rattle.device_model.specs.Steps.{may_move}
use Rattle.device_model.specs.declared.phase.Phase.{Phase}
use Rattle.device_model.specs.declared.phase.Phase.TheVariants.{Idle, Begun, Done}
use Rattle.program.proofs.Few.{is_small}
use Rattle.program.specs.Entries.{entries_of}
use Rattle.program.specs.FirstFault.{first_broken}
use Rattle.program.specs.Limits.{memory_bytes}
use Rattle.program.specs.Obeys.{IsSmall}
use Rattle.program.specs.Paths.{fault_of}
use Rattle.program.specs.declared.program.Memory.TheVariants.{Plain}
use Rattle.program.specs.declared.program.Program.{Program}
use Rattle.check_access.specs.Views.{view_of}

-- a device on which these events have come
abbrev on : Program → ℕ → List Event → Device
on program fill events = record { program = program; fill = fill; history = events; moves = 0 }

abbrev count_of : Program → ℕ
count_of program = length (view_of program).nodes

-- at most two events came of each node, beside the cache moves, and begun are nodes that there are
record IsCounted (program : Program) (fill : ℕ) (events : List Event) : Type 0 where
  few : length events + left_of events_left (state_of (on program fill events)).phase (count_of program) ≤ 2 * count_of program + length (moves_in events)
  begun : (n : ℕ) → is_begun ((state_of (on program fill events)).phase n) ≡ true → n < count_of program

none_counted : (program : Program) (fill : ℕ) → IsCounted program fill []
none_counted program fill =
    let same : (state_of (on program fill [])).phase ≡ (λ n. Idle) = ap (λ s. s.phase) (opens program fill 0) in
    record {
      few = omega (arith, ap (λ (f : ℕ → Phase). left_of events_left f (count_of program)) same, first_events (count_of program));
      begun = λ n b. absurd (false≢true (ap (λ (f : ℕ → Phase). is_begun (f n)) (sym same) ∙ b));
    }

-- ONE EVENT

module _ (program : Program) (fill : ℕ) (events : List Event) (C : IsCounted program fill events) where
  abbrev d : Device
  d = on program fill events

  abbrev phase : ℕ → Phase
  phase = (state_of d).phase

  counted : (event : Event) (next : ℕ → Phase) → (state_of (did d event)).phase ≡ next → left_of events_left next (count_of program) + 1 ≤ left_of events_left phase (count_of program) + length (moves_in (event ∷ [])) → ((n : ℕ) → is_begun (next n) ≡ true → n < count_of program) → IsCounted program fill (events ++ event ∷ [])
  counted event next is less begun =
      let longer = length-append events (event ∷ []) in
      let moves = ap length (filter-append histories.is_move events (event ∷ [])) ∙ length-append (moves_in events) (moves_in (event ∷ [])) in
      let left = ap (λ (f : ℕ → Phase). left_of events_left f (count_of program)) is in
      record {
        few = let few = C.few in omega (arith, few, longer, moves, less, left);
        begun = λ n b. begun n (ap (λ (f : ℕ → Phase). is_begun (f n)) (sym is) ∙ b);
      }

  -- a ready node is done with its event
  ended : (event : Event) (n : ℕ) → moves_in (event ∷ []) ≡ [] → is_ready d n ≡ true → (state_of (did d event)).phase ≡ put phase n Done → IsCounted program fill (events ++ event ∷ [])
  ended event n none ready is =
      let step = left_put events_left phase (count_of program) n Done (ready_inside d n ready) in
      let idle = ap events_left (ready_idle d n ready) in
      counted event (put phase n Done) is (omega (arith, step, idle)) (λ m b. C.begun m (still_begun phase n m b))

  moved : (event : Event) → length (moves_in (event ∷ [])) ≡ 1 → (state_of (histories.moved d event)).phase ≡ phase → IsCounted program fill (events ++ event ∷ [])
  moved event one is = counted event phase (ap (λ s. s.phase) (sym (moved_as d event)) ∙ is) (omega (arith, one)) C.begun

  counted_more : (event : Event) → is_enabled program (state_of d) event ≡ true → IsCounted program fill (events ++ event ∷ [])
  counted_more (Begin n) may =
      let p = and_parts (is_command (kind_at (view_of program) n)) (is_ready d n) may in
      let inside = ready_inside d n p.1 in
      let step = left_put events_left phase (count_of program) n Begun inside in
      let idle = ap events_left (ready_idle d n p.1) in
      counted (Begin n) (put phase n Begun) (ap (λ s. s.phase) ((goes_on_by d n).begins p.0 p.1)) (omega (arith, step, idle))
      (λ m b. ⊎_elim (λ (e : m ≡ n). omega (arith, e, inside)) (λ ne. C.begun m (ap is_begun (sym (put_other phase n m Begun ne)) ∙ b)) (cases_eq m n))
  counted_more (End n) may =
      let step = left_put events_left phase (count_of program) n Done (C.begun n may) in
      let begun = ap events_left (begun_is (phase n) may) in
      counted (End n) (put phase n Done) (ap (λ s. s.phase) ((goes_on_by d n).ends may)) (omega (arith, step, begun)) (λ m b. C.begun m (still_begun phase n m b))
  counted_more (Sync n) may =
      let p = and_parts (is_sync (kind_at (view_of program) n)) (is_ready d n) may in
      ended (Sync n) n refl p.1 (ap (λ s. s.phase) ((goes_on_by d n).syncs p.0 p.1))
  counted_more (Host n) may =
      let p = and_parts (is_host (kind_at (view_of program) n)) (is_ready d n) may in
      ended (Host n) n refl p.1 (ap (λ s. s.phase) ((goes_on_by d n).reads p.0 p.1))
  counted_more (Move m) may = moved (Move m) refl (ap (λ s. s.phase) (moves_by d m may ∙ lines_alone (state_of d) m))

  -- ITS NUMBERS

  module _ (small : IsSmall program) where
    count_small : count_of program < 2 ^ 32
    count_small = let few = small.entries in omega (arith, few, length-map (entries_of program) (entry_node (length program.queues)))

    ready_small : (n : ℕ) → is_ready d n ≡ true → n < 2 ^ 32
    ready_small n ready = let inside = ready_inside d n ready in let few = count_small in omega (arith, inside, few)

    move_small : (m : CacheMove) → may_move program m ≡ true → (m.agent < 2 ^ 32) × (m.range.memory < 2 ^ 32) × (m.range.start < 2 ^ 32) × (m.range.len < 2 ^ 32)
    move_small m may =
        let move : IsMove program m = is_move program m may in
        let known = move.known in
        let there = move.there in
        let size = ap (λ o. option_map_or memory_bytes o 0) (slice_get-get_or program.memories m.range.memory (Plain 0) there) in
        let within = move.within in
        let most = memory_small program small m.range.memory there in
        let queues = small.queues in
        let memories = small.memories in
        (omega (arith, known, queues), omega (arith, there, memories), omega (arith, within, size, most), omega (arith, within, size, most))

    has_numbers : (event : Event) → is_enabled program (state_of d) event ≡ true → HasNumbers event
    has_numbers (Begin n) may = ready_small n (and_parts (is_command (kind_at (view_of program) n)) (is_ready d n) may).1
    has_numbers (End n) may = let inside = C.begun n may in let few = count_small in omega (arith, inside, few)
    has_numbers (Sync n) may = ready_small n (and_parts (is_sync (kind_at (view_of program) n)) (is_ready d n) may).1
    has_numbers (Host n) may = ready_small n (and_parts (is_host (kind_at (view_of program) n)) (is_ready d n) may).1
    has_numbers (Move m) may = move_small m may

-- ALL EVENTS

have_numbers : (events : List Event) → ((k : ℕ) → k < length events → HasNumbers (get_or events k (Begin 0))) → HaveNumbers events
have_numbers [] each = tt
have_numbers (event ∷ events) each = (each 0 (omega arith), have_numbers events (λ k lt. each (suc k) (omega (arith, lt))))

module _ (program : Program) (fill : ℕ) (events : List Event) (came : AreEnabled program fill events (length events)) where
  came_at : (k : ℕ) → k < length events → is_enabled program (left_by program fill (take k events)) (get_or events k (Begin 0)) ≡ true
  came_at k lt = sym (ap (λ e. option_map_or (is_enabled program (left_by program fill (take k events))) e false) (slice_get-get_or events k (Begin 0) lt)) ∙ came k lt

  counted_at : (k : ℕ) → k ≤ length events → IsCounted program fill (take k events)
  counted_at zero le = none_counted program fill
  counted_at (suc k) le =
      let lt : k < length events = omega (arith, le) in
      subst (IsCounted program fill) (sym (take-suc events k (Begin 0) lt)) (counted_more program fill (take k events) (counted_at k (omega (arith, le))) (get_or events k (Begin 0)) (came_at k lt))

  all_counted : IsCounted program fill events
  all_counted = subst (IsCounted program fill) (take-length events) (counted_at (length events) (omega arith))

  module _ (small : IsSmall program) where
    numbers : HaveNumbers events
    numbers = have_numbers events (λ k lt. has_numbers program fill (take k events) (counted_at k (omega (arith, lt))) small (get_or events k (Begin 0)) (came_at k lt))

    short : length (moves_in events) ≤ 256 → length events ≤ 65536
    short moves =
        let few = all_counted.few in
        let nodes = small.entries in
        omega (arith, few, nodes, moves, length-map (entries_of program) (entry_node (length program.queues)))

pub histories_are_read : HistoriesAreRead
histories_are_read d faultless came moves =
    let small = is_small d.program (map_none fault_of (first_broken d.program) faultless) in
    read_again d.history (short d.program d.fill d.history came small moves) (numbers d.program d.fill d.history came small)
