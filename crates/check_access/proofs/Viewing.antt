-- The view of a program that breaks no rule.
use Rattle.std.proofs.Common.{List, ◌≡◌, ◌⊎◌, inl, inr, ◌<◌, ◌≤◌, ◌==◌, ℕ, true, false, not, length, get_or, slice_get, Some, None, sym, ap, ◌∙◌, subst, ⊎_elim, arith}
use Rattle.std.specs.Int.Bits.{bit_and, and_zero_l}
use Rattle.std.specs.List.{All}
use Rattle.std.proofs.lemmas.Bool.{cases_lt, and_parts, false_from_ne_true, leb-true}
use Rattle.std.proofs.lemmas.List.{get_or-map, get_or_past, length-map}
use Rattle.base.specs.Maxima.{max_nodes}
use Rattle.base.specs.Shapes.{bytes_of}
use Rattle.base.specs.declared.shape.Family.{Family}
use Rattle.base.specs.declared.shape.Shape.{Shape}
use Rattle.vk.specs.Agents.{host_agent}
use Rattle.check_order.specs.Edges.{is_host, is_sync, node_at}
use Rattle.check_order.specs.Nodes.{entry_node, no_node}
use Rattle.check_order.specs.declared.kind.Kind.{Kind}
use Rattle.check_order.specs.declared.kind.Kind.TheVariants as kinds
use Rattle.program.specs.Entries.{Entry, OfHost, entries_of}
use Rattle.program.specs.Obeys.{EntryObeys, IsSmall}
use Rattle.program.specs.Rules.{shapes_of}
use Rattle.program.specs.declared.program.Program.{Program}
use Rattle.program.specs.declared.rule.Rule.{Rule}
use Rattle.program.specs.declared.rule.Rule.TheVariants as rules
use Rattle.base.proofs.Lists.{entry_of}
use Rattle.check_access.proofs.Endings.{after_change, after_owner}
use Rattle.check_access.proofs.Fitting.{Does, FitsNode, no_node_fits}
use Rattle.check_access.proofs.EntryFits.{entry_fits, entry_family}
use Rattle.check_access.specs.AccessKinds.{sets_owner}
use Rattle.check_access.specs.ValidView.{IsByQueue, IsByBarrier, AccessAt, ValidView}
use Rattle.check_access.specs.Effects.{no_effect, entry_effect}
use Rattle.check_access.specs.Views.{View, view_of, piece_imported, effect_at, accesses_of, queue_at, family_at, has_agent, is_on, no_piece, piece_at}
use Rattle.check_access.specs.declared.access.Access.{Access}
use Rattle.check_access.specs.declared.access.Agent.{Agent}
use Rattle.check_access.specs.declared.access.Agent.TheVariants as agent
use Rattle.check_access.specs.declared.access.AccessKind.{AccessKind}
use Rattle.check_access.specs.declared.access.AccessKind.TheVariants as access_kinds

-- KINDS

command_does : (node_kind : Kind) (q : ℕ) (kind : AccessKind) → Does node_kind q kind → node_kind ≡ kinds.Command → IsByQueue q kind
command_does node_kind q kind h e = subst (λ k. Does k q kind) e h

sync_does : (node_kind : Kind) (q : ℕ) (kind : AccessKind) → Does node_kind q kind → is_sync node_kind ≡ true → IsByBarrier kind
sync_does kinds.Command q kind h e = absurd cc
sync_does kinds.Barrier q kind h e = h
sync_does (kinds.Wait queue value) q kind h e = h
sync_does (kinds.Signal value) q kind h e = h
sync_does kinds.Host q kind h e = absurd cc

host_does : (node_kind : Kind) (q : ℕ) (kind : AccessKind) → Does node_kind q kind → is_host node_kind ≡ true → kind ≡ access_kinds.Load agent.Host None
host_does kinds.Command q kind h e = absurd cc
host_does kinds.Barrier q kind h e = absurd cc
host_does (kinds.Wait queue value) q kind h e = absurd cc
host_does (kinds.Signal value) q kind h e = absurd cc
host_does kinds.Host q kind h e = h

-- AGENTS

nothing_meets : (bits : ℕ) → not (bit_and 0 bits == 0) ≡ false
nothing_meets bits = ap (λ m. not (m == 0)) (and_zero_l bits)

nobody : (q : ℕ) (a : Agent) → has_agent q 0 a ≡ true → ⊥
nobody q (agent.Of queue bit) h =
    let e = (and_parts (queue == q) (not (bit_and 0 bit == 0)) h).1 in
    let f = nothing_meets bit in
    absurd cc
nobody q agent.Host h = let f = nothing_meets host_agent in absurd cc

someone_syncs : (node_kind : Kind) (q set : ℕ) (a : Agent) → (is_sync node_kind ≡ true) ⊎ (set ≡ 0) → has_agent q set a ≡ true → is_sync node_kind ≡ true
someone_syncs node_kind q set a (inl e) h = e
someone_syncs node_kind q set a (inr e) h = absurd (nobody q a (subst (λ s. has_agent q s a ≡ true) e h))

-- THE VIEW

module _ (program : Program) (small : IsSmall program) (obeys : (rule : Rule) → All (EntryObeys rule program) (entries_of program)) where
  abbrev V : View
  V = view_of program

  abbrev shapes : List Shape
  shapes = shapes_of program

  abbrev queues : ℕ
  queues = length program.queues

  abbrev entry : ℕ → Entry
  entry n = get_or (entries_of program) n (OfHost 0)

  count : length V.nodes ≡ length (entries_of program)
  count = length-map (entries_of program) (entry_node queues)

  effect_count : length V.effects ≡ length (entries_of program)
  effect_count = length-map (entries_of program) (entry_effect shapes)

  node_is : (n : ℕ) → n < length (entries_of program) → node_at V.nodes n ≡ entry_node queues (entry n)
  node_is n lt = get_or-map (entry_node queues) (entries_of program) n (OfHost 0) no_node lt

  known_entry : (n : ℕ) → n < length (entries_of program) → EntryObeys rules.Known program (entry n)
  known_entry n lt = obeys rules.Known n (OfHost 0) lt

  fits : (n : ℕ) → FitsNode (length shapes) (node_at V.nodes n) (effect_at V n)
  fits n = ⊎_elim
      (λ (lt : n < length (entries_of program)).
      subst (λ x. FitsNode (length shapes) x (effect_at V n)) (sym (node_is n lt))
      (subst (λ u. FitsNode (length shapes) (entry_node queues (entry n)) u) (sym (get_or-map (entry_effect shapes) (entries_of program) n (OfHost 0) no_effect lt))
      (entry_fits program (entry n) (known_entry n lt))))
      (λ (ge : length (entries_of program) ≤ n).
      subst (λ x. FitsNode (length shapes) x (effect_at V n)) (sym (get_or_past V.nodes n no_node (subst (λ m. m ≤ n) (sym count) ge)))
      (subst (λ u. FitsNode (length shapes) no_node u) (sym (get_or_past V.effects n no_effect (subst (λ m. m ≤ n) (sym effect_count) ge)))
      (no_node_fits (length shapes))))
      (cases_lt n (length (entries_of program)))

  does : (n i : ℕ) (a : Access) → AccessAt V n i a → Does (node_at V.nodes n).kind (queue_at V n) a.kind
  does n i a e = entry_of (λ a. Does (node_at V.nodes n).kind (queue_at V n) a.kind) (accesses_of V n) i a (fits n).does e

  known : (n i : ℕ) (a : Access) → AccessAt V n i a → a.piece < length V.pieces
  known n i a e = subst (λ m. a.piece < m) (length-map program.pieces (λ piece. piece.shape)) (entry_of (λ a. a.piece < length shapes) (accesses_of V n) i a (fits n).known e)

  some : (p : ℕ) → p < length V.pieces → 0 < bytes_of (piece_at V p).shape
  some p lt =
      let size = bytes_of (piece_at V p).shape in
      let least : 1 ≤ size = leb-true 1 size (and_parts _ _ (small.sizes p no_piece lt)).0 in
      omega (arith, least)

  silent_available : (n : ℕ) → (is_sync (node_at V.nodes n).kind ≡ true) ⊎ ((effect_at V n).available ≡ 0)
  silent_available n = ⊎_elim (λ e. inl e) (λ e. inr e.0) (fits n).silent

  silent_visible : (n : ℕ) → (is_sync (node_at V.nodes n).kind ≡ true) ⊎ ((effect_at V n).visible ≡ 0)
  silent_visible n = ⊎_elim (λ e. inl e) (λ e. inr e.1) (fits n).silent

  family : (n : ℕ) → n < length V.nodes → is_host (node_at V.nodes n).kind ≡ false → (f : Family) × (family_at V n ≡ Some f)
  family n lt queued =
      let below : n < length (entries_of program) = subst (λ m. n < m) count lt in
      subst (λ x. is_host x.kind ≡ false → (f : Family) × (slice_get V.families x.queue ≡ Some f)) (sym (node_is n below)) (entry_family program (entry n) (known_entry n below)) queued

  pub shaped : ValidView V
  shaped = record {
    few_nodes = subst (λ m. m ≤ max_nodes) (sym count) small.entries;
    few_pieces = small.pieces;
    effects = effect_count ∙ sym count;
    imported = length-map program.pieces (piece_imported program.memories);
    known = known;
    some = some;
    last = λ n i j a b e f lt c. after_change (accesses_of V n) i j a b (fits n).last e f lt c;
    final = λ n i j a b e f lt. false_from_ne_true (sets_owner a.kind) (λ c. after_owner (accesses_of V n) i j a b (fits n).last e f lt c);
    command = λ n i a e k. command_does (node_at V.nodes n).kind (queue_at V n) a.kind (does n i a e) k;
    sync = λ n i a e k. sync_does (node_at V.nodes n).kind (queue_at V n) a.kind (does n i a e) k;
    host = λ n i a e k. host_does (node_at V.nodes n).kind (queue_at V n) a.kind (does n i a e) k;
    available_by_sync = λ n p a h. someone_syncs (node_at V.nodes n).kind (queue_at V n) (effect_at V n).available a (silent_available n) (and_parts (has_agent (queue_at V n) (effect_at V n).available a) (is_on p (effect_at V n).scope) h).0;
    visible_by_sync = λ n p a h. someone_syncs (node_at V.nodes n).kind (queue_at V n) (effect_at V n).visible a (silent_visible n) (and_parts (has_agent (queue_at V n) (effect_at V n).visible a) (is_on p (effect_at V n).scope) h).0;
    family = family;
  }
