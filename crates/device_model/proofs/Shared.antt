-- Bytes that pieces share, and what nodes do to them.
use Rattle.std.proofs.Common.{◌≡◌, ℕ, ◌+◌, ◌<◌, ◌≤◌, true, ◌&&◌, ◌||◌, ◌==◌, nat_lt, nat_le, refl, sym, ◌∙◌, arith, eq-eqb, eqb-true}
use Rattle.std.proofs.lemmas.Bool.{and_parts, and_from, or_left, or_right, ltb-true, leb-true, lt-ltb, le-leb}
use Rattle.base.specs.Shapes.{bytes_of}
use Rattle.device_model.specs.Agents.{agent_at, covers, in_scope, flushes_at, shows_at}
use Rattle.device_model.specs.Ready.{kind_at}
use Rattle.check_order.specs.Edges.{is_sync}
use Rattle.check_access.specs.AccessKinds.{changes, transfers}
use Rattle.check_access.specs.ValidView.{ValidView}
use Rattle.check_access.specs.Views.{View, effect_at, queue_at, piece_at, overlap, clash, has_agent, is_on}
use Rattle.check_access.specs.declared.access.Access.{Access}
use Rattle.check_access.specs.declared.effect.Scope.{Scope}
use Rattle.check_access.specs.declared.effect.Scope.TheVariants as scopes

module _ (V : View) where
  -- the memory and place of a byte that a piece covers
  pub covers_place : (p m i : ℕ) → covers V p m i ≡ true → ((piece_at V p).memory ≡ m) × ((piece_at V p).offset ≤ i) × (i < (piece_at V p).offset + bytes_of (piece_at V p).shape)
  covers_place p m i h =
      let q = piece_at V p in
      let a = and_parts (q.memory == m) (nat_le q.offset i && nat_lt i (q.offset + bytes_of q.shape)) h in
      let b = and_parts (nat_le q.offset i) (nat_lt i (q.offset + bytes_of q.shape)) a.1 in
      (eqb-true q.memory m a.0, leb-true q.offset i b.0, ltb-true i (q.offset + bytes_of q.shape) b.1)

  place_covered : (p m i : ℕ) → (piece_at V p).memory ≡ m → (piece_at V p).offset ≤ i → i < (piece_at V p).offset + bytes_of (piece_at V p).shape → covers V p m i ≡ true
  place_covered p m i e a b =
      let q = piece_at V p in
      and_from (q.memory == m) (nat_le q.offset i && nat_lt i (q.offset + bytes_of q.shape)) (eq-eqb q.memory m e)
      (and_from (nat_le q.offset i) (nat_lt i (q.offset + bytes_of q.shape)) (le-leb q.offset i a) (lt-ltb i (q.offset + bytes_of q.shape) b))

  -- pieces that share a byte overlap
  pub overlap_at : (p q m i : ℕ) → covers V p m i ≡ true → covers V q m i ≡ true → overlap V p q ≡ true
  overlap_at p q m i h k =
      let a = covers_place p m i h in
      let b = covers_place q m i k in
      let x = piece_at V p in
      let y = piece_at V q in
      and_from (x.memory == y.memory) (nat_lt x.offset (y.offset + bytes_of y.shape) && nat_lt y.offset (x.offset + bytes_of x.shape)) (eq-eqb x.memory y.memory (a.0 ∙ sym b.0))
      (and_from (nat_lt x.offset (y.offset + bytes_of y.shape)) (nat_lt y.offset (x.offset + bytes_of x.shape))
      (lt-ltb x.offset (y.offset + bytes_of y.shape) (omega (arith, a.1, a.2, b.1, b.2)))
      (lt-ltb y.offset (x.offset + bytes_of x.shape) (omega (arith, a.1, a.2, b.1, b.2))))

  pub overlap_self : (p : ℕ) → 0 < bytes_of (piece_at V p).shape → overlap V p p ≡ true
  overlap_self p some = let at = place_covered p (piece_at V p).memory (piece_at V p).offset refl (omega arith) (omega (arith, some)) in overlap_at p p (piece_at V p).memory (piece_at V p).offset at at

  -- the first changes bytes of the second
  pub clash_change : (a b : Access) → changes a.kind ≡ true → overlap V a.piece b.piece ≡ true → clash V a b ≡ true
  clash_change a b h k = or_left (overlap V a.piece b.piece && (changes a.kind || changes b.kind)) ((a.piece == b.piece) && (transfers a.kind || transfers b.kind)) (and_from (overlap V a.piece b.piece) (changes a.kind || changes b.kind) k (or_left (changes a.kind) (changes b.kind) h))

  pub clash_transfer : (a b : Access) → transfers a.kind ≡ true → a.piece ≡ b.piece → clash V a b ≡ true
  clash_transfer a b h e = or_right (overlap V a.piece b.piece && (changes a.kind || changes b.kind)) ((a.piece == b.piece) && (transfers a.kind || transfers b.kind)) (and_from (a.piece == b.piece) (transfers a.kind || transfers b.kind) (eq-eqb a.piece b.piece e) (or_left (transfers a.kind) (transfers b.kind) h))

  -- ONLY BARRIERS, WAITS AND SIGNALS MAKE AVAILABLE AND VISIBLE

  on_some : (scope : Scope) → (p : ℕ) × (is_on p scope ≡ true)
  on_some scopes.Everywhere = (0, refl)
  on_some (scopes.Piece q) = (q, eq-eqb q q refl)

  pub flush_syncs : ValidView V → (n g m i : ℕ) → flushes_at V n g m i ≡ true → is_sync (kind_at V n) ≡ true
  flush_syncs S n g m i h =
      let p = on_some (effect_at V n).scope in
      S.available_by_sync n p.0 (agent_at g) (and_from (has_agent (queue_at V n) (effect_at V n).available (agent_at g)) (is_on p.0 (effect_at V n).scope) (and_parts (has_agent (queue_at V n) (effect_at V n).available (agent_at g)) (in_scope V (effect_at V n).scope m i) h).0 p.1)

  pub show_syncs : ValidView V → (n g m i : ℕ) → shows_at V n g m i ≡ true → is_sync (kind_at V n) ≡ true
  show_syncs S n g m i h =
      let p = on_some (effect_at V n).scope in
      S.visible_by_sync n p.0 (agent_at g) (and_from (has_agent (queue_at V n) (effect_at V n).visible (agent_at g)) (is_on p.0 (effect_at V n).scope) (and_parts (has_agent (queue_at V n) (effect_at V n).visible (agent_at g)) (in_scope V (effect_at V n).scope m i) h).0 p.1)
