-- What a node asks of another, and ways over synchronizing nodes.
use Rattle.std.proofs.Common.{◌≡◌, inl, inr, ℕ, ◌<◌, Bool, true, ◌||◌, ◌&&◌, ◌==◌, nat_lt, sym, subst, eqb-true, eq-eqb}
use Rattle.std.proofs.lemmas.Bool.{and_parts, and_from, or_left, ltb-true, lt-ltb}
use Rattle.vk.specs.Sets.{meets}
use Rattle.check_order.specs.Edges.{is_sync, is_at, node_at, signalled, meeting, sync_holds_back, sync_edge}
use Rattle.check_order.specs.declared.node.Node.{Node}
use Rattle.base_reach.specs.Paths.{then_on}
use Rattle.check_access.specs.Views.{View}
use Rattle.check_access_order.specs.Edges.{is_command, waits_for, lets_in}
use Rattle.check_access_order.specs.Order.{Before, UpTo}

pub up_to_on : (V : View) (x y z : ℕ) → UpTo V x y → UpTo V y z → UpTo V x z
up_to_on V x y z (inl e) q = subst (λ w. UpTo V w z) (sym e) q
up_to_on V x y z (inr p) (inl e) = inr (subst (λ w. Before V x w) e p)
up_to_on V x y z (inr p) (inr q) = inr (then_on p q)

module _ (V : View) where
  abbrev pub at : ℕ → Node
  at n = node_at V.nodes n

  abbrev pub commands : ℕ → Bool
  commands n = is_command (at n).kind

  abbrev pub link : ℕ → ℕ → Bool
  link x y = signalled V.nodes x y || is_at (meeting V.nodes (at y).kind) x

  -- WHAT ONE NODE ASKS OF ANOTHER

  -- node x stands before node y on its queue, and what waits for x meets what y waits for
  pub record Held (x y : ℕ) : Type 0 where
    pub rising : x < y
    pub queue : (at x).queue ≡ (at y).queue
    pub meet : meets (at x).dst_stages.0 (at y).src_stages.0 ≡ true

  pub held_new : (x y : ℕ) → Held x y → is_sync (at x).kind ≡ true → is_sync (at y).kind ≡ true → sync_edge V.nodes x y ≡ true
  held_new x y h s t =
      or_left (nat_lt x y && sync_holds_back (at x) (at y)) (link x y)
      (and_from (nat_lt x y) (sync_holds_back (at x) (at y)) (lt-ltb x y h.rising)
      (and_from ((at x).queue == (at y).queue) ((is_sync (at x).kind && is_sync (at y).kind) && meets (at x).dst_stages.0 (at y).src_stages.0) (eq-eqb (at x).queue (at y).queue h.queue)
      (and_from (is_sync (at x).kind && is_sync (at y).kind) (meets (at x).dst_stages.0 (at y).src_stages.0) (and_from (is_sync (at x).kind) (is_sync (at y).kind) s t) h.meet)))

  -- node x is a later node of n's queue that waits for a stage
  pub record Waits (stage n x : ℕ) : Type 0 where
    pub rising : n < x
    pub queue : (at n).queue ≡ (at x).queue
    pub sync : is_sync (at x).kind ≡ true
    pub meet : meets stage (at x).src_stages.0 ≡ true

  pub waits : (stage n x : ℕ) → waits_for V.nodes stage n x ≡ true → Waits stage n x
  waits stage n x h =
      let p = and_parts (nat_lt n x) (((at n).queue == (at x).queue) && (is_sync (at x).kind && meets stage (at x).src_stages.0)) h in
      let q = and_parts ((at n).queue == (at x).queue) (is_sync (at x).kind && meets stage (at x).src_stages.0) p.1 in
      let r = and_parts (is_sync (at x).kind) (meets stage (at x).src_stages.0) q.1 in
      record { rising = ltb-true n x p.0; queue = eqb-true (at n).queue (at x).queue q.0; sync = r.0; meet = r.1 }

  pub waits_from : (stage n x : ℕ) → Waits stage n x → waits_for V.nodes stage n x ≡ true
  waits_from stage n x w =
      and_from (nat_lt n x) (((at n).queue == (at x).queue) && (is_sync (at x).kind && meets stage (at x).src_stages.0)) (lt-ltb n x w.rising)
      (and_from ((at n).queue == (at x).queue) (is_sync (at x).kind && meets stage (at x).src_stages.0) (eq-eqb (at n).queue (at x).queue w.queue)
      (and_from (is_sync (at x).kind) (meets stage (at x).src_stages.0) w.sync w.meet))

  -- node y is an earlier node of m's queue for which a stage waits
  pub record Lets (stage y m : ℕ) : Type 0 where
    pub rising : y < m
    pub queue : (at y).queue ≡ (at m).queue
    pub sync : is_sync (at y).kind ≡ true
    pub meet : meets (at y).dst_stages.0 stage ≡ true

  pub lets : (stage y m : ℕ) → lets_in V.nodes stage y m ≡ true → Lets stage y m
  lets stage y m h =
      let p = and_parts (nat_lt y m) (((at y).queue == (at m).queue) && (is_sync (at y).kind && meets (at y).dst_stages.0 stage)) h in
      let q = and_parts ((at y).queue == (at m).queue) (is_sync (at y).kind && meets (at y).dst_stages.0 stage) p.1 in
      let r = and_parts (is_sync (at y).kind) (meets (at y).dst_stages.0 stage) q.1 in
      record { rising = ltb-true y m p.0; queue = eqb-true (at y).queue (at m).queue q.0; sync = r.0; meet = r.1 }

  pub lets_from : (stage y m : ℕ) → Lets stage y m → lets_in V.nodes stage y m ≡ true
  lets_from stage y m w =
      and_from (nat_lt y m) (((at y).queue == (at m).queue) && (is_sync (at y).kind && meets (at y).dst_stages.0 stage)) (lt-ltb y m w.rising)
      (and_from ((at y).queue == (at m).queue) (is_sync (at y).kind && meets (at y).dst_stages.0 stage) (eq-eqb (at y).queue (at m).queue w.queue)
      (and_from (is_sync (at y).kind) (meets (at y).dst_stages.0 stage) w.sync w.meet))
