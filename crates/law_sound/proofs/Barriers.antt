-- What a barrier takes of a command before it and gives to one after it, by what a use says of their accesses.
use Rattle.std.proofs.Common.{◌≡◌, ℕ, ◌==◌, ◌&&◌, Bool, true, sym, ap, ◌∙◌, subst, eq-eqb, arith}
use Rattle.std.proofs.lemmas.Bool.{and_from}
use Rattle.base.specs.declared.role.Role.{Role}
use Rattle.vk.specs.Agents.{agents}
use Rattle.vk.specs.Roles.{role_stage}
use Rattle.vk.specs.Sets.{meets}
use Rattle.vk.specs.Stages.{expand}
use Rattle.vk.specs.declared.masks.Masks.{Masks}
use Rattle.law_sound.proofs.Roles.{IsBy, by_load, by_store, after_role, before_role, load_agent, store_agent}
use Rattle.law_plan.specs.Crossings.{Flushes, Shows}
use Rattle.law_plan.specs.Masks.{Takes, Gives}
use Rattle.compile_groups.specs.declared.unit_use.Use.{Use}
use Rattle.check_order.specs.Edges.{node_at}
use Rattle.check_order.specs.Nodes.{barrier_node}
use Rattle.law_valid.proofs.Bits.{Inside}
use Rattle.check_access.specs.Views.{View, effect_at, queue_at, is_on}
use Rattle.check_access.specs.declared.access.Access.{Access}
use Rattle.check_access.specs.declared.access.AccessKind.{AccessKind}

-- node t is a barrier of queue q with these masks, and serves piece p
pub record IsBarrierOf (V : View) (t q p : ℕ) (masks : Masks) : Type 0 where
  pub node : node_at V.nodes t ≡ barrier_node q masks
  pub available : (effect_at V t).available ≡ agents masks.src_stages.0 masks.src_accesses.0
  pub visible : (effect_at V t).visible ≡ agents masks.dst_stages.0 masks.dst_accesses.0
  pub on : is_on p (effect_at V t).scope ≡ true

-- the stages and the writes of a use are on the source side
pub record IsSource (u : Use) (masks : Masks) : Type 0 where
  pub stage : Inside u.stage.0 masks.src_stages.0
  pub writes : Inside u.writes.0 masks.src_accesses.0

-- its stages and its accesses are on the destination side
pub record IsDestination (u : Use) (masks : Masks) : Type 0 where
  pub stage : Inside u.stage.0 masks.dst_stages.0
  pub accesses : Inside u.accesses.0 masks.dst_accesses.0

-- a set of queue r has an agent of queue q
has_it : (q r set bits : ℕ) (on : Bool) → r ≡ q → meets set bits ≡ true → on ≡ true → (((q == r) && meets set bits) && on) ≡ true
has_it q r set bits on same m h = and_from ((q == r) && meets set bits) on (and_from (q == r) (meets set bits) (eq-eqb q r (sym same)) m) h

-- what holds of the stage of its role holds of the stage of a use
by_role : (P : ℕ → Type 0) (q : ℕ) (u : Use) (kind : AccessKind) → IsBy q u kind → ((role : Role) → u.stage.0 ≡ role_stage role → P (role_stage role)) → P u.stage.0
by_role P q u kind (by_load role whole bits layout e stage said is) h = subst P (sym stage) (h role stage)
by_role P q u kind (by_store role bits layout e stage said writes is) h = subst P (sym stage) (h role stage)

module _ (V : View) (t q p : ℕ) (masks : Masks) (B : IsBarrierOf V t q p masks) (u : Use) where
  abbrev source : ℕ
  source = masks.src_stages.0

  abbrev destination : ℕ
  destination = masks.dst_stages.0

  queue_is : queue_at V t ≡ q
  queue_is = ap (λ n. n.queue) B.node

  waits_for : (kind : AccessKind) → IsBy q u kind → IsSource u masks → meets u.stage.0 (node_at V.nodes t).src_stages.0 ≡ true
  waits_for kind by T =
      ap (λ n. meets u.stage.0 n.src_stages.0) B.node
      ∙ by_role (λ s. meets s (expand source) ≡ true) q u kind by (λ role e. after_role role source (subst (λ s. Inside s source) e T.stage))

  holds_back : (kind : AccessKind) → IsBy q u kind → IsDestination u masks → meets (node_at V.nodes t).dst_stages.0 u.stage.0 ≡ true
  holds_back kind by T =
      ap (λ n. meets n.dst_stages.0 u.stage.0) B.node
      ∙ by_role (λ s. meets (expand destination) s ≡ true) q u kind by (λ role e. before_role role destination (subst (λ s. Inside s destination) e T.stage))

  flushes : (kind : AccessKind) → IsBy q u kind → IsSource u masks → Flushes kind V t p
  flushes kind (by_load role whole bits layout e stage said is) T = subst (λ k. Flushes k V t p) (sym is) tt
  flushes kind (by_store role bits layout e stage said writes is) T = subst (λ k. Flushes k V t p) (sym is)
      (has_it q (queue_at V t) (effect_at V t).available (agents (role_stage role) bits) (is_on p (effect_at V t).scope) queue_is
      (ap (λ z. meets z (agents (role_stage role) bits)) B.available
      ∙ store_agent role bits source masks.src_accesses.0 e (subst (λ s. Inside s source) stage T.stage) (λ i. omega (arith, writes i, T.writes i)))
      B.on)

  shows : (kind : AccessKind) → IsBy q u kind → IsDestination u masks → Shows kind V t p
  shows kind (by_load role whole bits layout e stage said is) T = subst (λ k. Shows k V t p) (sym is)
      (has_it q (queue_at V t) (effect_at V t).visible (agents (role_stage role) bits) (is_on p (effect_at V t).scope) queue_is
      (ap (λ z. meets z (agents (role_stage role) bits)) B.visible
      ∙ load_agent role whole bits destination masks.dst_accesses.0 e (subst (λ s. Inside s destination) stage T.stage) (λ i. omega (arith, said i, T.accesses i)))
      B.on)
  shows kind (by_store role bits layout e stage said writes is) T = subst (λ k. Shows k V t p) (sym is)
      (has_it q (queue_at V t) (effect_at V t).visible (agents (role_stage role) bits) (is_on p (effect_at V t).scope) queue_is
      (ap (λ z. meets z (agents (role_stage role) bits)) B.visible
      ∙ store_agent role bits destination masks.dst_accesses.0 e (subst (λ s. Inside s destination) stage T.stage) (λ i. omega (arith, said i, T.accesses i)))
      B.on)

  -- it takes what node x does in the stage of the use
  pub takes : (x : ℕ) (a : Access) → (node_at V.nodes x).dst_stages.0 ≡ u.stage.0 → a.piece ≡ p → IsBy q u a.kind → IsSource u masks → Takes V x a t
  takes x a e on by T = record {
    stage = ap (λ s. meets s (node_at V.nodes t).src_stages.0) e ∙ waits_for a.kind by T;
    flushes = subst (λ r. Flushes a.kind V t r) (sym on) (flushes a.kind by T);
  }

  -- and gives to what node y does in it
  pub gives : (y : ℕ) (b : Access) → (node_at V.nodes y).src_stages.0 ≡ u.stage.0 → b.piece ≡ p → IsBy q u b.kind → IsDestination u masks → Gives V t y b
  gives y b e on by T = record {
    stage = ap (λ s. meets (node_at V.nodes t).dst_stages.0 s) e ∙ holds_back b.kind by T;
    shows = subst (λ r. Shows b.kind V t r) (sym on) (shows b.kind by T);
  }
