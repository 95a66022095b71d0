-- Paths over all nodes and paths over synchronizing ones, where commands have one stage.
use Rattle.std.proofs.Common.{◌≡◌, ◌⊎◌, inl, inr, ℕ, ◌<◌, Bool, true, false, ◌||◌, ◌&&◌, ◌==◌, nat_lt, not, length, refl, sym, ap, ◌∙◌, subst, ⊎_elim, eqb-true, eq-eqb, arith}
use Rattle.std.specs.Int.Bits.{and_zero_r}
use Rattle.std.proofs.lemmas.Bool.{and_parts, and_from, or_cases, or_left, or_right, ltb-true, lt-ltb}
use Rattle.base.proofs.Booleans.{clash}
use Rattle.base_reach.specs.Paths.{one, then_on}
use Rattle.vk.specs.Sets.{meets}
use Rattle.check_order.proofs.Within.{edge_within}
use Rattle.check_order.proofs.InOrder.{sync_is_path}
use Rattle.check_order.specs.Edges.{is_sync, holds_back, sync_holds_back, edge}
use Rattle.check_access.specs.Views.{View}
use Rattle.check_access_order.proofs.NodeKinds.{is_the_command, no_command, command_unsynced, link_alone, meets_by, meets_none}
use Rattle.check_access_order.proofs.Ways.{at, commands, link, Held, held_new, Waits, Lets, up_to_on}
use Rattle.check_access_order.specs.Order.{Before, UpTo}
use Rattle.check_access_order.specs.Single.{HasOneStage, Single}
use Rattle.law_nodes.specs.Passing as nodes

module _ (V : View) where
  pub held_parts : (x y : ℕ) → (nat_lt x y && holds_back (at V x) (at V y)) ≡ true → Held V x y × ((is_sync (at V x).kind || is_sync (at V y).kind) ≡ true)
  held_parts x y h =
      let p = and_parts (nat_lt x y) (holds_back (at V x) (at V y)) h in
      let q = and_parts ((at V x).queue == (at V y).queue) ((is_sync (at V x).kind || is_sync (at V y).kind) && meets (at V x).dst_stages.0 (at V y).src_stages.0) p.1 in
      let r = and_parts (is_sync (at V x).kind || is_sync (at V y).kind) (meets (at V x).dst_stages.0 (at V y).src_stages.0) q.1 in
      (record { rising = ltb-true x y p.0; queue = eqb-true (at V x).queue (at V y).queue q.0; meet = r.1 }, r.0)

  pub held_old : (x y : ℕ) → Held V x y → (is_sync (at V x).kind || is_sync (at V y).kind) ≡ true → edge V.nodes x y ≡ true
  held_old x y h s =
      or_left (nat_lt x y && holds_back (at V x) (at V y)) (link V x y)
      (and_from (nat_lt x y) (holds_back (at V x) (at V y)) (lt-ltb x y h.rising)
      (and_from ((at V x).queue == (at V y).queue) ((is_sync (at V x).kind || is_sync (at V y).kind) && meets (at V x).dst_stages.0 (at V y).src_stages.0) (eq-eqb (at V x).queue (at V y).queue h.queue)
      (and_from (is_sync (at V x).kind || is_sync (at V y).kind) (meets (at V x).dst_stages.0 (at V y).src_stages.0) s h.meet)))

  pub before_old : (x y : ℕ) → Before V x y → nodes.Before V x y
  before_old x y p = sync_is_path V.nodes x y p

  pub up_to_old : (x y : ℕ) → UpTo V x y → nodes.UpTo V x y
  up_to_old x y (inl e) = inl e
  up_to_old x y (inr p) = inr (before_old x y p)

  -- WHAT LEADS OUT OF A NODE AND INTO IT

  -- of a command a node that waits for its stage, and else the node itself
  abbrev pub Out : ℕ → ℕ → Type 0
  Out n x = ((commands V n ≡ false) × (n ≡ x)) ⊎ ((commands V n ≡ true) × Waits V (at V n).dst_stages.0 n x)

  abbrev pub In : ℕ → ℕ → Type 0
  In y m = ((commands V m ≡ false) × (y ≡ m)) ⊎ ((commands V m ≡ true) × Lets V (at V m).src_stages.0 y m)

  pub out_held : (n x : ℕ) → Waits V (at V n).dst_stages.0 n x → edge V.nodes n x ≡ true
  out_held n x w = held_old n x (record { rising = w.rising; queue = w.queue; meet = w.meet }) (or_right (is_sync (at V n).kind) (is_sync (at V x).kind) w.sync)

  pub in_held : (y m : ℕ) → Lets V (at V m).src_stages.0 y m → edge V.nodes y m ≡ true
  in_held y m w = held_old y m (record { rising = w.rising; queue = w.queue; meet = w.meet }) (or_left (is_sync (at V y).kind) (is_sync (at V m).kind) w.sync)

  pub out_old : (n x : ℕ) → Out n x → nodes.UpTo V n x
  out_old n x (inl h) = inl h.1
  out_old n x (inr h) = inr (one (out_held n x h.1))

  pub in_old : (y m : ℕ) → In y m → nodes.UpTo V y m
  in_old y m (inl h) = inl h.1
  in_old y m (inr h) = inr (one (in_held y m h.1))

  -- a path over all nodes, without its ends where they are commands
  pub record Leads (n m : ℕ) : Type 0 where
    pub x : ℕ
    pub y : ℕ
    pub out : Out n x
    pub way : UpTo V x y
    pub into : In y m

  module _ (S : Single V) where
    -- what enters a command is before what it leaves into
    through : (y m x : ℕ) → m < length V.nodes → In y m → Out m x → UpTo V y x
    through y m x lt (inl h) (inl g) = inl (h.1 ∙ g.1)
    through y m x lt (inl h) (inr g) = absurd (clash (sym h.0 ∙ g.0))
    through y m x lt (inr h) (inl g) = absurd (clash (sym g.0 ∙ h.0))
    through y m x lt (inr h) (inr g) = inr (one (held_new V y x (record {
      rising = omega (arith, h.1.rising, g.1.rising);
      queue = h.1.queue ∙ g.1.queue;
      meet = meets_by (at V y).dst_stages.0 (at V x).src_stages.0 C.bit
          (subst (λ s. meets (at V y).dst_stages.0 s ≡ true) (C.same ∙ C.one) h.1.meet)
          (subst (λ s. meets s (at V x).src_stages.0 ≡ true) C.one g.1.meet);
    }) h.1.sync g.1.sync))
      where
        C : HasOneStage V m
        C = S.command m lt (is_the_command (at V m).kind g.0)

    -- of two synchronizing nodes, no host read holds back or is held back
    both_sync : (x y : ℕ) → Held V x y → commands V x ≡ false → commands V y ≡ false → (is_sync (at V x).kind ≡ true) × (is_sync (at V y).kind ≡ true)
    both_sync x y h e f = (
      ⊎_elim (λ s. s) (λ t. absurd (meets_none (at V y).src_stages.0 (subst (λ s. meets s (at V y).src_stages.0 ≡ true) (S.host x t).1 h.meet))) (no_command (at V x).kind e),
      ⊎_elim (λ s. s) (λ t. absurd (none (at V x).dst_stages.0 (subst (λ s. meets (at V x).dst_stages.0 s ≡ true) (S.host y t).0 h.meet))) (no_command (at V y).kind f),
    )
      where
        none : (a : ℕ) → meets a 0 ≡ true → ⊥
        none a m = clash (sym (ap (λ t. not (t == 0)) (and_zero_r a)) ∙ m)

    held_leads : (x y : ℕ) → Held V x y → (is_sync (at V x).kind || is_sync (at V y).kind) ≡ true → (c d : Bool) → commands V x ≡ c → commands V y ≡ d → Leads x y
    held_leads x y h s true true e f = absurd (clash (sym (or_none (command_unsynced (at V x).kind e) (command_unsynced (at V y).kind f)) ∙ s))
      where
        or_none : is_sync (at V x).kind ≡ false → is_sync (at V y).kind ≡ false → (is_sync (at V x).kind || is_sync (at V y).kind) ≡ false
        or_none a b = ap (λ t. t || is_sync (at V y).kind) a ∙ b
    held_leads x y h s true false e f = record {
      x = y;
      y = y;
      out = inr (e, record { rising = h.rising; queue = h.queue; sync = ap (λ t. t || is_sync (at V y).kind) (sym (command_unsynced (at V x).kind e)) ∙ s; meet = h.meet });
      way = inl refl;
      into = inl (f, refl);
    }
    held_leads x y h s false true e f = record {
      x = x;
      y = x;
      out = inl (e, refl);
      way = inl refl;
      into = inr (f, record { rising = h.rising; queue = h.queue; sync = left (is_sync (at V x).kind) (is_sync (at V y).kind) (command_unsynced (at V y).kind f) s; meet = h.meet });
    }
      where
        left : (a b : Bool) → b ≡ false → (a || b) ≡ true → a ≡ true
        left true b g t = refl
        left false b g t = absurd (clash (sym g ∙ t))
    held_leads x y h s false false e f =
        let b = both_sync x y h e f in
        record { x = x; y = y; out = inl (e, refl); way = inr (one (held_new V x y h b.0 b.1)); into = inl (f, refl) }

    edge_leads : (x y : ℕ) → edge V.nodes x y ≡ true → Leads x y
    edge_leads x y h = ⊎_elim
        (λ e. let p = held_parts x y e in held_leads x y p.0 p.1 (commands V x) (commands V y) refl refl)
        (λ e.
        let p = link_alone V.nodes x y e in
        record { x = x; y = y; out = inl (p.0, refl); way = inr (one (or_right (nat_lt x y && sync_holds_back (at V x) (at V y)) (link V x y) e)); into = inl (p.1, refl) })
        (or_cases (nat_lt x y && holds_back (at V x) (at V y)) (link V x y) h)

    path_within : (x y : ℕ) → nodes.Before V x y → y < length V.nodes
    path_within x y (one e) = (edge_within V.nodes x y e).1
    path_within x y (then_on {b = z} p q) = path_within z y q

    pub path_leads : (x y : ℕ) → nodes.Before V x y → Leads x y
    path_leads x y (one e) = edge_leads x y e
    path_leads x y (then_on {b = z} p q) =
        let s = path_leads x z p in
        let t = path_leads z y q in
        record {
          x = s.x;
          y = t.y;
          out = s.out;
          way = up_to_on V s.x s.y t.y s.way (up_to_on V s.y t.x t.y (through s.y z t.x (path_within x z p) s.into t.out) t.way);
          into = t.into;
        }

    -- BETWEEN SYNCHRONIZING NODES

    pub lone_out : (n x : ℕ) → commands V n ≡ false → Out n x → n ≡ x
    lone_out n x e (inl h) = h.1
    lone_out n x e (inr h) = absurd (clash (sym e ∙ h.0))

    lone_in : (y m : ℕ) → commands V m ≡ false → In y m → y ≡ m
    lone_in y m e (inl h) = h.1
    lone_in y m e (inr h) = absurd (clash (sym e ∙ h.0))

    pub up_to_new : (x y : ℕ) → commands V x ≡ false → commands V y ≡ false → nodes.UpTo V x y → UpTo V x y
    up_to_new x y e f (inl h) = inl h
    up_to_new x y e f (inr p) =
        let l = path_leads x y p in
        subst (λ z. UpTo V z y) (sym (lone_out x l.x e l.out)) (subst (λ z. UpTo V l.x z) (lone_in l.y y f l.into) l.way)
