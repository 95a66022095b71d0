-- What holds back what, and what accesses leave into and are entered by.
use Rattle.std.proofs.Common.{◌≡◌, ◌≢◌, ◌⊎◌, inl, inr, ℕ, ◌<◌, Bool, true, false, ◌||◌, ◌&&◌, ◌==◌, nat_lt, not, refl, sym, ap, ◌∙◌, subst, ⊎_elim, eq-eqb, ne_eqb, eqb-true, arith}
use Rattle.std.specs.Int.Bits.{and_zero_r}
use Rattle.std.proofs.lemmas.Bool.{and_parts, and_from, or_left, or_right, or_cases, ltb-true, lt-ltb}
use Rattle.base.proofs.Booleans.{clash}
use Rattle.vk.specs.Sets.{meets}
use Rattle.check_order.specs.Edges.{is_sync, is_signal, is_wait, is_host, node_at, signalled, meeting, is_at}
use Rattle.check_order.specs.declared.kind.Kind.{Kind}
use Rattle.check_order.specs.declared.kind.Kind.TheVariants.{Command, Barrier, Wait, Signal, Host}
use Rattle.check_order.specs.declared.node.Node.{Node}
use Rattle.base_reach.specs.Paths.{one, then_on}
use Rattle.check_access_order.proofs.NodeKinds.{meets_by, link_alone}
use Rattle.check_access_order.specs.Edges as alone
use Rattle.check_access_order.specs.Edges.{is_command}
use Rattle.check_access_order.specs.Stages.{IsStage}
use Rattle.check_table.specs.Laws.{GoesThrough}
use Rattle.check_table.specs.Joined.{Joined, gives, takes, fits, holds_back, edge, waits_for, lets_in, UpTo, Before, Dependencies, is_barrier}

-- KINDS

pub signal_sync : (kind : Kind) → is_signal kind ≡ true → is_sync kind ≡ true
signal_sync (Signal v) h = refl
signal_sync Command h = absurd (clash h)
signal_sync Barrier h = absurd (clash h)
signal_sync (Wait q v) h = absurd (clash h)
signal_sync Host h = absurd (clash h)

pub signal_alone : (kind : Kind) → is_signal kind ≡ true → is_barrier kind ≡ false
signal_alone (Signal v) h = refl
signal_alone Command h = absurd (clash h)
signal_alone Barrier h = absurd (clash h)
signal_alone (Wait q v) h = absurd (clash h)
signal_alone Host h = absurd (clash h)

pub host_unsynced : (kind : Kind) → is_host kind ≡ true → is_sync kind ≡ true → ⊥
host_unsynced Host h s = clash s
host_unsynced Command h s = clash h
host_unsynced Barrier h s = clash h
host_unsynced (Wait q v) h s = clash h
host_unsynced (Signal v) h s = clash h

pub command_unsynced : (kind : Kind) → is_command kind ≡ true → is_sync kind ≡ true → ⊥
command_unsynced Command h s = clash s
command_unsynced Host h s = clash h
command_unsynced Barrier h s = clash h
command_unsynced (Wait q v) h s = clash h
command_unsynced (Signal v) h s = clash h

pub command_unhosted : (kind : Kind) → is_command kind ≡ true → is_host kind ≡ false
command_unhosted Command h = refl
command_unhosted Host h = absurd (clash h)
command_unhosted Barrier h = absurd (clash h)
command_unhosted (Wait q v) h = absurd (clash h)
command_unhosted (Signal v) h = absurd (clash h)

pub sync_unhosted : (kind : Kind) → is_sync kind ≡ true → is_host kind ≡ false
sync_unhosted Host h = absurd (clash h)
sync_unhosted Command h = absurd (clash h)
sync_unhosted Barrier h = refl
sync_unhosted (Wait q v) h = refl
sync_unhosted (Signal v) h = refl

pub command_alone : (kind : Kind) → is_command kind ≡ true → is_barrier kind ≡ false
command_alone Command h = refl
command_alone Barrier h = absurd (clash h)
command_alone (Wait q v) h = absurd (clash h)
command_alone (Signal v) h = absurd (clash h)
command_alone Host h = absurd (clash h)

pub three_kinds : (kind : Kind) → (is_sync kind ≡ true) ⊎ ((is_host kind ≡ true) ⊎ (is_command kind ≡ true))
three_kinds Command = inr (inr refl)
three_kinds Host = inr (inl refl)
three_kinds Barrier = inl refl
three_kinds (Wait q v) = inl refl
three_kinds (Signal v) = inl refl

pub barrier_sync : (kind : Kind) → is_barrier kind ≡ true → is_sync kind ≡ true
barrier_sync Barrier h = refl
barrier_sync Command h = absurd (clash h)
barrier_sync Host h = absurd (clash h)
barrier_sync (Wait q v) h = absurd (clash h)
barrier_sync (Signal v) h = absurd (clash h)

module _ (W : Joined) where
  abbrev pub at : ℕ → Node
  at n = node_at W.nodes n

  abbrev pub link : ℕ → ℕ → Bool
  link x y = signalled W.nodes x y || is_at (meeting W.nodes (at y).kind) x

  none : (a : ℕ) → meets a 0 ≡ true → ⊥
  none a m = clash (sym (ap (λ t. not (t == 0)) (and_zero_r a)) ∙ m)

  -- what two sets have of a stage they have in common
  pub by_stage : (a b stage : ℕ) → IsStage stage → meets a stage ≡ true → meets stage b ≡ true → meets a b ≡ true
  by_stage a b stage (inl z) h g = absurd (none a (subst (λ s. meets a s ≡ true) z h))
  by_stage a b stage (inr (bit, z)) h g = meets_by a b bit (subst (λ s. meets a s ≡ true) z h) (subst (λ s. meets s b ≡ true) z g)

  pub record Waits (stage n x : ℕ) : Type 0 where
    pub role : takes (W.role x) ≡ true
    pub rising : n < x
    pub queue : (at n).queue ≡ (at x).queue
    pub sync : is_sync (at x).kind ≡ true
    pub meet : meets stage (at x).src_stages.0 ≡ true

  pub waits : (stage n x : ℕ) → waits_for W stage n x ≡ true → Waits stage n x
  waits stage n x h =
      let o = and_parts (takes (W.role x)) (alone.waits_for W.nodes stage n x) h in
      let p = and_parts (nat_lt n x) (((at n).queue == (at x).queue) && (is_sync (at x).kind && meets stage (at x).src_stages.0)) o.1 in
      let q = and_parts ((at n).queue == (at x).queue) (is_sync (at x).kind && meets stage (at x).src_stages.0) p.1 in
      let r = and_parts (is_sync (at x).kind) (meets stage (at x).src_stages.0) q.1 in
      record { role = o.0; rising = ltb-true n x p.0; queue = eqb-true (at n).queue (at x).queue q.0; sync = r.0; meet = r.1 }

  pub waits_from : (stage n x : ℕ) → Waits stage n x → waits_for W stage n x ≡ true
  waits_from stage n x w =
      and_from (takes (W.role x)) (alone.waits_for W.nodes stage n x) w.role
      (and_from (nat_lt n x) (((at n).queue == (at x).queue) && (is_sync (at x).kind && meets stage (at x).src_stages.0)) (lt-ltb n x w.rising)
      (and_from ((at n).queue == (at x).queue) (is_sync (at x).kind && meets stage (at x).src_stages.0) (eq-eqb (at n).queue (at x).queue w.queue)
      (and_from (is_sync (at x).kind) (meets stage (at x).src_stages.0) w.sync w.meet)))

  pub record Lets (stage y m : ℕ) : Type 0 where
    pub role : gives (W.role y) ≡ true
    pub rising : y < m
    pub queue : (at y).queue ≡ (at m).queue
    pub sync : is_sync (at y).kind ≡ true
    pub meet : meets (at y).dst_stages.0 stage ≡ true

  pub lets : (stage y m : ℕ) → lets_in W stage y m ≡ true → Lets stage y m
  lets stage y m h =
      let o = and_parts (gives (W.role y)) (alone.lets_in W.nodes stage y m) h in
      let p = and_parts (nat_lt y m) (((at y).queue == (at m).queue) && (is_sync (at y).kind && meets (at y).dst_stages.0 stage)) o.1 in
      let q = and_parts ((at y).queue == (at m).queue) (is_sync (at y).kind && meets (at y).dst_stages.0 stage) p.1 in
      let r = and_parts (is_sync (at y).kind) (meets (at y).dst_stages.0 stage) q.1 in
      record { role = o.0; rising = ltb-true y m p.0; queue = eqb-true (at y).queue (at m).queue q.0; sync = r.0; meet = r.1 }

  pub lets_from : (stage y m : ℕ) → Lets stage y m → lets_in W stage y m ≡ true
  lets_from stage y m w =
      and_from (gives (W.role y)) (alone.lets_in W.nodes stage y m) w.role
      (and_from (nat_lt y m) (((at y).queue == (at m).queue) && (is_sync (at y).kind && meets (at y).dst_stages.0 stage)) (lt-ltb y m w.rising)
      (and_from ((at y).queue == (at m).queue) (is_sync (at y).kind && meets (at y).dst_stages.0 stage) (eq-eqb (at y).queue (at m).queue w.queue)
      (and_from (is_sync (at y).kind) (meets (at y).dst_stages.0 stage) w.sync w.meet)))

  -- WHAT HOLDS BACK

  pub record Held (x y : ℕ) : Type 0 where
    pub rising : x < y
    pub apart : W.first x ≢ W.first y
    pub queue : (at x).queue ≡ (at y).queue
    pub from : is_sync (at x).kind ≡ true
    pub to : is_sync (at y).kind ≡ true
    pub fit : fits W x y ≡ true
    pub meet : meets (at x).dst_stages.0 (at y).src_stages.0 ≡ true

  pub held_back : (x y : ℕ) → Held x y → holds_back W x y ≡ true
  held_back x y h =
      and_from ((at x).queue == (at y).queue) ((is_sync (at x).kind && is_sync (at y).kind) && (fits W x y && meets (at x).dst_stages.0 (at y).src_stages.0)) (eq-eqb (at x).queue (at y).queue h.queue)
      (and_from (is_sync (at x).kind && is_sync (at y).kind) (fits W x y && meets (at x).dst_stages.0 (at y).src_stages.0) (and_from (is_sync (at x).kind) (is_sync (at y).kind) h.from h.to)
      (and_from (fits W x y) (meets (at x).dst_stages.0 (at y).src_stages.0) h.fit h.meet))

  pub held : (x y : ℕ) → Held x y → edge W x y ≡ true
  held x y h =
      or_left (nat_lt x y && (not (W.first x == W.first y) && holds_back W x y)) (link x y)
      (and_from (nat_lt x y) (not (W.first x == W.first y) && holds_back W x y) (lt-ltb x y h.rising)
      (and_from (not (W.first x == W.first y)) (holds_back W x y) (ap not (ne_eqb (W.first x) (W.first y) h.apart)) (held_back x y h)))

  pub fit_roles : (x y : ℕ) → gives (W.role x) ≡ true → takes (W.role y) ≡ true → fits W x y ≡ true
  fit_roles x y g t = and_from (gives (W.role x) || is_signal (at y).kind) (takes (W.role y) || is_wait (at x).kind) (or_left (gives (W.role x)) (is_signal (at y).kind) g) (or_left (takes (W.role y)) (is_wait (at x).kind) t)

  -- what holds back, taken apart
  pub record Backed (x y : ℕ) : Type 0 where
    pub rising : x < y
    pub apart : W.first x ≢ W.first y
    pub back : holds_back W x y ≡ true
    pub queue : (at x).queue ≡ (at y).queue
    pub from : is_sync (at x).kind ≡ true
    pub to : is_sync (at y).kind ≡ true

  pub backed : (x y : ℕ) → (nat_lt x y && (not (W.first x == W.first y) && holds_back W x y)) ≡ true → Backed x y
  backed x y h =
      let p = and_parts (nat_lt x y) (not (W.first x == W.first y) && holds_back W x y) h in
      let q = and_parts (not (W.first x == W.first y)) (holds_back W x y) p.1 in
      let r = and_parts ((at x).queue == (at y).queue) ((is_sync (at x).kind && is_sync (at y).kind) && (fits W x y && meets (at x).dst_stages.0 (at y).src_stages.0)) q.1 in
      let u = and_parts (is_sync (at x).kind && is_sync (at y).kind) (fits W x y && meets (at x).dst_stages.0 (at y).src_stages.0) r.1 in
      let v = and_parts (is_sync (at x).kind) (is_sync (at y).kind) u.0 in
      record {
        rising = ltb-true x y p.0;
        apart = λ e. clash (sym (ap not (eq-eqb (W.first x) (W.first y) e)) ∙ q.0);
        back = q.1;
        queue = eqb-true (at x).queue (at y).queue r.0;
        from = v.0;
        to = v.1;
      }

  pub link_edge : (x y : ℕ) → link x y ≡ true → edge W x y ≡ true
  link_edge x y h = or_right (nat_lt x y && (not (W.first x == W.first y) && holds_back W x y)) (link x y) h

  -- an edge is from no command and to none
  pub edge_alone : (x y : ℕ) → edge W x y ≡ true → (is_command (at x).kind ≡ false) × (is_command (at y).kind ≡ false)
  edge_alone x y h = ⊎_elim
      (λ e. let b = backed x y e in (unsaid (at x).kind b.from, unsaid (at y).kind b.to))
      (λ l. link_alone W.nodes x y l)
      (or_cases (nat_lt x y && (not (W.first x == W.first y) && holds_back W x y)) (link x y) h)
    where
      unsaid : (kind : Kind) → is_sync kind ≡ true → is_command kind ≡ false
      unsaid Command s = absurd (clash s)
      unsaid Host s = absurd (clash s)
      unsaid Barrier s = refl
      unsaid (Wait q v) s = refl
      unsaid (Signal v) s = refl

  -- a path ends at no command
  pub before_to : (x y : ℕ) → Before W x y → is_command (at y).kind ≡ true → ⊥
  before_to x y (one e) c = clash (sym (edge_alone x y e).1 ∙ c)
  before_to x y (then_on {b = z} p q) c = before_to z y q c

  pub up_to_on : (x y z : ℕ) → UpTo W x y → UpTo W y z → UpTo W x z
  up_to_on x y z (inl e) q = subst (λ w. UpTo W w z) (sym e) q
  up_to_on x y z (inr p) (inl e) = inr (subst (λ w. Before W x w) e p)
  up_to_on x y z (inr p) (inr q) = inr (then_on p q)

  -- what enters a command in a stage holds back what the command leaves into
  around : Dependencies W → (stage y m x : ℕ) → IsStage stage → is_command (at m).kind ≡ true → lets_in W stage y m ≡ true → waits_for W stage m x ≡ true → edge W y x ≡ true
  around D stage y m x S c l w =
      let p = lets stage y m l in
      let q = waits stage m x w in
      held y x (record {
        rising = omega (arith, p.rising, q.rising);
        apart = λ e. let f = D.alone y m (command_alone (at m).kind c) (D.between y m x (omega (arith, p.rising)) (omega (arith, q.rising)) e) in omega (arith, f, p.rising);
        queue = p.queue ∙ q.queue;
        from = p.sync;
        to = q.sync;
        fit = fit_roles y x p.role q.role;
        meet = by_stage (at y).dst_stages.0 (at x).src_stages.0 stage S p.meet q.meet;
      })

  pub goes_through : Dependencies W → GoesThrough W
  goes_through D n k m stage a b S c (x, l, (y, u, e)) (z, f, (w, v, g)) =
      (x, l, (w, up_to_on x y w u (up_to_on y z w (inr (one (around D stage y k z S c e f))) v), g))
