-- What is reached among points is what is reached among nodes.
use Rattle.std.proofs.Common.{◌≡◌, ◌≢◌, ◌⊎◌, ◌↔◌, inl, inr, ℕ, ◌+◌, ◌<◌, Bool, true, ◌||◌, ◌&&◌, ◌==◌, nat_lt, not, Option, Some, None, length, drop, refl, sym, ap, ◌∙◌, subst, ⊎_elim, eq-eqb, eqb-true, arith}
use Rattle.std.proofs.lemmas.Bool.{and_parts, and_from, or_left, or_right, or_cases, cases_order, cases_lt}
use Rattle.std.specs.List.{position}
use Rattle.base.proofs.Absence.{some_same}
use Rattle.base.proofs.Booleans.{clash}
use Rattle.vk.specs.Sets.{meets}
use Rattle.check_order.proofs.Lines.{met_sync, next_place}
use Rattle.check_order.specs.Edges.{is_sync, is_signal, is_wait, is_host, signalled, goes_to, next_signal, signals, meeting, is_at}
use Rattle.check_order.specs.Nodes.{no_node}
use Rattle.base_first.specs.Asked.{LeadsTo, LeadsOut}
use Rattle.base_first.specs.Bits.{bit}
use Rattle.base_first.specs.Firsts.{Found}
use Rattle.base_first.specs.Points as points
use Rattle.base_first.specs.Points.{point_at, here, on}
use Rattle.base_first.proofs.Lasts.{up_on}
use Rattle.base_reach.specs.Paths.{one, then_on}
use Rattle.check_access_order.specs.Edges.{is_command}
use Rattle.check_access_order.specs.Stages.{IsStage}
use Rattle.check_table.specs.Channels.{outs, ins, outs_by, ins_by, left_way, channel_at, Covers}
use Rattle.check_table.specs.Joined.{Joined, gives, takes, is_release, is_acquire, holds_back, edge, waits_for, lets_in, UpTo, Before, Dependencies, EnteredFrom, InOrder}
use Rattle.check_table.specs.Laid.{Laid, IsLaid, IsNode, IsSite, IsRun, WaitsFor, place}
use Rattle.check_table.specs.Tables.{There}
use Rattle.check_table.specs.declared.channel.Way.{Way}
use Rattle.check_table.specs.declared.channel.Way.TheVariants.{Stage, Release, Acquire, Signal}
use Rattle.check_table.proofs.Nodes.{at, link, link_edge, held, fit_roles, by_stage, backed, waits, waits_from, lets, lets_from, up_to_on, signal_sync, signal_alone, host_unsynced, command_unsynced}
use Rattle.check_table.proofs.Signals.{chain, next_signals, is_there, there_is, none_some, signal_host, from_signal, last_edge, before_from}
use Rattle.std.proofs.lemmas.List.{get_or_past}

module _ (W : Joined) (T : Laid) (D : Dependencies W) (C : Covers W T.channels T.stages) (L : IsLaid W (There W) T) where
  abbrev N : ℕ
  N = length T.channels

  abbrev Up : ℕ → ℕ → Type 0
  Up p y = points.UpTo T.line N p y

  abbrev sync : ℕ → Bool
  sync n = is_sync (at W n).kind

  abbrev seat : ℕ → ℕ
  seat n = place T.seats n

  pub within : (x : ℕ) → sync x ≡ true → x < length W.nodes
  within x s = ⊎_elim (λ l. l) (λ ge. absurd (clash (subst (λ n. is_sync n.kind ≡ true) (get_or_past W.nodes x no_node ge) s))) (cases_lt x (length W.nodes))

  pub is_node : (x : ℕ) → sync x ≡ true → IsNode W (There W) T x
  is_node x s = L.node x (within x s) s

  pub turn : (x y : ℕ) → sync x ≡ true → sync y ≡ true → (at W x).queue ≡ (at W y).queue → x < y → seat x < seat y
  turn x y s t same lt = L.turn x y (within x s) (within y t) s t same lt

  -- nodes go as their places go
  pub rises : (x y : ℕ) → sync x ≡ true → sync y ≡ true → (at W x).queue ≡ (at W y).queue → seat x < seat y → x < y
  rises x y s t same lt = ⊎_elim
      (λ e. absurd (let f = ap seat e in omega (arith, f, lt)))
      (λ o. ⊎_elim (λ l. l) (λ g. absurd (let r = turn y x t s (sym same) g in omega (arith, r, lt))) o)
      (cases_order x y)

  in_channel : (x y c : ℕ) → sync x ≡ true → sync y ≡ true → x < y → (at W x).queue ≡ (at W y).queue → W.first x ≢ W.first y → c < N → outs W (channel_at T.channels c) x ≡ true → ins W (channel_at T.channels c) y ≡ true → points.Edge T.line N (seat x) (seat y)
  in_channel x y c s t lt same apart below o i = inl (record {
    rising = turn x y s t same lt;
    there = (is_node y t).there;
    queue = (is_node x s).queue ∙ same ∙ sym ((is_node y t).queue);
    apart = λ e. apart (sym ((is_node x s).group) ∙ e ∙ (is_node y t).group);
    channel = c;
    below = below;
    outs = (is_node x s).outs c below ∙ o;
    ins = (is_node y t).ins c below ∙ i;
  })

  -- AN EDGE BETWEEN NODES IS ONE BETWEEN POINTS

  pub outs_signal : (x : ℕ) → is_signal (at W x).kind ≡ true → outs W (channel_at T.channels T.stages) x ≡ true
  outs_signal x s = ap (λ way. outs_by way (channel_at T.channels T.stages).stage.0 (at W x) (W.role x)) C.its ∙ s

  pub ins_signal : (x : ℕ) → is_signal (at W x).kind ≡ true → ins W (channel_at T.channels T.stages) x ≡ true
  ins_signal x s = ap (λ way. ins_by way (channel_at T.channels T.stages).stage.0 (at W x) (W.role x)) C.its ∙ s

  pub signal_outs : (x : ℕ) → outs W (channel_at T.channels T.stages) x ≡ true → is_signal (at W x).kind ≡ true
  signal_outs x s = sym (ap (λ way. outs_by way (channel_at T.channels T.stages).stage.0 (at W x) (W.role x)) C.its) ∙ s

  record Onto (x y : ℕ) : Type 0 where
    pub from : sync x ≡ true
    pub edge : points.Edge T.line N (seat x) (seat y)

  met_on : (x y : ℕ) (o : Option ℕ) (met : Option ℕ) → WaitsFor (There W) T.seats o met (seat y) → o ≡ Some x → met ≡ Some (seat x)
  met_on x y None met w e = absurd (none_some x e)
  met_on x y (Some g) met w e = w.1 ∙ ap (λ n. Some (seat n)) (some_same e)

  edge_onto : (x y : ℕ) → sync y ≡ true → edge W x y ≡ true → Onto x y
  edge_onto x y t h = ⊎_elim
      (λ e. let b = backed W x y e in let c = C.held x y b.back in record { from = b.from; edge = in_channel x y c.0 b.from t b.rising b.queue b.apart c.1 c.2 c.3 })
      (λ e. ⊎_elim
      (λ s. let p = and_parts (is_signal (at W x).kind) (goes_to W.nodes y (next_signal W.nodes x)) s in by_signal p.0 (next_signal W.nodes x) refl p.1)
      (λ m. let q = is_there (meeting W.nodes (at W y).kind) x m in
      record { from = (met_sync W.nodes (at W y).kind x q).1; edge = inr (record { there = (is_node y t).there; met = met_on x y (meeting W.nodes (at W y).kind) (point_at T.line (seat y)).met (is_node y t).met q }) })
      (or_cases (signalled W.nodes x y) (is_at (meeting W.nodes (at W y).kind) x) e))
      (or_cases (nat_lt x y && (not (W.first x == W.first y) && holds_back W x y)) (link W x y) h)
    where
      by_signal : is_signal (at W x).kind ≡ true → (o : Option ℕ) → next_signal W.nodes x ≡ o → goes_to W.nodes y o ≡ true → Onto x y
      by_signal s None e g = absurd (host_unsynced (at W y).kind g t)
      by_signal s (Some n) e g =
          let same = eqb-true n y g in
          let p = next_place W.nodes x n (position (signals (at W x).queue) (drop (x + 1) W.nodes)) refl e in
          let y_signal = subst (λ k. is_signal (at W k).kind ≡ true) same (next_signals W.nodes x n e) in
          let lt = subst (λ k. x < k) same p.0 in
          record {
            from = signal_sync (at W x).kind s;
            edge = in_channel x y T.stages (signal_sync (at W x).kind s) t lt (p.1 ∙ ap (λ k. (at W k).queue) same)
                (λ f. let q = D.alone x y (signal_alone (at W y).kind y_signal) f in omega (arith, q, lt))
                C.known (outs_signal x s) (ins_signal y y_signal);
          }

  before_onto : (x y : ℕ) → sync y ≡ true → Before W x y → (sync x ≡ true) × Up (seat x) (seat y)
  before_onto x y t (one e) = let o = edge_onto x y t e in (o.from, on o.edge (here refl))
  before_onto x y t (then_on {b = z} p q) =
      let r = before_onto z y t q in
      let l = before_onto x z r.0 p in
      (l.0, up_on T.line N (seat x) (seat z) (seat y) l.1 r.1)

  pub up_onto : (x y : ℕ) → sync y ≡ true → UpTo W x y → Up (seat x) (seat y)
  up_onto x y t (inl e) = here (ap seat e)
  up_onto x y t (inr p) = (before_onto x y t p).1

  -- AND AN EDGE BETWEEN POINTS IS A PATH BETWEEN NODES

  by_channel : (way : Way) (k x y : ℕ) → IsStage k → x < y → (at W x).queue ≡ (at W y).queue → W.first x ≢ W.first y → sync x ≡ true → sync y ≡ true → outs_by way k (at W x) (W.role x) ≡ true → ins_by way k (at W y) (W.role y) ≡ true → Before W x y
  by_channel Stage k x y one_stage lt same apart s t o i =
      let p = and_parts (gives (W.role x)) (meets (at W x).dst_stages.0 k) (and_parts (is_sync (at W x).kind) (gives (W.role x) && meets (at W x).dst_stages.0 k) o).1 in
      let q = and_parts (takes (W.role y)) (meets k (at W y).src_stages.0) (and_parts (is_sync (at W y).kind) (takes (W.role y) && meets k (at W y).src_stages.0) i).1 in
      one (held W x y (record { rising = lt; apart = apart; queue = same; from = s; to = t; fit = fit_roles W x y p.0 q.0; meet = by_stage W (at W x).dst_stages.0 (at W y).src_stages.0 k one_stage p.1 q.1 }))
  by_channel Release k x y one_stage lt same apart s t o i =
      let p = and_parts (is_release (W.role x)) (meets (at W x).dst_stages.0 k) (and_parts (is_sync (at W x).kind) (is_release (W.role x) && meets (at W x).dst_stages.0 k) o).1 in
      let r = and_parts (is_signal (at W y).kind) (takes (W.role y) && meets k (at W y).src_stages.0) i in
      let q = and_parts (takes (W.role y)) (meets k (at W y).src_stages.0) r.1 in
      one (held W x y (record {
        rising = lt;
        apart = apart;
        queue = same;
        from = s;
        to = t;
        fit = and_from (gives (W.role x) || is_signal (at W y).kind) (takes (W.role y) || is_wait (at W x).kind) (or_right (gives (W.role x)) (is_signal (at W y).kind) r.0) (or_left (takes (W.role y)) (is_wait (at W x).kind) q.0);
        meet = by_stage W (at W x).dst_stages.0 (at W y).src_stages.0 k one_stage p.1 q.1;
      }))
  by_channel Acquire k x y one_stage lt same apart s t o i =
      let r = and_parts (is_wait (at W x).kind) (gives (W.role x) && meets (at W x).dst_stages.0 k) o in
      let p = and_parts (gives (W.role x)) (meets (at W x).dst_stages.0 k) r.1 in
      let q = and_parts (is_acquire (W.role y)) (meets k (at W y).src_stages.0) (and_parts (is_sync (at W y).kind) (is_acquire (W.role y) && meets k (at W y).src_stages.0) i).1 in
      one (held W x y (record {
        rising = lt;
        apart = apart;
        queue = same;
        from = s;
        to = t;
        fit = and_from (gives (W.role x) || is_signal (at W y).kind) (takes (W.role y) || is_wait (at W x).kind) (or_left (gives (W.role x)) (is_signal (at W y).kind) p.0) (or_right (takes (W.role y)) (is_wait (at W x).kind) r.0);
        meet = by_stage W (at W x).dst_stages.0 (at W y).src_stages.0 k one_stage p.1 q.1;
      }))
  by_channel Signal k x y one_stage lt same apart s t o i = chain W y x y (omega arith) lt same o i

  -- a node that the point at a place is of
  pub record Of (p : ℕ) : Type 0 where
    pub x : ℕ
    pub sync : is_sync (at W x).kind ≡ true
    pub is : place T.seats x ≡ p

  pub of_point : (p : ℕ) → p < length T.line → Of p ⊎ IsRun W T p
  of_point p lt = ⊎_elim (λ o. inl (record { x = o.0; sync = o.2; is = o.3 })) (λ e. inr e) (L.all p lt)

  -- the last point of an edge is that of a node
  pub edge_to : (p z : ℕ) → points.Edge T.line N p z → Of z
  edge_to p z (inl h) = ⊎_elim (λ o. o) (λ e. absurd (clash (sym (e.end.ins h.channel h.below) ∙ h.ins))) (of_point z h.there)
  edge_to p z (inr m) = ⊎_elim (λ o. o) (λ e. absurd (none_some p (sym e.end.met ∙ m.met))) (of_point z m.there)

  met_back : (x y : ℕ) (o : Option ℕ) (met : Option ℕ) → WaitsFor (There W) T.seats o met (seat y) → met ≡ Some x → (g : ℕ) × (o ≡ Some g) × (seat g ≡ x)
  met_back x y None met w e = absurd (none_some x (sym w ∙ e))
  met_back x y (Some g) met w e = (g, refl, some_same (sym w.1 ∙ e))

  same_place : (x y : ℕ) → sync x ≡ true → sync y ≡ true → (at W x).queue ≡ (at W y).queue → seat x ≡ seat y → x ≡ y
  same_place x y s t same e = ⊎_elim (λ q. q)
      (λ o. ⊎_elim (λ l. absurd (let r = turn x y s t same l in omega (arith, r, e))) (λ l. absurd (let r = turn y x t s (sym same) l in omega (arith, r, e))) o)
      (cases_order x y)

  edge_back : (x z : ℕ) → sync x ≡ true → sync z ≡ true → points.Edge T.line N (seat x) (seat z) → Before W x z
  edge_back x z s t (inl h) =
      let same : (at W x).queue ≡ (at W z).queue = sym ((is_node x s).queue) ∙ h.queue ∙ (is_node z t).queue in
      by_channel (channel_at T.channels h.channel).way (channel_at T.channels h.channel).stage.0 x z (C.one h.channel h.below)
      (rises x z s t same h.rising) same
      (λ e. h.apart ((is_node x s).group ∙ e ∙ sym ((is_node z t).group))) s t
      (sym ((is_node x s).outs h.channel h.below) ∙ h.outs)
      (sym ((is_node z t).ins h.channel h.below) ∙ h.ins)
  edge_back x z s t (inr m) =
      let r = met_back (seat x) z (meeting W.nodes (at W z).kind) (point_at T.line (seat z)).met (is_node z t).met m.met in
      let g = (met_sync W.nodes (at W z).kind r.0 r.1).1 in
      let is : r.0 ≡ x = same_place r.0 x g s (sym ((is_node r.0 g).queue) ∙ ap (λ p. (point_at T.line p).queue) r.2 ∙ (is_node x s).queue) r.2 in
      one (link_edge W x z (or_right (signalled W.nodes x z) (is_at (meeting W.nodes (at W z).kind) x) (there_is (meeting W.nodes (at W z).kind) x (r.1 ∙ ap (λ n. Some n) is))))

  -- a node whose point is reached from that of node x
  pub record Reached (x y : ℕ) : Type 0 where
    pub z : ℕ
    pub sync : is_sync (at W z).kind ≡ true
    pub is : place T.seats z ≡ y
    pub up : UpTo W x z

  pub up_back : (p y x : ℕ) → sync x ≡ true → seat x ≡ p → Up p y → Reached x y
  up_back p y x s e (here f) = record { z = x; sync = s; is = e ∙ f; up = inl refl }
  up_back p y x s e (on {z = z} h u) =
      let o = edge_to p z h in
      let r = up_back z y o.x o.sync o.is u in
      record { z = r.z; sync = r.sync; is = r.is; up = up_to_on W x o.x r.z (inr (edge_back x o.x s o.sync (subst (λ q. points.Edge T.line N q (seat o.x)) (sym e) (subst (λ q. points.Edge T.line N p q) (sym o.is) h)))) r.up }

  -- an edge goes forward, so nothing is before itself
  edge_rises : (x y : ℕ) → sync y ≡ true → edge W x y ≡ true → seat x < seat y
  edge_rises x y t h = go (edge_onto x y t h).edge
    where
      met_rises : (o met : Option ℕ) → WaitsFor (There W) T.seats o met (seat y) → met ≡ Some (seat x) → seat x < seat y
      met_rises None met w e = absurd (none_some (seat x) (sym w ∙ e))
      met_rises (Some g) met w e = let l = w.2 in let f = some_same (sym w.1 ∙ e) in omega (arith, l, f)

      go : points.Edge T.line N (seat x) (seat y) → seat x < seat y
      go (inl e) = e.rising
      go (inr m) = met_rises (meeting W.nodes (at W y).kind) (point_at T.line (seat y)).met (is_node y t).met m.met

  before_rises : (x y : ℕ) → sync y ≡ true → Before W x y → seat x < seat y
  before_rises x y t (one e) = edge_rises x y t e
  before_rises x y t (then_on {b = z} p q) =
      let s = before_from W z y q in
      let a = before_rises x z s p in
      let b = before_rises z y t q in
      omega (arith, a, b)

  pub never_back : (x : ℕ) → Before W x x → ⊥
  never_back x p = let r = before_rises x x (before_from W x x p) p in omega (arith, r)

  queue_same : (x y : ℕ) → sync x ≡ true → sync y ≡ true → seat x ≡ seat y → (at W x).queue ≡ (at W y).queue
  queue_same x y s t e = sym ((is_node x s).queue) ∙ ap (λ p. (point_at T.line p).queue) e ∙ (is_node y t).queue

  pub up_to : (x y : ℕ) → sync x ≡ true → sync y ≡ true → Up (seat x) (seat y) ↔ UpTo W x y
  up_to x y s t = (
    λ u. let r = up_back (seat x) (seat y) x s refl u in subst (λ n. UpTo W x n) (same_place r.z y r.sync t (queue_same r.z y r.sync t r.is) r.is) r.up,
    λ u. up_onto x y t u,
  )

  -- WHAT COMMANDS DO

  abbrev pub IsCommand : ℕ → Type 0
  IsCommand m = (m < length W.nodes) × (is_command (at W m).kind ≡ true)

  site : (m t : ℕ) → IsCommand m → t < T.stages → IsSite W T m t
  site m t (lt, c) below = L.run m lt c t below

  same_queue : (y m : ℕ) (p : ℕ) → sync y ≡ true → (point_at T.line p).queue ≡ (at W m).queue → (point_at T.line (seat y)).queue ≡ (point_at T.line p).queue → (at W y).queue ≡ (at W m).queue
  same_queue y m p s q e = sym ((is_node y s).queue) ∙ e ∙ q

  abbrev pub stage_of : ℕ → ℕ
  stage_of t = (channel_at T.channels t).stage.0

  first_site : (m t : ℕ) → IsCommand m → t < T.stages → (point_at T.line (seat m)).queue ≡ (at W m).queue
  first_site m t c below = let e : seat m + 0 ≡ seat m = omega arith in ap (λ p. (point_at T.line p).queue) (sym e) ∙ (site m 0 c (omega (arith, below))).queue

  shown_out : (y t : ℕ) → t < T.stages → sync y ≡ true → bit (point_at T.line (seat y)).shows t ≡ true → (gives (W.role y) ≡ true) × (meets (at W y).dst_stages.0 (stage_of t) ≡ true)
  shown_out y t below s h =
      let o = sym (ap (λ way. outs_by way (stage_of t) (at W y) (W.role y)) (C.ways t below)) ∙ sym ((is_node y s).shows t (omega (arith, below, C.known))) ∙ h in
      let p = and_parts (is_sync (at W y).kind) (gives (W.role y) && meets (at W y).dst_stages.0 (stage_of t)) o in
      let q = and_parts (gives (W.role y)) (meets (at W y).dst_stages.0 (stage_of t)) p.1 in
      (q.0, q.1)

  out_shown : (y t : ℕ) → t < T.stages → sync y ≡ true → gives (W.role y) ≡ true → meets (at W y).dst_stages.0 (stage_of t) ≡ true → bit (point_at T.line (seat y)).shows t ≡ true
  out_shown y t below s g m =
      (is_node y s).shows t (omega (arith, below, C.known)) ∙ ap (λ way. outs_by way (stage_of t) (at W y) (W.role y)) (C.ways t below)
      ∙ and_from (is_sync (at W y).kind) (gives (W.role y) && meets (at W y).dst_stages.0 (stage_of t)) s (and_from (gives (W.role y)) (meets (at W y).dst_stages.0 (stage_of t)) g m)

  -- a node that lets the stage in, as a point that is found before the command's
  pub lets_found : (p m t y : ℕ) → IsCommand m → t < T.stages → Up p (seat y) → lets_in W (stage_of t) y m ≡ true → LeadsTo T.line N p t (seat m)
  lets_found p m t y c below u h =
      let l = lets W (stage_of t) y m h in (
        seat y,
        L.behind y m (within y l.sync) c.0 l.sync c.1 l.queue l.rising,
        record {
          there = (is_node y l.sync).there;
          reached = u;
          queue = (is_node y l.sync).queue ∙ l.queue ∙ sym (first_site m t c below);
          shown = out_shown y t below l.sync l.role l.meet;
        },
      )

  found_lets : (m t y : ℕ) (R : ℕ → Type 0) → IsCommand m → t < T.stages → sync y ≡ true → seat y < seat m → Found T.line R (point_at T.line (seat m)).queue t (seat y) → lets_in W (stage_of t) y m ≡ true
  found_lets m t y R c below s lt f =
      let same = same_queue y m (seat m) s (first_site m t c below) f.queue in
      let o = shown_out y t below s f.shown in
      lets_from W (stage_of t) y m (record { role = o.0; rising = before same; queue = same; sync = s; meet = o.1 })
    where
      before : (at W y).queue ≡ (at W m).queue → y < m
      before same = ⊎_elim
          (λ e. absurd (command_unsynced (at W m).kind c.1 (subst (λ n. sync n ≡ true) e s)))
          (λ o. ⊎_elim (λ l. l) (λ g. absurd (let r = L.ahead y m (within y s) c.0 s c.1 same g in omega (arith, r, lt))) o)
          (cases_order y m)

  -- from a point on, a command is entered in a stage
  pub record Entry (p m t : ℕ) : Type 0 where
    pub y : ℕ
    pub sync : is_sync (at W y).kind ≡ true
    pub up : points.UpTo T.line (length T.channels) p (place T.seats y)
    pub lets : lets_in W (channel_at T.channels t).stage.0 y m ≡ true

  pub enters : (p m t : ℕ) → IsCommand m → t < T.stages → LeadsTo T.line N p t (seat m) → Entry p m t
  enters p m t c below (y, lt, f) = ⊎_elim
      (λ o. record {
        y = o.x;
        sync = o.sync;
        up = subst (λ q. Up p q) (sym o.is) f.reached;
        lets = found_lets m t o.x (Up p) c below o.sync (omega (arith, lt, o.is)) (subst (λ q. Found T.line (Up p) (point_at T.line (seat m)).queue t q) (sym o.is) f);
      })
      (λ e. absurd (clash (sym (e.end.shows t (omega (arith, below, C.known))) ∙ f.shown)))
      (of_point y f.there)

  pub entered : (x m t : ℕ) → sync x ≡ true → IsCommand m → t < T.stages → LeadsTo T.line N (seat x) t (seat m) ↔ EnteredFrom W x m (Some (stage_of t))
  entered x m t s c below = (
    λ h. let r = enters (seat x) m t c below h in (r.y, (up_to x r.y s r.sync).0 r.up, r.lets),
    λ h. let l = lets W (stage_of t) h.0 m h.2 in lets_found (seat x) m t h.0 c below (up_onto x h.0 l.sync h.1) h.2,
  )

  record Left (n t : ℕ) (z : ℕ) : Type 0 where
    pub x : ℕ
    pub sync : is_sync (at W x).kind ≡ true
    pub is : place T.seats x ≡ z
    pub waits : waits_for W (channel_at T.channels t).stage.0 n x ≡ true

  by_way : (way : Way) (k stage x : ℕ) → left_way way k stage ≡ true → ins_by way k (at W x) (W.role x) ≡ true → (takes (W.role x) ≡ true) × (meets stage (at W x).src_stages.0 ≡ true)
  by_way Stage k stage x o i =
      let q = and_parts (takes (W.role x)) (meets k (at W x).src_stages.0) (and_parts (is_sync (at W x).kind) (takes (W.role x) && meets k (at W x).src_stages.0) i).1 in
      (q.0, subst (λ s. meets s (at W x).src_stages.0 ≡ true) (sym (eqb-true stage k o)) q.1)
  by_way Release k stage x o i = absurd (clash o)
  by_way Acquire k stage x o i = absurd (clash o)
  by_way Signal k stage x o i = absurd (clash o)

  left_back : (n t z : ℕ) → IsCommand n → t < T.stages → points.Edge T.line N (seat n + t) z → Left n t z
  left_back n t z c below (inr m) = absurd (go (edge_to (seat n + t) z (inr m)))
    where
      go : Of z → ⊥
      go o =
          let w = met_back (seat n + t) o.x (meeting W.nodes (at W o.x).kind) (point_at T.line (seat o.x)).met (is_node o.x o.sync).met (ap (λ p. (point_at T.line p).met) o.is ∙ m.met) in
          let g = (met_sync W.nodes (at W o.x).kind w.0 w.1).1 in
          shown_not w.0 g w.2
        where
          -- a node's point is that of no command: a signal is shown
          shown_not : (g : ℕ) → sync g ≡ true → seat g ≡ seat n + t → ⊥
          shown_not g s e = (site n t c below).run.apart g s (ap (λ p. (point_at T.line p).group) (sym e) ∙ (is_node g s).group)
  left_back n t z c below (inl h) = go (edge_to (seat n + t) z (inl h))
    where
      go : Of z → Left n t z
      go o = record { x = o.x; sync = o.sync; is = o.is; waits = waits_from W (stage_of t) n o.x (record { role = r.0; rising = after; queue = same; sync = o.sync; meet = r.1 }) }
        where
          same : (at W n).queue ≡ (at W o.x).queue
          same = sym ((site n t c below).queue) ∙ h.queue ∙ ap (λ p. (point_at T.line p).queue) (sym o.is) ∙ (is_node o.x o.sync).queue

          r : (takes (W.role o.x) ≡ true) × (meets (stage_of t) (at W o.x).src_stages.0 ≡ true)
          r = by_way (channel_at T.channels h.channel).way (channel_at T.channels h.channel).stage.0 (stage_of t) o.x
              (sym ((site n t c below).outs h.channel h.below) ∙ h.outs)
              (sym ((is_node o.x o.sync).ins h.channel h.below) ∙ ap (λ p. bit (point_at T.line p).ins h.channel) o.is ∙ h.ins)

          after : n < o.x
          after = ⊎_elim
              (λ e. absurd (command_unsynced (at W n).kind c.1 (subst (λ k. sync k ≡ true) (sym e) o.sync)))
              (λ q. ⊎_elim (λ l. l) (λ l. absurd (let b = L.behind o.x n (within o.x o.sync) c.0 o.sync c.1 (sym same) l in omega (arith, b, o.is, h.rising))) q)
              (cases_order n o.x)

  left_on : (n t x : ℕ) → IsCommand n → t < T.stages → waits_for W (stage_of t) n x ≡ true → points.Edge T.line N (seat n + t) (seat x)
  left_on n t x c below h =
      let w = waits W (stage_of t) n x h in
      let a = L.ahead x n (within x w.sync) c.0 w.sync c.1 (sym w.queue) w.rising in
      let known : t < N = omega (arith, below, C.known) in
      inl (record {
        rising = omega (arith, a, below);
        there = (is_node x w.sync).there;
        queue = (site n t c below).queue ∙ w.queue ∙ sym ((is_node x w.sync).queue);
        apart = λ e. (site n t c below).run.apart x w.sync (e ∙ (is_node x w.sync).group);
        channel = t;
        below = known;
        outs = (site n t c below).outs t known ∙ ap (λ way. left_way way (stage_of t) (stage_of t)) (C.ways t below) ∙ eq-eqb (stage_of t) (stage_of t) refl;
        ins = (is_node x w.sync).ins t known ∙ ap (λ way. ins_by way (stage_of t) (at W x) (W.role x)) (C.ways t below)
            ∙ and_from (is_sync (at W x).kind) (takes (W.role x) && meets (stage_of t) (at W x).src_stages.0) w.sync (and_from (takes (W.role x)) (meets (stage_of t) (at W x).src_stages.0) w.role w.meet);
      })

  site_apart : (n t x : ℕ) → IsCommand n → t < T.stages → sync x ≡ true → seat n + t ≡ seat x → ⊥
  site_apart n t x c below s e = (site n t c below).run.apart x s (ap (λ p. (point_at T.line p).group) e ∙ (is_node x s).group)

  pub ordered : (n t m u : ℕ) → IsCommand n → IsCommand m → t < T.stages → u < T.stages → LeadsTo T.line N (seat n + t) u (seat m) ↔ InOrder W n (Some (stage_of t)) m (Some (stage_of u))
  ordered n t m u c d lt lu = (
    λ h. back (enters (seat n + t) m u d lu h),
    λ h.
        let w = waits W (stage_of t) n h.0 h.1 in
        let l = lets W (stage_of u) h.2.0 m h.2.2 in
        lets_found (seat n + t) m u h.2.0 d lu (on (left_on n t h.0 c lt h.1) (up_onto h.0 h.2.0 l.sync h.2.1)) h.2.2,
  )
    where
      back : Entry (seat n + t) m u → InOrder W n (Some (stage_of t)) m (Some (stage_of u))
      back r = go r.up
        where
          go : Up (seat n + t) (seat r.y) → InOrder W n (Some (stage_of t)) m (Some (stage_of u))
          go (here e) = absurd (site_apart n t r.y c lt r.sync e)
          go (on {z = z} e v) =
              let l = left_back n t z c lt e in
              let b = up_back z (seat r.y) l.x l.sync l.is v in
              let same = same_place b.z r.y b.sync r.sync (queue_same b.z r.y b.sync r.sync b.is) b.is in
              (l.x, l.waits, (r.y, subst (λ k. UpTo W l.x k) same b.up, r.lets))

  pub into : (n t y : ℕ) → IsCommand n → t < T.stages → sync y ≡ true → Up (seat n + t) (seat y) ↔ InOrder W n (Some (stage_of t)) y None
  into n t y c lt s = (
    go,
    λ h.
        on (left_on n t h.0 c lt h.1) (up_onto h.0 y s (subst (λ k. UpTo W h.0 k) h.2.2 h.2.1)),
  )
    where
      go : Up (seat n + t) (seat y) → InOrder W n (Some (stage_of t)) y None
      go (here e) = absurd (site_apart n t y c lt s e)
      go (on {z = z} e v) =
          let l = left_back n t z c lt e in
          let b = up_back z (seat y) l.x l.sync l.is v in
          let same = same_place b.z y b.sync s (queue_same b.z y b.sync s b.is) b.is in
          (l.x, l.waits, (y, subst (λ k. UpTo W l.x k) same b.up, refl))

  -- HOST READS

  module _ (queues : ℕ) (known : (p : ℕ) → p < length T.line → (point_at T.line p).queue < queues) where
    signal_at : (x : ℕ) → sync x ≡ true → bit (point_at T.line (seat x)).shows T.stages ≡ true → is_signal (at W x).kind ≡ true
    signal_at x s h = signal_outs x (sym ((is_node x s).shows T.stages C.known) ∙ h)

    -- a signal that is reached from a point is on a queue
    out_by : (p g : ℕ) → is_signal (at W g).kind ≡ true → Up p (seat g) → LeadsOut T.line queues N p T.stages
    out_by p g h u =
        let s = signal_sync (at W g).kind h in
        let node = is_node g s in (
          (point_at T.line (seat g)).queue,
          seat g,
          known (seat g) node.there,
          record {
            there = node.there;
            reached = u;
            queue = refl;
            shown = node.shows T.stages C.known ∙ outs_signal g h;
          },
        )

    record Out (p : ℕ) : Type 0 where
      pub g : ℕ
      pub signal : is_signal (at W g).kind ≡ true
      pub up : points.UpTo T.line (length T.channels) p (place T.seats g)

    out_of : (p : ℕ) → LeadsOut T.line queues N p T.stages → Out p
    out_of p (q, y, lq, f) = ⊎_elim
        (λ o. record {
          g = o.x;
          signal = signal_at o.x o.sync (ap (λ k. bit (point_at T.line k).shows T.stages) o.is ∙ f.shown);
          up = subst (λ k. Up p k) (sym o.is) f.reached;
        })
        (λ e. absurd (clash (sym (e.end.shows T.stages C.known) ∙ f.shown)))
        (of_point y f.there)

    up_before : (x y m : ℕ) → UpTo W x y → Before W y m → Before W x m
    up_before x y m (inl e) b = subst (λ n. Before W n m) (sym e) b
    up_before x y m (inr a) b = then_on a b

    pub hosts : (x m : ℕ) → sync x ≡ true → is_host (at W m).kind ≡ true → LeadsOut T.line queues N (seat x) T.stages ↔ Before W x m
    hosts x m s h = (
      λ o. let r = out_of (seat x) o in up_before x r.g m ((up_to x r.g s (signal_sync (at W r.g).kind r.signal)).0 r.up) (signal_host W (length W.nodes) r.g m (omega arith) r.signal h),
      λ p. let l = last_edge W x m p in let g = from_signal W l.0 m h l.2 in out_by (seat x) l.0 g (up_onto x l.0 (signal_sync (at W l.0).kind g) l.1),
    )

    pub leaves_out : (n t m : ℕ) → IsCommand n → t < T.stages → is_host (at W m).kind ≡ true → LeadsOut T.line queues N (seat n + t) T.stages ↔ InOrder W n (Some (stage_of t)) m None
    leaves_out n t m c lt h = (
      λ o.
          let r = out_of (seat n + t) o in
          let i = (into n t r.g c lt (signal_sync (at W r.g).kind r.signal)).0 r.up in
          (i.0, i.1, (m, inr (up_before i.0 r.g m (subst (λ k. UpTo W i.0 k) i.2.2 i.2.1) (signal_host W (length W.nodes) r.g m (omega arith) r.signal h)), refl)),
      λ i. back i.0 i.1 (subst (λ k. UpTo W i.0 k) i.2.2 i.2.1),
    )
      where
        back : (x : ℕ) → waits_for W (stage_of t) n x ≡ true → UpTo W x m → LeadsOut T.line queues N (seat n + t) T.stages
        back x w (inl e) = absurd (host_unsynced (at W m).kind h (subst (λ k. sync k ≡ true) e (waits W (stage_of t) n x w).sync))
        back x w (inr b) =
            let l = last_edge W x m b in
            let g = from_signal W l.0 m h l.2 in
            out_by (seat n + t) l.0 g (on (left_on n t x c lt w) (up_onto x l.0 (signal_sync (at W l.0).kind g) l.1))
