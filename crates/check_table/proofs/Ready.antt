-- Points that are laid are fit for the walk and the questions.
use Rattle.std.proofs.Common.{◌≡◌, ◌⊎◌, inl, inr, ℕ, ◌+◌, ◌<◌, ◌≤◌, true, false, Option, Some, None, List, length, refl, sym, ap, ◌∙◌, subst, ⊎_elim, arith}
use Rattle.std.proofs.lemmas.Bool.{cases_eq, cases_lt, cases_Bool}
use Rattle.std.proofs.lemmas.List.{get_or_past}
use Rattle.base.proofs.Absence.{some_same}
use Rattle.base.proofs.Booleans.{clash}
use Rattle.base_first.specs.Asked.{Shown, Chained, Begins}
use Rattle.base_first.specs.Bits.{bit}
use Rattle.base_first.specs.Points.{point_at, Lined}
use Rattle.base_first.specs.declared.point.Point.{Point}
use Rattle.check_order.specs.Edges.{is_sync, is_signal, is_host, meeting}
use Rattle.check_table.specs.Channels.{Covers}
use Rattle.check_table.specs.Joined.{Joined, Dependencies, is_barrier}
use Rattle.check_table.specs.Laid.{Laid, IsLaid, IsNode, IsRun, IsSeat, WaitsFor, place, place_of, seat_at}
use Rattle.check_table.specs.Tables.{There, IsReady, start_by, start_in}
use Rattle.check_table.specs.declared.laying.Seat.{Seat}
use Rattle.check_table.specs.declared.laying.Seat.TheVariants as sits
use Rattle.check_table.proofs.Nodes.{at, signal_alone, signal_sync, barrier_sync, command_unsynced, host_unsynced}
use Rattle.check_table.proofs.Onto as onto
use Rattle.check_order.specs.Orders.{Order}
use Rattle.check_table.specs.Internal.Laying.{DoneIn}
use Rattle.check_table.proofs.Signals.{met_signal, none_some}
use Rattle.check_table.proofs.Turns.{all_done, done_there}

module _ (W : Joined) (T : Laid) (D : Dependencies W) (C : Covers W T.channels T.stages) (L : IsLaid W (There W) T) (count : length T.seats ≡ length W.nodes) where
  abbrev N : ℕ
  N = length T.line

  abbrev point : ℕ → Point
  point p = point_at T.line p

  node : (x : ℕ) → is_sync (at W x).kind ≡ true → IsNode W (There W) T x
  node x s = onto.is_node W T D C L x s

  of_point : (p : ℕ) → p < N → onto.Of W T D C L p ⊎ IsRun W T p
  of_point p lt = onto.of_point W T D C L p lt

  up : (p q : ℕ) → p ≤ q → q < N → (point p).queue ≡ (point q).queue → (point p).group ≤ (point q).group
  up p q le lt same = ⊎_elim (λ e. let f = ap (λ k. (point k).group) e in omega (arith, f)) (λ ne. L.rising p q (omega (arith, le, ne)) lt same) (cases_eq p q)

  -- the signal that a point waits for
  record Met (p g : ℕ) : Type 0 where
    pub x : ℕ
    pub signal : is_signal (at W x).kind ≡ true
    pub is : place T.seats x ≡ g
    pub before : g < p

  met_in : (p g : ℕ) (o met : Option ℕ) → ((x : ℕ) → o ≡ Some x → is_signal (at W x).kind ≡ true) → WaitsFor (There W) T.seats o met p → met ≡ Some g → Met p g
  met_in p g None met f w e = absurd (none_some g (sym w ∙ e))
  met_in p g (Some x) met f w e = let is : place T.seats x ≡ g = some_same (sym w.1 ∙ e) in let lt = w.2 in record { x = x; signal = f x refl; is = is; before = omega (arith, lt, is) }

  met_of : (p g : ℕ) → p < N → (point p).met ≡ Some g → Met p g
  met_of p g lt e = ⊎_elim
      (λ o. met_in p g (meeting W.nodes (at W o.x).kind) (point p).met (λ x f. met_signal W.nodes (at W o.x).kind x f) (subst (λ q. WaitsFor (There W) T.seats (meeting W.nodes (at W o.x).kind) (point q).met q) o.is (node o.x o.sync).met) e)
      (λ r. absurd (none_some g (sym r.end.met ∙ e)))
      (of_point p lt)

  pub lined : (queues : ℕ) → ((n : ℕ) → n < length W.nodes → is_host (at W n).kind ≡ false → (at W n).queue < queues) → Lined T.line queues
  lined queues known = record {
    queue = λ p lt. let f = L.from p lt in let k = known f.0 f.1 f.4 in let e = f.2 in omega (arith, k, e);
    met = λ p g lt e. (met_of p g lt e).before;
    grouped = λ p m z pm mz lt pq mq g.
        let a = up p m pm (omega (arith, mz, lt)) pq in
        let b = up m z mz lt mq in
        omega (arith, a, b, g);
  }

  shown : Shown T.line (length T.channels)
  shown p lt = ⊎_elim
      (λ o. inl (λ c below. subst (λ q. bit (point q).shows c ≡ bit (point q).outs c) o.is ((node o.x o.sync).shows c below ∙ sym ((node o.x o.sync).outs c below))))
      (λ r. inr r.end)
      (of_point p lt)

  -- a point that is looked for among the signals is one
  record AtSignal (g : ℕ) : Type 0 where
    pub x : ℕ
    pub signal : is_signal (at W x).kind ≡ true
    pub is : place T.seats x ≡ g

  at_signal : (g : ℕ) → g < N → bit (point g).shows T.stages ≡ true → AtSignal g
  at_signal g lt h = ⊎_elim
      (λ o. record { x = o.x; signal = onto.signal_outs W T D C L o.x (sym ((node o.x o.sync).shows T.stages C.known) ∙ ap (λ q. bit (point q).shows T.stages) o.is ∙ h); is = o.is })
      (λ r. absurd (clash (sym (r.end.shows T.stages C.known) ∙ h)))
      (of_point g lt)

  chained : Chained T.line (length T.channels) T.stages
  chained = record {
    known = C.known;
    met = λ p g lt e.
        let m = met_of p g lt e in
        let s = node m.x (signal_sync (at W m.x).kind m.signal) in
        (let t = s.there in let i = m.is in omega (arith, t, i), subst (λ q. bit (point q).shows T.stages ≡ true) m.is (s.shows T.stages C.known ∙ onto.outs_signal W T D C L m.x m.signal));
    ins = λ g lt h.
        let m = at_signal g lt h in
        let s = node m.x (signal_sync (at W m.x).kind m.signal) in (
          subst (λ q. bit (point q).outs T.stages ≡ true) m.is (s.outs T.stages C.known ∙ onto.outs_signal W T D C L m.x m.signal),
          subst (λ q. bit (point q).ins T.stages ≡ true) m.is (s.ins T.stages C.known ∙ onto.ins_signal W T D C L m.x m.signal),
        );
    apart = λ f g lt there h q e.
        let m = at_signal g there h in
        let s = signal_sync (at W m.x).kind m.signal in
        let own : (point g).group ≡ W.first m.x = ap (λ k. (point k).group) (sym m.is) ∙ (node m.x s).group in
        ⊎_elim
        (λ o.
        let same = D.alone o.x m.x (signal_alone (at W m.x).kind m.signal) (sym ((node o.x o.sync).group) ∙ ap (λ k. (point k).group) o.is ∙ e ∙ own) in
        let i = sym o.is ∙ ap (λ k. place T.seats k) same ∙ m.is in
        omega (arith, i, lt))
        (λ r. r.apart m.x s (e ∙ own))
        (of_point f (omega (arith, lt, there)));
  }

  -- SEATS

  no_node : (p : ℕ) → sits.Host ≡ sits.Node p → ⊥
  no_node p e = cc

  -- a seat of a node is that of one that holds others back
  pub seated : (n p : ℕ) → seat_at T.seats n ≡ sits.Node p → is_sync (at W n).kind ≡ true
  seated n p e = ⊎_elim
      (λ (lt : n < length T.seats). subst (λ s. IsSeat (at W n).kind s) e (L.seat n (omega (arith, lt, count))))
      (λ (ge : length T.seats ≤ n). absurd (no_node p (sym (get_or_past T.seats n sits.Host ge) ∙ e)))
      (cases_lt n (length T.seats))

  -- and one that holds others back has such a seat
  pub seat_of : (x : ℕ) → is_sync (at W x).kind ≡ true → seat_at T.seats x ≡ sits.Node (place T.seats x)
  seat_of x s = go (seat_at T.seats x) (L.seat x (onto.within W T D C L x s))
    where
      go : (seat : Seat) → IsSeat (at W x).kind seat → seat ≡ sits.Node (place_of seat)
      go (sits.Node p) h = refl
      go (sits.Run p) h = absurd (command_unsynced (at W x).kind h s)
      go sits.Host h = absurd (host_unsynced (at W x).kind h s)

  -- the first node of a dependency holds others back, where one of it does
  first_sync : (n : ℕ) → is_sync (at W n).kind ≡ true → is_sync (at W (W.first n)).kind ≡ true
  first_sync n s = ⊎_elim
      (λ b. barrier_sync (at W (W.first n)).kind b)
      (λ f. subst (λ k. is_sync (at W k).kind ≡ true) (D.alone n (W.first n) f (sym (D.its n))) s)
      (cases_Bool (is_barrier (at W (W.first n)).kind))

  begins : (n : ℕ) → is_sync (at W n).kind ≡ true → Begins T.line (place T.seats n) (place T.seats (W.first n))
  begins n s = (low, λ z lt q. (λ l g. none_before z lt q l g, λ le. within z lt q le))
    where
      t : is_sync (at W (W.first n)).kind ≡ true
      t = first_sync n s

      low : place T.seats (W.first n) ≤ place T.seats n
      low = ⊎_elim
          (λ e. let f = ap (λ k. place T.seats k) e in omega (arith, f))
          (λ ne. let l = D.low n in let r = onto.turn W T D C L (W.first n) n t s (D.queue n) (omega (arith, l, ne)) in omega (arith, r))
          (cases_eq (W.first n) n)

      none_before : (z : ℕ) → z < place T.seats n → (point z).queue ≡ (point (place T.seats n)).queue → z < place T.seats (W.first n) → (point z).group ≡ (point (place T.seats n)).group → ⊥
      none_before z lt q l g = ⊎_elim
          (λ o.
          let same : (at W o.x).queue ≡ (at W (W.first n)).queue = sym ((node o.x o.sync).queue) ∙ ap (λ k. (point k).queue) o.is ∙ q ∙ (node n s).queue ∙ sym (D.queue n) in
          let i = o.is in
          let r = onto.rises W T D C L o.x (W.first n) o.sync t same (omega (arith, l, i)) in
          let f : W.first o.x ≡ W.first n = sym ((node o.x o.sync).group) ∙ ap (λ k. (point k).group) o.is ∙ g ∙ (node n s).group in
          let low = D.low o.x in
          omega (arith, r, f, low))
          (λ r. r.apart n s (g ∙ (node n s).group))
          (of_point z (let u = (node n s).there in omega (arith, lt, u)))

      within : (z : ℕ) → z < place T.seats n → (point z).queue ≡ (point (place T.seats n)).queue → place T.seats (W.first n) ≤ z → (point z).group ≡ (point (place T.seats n)).group
      within z lt q le =
          let there = (node n s).there in
          let a = up (place T.seats (W.first n)) z le (omega (arith, lt, there)) ((node (W.first n) t).queue ∙ D.queue n ∙ sym ((node n s).queue) ∙ sym q) in
          let b = up z (place T.seats n) (omega (arith, lt)) there q in
          let e = (node (W.first n) t).group in
          let f = (node n s).group in
          let i = D.its n in
          omega (arith, a, b, e, f, i)

  starts : (n p : ℕ) → seat_at T.seats n ≡ sits.Node p → Begins T.line p (start_in T.line T.seats p)
  starts n p e =
      let s = seated n p e in
      let is : place T.seats n ≡ p = ap place_of e in
      let group : (point p).group ≡ W.first n = ap (λ k. (point k).group) (sym is) ∙ (node n s).group in
      let start : start_in T.line T.seats p ≡ place T.seats (W.first n) = ap (λ g. start_by (seat_at T.seats g) p) group ∙ ap (λ k. start_by k p) (seat_of (W.first n) (first_sync n s)) in
      subst (λ k. Begins T.line p k) (sym start) (subst (λ k. Begins T.line k (place T.seats (W.first n))) is (begins n s))

  runs : (n p : ℕ) → seat_at T.seats n ≡ sits.Run p → p + T.stages ≤ length T.line
  runs n p e = ⊎_elim
      (λ (lt : n < length T.seats).
      let there : n < length W.nodes = omega (arith, lt, count) in
      let f = L.fits n there (subst (λ s. IsSeat (at W n).kind s) e (L.seat n there)) in
      let is = ap place_of e in
      omega (arith, f, is))
      (λ (ge : length T.seats ≤ n). absurd (no_run (sym (get_or_past T.seats n sits.Host ge) ∙ e)))
      (cases_lt n (length T.seats))
    where
      no_run : sits.Host ≡ sits.Run p → ⊥
      no_run q = cc

  pub ready : IsReady T
  ready = record {
    shown = shown;
    chained = chained;
    groups = λ p lt. let f = L.from p lt in let l = D.low f.0 in let a = f.1 in let b = f.3 in omega (arith, l, a, b, count);
    nodes = λ n p e. let s = seated n p e in let t = (node n s).there in let is = ap place_of e in omega (arith, t, is);
    begins = starts;
    runs = runs;
  }

-- all nodes are done once the order is gone through
pub at_end : (W : Joined) (order : List ℕ) → Order W.nodes order → (T : Laid) → IsLaid W (DoneIn order (length order)) T → IsLaid W (There W) T
at_end W order O T L = record {
  seat = λ n d. L.seat n (to n d);
  node = λ x d h. let N = L.node x (to x d) h in record {
    there = N.there;
    queue = N.queue;
    group = N.group;
    ins = N.ins;
    outs = N.outs;
    shows = N.shows;
    met = met_too (meeting W.nodes (at W x).kind) (point_at T.line (place T.seats x)).met (place T.seats x) N.met;
  };
  run = λ m d h. L.run m (to m d) h;
  fits = λ m d h. L.fits m (to m d) h;
  all = λ p lt. ⊎_elim (λ r. inl (r.0, from r.0 r.1, r.2, r.3)) (λ e. inr e) (L.all p lt);
  from = λ p lt. let r = L.from p lt in (r.0, from r.0 r.1, r.2, r.3, r.4);
  rising = L.rising;
  turn = λ x y a b. L.turn x y (to x a) (to y b);
  behind = λ x m a b. L.behind x m (to x a) (to m b);
  ahead = λ x m a b. L.ahead x m (to x a) (to m b);
}
  where
    to : (n : ℕ) → n < length W.nodes → DoneIn order (length order) n
    to n lt = all_done W.nodes order O n lt

    from : (n : ℕ) → DoneIn order (length order) n → n < length W.nodes
    from n d = done_there W.nodes order O n d

    met_too : (o m : Option ℕ) (p : ℕ) → WaitsFor (DoneIn order (length order)) T.seats o m p → WaitsFor (There W) T.seats o m p
    met_too None m p w = w
    met_too (Some g) m p w = (from g w.0, w.1, w.2)
