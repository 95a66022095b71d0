-- What is new where a node, a run of commands, or a host read is given its seat.
use Rattle.std.proofs.Common.{◌≡◌, ◌≢◌, inl, inr, ℕ, ◌+◌, ◌-◌, ◌*◌, ◌<◌, ◌≤◌, Bool, true, false, Option, Some, None, List, length, set, get_or, refl, sym, ap, ◌∙◌, subst, arith}
use Rattle.std.specs.Option.{option_map}
use Rattle.base.proofs.Booleans.{clash}
use Rattle.base_first.specs.Bits.{bit}
use Rattle.base_first.specs.Points.{point_at}
use Rattle.base_first.specs.declared.point.Point.{Point}
use Rattle.check_order.proofs.Lines.{met_sync}
use Rattle.check_order.specs.Edges.{is_sync, is_host, meeting}
use Rattle.check_order.specs.Orders.{Order}
use Rattle.check_access_order.specs.Edges.{is_command}
use Rattle.check_table.specs.Channels as by
use Rattle.check_table.specs.Channels.{channel_at}
use Rattle.check_table.specs.Joined.{Joined, Dependencies}
use Rattle.check_table.specs.Internal.Laying.{DoneIn, IsNodePoint, WithSites, IsLaying}
use Rattle.check_table.specs.declared.laying.Line.{Line}
use Rattle.check_table.specs.Laid.{Laid, IsLaid, IsNode, IsSite, IsRun, IsSeat, WaitsFor, place, place_of, seat_at}
use Rattle.check_table.specs.declared.channel.Channel.{Channel}
use Rattle.check_table.specs.declared.laying.Seat.{Seat}
use Rattle.check_table.specs.declared.laying.Seat.TheVariants as sits
use Rattle.check_table.proofs.Nodes.{at, command_unsynced, command_unhosted, sync_unhosted, command_alone, host_unsynced}
use Rattle.check_table.proofs.Lays as lays
use Rattle.check_table.proofs.Turns.{IsNext, next, done_more, done_own, done_cases}

host_command : (b : Bool) → b ≡ true → b ≡ false → ⊥
host_command b h f = clash (sym f ∙ h)

module _ (W : Joined) (D : Dependencies W) (channels : List Channel) (stages : ℕ) (order : List ℕ) (k : ℕ) (old : List Point) (before : List Seat)
    (O : Order W.nodes order) (lk : k < length order) (size : length before ≡ length W.nodes)
    (L : IsLaid W (DoneIn order k) (record { line = old; seats = before; channels = channels; stages = stages })) where
  abbrev n : ℕ
  n = get_or order k 0

  X : IsNext W.nodes (DoneIn order k) n
  X = next W.nodes order k O lk

  abbrev After : List Point → Seat → Laid
  After new s = record { line = new; seats = set before n s; channels = channels; stages = stages }

  place_now : (s : Seat) → place (set before n s) n ≡ place_of s
  place_now s = lays.place_own W D channels stages (DoneIn order k) (DoneIn order (k + 1)) n (done_more order k) (done_own order k) (done_cases order k) old old before s X size (omega arith) (λ p l. refl)

  place_then : (s : Seat) (x : ℕ) → DoneIn order k x → place (set before n s) x ≡ place before x
  place_then s x d = lays.place_other W D channels stages (DoneIn order k) (DoneIn order (k + 1)) n (done_more order k) (done_own order k) (done_cases order k) old old before s X size (omega arith) (λ p l. refl) x d

  more : (new : List Point) (s : Seat) (grown : length old ≤ length new) (kept : (p : ℕ) → p < length old → point_at new p ≡ point_at old p)
      → lays.IsGiven W D channels stages (DoneIn order k) (DoneIn order (k + 1)) n (done_more order k) (done_own order k) (done_cases order k) old new before s X size grown kept
      → IsLaid W (DoneIn order (k + 1)) (After new s)
  more new s grown kept G = lays.laid_on W D channels stages (DoneIn order k) (DoneIn order (k + 1)) n (done_more order k) (done_own order k) (done_cases order k) old new before s X size grown kept L G

  -- A BARRIER, A WAIT OR A SIGNAL

  module _ (h : is_sync (at W n).kind ≡ true) (new : List Point) (grown : length new ≡ length old + 1)
      (kept : (p : ℕ) → p < length old → point_at new p ≡ point_at old p) (P : IsNodePoint W channels before n (point_at new (length old))) where
    here : place (set before n (sits.Node (length old))) n ≡ length old
    here = place_now (sits.Node (length old))

    own_point : (Q : Point → Type 0) → Q (point_at new (length old)) → Q (point_at new (place (set before n (sits.Node (length old))) n))
    own_point Q q = subst (λ p. Q (point_at new p)) (sym here) q

    its_met : (o met : Option ℕ) → ((g : ℕ) → o ≡ Some g → DoneIn order k g × (is_sync (at W g).kind ≡ true)) → met ≡ option_map (λ g. place before g) o → WaitsFor (DoneIn order (k + 1)) (set before n (sits.Node (length old))) o met (place (set before n (sits.Node (length old))) n)
    its_met None met f e = e
    its_met (Some g) met f e =
        let d = f g refl in
        let q = place_then (sits.Node (length old)) g d.0 in
        let t = (L.node g d.0 d.1).there in
        (done_more order k g d.0, e ∙ ap (λ p. Some p) (sym q), omega (arith, q, t, here))

    node : IsNode W (DoneIn order (k + 1)) (After new (sits.Node (length old))) n
    node = record {
      there = omega (arith, here, grown);
      queue = own_point (λ p. p.queue ≡ (at W n).queue) P.queue;
      group = own_point (λ p. p.group ≡ W.first n) P.group;
      ins = λ c lt. own_point (λ p. bit p.ins c ≡ by.ins W (channel_at channels c) n) (P.ins c lt);
      outs = λ c lt. own_point (λ p. bit p.outs c ≡ by.outs W (channel_at channels c) n) (P.outs c lt);
      shows = λ c lt. own_point (λ p. bit p.shows c ≡ by.outs W (channel_at channels c) n) (P.shows c lt);
      met = own_point (λ p. WaitsFor (DoneIn order (k + 1)) (set before n (sits.Node (length old))) (meeting W.nodes (at W n).kind) p.met (place (set before n (sits.Node (length old))) n))
          (its_met (meeting W.nodes (at W n).kind) (point_at new (length old)).met (λ g e. (X.met g e, (met_sync W.nodes (at W n).kind g e).1)) P.met);
    }

    pub node_laid : IsLaid W (DoneIn order (k + 1)) (After new (sits.Node (length old)))
    node_laid = more new (sits.Node (length old)) (omega (arith, grown)) kept (record {
      seat = h;
      node = λ g. node;
      run = λ c. absurd (command_unsynced (at W n).kind c h);
      fits = λ c. absurd (command_unsynced (at W n).kind c h);
      all = λ p le lt. inl (h, omega (arith, le, lt, grown));
      from = λ p le lt. let e : length old ≡ p = omega (arith, le, lt, grown) in
          (subst (λ q. (point_at new q).queue ≡ (at W n).queue) e P.queue, subst (λ q. (point_at new q).group ≡ W.first n) e P.group, sync_unhosted (at W n).kind h);
      high = λ g. omega arith;
      behind = λ c. absurd (command_unsynced (at W n).kind c h);
    })

  -- A COMMAND THAT GOES ON

  module _ (c : is_command (at W n).kind ≡ true) (p m : ℕ) (follows : m + 1 ≡ n) (queue : (at W m).queue ≡ (at W n).queue) (is : seat_at before m ≡ sits.Run p) where
    done : DoneIn order k m
    done = X.before m (command_unhosted (at W n).kind c) (omega (arith, follows)) queue

    command : is_command (at W m).kind ≡ true
    command = subst (λ s. IsSeat (at W m).kind s) is (L.seat m done)

    placed : place before m ≡ p
    placed = ap place_of is

    pub run_laid : IsLaid W (DoneIn order (k + 1)) (After old (sits.Run p))
    run_laid = more old (sits.Run p) (omega arith) (λ q l. refl) (record {
      seat = c;
      node = λ g. absurd (command_unsynced (at W n).kind c g);
      run = λ g t lt. lays.site_from W D channels stages (DoneIn order k) (DoneIn order (k + 1)) n (done_more order k) (done_own order k) (done_cases order k) old old before (sits.Run p) X size (omega arith) (λ q l. refl) m t n queue (place_now (sits.Run p) ∙ sym placed) (L.run m done command t lt);
      fits = λ g. let f = L.fits m done command in omega (arith, f, placed);
      all = λ q le lt. absurd (omega (arith, le, lt));
      from = λ q le lt. absurd (omega (arith, le, lt));
      high = λ g. absurd (command_unsynced (at W n).kind c g);
      behind = λ g x d h q.
          let lt = X.after x d (sync_unhosted (at W x).kind h) q in
          let ne : x ≢ m = λ e. command_unsynced (at W m).kind command (subst (λ z. is_sync (at W z).kind ≡ true) e h) in
          let b = L.behind x m d done h command (q ∙ sym queue) (omega (arith, lt, ne, follows)) in
          omega (arith, b, placed);
    })

  -- A COMMAND WITH WHICH A RUN BEGINS

  module _ (c : is_command (at W n).kind ≡ true) (new : List Point) (S : WithSites channels stages (at W n).queue (W.first n) old new) where
    run : (p t : ℕ) → p ≡ length old + t → t < stages → IsRun W (After new (sits.Run (length old))) p
    run p t e lt = record {
      end = record {
        ins = λ i l. ap (λ q. bit (point_at new q).ins i) e ∙ (S.site t lt).ins i l;
        met = ap (λ q. (point_at new q).met) e ∙ (S.site t lt).met;
        shows = λ i l. ap (λ q. bit (point_at new q).shows i) e ∙ (S.site t lt).shows i l;
      };
      apart = λ x h g.
          let f = D.alone x n (command_alone (at W n).kind c) (sym g ∙ ap (λ q. (point_at new q).group) e ∙ (S.site t lt).group_is) in
          command_unsynced (at W n).kind c (subst (λ z. is_sync (at W z).kind ≡ true) f h);
    }

    begin : place (set before n (sits.Run (length old))) n ≡ length old
    begin = place_now (sits.Run (length old))

    site : (t : ℕ) → t < stages → IsSite W (After new (sits.Run (length old))) n t
    site t lt = record {
      there = let z = S.size in omega (arith, begin, z, lt);
      queue = ap (λ p. (point_at new p).queue) its ∙ (S.site t lt).queue_is;
      outs = λ i l. ap (λ p. bit (point_at new p).outs i) its ∙ (S.site t lt).outs i l;
      run = run (place (set before n (sits.Run (length old))) n + t) t its lt;
    }
      where
        its : place (set before n (sits.Run (length old))) n + t ≡ length old + t
        its = ap (λ p. p + t) begin

    pub sites_laid : IsLaid W (DoneIn order (k + 1)) (After new (sits.Run (length old)))
    sites_laid = more new (sits.Run (length old)) (let z = S.size in omega (arith, z)) S.kept (record {
      seat = c;
      node = λ g. absurd (command_unsynced (at W n).kind c g);
      run = λ g. site;
      fits = λ g. let z = S.size in omega (arith, z);
      all = λ p le lt. inr (run p (p - length old) (omega (arith, le)) (let z = S.size in omega (arith, z, le, lt)));
      from = λ p le lt.
          let z = S.size in
          let e : p ≡ length old + (p - length old) = omega (arith, le) in
          let t = S.site (p - length old) (omega (arith, z, le, lt)) in
          (ap (λ q. (point_at new q).queue) e ∙ t.queue_is, ap (λ q. (point_at new q).group) e ∙ t.group_is, command_unhosted (at W n).kind c);
      high = λ g. absurd (command_unsynced (at W n).kind c g);
      behind = λ g x d h q. (L.node x d h).there;
    })

  -- A HOST READ

  module _ (h : is_host (at W n).kind ≡ true) where
    pub host_laid : IsLaid W (DoneIn order (k + 1)) (After old sits.Host)
    host_laid = more old sits.Host (omega arith) (λ q l. refl) (record {
      seat = h;
      node = λ g. absurd (host_unsynced (at W n).kind h g);
      run = λ g. absurd (host_command (is_host (at W n).kind) h (command_unhosted (at W n).kind g));
      fits = λ g. absurd (host_command (is_host (at W n).kind) h (command_unhosted (at W n).kind g));
      all = λ q le lt. absurd (omega (arith, le, lt));
      from = λ q le lt. absurd (omega (arith, le, lt));
      high = λ g. absurd (host_unsynced (at W n).kind h g);
      behind = λ g. absurd (host_command (is_host (at W n).kind) h (command_unhosted (at W n).kind g));
    })

-- THE LINE

module _ (W : Joined) (order : List ℕ) (channels : List Channel) (stages k : ℕ) where
  pub laying : (line : Line) (points : List Point) (seated : List Seat) → line.points.items ≡ points → line.seats.items ≡ seated → length seated ≡ length W.nodes → length points ≤ 32 * k → IsLaid W (DoneIn order k) (record { line = points; seats = seated; channels = channels; stages = stages }) → IsLaying W order channels stages k line
  laying line points seated e f size room L = record {
    size = ap length f ∙ size;
    room = let g = ap length e in omega (arith, g, room);
    laid = subst (λ s. IsLaid W (DoneIn order k) (record { line = line.points.items; seats = s; channels = channels; stages = stages })) (sym f)
        (subst (λ p. IsLaid W (DoneIn order k) (record { line = p; seats = seated; channels = channels; stages = stages })) (sym e) L);
  }
