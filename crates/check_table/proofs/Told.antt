-- What the table's points tell of nodes.
use Rattle.std.proofs.Common.{◌≡◌, ◌↔◌, inl, inr, ℕ, ◌+◌, ◌<◌, Bool, true, false, Option, Some, None, length, refl, sym, ap, ◌∙◌, subst, ⊎_elim, arith}
use Rattle.base.proofs.Booleans.{clash}
use Rattle.base_first.specs.Asked.{LeadsTo, LeadsOut}
use Rattle.base_first.specs.Points as points
use Rattle.base_first.specs.Points.{point_at, here, on}
use Rattle.check_order.specs.Edges.{is_sync}
use Rattle.check_access_order.specs.Edges.{is_command}
use Rattle.check_table.specs.Channels.{channel_at}
use Rattle.check_table.specs.Internal.Asked.{IsSpot, NoSpot, LeadsFrom, EntersFrom}
use Rattle.check_table.specs.Joined.{Joined, Before, UpTo, EnteredFrom, InOrder, lets_in}
use Rattle.check_table.specs.Laid.{Laid, IsSeat, place, place_of, seat_at}
use Rattle.check_table.specs.Tables.{IsFilled, IsOrderTable, IsMade, laid_of}
use Rattle.check_table.specs.declared.asked.Spot.{Spot}
use Rattle.check_table.specs.declared.laying.Seat.{Seat}
use Rattle.check_table.specs.declared.laying.Seat.TheVariants as sits
use Rattle.check_table.specs.declared.table.OrderTable.{OrderTable}
use Rattle.check_table.proofs.Nodes.{at, waits, lets, before_to, three_kinds, command_unsynced, command_unhosted, host_unsynced}
use Rattle.check_table.proofs.Onto as onto
use Rattle.check_table.proofs.Ready as ready
use Rattle.check_table.proofs.Signals.{before_from}

never : {P : Type 0} → (P → ⊥) → (false ≡ true) ↔ P
never un = (λ e. absurd (clash e), λ p. absurd (un p))

module _ (W : Joined) (t : OrderTable) (F : IsFilled t) (O : IsOrderTable W t) where
  abbrev T : Laid
  T = laid_of t

  abbrev Up : ℕ → ℕ → Type 0
  Up k y = points.UpTo t.points.items (length t.channels.items) k y

  abbrev seat : ℕ → Seat
  seat n = seat_at t.seats.items n

  known : (p : ℕ) → p < length t.points.items → (point_at t.points.items p).queue < t.queues
  known p lt = F.lined.queue p lt

  node_of : (y q : ℕ) → seat y ≡ sits.Node q → is_sync (at W y).kind ≡ true
  node_of y q e = ready.seated W T O.dependencies O.covers O.laid O.count y q e

  seat_of : (x : ℕ) → is_sync (at W x).kind ≡ true → seat x ≡ sits.Node (place t.seats.items x)
  seat_of x s = ready.seat_of W T O.dependencies O.covers O.laid O.count x s

  there : (n : ℕ) → n < length t.seats.items → n < length W.nodes
  there n lt = let e = O.count in omega (arith, lt, e)

  its_seat : (n : ℕ) (s : Seat) → n < length t.seats.items → seat n ≡ s → IsSeat (at W n).kind s
  its_seat n s lt e = subst (λ k. IsSeat (at W n).kind k) e (O.laid.seat n (there n lt))

  -- FROM A POINT TO A NODE

  pub from_node : (b : Bool) (k y q : ℕ) → seat y ≡ sits.Node q → (b ≡ true) ↔ Up k q → (b ≡ true) ↔ LeadsFrom W t k y
  from_node b k y q e R = (
    λ h. inl (node_of y q e, subst (λ p. Up k p) (sym (ap place_of e)) (R.0 h)),
    λ l. ⊎_elim (λ u. R.1 (subst (λ p. Up k p) (ap place_of e) u.1)) (λ o. absurd (host_unsynced (at W y).kind o.0 (node_of y q e))) l,
  )

  pub from_host : (b : Bool) (k y : ℕ) → y < length t.seats.items → seat y ≡ sits.Host → (b ≡ true) ↔ LeadsOut t.points.items t.queues (length t.channels.items) k t.stages → (b ≡ true) ↔ LeadsFrom W t k y
  from_host b k y lt e R =
      let h = its_seat y sits.Host lt e in
      (λ g. inr (h, R.0 g), λ l. ⊎_elim (λ u. absurd (host_unsynced (at W y).kind h u.0)) (λ o. R.1 o.1) l)

  pub from_run : (k y q : ℕ) → y < length t.seats.items → seat y ≡ sits.Run q → (false ≡ true) ↔ LeadsFrom W t k y
  from_run k y q lt e =
      let c = its_seat y (sits.Run q) lt e in
      never (λ l. ⊎_elim (λ u. command_unsynced (at W y).kind c u.0) (λ o. clash (sym (command_unhosted (at W y).kind c) ∙ o.0)) l)

  -- BETWEEN NODES

  pub not_itself : (x y : ℕ) → x ≡ y → (false ≡ true) ↔ Before W x y
  not_itself x y e = never (λ b. onto.never_back W T O.dependencies O.covers O.laid x (subst (λ k. Before W x k) (sym e) b))

  pub no_node : (x y : ℕ) → ((p : ℕ) → seat x ≡ sits.Node p → ⊥) → (false ≡ true) ↔ Before W x y
  no_node x y un = never (λ b. un (place t.seats.items x) (seat_of x (before_from W x y b)))

  pub before : (b : Bool) (x y p : ℕ) → (x ≡ y → ⊥) → seat x ≡ sits.Node p → (b ≡ true) ↔ LeadsFrom W t p y → (b ≡ true) ↔ Before W x y
  before b x y p ne e R = (λ h. to (R.0 h), λ q. R.1 (from q))
    where
      s : is_sync (at W x).kind ≡ true
      s = node_of x p e

      is : place t.seats.items x ≡ p
      is = ap place_of e

      up_before : UpTo W x y → Before W x y
      up_before (inl q) = absurd (ne q)
      up_before (inr q) = q

      to : LeadsFrom W t p y → Before W x y
      to (inl (h, u)) = up_before ((onto.up_to W T O.dependencies O.covers O.laid x y s h).0 (subst (λ k. Up k (place t.seats.items y)) (sym is) u))
      to (inr (h, o)) = (onto.hosts W T O.dependencies O.covers O.laid t.queues known x y s h).0 (subst (λ k. LeadsOut t.points.items t.queues (length t.channels.items) k t.stages) (sym is) o)

      from : Before W x y → LeadsFrom W t p y
      from q = ⊎_elim
          (λ h. inl (h, subst (λ k. Up k (place t.seats.items y)) is ((onto.up_to W T O.dependencies O.covers O.laid x y s h).1 (inr q))))
          (λ r. ⊎_elim
          (λ h. inr (h, subst (λ k. LeadsOut t.points.items t.queues (length t.channels.items) k t.stages) is ((onto.hosts W T O.dependencies O.covers O.laid t.queues known x y s h).1 q)))
          (λ c. absurd (before_to W x y q c)) r)
          (three_kinds (at W y).kind)

  -- INTO A COMMAND

  command : (m s : ℕ) → m < length t.seats.items → IsMade W m (Some s) → onto.IsCommand W T O.dependencies O.covers O.laid m
  command m s lt M = (there m lt, M.1)

  run_of : (m : ℕ) → m < length t.seats.items → is_command (at W m).kind ≡ true → seat m ≡ sits.Run (place t.seats.items m)
  run_of m lt c = go (seat m) (O.laid.seat m (there m lt))
    where
      go : (s : Seat) → IsSeat (at W m).kind s → s ≡ sits.Run (place_of s)
      go (sits.Run p) h = refl
      go (sits.Node p) h = absurd (command_unsynced (at W m).kind c h)
      go sits.Host h = absurd (clash (sym (command_unhosted (at W m).kind c) ∙ h))

  pub enters : (b : Bool) (k m s : ℕ) (spot : Spot) → m < length t.seats.items → IsMade W m (Some s) → IsSpot t m s spot → (b ≡ true) ↔ LeadsTo t.points.items (length t.channels.items) k spot.column spot.run → (b ≡ true) ↔ EntersFrom W t k s m
  enters b k m s spot lt M S R = (
    λ h.
        let r = onto.enters W T O.dependencies O.covers O.laid k m spot.column (command m s lt M) S.there (subst (λ q. LeadsTo t.points.items (length t.channels.items) k spot.column q) (sym (ap place_of S.seat)) (R.0 h)) in
        record { y = r.y; sync = r.sync; up = r.up; lets = subst (λ z. lets_in W z r.y m ≡ true) S.its r.lets },
    λ E.
        R.1 (subst (λ q. LeadsTo t.points.items (length t.channels.items) k spot.column q) (ap place_of S.seat)
        (onto.lets_found W T O.dependencies O.covers O.laid k m spot.column E.y (command m s lt M) S.there E.up (subst (λ z. lets_in W z E.y m ≡ true) (sym S.its) E.lets))),
  )

  pub no_entry : (k m s : ℕ) → m < length t.seats.items → IsMade W m (Some s) → NoSpot t m s → (false ≡ true) ↔ EntersFrom W t k s m
  no_entry k m s lt M N = never (λ E.
      let l = lets W s E.y m E.lets in
      let c = O.covers.left E.y s M.0 l.sync l.role l.meet in
      N (place t.seats.items m) c.0 (run_of m lt M.1) c.1 c.2)

  pub entered : (b : Bool) (x m s p : ℕ) → seat x ≡ sits.Node p → (b ≡ true) ↔ EntersFrom W t p s m → (b ≡ true) ↔ EnteredFrom W x m (Some s)
  entered b x m s p e R = (
    λ h. let E = R.0 h in (E.y, (up E.y E.sync).0 (subst (λ k. Up k (place t.seats.items E.y)) (sym is) E.up), E.lets),
    λ h. let l = lets W s h.0 m h.2 in R.1 (record { y = h.0; sync = l.sync; up = subst (λ k. Up k (place t.seats.items h.0)) is ((up h.0 l.sync).1 h.1); lets = h.2 }),
  )
    where
      is : place t.seats.items x ≡ p
      is = ap place_of e

      up : (y : ℕ) → is_sync (at W y).kind ≡ true → Up (place t.seats.items x) (place t.seats.items y) ↔ UpTo W x y
      up y h = onto.up_to W T O.dependencies O.covers O.laid x y (node_of x p e) h

  pub not_entered : (x m s : ℕ) → ((p : ℕ) → seat x ≡ sits.Node p → ⊥) → (false ≡ true) ↔ EnteredFrom W x m (Some s)
  not_entered x m s un = never (λ h. go h.0 h.1 (lets W s h.0 m h.2).sync)
    where
      go : (y : ℕ) → UpTo W x y → is_sync (at W y).kind ≡ true → ⊥
      go y (inl e) h = un (place t.seats.items x) (seat_of x (subst (λ k. is_sync (at W k).kind ≡ true) (sym e) h))
      go y (inr b) h = un (place t.seats.items x) (seat_of x (before_from W x y b))

  pub up_to_in : (b : Bool) (x m : ℕ) → (b ≡ true) ↔ UpTo W x m → (b ≡ true) ↔ EnteredFrom W x m None
  up_to_in b x m R = (λ h. (m, R.0 h, refl), λ h. R.1 (subst (λ k. UpTo W x k) h.2 h.1))

  -- FROM A COMMAND

  pub into : (b : Bool) (n y s : ℕ) (spot : Spot) → n < length t.seats.items → IsMade W n (Some s) → IsSpot t n s spot → (b ≡ true) ↔ LeadsFrom W t (spot.run + spot.column) y → (b ≡ true) ↔ InOrder W n (Some s) y None
  into b n y s spot lt M S R = (λ h. subst (λ z. InOrder W n (Some z) y None) S.its (to (R.0 h)), λ i. R.1 (from (subst (λ z. InOrder W n (Some z) y None) (sym S.its) i)))
    where
      is : place t.seats.items n + spot.column ≡ spot.run + spot.column
      is = ap (λ p. p + spot.column) (ap place_of S.seat)

      to : LeadsFrom W t (spot.run + spot.column) y → InOrder W n (Some (channel_at t.channels.items spot.column).stage.0) y None
      to (inl (h, u)) = (onto.into W T O.dependencies O.covers O.laid n spot.column y (command n s lt M) S.there h).0 (subst (λ k. Up k (place t.seats.items y)) (sym is) u)
      to (inr (h, o)) = (onto.leaves_out W T O.dependencies O.covers O.laid t.queues known n spot.column y (command n s lt M) S.there h).0 (subst (λ k. LeadsOut t.points.items t.queues (length t.channels.items) k t.stages) (sym is) o)

      no_command : (x : ℕ) → is_sync (at W x).kind ≡ true → UpTo W x y → is_command (at W y).kind ≡ true → ⊥
      no_command x g (inl e) c = command_unsynced (at W y).kind c (subst (λ k. is_sync (at W k).kind ≡ true) e g)
      no_command x g (inr b) c = before_to W x y b c

      from : InOrder W n (Some (channel_at t.channels.items spot.column).stage.0) y None → LeadsFrom W t (spot.run + spot.column) y
      from i = ⊎_elim
          (λ h. inl (h, subst (λ k. Up k (place t.seats.items y)) is ((onto.into W T O.dependencies O.covers O.laid n spot.column y (command n s lt M) S.there h).1 i)))
          (λ r. ⊎_elim
          (λ h. inr (h, subst (λ k. LeadsOut t.points.items t.queues (length t.channels.items) k t.stages) is ((onto.leaves_out W T O.dependencies O.covers O.laid t.queues known n spot.column y (command n s lt M) S.there h).1 i)))
          (λ c. absurd (no_command i.0 (waits W (channel_at t.channels.items spot.column).stage.0 n i.0 i.1).sync (subst (λ k. UpTo W i.0 k) i.2.2 i.2.1) c)) r)
          (three_kinds (at W y).kind)

  pub ordered : (b : Bool) (n m s o : ℕ) (spot : Spot) → n < length t.seats.items → IsMade W n (Some s) → IsSpot t n s spot → (b ≡ true) ↔ EntersFrom W t (spot.run + spot.column) o m → (b ≡ true) ↔ InOrder W n (Some s) m (Some o)
  ordered b n m s o spot lt M S R = (
    λ h.
        let E = R.0 h in
        let i = subst (λ z. InOrder W n (Some z) E.y None) S.its ((onto.into W T O.dependencies O.covers O.laid n spot.column E.y (command n s lt M) S.there E.sync).0 (subst (λ k. Up k (place t.seats.items E.y)) (sym is) E.up)) in
        (i.0, i.1, (E.y, subst (λ k. UpTo W i.0 k) i.2.2 i.2.1, E.lets)),
    λ h.
        let l = lets W o h.2.0 m h.2.2 in
        R.1 (record {
          y = h.2.0;
          sync = l.sync;
          up = subst (λ k. Up k (place t.seats.items h.2.0)) is ((onto.into W T O.dependencies O.covers O.laid n spot.column h.2.0 (command n s lt M) S.there l.sync).1 (subst (λ z. InOrder W n (Some z) h.2.0 None) (sym S.its) (h.0, h.1, (h.2.0, h.2.1, refl))));
          lets = h.2.2;
        }),
  )
    where
      is : place t.seats.items n + spot.column ≡ spot.run + spot.column
      is = ap (λ p. p + spot.column) (ap place_of S.seat)

  pub not_left : (n m s : ℕ) (o : Option ℕ) → n < length t.seats.items → IsMade W n (Some s) → NoSpot t n s → (false ≡ true) ↔ InOrder W n (Some s) m o
  not_left n m s o lt M N = never (λ h.
      let w = waits W s n h.0 h.1 in
      let c = O.covers.entered h.0 s M.0 w.sync w.role w.meet in
      N (place t.seats.items n) c.0 (run_of n lt M.1) c.1 c.2)

  pub itself_in : (b : Bool) (n m : ℕ) (o : Option ℕ) → (b ≡ true) ↔ EnteredFrom W n m o → (b ≡ true) ↔ InOrder W n None m o
  itself_in b n m o R = (λ h. (n, refl, R.0 h), λ h. R.1 (subst (λ k. EnteredFrom W k m o) (sym h.1) h.2))
