-- One more node is given its seat.
use Rattle.std.proofs.Common.{◌≡◌, ◌≢◌, ◌⊎◌, inl, inr, ℕ, ◌+◌, ◌<◌, ◌≤◌, true, false, Option, Some, None, List, length, set, refl, sym, ap, ◌∙◌, subst, ⊎_elim, arith, get_or-set_same, get_or-set_other}
use Rattle.std.proofs.lemmas.Bool.{cases_lt}
use Rattle.base_first.specs.Asked.{IsEnd}
use Rattle.base_first.specs.Bits.{bit}
use Rattle.base_first.specs.Points.{point_at}
use Rattle.base_first.specs.declared.point.Point.{Point}
use Rattle.check_order.specs.Edges.{is_sync, is_host, meeting}
use Rattle.check_access_order.specs.Edges.{is_command}
use Rattle.check_table.specs.Channels as by
use Rattle.check_table.specs.Channels.{channel_at}
use Rattle.check_table.specs.Joined.{Joined, Dependencies}
use Rattle.check_table.specs.Laid.{Laid, IsLaid, IsNode, IsSite, IsRun, AreSites, IsSeat, WaitsFor, place, place_of, seat_at}
use Rattle.check_table.specs.declared.channel.Channel.{Channel}
use Rattle.check_table.specs.declared.laying.Seat.{Seat}
use Rattle.check_table.specs.declared.laying.Seat.TheVariants as sits
use Rattle.check_table.proofs.Nodes.{at, command_unhosted, sync_unhosted}
use Rattle.check_table.proofs.Turns.{IsNext}

-- the numbers of dependencies rise with nodes
pub first_rises : (W : Joined) → Dependencies W → (x y : ℕ) → x ≤ y → W.first x ≤ W.first y
first_rises W D x y le = ⊎_elim
    (λ (l : W.first y < W.first x).
    let low = D.low x in
    let s = D.between (W.first y) x y (omega (arith, l, low)) le (D.its y) in
    let i = D.its y in
    omega (arith, l, s, i))
    (λ (g : W.first x ≤ W.first y). g)
    (cases_lt (W.first y) (W.first x))

module _ (W : Joined) (D : Dependencies W) (channels : List Channel) (stages : ℕ) (Done Then : ℕ → Type 0) (n : ℕ)
    (more : (x : ℕ) → Done x → Then x) (own : Then n) (cases : (x : ℕ) → Then x → Done x ⊎ (x ≡ n))
    (old new : List Point) (before : List Seat) (s : Seat)
    (X : IsNext W.nodes Done n) (size : length before ≡ length W.nodes)
    (grown : length old ≤ length new) (kept : (p : ℕ) → p < length old → point_at new p ≡ point_at old p) where
  abbrev pub A : Laid
  A = record { line = old; seats = before; channels = channels; stages = stages }

  abbrev pub B : Laid
  B = record { line = new; seats = set before n s; channels = channels; stages = stages }

  abbrev later : List Seat
  later = set before n s

  other : (x : ℕ) → Done x → x ≢ n
  other x d e = X.fresh (subst Done e d)

  seat_other : (x : ℕ) → x ≢ n → seat_at later x ≡ seat_at before x
  seat_other x ne = get_or-set_other before n x s sits.Host ne

  pub seat_own : seat_at later n ≡ s
  seat_own = get_or-set_same before n s sits.Host (let t = X.there in omega (arith, t, size))

  pub place_other : (x : ℕ) → Done x → place later x ≡ place before x
  place_other x d = ap place_of (seat_other x (other x d))

  pub place_own : place later n ≡ place_of s
  place_own = ap place_of seat_own

  -- what is said of a place that was there before
  moved : (x : ℕ) (P : Point → Type 0) → Done x → place before x < length old → P (point_at old (place before x)) → P (point_at new (place later x))
  moved x P d lt h = subst P (sym (ap (λ p. point_at new p) (place_other x d) ∙ kept (place before x) lt)) h

  met_kept : (o met : Option ℕ) (p q : ℕ) → p ≡ q → WaitsFor Done before o met p → WaitsFor Then later o met q
  met_kept None met p q e w = w
  met_kept (Some g) met p q e w = let f = place_other g w.0 in (more g w.0, w.1 ∙ ap (λ k. Some k) (sym f), let l = w.2 in omega (arith, l, e, f))

  node_kept : (x : ℕ) → Done x → IsNode W Done A x → IsNode W Then B x
  node_kept x d N = record {
    there = let e = place_other x d in let t = N.there in omega (arith, e, t, grown);
    queue = moved x (λ p. p.queue ≡ (at W x).queue) d N.there N.queue;
    group = moved x (λ p. p.group ≡ W.first x) d N.there N.group;
    ins = λ c lt. moved x (λ p. bit p.ins c ≡ by.ins W (channel_at channels c) x) d N.there (N.ins c lt);
    outs = λ c lt. moved x (λ p. bit p.outs c ≡ by.outs W (channel_at channels c) x) d N.there (N.outs c lt);
    shows = λ c lt. moved x (λ p. bit p.shows c ≡ by.outs W (channel_at channels c) x) d N.there (N.shows c lt);
    met = moved x (λ p. WaitsFor Then later (meeting W.nodes (at W x).kind) p.met (place later x)) d N.there (met_kept (meeting W.nodes (at W x).kind) (point_at old (place before x)).met (place before x) (place later x) (sym (place_other x d)) N.met);
  }

  pub end_kept : (p : ℕ) → p < length old → IsEnd old (length channels) p → IsEnd new (length channels) p
  end_kept p lt e = record {
    ins = λ c l. ap (λ q. bit q.ins c) (kept p lt) ∙ e.ins c l;
    met = ap (λ q. q.met) (kept p lt) ∙ e.met;
    shows = λ c l. ap (λ q. bit q.shows c) (kept p lt) ∙ e.shows c l;
  }

  pub run_kept : (p : ℕ) → p < length old → IsRun W A p → IsRun W B p
  run_kept p lt r = record { end = end_kept p lt r.end; apart = λ x h e. r.apart x h (ap (λ q. q.group) (sym (kept p lt)) ∙ e) }

  -- the sites of another command, or of one that has its seat
  pub site_from : (m t : ℕ) (k : ℕ) → (at W m).queue ≡ (at W k).queue → place later k ≡ place before m → IsSite W A m t → IsSite W B k t
  site_from m t k same e S = record {
    there = let u = S.there in omega (arith, e, u, grown);
    queue = ap (λ p. p.queue) its ∙ S.queue ∙ same;
    outs = λ c lt. ap (λ p. bit p.outs c) its ∙ S.outs c lt;
    run = subst (λ p. IsRun W B p) (ap (λ p. p + t) (sym e)) (run_kept (place before m + t) S.there S.run);
  }
    where
      its : point_at new (place later k + t) ≡ point_at old (place before m + t)
      its = ap (λ p. point_at new (p + t)) e ∙ kept (place before m + t) S.there

  -- what is new is said of node n alone
  pub record IsGiven : Type 0 where
    pub seat : IsSeat (at W n).kind s
    pub node : is_sync (at W n).kind ≡ true → IsNode W Then B n
    pub run : is_command (at W n).kind ≡ true → AreSites W B n
    pub fits : is_command (at W n).kind ≡ true → place_of s + stages ≤ length new
    pub all : (p : ℕ) → length old ≤ p → p < length new → ((is_sync (at W n).kind ≡ true) × (place_of s ≡ p)) ⊎ IsRun W B p
    pub from : (p : ℕ) → length old ≤ p → p < length new → ((point_at new p).queue ≡ (at W n).queue) × ((point_at new p).group ≡ W.first n) × (is_host (at W n).kind ≡ false)
    pub high : is_sync (at W n).kind ≡ true → length old ≤ place_of s
    pub behind : is_command (at W n).kind ≡ true → (x : ℕ) → Done x → is_sync (at W x).kind ≡ true → (at W x).queue ≡ (at W n).queue → place before x < place_of s

  module _ (L : IsLaid W Done A) (G : IsGiven) where
    by_cases : (x : ℕ) (P : ℕ → Type 0) → Then x → (Done x → P x) → P n → P x
    by_cases x P t a b = ⊎_elim a (λ e. subst P (sym e) b) (cases x t)

    seat : (x : ℕ) → Then x → IsSeat (at W x).kind (seat_at later x)
    seat x t = by_cases x (λ x. IsSeat (at W x).kind (seat_at later x)) t
        (λ d. subst (λ k. IsSeat (at W x).kind k) (sym (seat_other x (other x d))) (L.seat x d))
        (subst (λ k. IsSeat (at W n).kind k) (sym seat_own) G.seat)

    node : (x : ℕ) → Then x → is_sync (at W x).kind ≡ true → IsNode W Then B x
    node x t = by_cases x (λ x. is_sync (at W x).kind ≡ true → IsNode W Then B x) t (λ d h. node_kept x d (L.node x d h)) G.node

    run : (m : ℕ) → Then m → is_command (at W m).kind ≡ true → AreSites W B m
    run m t = by_cases m (λ m. is_command (at W m).kind ≡ true → AreSites W B m) t
        (λ d h u lt. site_from m u m refl (place_other m d) (L.run m d h u lt)) G.run

    fits : (m : ℕ) → Then m → is_command (at W m).kind ≡ true → place later m + stages ≤ length new
    fits m t = by_cases m (λ m. is_command (at W m).kind ≡ true → place later m + stages ≤ length new) t
        (λ d h. let f = L.fits m d h in let e = place_other m d in omega (arith, f, e, grown))
        (λ h. let f = G.fits h in let e = place_own in omega (arith, f, e))

    all : (p : ℕ) → p < length new → ((x : ℕ) × Then x × (is_sync (at W x).kind ≡ true) × (place later x ≡ p)) ⊎ IsRun W B p
    all p lt = ⊎_elim
        (λ (l : p < length old). ⊎_elim (λ r. inl (r.0, more r.0 r.1, r.2, place_other r.0 r.1 ∙ r.3)) (λ e. inr (run_kept p l e)) (L.all p l))
        (λ (g : length old ≤ p). ⊎_elim (λ r. inl (n, own, r.0, place_own ∙ r.1)) (λ e. inr e) (G.all p g lt))
        (cases_lt p (length old))

    from : (p : ℕ) → p < length new → (x : ℕ) × Then x × ((point_at new p).queue ≡ (at W x).queue) × ((point_at new p).group ≡ W.first x) × (is_host (at W x).kind ≡ false)
    from p lt = ⊎_elim
        (λ (l : p < length old). let r = L.from p l in (r.0, more r.0 r.1, ap (λ q. q.queue) (kept p l) ∙ r.2, ap (λ q. q.group) (kept p l) ∙ r.3, r.4))
        (λ (g : length old ≤ p). let r = G.from p g lt in (n, own, r.0, r.1, r.2))
        (cases_lt p (length old))

    rising : (p q : ℕ) → p < q → q < length new → (point_at new p).queue ≡ (point_at new q).queue → (point_at new p).group ≤ (point_at new q).group
    rising p q lt within same = ⊎_elim
        (λ (l : q < length old).
        let a = kept q l in
        let b = kept p (omega (arith, lt, l)) in
        let r = L.rising p q lt l (sym (ap (λ k. k.queue) b) ∙ same ∙ ap (λ k. k.queue) a) in
        let u = ap (λ k. k.group) a in
        let v = ap (λ k. k.group) b in
        omega (arith, r, u, v))
        (λ (g : length old ≤ q).
        let f = G.from q g within in
        ⊎_elim
        (λ (l : p < length old).
        let r = L.from p l in
        let b = kept p l in
        let early = X.after r.0 r.1 r.4 (sym r.2 ∙ sym (ap (λ k. k.queue) b) ∙ same ∙ f.0) in
        let u = first_rises W D r.0 n (omega (arith, early)) in
        let v = ap (λ k. k.group) b ∙ r.3 in
        let w = f.1 in
        omega (arith, u, v, w))
        (λ (h : length old ≤ p).
        let e = G.from p h (omega (arith, lt, within)) in
        let v = e.1 in
        let w = f.1 in
        omega (arith, v, w))
        (cases_lt p (length old)))
        (cases_lt q (length old))

    early : (x : ℕ) → Done x → is_host (at W x).kind ≡ false → (at W x).queue ≡ (at W n).queue → n < x → ⊥
    early x d h q lt = let a = X.after x d h q in omega (arith, a, lt)

    turn : (x y : ℕ) → Then x → Then y → is_sync (at W x).kind ≡ true → is_sync (at W y).kind ≡ true → (at W x).queue ≡ (at W y).queue → x < y → place later x < place later y
    turn x y a b h g q lt = go (cases x a) (cases y b)
      where
        go : Done x ⊎ (x ≡ n) → Done y ⊎ (y ≡ n) → place later x < place later y
        go (inl d) (inl e) = let r = L.turn x y d e h g q lt in let u = place_other x d in let v = place_other y e in omega (arith, r, u, v)
        go (inl d) (inr e) =
            let r = (L.node x d h).there in
            let u = place_other x d in
            let v = ap (λ k. place later k) e ∙ place_own in
            let w = G.high (subst (λ k. is_sync (at W k).kind ≡ true) e g) in
            omega (arith, r, u, v, w)
        go (inr d) (inl e) = absurd (early y e (sync_unhosted (at W y).kind g) (sym q ∙ ap (λ k. (at W k).queue) d) (omega (arith, d, lt)))
        go (inr d) (inr e) = absurd (omega (arith, d, e, lt))

    behind : (x m : ℕ) → Then x → Then m → is_sync (at W x).kind ≡ true → is_command (at W m).kind ≡ true → (at W x).queue ≡ (at W m).queue → x < m → place later x < place later m
    behind x m a b h g q lt = go (cases x a) (cases m b)
      where
        go : Done x ⊎ (x ≡ n) → Done m ⊎ (m ≡ n) → place later x < place later m
        go (inl d) (inl e) = let r = L.behind x m d e h g q lt in let u = place_other x d in let v = place_other m e in omega (arith, r, u, v)
        go (inl d) (inr e) =
            let r = G.behind (subst (λ k. is_command (at W k).kind ≡ true) e g) x d h (q ∙ ap (λ k. (at W k).queue) e) in
            let u = place_other x d in
            let v = ap (λ k. place later k) e ∙ place_own in
            omega (arith, r, u, v)
        go (inr d) (inl e) = absurd (early m e (command_unhosted (at W m).kind g) (sym q ∙ ap (λ k. (at W k).queue) d) (omega (arith, d, lt)))
        go (inr d) (inr e) = absurd (omega (arith, d, e, lt))

    ahead : (x m : ℕ) → Then x → Then m → is_sync (at W x).kind ≡ true → is_command (at W m).kind ≡ true → (at W x).queue ≡ (at W m).queue → m < x → place later m + stages ≤ place later x
    ahead x m a b h g q lt = go (cases x a) (cases m b)
      where
        go : Done x ⊎ (x ≡ n) → Done m ⊎ (m ≡ n) → place later m + stages ≤ place later x
        go (inl d) (inl e) = let r = L.ahead x m d e h g q lt in let u = place_other x d in let v = place_other m e in omega (arith, r, u, v)
        go (inl d) (inr e) = absurd (early x d (sync_unhosted (at W x).kind h) (q ∙ ap (λ k. (at W k).queue) e) (omega (arith, e, lt)))
        go (inr d) (inl e) =
            let r = L.fits m e g in
            let u = place_other m e in
            let v = ap (λ k. place later k) d ∙ place_own in
            let w = G.high (subst (λ k. is_sync (at W k).kind ≡ true) d h) in
            omega (arith, r, u, v, w)
        go (inr d) (inr e) = absurd (omega (arith, d, e, lt))

    pub laid_on : IsLaid W Then B
    laid_on = record {
      seat = seat;
      node = node;
      run = run;
      fits = fits;
      all = all;
      from = from;
      rising = rising;
      turn = turn;
      behind = behind;
      ahead = ahead;
    }
