-- A device that takes all loads of a command when it begins and stores when it ends.
use Rattle.std.proofs.Common.{◌≡◌, ◌⊎◌, inl, inr, ℕ, ◌<◌, Bool, true, List, refl, sym, ap, ◌∙◌, subst, ⊎_elim}
use Rattle.std.proofs.lemmas.Bool.{cases_eq, cases_Bool, false≢true}
use Rattle.law_runs.proofs.Agreement.{found_in, values, stores_apart, read_held}
use Rattle.law_runs.proofs.Control.{Past, Touches, over_done, over_taken, of_entered, entered_ahead, up_done, not_meets, store_touches, sync_touches}
use Rattle.law_runs.proofs.Formed.{is_load_loads, long_no_load}
use Rattle.law_runs.proofs.Holds.{Holds, load_sees}
use Rattle.law_runs.proofs.Invariant.{Values, Finishes}
use Rattle.law_runs.proofs.Pieces.{not_undefined, pieces_taken, pieces_stored, pieces_synced}
use Rattle.law_runs.proofs.Progress.{FirstOpen, first_open}
use Rattle.law_runs.proofs.Simulation.{Basis, Keeps, moves_keeps, opened_keeps, stores_right, main_stays, basis, reads_loads}
use Rattle.law_runs.proofs.Steps.{put_other, put_here, finishes, store_holds, sync_holds}
use Rattle.law_runs.specs.Apart.{Order}
use Rattle.law_runs.specs.Device.{Device, fresh_device, Busy, DeviceLoadsUndefined, IsHit, did_begin, MayBegin, Begins, Ends, did_end, MaySynchronize, DeviceJunkedAt, Synchronizes, did_synchronize, DeviceGoes, begins, ends, synchronizes, History, opens, goes_on, moves_on, DeviceSimulated, DeviceGoesOn}
use Rattle.law_runs.specs.Formed.{Formed}
use Rattle.law_runs.specs.Laws.{Sound, AllDone}
use Rattle.device_cache.specs.Lines.{Lines, Bytes}
use Rattle.law_runs.specs.Orders.{Before}
use Rattle.law_runs.specs.Runs.{LoadsUndefined, JunkedAt, Stores, Syncs, Moves, writes_back, fills, drops}
use Rattle.law_runs.specs.States.{State, Owner, put, over, Entered, UnderWay, Meets}
use Rattle.law_runs.specs.Systems.{Access, System, At, Has, is_load, is_long}

-- what is begun is entered and has its loads, and what leaves into a done node has ended
pub record Begun (S : System) (d : Device) : Type 0 where
  pub within : (n : ℕ) → d.begun n ≡ true → n < S.count
  pub command : (n : ℕ) → d.begun n ≡ true → S.is_command n ≡ true
  pub entered : (n : ℕ) (a : Access) → d.begun n ≡ true → Has S n a → Entered S d.state n a
  pub taken : (n k : ℕ) → d.begun n ≡ true → d.state.taken n k ≡ true
  pub only : (n k : ℕ) → d.state.taken n k ≡ true → d.begun n ≡ true
  pub left : (v : ℕ) (a : Access) (x : ℕ) → Has S v a → S.is_command v ≡ true → S.leaves v a x ≡ true → d.state.done x ≡ true → d.state.done v ≡ true

module _ (S : System) (W : Values) (found : ℕ → ℕ → List ℕ) (G : Basis S W found) where
  F : Formed S
  F = G.formed

  module _ (d : Device) (K : Keeps S G.state_valid.first W found d.state) (B : Begun S d) where
    abbrev s : State
    s = d.state

    H : Holds S W found d.state
    H = K.holds

    P : Past S d.state
    P = K.holds.past

    way : (n v : ℕ) (b : Access) → Busy d n v → Has S v b → is_long b.doing ≡ true → UnderWay S d.state v b
    way n v b q h l = record { long = l; entered = B.entered v b q.begun h; fresh = q.fresh }

    -- what spoils on the device spoils single accesses as well
    spoils : (n : ℕ) (a : Access) → DeviceLoadsUndefined S d n a → LoadsUndefined S d.state n a
    spoils n a (inl q) = inl (record { node = q.0; access = q.1; has = q.3; other = q.2.other; way = way n q.0 q.1 q.2 q.3 q.4; overlaps = q.5 })
    spoils n a (inr q) = inr q

    hits : (n v : ℕ) (q : IsHit S d n v) → Meets S d.state n q.0 v q.1
    hits n v q = record { mine = q.3; theirs = q.4; other = λ e. q.2.other (sym e); clash = q.6; way = way n v q.1 q.2 q.4 q.5 }

    sane : (n : ℕ) (a : Access) → Touches S d.state n a → DeviceLoadsUndefined S d n a → ⊥
    sane n a t q = not_undefined S F G.synchronized G.state_valid d.state P K.pieces n a t (spoils n a q)

    -- BEGIN

    module _ (n : ℕ) (loaded : ℕ → List ℕ) (marked : ℕ → ℕ → Bool) (owner : ℕ → Owner) (E : Begins S d n loaded marked owner) where
      M : MayBegin S d n
      M = E.may

      was : d.state.done n ≡ true → ⊥
      was e = false≢true (sym M.fresh ∙ e)

      touch : (a : Access) → Has S n a → Touches S d.state n a
      touch a h = of_entered S F d.state P n a h M.command was hidden (M.entered a h)
        where
          hidden : over d.state n h.0 a ≡ true → ⊥
          hidden o = ⊎_elim
              (λ e. false≢true (sym M.idle ∙ B.only n h.0 (sym (over_taken d.state n h.0 a e) ∙ o)))
              (λ e. was (sym (over_done d.state n h.0 a e) ∙ o))
              (cases_Bool (is_load a.doing))

      new : State
      new = (did_begin d n loaded marked owner).state

      same_over : (x j : ℕ) (c : Access) → (x ≡ n → ⊥) → over (did_begin d n loaded marked owner).state x j c ≡ over d.state x j c
      same_over x j c ne = ⊎_elim
          (λ e. over_taken (did_begin d n loaded marked owner).state x j c e ∙ ap (λ f. f j) (put_other d.state.taken n x (λ k. true) ne) ∙ sym (over_taken d.state x j c e))
          (λ e. over_done (did_begin d n loaded marked owner).state x j c e ∙ sym (over_done d.state x j c e))
          (cases_Bool (is_load c.doing))

      more_over : (x j : ℕ) (c : Access) → over d.state x j c ≡ true → over (did_begin d n loaded marked owner).state x j c ≡ true
      more_over x j c o = ⊎_elim
          (λ e. ⊎_elim
          (λ l. over_taken (did_begin d n loaded marked owner).state x j c l ∙ ap (λ f. f j) (put_here d.state.taken n x (λ k. true) e))
          (λ l. over_done (did_begin d n loaded marked owner).state x j c l ∙ sym (over_done d.state x j c l) ∙ o)
          (cases_Bool (is_load c.doing)))
          (λ ne. same_over x j c ne ∙ o)
          (cases_eq x n)

      gets : (k : ℕ) (a : Access) → At S n k a → is_load a.doing ≡ true → loaded k ≡ found n a.piece
      gets k a at l = ⊎_elim
          (λ q. absurd (sane n a (touch a (k, at)) q))
          (λ e. e ∙ load_sees S F G.synchronized G.rank G.ranked W found G.agrees d.state H n a (touch a (k, at)) (is_load_loads a.doing l) M.command l (G.initialized n a (k, at) (is_load_loads a.doing l)))
          (E.bytes_are k a at l)

      unmarked : (v j : ℕ) → marked v j ≡ true → ⊥
      unmarked v j m = go (E.marks v j m)
        where
          meets : (w : ℕ) (b a : Access) → Busy d n w → (h : Has S n b) → is_long b.doing ≡ true → Has S w a → Before S n b w a ⊎ Before S w a n b → ⊥
          meets w b a q hb l ha (inl p) = was (sym (over_done d.state n hb.0 b (long_no_load b.doing l)) ∙ entered_ahead S F d.state P n hb.0 w b a hb.1 (B.entered w a q.begun ha) p)
          meets w b a q hb l ha (inr p) = false≢true (sym q.fresh ∙ B.left w a p.x ha (B.command w q.begun) p.leaves (up_done S F d.state P p.x p.y p.leads (M.entered b hb p.y p.enters)))

          go : (d.state.marked v j ≡ true) ⊎ (IsHit S d n v ⊎ ((w : ℕ) × (b : Access) × (a : Access) × Busy d n w × Has S n b × (is_long b.doing ≡ true) × Has S w a × (S.clash b a ≡ true))) → ⊥
          go (inl e) = H.unmarked v j e
          go (inr (inl q)) = not_meets S F d.state P G.synchronized n q.0 (touch q.0 q.3) v q.1 (hits n v q)
          go (inr (inr q)) = meets q.0 q.1 q.2 q.3 q.4 q.5 q.6 (G.synchronized.ordered n q.0 q.1 q.2 q.4 q.6 (λ e. q.3.other (sym e)) q.7)

      begin_holds : Holds S W found (did_begin d n loaded marked owner).state
      begin_holds = record {
        past = record {
          entered = λ x j c at cl o. ⊎_elim (λ e. subst (λ z. Entered S d.state z c) (sym e) (M.entered c (j, subst (λ z. At S z j c) e at))) (λ ne. P.entered x j c at cl (sym (same_over x j c ne) ∙ o)) (cases_eq x n);
          edges = P.edges;
          left = λ v j c x at cl l f. more_over v j c (P.left v j c x at cl l f);
          stored = λ x j a at l f. ⊎_elim (λ e. ap (λ z. z j) (put_here d.state.taken n x (λ k. true) e)) (λ ne. ap (λ z. z j) (put_other d.state.taken n x (λ k. true) ne) ∙ P.stored x j a at l f) (cases_eq x n);
        };
        bytes = H.bytes;
        loaded = λ x j a at l f. ⊎_elim
            (λ e. ap (λ z. z j) (put_here d.state.loaded n x loaded e) ∙ gets j a (subst (λ z. At S z j a) e at) l ∙ ap (λ z. found z a.piece) (sym e))
            (λ ne. ap (λ z. z j) (put_other d.state.loaded n x loaded ne) ∙ H.loaded x j a at l (ap (λ z. z j) (sym (put_other d.state.taken n x (λ k. true) ne)) ∙ f))
            (cases_eq x n);
        unmarked = unmarked;
        hosts = H.hosts;
      }

      pub begin_keeps : Keeps S G.state_valid.first W found (did_begin d n loaded marked owner).state
      begin_keeps = record {
        holds = begin_holds;
        pieces = pieces_taken S F G.synchronized G.state_valid d.state P K.pieces n (λ a. Unit {0}) (λ a h u. touch a h) owner E.takes;
      }

      pub begin_begun : Begun S (did_begin d n loaded marked owner)
      begin_begun = record {
        within = λ x h. ⊎_elim (λ e. subst (λ z. z < S.count) (sym e) M.within) (λ ne. B.within x (sym (put_other d.begun n x true ne) ∙ h)) (cases_eq x n);
        command = λ x h. ⊎_elim (λ e. ap S.is_command e ∙ M.command) (λ ne. B.command x (sym (put_other d.begun n x true ne) ∙ h)) (cases_eq x n);
        entered = λ x a h q. ⊎_elim (λ e. subst (λ z. Entered S d.state z a) (sym e) (M.entered a (subst (λ z. Has S z a) e q))) (λ ne. B.entered x a (sym (put_other d.begun n x true ne) ∙ h) q) (cases_eq x n);
        taken = λ x k h. ⊎_elim (λ e. ap (λ z. z k) (put_here d.state.taken n x (λ k. true) e)) (λ ne. ap (λ z. z k) (put_other d.state.taken n x (λ k. true) ne) ∙ B.taken x k (sym (put_other d.begun n x true ne) ∙ h)) (cases_eq x n);
        only = λ x k h. ⊎_elim (λ e. put_here d.begun n x true e) (λ ne. put_other d.begun n x true ne ∙ B.only x k (ap (λ z. z k) (sym (put_other d.state.taken n x (λ k. true) ne)) ∙ h)) (cases_eq x n);
        left = B.left;
      }

    -- END

    pub stores_of : (n : ℕ) (bytes : ℕ → List ℕ) (line : Lines) → Ends S d n bytes line → Stores S d.state n bytes line d.state.marked d.state.owner
    stores_of n bytes line E = record {
      may = record { within = B.within n E.begun; command = B.command n E.begun; fresh = E.fresh; taken = λ k a at l. B.taken n k E.begun; entered = λ a h l. B.entered n a E.begun h };
      bytes_are = λ k c at st. ⊎_elim (λ e. inl (inl e)) (λ e. inr e) (E.bytes_are k c at st);
      mine = E.mine;
      others = E.others;
      marks = λ v j h. inl h;
      takes = λ p. inl refl;
    }

    module _ (n : ℕ) (bytes : ℕ → List ℕ) (line : Lines) (E : Ends S d n bytes line) where
      Z : Stores S d.state n bytes line d.state.marked d.state.owner
      Z = stores_of n bytes line E

      NE : Finishes d.state.done (put d.state.done n true) n
      NE = finishes d.state.done n (λ e. false≢true (sym E.fresh ∙ e))

      pub end_keeps : Keeps S G.state_valid.first W found (did_end d n line).state
      end_keeps = record {
        holds = store_holds S F G.synchronized G.rank G.ranked W found G.agrees d.state H n bytes line d.state.marked d.state.owner Z;
        pieces = pieces_stored S F G.synchronized G.state_valid d.state P K.pieces n (put d.state.done n true) NE Z.may.command (λ c. is_long c.doing ≡ true) (λ c h l. store_touches S F d.state P n c Z.may h l) d.state.owner Z.takes;
      }

      pub end_begun : Begun S (did_end d n line)
      end_begun = record {
        within = B.within;
        command = B.command;
        entered = λ x a h q y e. NE.stays y (B.entered x a h q y e);
        taken = B.taken;
        only = B.only;
        left = λ v a x h cl l f. NE.stays v (B.left v a x h cl l (done_x x v a l (NE.grows x f)));
      }
        where
          done_x : (x v : ℕ) (a : Access) → S.leaves v a x ≡ true → (x ≡ n) ⊎ (d.state.done x ≡ true) → d.state.done x ≡ true
          done_x x v a l (inr q) = q
          done_x x v a l (inl e) = absurd (false≢true (sym (F.leaves_to v a x l) ∙ ap S.is_command e ∙ Z.may.command))

    -- A SYNCHRONIZING NODE

    module _ (n : ℕ) (main : Bytes) (read : List ℕ) (marked : ℕ → ℕ → Bool) (layout : ℕ → ℕ) (owner : ℕ → Owner) (E : Synchronizes S d n main read marked layout owner) where
      Q : MaySynchronize S d n
      Q = E.may

      Y : Syncs S d.state n main read marked layout owner
      Y = record {
        may = record {
          within = Q.within;
          sync = Q.sync;
          fresh = Q.fresh;
          left = λ v k a at cl l. ⊎_elim (λ e. over_taken d.state v k a e ∙ P.stored v k a at e (Q.left v a (k, at) cl l)) (λ e. over_done d.state v k a e ∙ Q.left v a (k, at) cl l) (cases_Bool (is_load a.doing));
          edges = Q.edges;
        };
        flushed = E.flushed;
        flush = E.flush;
        main_is = λ m i. ⊎_elim (λ e. inl e) (λ j. inr (junked m i j)) (E.main_is m i);
        read_is = λ a h r. ⊎_elim (λ q. inl (spoils n a q)) (λ e. inr e) (E.read_is a h r);
        marks = λ v j h. ⊎_elim (λ e. inl e) (λ q. inr (q.0, q.1, tt, hits n v q)) (E.marks v j h);
        lays = E.lays;
        hands = E.hands;
      }
        where
          junked : (m i : ℕ) → DeviceJunkedAt S d n m i → JunkedAt S d.state n m i
          junked m i j = record { access = j.access; has = j.has; changes = j.changes; covered = j.covered; why = ⊎_elim (λ e. inl e) (λ q. inr (spoils n j.access q)) j.why }

      NS : Finishes d.state.done (put d.state.done n true) n
      NS = finishes d.state.done n (λ e. false≢true (sym Q.fresh ∙ e))

      pub synchronize_keeps : Keeps S G.state_valid.first W found (did_synchronize S d n main read marked layout owner).state
      synchronize_keeps = record {
        holds = sync_holds S F G.synchronized G.rank G.ranked W found G.agrees d.state H n main read marked layout owner Y (λ a t e q. not_undefined S F G.synchronized G.state_valid d.state P K.pieces n a t q) (λ a h l. G.initialized n a h l);
        pieces = pieces_synced S F G.synchronized G.state_valid d.state P K.pieces n (put d.state.done n true) NS G.rank G.ranked (λ a h. sync_touches S F d.state P n Y.may a h) layout owner Y.lays Y.hands;
      }

      pub synchronize_begun : Begun S (did_synchronize S d n main read marked layout owner)
      synchronize_begun = record {
        within = B.within;
        command = B.command;
        entered = λ x a h q y e. NS.stays y (B.entered x a h q y e);
        taken = B.taken;
        only = B.only;
        left = λ v a x h cl l f. NS.stays v (⊎_elim (λ e. Q.left v a h cl (subst (λ z. S.leaves v a z ≡ true) e l)) (λ q. B.left v a x h cl l q) (NS.grows x f));
      }

  -- HISTORIES

  pub record DeviceKeeps (d : Device) : Type 0 where
    pub keeps : Keeps S G.state_valid.first W found d.state
    pub begun : Begun S d

  goes_keeps : (d e : Device) → DeviceGoes S d e → DeviceKeeps d → DeviceKeeps e
  goes_keeps d e (begins _ n loaded marked owner E) K = record { keeps = begin_keeps d K.keeps K.begun n loaded marked owner E; begun = begin_begun d K.keeps K.begun n loaded marked owner E }
  goes_keeps d e (ends _ n bytes line E) K = record { keeps = end_keeps d K.keeps K.begun n bytes line E; begun = end_begun d K.keeps K.begun n bytes line E }
  goes_keeps d e (synchronizes _ n main read marked layout owner E) K = record { keeps = synchronize_keeps d K.keeps K.begun n main read marked layout owner E; begun = synchronize_begun d K.keeps K.begun n main read marked layout owner E }

  moves_begun : (s t : State) (begun : ℕ → Bool) → Moves s t → Begun S (record { state = s; begun = begun }) → Begun S (record { state = t; begun = begun })
  moves_begun s t begun (writes_back _ agent range) B = record { within = B.within; command = B.command; entered = B.entered; taken = B.taken; only = B.only; left = B.left }
  moves_begun s t begun (fills _ agent range) B = record { within = B.within; command = B.command; entered = B.entered; taken = B.taken; only = B.only; left = B.left }
  moves_begun s t begun (drops _ agent range) B = record { within = B.within; command = B.command; entered = B.entered; taken = B.taken; only = B.only; left = B.left }

  pub history_keeps : (d e : Device) → History S d e → DeviceKeeps d → DeviceKeeps e
  history_keeps d e opens K = K
  history_keeps d e (goes_on {e = f} h g) K = goes_keeps f e g (history_keeps d f h K)
  history_keeps d e (moves_on {e = f} {t = t} h m) K = record { keeps = moves_keeps S W found G f.state t m (history_keeps d f h K).keeps; begun = moves_begun f.state t f.begun m (history_keeps d f h K).begun }

  pub fresh_keeps : DeviceKeeps (fresh_device S W.start)
  fresh_keeps = record {
    keeps = opened_keeps S W found G;
    begun = record {
      within = λ n h. absurd (false≢true h);
      command = λ n h. absurd (false≢true h);
      entered = λ n a h. absurd (false≢true h);
      taken = λ n k h. absurd (false≢true h);
      only = λ n k h. absurd (false≢true h);
      left = λ v a x h cl l f. absurd (false≢true f);
    };
  }

-- A SOUND PROGRAM

module _ (S : System) (F : Formed S) (X : Sound S) (order : List ℕ) (O : Order S order) (main : Bytes) where
  abbrev W : Values
  W = values S F X.synchronized order O main

  abbrev found : ℕ → ℕ → List ℕ
  found = found_in S F X.synchronized order O main

  pub device_keeps : (d : Device) → History S (fresh_device S main) d → DeviceKeeps S (values S F X.synchronized order O main) (found_in S F X.synchronized order O main) (basis S F X order O main) d
  device_keeps d h = history_keeps S (values S F X.synchronized order O main) (found_in S F X.synchronized order O main) (basis S F X order O main) (fresh_device S main) d h (fresh_keeps S (values S F X.synchronized order O main) (found_in S F X.synchronized order O main) (basis S F X order O main))

  pub device_simulated : (d : Device) → History S (fresh_device S main) d → DeviceSimulated S main order d
  device_simulated d h = record {
    loaded = λ n k a at l b. H.loaded n k a at l (K.begun.taken n k b);
    unmarked = H.unmarked;
    stored = λ n bytes line E k c at st.
        stores_right S W found (basis S F X order O main) d.state H n bytes line d.state.marked d.state.owner (stores_of S W found (basis S F X order O main) d K.keeps K.begun n bytes line E) k c at st
        ∙ stores_apart S F X.synchronized order O main n k c (d.state.loaded n) at st (λ j a aj l. H.loaded n j a aj l (K.begun.taken n j E.begun));
    read = λ n a q r f. H.hosts n a q r f ∙ sym (read_held S F X.synchronized order O main n a q r);
    stays = λ n a q r f. main_stays S W found (basis S F X order O main) d.state H n a q r f (X.initialized n a q (reads_loads a.doing r)) ∙ sym (read_held S F X.synchronized order O main n a q r);
  }
    where
      K : DeviceKeeps S (values S F X.synchronized order O main) (found_in S F X.synchronized order O main) (basis S F X order O main) d
      K = device_keeps d h

      H : Holds S (values S F X.synchronized order O main) (found_in S F X.synchronized order O main) d.state
      H = K.keeps.holds

-- IT CAN GO ON

pub device_progressed : (S : System) (F : Formed S) (X : Sound S) (main : Bytes) (d : Device) → History S (fresh_device S main) d → AllDone S d.state ⊎ DeviceGoesOn S d
device_progressed S F X main d h = go (first_open d.state.done X.order)
  where
    O : Order S X.order
    O = X.ordered

    go : FirstOpen d.state.done X.order → AllDone S d.state ⊎ DeviceGoesOn S d
    go (inl f) = inl (λ n lt. f n (O.all n lt))
    go (inr t) = inr (
      n,
      ⊎_elim
          (λ cl. ⊎_elim (λ b. inr (inl (b, t.2))) (λ b. inl (record { within = O.only n t.1; command = cl; idle = b; fresh = t.2; entered = λ a q y e. t.3 y (O.enters y n a cl e) })) (cases_Bool (d.begun n)))
          (λ sl. inr (inr (record { within = O.only n t.1; sync = sl; fresh = t.2; left = λ v a q cl l. t.3 v (O.leaves v a n cl l); edges = λ x e. t.3 x (O.edges x n e) })))
          (cases_Bool (S.is_command n)),
    )
      where
        n : ℕ
        n = t.0
