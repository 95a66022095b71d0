-- Whatever events come, loads, stores and reads are those of commands that run one after another.
use Rattle.std.proofs.Common.{◌≡◌, ◌≢◌, ◌⊎◌, inl, inr, ℕ, Bool, true, false, Option, List, refl, sym, ap, ◌∙◌, subst, ⊎_elim}
use Rattle.std.proofs.lemmas.Bool.{cases_Bool, false≢true}
use Rattle.law_runs.proofs.Control.{Touches, not_meets, load_touches, store_touches, sync_touches, over_before, over_done, up_done}
use Rattle.law_runs.proofs.Formed.{Ranked, change_no_load, load_plain, stores_changes, store_long, none_later, is_load_loads}
use Rattle.law_runs.specs.Formed.{Formed}
use Rattle.law_runs.specs.Found.{Initializes, InitializedBy, StateValid, Initialized}
use Rattle.law_runs.proofs.Holds.{Agrees, Holds}
use Rattle.law_runs.proofs.Agreement.{found_in, values, agrees, stores_apart, read_held}
use Rattle.law_runs.proofs.Listing.{rank_in, ranked}
use Rattle.law_runs.proofs.Invariant.{Values, IsLast}
use Rattle.law_runs.proofs.Nodes.{store_left}
use Rattle.law_runs.proofs.Pieces.{PiecesOk, not_undefined, pieces_opened, pieces_taken, pieces_stored, pieces_synced}
use Rattle.law_runs.proofs.Shared.{overlap_at, same_bytes}
use Rattle.law_runs.proofs.Steps.{finishes, opened_holds, load_holds, store_holds, sync_holds, drop_holds, fill_holds, write_back_holds}
use Rattle.law_runs.specs.Apart.{Order}
use Rattle.law_runs.specs.Laws.{Sound, Simulated}
use Rattle.law_runs.specs.Lines.{is_dirty}
use Rattle.device_cache.specs.Lines.{Lines, Bytes}
use Rattle.law_runs.specs.Orders.{UpTo, Before, VisibleBy, Synchronized}
use Rattle.law_runs.specs.Runs.{reads, LoadsUndefined, Stores, Goes, loads_one, stores_all, syncs_one, Moves, writes_back, fills, drops, Run, start, goes, moves}
use Rattle.law_runs.specs.States.{State, Owner, opened, put, over, bytes_in, Meets}
use Rattle.law_runs.specs.Systems.{Doing, Read, TakeOver, Access, System, At, Has, covers, is_load, is_long, is_store, loads, changes}

pub reads_loads : (d : Doing) → reads d ≡ true → loads d ≡ true
reads_loads Read h = refl
reads_loads TakeOver h = refl
reads_loads d h = absurd (false≢true h)

reads_no_load : (d : Doing) → reads d ≡ true → is_load d ≡ false
reads_no_load Read h = refl
reads_no_load TakeOver h = refl
reads_no_load d h = absurd (false≢true h)

reads_no_store : (d : Doing) → reads d ≡ true → is_store d ≡ true → ⊥
reads_no_store Read h s = false≢true s
reads_no_store TakeOver h s = false≢true s
reads_no_store d h s = false≢true h

-- what the events of a device rest on
pub record Basis (S : System) (W : Values) (found : ℕ → ℕ → List ℕ) : Type 0 where
  pub formed : Formed S
  pub synchronized : Synchronized S
  pub rank : ℕ → ℕ
  pub ranked : Ranked S rank
  pub agrees : Agrees S W found
  pub state_valid : StateValid S
  pub initialized : Initialized S

-- the whole invariant
pub record Keeps (S : System) (first : ℕ → Option ℕ) (W : Values) (found : ℕ → ℕ → List ℕ) (s : State) : Type 0 where
  pub holds : Holds S W found s
  pub pieces : PiecesOk S first s.done s.layout s.owner

module _ (S : System) (W : Values) (found : ℕ → ℕ → List ℕ) (G : Basis S W found) where
  abbrev Kept : State → Type 0
  Kept s = Keeps S G.state_valid.first W found s

  sane : (s : State) → Kept s → (n : ℕ) (a : Access) → Touches S s n a → LoadsUndefined S s n a → ⊥
  sane s K n a t q = not_undefined S G.formed G.synchronized G.state_valid s K.holds.past K.pieces n a t q

  pub goes_keeps : (s t : State) → Goes S s t → Kept s → Kept t
  goes_keeps s t (loads_one _ n k a bytes marked owner L) K = record {
    holds = load_holds S G.formed G.synchronized G.rank G.ranked W found G.agrees s K.holds n k a bytes marked owner L (λ c q. sane s K n a c q) (G.initialized n a (k, L.may.at) (is_load_loads a.doing L.may.load));
    pieces = pieces_taken S G.formed G.synchronized G.state_valid s K.holds.past K.pieces n (λ b. b ≡ a) (λ b h e. subst (λ z. Touches S s n z) (sym e) (load_touches S G.formed s K.holds.past n k a L.may)) owner L.takes;
  }
  goes_keeps s t (stores_all _ n bytes line marked owner Z) K = record {
    holds = store_holds S G.formed G.synchronized G.rank G.ranked W found G.agrees s K.holds n bytes line marked owner Z;
    pieces = pieces_stored S G.formed G.synchronized G.state_valid s K.holds.past K.pieces n (put s.done n true) (finishes s.done n (λ d. false≢true (sym Z.may.fresh ∙ d))) Z.may.command (λ c. is_long c.doing ≡ true) (λ c h l. store_touches S G.formed s K.holds.past n c Z.may h l) owner Z.takes;
  }
  goes_keeps s t (syncs_one _ n main read marked layout owner Y) K = record {
    holds = sync_holds S G.formed G.synchronized G.rank G.ranked W found G.agrees s K.holds n main read marked layout owner Y (λ a c d q. sane s K n a c q) (λ a h l. G.initialized n a h l);
    pieces = pieces_synced S G.formed G.synchronized G.state_valid s K.holds.past K.pieces n (put s.done n true) (finishes s.done n (λ d. false≢true (sym Y.may.fresh ∙ d))) G.rank G.ranked (λ a h. sync_touches S G.formed s K.holds.past n Y.may a h) layout owner Y.lays Y.hands;
  }

  pub moves_keeps : (s t : State) → Moves s t → Kept s → Kept t
  moves_keeps s t (writes_back _ agent range) K = record { holds = write_back_holds S G.formed G.synchronized G.rank G.ranked W found G.agrees s K.holds agent range; pieces = K.pieces }
  moves_keeps s t (fills _ agent range) K = record { holds = fill_holds S G.formed G.synchronized G.rank G.ranked W found G.agrees s K.holds agent range; pieces = K.pieces }
  moves_keeps s t (drops _ agent range) K = record { holds = drop_holds S G.formed G.synchronized G.rank G.ranked W found G.agrees s K.holds agent range; pieces = K.pieces }

  pub run_keeps : (s t : State) → Run S s t → Kept s → Kept t
  run_keeps s t start K = K
  run_keeps s t (goes {t = u} r g) K = goes_keeps u t g (run_keeps s u r K)
  run_keeps s t (moves {t = u} r g) K = moves_keeps u t g (run_keeps s u r K)

  pub opened_keeps : Kept (opened S W.start)
  opened_keeps = record {
    holds = opened_holds S G.formed G.synchronized G.rank G.ranked W found G.agrees;
    pieces = pieces_opened S G.state_valid.first G.state_valid.first_is;
  }

  pub run_holds : (s : State) → Run S (opened S W.start) s → Holds S W found s
  run_holds s r = (run_keeps (opened S W.start) s r opened_keeps).holds

  module _ (s : State) (H : Holds S W found s) where
    -- what a command stores
    pub stores_right : (n : ℕ) (bytes : ℕ → List ℕ) (line : Lines) (marked : ℕ → ℕ → Bool) (owner : ℕ → Owner) → Stores S s n bytes line marked owner → (k : ℕ) (c : Access) → At S n k c → is_store c.doing ≡ true → bytes k ≡ S.out n (s.loaded n) k
    stores_right n bytes line marked owner Z k c at st = go (Z.bytes_are k c at st)
      where
        go : ((s.marked n k ≡ true) ⊎ ((v : ℕ) × (b : Access) × Meets S s n c v b)) ⊎ (bytes k ≡ S.out n (s.loaded n) k) → bytes k ≡ S.out n (s.loaded n) k
        go (inr e) = e
        go (inl (inl e)) = absurd (H.unmarked n k e)
        go (inl (inr q)) = absurd (not_meets S G.formed s H.past G.synchronized n c (store_touches S G.formed s H.past n c Z.may (k, at) (store_long c.doing st)) q.0 q.1 q.2)

    -- WHAT WAS READ STAYS IN MAIN

    module _ (n : ℕ) (a : Access) (h : Has S n a) (r : reads a.doing ≡ true) (d : s.done n ≡ true) where
      F : Formed S
      F = G.formed

      lo : loads a.doing ≡ true
      lo = reads_loads a.doing r

      over_a : over s n h.0 a ≡ true
      over_a = over_done s n h.0 a (reads_no_load a.doing r) ∙ d

      -- each done change of a byte is before n
      first : (m i : ℕ) → covers S a.piece m i ≡ true → (v : ℕ) (c : Access) → s.done v ≡ true → Has S v c → changes c.doing ≡ true → covers S c.piece m i ≡ true → (v ≢ n) × Before S v c n a
      first m i cv v c f hc ch at = (ne, go (G.synchronized.ordered v n c a hc h ne (F.clash_change c a m i ch at cv)))
        where
          ne : v ≢ n
          ne e = F.reads_alone n a c h (subst (λ z. Has S z c) e hc) r ch

          go : Before S v c n a ⊎ Before S n a v c → Before S v c n a
          go (inl p) = p
          go (inr p) = absurd (none_later S F n a h r v c ne p)

      done_first : (w : ℕ) (c : Access) → Has S w c → changes c.doing ≡ true → Before S w c n a → s.done w ≡ true
      done_first w c hc ch B = sym (over_done s w hc.0 c (change_no_load c.doing ch)) ∙ over_before S F s H.past w hc.0 n h.0 c a hc.1 h.1 over_a B

      last : (w : ℕ) (c : Access) → Initializes S n a w c → (m i : ℕ) → covers S a.piece m i ≡ true → IsLast S s.done m i w c
      last w c D m i cv = record {
        finished = done_first w c D.has (stores_changes c.doing D.leaves) D.before;
        has = D.has;
        alters = stores_changes c.doing D.leaves;
        at = subst (λ p. covers S p m i ≡ true) (sym D.piece) cv;
        top = λ v e f he ch at. let q = first m i cv v e f he ch at in D.last v e he q.0 ch (overlap_at S e.piece a.piece m i at cv) q.1;
      }

      full : a.alone ≡ false
      full = ⊎_elim (λ e. absurd (reads_no_store a.doing r (F.alone_store n a h e))) (λ e. e) (cases_Bool a.alone)

      -- every store to the byte has been made available
      none : (m i : ℕ) → covers S a.piece m i ≡ true → (g : ℕ) → is_dirty (s.line g m i) ≡ false
      none m i cv g = go (cases_Bool (is_dirty (s.line g m i)))
        where
          go : (is_dirty (s.line g m i) ≡ true) ⊎ (is_dirty (s.line g m i) ≡ false) → is_dirty (s.line g m i) ≡ false
          go (inr e) = e
          go (inl e) =
              let o = (H.bytes m i).dirty g e in
              let L = o.2.last in
              let q = first m i cv o.0 o.1 L.finished L.has L.alters L.at in
              let p = G.synchronized.passed o.0 n o.1 a L.has h q.0 (F.clash_change o.1 a m i L.alters L.at cv) q.1 L.alters (load_plain a.doing lo) full in
              let l = store_left S o.1.doing o.0 p.x o.1 o.2.store p.available in
              let f : s.done p.x ≡ true = up_done S F s H.past p.x p.y p.leads (up_done S F s H.past p.y n (reads_up a.doing r p.y p.visible) d) in
              ap (λ k. is_dirty (s.line k m i)) o.2.agent ∙ (H.bytes m i).flushed o.0 o.1 p.x L o.2.store (record { finished = f; next = l.0; flushes = l.1 m i L.at })
            where
              reads_up : (e : Doing) → reads e ≡ true → (y : ℕ) → VisibleBy S e n a y → UpTo S y n
              reads_up Read r y v = v
              reads_up TakeOver r y v = v
              reads_up e r y v = absurd (false≢true r)

      pub main_stays : InitializedBy S n a → bytes_in S s.main a.piece ≡ found n a.piece
      main_stays (inl D) = same_bytes S s.main (W.byte D.0) a.piece (λ m i cv. (H.bytes m i).value D.0 D.1 (last D.0 D.1 D.2 m i cv) D.2.leaves (none m i cv)) ∙ G.agrees.initialized n D.0 a D.1 h lo D.2
      main_stays (inr I) = same_bytes S s.main W.start a.piece (λ m i cv. ((H.bytes m i).fresh (λ v c f hc ch at. let q = first m i cv v c f hc ch at in I.none v c hc q.0 ch (overlap_at S c.piece a.piece m i at cv) q.1)).0) ∙ G.agrees.starts n a h lo I

-- A SOUND PROGRAM

module _ (S : System) (F : Formed S) (X : Sound S) (order : List ℕ) (O : Order S order) (main : Bytes) where
  pub basis : Basis S (values S F X.synchronized order O main) (found_in S F X.synchronized order O main)
  basis = record { formed = F; synchronized = X.synchronized; rank = rank_in order; ranked = ranked S order O; agrees = agrees S F X.synchronized order O main; state_valid = X.state_valid; initialized = X.initialized }

  pub sound_holds : (s : State) → Run S (opened S main) s → Holds S (values S F X.synchronized order O main) (found_in S F X.synchronized order O main) s
  sound_holds s r = run_holds S (values S F X.synchronized order O main) (found_in S F X.synchronized order O main) basis s r

  pub simulated : (s : State) → Run S (opened S main) s → Simulated S main order s
  simulated s r = record {
    loaded = H.loaded;
    stored = λ n bytes line marked owner Z k c at st. stores_right S (values S F X.synchronized order O main) (found_in S F X.synchronized order O main) basis s H n bytes line marked owner Z k c at st
        ∙ stores_apart S F X.synchronized order O main n k c (s.loaded n) at st (λ j a aj l. H.loaded n j a aj l (Z.may.taken j a aj l));
    read = λ n a h q d. H.hosts n a h q d ∙ sym (read_held S F X.synchronized order O main n a h q);
    stays = λ n a h q d. main_stays S (values S F X.synchronized order O main) (found_in S F X.synchronized order O main) basis s H n a h q d (X.initialized n a h (reads_loads a.doing q)) ∙ sym (read_held S F X.synchronized order O main n a h q);
  }
    where
      H : Holds S (values S F X.synchronized order O main) (found_in S F X.synchronized order O main) s
      H = sound_holds s r
