-- A node that is finished keeps what holds of a byte.
use Rattle.std.proofs.Common.{◌≡◌, ◌≢◌, ◌⊎◌, inl, inr, ℕ, Bool, true, false, if◌then◌else◌, refl, sym, ap, ◌∙◌, subst}
use Rattle.std.proofs.lemmas.Bool.{cases_eq, cases_Bool, false≢true}
use Rattle.law_runs.proofs.Formed.{Ranked}
use Rattle.law_runs.specs.Formed.{Formed}
use Rattle.law_runs.proofs.Invariant.{Tells, Values, Spares, IsLast, FlushedAt, Knows, own, store_passed, turn_passed, Owned, ByteOk, Finishes, NoneAfter}
use Rattle.law_runs.proofs.Last.{last_unique, last_same, last_old, last_keep, untouched_old, done_before, last_new}
use Rattle.law_runs.proofs.Moves.{dropped_tells, dropped_any, part_dirty, part_tells}
use Rattle.law_runs.specs.Lines.{is_dirty}
use Rattle.device_cache.specs.Lines.{Line, Dirty, dropped}
use Rattle.law_runs.specs.Orders.{Path, UpTo, Before, FlushesOn, AvailableBy, VisibleBy, Passed, Synchronized}
use Rattle.law_runs.specs.Systems.{Doing, Store, Access, System, Has, covers, changes, stores, transfers, is_store}

-- a store is made available by a node into which it leaves
pub store_left : (S : System) (d : Doing) (n x : ℕ) (a : Access) → is_store d ≡ true → AvailableBy S d n a x → (S.leaves n a x ≡ true) × FlushesOn S x a.agent a.piece
store_left S Store n x a s h = h
store_left S d n x a s h = absurd (false≢true s)

-- anything else leaves bytes that are available
pub other_left : (S : System) (d : Doing) (n x : ℕ) (a : Access) → is_store d ≡ false → AvailableBy S d n a x → n ≡ x
other_left S Store n x a s h = absurd (false≢true (sym s))
other_left S d n x a s h = h

-- whatever is passed on to access d of n by now is done, or n itself
abbrev pub Prior : System → (ℕ → Bool) → ℕ → Access → Type 0
Prior S done n d = (x y : ℕ) → UpTo S x y → VisibleBy S d.doing n d y → (done x ≡ true) ⊎ (x ≡ n)

module _ (S : System) (F : Formed S) (T : Synchronized S) (rank : ℕ → ℕ) (R : Ranked S rank) (W : Values) (done : ℕ → Bool) (n m i : ℕ) (lines : ℕ → Line) (v : ℕ) (was : done n ≡ true → ⊥) (B : ByteOk S done m i W lines v) where
  abbrev Flushed : Type 0
  Flushed = (g : ℕ) → S.flushes n g m i ≡ true → is_dirty (lines g) ≡ false

  -- before n touches the byte, what was stored to it is on main
  pub left_clean : Flushed → (d : Access) → Has S n d → transfers d.doing ≡ false → d.alone ≡ false → covers S d.piece m i ≡ true → NoneAfter S done n d → Prior S done n d → (g : ℕ) → is_dirty (lines g) ≡ false
  left_clean clean d h keeps full at after prior g = go (cases_Bool (is_dirty (lines g)))
    where
      from : (w x : ℕ) (c : Access) → IsLast S done m i w c → is_store c.doing ≡ true → S.leaves w c x ≡ true → S.flushes x c.agent m i ≡ true → (done x ≡ true) ⊎ (x ≡ n) → is_dirty (lines c.agent) ≡ false
      from w x c L s e f (inl q) = B.flushed w c x L s (record { finished = q; next = e; flushes = f })
      from w x c L s e f (inr q) = clean c.agent (subst (λ z. S.flushes z c.agent m i ≡ true) q f)

      owned : (w : ℕ) (c : Access) → Owned S done m i g w c → is_dirty (lines g) ≡ false
      owned w c O =
          let L = O.last in
          let before : Before S w c n d = done_before S F T done n m i d h at was after w c L.finished L.has L.alters L.at in
          let apart : w ≢ n = λ e. was (subst (λ z. done z ≡ true) e L.finished) in
          let p : Passed S w c n d = T.passed w n c d L.has h apart (F.clash_change c d m i L.alters L.at at) before L.alters keeps full in
          let a = store_left S c.doing w p.x c O.store p.available in
          ap (λ k. is_dirty (lines k)) O.agent ∙ from w p.x c L O.store a.0 (a.1 m i L.at) (prior p.x p.y p.leads p.visible)

      go : (is_dirty (lines g) ≡ true) ⊎ (is_dirty (lines g) ≡ false) → is_dirty (lines g) ≡ false
      go (inl e) = let o = B.dirty g e in owned o.0 o.1 o.2
      go (inr e) = e

  -- N IS FINISHED

  module _ (done' : ℕ → Bool) (N : Finishes done done' n) where
    -- THE BYTE IS CHANGED BY N

    module _ (d : Access) (h : Has S n d) (c : changes d.doing ≡ true) (at : covers S d.piece m i ≡ true) (after : NoneAfter S done n d) where
      new : IsLast S done' m i n d
      new = last_new S F T done n m i d h at was after done' N c

      is_n : (w : ℕ) (e : Access) → IsLast S done' m i w e → w ≡ n
      is_n w e L = last_unique S F rank R done' m i w n e d L new

      is_d : (w : ℕ) (e : Access) → IsLast S done' m i w e → e ≡ d
      is_d w e L = last_same S F rank R done' m i w n e d L new

      -- by a store
      pub store_ok : ((x : ℕ) → S.leaves n d x ≡ true → done' x ≡ true → ⊥) → (lines' : ℕ → Line) → is_store d.doing ≡ true → ((g : ℕ) → is_dirty (lines g) ≡ false) → lines' (d.agent) ≡ Dirty (W.byte n m i) → ((g : ℕ) → g ≢ d.agent → lines' g ≡ lines g) → ByteOk S done' m i W lines' v
      store_ok none lines' s clean mine others = record {
        dirty = λ g e. (n, d, record { last = new; store = s; agent = agent g e (cases_eq g (d.agent)) });
        value = λ w e L k q. absurd (false≢true (sym (q (d.agent)) ∙ ap is_dirty mine));
        known = λ w e L k g K. known w e (is_n w e L) (is_d w e L) g K;
        flushed = λ w e x L s f. absurd (not_left w e x (is_n w e L) (is_d w e L) f);
        fresh = λ u. absurd (u n d N.self h c at);
      }
        where
          not_left : (w : ℕ) (e : Access) (x : ℕ) → w ≡ n → e ≡ d → FlushedAt S done' m i w e x → ⊥
          not_left w e x p q f = none x (subst (λ y. S.leaves n y x ≡ true) q (subst (λ z. S.leaves z e x ≡ true) p f.next)) f.finished

          agent : (g : ℕ) → is_dirty (lines' g) ≡ true → (g ≡ d.agent) ⊎ (g ≡ d.agent → ⊥) → g ≡ d.agent
          agent g e (inl q) = q
          agent g e (inr q) = absurd (false≢true (sym (clean g) ∙ ap is_dirty (sym (others g q)) ∙ e))

          known : (w : ℕ) (e : Access) → w ≡ n → e ≡ d → (g : ℕ) → Knows S done' m i w e g → Tells (lines' g) (W.byte w m i)
          known w e p q g (own s a) = subst (λ x. Tells (lines' g) (W.byte x m i)) (sym p) (subst (λ l. Tells l (W.byte n m i)) (sym mine ∙ ap lines' (sym (a ∙ ap (λ z. z.agent) q))) refl)
          known w e p q g (store_passed x y s f r t) = absurd (not_left w e x p q f)
          known w e p q g (turn_passed y t r u) = absurd (false≢true (sym t ∙ ap (λ z. is_store z.doing) q ∙ s))

      -- by a transition: v' is its byte where it keeps
      pub turn_ok : ((y : ℕ) → Path S.edge n y → done' y ≡ true → ⊥) → (v' : ℕ) → is_store d.doing ≡ false → ((g : ℕ) → is_dirty (lines g) ≡ false) → (stores d.doing ≡ true → v' ≡ W.byte n m i) → ByteOk S done' m i W (λ g. if S.shows n g m i then dropped (lines g) else lines g) v'
      turn_ok none v' s clean keeps = record {
        dirty = λ g e. absurd (false≢true (sym (clean g) ∙ sym (part_dirty (S.shows n g m i) (lines g)) ∙ e));
        value = λ w e L k q. keeps (ap (λ z. stores z.doing) (sym (is_d w e L)) ∙ k) ∙ ap (λ z. W.byte z m i) (sym (is_n w e L));
        known = λ w e L k g K. known w e (is_n w e L) (is_d w e L) g K;
        flushed = λ w e x L t f. absurd (false≢true (sym s ∙ ap (λ z. is_store z.doing) (sym (is_d w e L)) ∙ t));
        fresh = λ u. absurd (u n d N.self h c at);
      }
        where
          known : (w : ℕ) (e : Access) → w ≡ n → e ≡ d → (g : ℕ) → Knows S done' m i w e g → Tells (if S.shows n g m i then dropped (lines g) else lines g) (W.byte w m i)
          known w e p q g (own t a) = absurd (false≢true (sym s ∙ ap (λ z. is_store z.doing) (sym q) ∙ t))
          known w e p q g (store_passed x y t f r u) = absurd (false≢true (sym s ∙ ap (λ z. is_store z.doing) (sym q) ∙ t))
          known w e p q g (turn_passed y t r u) = go r
            where
              at_y : y ≡ n → Tells (if S.shows n g m i then dropped (lines g) else lines g) (W.byte w m i)
              at_y a = subst (λ z. Tells (if z then dropped (lines g) else lines g) (W.byte w m i)) (sym (subst (λ z. S.shows z g m i ≡ true) a u.shows)) (dropped_any (lines g) (W.byte w m i) (clean g))

              go : UpTo S w y → Tells (if S.shows n g m i then dropped (lines g) else lines g) (W.byte w m i)
              go (inl a) = at_y (sym a ∙ p)
              go (inr b) = absurd (none y (subst (λ z. Path S.edge z y) p b) u.finished)

    -- THE BYTE IS SPARED BY N

    -- lines go away where n makes memory visible
    module _ (sp : Spares S n m i) (clean : Flushed) (closed : (x y : ℕ) → UpTo S x y → done y ≡ true → done x ≡ true) where
      abbrev shown : ℕ → Line
      shown g = if S.shows n g m i then dropped (lines g) else lines g

      old : (w : ℕ) (c : Access) → IsLast S done' m i w c → IsLast S done m i w c
      old = last_old S done done' n m i N sp

      flushed : (w : ℕ) (c : Access) (x : ℕ) → IsLast S done m i w c → is_store c.doing ≡ true → FlushedAt S done' m i w c x → (x ≡ n) ⊎ (done x ≡ true) → is_dirty (lines (c.agent)) ≡ false
      flushed w c x L s f (inl e) = clean (c.agent) (subst (λ z. S.flushes z (c.agent) m i ≡ true) e f.flushes)
      flushed w c x L s f (inr q) = B.flushed w c x L s (record { finished = q; next = f.next; flushes = f.flushes })

      -- a line at which n makes memory visible is gone, or is the last store's own
      at_n : (w : ℕ) (c : Access) → IsLast S done m i w c → stores c.doing ≡ true → (g : ℕ) → S.shows n g m i ≡ true → Tells (shown g) (W.byte w m i)
      at_n w c L k g a = subst (λ z. Tells (if z then dropped (lines g) else lines g) (W.byte w m i)) (sym a) (go (cases_Bool (is_dirty (lines g))))
        where
          mine : (x : ℕ) (d : Access) → Owned S done m i g x d → Tells (lines g) (W.byte w m i)
          mine x d O =
              let e : d ≡ c = last_same S F rank R done m i x w d c O.last L in
              B.known w c L k g (own (ap (λ z. is_store z.doing) (sym e) ∙ O.store) (O.agent ∙ ap (λ z. z.agent) e))

          go : (is_dirty (lines g) ≡ true) ⊎ (is_dirty (lines g) ≡ false) → Tells (dropped (lines g)) (W.byte w m i)
          go (inl e) = let o = B.dirty g e in dropped_tells (lines g) (W.byte w m i) (mine o.0 o.1 o.2)
          go (inr e) = dropped_any (lines g) (W.byte w m i) e

      via : (w : ℕ) (c : Access) → IsLast S done m i w c → stores c.doing ≡ true → (g : ℕ) → Knows S done m i w c g → Tells (shown g) (W.byte w m i)
      via w c L k g K = part_tells (S.shows n g m i) (lines g) (W.byte w m i) (B.known w c L k g K)

      known : (w : ℕ) (c : Access) → IsLast S done m i w c → stores c.doing ≡ true → (g : ℕ) → Knows S done' m i w c g → Tells (shown g) (W.byte w m i)
      known w c L k g (own s a) = via w c L k g (own s a)
      known w c L k g (store_passed x y s f r t) = go (N.grows y t.finished)
        where
          go : (y ≡ n) ⊎ (done y ≡ true) → Tells (shown g) (W.byte w m i)
          go (inl e) = at_n w c L k g (subst (λ z. S.shows z g m i ≡ true) e t.shows)
          go (inr d) = via w c L k g (store_passed x y s (record { finished = closed x y r d; next = f.next; flushes = f.flushes }) r (record { finished = d; shows = t.shows }))
      known w c L k g (turn_passed y s r t) = go (N.grows y t.finished)
        where
          go : (y ≡ n) ⊎ (done y ≡ true) → Tells (shown g) (W.byte w m i)
          go (inl e) = at_n w c L k g (subst (λ z. S.shows z g m i ≡ true) e t.shows)
          go (inr d) = via w c L k g (turn_passed y s r (record { finished = d; shows = t.shows }))

      pub spare_ok : ByteOk S done' m i W (λ g. if S.shows n g m i then dropped (lines g) else lines g) v
      spare_ok = record {
        dirty = λ g e. let o = B.dirty g (sym (part_dirty (S.shows n g m i) (lines g)) ∙ e) in (o.0, o.1, record { last = last_keep S done done' n m i N sp o.0 o.1 o.2.last; store = o.2.store; agent = o.2.agent });
        value = λ w c L k h. B.value w c (old w c L) k (λ g. sym (part_dirty (S.shows n g m i) (lines g)) ∙ h g);
        known = λ w c L k g K. known w c (old w c L) k g K;
        flushed = λ w c x L s f. part_dirty (S.shows n (c.agent) m i) (lines (c.agent)) ∙ flushed w c x (old w c L) s f (N.grows x f.finished);
        fresh = λ u. let o = B.fresh (untouched_old S done done' n m i N u) in (o.0, λ g. part_tells (S.shows n g m i) (lines g) (W.start m i) (o.1 g));
      }
