-- One step of the walk: what the rows hold once one more point is dealt with.
use Rattle.std.proofs.Common.{◌≡◌, ◌≢◌, ◌⊎◌, inl, inr, ℕ, ◌+◌, ◌*◌, ◌<◌, ◌≤◌, min, true, false, Some, None, List, length, set, get_or, if◌then◌else◌, refl, sym, ap, ◌∙◌, subst, ⊎_elim, arith, get_or-set_same, get_or-set_other, length-set}
use Rattle.std.proofs.lemmas.Bool.{cases_eq, cases_lt, cases_Bool}
use Rattle.std.proofs.lemmas.Nat.{row_fits}
use Rattle.base.proofs.Absence.{some_same}
use Rattle.base_first.specs.Bits.{bit}
use Rattle.base_first.specs.Internal.Rows.{entry, OthersKept, Taken, Given, Copied, Put}
use Rattle.base_first.specs.Internal.Walk.{NextIn, OutIn, MetBy, Walked, IsNewest}
use Rattle.base_first.specs.Firsts.{RowOf, IsTable}
use Rattle.base_first.specs.Points.{point_at, UpTo, here, on, Lined}
use Rattle.base_first.specs.declared.point.Point.{Point}
use Rattle.base_first.proofs.Moves.{clash}
use Rattle.base_first.proofs.Sets.{row_same, row_kept, row_both, row_taken, row_put, in_row, AnyOf}

module _ (points : List Point) (queues channels : ℕ) (L : Lined points queues) where
  abbrev at : ℕ → Point
  at p = point_at points p

  abbrev N : ℕ
  N = length points

  abbrev W : ℕ
  W = queues * channels

  abbrev Up : ℕ → ℕ → Type 0
  Up p y = UpTo points channels p y

  abbrev Row : (ℕ → Type 0) → (ℕ → ℕ) → Type 0
  Row R row = RowOf points queues channels R row

  abbrev row_of : List ℕ → ℕ → ℕ → ℕ
  row_of numbers r e = entry numbers W r e

  -- THE PLACES OF ROWS

  slots : (q c : ℕ) → q < queues → c < channels → q * channels + channels ≤ W
  slots q c lq lc = row_fits q channels queues channels lq (omega arith)

  -- the slots of different queues stand apart
  slot_apart : (k q c : ℕ) → k ≢ q → c < channels → (k * channels + c < q * channels) ⊎ (q * channels + channels ≤ k * channels + c)
  slot_apart k q c ne lc = ⊎_elim
      (λ (l : k < q). let f = row_fits k channels q channels l (omega arith) in inl (omega (arith, f, lc)))
      (λ (g : q ≤ k). let f = row_fits q channels k channels (omega (arith, g, ne)) (omega arith) in inr (omega (arith, f)))
      (cases_lt k q)

  -- WHAT IS REACHED

  rising : (p y : ℕ) → Up p y → p ≤ y
  rising p y (here e) = omega (arith, e)
  rising p y (on {z = z} (inl h) u) = let r = rising z y u in omega (arith, r, h.rising)
  rising p y (on {z = z} (inr m) u) = let r = rising z y u in let f = L.met z p m.there m.met in omega (arith, r, f)

  next_later : (p q c y : ℕ) → NextIn points channels (p + 1) q c y → NextIn points channels p q c y
  next_later p q c y n = record { z = n.z; from = omega (arith, n.from); there = n.there; queue = n.queue; ins = n.ins; up = n.up }

  -- what stands from p on is p itself, or stands after it
  next_cases : (p q c y : ℕ) → NextIn points channels p q c y → NextIn points channels (p + 1) q c y ⊎ (((at p).queue ≡ q) × (bit (at p).ins c ≡ true) × Up p y)
  next_cases p q c y n = ⊎_elim
      (λ e. inr (ap (λ z. (at z).queue) (sym e) ∙ n.queue, ap (λ z. bit (at z).ins c) (sym e) ∙ n.ins, subst (λ z. Up z y) e n.up))
      (λ ne. inl (record { z = n.z; from = omega (arith, n.from, ne); there = n.there; queue = n.queue; ins = n.ins; up = n.up }))
      (cases_eq n.z p)

  met_later : (p i y : ℕ) → MetBy points channels (p + 1) i y → MetBy points channels p i y
  met_later p i y n = record { z = n.z; from = omega (arith, n.from); there = n.there; met = n.met; up = n.up }

  met_cases : (p i y : ℕ) → MetBy points channels p i y → MetBy points channels (p + 1) i y ⊎ (((at p).met ≡ Some i) × Up p y)
  met_cases p i y n = ⊎_elim
      (λ e. inr (ap (λ z. (at z).met) (sym e) ∙ n.met, subst (λ z. Up z y) e n.up))
      (λ ne. inl (record { z = n.z; from = omega (arith, n.from, ne); there = n.there; met = n.met; up = n.up }))
      (cases_eq n.z p)

  -- A GROUP BEGINS

  module _ (p w : ℕ) (old new groups : List ℕ) (there : p < N) (ew : w ≡ W)
      (ne : get_or groups (at p).queue 0 ≢ (at p).group)
      (size : length new ≡ length old)
      (copy : Copied channels w (N + (at p).queue * channels + w) (N + (at p).queue * channels) old new)
      (newest : IsNewest points queues groups (p + 1))
      (before : Walked points queues channels old groups (p + 1)) where
    abbrev q : ℕ
    q = (at p).queue

    abbrev fresh : List ℕ
    fresh = set groups q (at p).group

    C : Copied channels W (N + q * channels + W) (N + q * channels) old new
    C = subst (λ n. Copied channels n (N + q * channels + n) (N + q * channels) old new) ew copy

    known : q < queues
    known = L.queue p there

    own_group : get_or fresh q 0 ≡ (at p).group
    own_group = get_or-set_same groups q (at p).group 0 (omega (arith, known, before.count))

    other_group : (k : ℕ) → k ≢ q → get_or fresh k 0 ≡ get_or groups k 0
    other_group k h = get_or-set_other groups q k (at p).group 0 h

    below : (r e : ℕ) → r < N + W → e < W → row_of new r e ≡ row_of old r e
    below r e lt le = C.others r e (inl (omega (arith, lt))) le

    -- no later point of the queue is of the group
    new_group : (z : ℕ) → p + 1 ≤ z → z < N → (at z).queue ≡ q → (at p).group ≢ (at z).group
    new_group z from lt same e =
        let m = newest q z known from lt same in
        ne (sym m.group ∙ sym (L.grouped p m.m z (omega (arith, m.from)) m.up_to lt (sym m.queue) (m.queue ∙ sym same) e))

    outs : (k c : ℕ) → k < queues → c < channels → Row (OutIn points channels (p + 1) k c (get_or fresh k 0)) (λ e. row_of new (N + W + (k * channels + c)) e)
    outs k c lk lc = ⊎_elim same other (cases_eq k q)
      where
        same : k ≡ q → Row (OutIn points channels (p + 1) k c (get_or fresh k 0)) (λ e. row_of new (N + W + (k * channels + c)) e)
        same e = subst (λ n. Row (OutIn points channels (p + 1) n c (get_or fresh n 0)) (λ e. row_of new (N + W + (n * channels + c)) e)) (sym e)
            (row_same points queues channels (NextIn points channels (p + 1) q c) (OutIn points channels (p + 1) q c (get_or fresh q 0)) (λ e. row_of old (N + (q * channels + c)) e) (λ e. row_of new (N + W + (q * channels + c)) e)
            (λ e le.
            let to : N + W + (q * channels + c) ≡ N + q * channels + W + c = omega arith in
            let from : N + q * channels + c ≡ N + (q * channels + c) = omega arith in
            ap (λ r. row_of new r e) to ∙ C.copied c e lc le ∙ ap (λ r. row_of old r e) from)
            (λ y n. record { next = n; apart = λ g. new_group n.z n.from n.there n.queue (sym own_group ∙ g) })
            (λ y o. o.next)
            (before.next q c known lc))

        other : k ≢ q → Row (OutIn points channels (p + 1) k c (get_or fresh k 0)) (λ e. row_of new (N + W + (k * channels + c)) e)
        other h = subst (λ g. Row (OutIn points channels (p + 1) k c g) (λ e. row_of new (N + W + (k * channels + c)) e)) (sym (other_group k h))
            (row_kept points queues channels (OutIn points channels (p + 1) k c (get_or groups k 0)) (λ e. row_of old (N + W + (k * channels + c)) e) (λ e. row_of new (N + W + (k * channels + c)) e)
            (λ e le. C.others (N + W + (k * channels + c)) e (⊎_elim (λ l. inl (omega (arith, l))) (λ l. inr (omega (arith, l))) (slot_apart k q c h lc)) le)
            (before.outs k c lk lc))

    pub opened : Walked points queues channels new fresh (p + 1)
    opened = record {
      size = size ∙ before.size;
      count = length-set groups q (at p).group ∙ before.count;
      done = λ i le lt. row_kept points queues channels (Up i) (row_of old i) (row_of new i) (λ e m. below i e (omega (arith, lt)) m) (before.done i le lt);
      waiting = λ i le lt. row_kept points queues channels (MetBy points channels (p + 1) i) (row_of old i) (row_of new i) (λ e m. below i e (omega (arith, lt)) m) (before.waiting i le lt);
      next = λ k c lk lc. row_kept points queues channels (NextIn points channels (p + 1) k c) (λ e. row_of old (N + (k * channels + c)) e) (λ e. row_of new (N + (k * channels + c)) e)
          (λ e m. let s = in_row points queues channels k c lk lc in below (N + (k * channels + c)) e (omega (arith, s)) m) (before.next k c lk lc);
      outs = outs;
    }

  -- A POINT IS DEALT WITH

  -- what row p holds before the point itself is put in
  abbrev Behind : ℕ → ℕ → Type 0
  Behind p y = MetBy points channels (p + 1) p y ⊎ AnyOf points queues channels (at p).outs (λ d y. OutIn points channels (p + 1) (at p).queue d (at p).group y) y

  behind_up : (p y : ℕ) → Behind p y ⊎ (y ≡ p) → Up p y
  behind_up p y (inl (inl m)) = on (inr (record { there = m.there; met = m.met })) m.up
  behind_up p y (inl (inr (d, below, out, o))) = on (inl (record {
    rising = omega (arith, o.next.from);
    there = o.next.there;
    queue = sym o.next.queue;
    apart = o.apart;
    channel = d;
    below = below;
    outs = out;
    ins = o.next.ins;
  })) o.next.up
  behind_up p y (inr e) = here (sym e)

  up_behind : (p y : ℕ) → Up p y → Behind p y ⊎ (y ≡ p)
  up_behind p y (here e) = inr (sym e)
  up_behind p y (on {z = z} (inl h) u) = inl (inr (h.channel, h.below, h.outs, record { next = record { z = z; from = omega (arith, h.rising); there = h.there; queue = sym h.queue; ins = h.ins; up = u }; apart = h.apart }))
  up_behind p y (on {z = z} (inr m) u) = inl (inl (record { z = z; from = (let f = L.met z p m.there m.met in omega (arith, f)); there = m.there; met = m.met; up = u }))

  behind_after : (p y : ℕ) → Behind p y → p ≤ y
  behind_after p y b = rising p y (behind_up p y (inl b))

  module _ (p w : ℕ) (xs a b d groups : List ℕ) (there : p < N) (ew : w ≡ W)
      (own : get_or groups (at p).queue 0 ≡ (at p).group)
      (took : Taken (at p).outs channels w (N + (at p).queue * channels + w) p xs a)
      (stands : Put (at p).shows channels p w ((at p).queue * channels) p a b)
      (gave : Given (at p).ins channels w (N + (at p).queue * channels) p b d)
      (before : Walked points queues channels xs groups (p + 1)) where
    abbrev o : ℕ
    o = (at p).queue

    T : Taken (at p).outs channels W (N + o * channels + W) p xs a
    T = subst (λ n. Taken (at p).outs channels n (N + o * channels + n) p xs a) ew took

    P : Put (at p).shows channels p W (o * channels) p a b
    P = subst (λ n. Put (at p).shows channels p n (o * channels) p a b) ew stands

    G : Given (at p).ins channels W (N + o * channels) p b d
    G = subst (λ n. Given (at p).ins channels n (N + o * channels) p b d) ew gave

    ours : o < queues
    ours = L.queue p there

    -- rows that are not given to
    kept : (r e : ℕ) → r ≢ p → (r < N + o * channels) ⊎ (N + o * channels + channels ≤ r) → e < W → row_of d r e ≡ row_of xs r e
    kept r e h side m = G.others r e side m ∙ P.others r e h m ∙ T.others r e h m

    own_before : Row (λ y. Behind p y ⊎ (y ≡ p)) (row_of b p)
    own_before = row_put points queues channels p a b (Behind p) there ours (behind_after p) P
        (row_taken points queues channels (at p).outs (N + o * channels + W) p xs a (MetBy points channels (p + 1) p) (λ c y. OutIn points channels (p + 1) o c (at p).group y) T
        (before.waiting p (omega arith) there)
        (λ c lc. subst (λ g. Row (OutIn points channels (p + 1) o c g) (λ e. row_of xs (N + o * channels + W + c) e)) own
        (row_kept points queues channels (OutIn points channels (p + 1) o c (get_or groups o 0)) (λ e. row_of xs (N + W + (o * channels + c)) e) (λ e. row_of xs (N + o * channels + W + c) e)
        (λ e m. let q : N + o * channels + W + c ≡ N + W + (o * channels + c) = omega arith in ap (λ r. row_of xs r e) q)
        (before.outs o c ours lc))))

    mine_before : Row (Up p) (row_of b p)
    mine_before = row_same points queues channels (λ y. Behind p y ⊎ (y ≡ p)) (Up p) (row_of b p) (row_of b p) (λ e m. refl) (behind_up p) (up_behind p) own_before

    pub mine : Row (Up p) (row_of d p)
    mine = row_kept points queues channels (Up p) (row_of b p) (row_of d p) (λ e m. G.others p e (inl (omega (arith, there))) m) mine_before

    pub later : (i : ℕ) → i ≢ p → i < N → (e : ℕ) → e < W → row_of d i e ≡ row_of xs i e
    later i h lt e m = kept i e h (inl (omega (arith, lt))) m

    pub next : (k c : ℕ) → k < queues → c < channels → Row (NextIn points channels p k c) (λ e. row_of d (N + (k * channels + c)) e)
    next k c lk lc = ⊎_elim same other (cases_eq k o)
      where
        other : k ≢ o → Row (NextIn points channels p k c) (λ e. row_of d (N + (k * channels + c)) e)
        other h = row_same points queues channels (NextIn points channels (p + 1) k c) (NextIn points channels p k c) (λ e. row_of xs (N + (k * channels + c)) e) (λ e. row_of d (N + (k * channels + c)) e)
            (λ e m. kept (N + (k * channels + c)) e (λ q. omega (arith, q, there)) (⊎_elim (λ l. inl (omega (arith, l))) (λ l. inr (omega (arith, l))) (slot_apart k o c h lc)) m)
            (next_later p k c)
            (λ y n. ⊎_elim (λ l. l) (λ l. absurd (h (sym l.0))) (next_cases p k c y n))
            (before.next k c lk lc)

        -- before they are given to
        still : (e : ℕ) → e < W → row_of b (N + (o * channels + c)) e ≡ row_of xs (N + (o * channels + c)) e
        still e m = P.others (N + (o * channels + c)) e (λ q. omega (arith, q, there)) m ∙ T.others (N + (o * channels + c)) e (λ q. omega (arith, q, there)) m

        was : Row (NextIn points channels (p + 1) o c) (λ e. row_of b (N + (o * channels + c)) e)
        was = row_kept points queues channels (NextIn points channels (p + 1) o c) (λ e. row_of xs (N + (o * channels + c)) e) (λ e. row_of b (N + (o * channels + c)) e) still (before.next o c ours lc)

        becomes : (e : ℕ) → e < W → row_of d (N + (o * channels + c)) e ≡ (if bit (at p).ins c then min (row_of b (N + (o * channels + c)) e) (row_of b p e) else row_of b (N + (o * channels + c)) e)
        becomes e m = let q : N + o * channels + c ≡ N + (o * channels + c) = omega arith in
            subst (λ r. row_of d r e ≡ (if bit (at p).ins c then min (row_of b r e) (row_of b p e) else row_of b r e)) q (G.given c e lc m)

        waits : bit (at p).ins c ≡ true → Row (NextIn points channels p o c) (λ e. row_of d (N + (o * channels + c)) e)
        waits h = row_same points queues channels (λ y. NextIn points channels (p + 1) o c y ⊎ Up p y) (NextIn points channels p o c) (λ e. row_of d (N + (o * channels + c)) e) (λ e. row_of d (N + (o * channels + c)) e) (λ e m. refl)
            (λ y n. ⊎_elim (λ l. next_later p o c y l) (λ u. record { z = p; from = omega arith; there = there; queue = refl; ins = h; up = u }) n)
            (λ y n. ⊎_elim (λ l. inl l) (λ l. inr l.2) (next_cases p o c y n))
            (row_both points queues channels (NextIn points channels (p + 1) o c) (Up p) (λ e. row_of b (N + (o * channels + c)) e) (row_of b p) (λ e. row_of d (N + (o * channels + c)) e)
            (λ e m. becomes e m ∙ ap (λ t. if t then min (row_of b (N + (o * channels + c)) e) (row_of b p e) else row_of b (N + (o * channels + c)) e) h) was mine_before)

        passes : bit (at p).ins c ≡ false → Row (NextIn points channels p o c) (λ e. row_of d (N + (o * channels + c)) e)
        passes h = row_same points queues channels (NextIn points channels (p + 1) o c) (NextIn points channels p o c) (λ e. row_of b (N + (o * channels + c)) e) (λ e. row_of d (N + (o * channels + c)) e)
            (λ e m. becomes e m ∙ ap (λ t. if t then min (row_of b (N + (o * channels + c)) e) (row_of b p e) else row_of b (N + (o * channels + c)) e) h)
            (next_later p o c)
            (λ y n. ⊎_elim (λ l. l) (λ l. absurd (clash (sym l.1 ∙ h))) (next_cases p o c y n))
            was

        same : k ≡ o → Row (NextIn points channels p k c) (λ e. row_of d (N + (k * channels + c)) e)
        same e = subst (λ n. Row (NextIn points channels p n c) (λ e. row_of d (N + (n * channels + c)) e)) (sym e) (⊎_elim waits passes (cases_Bool (bit (at p).ins c)))

    pub outs_after : (k c : ℕ) → k < queues → c < channels → Row (OutIn points channels p k c (get_or groups k 0)) (λ e. row_of d (N + W + (k * channels + c)) e)
    unfolding next_later
    outs_after k c lk lc = row_same points queues channels (OutIn points channels (p + 1) k c (get_or groups k 0)) (OutIn points channels p k c (get_or groups k 0)) (λ e. row_of xs (N + W + (k * channels + c)) e) (λ e. row_of d (N + W + (k * channels + c)) e)
        (λ e m. let s = slots o c ours lc in kept (N + W + (k * channels + c)) e (λ q. omega (arith, q, there)) (inr (omega (arith, s))) m)
        (λ y n. record { next = next_later p k c y n.next; apart = n.apart })
        (λ y n. cut y n (cases_eq n.next.z p))
        (before.outs k c lk lc)
      where
        cut : (y : ℕ) → (n : OutIn points channels p k c (get_or groups k 0) y) → (n.next.z ≡ p) ⊎ (n.next.z ≡ p → ⊥) → OutIn points channels (p + 1) k c (get_or groups k 0) y
        cut y n (inl e) = absurd (n.apart (ap (λ q. get_or groups q 0) (sym n.next.queue ∙ ap (λ z. (at z).queue) e) ∙ own ∙ ap (λ z. (at z).group) (sym e)))
        cut y n (inr h) = record { next = record { z = n.next.z; from = omega (arith, n.next.from, h); there = n.next.there; queue = n.next.queue; ins = n.next.ins; up = n.next.up }; apart = n.apart }

    -- it waits for no other queue
    pub stepped_alone : length d ≡ length xs → (at p).met ≡ None → Walked points queues channels d groups p
    stepped_alone size none = record {
      size = size ∙ before.size;
      count = before.count;
      done = λ i le lt. ⊎_elim
          (λ e. subst (λ n. Row (Up n) (row_of d n)) (sym e) mine)
          (λ h. row_kept points queues channels (Up i) (row_of xs i) (row_of d i) (later i h lt) (before.done i (omega (arith, le, h)) lt))
          (cases_eq i p);
      waiting = λ i l lt. row_same points queues channels (MetBy points channels (p + 1) i) (MetBy points channels p i) (row_of xs i) (row_of d i) (later i (λ e. omega (arith, e, l)) lt)
          (met_later p i)
          (λ y n. ⊎_elim (λ m. m) (λ m. absurd (no_some (sym none ∙ m.0))) (met_cases p i y n))
          (before.waiting i (omega (arith, l)) lt);
      next = next;
      outs = outs_after;
    }
      where
        no_some : {x : ℕ} → None ≡ Some x → ⊥
        no_some e = cc

    -- it waits for point g
    pub stepped : (g : ℕ) (f : List ℕ) → length f ≡ length xs → (at p).met ≡ Some g → ((e : ℕ) → e < w → entry f w g e ≡ min (entry d w g e) (entry d w p e)) → OthersKept w g d f → Walked points queues channels f groups p
    stepped g f size met lower others = record {
      size = size ∙ before.size;
      count = before.count;
      done = λ i le lt. row_kept points queues channels (Up i) (row_of d i) (row_of f i) (stays i (λ e. omega (arith, e, le, early))) (⊎_elim
          (λ e. subst (λ n. Row (Up n) (row_of d n)) (sym e) mine)
          (λ h. row_kept points queues channels (Up i) (row_of xs i) (row_of d i) (later i h lt) (before.done i (omega (arith, le, h)) lt))
          (cases_eq i p));
      waiting = λ i l lt. ⊎_elim
          (λ e. subst (λ n. Row (MetBy points channels p n) (row_of f n)) (sym e) signal)
          (λ h. row_same points queues channels (MetBy points channels (p + 1) i) (MetBy points channels p i) (row_of xs i) (row_of f i) (λ e m. stays i h e m ∙ later i (λ q. omega (arith, q, l)) lt e m)
          (met_later p i)
          (λ y n. ⊎_elim (λ m. m) (λ m. absurd (h (sym (some_same (sym met ∙ m.0))))) (met_cases p i y n))
          (before.waiting i (omega (arith, l)) lt))
          (cases_eq i g);
      next = λ k c lk lc. row_kept points queues channels (NextIn points channels p k c) (λ e. row_of d (N + (k * channels + c)) e) (λ e. row_of f (N + (k * channels + c)) e) (stays (N + (k * channels + c)) (λ e. omega (arith, e, early, there))) (next k c lk lc);
      outs = λ k c lk lc. row_kept points queues channels (OutIn points channels p k c (get_or groups k 0)) (λ e. row_of d (N + W + (k * channels + c)) e) (λ e. row_of f (N + W + (k * channels + c)) e) (stays (N + W + (k * channels + c)) (λ e. omega (arith, e, early, there))) (outs_after k c lk lc);
    }
      where
        early : g < p
        early = L.met p g there met

        stays : (r : ℕ) → r ≢ g → (e : ℕ) → e < W → row_of f r e ≡ row_of d r e
        stays r h e m = subst (λ n. OthersKept n g d f) ew others r e h m

        least : (e : ℕ) → e < W → row_of f g e ≡ min (row_of d g e) (row_of d p e)
        least = subst (λ n. (e : ℕ) → e < n → entry f n g e ≡ min (entry d n g e) (entry d n p e)) ew lower

        signal : Row (MetBy points channels p g) (row_of f g)
        signal = row_same points queues channels (λ y. MetBy points channels (p + 1) g y ⊎ Up p y) (MetBy points channels p g) (row_of f g) (row_of f g) (λ e m. refl)
            (λ y n. ⊎_elim (λ m. met_later p g y m) (λ u. record { z = p; from = omega arith; there = there; met = met; up = u }) n)
            (λ y n. ⊎_elim (λ m. inl m) (λ m. inr m.1) (met_cases p g y n))
            (row_both points queues channels (MetBy points channels (p + 1) g) (Up p) (row_of d g) (row_of d p) (row_of f g) least
            (row_kept points queues channels (MetBy points channels (p + 1) g) (row_of xs g) (row_of d g) (later g (λ e. omega (arith, e, early)) (omega (arith, early, there))) (before.waiting g (omega (arith, early)) (omega (arith, early, there))))
            mine)

  -- the newest groups, once the point is dealt with
  pub newest_on : (p : ℕ) (old new : List ℕ) → p < N → get_or new (at p).queue 0 ≡ (at p).group → ((q : ℕ) → q ≢ (at p).queue → get_or new q 0 ≡ get_or old q 0) → IsNewest points queues old (p + 1) → IsNewest points queues new p
  newest_on p old new there own others before k z lk le lt same = ⊎_elim
      (λ e. record { m = p; from = omega arith; up_to = le; queue = sym e; group = sym own ∙ ap (λ n. get_or new n 0) (sym e) })
      (λ h.
      let apart : z ≢ p = not_it h in
      let m = before k z lk (omega (arith, le, apart)) lt same in
      record { m = m.m; from = omega (arith, m.from); up_to = m.up_to; queue = m.queue; group = m.group ∙ sym (others k h) })
      (cases_eq k (at p).queue)
    where
      not_it : (k ≡ (at p).queue → ⊥) → z ≢ p
      not_it h e = h (sym same ∙ ap (λ n. (at n).queue) e)

  -- THE TWO ENDS OF THE WALK

  nothing : (R : ℕ → Type 0) (row : ℕ → ℕ) → ((e : ℕ) → e < W → row e ≡ N) → ((y : ℕ) → R y → ⊥) → Row R row
  nothing R row eq never q c lq lc = record {
    member = λ lt. let e = eq (q * channels + c) (in_row points queues channels q c lq lc) in absurd (omega (arith, e, lt));
    least = λ y f. absurd (never y f.reached);
  }

  pub begun : (numbers groups : List ℕ) → length numbers ≡ (N + (W + W)) * W → length groups ≡ queues → ((k : ℕ) → k < (N + (W + W)) * W → get_or numbers k 0 ≡ N) → Walked points queues channels numbers groups N
  begun numbers groups size count none = record {
    size = size;
    count = count;
    done = λ p le lt. absurd (omega (arith, le, lt));
    waiting = λ p lt _. nothing (MetBy points channels N p) (row_of numbers p) (λ e m. row_none p e (omega (arith, lt)) m) (λ y n. let f = n.from in let g = n.there in omega (arith, f, g));
    next = λ q c lq lc. nothing (NextIn points channels N q c) (λ e. row_of numbers (N + (q * channels + c)) e) (λ e m. let s = in_row points queues channels q c lq lc in row_none (N + (q * channels + c)) e (omega (arith, s)) m) (λ y n. let f = n.from in let g = n.there in omega (arith, f, g));
    outs = λ q c lq lc. nothing (OutIn points channels N q c (get_or groups q 0)) (λ e. row_of numbers (N + W + (q * channels + c)) e) (λ e m. let s = in_row points queues channels q c lq lc in row_none (N + W + (q * channels + c)) e (omega (arith, s)) m) (λ y n. let f = n.next.from in let g = n.next.there in omega (arith, f, g));
  }
    where
      row_none : (r e : ℕ) → r < N + (W + W) → e < W → row_of numbers r e ≡ N
      row_none r e lt m = let f = row_fits r W (N + (W + W)) W lt (omega arith) in none (r * W + e) (omega (arith, f, m))

  pub none_newest : (groups : List ℕ) → IsNewest points queues groups N
  none_newest groups q z lq le lt same = absurd (omega (arith, le, lt))

  pub ended : (numbers groups cut : List ℕ) → ((k : ℕ) → k < N * W → get_or cut k 0 ≡ get_or numbers k 0) → Walked points queues channels numbers groups 0 → IsTable points queues channels (record { count = N; queues = queues; channels = channels; numbers = cut })
  ended numbers groups cut same E = record {
    count = refl;
    queues = refl;
    channels = refl;
    firsts = λ p q c lp lq lc.
        let f = row_fits p W N W lp (omega arith) in
        let s = in_row points queues channels q c lq lc in
        row_kept points queues channels (Up p) (row_of numbers p) (row_of cut p) (λ e m. same (p * W + e) (omega (arith, f, m))) (E.done p (omega arith) lp) q c lq lc;
  }
