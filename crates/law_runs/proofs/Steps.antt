-- Each event keeps the invariant.
use Rattle.std.proofs.Common.{◌≡◌, ◌⊎◌, inl, inr, ℕ, zero, suc, ◌-◌, Bool, true, false, ◌&&◌, ◌||◌, ◌==◌, if◌then◌else◌, List, [], ◌∷◌, slice_get, slice_index, Some, refl, sym, ap, ◌∙◌, subst, ⊎_elim, eq-eqb, ne_eqb, eqb-true}
use Rattle.std.proofs.lemmas.Bool.{cases_eq, cases_Bool, false≢true, and_parts, and_from}
use mathlib.Core.Path.{fun_ext}
use Rattle.law_runs.proofs.Absence.{some_same}
use Rattle.law_runs.proofs.Control.{Past, Touches, none_after, over_done, over_taken, up_done, path_done, load_touches, store_touches, sync_touches, not_meets}
use Rattle.law_runs.proofs.Formed.{Ranked, no_cycle, long_no_load, change_plain, long_plain, load_plain, is_load_loads, store_changes, store_long, stores_loads, sync_no_store, command_change}
use Rattle.law_runs.specs.Formed.{Formed}
use Rattle.law_runs.specs.Found.{InitializedBy}
use Rattle.law_runs.proofs.Holds.{Agrees, Holds, load_sees, main_initialized, main_starts, keep_sees}
use Rattle.law_runs.proofs.Invariant.{Values, Spares, ByteOk, Finishes}
use Rattle.law_runs.proofs.Moves.{cleaned_clean, drop_ok, fill_ok, flush_ok, written_to}
use Rattle.law_runs.proofs.Nodes.{left_clean, store_ok, turn_ok, spare_ok}
use Rattle.law_runs.proofs.Shared.{same_bytes}
use Rattle.law_runs.specs.Lines.{is_dirty}
use Rattle.device_cache.specs.Effects.{wrote_main, wrote_back, filled_from, dropped_in}
use Rattle.base.specs.declared.memory_range.MemoryRange.{MemoryRange}
use Rattle.device_cache.specs.Lines.{Line, Lines, Dirty, Bytes, is_in, cleaned, dropped, written}
use Rattle.law_runs.specs.Orders.{Path, Synchronized}
use Rattle.law_runs.specs.Runs.{reads, LoadsUndefined, Marks, took, Loads, did_store, Stores, FlushTo, JunkedAt, line_after, did_sync, Syncs}
use Rattle.law_runs.specs.States.{State, Owner, opened, put, put_at, over, bytes_in, Entered, Meets, MayLoad, MayStore, MaySync}
use Rattle.law_runs.specs.Systems.{Doing, Load, Store, Superseded, Discard, Read, TakeOver, Access, System, At, Has, covers, is_load, is_long, is_store, is_discard, loads, changes, stores, transfers}

-- ONE ARGUMENT, OR TWO

pub put_other : {X : Type 0} (f : ℕ → X) (n x : ℕ) (v : X) → (x ≡ n → ⊥) → put f n v x ≡ f x
put_other f n x v h = ap (λ z. if z then v else f x) (ne_eqb x n h)

pub put_here : {X : Type 0} (f : ℕ → X) (n x : ℕ) (v : X) → x ≡ n → put f n v x ≡ v
put_here f n x v h = ap (λ z. if z then v else f x) (eq-eqb x n h)

two_here : {X : Type 0} (f : ℕ → ℕ → X) (n k x j : ℕ) (v : X) → x ≡ n → j ≡ k → put_at f n k v x j ≡ v
two_here f n k x j v p q = ap (λ z. if z then v else f x j) (and_from (x == n) (j == k) (eq-eqb x n p) (eq-eqb j k q))

two_other : {X : Type 0} (f : ℕ → ℕ → X) (n k x j : ℕ) (v : X) → (x ≡ n → j ≡ k → ⊥) → put_at f n k v x j ≡ f x j
two_other f n k x j v h = ap (λ z. if z then v else f x j) (⊎_elim (λ e. let p = and_parts (x == n) (j == k) e in absurd (h (eqb-true x n p.0) (eqb-true j k p.1))) (λ e. e) (cases_Bool ((x == n) && (j == k))))

-- the place is (n, k), or it is not
here_or_not : (n k x j : ℕ) → ((x ≡ n) × (j ≡ k)) ⊎ (x ≡ n → j ≡ k → ⊥)
here_or_not n k x j = ⊎_elim (λ p. ⊎_elim (λ q. inl (p, q)) (λ q. inr (λ a b. q b)) (cases_eq j k)) (λ p. inr (λ a b. p a)) (cases_eq x n)

same_access : (S : System) (n k x j : ℕ) (a c : Access) → At S n k a → At S x j c → x ≡ n → j ≡ k → c ≡ a
same_access S n k x j a c h g p q = some_same (sym g ∙ ap (λ z. slice_get (S.accesses z) j) p ∙ ap (λ z. slice_get (S.accesses n) z) q ∙ h)

-- LISTS

abbrev InList : List Access → Access → Type 0
InList list a = (i : ℕ) × (slice_get list i ≡ Some a)

in_rest : (a b : Access) (rest : List Access) → InList rest a → InList (b ∷ rest) a
in_rest a b rest h = (suc h.0, h.1)

in_cases : (a b : Access) (rest : List Access) → InList (b ∷ rest) a → (a ≡ b) ⊎ InList rest a
in_cases a b rest h = go h.0 h.1
  where
    go : (i : ℕ) → slice_get (b ∷ rest) i ≡ Some a → (a ≡ b) ⊎ InList rest a
    go zero e = inl (sym (some_same e))
    go (suc i) e = inr (i, e)

in_none : (a : Access) → InList [] a → ⊥
in_none a h = go h.1
  where
    go : slice_get [] h.0 ≡ Some a → ⊥
    go e = cc

-- an access that passes, or none does
pub find_access : (test : Access → Bool) (list : List Access) → ((d : Access) × InList list d × (test d ≡ true)) ⊎ ((d : Access) → InList list d → test d ≡ true → ⊥)
find_access test [] = inr (λ d h e. in_none d h)
find_access test (a ∷ rest) = go (cases_Bool (test a)) (find_access test rest)
  where
    go : (test a ≡ true) ⊎ (test a ≡ false) → ((d : Access) × InList rest d × (test d ≡ true)) ⊎ ((d : Access) → InList rest d → test d ≡ true → ⊥) → ((d : Access) × InList (a ∷ rest) d × (test d ≡ true)) ⊎ ((d : Access) → InList (a ∷ rest) d → test d ≡ true → ⊥)
    go (inl e) r = inl (a, (0, refl), e)
    go (inr e) (inl t) = inl (t.0, in_rest t.0 a rest t.1, t.2)
    go (inr e) (inr f) = inr (λ d h k. ⊎_elim (λ q. false≢true (sym e ∙ ap test (sym q) ∙ k)) (λ q. f d q k) (in_cases d a rest h))

-- KINDS

command_kinds : (d : Doing) → (is_load d || is_long d) ≡ true → (is_load d ≡ true) ⊎ (is_long d ≡ true)
command_kinds Load h = inl refl
command_kinds Store h = inr refl
command_kinds Superseded h = inr refl
command_kinds d h = absurd (false≢true h)

read_by_sync : (d : Doing) → (is_load d || is_long d) ≡ true → reads d ≡ true → ⊥
read_by_sync Read h r = false≢true h
read_by_sync TakeOver h r = false≢true h
read_by_sync d h r = false≢true r

reads_loads : (d : Doing) → reads d ≡ true → loads d ≡ true
reads_loads Read h = refl
reads_loads TakeOver h = refl
reads_loads d h = absurd (false≢true h)

discard_changes : (d : Doing) → is_discard d ≡ true → changes d ≡ true
discard_changes Discard h = refl
discard_changes d h = absurd (false≢true h)

discard_stores_not : (d : Doing) → is_discard d ≡ true → stores d ≡ true → ⊥
discard_stores_not Discard h s = false≢true s
discard_stores_not d h s = false≢true h

no_load : (d : Doing) → (is_load d || is_long d) ≡ false → is_load d ≡ true → ⊥
no_load Load h e = false≢true (sym h)
no_load d h e = false≢true e

-- A NODE IS FINISHED

pub finishes : (done : ℕ → Bool) (n : ℕ) → (done n ≡ true → ⊥) → Finishes done (put done n true) n
finishes done n was = record {
  grows = λ x h. ⊎_elim (λ e. inl e) (λ e. inr (sym (put_other done n x true e) ∙ h)) (cases_eq x n);
  stays = λ x h. ⊎_elim (λ e. put_here done n x true e) (λ e. put_other done n x true e ∙ h) (cases_eq x n);
  self = put_here done n n true refl;
  was = was;
}

-- lines of a byte after the flush of a node
abbrev cleans : System → State → ℕ → ℕ → ℕ → ℕ → Line
cleans S s n m i g = if S.flushes n g m i then cleaned (s.line g m i) else s.line g m i

abbrev finished : State → ℕ → State
finished s n = record s { done = put s.done n true }

module _ (S : System) (F : Formed S) (s : State) (P : Past S s) (n : ℕ) (was : s.done n ≡ true → ⊥) where
  N : Finishes s.done (put s.done n true) n
  N = finishes s.done n was

  over_stays : (x j : ℕ) (a : Access) → over s x j a ≡ true → over (finished s n) x j a ≡ true
  over_stays x j a o = ⊎_elim
      (λ e. over_taken (finished s n) x j a e ∙ sym (over_taken s x j a e) ∙ o)
      (λ e. over_done (finished s n) x j a e ∙ N.stays x (sym (over_done s x j a e) ∙ o))
      (cases_Bool (is_load a.doing))

  pub past_finish : ((k : ℕ) (a : Access) → At S n k a → S.is_command n ≡ true → is_load a.doing ≡ false → Entered S s n a) → ((x : ℕ) → S.edge x n ≡ true → s.done x ≡ true) → ((v k : ℕ) (a : Access) → At S v k a → S.is_command v ≡ true → S.leaves v a n ≡ true → over s v k a ≡ true) → ((k : ℕ) (a : Access) → At S n k a → is_load a.doing ≡ true → s.taken n k ≡ true) → Past S (finished s n)
  past_finish entered edges left stored = record {
    entered = λ x j a at cl o y h. N.stays y (enter x j a at cl o y h (cases_Bool (is_load a.doing)));
    edges = λ x y e d. N.stays x (⊎_elim (λ q. edges x (subst (λ z. S.edge x z ≡ true) q e)) (λ q. P.edges x y e q) (N.grows y d));
    left = λ v j a x at cl l d. over_stays v j a (⊎_elim (λ q. left v j a at cl (subst (λ z. S.leaves v a z ≡ true) q l)) (λ q. P.left v j a x at cl l q) (N.grows x d));
    stored = λ x j a at l d. ⊎_elim (λ q. ap (λ z. s.taken z j) q ∙ stored j a (subst (λ z. At S z j a) q at) l) (λ q. P.stored x j a at l q) (N.grows x d);
  }
    where
      enter : (x j : ℕ) (a : Access) → At S x j a → S.is_command x ≡ true → over (finished s n) x j a ≡ true → (y : ℕ) → S.enters y x a ≡ true → (is_load a.doing ≡ true) ⊎ (is_load a.doing ≡ false) → s.done y ≡ true
      enter x j a at cl o y h (inl e) = P.entered x j a at cl (over_taken s x j a e ∙ sym (over_taken (finished s n) x j a e) ∙ o) y h
      enter x j a at cl o y h (inr e) = ⊎_elim
          (λ q. entered j a (subst (λ z. At S z j a) q at) (ap S.is_command (sym q) ∙ cl) e y (subst (λ z. S.enters y z a ≡ true) q h))
          (λ q. P.entered x j a at cl (over_done s x j a e ∙ q) y h)
          (N.grows x (sym (over_done (finished s n) x j a e) ∙ o))

module _ (S : System) (F : Formed S) (T : Synchronized S) (rank : ℕ → ℕ) (R : Ranked S rank) (W : Values) (found : ℕ → ℕ → List ℕ) (G : Agrees S W found) where
  -- BEFORE THE FIRST EVENT

  pub opened_holds : Holds S W found (opened S W.start)
  opened_holds = record {
    past = record {
      entered = λ n k a at cl o. absurd (false≢true (none (is_load a.doing) ∙ o));
      edges = λ x y e d. absurd (false≢true d);
      left = λ n k a x at cl l d. absurd (false≢true d);
      stored = λ n k a at l d. absurd (false≢true d);
    };
    bytes = λ m i. record {
      dirty = λ g h. absurd (false≢true h);
      value = λ w c L. absurd (false≢true L.finished);
      known = λ w c L. absurd (false≢true L.finished);
      flushed = λ w c x L. absurd (false≢true L.finished);
      fresh = λ u. (refl, λ g. refl);
    };
    loaded = λ n k a at l h. absurd (false≢true h);
    unmarked = λ n k h. false≢true h;
    hosts = λ n a h r d. absurd (false≢true d);
  }
    where
      none : (b : Bool) → false ≡ (if b then false else false)
      none true = refl
      none false = refl

  module _ (s : State) (H : Holds S W found s) where
    P : Past S s
    P = H.past

    -- marks come where an access that is made meets a store under way, and none does
    no_marks : (n : ℕ) (makes : Access → Type 0) (marked : ℕ → ℕ → Bool) → Marks S s n makes marked → ((a : Access) → makes a → Has S n a → Touches S s n a) → (v j : ℕ) → marked v j ≡ true → ⊥
    no_marks n makes marked M touch v j h = go (M v j h)
      where
        go : (s.marked v j ≡ true) ⊎ ((a : Access) × (b : Access) × makes a × Meets S s n a v b) → ⊥
        go (inl e) = H.unmarked v j e
        go (inr q) = not_meets S F s P T n q.0 (touch q.0 q.2 q.3.mine) v q.1 q.3

    -- A LOAD

    pub load_holds : (n k : ℕ) (a : Access) (bytes : List ℕ) (marked : ℕ → ℕ → Bool) (owner : ℕ → Owner) → Loads S s n k a bytes marked owner → (Touches S s n a → LoadsUndefined S s n a → ⊥) → InitializedBy S n a → Holds S W found (took s n k bytes marked owner)
    load_holds n k a bytes marked owner L sane initialized = record {
      past = record {
        entered = λ x j c at cl o. entered x j c at cl o (here_or_not n k x j);
        edges = P.edges;
        left = λ v j c x at cl l d. stays v j c (P.left v j c x at cl l d);
        stored = λ x j c at l d. taken_stays x j (P.stored x j c at l d);
      };
      bytes = H.bytes;
      loaded = λ x j c at l h. loaded x j c at l h (here_or_not n k x j);
      unmarked = no_marks n (λ b. b ≡ a) marked L.marks (λ b e h. subst (λ z. Touches S s n z) (sym e) t);
      hosts = H.hosts;
    }
      where
        M : MayLoad S s n k a
        M = L.may

        t : Touches S s n a
        t = load_touches S F s P n k a M

        got : bytes ≡ found n a.piece
        got = ⊎_elim (λ e. absurd (sane t e)) (λ e. e ∙ load_sees S F T rank R W found G s H n a t (is_load_loads a.doing M.load) M.command M.load initialized) L.bytes_are

        taken_stays : (x j : ℕ) → s.taken x j ≡ true → put_at s.taken n k true x j ≡ true
        taken_stays x j h = ⊎_elim (λ e. two_here s.taken n k x j true e.0 e.1) (λ e. two_other s.taken n k x j true e ∙ h) (here_or_not n k x j)

        stays : (x j : ℕ) (c : Access) → over s x j c ≡ true → over (took s n k bytes marked owner) x j c ≡ true
        stays x j c o = ⊎_elim
            (λ e. over_taken (took s n k bytes marked owner) x j c e ∙ taken_stays x j (sym (over_taken s x j c e) ∙ o))
            (λ e. over_done (took s n k bytes marked owner) x j c e ∙ sym (over_done s x j c e) ∙ o)
            (cases_Bool (is_load c.doing))

        was : (x j : ℕ) (c : Access) → (x ≡ n → j ≡ k → ⊥) → over (took s n k bytes marked owner) x j c ≡ true → over s x j c ≡ true
        was x j c ne o = ⊎_elim
            (λ e. over_taken s x j c e ∙ sym (two_other s.taken n k x j true ne) ∙ sym (over_taken (took s n k bytes marked owner) x j c e) ∙ o)
            (λ e. over_done s x j c e ∙ sym (over_done (took s n k bytes marked owner) x j c e) ∙ o)
            (cases_Bool (is_load c.doing))

        entered : (x j : ℕ) (c : Access) → At S x j c → S.is_command x ≡ true → over (took s n k bytes marked owner) x j c ≡ true → ((x ≡ n) × (j ≡ k)) ⊎ (x ≡ n → j ≡ k → ⊥) → Entered S s x c
        entered x j c at cl o (inr ne) = P.entered x j c at cl (was x j c ne o)
        entered x j c at cl o (inl e) = subst (λ z. Entered S s z c) (sym e.0) (subst (λ z. Entered S s n z) (sym (same_access S n k x j a c M.at at e.0 e.1)) M.entered)

        loaded : (x j : ℕ) (c : Access) → At S x j c → is_load c.doing ≡ true → put_at s.taken n k true x j ≡ true → ((x ≡ n) × (j ≡ k)) ⊎ (x ≡ n → j ≡ k → ⊥) → put_at s.loaded n k bytes x j ≡ found x c.piece
        loaded x j c at l h (inr ne) = two_other s.loaded n k x j bytes ne ∙ H.loaded x j c at l (sym (two_other s.taken n k x j true ne) ∙ h)
        loaded x j c at l h (inl e) = two_here s.loaded n k x j bytes e.0 e.1 ∙ got ∙ ap (λ z. found n z.piece) (sym (same_access S n k x j a c M.at at e.0 e.1)) ∙ ap (λ z. found z c.piece) (sym e.0)

    -- STORES

    pub store_holds : (n : ℕ) (bytes : ℕ → List ℕ) (line : Lines) (marked : ℕ → ℕ → Bool) (owner : ℕ → Owner) → Stores S s n bytes line marked owner → Holds S W found (did_store s n line marked owner)
    store_holds n bytes line marked owner Z = record {
      past = record { entered = Q.entered; edges = Q.edges; left = Q.left; stored = Q.stored };
      bytes = λ m i. byte m i (find_access (λ c. is_store c.doing && covers S c.piece m i) (S.accesses n));
      loaded = H.loaded;
      unmarked = no_marks n (λ c. is_long c.doing ≡ true) marked Z.marks touch;
      hosts = λ x a h r d. H.hosts x a h r (host x a h r (N'.grows x d));
    }
      where
        M : MayStore S s n
        M = Z.may

        fresh : s.done n ≡ true → ⊥
        fresh d = false≢true (sym M.fresh ∙ d)

        N' : Finishes s.done (put s.done n true) n
        N' = finishes s.done n fresh

        touch : (c : Access) → is_long c.doing ≡ true → Has S n c → Touches S s n c
        touch c l h = store_touches S F s P n c M h l

        long : (a : Access) → Has S n a → is_load a.doing ≡ false → is_long a.doing ≡ true
        long a h e = ⊎_elim (λ q. absurd (false≢true (sym e ∙ q))) (λ q. q) (command_kinds a.doing (F.of_command n a h M.command))

        Q : Past S (finished s n)
        Q = past_finish S F s P n fresh
            (λ k a at cl e. M.entered a (k, at) (long a (k, at) e))
            (λ x e. absurd (false≢true (sym (F.held_back x n e) ∙ M.command)))
            (λ v k a at cl l. absurd (false≢true (sym (F.leaves_to v a n l) ∙ M.command)))
            (λ k a at l. M.taken k a at l)

        host : (x : ℕ) (a : Access) → Has S x a → reads a.doing ≡ true → (x ≡ n) ⊎ (s.done x ≡ true) → s.done x ≡ true
        host x a h r (inr d) = d
        host x a h r (inl e) = absurd (read_by_sync a.doing (F.of_command x a h (ap S.is_command e ∙ M.command)) r)

        never_flushes : (g m i : ℕ) → S.flushes n g m i ≡ true → is_dirty (s.line g m i) ≡ false
        never_flushes g m i f = absurd (false≢true (sym (F.flushes_by n g m i f) ∙ M.command))

        never_shows : (g m i : ℕ) → S.shows n g m i ≡ false
        never_shows g m i = ⊎_elim (λ e. absurd (false≢true (sym (F.shows_by n g m i e) ∙ M.command))) (λ e. e) (cases_Bool (S.shows n g m i))

        -- what was stored to a byte before is on main
        clean : (m i : ℕ) (c : Access) → Has S n c → is_store c.doing ≡ true → covers S c.piece m i ≡ true → (g : ℕ) → is_dirty (s.line g m i) ≡ false
        clean m i c h st at = go (cases_Bool c.alone)
          where
            by : (e : Access) → Has S n e → is_long e.doing ≡ true → e.alone ≡ false → covers S e.piece m i ≡ true → (g : ℕ) → is_dirty (s.line g m i) ≡ false
            by e he l full ce = left_clean S F T rank R W s.done n m i (λ g. s.line g m i) (s.main m i) fresh (H.bytes m i) (λ g f. never_flushes g m i f) e he (long_plain e.doing l) full ce (none_after S F s P n e (touch e l he)) (touch e l he).prior

            go : (c.alone ≡ true) ⊎ (c.alone ≡ false) → (g : ℕ) → is_dirty (s.line g m i) ≡ false
            go (inr full) = by c h (store_long c.doing st) full at
            go (inl al) = let b = F.beside n c h al in by b.0 b.1 b.2 b.4 (subst (λ p. covers S p m i ≡ true) (sym b.3) at)

        kept : (k : ℕ) (c : Access) → At S n k c → is_store c.doing ≡ true → bytes k ≡ S.out n (s.loaded n) k
        kept k c at st = go (Z.bytes_are k c at st)
          where
            go : ((s.marked n k ≡ true) ⊎ ((v : ℕ) × (b : Access) × Meets S s n c v b)) ⊎ (bytes k ≡ S.out n (s.loaded n) k) → bytes k ≡ S.out n (s.loaded n) k
            go (inr e) = e
            go (inl (inl e)) = absurd (H.unmarked n k e)
            go (inl (inr q)) = absurd (not_meets S F s P T n c (touch c (store_long c.doing st) (k, at)) q.0 q.1 q.2)

        stored : (k m i : ℕ) (c : Access) → At S n k c → is_store c.doing ≡ true → covers S c.piece m i ≡ true → slice_index (bytes k) (i - (S.range c.piece).start) ≡ W.byte n m i
        stored k m i c at st cv = ap (λ l. slice_index l (i - (S.range c.piece).start)) (kept k c at st) ∙ G.makes n k m i c (s.loaded n) M.command at st cv (λ j a aj l. H.loaded n j a aj l (M.taken j a aj l))

        byte : (m i : ℕ) → ((c : Access) × InList (S.accesses n) c × ((is_store c.doing && covers S c.piece m i) ≡ true)) ⊎ ((c : Access) → InList (S.accesses n) c → (is_store c.doing && covers S c.piece m i) ≡ true → ⊥) → ByteOk S (put s.done n true) m i W (λ g. line g m i) (s.main m i)
        byte m i (inl q) =
            store_ok S F T rank R W s.done n m i (λ g. s.line g m i) (s.main m i) fresh (H.bytes m i) (put s.done n true) N' c hc (store_changes c.doing st) cv (none_after S F s P n c (touch c (store_long c.doing st) hc))
            (λ x l d. fresh (sym (over_done s n hc.0 c (long_no_load c.doing (store_long c.doing st))) ∙ P.left n hc.0 c x hc.1 M.command l (before_done x l (N'.grows x d))))
            (λ g. line g m i) st (clean m i c hc st cv)
            (Z.mine hc.0 c c.agent m i (record { at = hc.1; store = st; agent = refl; covered = cv }) ∙ ap Dirty (stored hc.0 m i c hc.1 st cv))
            (λ g ne. Z.others g m i (λ k d A. ne (A.agent ∙ ap (λ z. z.agent) (F.one n d c m i (k, A.at) hc (store_changes d.doing A.store) (store_changes c.doing st) A.covered cv))))
          where
            c : Access
            c = q.0

            hc : Has S n q.0
            hc = q.1

            st : is_store q.0.doing ≡ true
            st = (and_parts (is_store q.0.doing) (covers S q.0.piece m i) q.2).0

            cv : covers S q.0.piece m i ≡ true
            cv = (and_parts (is_store q.0.doing) (covers S q.0.piece m i) q.2).1

            before_done : (x : ℕ) → S.leaves n q.0 x ≡ true → (x ≡ n) ⊎ (s.done x ≡ true) → s.done x ≡ true
            before_done x l (inr d) = d
            before_done x l (inl e) = absurd (false≢true (sym (F.leaves_to n q.0 x l) ∙ ap S.is_command e ∙ M.command))
        byte m i (inr none) = subst (λ f. ByteOk S (put s.done n true) m i W f (s.main m i)) (fun_ext same)
            (spare_ok S F T rank R W s.done n m i (λ g. s.line g m i) (s.main m i) fresh (H.bytes m i) (put s.done n true) N' spares (λ g f. never_flushes g m i f) (up_done S F s P))
          where
            spares : Spares S n m i
            spares d hd ch cv = none d hd (and_from (is_store d.doing) (covers S d.piece m i) (command_change d.doing (F.of_command n d hd M.command) ch) cv)

            same : (g : ℕ) → (if S.shows n g m i then dropped (s.line g m i) else s.line g m i) ≡ line g m i
            same g = ap (λ z. if z then dropped (s.line g m i) else s.line g m i) (never_shows g m i) ∙ sym (Z.others g m i (λ k d A. none d (k, A.at) (and_from (is_store d.doing) (covers S d.piece m i) A.store A.covered)))

    -- A SYNCHRONIZING NODE

    pub sync_holds : (n : ℕ) (main : Bytes) (read : List ℕ) (marked : ℕ → ℕ → Bool) (layout : ℕ → ℕ) (owner : ℕ → Owner) → Syncs S s n main read marked layout owner → ((a : Access) → Touches S s n a → is_discard a.doing ≡ false → LoadsUndefined S s n a → ⊥) → ((a : Access) → Has S n a → loads a.doing ≡ true → InitializedBy S n a) → Holds S W found (did_sync S s n main read marked layout owner)
    sync_holds n main read marked layout owner Y sane initialized = record {
      past = record { entered = Q.entered; edges = Q.edges; left = Q.left; stored = Q.stored };
      bytes = λ m i. byte m i (find_access (λ d. changes d.doing && covers S d.piece m i) (S.accesses n));
      loaded = H.loaded;
      unmarked = no_marks n (λ c. Unit {0}) marked Y.marks (λ a u h. touch a h);
      hosts = λ x a h r d. hosts x a h r d (cases_eq x n);
    }
      where
        M : MaySync S s n
        M = Y.may

        fresh : s.done n ≡ true → ⊥
        fresh d = false≢true (sym M.fresh ∙ d)

        N' : Finishes s.done (put s.done n true) n
        N' = finishes s.done n fresh

        touch : (c : Access) → Has S n c → Touches S s n c
        touch c h = sync_touches S F s P n M c h

        Q : Past S (finished s n)
        Q = past_finish S F s P n fresh
            (λ k a at cl e. absurd (false≢true (sym M.sync ∙ cl)))
            M.edges
            M.left
            (λ k a at l. absurd (no_load a.doing (F.of_sync n a (k, at) M.sync) l))

        -- after its flush
        B : (m i : ℕ) → ByteOk S s.done m i W (cleans S s n m i) (Y.flushed m i)
        B m i = flush_ok S F rank R W s.done m i (λ g. s.line g m i) (s.main m i) (H.bytes m i) (Y.flushed m i) (λ g. S.flushes n g m i) (Y.flush m i)

        clean : (m i g : ℕ) → S.flushes n g m i ≡ true → is_dirty (cleans S s n m i g) ≡ false
        clean m i g e = ap (λ z. is_dirty (if z then cleaned (s.line g m i) else s.line g m i)) e ∙ cleaned_clean (s.line g m i)

        full : (c : Access) → Has S n c → c.alone ≡ false
        full c h = ⊎_elim (λ e. absurd (false≢true (sym (sync_no_store c.doing (F.of_sync n c h M.sync)) ∙ F.alone_store n c h e))) (λ e. e) (cases_Bool c.alone)

        -- what was stored to a byte that n touches is on main by now
        none : (m i : ℕ) (c : Access) → Has S n c → transfers c.doing ≡ false → covers S c.piece m i ≡ true → (g : ℕ) → is_dirty (cleans S s n m i g) ≡ false
        none m i c h keeps cv = left_clean S F T rank R W s.done n m i (cleans S s n m i) (Y.flushed m i) fresh (B m i) (clean m i) c h keeps (full c h) cv (none_after S F s P n c (touch c h)) (touch c h).prior

        -- a byte is junk where n discards it alone
        by_discard : (m i : ℕ) → JunkedAt S s n m i → (d : Access) × Has S n d × (is_discard d.doing ≡ true) × (covers S d.piece m i ≡ true)
        by_discard m i J = go J.why (cases_Bool (is_discard J.access.doing))
          where
            go : (is_discard J.access.doing ≡ true) ⊎ LoadsUndefined S s n J.access → (is_discard J.access.doing ≡ true) ⊎ (is_discard J.access.doing ≡ false) → (d : Access) × Has S n d × (is_discard d.doing ≡ true) × (covers S d.piece m i ≡ true)
            go (inl e) r = (J.access, J.has, e, J.covered)
            go (inr q) (inl e) = (J.access, J.has, e, J.covered)
            go (inr q) (inr e) = absurd (sane J.access (touch J.access J.has) e q)

        byte : (m i : ℕ) → ((d : Access) × InList (S.accesses n) d × ((changes d.doing && covers S d.piece m i) ≡ true)) ⊎ ((d : Access) → InList (S.accesses n) d → (changes d.doing && covers S d.piece m i) ≡ true → ⊥) → ByteOk S (put s.done n true) m i W (λ g. line_after S n s.line g m i) (main m i)
        byte m i (inr f) =
            subst (λ x. ByteOk S (put s.done n true) m i W (λ g. line_after S n s.line g m i) x) (sym same)
            (spare_ok S F T rank R W s.done n m i (cleans S s n m i) (Y.flushed m i) fresh (B m i) (put s.done n true) N' (λ d hd k at. f d hd (and_from (changes d.doing) (covers S d.piece m i) k at)) (clean m i) (up_done S F s P))
          where
            same : main m i ≡ Y.flushed m i
            same = ⊎_elim (λ e. e) (λ J. let d = by_discard m i J in absurd (f d.0 d.1 (and_from (changes d.0.doing) (covers S d.0.piece m i) (discard_changes d.0.doing d.2) d.3))) (Y.main_is m i)
        byte m i (inl t) =
            turn_ok S F T rank R W s.done n m i (cleans S s n m i) (Y.flushed m i) fresh (B m i) (put s.done n true) N' d hd dc cv (none_after S F s P n d (touch d hd)) never (main m i) ds (none m i d hd (change_plain d.doing dc) cv) kept
          where
            d : Access
            d = t.0

            hd : Has S n t.0
            hd = t.1

            dc : changes t.0.doing ≡ true
            dc = (and_parts (changes t.0.doing) (covers S t.0.piece m i) t.2).0

            cv : covers S t.0.piece m i ≡ true
            cv = (and_parts (changes t.0.doing) (covers S t.0.piece m i) t.2).1

            ds : is_store t.0.doing ≡ false
            ds = sync_no_store t.0.doing (F.of_sync n t.0 hd M.sync)

            never : (y : ℕ) → Path S.edge n y → put s.done n true y ≡ true → ⊥
            never y p f = ⊎_elim (λ e. no_cycle S F rank R n (subst (λ z. Path S.edge n z) e p)) (λ q. fresh (path_done S F s P n y p q)) (N'.grows y f)

            kept : stores t.0.doing ≡ true → main m i ≡ W.byte n m i
            kept k = same ∙ keep_sees S F T rank R W found G s H n t.0 (touch t.0 hd) lo m i cv (cleans S s n m i) (Y.flushed m i) (B m i) (none m i t.0 hd (change_plain t.0.doing dc) cv) dc (initialized t.0 hd lo)
              where
                lo : loads t.0.doing ≡ true
                lo = stores_loads t.0.doing k ds

                same : main m i ≡ Y.flushed m i
                same = ⊎_elim (λ e. e) (λ J. let b = by_discard m i J in absurd (discard_stores_not b.0.doing b.2 (ap (λ z. stores z.doing) (F.one n b.0 t.0 m i b.1 hd (discard_changes b.0.doing b.2) dc b.3 cv) ∙ k))) (Y.main_is m i)

        -- the host, or the outside, finds main as it is to be
        got : (a : Access) → Has S n a → reads a.doing ≡ true → read ≡ found n a.piece
        got a h r = go (Y.read_is a h r)
          where
            lo : loads a.doing ≡ true
            lo = reads_loads a.doing r

            reads_not : (d : Doing) → reads d ≡ true → is_discard d ≡ false
            reads_not Read e = refl
            reads_not TakeOver e = refl
            reads_not d e = absurd (false≢true e)

            -- n changes no byte of its piece
            same : (m i : ℕ) → covers S a.piece m i ≡ true → main m i ≡ Y.flushed m i
            same m i cv = ⊎_elim (λ e. e) (λ J. let b = by_discard m i J in absurd (F.reads_alone n a b.0 h b.1 r (discard_changes b.0.doing b.2))) (Y.main_is m i)

            sees : (m i : ℕ) → covers S a.piece m i ≡ true → InitializedBy S n a → (w : ℕ → ℕ → ℕ) → ((v : ℕ) → ByteOk S s.done m i W (cleans S s n m i) v → ((g : ℕ) → is_dirty (cleans S s n m i g) ≡ false) → v ≡ w m i) → main m i ≡ w m i
            sees m i cv f w k = same m i cv ∙ k (Y.flushed m i) (B m i) (none m i a h (load_plain a.doing lo) cv)

            all : InitializedBy S n a → bytes_in S main a.piece ≡ found n a.piece
            all (inl D) = same_bytes S main (W.byte D.0) a.piece (λ m i cv. sees m i cv (inl D) (W.byte D.0) (λ v b q. main_initialized S F T rank R W found G s H n a (touch a h) lo m i cv (cleans S s n m i) v b q D.0 D.1 D.2)) ∙ G.initialized n D.0 a D.1 h lo D.2
            all (inr I) = same_bytes S main W.start a.piece (λ m i cv. sees m i cv (inr I) W.start (λ v b q. main_starts S F T rank R W found G s H n a (touch a h) lo m i cv (cleans S s n m i) v b q I)) ∙ G.starts n a h lo I

            go : LoadsUndefined S s n a ⊎ (read ≡ bytes_in S main a.piece) → read ≡ found n a.piece
            go (inl e) = absurd (sane a (touch a h) (reads_not a.doing r) e)
            go (inr e) = e ∙ all (initialized a h lo)

        hosts : (x : ℕ) (a : Access) → Has S x a → reads a.doing ≡ true → put s.done n true x ≡ true → (x ≡ n) ⊎ (x ≡ n → ⊥) → put s.host n read x ≡ found x a.piece
        hosts x a h r d (inl e) = put_here s.host n x read e ∙ got a (subst (λ z. Has S z a) e h) r ∙ ap (λ z. found z a.piece) (sym e)
        hosts x a h r d (inr e) = put_other s.host n x read e ∙ H.hosts x a h r (sym (put_other s.done n x true e) ∙ d)

    -- MOVES OF CACHES

    moved : (main : Bytes) (line : Lines) → ((m i : ℕ) → ByteOk S s.done m i W (λ g. line g m i) (main m i)) → Holds S W found (record s { main = main; line = line })
    moved main line B = record {
      past = record { entered = P.entered; edges = P.edges; left = P.left; stored = P.stored };
      bytes = B;
      loaded = H.loaded;
      unmarked = H.unmarked;
      hosts = H.hosts;
    }

    pub drop_holds : (agent : ℕ) (range : MemoryRange) → Holds S W found (record s { line = dropped_in agent range s.line })
    drop_holds agent range = moved s.main (dropped_in agent range s.line) (λ m i. drop_ok S F rank R W s.done m i (λ g. s.line g m i) (s.main m i) (H.bytes m i) (λ g. (g == agent) && is_in range m i))

    pub fill_holds : (agent : ℕ) (range : MemoryRange) → Holds S W found (record s { line = filled_from agent range s.main s.line })
    fill_holds agent range = moved s.main (filled_from agent range s.main s.line) (λ m i. fill_ok S F rank R W s.done m i (λ g. s.line g m i) (s.main m i) (H.bytes m i) (λ g. (g == agent) && is_in range m i))

    pub write_back_holds : (agent : ℕ) (range : MemoryRange) → Holds S W found (record s { main = wrote_main agent range s.line s.main; line = wrote_back agent range s.line })
    write_back_holds agent range = moved (wrote_main agent range s.line s.main) (wrote_back agent range s.line) (λ m i. at m i (is_in range m i))
      where
        at : (m i : ℕ) (b : Bool) → ByteOk S s.done m i W (λ g. if (g == agent) && b then cleaned (s.line g m i) else s.line g m i) (if b then written (s.line agent m i) (s.main m i) else s.main m i)
        at m i b = flush_ok S F rank R W s.done m i (λ g. s.line g m i) (s.main m i) (H.bytes m i) (if b then written (s.line agent m i) (s.main m i) else s.main m i) (λ g. (g == agent) && b) (to b)
          where
            to : (b : Bool) → FlushTo (λ g. (g == agent) && b) (λ g. s.line g m i) (s.main m i) (if b then written (s.line agent m i) (s.main m i) else s.main m i)
            to true = written_to agent (λ g. s.line g m i) (s.main m i) (λ g. (g == agent) && true) (and_from (agent == agent) true (eq-eqb agent agent refl) refl) (λ g e. eqb-true g agent (and_parts (g == agent) true e).0)
            to false = inr ((λ g e. absurd (false≢true (and_parts (g == agent) false e).1)), refl)
