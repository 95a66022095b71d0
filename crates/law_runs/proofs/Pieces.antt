-- Layouts and owners are those that the last done accesses left.
use Rattle.std.proofs.Common.{◌≡◌, ◌≢◌, ◌⊎◌, inl, inr, ℕ, Bool, true, false, Option, Some, None, refl, sym, ap, ◌∙◌, subst, ⊎_elim}
use Rattle.std.specs.Option.{is_some, option_map_or}
use Rattle.std.proofs.lemmas.Bool.{false≢true}
use Rattle.law_runs.proofs.Absence.{some_same}
use Rattle.law_runs.proofs.Control.{Past, Touches, over_done, over_before, not_torn, no_load}
use Rattle.law_runs.proofs.Formed.{Ranked}
use Rattle.law_runs.proofs.Invariant.{Finishes}
use Rattle.law_runs.specs.Formed.{Formed}
use Rattle.law_runs.specs.Found.{LastOf, NoneOf, LayoutBy, OwnerBy, StateValid}
use Rattle.law_runs.specs.Orders.{Before, Synchronized}
use Rattle.law_runs.specs.Runs.{LoadsUndefined, Takes, Lays, Hands}
use Rattle.law_runs.specs.States.{State, Owner, Unused, Left, over}
use Rattle.law_runs.specs.Systems.{Access, System, Has, sets_layout, sets_owner}

-- what clashes with every access of its piece, and is made by synchronizing nodes
pub record Sorted (S : System) (sort : Access → Bool) : Type 0 where
  pub clash : (v n : ℕ) (a b : Access) → Has S v a → Has S n b → sort a ≡ true → a.piece ≡ b.piece → S.clash a b ≡ true
  pub sync : (n : ℕ) (a : Access) → Has S n a → sort a ≡ true → S.is_command n ≡ false

pub by_layout : (S : System) → Formed S → Sorted S sets_layout
by_layout S F = record { clash = F.clash_lays; sync = F.lays_sync }

pub by_owner : (S : System) → Formed S → Sorted S sets_owner
by_owner S F = record { clash = F.clash_hands; sync = F.hands_sync }

module _ (S : System) (sort : Access → Bool) (done : ℕ → Bool) (p : ℕ) where
  -- of the done accesses of the sort and of the piece, d of t is the last
  pub record LastDone (t : ℕ) (d : Access) : Type 0 where
    pub finished : done t ≡ true
    pub has : Has S t d
    pub sorted : sort d ≡ true
    pub piece : d.piece ≡ p
    pub top : (v : ℕ) (c : Access) → done v ≡ true → Has S v c → sort c ≡ true → c.piece ≡ p → (v ≡ t) ⊎ Before S v c t d

  abbrev pub NoneDone : Type 0
  NoneDone = (v : ℕ) (c : Access) → done v ≡ true → Has S v c → sort c ≡ true → c.piece ≡ p → ⊥

pub record PiecesOk (S : System) (first : ℕ → Option ℕ) (done : ℕ → Bool) (layout : ℕ → ℕ) (owner : ℕ → Owner) : Type 0 where
  pub laid : (p t l : ℕ) (d : Access) → LastDone S sets_layout done p t d → d.lays ≡ Some l → layout p ≡ l
  pub bare : (p : ℕ) → NoneDone S sets_layout done p → layout p ≡ S.first_layout p
  pub given : (p t : ℕ) (o : Option ℕ) (d : Access) → LastDone S sets_owner done p t d → d.hands ≡ Some o → owner p ≡ Left o
  pub unclaimed : (p : ℕ) → S.exclusive p ≡ true → NoneDone S sets_owner done p → (owner p ≡ Unused) ⊎ (owner p ≡ Left (first p))

abbrev is_left : Owner → Bool
is_left Unused = false
is_left (Left o) = true

abbrev left_value : Owner → Option ℕ
left_value Unused = None
left_value (Left o) = o

sorted_some : (o : Option ℕ) (l : ℕ) → o ≡ Some l → is_some o ≡ true
sorted_some o l e = ap is_some e

-- BEFORE THE FIRST EVENT

pub pieces_opened : (S : System) (first : ℕ → Option ℕ) → ((p : ℕ) (o : Option ℕ) → S.first_owner p ≡ Some o → first p ≡ o) → PiecesOk S first (λ n. false) S.first_layout (λ p. option_map_or Left (S.first_owner p) Unused)
pieces_opened S first is = record {
  laid = λ p t l d L. absurd (false≢true L.finished);
  bare = λ p M. refl;
  given = λ p t o d L. absurd (false≢true L.finished);
  unclaimed = λ p x M. go p (S.first_owner p) refl;
}
  where
    go : (p : ℕ) (o : Option (Option ℕ)) → S.first_owner p ≡ o → (option_map_or Left o Unused ≡ Unused) ⊎ (option_map_or Left o Unused ≡ Left (first p))
    go p None e = inl refl
    go p (Some o) e = inr (ap Left (sym (is p o e)))

-- WHAT AN ACCESS THAT MAY BE MADE FINDS

module _ (S : System) (F : Formed S) (T : Synchronized S) (s : State) (P : Past S s) (n : ℕ) (a : Access) (t : Touches S s n a) (sort : Access → Bool) (so : Sorted S sort) where
  over_sort : (v : ℕ) (c : Access) (h : Has S v c) → sort c ≡ true → over s v h.0 c ≡ s.done v
  over_sort v c h k = over_done s v h.0 c (no_load c.doing (F.of_sync v c h (so.sync v c h k)))

  other : (v : ℕ) → s.done v ≡ true → v ≢ n
  other v f e = t.was (subst (λ x. s.done x ≡ true) e f)

  -- a done access of the sort, of the piece, is before it
  first : (v : ℕ) (c : Access) → s.done v ≡ true → Has S v c → sort c ≡ true → c.piece ≡ a.piece → Before S v c n a
  first v c f h k e = go (T.ordered v n c a h t.has (other v f) (so.clash v n c a h t.has k e))
    where
      go : Before S v c n a ⊎ Before S n a v c → Before S v c n a
      go (inl b) = b
      go (inr b) = absurd (t.hidden (over_before S F s P n t.has.0 v h.0 a c t.has.1 h.1 (over_sort v c h k ∙ f) b))

  done_last : (w : ℕ) (d : Access) → LastOf S sort n a w d → s.done w ≡ true
  done_last w d L = sym (over_sort w d L.has L.sorted) ∙ t.ahead w L.has.0 d L.has.1 L.apart L.before

  pub last_done : (w : ℕ) (d : Access) → LastOf S sort n a w d → LastDone S sort s.done a.piece w d
  last_done w d L = record { finished = done_last w d L; has = L.has; sorted = L.sorted; piece = L.piece; top = λ v c f h k e. L.last v c h (other v f) k e (first v c f h k e) }

  pub none_done : NoneOf S sort n a → NoneDone S sort s.done a.piece
  none_done M v c f h k e = M v c h (other v f) k e (first v c f h k e)

module _ (S : System) (F : Formed S) (T : Synchronized S) (X : StateValid S) (s : State) (P : Past S s) (K : PiecesOk S X.first s.done s.layout s.owner) (n : ℕ) where
  pub not_undefined : (a : Access) → Touches S s n a → LoadsUndefined S s n a → ⊥
  not_undefined a t (inl q) = not_torn S F s P T n a t q
  not_undefined a t (inr (inl q)) = q.2 (go (X.layout n a q.0 t.has q.1))
    where
      go : LayoutBy S n a q.0 → s.layout a.piece ≡ q.0
      go (inl r) = K.laid a.piece r.0 q.0 r.1 (last_done S F T s P n a t sets_layout (by_layout S F) r.0 r.1 r.2) r.3
      go (inr r) = K.bare a.piece (none_done S F T s P n a t sets_layout (by_layout S F) r.0) ∙ r.1
  not_undefined a t (inr (inr q)) = q.5 (go (X.owner n a t.has q.2))
    where
      -- the owner is the family of n
      same : s.owner a.piece ≡ Left (S.family n) → q.0 ≡ q.1
      same e = some_same (ap left_value (sym q.3 ∙ e) ∙ q.4)

      go : OwnerBy S X.first n a (S.family n) → q.0 ≡ q.1
      go (inl r) = same (K.given a.piece r.0 (S.family n) r.1 (last_done S F T s P n a t sets_owner (by_owner S F) r.0 r.1 r.2) r.3)
      go (inr r) = ⊎_elim
          (λ e. absurd (false≢true (ap is_left (sym e ∙ q.3))))
          (λ e. same (e ∙ ap Left r.1))
          (K.unclaimed a.piece (F.needs_exclusive n a q.2) (none_done S F T s P n a t sets_owner (by_owner S F) r.0))

  -- WHAT A NODE LEAVES

  module _ (makes : Access → Type 0) (touch : (a : Access) → Has S n a → makes a → Touches S s n a) where
    pub stays_given : (p : ℕ) (o : Option ℕ) (owner : Owner) → s.owner p ≡ Left o → Takes S s n makes p owner → owner ≡ Left o
    stays_given p o owner e (inl q) = q ∙ e
    stays_given p o owner e (inr q) = absurd (false≢true (ap is_left (sym q.0 ∙ e)))

    pub stays_unclaimed : (p : ℕ) (owner : Owner) → S.exclusive p ≡ true → NoneDone S sets_owner s.done p → Takes S s n makes p owner → (owner ≡ Unused) ⊎ (owner ≡ Left (X.first p))
    stays_unclaimed p owner x M (inl q) = ⊎_elim (λ e. inl (q ∙ e)) (λ e. inr (q ∙ e)) (K.unclaimed p x M)
    stays_unclaimed p owner x M (inr q) = go q.2.4
      where
        a : Access
        a = q.2.0

        by : OwnerBy S X.first n q.2.0 (S.family n) → S.family n ≡ X.first p
        by (inl r) = absurd (M r.0 r.1 (done_last S F T s P n q.2.0 (touch q.2.0 q.2.1 q.2.2) sets_owner (by_owner S F) r.0 r.1 r.2) r.2.has r.2.sorted (r.2.piece ∙ q.2.3))
        by (inr r) = sym r.1 ∙ ap X.first q.2.3

        go : (S.needs_owner n q.2.0 ≡ true) ⊎ (S.exclusive p ≡ false) → (owner ≡ Unused) ⊎ (owner ≡ Left (X.first p))
        go (inl e) = inr (q.1 ∙ ap Left (by (X.owner n q.2.0 q.2.1 e)))
        go (inr e) = absurd (false≢true (sym e ∙ x))

    -- a load
    pub pieces_taken : (owner : ℕ → Owner) → ((p : ℕ) → Takes S s n makes p (owner p)) → PiecesOk S X.first s.done s.layout owner
    pieces_taken owner takes = record {
      laid = K.laid;
      bare = K.bare;
      given = λ p t o d L e. stays_given p o (owner p) (K.given p t o d L e) (takes p);
      unclaimed = λ p x M. stays_unclaimed p (owner p) x M (takes p);
    }

  module _ (done' : ℕ → Bool) (N : Finishes s.done done' n) where
    module _ (sort : Access → Bool) (p : ℕ) where
      -- n has no access of the sort on the piece
      last_was : ((c : Access) → Has S n c → sort c ≡ true → c.piece ≡ p → ⊥) → (t : ℕ) (d : Access) → LastDone S sort done' p t d → LastDone S sort s.done p t d
      last_was w t d L = record { finished = go (N.grows t L.finished); has = L.has; sorted = L.sorted; piece = L.piece; top = λ v c f. L.top v c (N.stays v f) }
        where
          go : (t ≡ n) ⊎ (s.done t ≡ true) → s.done t ≡ true
          go (inl e) = absurd (w d (subst (λ x. Has S x d) e L.has) L.sorted L.piece)
          go (inr f) = f

      none_was : NoneDone S sort done' p → NoneDone S sort s.done p
      none_was M v c f = M v c (N.stays v f)

    -- the stores of a command
    pub pieces_stored : S.is_command n ≡ true → (makes : Access → Type 0) → ((a : Access) → Has S n a → makes a → Touches S s n a) → (owner : ℕ → Owner) → ((p : ℕ) → Takes S s n makes p (owner p)) → PiecesOk S X.first done' s.layout owner
    pieces_stored cl makes touch owner takes = record {
      laid = λ p t l d L e. K.laid p t l d (last_was sets_layout p (λ c h k q. false≢true (sym (F.lays_sync n c h k) ∙ cl)) t d L) e;
      bare = λ p M. K.bare p (none_was sets_layout p M);
      given = λ p t o d L e. stays_given makes touch p o (owner p) (K.given p t o d (last_was sets_owner p (λ c h k q. false≢true (sym (F.hands_sync n c h k) ∙ cl)) t d L) e) (takes p);
      unclaimed = λ p x M. stays_unclaimed makes touch p (owner p) x (none_was sets_owner p M) (takes p);
    }

    -- a synchronizing node: where it has an access of the sort, the last is its own
    module _ (rank : ℕ → ℕ) (R : Ranked S rank) where
      last_is : (sort : Access → Bool) → Sorted S sort → (p t : ℕ) (a d : Access) → Has S n a → sort a ≡ true → a.piece ≡ p → LastDone S sort done' p t d → t ≡ n
      last_is sort so p t a d h k e L = go (L.top n a N.self h k e)
        where
          to : t ≡ n → t ≡ n
          to q = q

          later : Before S n a t d → (t ≡ n) ⊎ (s.done t ≡ true) → t ≡ n
          later b (inl q) = q
          later b (inr f) = absurd (N.was (sym (over_done s n h.0 a (no_load a.doing (F.of_sync n a h (so.sync n a h k)))) ∙ over_before S F s P n h.0 t L.has.0 a d h.1 L.has.1 (over_done s t L.has.0 d (no_load d.doing (F.of_sync t d L.has (so.sync t d L.has L.sorted))) ∙ f) b))

          go : (n ≡ t) ⊎ Before S n a t d → t ≡ n
          go (inl q) = sym q
          go (inr b) = later b (N.grows t L.finished)

      pub pieces_synced : ((a : Access) → Has S n a → Touches S s n a) → (layout : ℕ → ℕ) (owner : ℕ → Owner) → ((p : ℕ) → Lays S s n p (layout p)) → ((p : ℕ) → Hands S s n p (owner p)) → PiecesOk S X.first done' layout owner
      pieces_synced touch layout owner lays hands = record {
        laid = λ p t l d L e. lay p t l d L e (lays p);
        bare = λ p M. bared p M (lays p);
        given = λ p t o d L e. give p t o d L e (hands p);
        unclaimed = λ p x M. claim p x M (hands p);
      }
        where
          lay : (p t l : ℕ) (d : Access) → LastDone S sets_layout done' p t d → d.lays ≡ Some l → Lays S s n p (layout p) → layout p ≡ l
          lay p t l d L e (inl q) =
              let k : sets_layout q.0 ≡ true = ap is_some q.2 in
              let same : t ≡ n = last_is sets_layout (by_layout S F) p t q.0 d q.1 k q.3 L in
              some_same (sym q.2 ∙ F.one_lays n q.0 d q.1 (subst (λ z. Has S z d) same L.has) k L.sorted (q.3 ∙ sym L.piece) ∙ e)
          lay p t l d L e (inr q) = q.0 ∙ K.laid p t l d (last_was sets_layout p (λ c h k r. none c h k r (c.lays) refl) t d L) e
            where
              none : (c : Access) → Has S n c → sets_layout c ≡ true → c.piece ≡ p → (o : Option ℕ) → c.lays ≡ o → ⊥
              none c h k r None f = false≢true (ap is_some (sym f) ∙ k)
              none c h k r (Some m) f = q.1 c m h f r

          bared : (p : ℕ) → NoneDone S sets_layout done' p → Lays S s n p (layout p) → layout p ≡ S.first_layout p
          bared p M (inl q) = absurd (M n q.0 N.self q.1 (ap is_some q.2) q.3)
          bared p M (inr q) = q.0 ∙ K.bare p (none_was sets_layout p M)

          give : (p t : ℕ) (o : Option ℕ) (d : Access) → LastDone S sets_owner done' p t d → d.hands ≡ Some o → Hands S s n p (owner p) → owner p ≡ Left o
          give p t o d L e (inl q) =
              let k : sets_owner q.0 ≡ true = ap is_some q.3 in
              let same : t ≡ n = last_is sets_owner (by_owner S F) p t q.0 d q.2 k q.4 L in
              q.5 ∙ ap Left (some_same (sym q.3 ∙ F.one_hands n q.0 d q.2 (subst (λ z. Has S z d) same L.has) k L.sorted (q.4 ∙ sym L.piece) ∙ e))
          give p t o d L e (inr q) = stays_given (λ a. Unit {0}) (λ a h u. touch a h) p o (owner p) (K.given p t o d (last_was sets_owner p (λ c h k r. none c h k r c.hands refl) t d L) e) q.0
            where
              none : (c : Access) → Has S n c → sets_owner c ≡ true → c.piece ≡ p → (o : Option (Option ℕ)) → c.hands ≡ o → ⊥
              none c h k r None f = false≢true (ap is_some (sym f) ∙ k)
              none c h k r (Some m) f = q.1 c m h f r

          claim : (p : ℕ) → S.exclusive p ≡ true → NoneDone S sets_owner done' p → Hands S s n p (owner p) → (owner p ≡ Unused) ⊎ (owner p ≡ Left (X.first p))
          claim p x M (inl q) = absurd (M n q.0 N.self q.2 (ap is_some q.3) q.4)
          claim p x M (inr q) = stays_unclaimed (λ a. Unit {0}) (λ a h u. touch a h) p (owner p) x (none_was sets_owner p M) q.0
