-- What is in order stands so in every order of the nodes; and accesses of one command have the same ways.
use Rattle.std.proofs.Common.{◌≡◌, ◌≢◌, ◌⊎◌, inl, inr, ℕ, ◌<◌, Bool, true, false, not, nat_lt, List, [], ◌∷◌, length, Option, Some, None, refl, sym, ap, ◌∙◌, subst, ⊎_elim}
use Rattle.std.proofs.lemmas.Bool.{and_from, cases_eq, cases_lt, lt-ltb, not_from_false}
use Rattle.std.proofs.lemmas.List.{get_or_past}
use Rattle.base.proofs.Booleans.{clash}
use Rattle.check_order.proofs.InOrder.{up_to, past, goes_forward, sync_is_path}
use Rattle.check_order.proofs.Lines.{sync_no_host}
use Rattle.check_order.specs.Edges.{is_sync, is_host}
use Rattle.check_order.specs.Nodes.{no_node}
use Rattle.check_order.specs.Orders.{Among, before_in, Earlier, is_queued, Order}
use Rattle.check_access.specs.ValidView.{ValidView, Has, Precedes}
use Rattle.check_access.specs.Views.{View}
use Rattle.check_access.specs.declared.access.Access.{Access}
use Rattle.check_access.specs.declared.access.AccessKind.{AccessKind}
use Rattle.check_access_order.proofs.NodeKinds.{host_alone, sync_alone}
use Rattle.check_access_order.proofs.Sites.{Site, site, barrier_stage, has_within}
use Rattle.check_access_order.proofs.Ways.{at, waits, lets}
use Rattle.check_access_order.specs.Order.{UpTo, LeavesIn, EntersIn, InOrder}
use Rattle.check_access_order.specs.Single.{Single}
use Rattle.check_access_order.specs.Stages.{stage_of}
use Rattle.check_access_order.specs.Ways.{HasWays}

then_far : (x y u : ℕ) (fy fn : List ℕ) → (u ≡ y → ⊥) → (Among y fn → Among x fy → Among x fn) → (y ≡ u) ⊎ Among y fn → (x ≡ u) ⊎ Among x fy → (x ≡ u) ⊎ Among x fn
then_far x y u fy fn e ih a (inl q) = inl q
then_far x y u fy fn e ih (inl p) (inr q) = absurd (e (sym p))
then_far x y u fy fn e ih (inr p) (inr q) = inr (ih p q)

earlier_then : (list : List ℕ) (x y n : ℕ) → Earlier list x y → Earlier list y n → Earlier list x n
earlier_then [] x y n h k = absurd k
earlier_then (u ∷ list) x y n h k =
    ⊎_elim (λ (e : u ≡ n). absurd (subst (λ l. Among y l) (up_to u n list e) k))
    (λ (e : u ≡ n → ⊥).
    subst (λ l. Among x l) (sym (past u n list e))
    (⊎_elim (λ (p : u ≡ y). absurd (subst (λ l. Among x l) (up_to u y list p) h))
    (λ (p : u ≡ y → ⊥). then_far x y u (before_in list y) (before_in list n) p (λ b a. earlier_then list x y n a b) (subst (λ l. Among y l) (past u n list e) k) (subst (λ l. Among x l) (past u y list p) h))
    (cases_eq u y)))
    (cases_eq u n)

-- the same place, or earlier
abbrev Not_later : List ℕ → ℕ → ℕ → Type 0
Not_later order x y = (x ≡ y) ⊎ Earlier order x y

then_on : (order : List ℕ) (x y z : ℕ) → Not_later order x y → Not_later order y z → Not_later order x z
then_on order x y z (inl e) q = subst (λ w. Not_later order w z) (sym e) q
then_on order x y z (inr p) (inl e) = inr (subst (λ w. Earlier order x w) e p)
then_on order x y z (inr p) (inr q) = inr (earlier_then order x y z p q)

module _ (V : View) where
  pub sync_within : (x : ℕ) → is_sync (at V x).kind ≡ true → x < length V.nodes
  sync_within x h = ⊎_elim (λ lt. lt) (λ ge. absurd (clash (sym (ap (λ z. is_sync z.kind) (get_or_past V.nodes x no_node ge)) ∙ h))) (cases_lt x (length V.nodes))

  queued : (x : ℕ) → x < length V.nodes → is_host (at V x).kind ≡ false → is_queued V.nodes x ≡ true
  queued x lt h = and_from (nat_lt x (length V.nodes)) (not (is_host (at V x).kind)) (lt-ltb x (length V.nodes) lt) (not_from_false (is_host (at V x).kind) h)

  module _ (A : ValidView V) (order : List ℕ) (O : Order V.nodes order) where
    leaves_later : (o : Option ℕ) (n x : ℕ) → LeavesIn V.nodes o n x → Not_later order n x
    leaves_later None n x l = inl l
    leaves_later (Some stage) n x l =
        let w = waits V stage n x l in
        let lt = sync_within x w.sync in
        inr (O.turns.queue n x (O.all x lt) (queued x lt (sync_no_host (at V x).kind w.sync)) w.rising w.queue)

    enters_later : (o : Option ℕ) (y m : ℕ) (b : Access) → Has V m b → stage_of b.kind ≡ o → EntersIn V.nodes o y m → Not_later order y m
    enters_later None y m b h e l = inl l
    enters_later (Some stage) y m b h e l =
        let w = lets V stage y m l in
        let lt = has_within V m b A h in
        inr (O.turns.queue y m (O.all m lt) (queued m lt (no_read (is_host (at V m).kind) refl)) w.rising w.queue)
      where
        no_read : (t : Bool) → is_host (at V m).kind ≡ t → is_host (at V m).kind ≡ false
        no_read false q = q
        no_read true q = absurd (none (sym (ap (λ k. stage_of k) (A.host m h.0 b h.1 q)) ∙ e))
          where
            none : None ≡ Some stage → ⊥
            none z = cc

    up_to_later : (x y : ℕ) → UpTo V x y → Not_later order x y
    up_to_later x y (inl e) = inl e
    up_to_later x y (inr p) = inr (goes_forward V.nodes order O x y (sync_is_path V.nodes x y p))

    pub order_forward : (n m : ℕ) (a b : Access) → Has V m b → n ≢ m → InOrder V n a m b → Earlier order n m
    order_forward n m a b hb apart (x, y, l, u, e) = strict
        (then_on order n x m (leaves_later (stage_of a.kind) n x l)
        (then_on order x y m (up_to_later x y u) (enters_later (stage_of b.kind) y m b hb refl e)))
      where
        strict : Not_later order n m → Earlier order n m
        strict (inl q) = absurd (apart q)
        strict (inr p) = p

  -- WAYS

  module _ (A : ValidView V) (S : Single V) where
    -- by one node all is in one stage, or in none
    same_stage : (n : ℕ) (j k : AccessKind) → Site V n j → Site V n k → stage_of j ≡ stage_of k
    same_stage n j k (inl c) (inl d) = c.stage ∙ sym d.stage
    same_stage n j k (inl c) (inr (inl d)) = absurd (clash (sym (sync_alone (at V n).kind d.node) ∙ c.node))
    same_stage n j k (inl c) (inr (inr d)) = absurd (clash (sym (host_alone (at V n).kind d.node) ∙ c.node))
    same_stage n j k (inr (inl c)) (inl d) = absurd (clash (sym (sync_alone (at V n).kind c.node) ∙ d.node))
    same_stage n j k (inr (inl c)) (inr (inl d)) = barrier_stage j c.barrier ∙ sym (barrier_stage k d.barrier)
    same_stage n j k (inr (inl c)) (inr (inr d)) = barrier_stage j c.barrier ∙ sym (ap (λ z. stage_of z) d.read)
    same_stage n j k (inr (inr c)) (inl d) = absurd (clash (sym (host_alone (at V n).kind c.node) ∙ d.node))
    same_stage n j k (inr (inr c)) (inr (inl d)) = ap (λ z. stage_of z) c.read ∙ sym (barrier_stage k d.barrier)
    same_stage n j k (inr (inr c)) (inr (inr d)) = ap (λ z. stage_of z) c.read ∙ sym (ap (λ z. stage_of z) d.read)

    alike : (n : ℕ) (a c : Access) → Precedes V n a c → stage_of a.kind ≡ stage_of c.kind
    alike n a c (i, j, lt, ha, hc) = same_stage n a.kind c.kind (site V A S n a (i, ha)) (site V A S n c (j, hc))

    pub ways : HasWays V
    ways = record {
      leaves = λ n x a c p h e l. subst (λ o. LeavesIn V.nodes o n x) (sym (alike n a c p)) l;
      enters = λ n y c b p h e l. subst (λ o. EntersIn V.nodes o y n) (alike n c b p) l;
    }
