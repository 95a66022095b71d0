-- Where commands have one stage, the same accesses are synchronized by both orders, and the first flaw is the same.
use Rattle.std.proofs.Common.{◌≢◌, inl, inr, ℕ, List, sym, ⊎_elim}
use Rattle.law_nodes.specs.Synchronized as nodes
use Rattle.check_sync.specs.Synchronized.{Synchronized, PairSynchronized, Flawed, FirstFlaw}
use Rattle.check_sync.specs.declared.sync_hazard.Flaw.{Flaw}
use Rattle.check_sync.specs.declared.sync_hazard.Flaw.TheVariants.{Unordered, NotAvailable, NotVisible}
use Rattle.check_access.specs.ValidView.{ValidView, Has, NodeAccessAt, Listed}
use Rattle.check_access.specs.Views.{View}
use Rattle.check_access.specs.declared.node_access.NodeAccess.{NodeAccess}
use Rattle.law_nodes.proofs.Passed.{passed_new, passed_old, available_new, available_old}
use Rattle.law_nodes.proofs.Sites.{in_order_new, in_order_old}
use Rattle.law_nodes.specs.Laws.{SamePair, SameSynchronized, SameFirst, SameSound}
use Rattle.check_access_order.specs.Single.{Single}

module _ (V : View) (A : ValidView V) (S : Single V) where
  pub same_pair : SamePair V
  same_pair n m a b ha hb apart = record {
    ordered = (in_order_old V A S n m a b ha hb apart, in_order_new V A S n m a b ha hb);
    available = λ c. (available_old V A S n m a b ha hb c, available_new V A S n m a b ha hb c);
    passed = λ c t. (passed_old V A S n m a b ha hb c t, passed_new V A S n m a b ha hb c t);
  }

  to_old : Synchronized V → nodes.Synchronized V
  to_old T = record {
    ordered = λ x y a b ha hb c. ⊎_elim
        (λ p. inl (in_order_old V A S x y a b ha hb c.apart p))
        (λ p. inr (in_order_old V A S y x b a hb ha (λ e. c.apart (sym e)) p))
        (T.ordered x y a b ha hb c);
    passed = λ x y a b ha hb c p k t. passed_old V A S x y a b ha hb k t (T.passed x y a b ha hb c (in_order_new V A S x y a b ha hb p) k t);
  }

  to_new : nodes.Synchronized V → Synchronized V
  to_new T = record {
    ordered = λ x y a b ha hb c. ⊎_elim
        (λ p. inl (in_order_new V A S x y a b ha hb p))
        (λ p. inr (in_order_new V A S y x b a hb ha p))
        (T.ordered x y a b ha hb c);
    passed = λ x y a b ha hb c p k t. passed_new V A S x y a b ha hb k t (T.passed x y a b ha hb c (in_order_old V A S x y a b ha hb c.apart p) k t);
  }

  pub same_synchronized : SameSynchronized V
  same_synchronized = (to_old, to_new)

  pub same_sound : SameSound V
  same_sound order = (
    λ S. record { order_is = S.order_is; synchronized = to_old S.synchronized; state_valid = S.state_valid; initialized = S.initialized },
    λ S. record { order_is = S.order_is; synchronized = to_new S.synchronized; state_valid = S.state_valid; initialized = S.initialized },
  )

  -- THE FIRST PAIR

  module _ (accesses : List NodeAccess) (L : Listed V accesses) where
    pub pair_old : (i j : ℕ) (a b : NodeAccess) → NodeAccessAt accesses i a → NodeAccessAt accesses j b → PairSynchronized V a b → nodes.PairSynchronized V a b
    pair_old i j a b ha hb h c =
        let p = h c in
        (in_order_old V A S a.node b.node a.access b.access (L.has i a ha) (L.has j b hb) c.apart p.0, λ k t. passed_old V A S a.node b.node a.access b.access (L.has i a ha) (L.has j b hb) k t (p.1 k t))

    pub pair_new : (i j : ℕ) (a b : NodeAccess) → NodeAccessAt accesses i a → NodeAccessAt accesses j b → nodes.PairSynchronized V a b → PairSynchronized V a b
    pair_new i j a b ha hb h c =
        let p = h c in
        (in_order_new V A S a.node b.node a.access b.access (L.has i a ha) (L.has j b hb) p.0, λ k t. passed_new V A S a.node b.node a.access b.access (L.has i a ha) (L.has j b hb) k t (p.1 k t))

    flaw_old : (flaw : Flaw) (a b : NodeAccess) → Has V a.node a.access → Has V b.node b.access → a.node ≢ b.node → Flawed flaw V a b → nodes.Flawed flaw V a b
    flaw_old Unordered a b ha hb apart f = λ p. f (in_order_new V A S a.node b.node a.access b.access ha hb p)
    flaw_old NotAvailable a b ha hb apart (p, k, t, f) =
        (in_order_old V A S a.node b.node a.access b.access ha hb apart p, k, t, λ h. f (available_new V A S a.node b.node a.access b.access ha hb k h))
    flaw_old NotVisible a b ha hb apart (p, k, t, e, f) =
        (in_order_old V A S a.node b.node a.access b.access ha hb apart p, k, t, available_old V A S a.node b.node a.access b.access ha hb k e, λ h. f (passed_new V A S a.node b.node a.access b.access ha hb k t h))

    flaw_new : (flaw : Flaw) (a b : NodeAccess) → Has V a.node a.access → Has V b.node b.access → a.node ≢ b.node → nodes.Flawed flaw V a b → Flawed flaw V a b
    flaw_new Unordered a b ha hb apart f = λ p. f (in_order_old V A S a.node b.node a.access b.access ha hb apart p)
    flaw_new NotAvailable a b ha hb apart (p, k, t, f) =
        (in_order_new V A S a.node b.node a.access b.access ha hb p, k, t, λ h. f (available_old V A S a.node b.node a.access b.access ha hb k h))
    flaw_new NotVisible a b ha hb apart (p, k, t, e, f) =
        (in_order_new V A S a.node b.node a.access b.access ha hb p, k, t, available_new V A S a.node b.node a.access b.access ha hb k e, λ h. f (passed_old V A S a.node b.node a.access b.access ha hb k t h))

    pub first_old : (i j : ℕ) (a b : NodeAccess) (flaw : Flaw) → FirstFlaw V accesses i j a b flaw → nodes.FirstFlaw V accesses i j a b flaw
    first_old i j a b flaw F = record {
      first = F.first;
      second = F.second;
      rising = F.rising;
      clashing = F.clashing;
      flawed = flaw_old flaw a b (L.has i a F.first) (L.has j b F.second) F.clashing.apart F.flawed;
      below = λ k l c d hc hd lt low. pair_old k l c d hc hd (F.below k l c d hc hd lt low);
      least = λ k c lt hc. pair_old k j c b hc F.second (F.least k c lt hc);
    }

    pub first_new : (i j : ℕ) (a b : NodeAccess) (flaw : Flaw) → nodes.FirstFlaw V accesses i j a b flaw → FirstFlaw V accesses i j a b flaw
    first_new i j a b flaw F = record {
      first = F.first;
      second = F.second;
      rising = F.rising;
      clashing = F.clashing;
      flawed = flaw_new flaw a b (L.has i a F.first) (L.has j b F.second) F.clashing.apart F.flawed;
      below = λ k l c d hc hd lt low. pair_new k l c d hc hd (F.below k l c d hc hd lt low);
      least = λ k c lt hc. pair_new k j c b hc F.second (F.least k c lt hc);
    }

  pub same_first : SameFirst V
  same_first accesses L i j a b flaw = (first_old accesses L i j a b flaw, first_new accesses L i j a b flaw)
