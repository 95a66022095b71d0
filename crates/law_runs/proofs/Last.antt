-- The last done change of a byte, as nodes are finished.
use Rattle.std.proofs.Common.{◌≡◌, ◌≢◌, ◌⊎◌, inl, inr, ℕ, Bool, true, sym, subst, ⊎_elim}
use Rattle.std.proofs.lemmas.Bool.{cases_eq}
use Rattle.law_runs.proofs.Formed.{Ranked, not_both_ways}
use Rattle.law_runs.specs.Formed.{Formed}
use Rattle.law_runs.proofs.Invariant.{Spares, IsLast, Untouched, Finishes, NoneAfter}
use Rattle.law_runs.specs.Orders.{Before, Synchronized}
use Rattle.law_runs.specs.Systems.{Access, System, Has, covers, changes}

module _ (S : System) (F : Formed S) (rank : ℕ → ℕ) (R : Ranked S rank) (done : ℕ → Bool) (m i w v : ℕ) (c d : Access) (p : IsLast S done m i w c) (q : IsLast S done m i v d) where
  pub last_unique : w ≡ v
  last_unique = ⊎_elim (λ e. e) (λ ne. absurd (go ne (q.top w c p.finished p.has p.alters p.at) (p.top v d q.finished q.has q.alters q.at))) (cases_eq w v)
    where
      go : w ≢ v → (w ≡ v) ⊎ Before S w c v d → (v ≡ w) ⊎ Before S v d w c → ⊥
      go ne (inl e) r = ne e
      go ne (inr b) (inl e) = ne (sym e)
      go ne (inr b) (inr k) = not_both_ways S F rank R w v c d ne b k

  pub last_same : c ≡ d
  last_same = F.one v c d m i (subst (λ x. Has S x c) last_unique p.has) q.has p.alters q.alters p.at q.at

-- n changes the byte as well, or not
module _ (S : System) (done done' : ℕ → Bool) (n m i : ℕ) (N : Finishes done done' n) where
  pub untouched_old : Untouched S done' m i → Untouched S done m i
  untouched_old u v d f = u v d (N.stays v f)

  module _ (sp : Spares S n m i) where
    pub last_old : (w : ℕ) (c : Access) → IsLast S done' m i w c → IsLast S done m i w c
    last_old w c p = record { finished = go (N.grows w p.finished); has = p.has; alters = p.alters; at = p.at; top = λ v d f. p.top v d (N.stays v f) }
      where
        go : (w ≡ n) ⊎ (done w ≡ true) → done w ≡ true
        go (inl e) = absurd (sp c (subst (λ x. Has S x c) e p.has) p.alters p.at)
        go (inr f) = f

    pub last_keep : (w : ℕ) (c : Access) → IsLast S done m i w c → IsLast S done' m i w c
    last_keep w c p = record { finished = N.stays w p.finished; has = p.has; alters = p.alters; at = p.at; top = λ v d f h a b. go v d h a b (N.grows v f) }
      where
        go : (v : ℕ) (d : Access) → Has S v d → changes d.doing ≡ true → covers S d.piece m i ≡ true → (v ≡ n) ⊎ (done v ≡ true) → (v ≡ w) ⊎ Before S v d w c
        go v d h a b (inl e) = absurd (sp d (subst (λ x. Has S x d) e h) a b)
        go v d h a b (inr f) = p.top v d f h a b

-- access c of n touches the byte, n is not done, and nothing done is after c
module _ (S : System) (F : Formed S) (T : Synchronized S) (done : ℕ → Bool) (n m i : ℕ) (c : Access) (hc : Has S n c) (ac : covers S c.piece m i ≡ true) (was : done n ≡ true → ⊥) (after : NoneAfter S done n c) where
  -- a done change of the byte is before it
  pub done_before : (v : ℕ) (d : Access) → done v ≡ true → Has S v d → changes d.doing ≡ true → covers S d.piece m i ≡ true → Before S v d n c
  done_before v d f h a b = go (T.ordered v n d c h hc ne (F.clash_change d c m i a b ac))
    where
      ne : v ≢ n
      ne e = was (subst (λ x. done x ≡ true) e f)

      go : Before S v d n c ⊎ Before S n c v d → Before S v d n c
      go (inl p) = p
      go (inr p) = absurd (after v d h ne a f p)

  pub last_new : (done' : ℕ → Bool) → Finishes done done' n → changes c.doing ≡ true → IsLast S done' m i n c
  last_new done' N a = record { finished = N.self; has = hc; alters = a; at = ac; top = λ v d f h k b. go v d h k b (N.grows v f) }
    where
      go : (v : ℕ) (d : Access) → Has S v d → changes d.doing ≡ true → covers S d.piece m i ≡ true → (v ≡ n) ⊎ (done v ≡ true) → (v ≡ n) ⊎ Before S v d n c
      go v d h k b (inl e) = inl e
      go v d h k b (inr f) = inr (done_before v d f h k b)
