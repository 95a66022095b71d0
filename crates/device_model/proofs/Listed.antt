-- The last access of a list that passes.
use Rattle.std.proofs.Common.{◌≡◌, ℕ, zero, suc, ◌<◌, Bool, true, false, List, [], ◌∷◌, take, Option, Some, None, if◌then◌else◌, refl, sym, ap, ◌∙◌, arith}
use Rattle.std.specs.Option.{option_or}
use Rattle.std.proofs.lemmas.Bool.{false≢true}
use Rattle.check_state.specs.PieceStates.{last_that}
use Rattle.check_access.specs.ValidView.{NodeAccessAt}
use Rattle.check_access.specs.declared.node_access.NodeAccess.{NodeAccess}

pub latest_none : (test : NodeAccess → Bool) (accesses : List NodeAccess) (j : ℕ) → last_that test (take j accesses) ≡ None → (k : ℕ) (d : NodeAccess) → k < j → NodeAccessAt accesses k d → test d ≡ true → ⊥
latest_none test [] j e k d lt at t = absurd cc
latest_none test (x ∷ accesses) zero e k d lt at t = absurd (omega (arith, lt))
latest_none test (x ∷ accesses) (suc j) e k d lt at t = by (last_that test (take j accesses)) (test x) refl refl e k at lt (λ p i h g. latest_none test accesses j p i d h g t)
  where
    by : (o : Option NodeAccess) (b : Bool) → last_that test (take j accesses) ≡ o → test x ≡ b → option_or o (if b then Some x else None) ≡ None → (k : ℕ) → NodeAccessAt (x ∷ accesses) k d → k < suc j → (last_that test (take j accesses) ≡ None → (i : ℕ) → i < j → NodeAccessAt accesses i d → ⊥) → ⊥
    by (Some y) b p q f k at lt more = absurd cc
    by None true p q f k at lt more = absurd cc
    by None false p q f zero at lt more = let same : x ≡ d = cc in false≢true (sym q ∙ ap test same ∙ t)
    by None false p q f (suc k) at lt more = more p k (omega (arith, lt)) at

-- the change at place i passes, and none after it
pub record Latest (test : NodeAccess → Bool) (accesses : List NodeAccess) (j i : ℕ) (c : NodeAccess) : Type 0 where
  pub below : i < j
  pub at : NodeAccessAt accesses i c
  pub passes : test c ≡ true
  pub last : (k : ℕ) (d : NodeAccess) → i < k → k < j → NodeAccessAt accesses k d → test d ≡ true → ⊥

pub latest : (test : NodeAccess → Bool) (accesses : List NodeAccess) (j : ℕ) (c : NodeAccess) → last_that test (take j accesses) ≡ Some c → (i : ℕ) × Latest test accesses j i c
latest test [] zero c e = absurd cc
latest test [] (suc j) c e = absurd cc
latest test (x ∷ accesses) zero c e = absurd cc
latest test (x ∷ accesses) (suc j) c e = by (last_that test (take j accesses)) (test x) refl refl e (λ p. latest test accesses j c p)
  where
    further : (i : ℕ) → Latest test accesses j i c → (k : ℕ) (d : NodeAccess) → suc i < k → k < suc j → NodeAccessAt (x ∷ accesses) k d → test d ≡ true → ⊥
    further i L zero d a b at t = absurd (omega (arith, a))
    further i L (suc k) d a b at t = L.last k d (omega (arith, a)) (omega (arith, b)) at t

    nothing : last_that test (take j accesses) ≡ None → (k : ℕ) (d : NodeAccess) → 0 < k → k < suc j → NodeAccessAt (x ∷ accesses) k d → test d ≡ true → ⊥
    nothing p zero d a b at t = absurd (omega (arith, a))
    nothing p (suc k) d a b at t = latest_none test accesses j p k d (omega (arith, b)) at t

    by : (o : Option NodeAccess) (b : Bool) → last_that test (take j accesses) ≡ o → test x ≡ b → option_or o (if b then Some x else None) ≡ Some c → (last_that test (take j accesses) ≡ Some c → (i : ℕ) × Latest test accesses j i c) → (i : ℕ) × Latest test (x ∷ accesses) (suc j) i c
    by (Some y) b p q f more =
        let t = more (p ∙ f) in
        let L = t.1 in
        (suc t.0, record { below = omega (arith, L.below); at = L.at; passes = L.passes; last = further t.0 L })
    by None true p q f more =
        let same : x ≡ c = cc in
        (0, record { below = omega arith; at = ap (λ z. Some z) same; passes = ap test (sym same) ∙ q; last = nothing p })
    by None false p q f more = absurd cc
