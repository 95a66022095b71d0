-- What holds of each access so far.
use Rattle.std.proofs.Common.{◌≡◌, ℕ, zero, suc, ◌+◌, ◌<◌, ◌≤◌, List, [], ◌∷◌, length, refl, sym, subst, ⊎_elim, arith}
use Rattle.std.proofs.lemmas.Bool.{cases_eq}
use Rattle.std.proofs.lemmas.Option.{slice_get_within}
use Rattle.check_access.specs.ValidView.{NodeAccessAt}
use Rattle.check_access.specs.declared.node_access.NodeAccess.{NodeAccess}

pub node_access_there : (accesses : List NodeAccess) (j : ℕ) → j < length accesses → (a : NodeAccess) × NodeAccessAt accesses j a
node_access_there [] j lt = absurd (omega (arith, lt))
node_access_there (x ∷ accesses) zero lt = (x, refl)
node_access_there (x ∷ accesses) (suc j) lt = node_access_there accesses j (omega (arith, lt))

pub below_step : (P : ℕ → NodeAccess → Type 0) (accesses : List NodeAccess) (n : ℕ) (a : NodeAccess) → ((j : ℕ) (b : NodeAccess) → j < n → NodeAccessAt accesses j b → P j b) → NodeAccessAt accesses n a → P n a → (j : ℕ) (b : NodeAccess) → j < n + 1 → NodeAccessAt accesses j b → P j b
below_step P accesses n a below at here j b lt is = ⊎_elim
    (λ (s : j ≡ n).
    let same : b ≡ a = let k : NodeAccessAt accesses n b = subst (λ z. NodeAccessAt accesses z b) s is in cc in
    subst (λ z. P z b) (sym s) (subst (λ z. P n z) (sym same) here))
    (λ ne. below j b (omega (arith, lt, ne)) is)
    (cases_eq j n)

pub below_all : (P : ℕ → NodeAccess → Type 0) (accesses : List NodeAccess) (n : ℕ) → length accesses ≤ n → ((j : ℕ) (b : NodeAccess) → j < n → NodeAccessAt accesses j b → P j b) → (j : ℕ) (b : NodeAccess) → NodeAccessAt accesses j b → P j b
below_all P accesses n le below j b is = let w = slice_get_within accesses j b is in below j b (omega (arith, w, le)) is
