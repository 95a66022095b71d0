-- What holds of each entry of a list of accesses, and what comes after a change or a change of the owner.
use Rattle.std.proofs.Common.{◌≡◌, ◌<◌, ℕ, zero, suc, true, false, List, [], ◌∷◌, ◌++◌, slice_get, Option, Some, None, refl, subst, arith}
use Rattle.std.specs.List.{All}
use Rattle.std.specs.Option.{option_map_or}
use Rattle.std.proofs.lemmas.List.Elements.{All-nil}
use Rattle.base.proofs.Lists.{entry_of}
use Rattle.check_access.specs.AccessKinds.{changes, sets_owner, transfers}
use Rattle.check_access.specs.declared.access.Access.{Access}

pub if_some : {X Y : Type 0} (P : Y → Type 0) (f : X → List Y) (o : Option X) → ((x : X) → All P (f x)) → All P (option_map_or f o [])
if_some P f None h = All-nil P
if_some P f (Some x) h = h x

-- after a change comes nothing but transfers, and after what decides the owner nothing at all
abbrev pub Ends : List Access → Type 0
Ends [] = Unit {0}
Ends (a ∷ rest) = (changes a.kind ≡ true → All (λ b. transfers b.kind ≡ true) rest) × (sets_owner a.kind ≡ true → rest ≡ []) × Ends rest

pub alone : (a : Access) → Ends (a ∷ [])
alone a = (λ c. All-nil (λ b. transfers b.kind ≡ true), λ c. refl, tt)

pub after_change : (xs : List Access) (i j : ℕ) (a b : Access) → Ends xs → slice_get xs i ≡ Some a → slice_get xs j ≡ Some b → i < j → changes a.kind ≡ true → transfers b.kind ≡ true
after_change [] i j a b h e f lt c = absurd cc
after_change (x ∷ xs) i zero a b h e f lt c = absurd (omega (arith, lt))
after_change (x ∷ xs) zero (suc j) a b h e f lt c =
    let same : a ≡ x = cc in
    entry_of (λ y. transfers y.kind ≡ true) xs j b (h.0 (subst (λ y. changes y.kind ≡ true) same c)) f
after_change (x ∷ xs) (suc i) (suc j) a b h e f lt c = after_change xs i j a b h.2 e f (omega (arith, lt)) c

pub nothing_there : (j : ℕ) (b : Access) → slice_get [] j ≡ Some b → ⊥
nothing_there j b e = absurd cc

pub after_owner : (xs : List Access) (i j : ℕ) (a b : Access) → Ends xs → slice_get xs i ≡ Some a → slice_get xs j ≡ Some b → i < j → sets_owner a.kind ≡ true → ⊥
after_owner [] i j a b h e f lt c = absurd cc
after_owner (x ∷ xs) i zero a b h e f lt c = absurd (omega (arith, lt))
after_owner (x ∷ xs) zero (suc j) a b h e f lt c =
    let same : a ≡ x = cc in
    nothing_there j b (subst (λ l. slice_get l j ≡ Some b) (h.1 (subst (λ y. sets_owner y.kind ≡ true) same c)) f)
after_owner (x ∷ xs) (suc i) (suc j) a b h e f lt c = after_owner xs i j a b h.2 e f (omega (arith, lt)) c

-- it neither changes bytes nor decides the owner
abbrev pub Quiet : Access → Type 0
Quiet a = (changes a.kind ≡ false) × (sets_owner a.kind ≡ false)

pub quiet_first : (xs ys : List Access) → All Quiet xs → Ends ys → Ends (xs ++ ys)
quiet_first [] ys quiet h = h
quiet_first (x ∷ xs) ys quiet h =
    let here = quiet 0 x (omega arith) in
    (λ c. let e = here.0 in absurd cc, λ c. let e = here.1 in absurd cc, quiet_first xs ys (λ k d lt. quiet (suc k) d (omega arith)) h)
