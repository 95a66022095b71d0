-- Lists of which some entries are left out, and others stand for those that are left.
use Rattle.std.proofs.Common.{◌⊎◌, inl, inr, List, [], ◌∷◌, ◌++◌}

-- the second list is the first without some that may be left out, and with others in the place of the rest
abbrev pub Thins : {X : Type 0} → (X → Type 0) → (X → X → Type 0) → List X → List X → Type 0
Thins May Stands [] [] = Unit {0}
Thins May Stands [] (x ∷ xs) = ⊥
Thins May Stands (g ∷ given) [] = May g × Thins May Stands given []
Thins May Stands (g ∷ given) (x ∷ xs) = (Stands g x × Thins May Stands given xs) ⊎ (May g × Thins May Stands given (x ∷ xs))

module _ {X : Type 0} (May : X → Type 0) (Stands : X → X → Type 0) where
  pub skipped : (given xs : List X) (g : X) → May g → Thins May Stands given xs → Thins May Stands (g ∷ given) xs
  skipped given [] g may t = (may, t)
  skipped given (x ∷ xs) g may t = inr (may, t)

  pub joined : (given xs more ys : List X) → Thins May Stands given xs → Thins May Stands more ys → Thins May Stands (given ++ more) (xs ++ ys)
  joined [] [] more ys t u = u
  joined [] (x ∷ xs) more ys t u = absurd t
  joined (g ∷ given) [] more ys t u = skipped (given ++ more) ys g t.0 (joined given [] more ys t.1 u)
  joined (g ∷ given) (x ∷ xs) more ys (inl t) u = inl (t.0, joined given xs more ys t.1 u)
  joined (g ∷ given) (x ∷ xs) more ys (inr t) u = inr (t.0, joined given (x ∷ xs) more ys t.1 u)

  pub all_stand : ((x : X) → Stands x x) → (xs : List X) → Thins May Stands xs xs
  all_stand same [] = tt
  all_stand same (x ∷ xs) = inl (same x, all_stand same xs)
