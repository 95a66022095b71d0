-- A list with one element more, wherever that stands.
use Rattle.std.proofs.Common.{ℕ, List, [], ◌∷◌, refl, arith}
use Rattle.std.specs.List.{All, Contains}
use Rattle.std.specs.List.Sorted.{IsPermutation}
use Rattle.std.proofs.lemmas.List.Elements.{All-cons, Contains-append_right}
use Rattle.std.proofs.lemmas.List.Sorted.{All-permutation, Contains-permutation}

module _ (old grown : List ℕ) (x : ℕ) where
  pub new_in : IsPermutation (x ∷ old) grown → Contains grown x
  new_in G = Contains-permutation (x ∷ old) grown x G (0, omega arith, refl)

  pub old_in : (y : ℕ) → IsPermutation (x ∷ old) grown → Contains old y → Contains grown y
  old_in y G m = Contains-permutation (x ∷ old) grown y G (Contains-append_right (x ∷ []) old y m)

pub all_in : (P : ℕ → Type 0) (old grown : List ℕ) (x : ℕ) → IsPermutation (x ∷ old) grown → P x → All P old → All P grown
all_in P old grown x G one each = All-permutation P (x ∷ old) grown G (All-cons P x old one each)
