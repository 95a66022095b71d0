-- What was written is read again.
use Rattle.std.proofs.Common.{◌≡◌, ℕ, suc, true, arith, List, [], ◌∷◌, ◌++◌, map, Option, Some, Ok, refl}
use Rattle.std.specs.Prelude.{nat_le, ◌&&◌}
use Rattle.std.specs.List.{AllByRecursion}
use Rattle.std.proofs.lemmas.Bool.Decides.{nat_tests}
use Rattle.base.specs.declared.path.Leg.{Leg}
use Rattle.base.specs.declared.path.Leg.TheVariants as leg
use Rattle.file_json.specs.Leaves.{number_at, whole_at, greatest, number_data, FitsRange, FitsWhole, text_at, text_data}
use Rattle.file_json.specs.Parts.{Reader, entries_at, list_at, array_of}
use Rattle.serde_json.specs.Data.{Data}
use Rattle.serde_json.specs.View.{items_of}

-- lists, from their entries
module _ {X : Type 0} (reads : Reader X) (writes : X → Data) (Fits : X → Type 0) (again : (at : List Leg) (x : X) → Fits x → reads at (writes x) ≡ Ok x) where
  entries_again : (at : List Leg) (i : ℕ) (xs : List X) → AllByRecursion Fits xs → entries_at reads at i (items_of (map writes xs)) ≡ Ok xs
  entries_again at i [] fits = refl
  entries_again at i (x ∷ xs) fits = rw (again (at ++ leg.Position i ∷ []) x fits.0, entries_again at (suc i) xs fits.1) refl

  pub list_again : (at : List Leg) (xs : List X) → AllByRecursion Fits xs → list_at reads at (array_of writes xs) ≡ Ok xs
  list_again at xs fits = entries_again at 0 xs fits

pub number_again : (least most : ℕ) (at : List Leg) (n : ℕ) → FitsRange least most n → number_at least most at (number_data n) ≡ Ok n
number_again least most at n fits = let e : (nat_le least n && nat_le n most) ≡ true = grind (arith, nat_tests, fits.0, fits.1) in rw e refl

pub whole_again : (at : List Leg) (n : ℕ) → FitsWhole n → whole_at at (number_data n) ≡ Ok n
whole_again at n fits = number_again 0 greatest at n fits

pub text_again : {X : Type 0} (value_of : List ℕ → Option X) (text_of : X → List ℕ) (at : List Leg) (x : X) → value_of (text_of x) ≡ Some x → text_at value_of at (text_data text_of x) ≡ Ok x
text_again value_of text_of at x again = rw again refl
