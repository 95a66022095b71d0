-- Different persisting names are persisted by different resources.
use Rattle.std.proofs.Common.{◌≡◌, ◌≢◌, ℕ, List, [], ◌∷◌, map, get_or, Option, Some, None, true, false, sym, ap, ◌∙◌}
use Rattle.std.specs.Prelude.{IfSome}
use Rattle.std.specs.List.{AllByRecursion}
use Rattle.std.specs.Str.{bytes_eq}
use Rattle.std.proofs.lemmas.List.Quantifiers.{position-Some}
use Rattle.std.proofs.lemmas.Slice.Eq.{bytes_eq-Decides}
use Rattle.base.proofs.Booleans.{clash}
use Rattle.frame.specs.Repeats.{first_repeat}
use Rattle.frame.specs.declared.frame.Resource.{Resource}
use Rattle.law_window.proofs.Pairs.{NoPair, from_none}
use Rattle.law_window.specs.Declared.{holder_in}
use Rattle.law_window.specs.NamedTogether.{ArePersistedIn, AreImports, IsImport}
use Rattle.law_window.specs.Together.{Absent}

module _ (rs : List Resource) where
  abbrev names_of : List (List ℕ)
  names_of = map (λ r. r.name) rs

  -- a resource has one name
  same_name : (a b : List ℕ) (k l : ℕ) → holder_in rs a ≡ Some k → holder_in rs b ≡ Some l → k ≡ l → bytes_eq b a ≡ true
  same_name a b k l at on same =
      let one = (bytes_eq-Decides a (get_or names_of k [])).0 (position-Some (bytes_eq a) names_of k [] at).1 in
      let two = (bytes_eq-Decides b (get_or names_of l [])).0 (position-Some (bytes_eq b) names_of l [] on).1 in
      (bytes_eq-Decides b a).1 (two ∙ ap (λ p. get_or names_of p []) (sym same) ∙ sym one)

  absent : (name : List ℕ) (k : ℕ) → holder_in rs name ≡ Some k → (names : List (List ℕ)) → AllByRecursion (λ other. bytes_eq other name ≡ false) names → Absent k (map (holder_in rs) names)
  absent name k at [] apart = tt
  absent name k at (other ∷ names) apart = by_holder (holder_in rs other) (λ l on. λ same. clash (sym apart.0 ∙ same_name name other k l at on same)) (absent name k at names apart.1)
    where
      by_holder : (o : Option ℕ) → ((l : ℕ) → o ≡ Some l → k ≢ l) → Absent k (map (holder_in rs) names) → Absent k (o ∷ map (holder_in rs) names)
      by_holder None other rest = rest
      by_holder (Some l) other rest = (other l cc, rest)

  all_held : (sizes : List ℕ) (names : List (List ℕ)) → NoPair bytes_eq names → AreImports rs sizes names → ArePersistedIn rs sizes (map (holder_in rs) names)
  all_held [] [] apart imports = tt
  all_held [] (name ∷ names) apart imports = absurd imports
  all_held (size ∷ sizes) [] apart imports = absurd imports
  all_held (size ∷ sizes) (name ∷ names) apart imports = by_holder (holder_in rs name) imports.0 (λ k at. absent name k at names apart.0) (all_held sizes names apart.1 imports.1)
    where
      by_holder : (o : Option ℕ) → IfSome o (λ k. IsImport rs k size) → ((k : ℕ) → o ≡ Some k → Absent k (map (holder_in rs) names)) → ArePersistedIn rs sizes (map (holder_in rs) names) → ArePersistedIn rs (size ∷ sizes) (o ∷ map (holder_in rs) names)
      by_holder None import other rest = rest
      by_holder (Some k) import other rest = (import, other k cc, rest)

pub held_by_names : (rs : List Resource) (sizes : List ℕ) (persist : List (List ℕ)) → first_repeat persist ≡ None → AreImports rs sizes persist → ArePersistedIn rs sizes (map (holder_in rs) persist)
held_by_names rs sizes persist once imports = all_held rs sizes persist (from_none bytes_eq persist once) imports
