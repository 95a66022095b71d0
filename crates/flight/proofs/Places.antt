-- The first place of a name.
use Rattle.std.proofs.Common.{◌≡◌, ℕ, ◌<◌, List, [], ◌∷◌, length, map, nat_lt, Bool, true, false, Option, Some, None, refl, sym, ap₂, ◌∙◌, cond}
use Rattle.std.specs.Prelude.{IfSome}
use Rattle.std.specs.List.{position, position_or_len}
use Rattle.std.specs.Str.{bytes_eq}
use Rattle.std.proofs.lemmas.List.{length-map}
use Rattle.std.proofs.lemmas.List.Quantifiers.{position-Some}
use Rattle.frame.specs.declared.frame.Resource.{Resource}
use Rattle.law_window.specs.Declared.{holder_in}

abbrev pub within : ℕ → ℕ → Option ℕ
within k n = cond (nat_lt k n) (Some k) None

pub place_mapped : {X Y : Type 0} (p : Y → Bool) (f : X → Y) (xs : List X) → position_or_len p (map f xs) ≡ position_or_len (λ x. p (f x)) xs
place_mapped p f [] = refl
place_mapped p f (x ∷ xs) = by_test (p (f x)) refl (place_mapped p f xs)
  where
    by_test : (b : Bool) → p (f x) ≡ b → position_or_len p (map f xs) ≡ position_or_len (λ x. p (f x)) xs → position_or_len p (map f (x ∷ xs)) ≡ position_or_len (λ x. p (f x)) (x ∷ xs)
    by_test true e same = rw e refl
    by_test false e same = rw (e, same) refl

pub position_mapped : {X Y : Type 0} (p : Y → Bool) (f : X → Y) (xs : List X) → position p (map f xs) ≡ position (λ x. p (f x)) xs
position_mapped p f xs = ap₂ within (place_mapped p f xs) (length-map xs f)

pub holder_found : (rs : List Resource) (name : List ℕ) (k : Option ℕ) → k ≡ position (λ r. bytes_eq name r.name) rs → k ≡ holder_in rs name
holder_found rs name k is = is ∙ sym (position_mapped (bytes_eq name) (λ r. r.name) rs)

pub position_within : {X : Type 0} (p : X → Bool) (xs : List X) (k : Option ℕ) → k ≡ position p xs → IfSome k (λ j. j < length xs)
position_within p [] None is = tt
position_within p [] (Some j) is = absurd cc
position_within p (x ∷ xs) None is = tt
position_within p (x ∷ xs) (Some j) is = (position-Some p (x ∷ xs) j x (sym is)).0
