-- What is persisted for one persisting name more.
use Rattle.std.proofs.Common.{◌≡◌, ◌+◌, ◌<◌, ◌≤◌, ◌++◌, ℕ, zero, suc, List, [], ◌∷◌, length, get_or, take, drop, drop-cons, Option, Some, None, refl, sym, ap, ap₂, ◌∙◌, add-one, append_assoc, append-nil, arith}
use Rattle.std.proofs.Math.ListN.{length-set, set}
use Rattle.std.proofs.Math.Seq.{drop-length}
use Rattle.std.proofs.lemmas.List.{length-map, take_more}
use Rattle.std.specs.Option.{option_map}
use Rattle.flight.specs.Alone.{persisted_next, held_one}
use Rattle.flight.specs.Flights.{ArePersisted, size_in}
use Rattle.frame.specs.declared.frame.Frame.{Frame}

abbrev pub Held : Type 0
Held = List (Option (List ℕ))

take_set : (xs : Held) (k : ℕ) (y : Option (List ℕ)) → k < length xs → take (suc k) (set xs k y) ≡ take k xs ++ y ∷ []
take_set [] k y lt = absurd (omega (arith, lt))
take_set (x ∷ xs) zero y lt = refl
take_set (x ∷ xs) (suc k) y lt = ap (λ (ys : Held). x ∷ ys) (take_set xs k y (omega (arith, lt)))

drop_set : (xs : Held) (k : ℕ) (y : Option (List ℕ)) → k < length xs → drop (suc k) (set xs k y) ≡ drop (suc k) xs
drop_set [] k y lt = absurd (omega (arith, lt))
drop_set (x ∷ xs) zero y lt = refl
drop_set (x ∷ xs) (suc k) y lt = drop_set xs k y (omega (arith, lt))

module _ (places : ℕ → Option ℕ) (bytes : ℕ → List ℕ) (k : ℕ) (persisted total : Held) (lt : k < length persisted) (so_far : take k persisted ++ persisted_next places bytes k (drop k persisted) ≡ total) where
  abbrev old : Option (List ℕ)
  old = get_or persisted k None

  -- with what is persisted for name k
  next : (now : Option (List ℕ)) → now ≡ held_one bytes (places k) old → (take k persisted ++ now ∷ []) ++ persisted_next places bytes (suc k) (drop (suc k) persisted) ≡ total
  next now is =
      let rest : Held = persisted_next places bytes (suc k) (drop (suc k) persisted) in
      append_assoc (take k persisted) (now ∷ []) rest
      ∙ ap (λ (n : Option (List ℕ)). take k persisted ++ n ∷ rest) is
      ∙ ap (λ (xs : Held). take k persisted ++ persisted_next places bytes k xs) (sym (drop-cons persisted k None lt))
      ∙ so_far

  pub hold_some : (place : ℕ) (now : List ℕ) (persisted' : Held) → places k ≡ Some place → now ≡ bytes place → persisted' ≡ set persisted k (Some now) → take (k + 1) persisted' ++ persisted_next places bytes (k + 1) (drop (k + 1) persisted') ≡ total
  hold_some place now persisted' at is grows =
      rw add-one (ap₂ (λ (xs ys : Held). xs ++ persisted_next places bytes (suc k) ys) (ap (take (suc k)) grows ∙ take_set persisted k (Some now) lt) (ap (drop (suc k)) grows ∙ drop_set persisted k (Some now) lt)
      ∙ next (Some now) (ap (λ b. Some b) is ∙ sym (ap (λ p. held_one bytes p old) at)))

  pub hold_none : places k ≡ None → take (k + 1) persisted ++ persisted_next places bytes (k + 1) (drop (k + 1) persisted) ≡ total
  hold_none at =
      ap (λ (xs : Held). xs ++ persisted_next places bytes (k + 1) (drop (k + 1) persisted)) (take_more persisted k None lt)
      ∙ rw add-one (next old (sym (ap (λ p. held_one bytes p old) at)))

-- all names
pub hold_end : (places : ℕ → Option ℕ) (bytes : ℕ → List ℕ) (k : ℕ) (persisted total : Held) → length persisted ≤ k → k ≤ length persisted → take k persisted ++ persisted_next places bytes k (drop k persisted) ≡ total → persisted ≡ total
hold_end places bytes k persisted total far near so_far =
    let e : k ≡ length persisted = omega arith in
    sym (ap₂ (λ (xs ys : Held). xs ++ persisted_next places bytes k ys) (ap (λ n. take n persisted) e ∙ all persisted) (ap (λ n. drop n persisted) e ∙ drop-length persisted) ∙ append-nil persisted) ∙ so_far
  where
    all : (xs : Held) → take (length xs) xs ≡ xs
    all [] = refl
    all (x ∷ xs) = ap (λ (ys : Held). x ∷ ys) (all xs)

-- a write keeps how many there are
pub many_set : (persisted persisted' : Held) (k n : ℕ) (now : Option (List ℕ)) → persisted' ≡ set persisted k now → length persisted ≡ n → length persisted' ≡ n
many_set persisted persisted' k n now grows many = ap length grows ∙ (length-set persisted k now ∙ many)

-- as many as there are names
pub held_many : (frames : List Frame) (persist : List (List ℕ)) (persisted : Held) → ArePersisted frames persist persisted → length persisted ≡ length persist
held_many frames persist persisted is = sym (length-map persisted (option_map length)) ∙ ap length is ∙ length-map persist (size_in frames)
