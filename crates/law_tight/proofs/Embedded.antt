-- Which entry of a list stands for which of the list that it was thinned out of, by their numbers.
use Rattle.std.proofs.Common.{◌≡◌, ◌⊎◌, inl, inr, ℕ, zero, suc, ◌<◌, ◌≤◌, List, [], ◌∷◌, length, get_or, Option, Some, None, option_map, refl, sym, ap, ◌∙◌, subst, arith}
use Rattle.std.specs.Prelude.{slice_get}
use Rattle.std.proofs.lemmas.Option.{slice_get_cases, slice_get_within}
use Rattle.base.proofs.Absence.{none_some, some_same}
use Rattle.law_tight.proofs.Thinned.{Thins}

-- both are there, and stand to each other, or neither
abbrev pub Both : {X : Type 0} → (X → X → Type 0) → Option X → Option X → Type 0
Both Stands None None = Unit {0}
Both Stands None (Some x) = ⊥
Both Stands (Some g) None = ⊥
Both Stands (Some g) (Some x) = Stands g x

-- up gives the number of the given entry for which an entry stands, down the other way, where there is one
pub record Embedded {X : Type 0} (May : X → Type 0) (Stands : X → X → Type 0) (given xs : List X) : Type 0 where
  pub up : ℕ → ℕ
  pub down : ℕ → Option ℕ
  pub rises : (m n : ℕ) → m < n → up m < up n
  pub back : (n : ℕ) → down (up n) ≡ Some n
  pub forth : (y n : ℕ) → down y ≡ Some n → up n ≡ y
  pub alike : (n : ℕ) → Both Stands (slice_get given (up n)) (slice_get xs n)
  pub gone : (y : ℕ) → down y ≡ None → (x : X) × (slice_get given y ≡ Some x) × May x

-- WITH ONE ENTRY MORE THAT IS LEFT OUT

abbrev down_skipped : (ℕ → Option ℕ) → ℕ → Option ℕ
down_skipped down zero = None
down_skipped down (suc y) = down y

-- WITH ONE ENTRY MORE THAT IS LEFT

abbrev up_kept : (ℕ → ℕ) → ℕ → ℕ
up_kept up zero = zero
up_kept up (suc n) = suc (up n)

abbrev down_kept : (ℕ → Option ℕ) → ℕ → Option ℕ
down_kept down zero = Some zero
down_kept down (suc y) = option_map suc (down y)

module _ {X : Type 0} (May : X → Type 0) (Stands : X → X → Type 0) where
  none : Embedded May Stands [] []
  none = record {
    up = λ n. n;
    down = λ y. Some y;
    rises = λ m n lt. lt;
    back = λ n. refl;
    forth = λ y n e. sym (some_same e);
    alike = λ n. tt;
    gone = λ y e. absurd (none_some (sym e));
  }

  skipped : (given xs : List X) (g : X) → May g → Embedded May Stands given xs → Embedded May Stands (g ∷ given) xs
  skipped given xs g may E = record {
    up = λ n. suc (E.up n);
    down = down_skipped E.down;
    rises = λ m n lt. let r = E.rises m n lt in omega (arith, r);
    back = λ n. E.back n;
    forth = forth;
    alike = λ n. E.alike n;
    gone = gone;
  }
    where
      forth : (y n : ℕ) → down_skipped E.down y ≡ Some n → suc (E.up n) ≡ y
      forth zero n e = absurd (none_some e)
      forth (suc y) n e = ap suc (E.forth y n e)

      gone : (y : ℕ) → down_skipped E.down y ≡ None → (x : X) × (slice_get (g ∷ given) y ≡ Some x) × May x
      gone zero e = (g, refl, may)
      gone (suc y) e = E.gone y e

  kept : (given xs : List X) (g x : X) → Stands g x → Embedded May Stands given xs → Embedded May Stands (g ∷ given) (x ∷ xs)
  kept given xs g x stands E = record {
    up = up_kept E.up;
    down = down_kept E.down;
    rises = rises;
    back = back;
    forth = forth;
    alike = alike;
    gone = gone;
  }
    where
      rises : (m n : ℕ) → m < n → up_kept E.up m < up_kept E.up n
      rises zero zero lt = absurd (omega (arith, lt))
      rises zero (suc n) lt = omega arith
      rises (suc m) zero lt = absurd (omega (arith, lt))
      rises (suc m) (suc n) lt = let r = E.rises m n (omega (arith, lt)) in omega (arith, r)

      back : (n : ℕ) → down_kept E.down (up_kept E.up n) ≡ Some n
      back zero = refl
      back (suc n) = ap (option_map suc) (E.back n)

      forth : (y n : ℕ) → down_kept E.down y ≡ Some n → up_kept E.up n ≡ y
      forth zero n e = sym (ap (up_kept E.up) (some_same e))
      forth (suc y) n e = go (E.down y) refl e
        where
          go : (o : Option ℕ) → E.down y ≡ o → option_map suc o ≡ Some n → up_kept E.up n ≡ suc y
          go None at e = absurd (none_some e)
          go (Some m) at e = sym (ap (up_kept E.up) (some_same e)) ∙ ap suc (E.forth y m at)

      alike : (n : ℕ) → Both Stands (slice_get (g ∷ given) (up_kept E.up n)) (slice_get (x ∷ xs) n)
      alike zero = stands
      alike (suc n) = E.alike n

      gone : (y : ℕ) → down_kept E.down y ≡ None → (z : X) × (slice_get (g ∷ given) y ≡ Some z) × May z
      gone zero e = absurd (none_some (sym e))
      gone (suc y) e = go (E.down y) refl e
        where
          go : (o : Option ℕ) → E.down y ≡ o → option_map suc o ≡ None → (z : X) × (slice_get given y ≡ Some z) × May z
          go None at e = E.gone y at
          go (Some m) at e = absurd (none_some (sym e))

  pub embedded : (given xs : List X) → Thins May Stands given xs → Embedded May Stands given xs
  embedded [] [] t = none
  embedded [] (x ∷ xs) t = absurd t
  embedded (g ∷ given) [] t = skipped given [] g t.0 (embedded given [] t.1)
  embedded (g ∷ given) (x ∷ xs) (inl t) = kept given xs g x t.0 (embedded given xs t.1)
  embedded (g ∷ given) (x ∷ xs) (inr t) = skipped given (x ∷ xs) g t.0 (embedded given (x ∷ xs) t.1)

  -- HOW MANY

  there : (xs : List X) (n : ℕ) → n < length xs → (x : X) × (slice_get xs n ≡ Some x)
  there xs n lt = go (slice_get_cases xs n).1
    where
      go : ((x : X) × (n < length xs) × (slice_get xs n ≡ Some x) × (get_or xs n x ≡ x)) ⊎ ((length xs ≤ n) × (slice_get xs n ≡ None)) → (x : X) × (slice_get xs n ≡ Some x)
      go (inl h) = (h.0, h.2)
      go (inr h) = let past = h.0 in absurd (omega (arith, lt, past))

  module _ (given xs : List X) (E : Embedded May Stands given xs) (n : ℕ) where
    pub within : n < length xs → E.up n < length given
    within lt = go (slice_get given (E.up n)) refl (E.alike n)
      where
        go : (o : Option X) → slice_get given (E.up n) ≡ o → Both Stands o (slice_get xs n) → E.up n < length given
        go None e b = absurd (subst (Both Stands None) (there xs n lt).1 b)
        go (Some g) e b = slice_get_within given (E.up n) g e

    pub inside : E.up n < length given → n < length xs
    inside lt = go (slice_get xs n) refl (E.alike n)
      where
        go : (o : Option X) → slice_get xs n ≡ o → Both Stands (slice_get given (E.up n)) o → n < length xs
        go None e b = absurd (subst (λ z. Both Stands z None) (there given (E.up n) lt).1 b)
        go (Some x) e b = slice_get_within xs n x e
