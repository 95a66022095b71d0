-- The numbers of the elements of a list, each by its place in it.
use Rattle.std.proofs.Common.{◌≡◌, inl, inr, ℕ, zero, suc, ◌<◌, List, [], ◌∷◌, map, Option, Some, refl, sym, ap, ap₂, ◌∙◌, subst, arith}
use Rattle.std.specs.List.{cons_option, filter_map}
use Rattle.std.specs.Prelude.{slice_get}
use Rattle.law_meaning.proofs.Listed.{nothing, Rise, ArePicked, picked_alone}
use Rattle.check_order.specs.Orders.{Among, Distinct, Earlier}

module _ {X : Type 0} where
  -- the first element has number 0, and the others one more than after it
  abbrev pub numbers : (ℕ → X → ℕ) → List X → List ℕ
  numbers number [] = []
  numbers number (x ∷ xs) = number 0 x ∷ numbers (λ i. number (suc i)) xs

  pub record IsNumber (number : ℕ → X → ℕ) (xs : List X) (n : ℕ) : Type 0 where
    pub place : ℕ
    pub element : X
    pub there : slice_get xs place ≡ Some element
    pub is : n ≡ number place element

  each_number : (number : ℕ → X → ℕ) (xs : List X) (n : ℕ) → Among n (numbers number xs) → IsNumber number xs n
  each_number number [] n a = absurd a
  each_number number (x ∷ xs) n (inl e) = record { place = 0; element = x; there = refl; is = e }
  each_number number (x ∷ xs) n (inr a) = let m = each_number (λ i. number (suc i)) xs n a in record { place = suc m.place; element = m.element; there = m.there; is = m.is }

  each_element : (number : ℕ → X → ℕ) (xs : List X) (i : ℕ) (x : X) → slice_get xs i ≡ Some x → Among (number i x) (numbers number xs)
  each_element number [] i x e = absurd cc
  each_element number (z ∷ xs) zero x e = let same : z ≡ x = cc in inl (ap (number 0) (sym same))
  each_element number (z ∷ xs) (suc i) x e = inr (each_element (λ k. number (suc k)) xs i x e)

  numbers_rise : (list : List ℕ) (number : ℕ → X → ℕ) (xs : List X) → ((i k : ℕ) (x z : X) → slice_get xs i ≡ Some x → slice_get xs k ≡ Some z → i < k → Earlier list (number i x) (number k z)) → Rise list (numbers number xs)
  numbers_rise list number [] h = tt
  numbers_rise list number (x ∷ xs) h = (
    (λ m a. let b = each_number (λ i. number (suc i)) xs m a in subst (Earlier list (number 0 x)) (sym b.is) (h 0 (suc b.place) x b.element refl b.there (omega arith))),
    numbers_rise list (λ i. number (suc i)) xs (λ i k y z e g lt. h (suc i) (suc k) y z e g (omega (arith, lt))),
  )

  module _ {Y : Type 0} (f : ℕ → Option Y) (value : X → Y) where
    numbers_give : (number : ℕ → X → ℕ) (xs : List X) → ((i : ℕ) (x : X) → slice_get xs i ≡ Some x → f (number i x) ≡ Some (value x)) → filter_map f (numbers number xs) ≡ map value xs
    numbers_give number [] h = refl
    numbers_give number (x ∷ xs) h = ap₂ cons_option (h 0 x refl) (numbers_give (λ i. number (suc i)) xs (λ i. h (suc i)))

    -- each element has a number in the list, in the order of elements, where f gives its value, and f gives nothing else
    pub record AreThere (number : ℕ → X → ℕ) (list : List ℕ) (xs : List X) : Type 0 where
      pub once : Distinct list
      pub there : (i : ℕ) (x : X) → slice_get xs i ≡ Some x → Among (number i x) list
      pub gives : (i : ℕ) (x : X) → slice_get xs i ≡ Some x → f (number i x) ≡ Some (value x)
      pub rise : (i k : ℕ) (x z : X) → slice_get xs i ≡ Some x → slice_get xs k ≡ Some z → i < k → Earlier list (number i x) (number k z)
      pub only : (n : ℕ) (y : Y) → Among n list → f n ≡ Some y → IsNumber number xs n

    pub in_their_order : (number : ℕ → X → ℕ) (list : List ℕ) (xs : List X) → AreThere number list xs → filter_map f list ≡ map value xs
    in_their_order number list xs A = picked_alone f list (numbers number xs) picked ∙ numbers_give number xs A.gives
      where
        picked : ArePicked f list (numbers number xs)
        picked = record {
          once = A.once;
          rise = numbers_rise list number xs A.rise;
          there = λ n a. let m = each_number number xs n a in subst (λ z. Among z list) (sym m.is) (A.there m.place m.element m.there);
          given = λ n a none. let m = each_number number xs n a in nothing (value m.element) (sym (A.gives m.place m.element m.there) ∙ sym (ap f m.is) ∙ none);
          only = λ n y a e. let m = A.only n y a e in subst (λ z. Among z (numbers number xs)) (sym m.is) (each_element number xs m.place m.element m.there);
        }
