-- The best of the first choices, one further.
use Rattle.std.proofs.Common.{◌≡◌, ℕ, ◌+◌, ◌<◌, ◌⊎◌, inl, inr, List, nat_lt, Bool, true, false, if◌then◌else◌, refl, sym, ap, subst, ◌∙◌, arith, ⊎_elim}
use Rattle.std.proofs.lemmas.Bool.{cases_Bool, ltb-false, ltb-true}
use Rattle.compile_bound.specs.Bounds.{AreApart, Holds, IsBest, IsShown, low}
use Rattle.compile_bound.specs.Choices.{choice}
use Rattle.compile_bound.specs.Internal.Chosen.{IsChoice}
use Rattle.compile_bound.specs.declared.bound.Bound.{Bound}
use Rattle.compile_bound.proofs.Apart.{choice_apart}
use Rattle.compile_bound.proofs.NoneSmaller.{none_smaller}

below_or_at : (k n : ℕ) → k < n + 1 → (k < n) ⊎ (k ≡ n)
below_or_at k n lt = ⊎_elim (λ e. inl (ltb-true k n e)) (λ e. inr (let le = ltb-false k n e in omega (arith, lt, le))) (cases_Bool (nat_lt k n))

module _ (sizes : List ℕ) (ordered : ℕ → ℕ → Bool) where
  abbrev low_from : ℕ → ℕ
  low_from r = low sizes (choice sizes ordered r)

  low_is : (r : ℕ) (bound : Bound) → IsChoice sizes ordered r bound → low_from r ≡ bound.least
  low_is r bound C = ap (low sizes) (sym C.is) ∙ sym C.least

  pub first_best : (bound : Bound) → IsChoice sizes ordered 0 bound → IsBest sizes ordered 1 bound
  first_best bound C = record {
    greatest = λ r lt. let none : r ≡ 0 = omega (arith, lt) in let same : low_from r ≡ bound.least = ap low_from none ∙ low_is 0 bound C in omega (arith, same);
    first = inr (0, omega arith, record { is = C.is; reached = low_is 0 bound C; before = λ s lt. absurd (omega (arith, lt)) });
  }

  pub best_more : (n : ℕ) (best next : Bound) → 0 < n → IsBest sizes ordered n best → IsChoice sizes ordered n next → IsBest sizes ordered (n + 1) (if nat_lt best.least next.least then next else best)
  best_more n best next some B C = by_test (nat_lt best.least next.least) refl
    where
      by_test : (b : Bool) → nat_lt best.least next.least ≡ b → IsBest sizes ordered (n + 1) (if b then next else best)
      by_test true e =
          let less = ltb-true best.least next.least e in
          record {
            greatest = λ r lt. ⊎_elim
                (λ below. let le = B.greatest r below in omega (arith, le, less))
                (λ at. let here : low_from r ≡ next.least = ap low_from at ∙ low_is n next C in omega (arith, here))
                (below_or_at r n lt);
            first = inr (n, omega arith, record { is = C.is; reached = low_is n next C; before = λ s lt. let le = B.greatest s lt in omega (arith, le, less) });
          }
      by_test false e =
          let most = ltb-false best.least next.least e in
          record {
            greatest = λ r lt. ⊎_elim
                (λ below. B.greatest r below)
                (λ at. let here : low_from r ≡ next.least = ap low_from at ∙ low_is n next C in omega (arith, here, most))
                (below_or_at r n lt);
            first = ⊎_elim
                (λ none. absurd (let zero = none.0 in omega (arith, zero, some)))
                (λ found. let lt = found.1 in inr (found.0, omega (arith, lt), found.2))
                B.first;
          }

  pub choice_shown : (r : ℕ) (bound : Bound) → IsChoice sizes ordered r bound → IsShown sizes ordered bound
  choice_shown r bound C = record { within = C.within; apart = subst (AreApart ordered) (sym C.is) (choice_apart ordered sizes r); least = sym C.least }

  pub either_shown : (best next : Bound) → IsShown sizes ordered best → IsShown sizes ordered next → IsShown sizes ordered (if nat_lt best.least next.least then next else best)
  either_shown best next old new = by_test (nat_lt best.least next.least)
    where
      by_test : (b : Bool) → IsShown sizes ordered (if b then next else best)
      by_test true = new
      by_test false = old

  pub shown_holds : (bound : Bound) → IsShown sizes ordered bound → Holds sizes ordered bound.least
  shown_holds bound S = subst (Holds sizes ordered) S.least (none_smaller sizes ordered bound.chosen S.within S.apart)
