-- No two resources of a choice may alias, and they stand in rising number.
use Rattle.std.proofs.Common.{◌≡◌, ◌≢◌, ℕ, zero, suc, ◌<◌, ◌==◌, ◌&&◌, ◌||◌, List, [], ◌∷◌, length, not, nat_lt, Bool, true, false, if◌then◌else◌, refl, sym, subst, ◌∙◌, arith, ⊎_elim}
use Rattle.std.specs.List.{AllByRecursion, fold, insert, position_or_len}
use Rattle.std.proofs.lemmas.Bool.{ltb-false, ltb-true}
use Rattle.std.proofs.lemmas.Bool.Decides.{eqb_tells}
use Rattle.compile_bound.specs.Bounds.{AreApart}
use Rattle.compile_bound.specs.Choices.{choice, falling, inserted, is_apart, joined}
use Rattle.compile_bound.proofs.Inserted.{at_front, at_later}
use Rattle.compile_heap.specs.Placing.{may_alias}

module _ (ordered : ℕ → ℕ → Bool) where
  -- another resource, which may not alias this one
  abbrev Free : ℕ → ℕ → Type 0
  Free s r = (s ≢ r) × (may_alias ordered s r ≡ false)

  -- a resource with a greater number, which may not alias this one
  abbrev Beside : ℕ → ℕ → Type 0
  Beside r s = (r < s) × (may_alias ordered r s ≡ false)

  turned : (s r : ℕ) → may_alias ordered s r ≡ false → may_alias ordered r s ≡ false
  turned s r e = by_both (ordered s r) (ordered r s) e
    where
      by_both : (a b : Bool) → (a || b) ≡ false → (b || a) ≡ false
      by_both true b f = absurd cc
      by_both false true f = absurd cc
      by_both false false f = refl

  all_free : (s : ℕ) (chosen : List ℕ) → is_apart ordered s chosen ≡ true → AllByRecursion (Free s) chosen
  all_free s [] e = tt
  all_free s (r ∷ chosen) e = by_tests (s == r) (may_alias ordered s r) (is_apart ordered s chosen) refl refl refl e (λ rest. all_free s chosen rest)
    where
      differ : true ≡ false → ⊥
      differ g = cc

      by_tests : (a b rest : Bool) → (s == r) ≡ a → may_alias ordered s r ≡ b → is_apart ordered s chosen ≡ rest → ((not a && not b) && rest) ≡ true → (is_apart ordered s chosen ≡ true → AllByRecursion (Free s) chosen) → AllByRecursion (Free s) (r ∷ chosen)
      by_tests true b rest a-is b-is rest-is f later = absurd cc
      by_tests false true rest a-is b-is rest-is f later = absurd cc
      by_tests false false false a-is b-is rest-is f later = absurd cc
      by_tests false false true a-is b-is rest-is f later = ((⊎_elim (λ h. absurd (differ (sym h.0 ∙ a-is))) (λ h. h.1) (eqb_tells s r), b-is), later rest-is)

  all_beside : (s x : ℕ) (chosen : List ℕ) → s < x → AllByRecursion (Free s) chosen → AllByRecursion (Beside x) chosen → AllByRecursion (Beside s) chosen
  all_beside s x [] lt free rising = tt
  all_beside s x (r ∷ chosen) lt free rising = let above = rising.0.0 in ((omega (arith, lt, above), free.0.1), all_beside s x chosen lt free.1 rising.1)

  insert_beside : (x s k : ℕ) (chosen : List ℕ) → Beside x s → AllByRecursion (Beside x) chosen → AllByRecursion (Beside x) (insert chosen k s)
  insert_beside x s zero chosen b all = (b, all)
  insert_beside x s (suc k) [] b all = (b, tt)
  insert_beside x s (suc k) (r ∷ chosen) b all = (all.0, insert_beside x s k chosen b all.1)

  insert_apart : (s : ℕ) (chosen : List ℕ) → AllByRecursion (Free s) chosen → AreApart ordered chosen → AreApart ordered (inserted (nat_lt s) s chosen)
  insert_apart s [] free apart = (tt, tt)
  insert_apart s (x ∷ chosen) free apart = by_test (nat_lt s x) refl (insert_apart s chosen free.1 apart.1)
    where
      above : s ≢ x → nat_lt s x ≡ false → x < s
      above other e = let le = ltb-false s x e in omega (arith, le, other)

      by_test : (b : Bool) → nat_lt s x ≡ b → AreApart ordered (inserted (nat_lt s) s chosen) → AreApart ordered (inserted (nat_lt s) s (x ∷ chosen))
      by_test true e rest =
          let lt = ltb-true s x e in
          subst (λ k. AreApart ordered (insert (x ∷ chosen) k s)) (sym (at_front (nat_lt s) x chosen e)) (((lt, free.0.1), all_beside s x chosen lt free.1 apart.0), apart)
      by_test false e rest =
          subst (λ k. AreApart ordered (insert (x ∷ chosen) k s)) (sym (at_later (nat_lt s) x chosen e)) (insert_beside x s (position_or_len (nat_lt s) chosen) chosen (above free.0.0 e, turned s x free.0.1) apart.0, rest)

  joined_apart : (s : ℕ) (chosen : List ℕ) → AreApart ordered chosen → AreApart ordered (joined ordered chosen s)
  joined_apart s chosen apart = by_test (is_apart ordered s chosen) refl
    where
      by_test : (b : Bool) → is_apart ordered s chosen ≡ b → AreApart ordered (if b then inserted (nat_lt s) s chosen else chosen)
      by_test true e = insert_apart s chosen (all_free s chosen e) apart
      by_test false e = apart

  all_joined_apart : (order chosen : List ℕ) → AreApart ordered chosen → AreApart ordered (fold (joined ordered) chosen order)
  all_joined_apart [] chosen apart = apart
  all_joined_apart (s ∷ order) chosen apart = all_joined_apart order (joined ordered chosen s) (joined_apart s chosen apart)

  pub choice_apart : (sizes : List ℕ) (r : ℕ) → AreApart ordered (choice sizes ordered r)
  choice_apart sizes r = all_joined_apart (falling sizes (length sizes)) (r ∷ []) (tt, tt)
