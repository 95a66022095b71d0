-- What is synchronized in one order is synchronized.
use Rattle.std.proofs.Common.{◌≡◌, ◌≢◌, ◌⊎◌, inl, inr, ℕ, true, false, List, [], ◌∷◌, refl, sym, ◌∙◌, subst, ⊎_elim}
use Rattle.std.proofs.lemmas.Bool.{cases_eq, cases_Bool, false≢true}
use Rattle.law_runs.proofs.Listing.{past, before_forward}
use Rattle.law_runs.specs.Apart.{Among, Earlier, Order}
use Rattle.law_runs.specs.Drain.{SynchronizedIn}
use Rattle.law_runs.specs.Formed.{Formed}
use Rattle.law_runs.specs.Orders.{Before, Synchronized}
use Rattle.law_runs.specs.Systems.{Doing, Store, Superseded, Access, System, Has, changes, is_store, is_superseded}

-- of two nodes of a list one stands earlier
either : (list : List ℕ) (n m : ℕ) → Among n list → Among m list → n ≢ m → Earlier list n m ⊎ Earlier list m n
either [] n m h k ne = absurd h
either (u ∷ rest) n m h k ne = by (cases_eq u n) (cases_eq u m) (λ a b. either rest n m a b ne)
  where
    in_rest : (x : ℕ) → (u ≡ x → ⊥) → Among x (u ∷ rest) → Among x rest
    in_rest x f g = ⊎_elim (λ e. absurd (f (sym e))) (λ q. q) g

    by : (u ≡ n) ⊎ (u ≡ n → ⊥) → (u ≡ m) ⊎ (u ≡ m → ⊥) → (Among n rest → Among m rest → Earlier rest n m ⊎ Earlier rest m n) → Earlier (u ∷ rest) n m ⊎ Earlier (u ∷ rest) m n
    by (inl p) (inl q) more = absurd (ne (sym p ∙ q))
    by (inl p) (inr q) more = inl (subst (λ l. Among n l) (sym (past u m rest q)) (inl (sym p)))
    by (inr p) (inl q) more = inr (subst (λ l. Among m l) (sym (past u n rest p)) (inl (sym q)))
    by (inr p) (inr q) more = ⊎_elim
        (λ e. inl (subst (λ l. Among n l) (sym (past u m rest q)) (inr e)))
        (λ e. inr (subst (λ l. Among m l) (sym (past u n rest p)) (inr e)))
        (more (in_rest n p h) (in_rest m q k))

store_last : (d : Doing) → is_store d ≡ true → is_superseded d ≡ false
store_last Store h = refl
store_last d h = absurd (false≢true h)

change_last : (d : Doing) → changes d ≡ true → is_superseded d ≡ false
change_last Superseded h = absurd (false≢true h)
change_last d h = refl

module _ (S : System) (F : Formed S) (order : List ℕ) (O : Order S order) (D : SynchronizedIn S order) where
  -- a superseded store too is before what is later
  first : (n m : ℕ) (a b : Access) → Has S n a → Has S m b → Earlier order n m → S.clash a b ≡ true → Before S n a m b
  first n m a b ha hb e c = go (cases_Bool (is_superseded a.doing))
    where
      by : (t : Access) → Has S n t → is_store t.doing ≡ true → ((x : ℕ) → S.leaves n t x ≡ true → S.leaves n a x ≡ true) → S.clash t b ≡ true → Before S n a m b
      by t ht st up ct = let B = D.before n m t b ht hb e ct (store_last t.doing st) in record { x = B.x; y = B.y; leaves = up B.x B.leaves; leads = B.leads; enters = B.enters }

      go : (is_superseded a.doing ≡ true) ⊎ (is_superseded a.doing ≡ false) → Before S n a m b
      go (inl q) = let t = F.superseded n a ha q in by t.0 t.1 t.2 t.3 (t.4 b c)
      go (inr q) = D.before n m a b ha hb e c q

  pub synchronized : Synchronized S
  synchronized = record {
    ordered = λ n m a b ha hb ne c. ⊎_elim (λ e. inl (first n m a b ha hb e c)) (λ e. inr (first m n b a hb ha e (F.clash_back a b c))) (either order n m (O.all n (F.within n a ha)) (O.all m (F.within m b hb)) ne);
    passed = λ n m a b ha hb ne c B ch keeps full. D.passed n m a b ha hb (before_forward S F order O n m a b ne B) c (change_last a.doing ch) ch keeps full;
  }
