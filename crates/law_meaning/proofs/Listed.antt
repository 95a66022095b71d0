-- What a partial function gives of a list: what it gives of the numbers in it where it gives something, in their order.
use Rattle.std.proofs.Common.{◌≡◌, ◌≢◌, ◌⊎◌, inl, inr, ℕ, if◌then◌else◌, List, [], ◌∷◌, Option, Some, None, refl, sym, ap, ◌∙◌, subst, eq-eqb}
use Rattle.std.specs.List.{cons_option, filter_map}
use Rattle.std.proofs.lemmas.Bool.{ne_eqb}
use Rattle.check_order.specs.Orders.{Among, Distinct, before_in, Earlier}

pub nothing : {Y : Type 0} (y : Y) → Some y ≡ None → ⊥
nothing y e = cc

-- these stand in the list one after another
abbrev pub Rise : List ℕ → List ℕ → Type 0
Rise list [] = Unit {0}
Rise list (n ∷ ns) = ((m : ℕ) → Among m ns → Earlier list n m) × Rise list ns

-- THE FIRST OF A LIST

module _ (x : ℕ) (rest : List ℕ) where
  -- nothing stands before it
  none_before : (m : ℕ) → Earlier (x ∷ rest) m x → ⊥
  none_before m e = subst (λ b. Among m (if b then [] else x ∷ before_in rest x)) (eq-eqb x x refl) e

  past : (m : ℕ) → m ≢ x → Among m (x ∷ rest) → Among m rest
  past m other (inl same) = absurd (other same)
  past m other (inr a) = a

  -- of others, one stands before another after it too
  after_first : (m n : ℕ) → m ≢ x → n ≢ x → Earlier (x ∷ rest) m n → Earlier rest m n
  after_first m n other apart e = go (subst (λ b. Among m (if b then [] else x ∷ before_in rest n)) (ne_eqb x n (λ same. apart (sym same))) e)
    where
      go : (m ≡ x) ⊎ Among m (before_in rest n) → Among m (before_in rest n)
      go (inl same) = absurd (other same)
      go (inr a) = a

  still_rise : (ns : List ℕ) → ((n : ℕ) → Among n ns → n ≢ x) → Rise (x ∷ rest) ns → Rise rest ns
  still_rise [] apart R = tt
  still_rise (n ∷ ns) apart R = ((λ m a. after_first n m (apart n (inl refl)) (apart m (inr a)) (R.0 m a)), still_rise ns (λ m a. apart m (inr a)) R.1)

-- WHERE SOMETHING IS GIVEN

module _ {Y : Type 0} (f : ℕ → Option Y) where
  -- the numbers of a list without repetition where f gives something are these, in their order
  pub record ArePicked (list ns : List ℕ) : Type 0 where
    pub once : Distinct list
    pub rise : Rise list ns
    pub there : (n : ℕ) → Among n ns → Among n list
    pub given : (n : ℕ) → Among n ns → f n ≡ None → ⊥
    pub only : (n : ℕ) (y : Y) → Among n list → f n ≡ Some y → Among n ns

  -- past a number where nothing is given
  skipped : (x : ℕ) (rest ns : List ℕ) → f x ≡ None → ArePicked (x ∷ rest) ns → ArePicked rest ns
  skipped x rest ns none P = record {
    once = P.once.1;
    rise = still_rise x rest ns apart P.rise;
    there = λ n a. past x rest n (apart n a) (P.there n a);
    given = P.given;
    only = λ n y a e. P.only n y (inr a) e;
  }
    where
      apart : (n : ℕ) → Among n ns → n ≢ x
      apart n a same = P.given n a (ap f same ∙ none)

  record IsTaken (x : ℕ) (rest ns : List ℕ) : Type 0 where
    more : List ℕ
    is : ns ≡ x ∷ more
    picked : ArePicked rest more

  -- one where something is given is the first of them
  taken : (x : ℕ) (rest ns : List ℕ) (y : Y) → f x ≡ Some y → ArePicked (x ∷ rest) ns → IsTaken x rest ns
  taken x rest [] y e P = absurd (P.only x y (inl refl) e)
  taken x rest (n ∷ ns) y e P = go (P.only x y (inl refl) e)
    where
      apart : (m : ℕ) → Among m ns → m ≢ x
      apart m a same = none_before x rest n (subst (Earlier (x ∷ rest) n) same (P.rise.0 m a))

      later : x ≡ n → (m : ℕ) → Among m rest → (m ≡ n) ⊎ Among m ns → Among m ns
      later same m a (inl is) = absurd (P.once.0 (subst (λ z. Among z rest) (is ∙ sym same) a))
      later same m a (inr b) = b

      go : (x ≡ n) ⊎ Among x ns → IsTaken x rest (n ∷ ns)
      go (inr a) = absurd (none_before x rest n (P.rise.0 x a))
      go (inl same) = record {
        more = ns;
        is = ap (λ z. z ∷ ns) (sym same);
        picked = record {
          once = P.once.1;
          rise = still_rise x rest ns apart P.rise.1;
          there = λ m a. past x rest m (apart m a) (P.there m (inr a));
          given = λ m a. P.given m (inr a);
          only = λ m z a g. later same m a (P.only m z (inr a) g);
        };
      }

  pub picked_alone : (list ns : List ℕ) → ArePicked list ns → filter_map f list ≡ filter_map f ns
  picked_alone [] [] P = refl
  picked_alone [] (n ∷ ns) P = absurd (P.there n (inl refl))
  picked_alone (x ∷ rest) ns P = go (f x) refl (picked_alone rest)
    where
      go : (o : Option Y) → f x ≡ o → ((more : List ℕ) → ArePicked rest more → filter_map f rest ≡ filter_map f more) → cons_option o (filter_map f rest) ≡ filter_map f ns
      go None e same = same ns (skipped x rest ns e P)
      go (Some y) e same =
          let t = taken x rest ns y e P in
          ap (λ l. y ∷ l) (same t.more t.picked) ∙ ap (λ o. cons_option o (filter_map f t.more)) (sym e) ∙ ap (filter_map f) (sym t.is)
