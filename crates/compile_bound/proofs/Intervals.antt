-- Intervals of which no two have a number in common take at least as many numbers as they have together.
use Rattle.std.proofs.Common.{◌≡◌, ℕ, zero, suc, ◌+◌, ◌-◌, ◌<◌, ◌≤◌, List, [], ◌∷◌, nat_lt, Bool, true, false, refl, subst, ◌∙◌, arith, ◌⊎◌, inl, inr, ⊎_elim}
use Rattle.std.specs.List.{AllByRecursion}
use Rattle.std.proofs.lemmas.Bool.{ltb-true, ltb-false, cases_Bool, lt-ltb, le-ltb}

-- THE NUMBERS OF ONE INTERVAL

-- the sum of f below a number
abbrev total : (ℕ → ℕ) → ℕ → ℕ
total f zero = 0
total f (suc n) = total f n + f n

abbrev bit : Bool → ℕ
bit true = 1
bit false = 0

bit_one : (b : Bool) → b ≡ true → bit b ≡ 1
bit_one true e = refl
bit_one false e = absurd cc

bit_zero : (b : Bool) → b ≡ false → bit b ≡ 0
bit_zero true e = absurd cc
bit_zero false e = refl

-- whether x is among the n numbers from a on
abbrev covers : ℕ → ℕ → ℕ → ℕ
covers a n x = bit (nat_lt x (a + n)) - bit (nat_lt x a)

covers_in : (a n x : ℕ) → a ≤ x → x < a + n → covers a n x ≡ 1
covers_in a n x le lt =
    let one : bit (nat_lt x (a + n)) ≡ 1 = bit_one (nat_lt x (a + n)) (lt-ltb x (a + n) lt) in
    let none : bit (nat_lt x a) ≡ 0 = bit_zero (nat_lt x a) (le-ltb x a le) in
    omega arith

covers_out : (a n x : ℕ) → (x < a) ⊎ (a + n ≤ x) → covers a n x ≡ 0
covers_out a n x (inl lt) =
    let one : bit (nat_lt x (a + n)) ≡ 1 = bit_one (nat_lt x (a + n)) (lt-ltb x (a + n) (omega arith)) in
    let both : bit (nat_lt x a) ≡ 1 = bit_one (nat_lt x a) (lt-ltb x a lt) in
    omega arith
covers_out a n x (inr le) =
    let none : bit (nat_lt x (a + n)) ≡ 0 = bit_zero (nat_lt x (a + n)) (le-ltb x (a + n) le) in
    omega arith

-- which side x is on
pub side : (a x : ℕ) → (x < a) ⊎ (a ≤ x)
side a x = ⊎_elim (λ e. inl (ltb-true x a e)) (λ e. inr (ltb-false x a e)) (cases_Bool (nat_lt x a))

total_below : (a n m : ℕ) → m ≤ a → total (covers a n) m ≡ 0
total_below a n zero le = refl
total_below a n (suc m) le =
    let rest : total (covers a n) m ≡ 0 = total_below a n m (omega arith) in
    let here : covers a n m ≡ 0 = covers_out a n m (inl (omega arith)) in
    omega arith

total_covers : (a n m : ℕ) → a + n ≤ m → total (covers a n) m ≡ n
total_covers a n zero le = omega arith
total_covers a n (suc m) le = ⊎_elim last (λ past_end. past past_end (total_covers a n m past_end)) (side (a + n) m) where
  ends : (k : ℕ) → k ≤ n → total (covers a n) (a + k) ≡ k
  ends zero le_k = let e : a ≡ a + 0 = omega arith in subst (λ v. total (covers a n) v ≡ 0) e (total_below a n a (omega arith))
  ends (suc k) le_k =
      let rest : total (covers a n) (a + k) ≡ k = ends k (omega arith) in
      let here : covers a n (a + k) ≡ 1 = covers_in a n (a + k) (omega arith) (omega arith) in
      let e : suc (a + k) ≡ a + suc k = omega arith in
      subst (λ v. total (covers a n) v ≡ suc k) e (omega arith)

  last : m < a + n → total (covers a n) (suc m) ≡ n
  last lt = let e : a + n ≡ suc m = omega arith in subst (λ v. total (covers a n) v ≡ n) e (ends n (omega arith))

  past : a + n ≤ m → total (covers a n) m ≡ n → total (covers a n) (suc m) ≡ n
  past past_end rest =
      let here : covers a n m ≡ 0 = covers_out a n m (inr past_end) in
      omega arith

total_sum : (f g : ℕ → ℕ) (m : ℕ) → total (λ x. f x + g x) m ≡ total f m + total g m
total_sum f g zero = refl
total_sum f g (suc m) = let rest : total (λ x. f x + g x) m ≡ total f m + total g m = total_sum f g m in omega arith

total_few : (f : ℕ → ℕ) (m : ℕ) → ((x : ℕ) → f x ≤ 1) → total f m ≤ m
total_few f zero few = omega arith
total_few f (suc m) few = let rest : total f m ≤ m = total_few f m few in let one : f m ≤ 1 = few m in omega arith

-- INTERVALS OF A LIST OF RESOURCES, WHERE u HAS THE FIRST NUMBER OF EACH AND n HOW MANY IT HAS

abbrev covered : (ℕ → ℕ) → (ℕ → ℕ) → List ℕ → ℕ → ℕ
covered u n [] x = 0
covered u n (r ∷ chosen) x = covers (u r) (n r) x + covered u n chosen x

abbrev pub whole : (ℕ → ℕ) → List ℕ → ℕ
whole n [] = 0
whole n (r ∷ chosen) = n r + whole n chosen

abbrev pub Clear : (ℕ → ℕ) → (ℕ → ℕ) → ℕ → ℕ → Type 0
Clear u n r s = (u r + n r ≤ u s) ⊎ (u s + n s ≤ u r)

abbrev pub AllClear : (ℕ → ℕ) → (ℕ → ℕ) → List ℕ → Type 0
AllClear u n [] = Unit {0}
AllClear u n (r ∷ chosen) = AllByRecursion (λ s. Clear u n r s) chosen × AllClear u n chosen

total_zero : (m : ℕ) → total (λ x. 0) m ≡ 0
total_zero zero = refl
total_zero (suc m) = let rest : total (λ x. 0) m ≡ 0 = total_zero m in omega arith

total_covered : (u n : ℕ → ℕ) (chosen : List ℕ) (end : ℕ) → AllByRecursion (λ r. u r + n r ≤ end) chosen → total (covered u n chosen) end ≡ whole n chosen
total_covered u n [] end within = total_zero end
total_covered u n (r ∷ chosen) end within =
    let split : total (λ x. covers (u r) (n r) x + covered u n chosen x) end ≡ total (covers (u r) (n r)) end + total (covered u n chosen) end = total_sum (covers (u r) (n r)) (covered u n chosen) end in
    let one : total (covers (u r) (n r)) end ≡ n r = total_covers (u r) (n r) end within.0 in
    let rest : total (covered u n chosen) end ≡ whole n chosen = total_covered u n chosen end within.1 in
    split ∙ omega arith

none_covered : (u n : ℕ → ℕ) (r x : ℕ) (chosen : List ℕ) → u r ≤ x → x < u r + n r → AllByRecursion (λ s. Clear u n r s) chosen → covered u n chosen x ≡ 0
none_covered u n r x [] le lt clear = refl
none_covered u n r x (s ∷ chosen) le lt clear =
    let here : covers (u s) (n s) x ≡ 0 = ⊎_elim (λ (a : u r + n r ≤ u s). covers_out (u s) (n s) x (inl (omega arith))) (λ (a : u s + n s ≤ u r). covers_out (u s) (n s) x (inr (omega arith))) clear.0 in
    let rest : covered u n chosen x ≡ 0 = none_covered u n r x chosen le lt clear.1 in
    omega arith

one_covered : (u n : ℕ → ℕ) (chosen : List ℕ) → AllClear u n chosen → (x : ℕ) → covered u n chosen x ≤ 1
one_covered u n [] clear x = omega arith
one_covered u n (r ∷ chosen) clear x = go (side (u r) x) (side (u r + n r) x) (one_covered u n chosen clear.1 x) where
  go : (x < u r) ⊎ (u r ≤ x) → (x < u r + n r) ⊎ (u r + n r ≤ x) → covered u n chosen x ≤ 1 → covers (u r) (n r) x + covered u n chosen x ≤ 1
  go (inl lt) other rest = let here : covers (u r) (n r) x ≡ 0 = covers_out (u r) (n r) x (inl lt) in omega arith
  go (inr le) (inr past) rest = let here : covers (u r) (n r) x ≡ 0 = covers_out (u r) (n r) x (inr past) in omega arith
  go (inr le) (inl lt) rest =
      let here : covers (u r) (n r) x ≡ 1 = covers_in (u r) (n r) x le lt in
      let none : covered u n chosen x ≡ 0 = none_covered u n r x chosen le lt clear.0 in
      omega arith

-- intervals of which no two have a number in common, and which end at the latest at end, have at most end numbers together
pub fit : (u n : ℕ → ℕ) (chosen : List ℕ) (end : ℕ) → AllClear u n chosen → AllByRecursion (λ r. u r + n r ≤ end) chosen → whole n chosen ≤ end
fit u n chosen end clear within =
    let all : total (covered u n chosen) end ≡ whole n chosen = total_covered u n chosen end within in
    let few : total (covered u n chosen) end ≤ end = total_few (covered u n chosen) end (one_covered u n chosen clear) in
    omega arith
