-- Unions over rows meet what one of the rows meets.
use Rattle.std.proofs.Common.{◌≡◌, ◌⊎◌, inl, inr, ℕ, Bool, true, false, ◌||◌, ◌&&◌, ◌==◌, not, List, [], ◌∷◌, bit_and, bit_or, if◌then◌else◌, refl, sym, ap, ◌∙◌, ⊎_elim, eq-eqb, eqb-true, arith}
use Rattle.std.proofs.lemmas.Bool.{and_parts, and_from, or_cases, or_left, or_right, cases_Bool, false≢true}
use Rattle.std.proofs.lemmas.Nat.{and_comm, and_assoc, and_or_self, and_or_apart}
use Rattle.std.proofs.lemmas.Nat.Bits.{bit_at_and, bit_at_or, same_from_bits}
use Rattle.std.specs.Int.{bit_at}
use Rattle.std.specs.Int.Bits.{and_zero_l, and_zero_r}
use Rattle.std.specs.List.{list_any, list_all}
use Rattle.base.proofs.Booleans.{clash, or_assoc, or_false, or_true}
use Rattle.vk.specs.Sets.{has, meets, union_from, union_over}

pub meets_turned : (a b : ℕ) → meets a b ≡ meets b a
meets_turned a b = ap (λ t. not (t == 0)) (and_comm a b)

meets_zero : (t : ℕ) → meets 0 t ≡ false
meets_zero t = ap (λ z. not (z == 0)) (and_zero_l t)

-- a union meets what one of the two sets meets
pub meets_either : (a b s : ℕ) → meets (bit_or a b) s ≡ (meets a s || meets b s)
meets_either a b s = go (bit_and b s == 0) refl
  where
    none : bit_and (bit_or a b) s ≡ 0 → bit_and b s ≡ 0
    none e = ap (λ z. bit_and z s) (sym (and_or_self b a) ∙ and_comm (bit_or a b) b) ∙ and_assoc s b (bit_or a b) ∙ ap (λ z. bit_and b z) e ∙ and_zero_r b

    both : (bit_and b s == 0) ≡ false → meets (bit_or a b) s ≡ true
    both h = ⊎_elim
        (λ e. absurd (false≢true (sym h ∙ eq-eqb (bit_and b s) 0 (none (eqb-true (bit_and (bit_or a b) s) 0 e)))))
        (λ e. ap not e)
        (cases_Bool (bit_and (bit_or a b) s == 0))

    go : (y : Bool) → (bit_and b s == 0) ≡ y → meets (bit_or a b) s ≡ (meets a s || not y)
    go true q = ap (λ z. not (z == 0)) (and_or_apart s a b (eqb-true (bit_and b s) 0 q)) ∙ sym (or_false (meets a s))
    go false q = both q ∙ sym (or_true (meets a s))

meets_from : {X : Type 0} (f : X → ℕ) (rows : List X) (s t : ℕ) → meets (union_from s f rows) t ≡ (meets s t || list_any (λ r. meets (f r) t) rows)
meets_from f [] s t = sym (or_false (meets s t))
meets_from f (r ∷ rows) s t =
    meets_from f rows (bit_or s (f r)) t
    ∙ ap (λ z. z || list_any (λ r. meets (f r) t) rows) (meets_either s (f r) t)
    ∙ or_assoc (meets s t) (meets (f r) t) (list_any (λ r. meets (f r) t) rows)

pub meets_over : {X : Type 0} (f : X → ℕ) (rows : List X) (t : ℕ) → meets (union_over f rows) t ≡ list_any (λ r. meets (f r) t) rows
meets_over f rows t = meets_from f rows 0 t ∙ ap (λ z. z || list_any (λ r. meets (f r) t) rows) (meets_zero t)

-- ONE OF THE ROWS

abbrev pub Any : {X : Type 0} → (X → Type 0) → List X → Type 0
Any P [] = ⊥
Any P (x ∷ xs) = P x ⊎ Any P xs

pub any_of : {X : Type 0} (p : X → Bool) (xs : List X) → list_any p xs ≡ true → Any (λ x. p x ≡ true) xs
any_of p [] h = absurd (clash h)
any_of p (x ∷ xs) h = ⊎_elim (λ e. inl e) (λ e. inr (any_of p xs e)) (or_cases (p x) (list_any p xs) h)

any_true : {X : Type 0} (p : X → Bool) (xs : List X) → Any (λ x. p x ≡ true) xs → list_any p xs ≡ true
any_true p [] h = absurd h
any_true p (x ∷ xs) (inl e) = or_left (p x) (list_any p xs) e
any_true p (x ∷ xs) (inr h) = or_right (p x) (list_any p xs) (any_true p xs h)

any_on : {X : Type 0} (P Q : X → Type 0) (xs : List X) → ((x : X) → P x → Q x) → Any P xs → Any Q xs
any_on P Q [] f h = h
any_on P Q (x ∷ xs) f (inl p) = inl (f x p)
any_on P Q (x ∷ xs) f (inr h) = inr (any_on P Q xs f h)

-- what passes a test that all pass
any_tested : {X : Type 0} (P : X → Type 0) (q : X → Bool) (xs : List X) → list_all q xs ≡ true → Any P xs → (x : X) × P x × (q x ≡ true)
any_tested P q [] t h = absurd h
any_tested P q (x ∷ xs) t (inl p) = (x, p, (and_parts (q x) (list_all q xs) t).0)
any_tested P q (x ∷ xs) t (inr h) = any_tested P q xs (and_parts (q x) (list_all q xs) t).1 h

-- MASKS BY THEIR WORDS

chosen : (b : Bool) (g t : ℕ) → meets (if b then g else 0) t ≡ true → (b ≡ true) × (meets g t ≡ true)
chosen true g t h = (refl, h)
chosen false g t h = absurd (clash (sym (meets_zero t) ∙ h))

taken : (b : Bool) (g t : ℕ) → (b ≡ true) × (meets g t ≡ true) → meets (if b then g else 0) t ≡ true
taken true g t h = h.1
taken false g t h = absurd (clash h.0)

-- what a mask's words add
abbrev pub over : {X : Type 0} → (X → ℕ) → (X → ℕ) → List X → ℕ → ℕ
over bit of rows mask = union_over (λ r. if has mask (bit r) then of r else 0) rows

abbrev Held : {X : Type 0} → (X → ℕ) → (X → ℕ) → ℕ → ℕ → X → Type 0
Held bit of mask t r = (has mask (bit r) ≡ true) × (meets (of r) t ≡ true)

pub held : {X : Type 0} (bit of : X → ℕ) (rows : List X) (mask t : ℕ) → meets (over bit of rows mask) t ≡ true → Any (Held bit of mask t) rows
held bit of rows mask t h = any_on (λ r. meets (if has mask (bit r) then of r else 0) t ≡ true) (Held bit of mask t) rows (λ r e. chosen (has mask (bit r)) (of r) t e)
    (any_of (λ r. meets (if has mask (bit r) then of r else 0) t) rows (sym (meets_over (λ r. if has mask (bit r) then of r else 0) rows t) ∙ h))

pub holds : {X : Type 0} (bit of : X → ℕ) (rows : List X) (mask t : ℕ) → Any (Held bit of mask t) rows → meets (over bit of rows mask) t ≡ true
holds bit of rows mask t h = meets_over (λ r. if has mask (bit r) then of r else 0) rows t
    ∙ any_true (λ r. meets (if has mask (bit r) then of r else 0) t) rows (any_on (Held bit of mask t) (λ r. meets (if has mask (bit r) then of r else 0) t ≡ true) rows (λ r e. taken (has mask (bit r)) (of r) t e) h)

-- a word of a mask is one of those that the mask is made of
pub within : (old mask bit : ℕ) → has old mask ≡ true → has mask bit ≡ true → has old bit ≡ true
within old mask bit h g = eq-eqb (bit_and old bit) bit
    (ap (λ z. bit_and old z) (sym (eqb-true (bit_and mask bit) bit g)) ∙ sym (and_assoc bit old mask) ∙ ap (λ z. bit_and z bit) (eqb-true (bit_and old mask) mask h) ∙ eqb-true (bit_and mask bit) bit g)

pub has_both : (o a b : ℕ) → has o a ≡ true → has o b ≡ true → has o (bit_or a b) ≡ true
has_both o a b h g = eq-eqb (bit_and o (bit_or a b)) (bit_or a b) (same_from_bits (bit_and o (bit_or a b)) (bit_or a b) (λ i.
    let p : bit_at (bit_and o a) i ≡ bit_at a i = ap (λ n. bit_at n i) (eqb-true (bit_and o a) a h) in
    let q : bit_at (bit_and o b) i ≡ bit_at b i = ap (λ n. bit_at n i) (eqb-true (bit_and o b) b g) in
    omega (arith, p, q, bit_at_and o a i, bit_at_and o b i, bit_at_and o (bit_or a b) i, bit_at_or a b i)))

pub has_nothing : (o : ℕ) → has o 0 ≡ true
has_nothing o = eq-eqb (bit_and o 0) 0 (and_zero_r o)

-- two tables of words: where two old words of the first meet, so do the same words of the second
module _ {X Y : Type 0} (xbit xof xto : X → ℕ) (xs : List X) (ybit yof yto : Y → ℕ) (ys : List Y) (old : ℕ) where
  abbrev other : X → X → Y → Y → Bool
  other w v a b = (ybit b == xbit v) && meets (yof a) (yto b)

  abbrev others : X → X → Y → Bool
  others w v a = (ybit a == xbit w) && list_any (other w v a) ys

  abbrev pair : X → X → Bool
  pair w v = not (has old (xbit w) && (has old (xbit v) && meets (xof w) (xto v))) || list_any (others w v) ys

  abbrev pub agrees : Bool
  agrees = list_all (λ w. list_all (pair w) xs) xs

  go_on : (b c : Bool) → b ≡ true → (not b || c) ≡ true → c ≡ true
  go_on true c e h = h
  go_on false c e h = absurd (clash e)

  pub met : agrees ≡ true → (m n : ℕ) → has old m ≡ true → has old n ≡ true → meets (over xbit xof xs m) (over xbit xto xs n) ≡ true → meets (over ybit yof ys m) (over ybit yto ys n) ≡ true
  met all m n hm hn h =
      let w = any_tested (Held xbit xof m (over xbit xto xs n)) (λ w. list_all (pair w) xs) xs all (held xbit xof xs m (over xbit xto xs n) h) in
      let v = any_tested (Held xbit xto n (xof w.0)) (pair w.0) xs w.2 (held xbit xto xs n (xof w.0) (meets_turned (over xbit xto xs n) (xof w.0) ∙ w.1.1)) in
      let both : meets (xof w.0) (xto v.0) ≡ true = meets_turned (xof w.0) (xto v.0) ∙ v.1.1 in
      let there = go_on (has old (xbit w.0) && (has old (xbit v.0) && meets (xof w.0) (xto v.0))) (list_any (others w.0 v.0) ys)
      (and_from (has old (xbit w.0)) (has old (xbit v.0) && meets (xof w.0) (xto v.0)) (within old m (xbit w.0) hm w.1.0)
      (and_from (has old (xbit v.0)) (meets (xof w.0) (xto v.0)) (within old n (xbit v.0) hn v.1.0) both)) v.2 in
      holds ybit yof ys m (over ybit yto ys n)
      (any_on (λ a. others w.0 v.0 a ≡ true) (Held ybit yof m (over ybit yto ys n)) ys
      (λ a e.
      let p = and_parts (ybit a == xbit w.0) (list_any (other w.0 v.0 a) ys) e in (
        ap (λ z. has m z) (eqb-true (ybit a) (xbit w.0) p.0) ∙ w.1.0,
        meets_turned (yof a) (over ybit yto ys n)
            ∙ holds ybit yto ys n (yof a)
            (any_on (λ b. other w.0 v.0 a b ≡ true) (Held ybit yto n (yof a)) ys
            (λ b f.
            let q = and_parts (ybit b == xbit v.0) (meets (yof a) (yto b)) f in
            (ap (λ z. has n z) (eqb-true (ybit b) (xbit v.0) q.0) ∙ v.1.0, meets_turned (yto b) (yof a) ∙ q.1))
            (any_of (other w.0 v.0 a) ys p.1)),
      ))
      (any_of (others w.0 v.0) ys there))

pub alike : (a b : Bool) → (a ≡ true → b ≡ true) → (b ≡ true → a ≡ true) → a ≡ b
alike true b f g = sym (f refl)
alike false true f g = g refl
alike false false f g = refl
