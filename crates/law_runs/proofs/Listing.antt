-- Lists of nodes, split at a node, and orders of all nodes.
use Rattle.std.proofs.Common.{◌≡◌, ◌≢◌, ◌⊎◌, inl, inr, ℕ, ◌<◌, ◌==◌, List, [], ◌∷◌, ◌++◌, length, sym, ap, ◌∙◌, subst, ⊎_elim, eq-eqb, ne_eqb, if◌then◌else◌, true, false, cond, arith}
use Rattle.std.proofs.lemmas.Bool.{cases_eq, cases_Bool}
use Rattle.law_runs.proofs.Formed.{Ranked}
use Rattle.law_runs.specs.Formed.{Formed}
use Rattle.law_runs.specs.Apart.{Among, Distinct, before_in, Earlier, Order}
use Rattle.law_runs.specs.Orders.{Path, one, then_on, UpTo, Before}
use Rattle.law_runs.specs.Systems.{Access, System}

pub up_to : (u n : ℕ) (list : List ℕ) → u ≡ n → before_in (u ∷ list) n ≡ []
up_to u n list e = ap (λ t. cond t [] (u ∷ before_in list n)) (eq-eqb u n e)

pub past : (z n : ℕ) (rest : List ℕ) → z ≢ n → before_in (z ∷ rest) n ≡ z ∷ before_in rest n
past z n rest ne = ap (λ t. cond t [] (z ∷ before_in rest n)) (ne_eqb z n ne)

not_itself : (list : List ℕ) (n : ℕ) → Earlier list n n → ⊥
not_itself [] n h = h
not_itself (u ∷ list) n h = ⊎_elim (λ e. subst (λ l. Among n l) (up_to u n list e) h) (λ ne. ⊎_elim (λ k. ne (sym k)) (λ k. not_itself list n k) (subst (λ l. Among n l) (past u n list ne) h)) (cases_eq u n)

then_far : (x y u : ℕ) (fy fn : List ℕ) → (u ≡ y → ⊥) → (Among y fn → Among x fy → Among x fn) → (y ≡ u) ⊎ Among y fn → (x ≡ u) ⊎ Among x fy → (x ≡ u) ⊎ Among x fn
then_far x y u fy fn e ih a (inl q) = inl q
then_far x y u fy fn e ih (inl p) (inr q) = absurd (e (sym p))
then_far x y u fy fn e ih (inr p) (inr q) = inr (ih p q)

pub earlier_then : (list : List ℕ) (x y n : ℕ) → Earlier list x y → Earlier list y n → Earlier list x n
earlier_then [] x y n h k = absurd k
earlier_then (u ∷ list) x y n h k =
    ⊎_elim (λ (e : u ≡ n). absurd (subst (λ l. Among y l) (up_to u n list e) k))
    (λ (e : u ≡ n → ⊥).
    subst (λ l. Among x l) (sym (past u n list e))
    (⊎_elim (λ (p : u ≡ y). absurd (subst (λ l. Among x l) (up_to u y list p) h))
    (λ (p : u ≡ y → ⊥). then_far x y u (before_in list y) (before_in list n) p (λ b a. earlier_then list x y n a b) (subst (λ l. Among y l) (past u n list e) k) (subst (λ l. Among x l) (past u y list p) h))
    (cases_eq u y)))
    (cases_eq u n)

pub not_both : (list : List ℕ) (x y : ℕ) → Earlier list x y → Earlier list y x → ⊥
not_both list x y h k = not_itself list x (earlier_then list x y x h k)

pub among_right : (done rest : List ℕ) (n : ℕ) → Among n rest → Among n (done ++ rest)
among_right [] rest n h = h
among_right (x ∷ done) rest n h = inr (among_right done rest n h)

-- the list from n on, without it
abbrev pub after_in : List ℕ → ℕ → List ℕ
after_in [] n = []
after_in (x ∷ rest) n = if x == n then rest else after_in rest n

after_at : (x n : ℕ) (rest : List ℕ) → x ≡ n → after_in (x ∷ rest) n ≡ rest
after_at x n rest e = ap (λ z. if z then rest else after_in rest n) (eq-eqb x n e)

after_past : (x n : ℕ) (rest : List ℕ) → x ≢ n → after_in (x ∷ rest) n ≡ after_in rest n
after_past x n rest e = ap (λ z. if z then rest else after_in rest n) (ne_eqb x n e)

pub earlier_among : (list : List ℕ) (x n : ℕ) → Earlier list x n → Among x list
earlier_among [] x n h = h
earlier_among (u ∷ rest) x n h = ⊎_elim (λ e. absurd (subst (λ l. Among x l) (up_to u n rest e) h)) (λ e. ⊎_elim (λ q. inl q) (λ q. inr (earlier_among rest x n q)) (subst (λ l. Among x l) (past u n rest e) h)) (cases_eq u n)

-- the list up to n is the list up to w, w, and what is between
pub before_split : (list : List ℕ) (w n : ℕ) → Earlier list w n → before_in list n ≡ before_in list w ++ w ∷ before_in (after_in list w) n
before_split [] w n h = absurd h
before_split (u ∷ rest) w n h =
    ⊎_elim (λ (e : u ≡ n). absurd (subst (λ l. Among w l) (up_to u n rest e) h))
    (λ (e : u ≡ n → ⊥).
    ⊎_elim
    (λ (p : u ≡ w).
    past u n rest e ∙ ap (λ z. z ∷ before_in rest n) p
    ∙ sym (ap (λ l. l ++ w ∷ before_in (after_in (u ∷ rest) w) n) (up_to u w rest p) ∙ ap (λ l. w ∷ before_in l n) (after_at u w rest p)))
    (λ (p : u ≡ w → ⊥).
    past u n rest e ∙ ap (λ l. u ∷ l) (before_split rest w n (⊎_elim (λ q. absurd (p (sym q))) (λ q. q) (subst (λ l. Among w l) (past u n rest e) h)))
    ∙ sym (ap (λ l. l ++ w ∷ before_in (after_in (u ∷ rest) w) n) (past u w rest p) ∙ ap (λ l. (u ∷ before_in rest w) ++ w ∷ before_in l n) (after_past u w rest p)))
    (cases_eq u w))
    (cases_eq u n)

-- the whole list is the list up to n, n, and what is after it
pub list_split : (list : List ℕ) (n : ℕ) → Among n list → list ≡ before_in list n ++ n ∷ after_in list n
list_split [] n h = absurd h
list_split (u ∷ rest) n h =
    ⊎_elim
    (λ (e : u ≡ n). ap (λ z. z ∷ rest) e ∙ sym (ap (λ z. (if z then [] else u ∷ before_in rest n) ++ n ∷ (if z then rest else after_in rest n)) (eq-eqb u n e)))
    (λ (e : u ≡ n → ⊥).
    ap (λ l. u ∷ l) (list_split rest n (⊎_elim (λ q. absurd (e (sym q))) (λ q. q) h))
    ∙ sym (ap (λ z. (if z then [] else u ∷ before_in rest n) ++ n ∷ (if z then rest else after_in rest n)) (ne_eqb u n e)))
    (cases_eq u n)

after_among : (list : List ℕ) (v w : ℕ) → Among v (after_in list w) → Among v list
after_among [] v w h = h
after_among (u ∷ rest) v w h = ⊎_elim (λ (e : u ≡ w). inr (subst (λ l. Among v l) (after_at u w rest e) h)) (λ (e : u ≡ w → ⊥). inr (after_among rest v w (subst (λ l. Among v l) (after_past u w rest e) h))) (cases_eq u w)

-- what is after w is not w, nor before it
pub after_not : (list : List ℕ) (v w : ℕ) → Distinct list → Among v (after_in list w) → (v ≡ w → ⊥) × (Earlier list v w → ⊥)
after_not [] v w d h = absurd h
after_not (u ∷ rest) v w d h =
    ⊎_elim
    (λ (e : u ≡ w).
    let k : Among v rest = subst (λ l. Among v l) (after_at u w rest e) h in
    ((λ q. d.0 (subst (λ z. Among z rest) (q ∙ sym e) k)), (λ q. subst (λ l. Among v l) (up_to u w rest e) q)))
    (λ (e : u ≡ w → ⊥).
    let k : Among v (after_in rest w) = subst (λ l. Among v l) (after_past u w rest e) h in
    let r = after_not rest v w d.1 k in
    (r.0, (λ q. ⊎_elim (λ z. d.0 (subst (λ y. Among y rest) z (after_among rest v w k))) (λ z. r.1 z) (subst (λ l. Among v l) (past u w rest e) q))))
    (cases_eq u w)

-- RANKS

-- how many stand before it
abbrev pub rank_in : List ℕ → ℕ → ℕ
rank_in list n = length (before_in list n)

pub earlier_rank : (list : List ℕ) (x n : ℕ) → Earlier list x n → rank_in list x < rank_in list n
earlier_rank [] x n h = absurd h
earlier_rank (u ∷ rest) x n h = ⊎_elim
    (λ (e : u ≡ n). absurd (subst (λ l. Among x l) (up_to u n rest e) h))
    (λ (e : u ≡ n → ⊥). subst (λ l. rank_in (u ∷ rest) x < length l) (sym (past u n rest e)) (go e (λ q. earlier_rank rest x n q) (cases_eq u x)))
    (cases_eq u n)
  where
    in_rest : (u ≡ n → ⊥) → (u ≡ x → ⊥) → Earlier rest x n
    in_rest e f = ⊎_elim (λ q. absurd (f (sym q))) (λ q. q) (subst (λ l. Among x l) (past u n rest e) h)

    go : (u ≡ n → ⊥) → (Earlier rest x n → rank_in rest x < rank_in rest n) → (u ≡ x) ⊎ (u ≡ x → ⊥) → rank_in (u ∷ rest) x < length (u ∷ before_in rest n)
    go e more (inl p) = subst (λ l. length l < length (u ∷ before_in rest n)) (sym (up_to u x rest p)) (omega arith)
    go e more (inr f) = subst (λ l. length l < length (u ∷ before_in rest n)) (sym (past u x rest f)) (let r = more (in_rest e f) in omega (arith, r))

pub ranked : (S : System) (order : List ℕ) → Order S order → Ranked S (rank_in order)
ranked S order O = record {
  edges = λ x y e. earlier_rank order x y (O.edges x y e);
  leaves = λ n a x cl l. earlier_rank order n x (O.leaves n a x cl l);
  enters = λ y n a cl l. earlier_rank order y n (O.enters y n a cl l);
}

pub forward : (S : System) (order : List ℕ) → Order S order → (x y : ℕ) → Path S.edge x y → Earlier order x y
forward S order O x y (one e) = O.edges x y e
forward S order O x y (then_on {b = z} p q) = earlier_then order x z y (forward S order O x z p) (forward S order O z y q)

-- an access that is before one of another node is one of a node that stands before it
pub before_forward : (S : System) (F : Formed S) (order : List ℕ) → Order S order → (n m : ℕ) (a b : Access) → n ≢ m → Before S n a m b → Earlier order n m
before_forward S F order O n m a b ne B = go (cases_Bool (S.is_command n)) (cases_Bool (S.is_command m))
  where
    to : (x y : ℕ) → (n ≡ x) ⊎ Earlier order n x → (y ≡ m) ⊎ Earlier order y m → UpTo S x y → Earlier order n m
    to x y (inl p) (inl q) (inl e) = absurd (ne (p ∙ e ∙ q))
    to x y (inl p) (inl q) (inr r) = subst (λ z. Earlier order z m) (sym p) (subst (λ z. Earlier order x z) q (forward S order O x y r))
    to x y (inl p) (inr q) (inl e) = subst (λ z. Earlier order z m) (sym (p ∙ e)) q
    to x y (inl p) (inr q) (inr r) = subst (λ z. Earlier order z m) (sym p) (earlier_then order x y m (forward S order O x y r) q)
    to x y (inr p) (inl q) (inl e) = subst (λ z. Earlier order n z) (e ∙ q) p
    to x y (inr p) (inl q) (inr r) = subst (λ z. Earlier order n z) q (earlier_then order n x y p (forward S order O x y r))
    to x y (inr p) (inr q) (inl e) = earlier_then order n x m p (subst (λ z. Earlier order z m) (sym e) q)
    to x y (inr p) (inr q) (inr r) = earlier_then order n x m p (earlier_then order x y m (forward S order O x y r) q)

    go : (S.is_command n ≡ true) ⊎ (S.is_command n ≡ false) → (S.is_command m ≡ true) ⊎ (S.is_command m ≡ false) → Earlier order n m
    go (inl p) (inl q) = to B.x B.y (inr (O.leaves n a B.x p B.leaves)) (inr (O.enters B.y m b q B.enters)) B.leads
    go (inl p) (inr q) = to B.x B.y (inr (O.leaves n a B.x p B.leaves)) (inl (F.enters_self B.y m b q B.enters)) B.leads
    go (inr p) (inl q) = to B.x B.y (inl (sym (F.leaves_self n a B.x p B.leaves))) (inr (O.enters B.y m b q B.enters)) B.leads
    go (inr p) (inr q) = to B.x B.y (inl (sym (F.leaves_self n a B.x p B.leaves))) (inl (F.enters_self B.y m b q B.enters)) B.leads
