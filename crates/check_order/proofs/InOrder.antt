-- Happens-before and the orders of the nodes.
use Rattle.std.proofs.Common.{◌≡◌, ◌≢◌, ◌⊎◌, inl, inr, ℕ, ◌<◌, List, [], ◌∷◌, length, sym, ap, subst, ⊎_elim, eq-eqb, ne_eqb, cond}
use Rattle.std.proofs.lemmas.Bool.{cases_eq}
use Rattle.check_order.specs.Edges.{edge, sync_edge}
use Rattle.check_order.specs.Orders.{Among, before_in, Earlier, Order}
use Rattle.check_order.specs.declared.node.Node.{Node}
use Rattle.check_order.proofs.Within.{edge_within, sync_is_edge}
use Rattle.base_reach.specs.Paths.{Path, one, then_on}

pub up_to : (u n : ℕ) (list : List ℕ) → u ≡ n → before_in (u ∷ list) n ≡ []
up_to u n list e = ap (λ t. cond t [] (u ∷ before_in list n)) (eq-eqb u n e)

pub past : (z n : ℕ) (rest : List ℕ) → z ≢ n → before_in (z ∷ rest) n ≡ z ∷ before_in rest n
past z n rest ne = ap (λ t. cond t [] (z ∷ before_in rest n)) (ne_eqb z n ne)

not_itself : (list : List ℕ) (n : ℕ) → Earlier list n n → ⊥
not_itself [] n h = h
not_itself (u ∷ list) n h = ⊎_elim (λ e. subst (λ l. Among n l) (up_to u n list e) h) (λ ne. ⊎_elim (λ k. ne (sym k)) (λ k. not_itself list n k) (subst (λ l. Among n l) (past u n list ne) h)) (cases_eq u n)

then_far : (x y u : ℕ) (fy fn : List ℕ) → (u ≡ y → ⊥) → (Among y fn → Among x fy → Among x fn) → (y ≡ u) ⊎ Among y fn → (x ≡ u) ⊎ Among x fy → (x ≡ u) ⊎ Among x fn
then_far x y u fy fn e ih a (inl q) = inl q
then_far x y u fy fn e ih (inl p) (inr q) = absurd (e (sym p))
then_far x y u fy fn e ih (inr p) (inr q) = inr (ih p q)

earlier_then : (list : List ℕ) (x y n : ℕ) → Earlier list x y → Earlier list y n → Earlier list x n
earlier_then [] x y n h k = absurd k
earlier_then (u ∷ list) x y n h k =
    ⊎_elim (λ (e : u ≡ n). absurd (subst (λ l. Among y l) (up_to u n list e) k))
    (λ (e : u ≡ n → ⊥).
    subst (λ l. Among x l) (sym (past u n list e))
    (⊎_elim (λ (p : u ≡ y). absurd (subst (λ l. Among x l) (up_to u y list p) h))
    (λ (p : u ≡ y → ⊥). then_far x y u (before_in list y) (before_in list n) p (λ b a. earlier_then list x y n a b) (subst (λ l. Among y l) (past u n list e) k) (subst (λ l. Among x l) (past u y list p) h))
    (cases_eq u y)))
    (cases_eq u n)

pub not_both : (list : List ℕ) (x y : ℕ) → Earlier list x y → Earlier list y x → ⊥
not_both list x y h k = not_itself list x (earlier_then list x y x h k)

pub goes_forward : (nodes : List Node) (order : List ℕ) → Order nodes order → (x y : ℕ) → Path (edge nodes) x y → Earlier order x y
goes_forward nodes order O x y (one e) = O.forward x y (O.all y (edge_within nodes x y e).1) e
goes_forward nodes order O x y (then_on {b = m} p q) = earlier_then order x m y (goes_forward nodes order O x m p) (goes_forward nodes order O m y q)

pub comes_never_back : (nodes : List Node) (order : List ℕ) → Order nodes order → (x : ℕ) → Path (edge nodes) x x → ⊥
comes_never_back nodes order O x p = not_itself order x (goes_forward nodes order O x x p)

pub goes_not_back : (nodes : List Node) (order : List ℕ) → Order nodes order → (x y : ℕ) → Path (edge nodes) x y → Earlier order y x → ⊥
goes_not_back nodes order O x y p = not_both order x y (goes_forward nodes order O x y p)

pub path_within : (nodes : List Node) (x y : ℕ) → Path (edge nodes) x y → (x < length nodes) × (y < length nodes)
path_within nodes x y (one e) = edge_within nodes x y e
path_within nodes x y (then_on {b = m} p q) = ((path_within nodes x m p).0, (path_within nodes m y q).1)

-- a path over synchronizing nodes is one over all nodes
pub sync_is_path : (nodes : List Node) (x y : ℕ) → Path (sync_edge nodes) x y → Path (edge nodes) x y
sync_is_path nodes x y (one e) = one (sync_is_edge nodes x y e)
sync_is_path nodes x y (then_on {b = m} p q) = then_on (sync_is_path nodes x m p) (sync_is_path nodes m y q)
