-- Phases of nodes, and what a ready node may rely on.
use Rattle.std.proofs.Common.{◌≡◌, ◌≢◌, ◌⊎◌, inl, inr, ℕ, ◌<◌, Bool, true, false, not, ◌&&◌, ◌||◌, ◌==◌, nat_lt, List, [], ◌∷◌, length, refl, sym, ap, ◌∙◌, ⊎_elim, eq-eqb, ne_eqb, if◌then◌else◌, arith}
use Rattle.std.specs.List.{list_any, list_all, range_with_len}
use Rattle.std.proofs.lemmas.Bool.{cases_eq, cases_Bool, false≢true, and_parts, and_from, or_cases, ltb-true}
use Rattle.check_program.proofs.Ranges.{range_among, among_range, each_of}
use Rattle.device_model.specs.Ready.{kind_at, each_node, reached, ready}
use Rattle.device_model.specs.States.{is_idle, is_begun, is_done, State, put}
use Rattle.device_model.specs.declared.phase.Phase.{Phase}
use Rattle.device_model.specs.declared.phase.Phase.TheVariants.{Idle, Begun, Done}
use Rattle.device_model.proofs.Formed.{At, at_first, at_rest}
use Rattle.check_order.proofs.Within.{edge_within}
use Rattle.check_order.specs.Edges.{edge}
use Rattle.check_order.specs.Orders.{Among}
use Rattle.check_access.specs.Views.{View}
use Rattle.check_access.specs.declared.access.Access.{Access}

-- PHASES

pub done_started : (p : Phase) → is_done p ≡ true → is_idle p ≡ false
done_started Idle h = absurd (false≢true h)
done_started Begun h = refl
done_started Done h = refl

pub begun_started : (p : Phase) → is_begun p ≡ true → is_idle p ≡ false
begun_started Idle h = absurd (false≢true h)
begun_started Begun h = refl
begun_started Done h = refl

pub begun_not_done : (p : Phase) → is_begun p ≡ true → is_done p ≡ true → ⊥
begun_not_done Idle h k = false≢true h
begun_not_done Begun h k = false≢true k
begun_not_done Done h k = false≢true h

pub idle_not_done : (p : Phase) → is_idle p ≡ true → is_done p ≡ true → ⊥
idle_not_done Idle h k = false≢true k
idle_not_done Begun h k = false≢true h
idle_not_done Done h k = false≢true h

-- LISTS

pub any_at : (f : Access → Bool) (list : List Access) → list_any f list ≡ true → (a : Access) × At list a × (f a ≡ true)
any_at f [] h = absurd (false≢true h)
any_at f (a ∷ rest) h = ⊎_elim (λ e. (a, at_first a rest, e)) (λ e. let r = any_at f rest e in (r.0, at_rest r.0 a rest r.1, r.2)) (or_cases (f a) (list_any f rest) h)

all_of : (f : ℕ → Bool) (list : List ℕ) → ((x : ℕ) → Among x list → f x ≡ true) → list_all f list ≡ true
all_of f [] h = refl
all_of f (x ∷ rest) h = and_from (f x) (list_all f rest) (h x (inl refl)) (all_of f rest (λ y k. h y (inr k)))

module _ (V : View) where
  pub every_node : (f : ℕ → Bool) → ((x : ℕ) → x < length V.nodes → f x ≡ true) → each_node V f ≡ true
  every_node f h = all_of f (range_with_len 0 (length V.nodes)) (λ x k. h x (omega (arith, (among_range 0 (length V.nodes) x k).1)))

  pub at_node : (f : ℕ → Bool) → each_node V f ≡ true → (x : ℕ) → x < length V.nodes → f x ≡ true
  at_node f h x lt = each_of f (range_with_len 0 (length V.nodes)) h x (range_among 0 (length V.nodes) x (omega arith) (omega (arith, lt)))

-- PHASES OF NODES

abbrev pub done_of : (ℕ → Phase) → ℕ → Bool
done_of phase x = is_done (phase x)

pub put_other : {X : Type 0} (f : ℕ → X) (n x : ℕ) (v : X) → (x ≡ n → ⊥) → put f n v x ≡ f x
put_other f n x v h = ap (λ z. if z then v else f x) (ne_eqb x n h)

pub put_at : {X : Type 0} (f : ℕ → X) (n x : ℕ) (v : X) → x ≡ n → put f n v x ≡ v
put_at f n x v h = ap (λ z. if z then v else f x) (eq-eqb x n h)

-- a command that begins is not done
pub done_begun : (phase : ℕ → Phase) (n : ℕ) → (is_done (phase n) ≡ true → ⊥) → (x : ℕ) → is_done (phase x) ≡ is_done (put phase n Begun x)
done_begun phase n fresh x = go (cases_eq x n)
  where
    not_done : is_done (phase n) ≡ false
    not_done = ⊎_elim (λ e. absurd (fresh e)) (λ e. e) (cases_Bool (is_done (phase n)))

    go : (x ≡ n) ⊎ (x ≡ n → ⊥) → is_done (phase x) ≡ is_done (put phase n Begun x)
    go (inl e) = ap (λ z. is_done (phase z)) e ∙ not_done ∙ sym (ap is_done (put_at phase n x Begun e))
    go (inr e) = sym (ap is_done (put_other phase n x Begun e))

-- nor is another node begun where one is done
pub still_begun : (phase : ℕ → Phase) (n x : ℕ) → is_begun (put phase n Done x) ≡ true → is_begun (phase x) ≡ true
still_begun phase n x k = ⊎_elim (λ e. absurd (false≢true (ap is_begun (sym (put_at phase n x Done e)) ∙ k))) (λ e. ap is_begun (sym (put_other phase n x Done e)) ∙ k) (cases_eq x n)

pub not_same : (x n : ℕ) → not (x == n) ≡ true → x ≢ n
not_same x n h e = false≢true (sym (ap not (eq-eqb x n e)) ∙ h)

-- A READY NODE

pub ready_within : (V : View) (s : State) (n : ℕ) → ready V s n ≡ true → n < length V.nodes
ready_within V s n r = ltb-true n (length V.nodes) (and_parts (nat_lt n (length V.nodes)) (is_idle (s.phase n) && (each_node V (λ x. not (edge V.nodes x n) || is_done (s.phase x)) && reached (kind_at V n) s.counter)) r).0

pub ready_first : (V : View) (s : State) (n : ℕ) → ready V s n ≡ true → is_idle (s.phase n) ≡ true
ready_first V s n r =
    let rest : Bool = each_node V (λ x. not (edge V.nodes x n) || is_done (s.phase x)) && reached (kind_at V n) s.counter in
    (and_parts (is_idle (s.phase n)) rest (and_parts (nat_lt n (length V.nodes)) (is_idle (s.phase n) && rest) r).1).0

-- all that holds it back is done
pub edges_done : (V : View) (s : State) (n : ℕ) → ready V s n ≡ true → (x : ℕ) → edge V.nodes x n ≡ true → is_done (s.phase x) ≡ true
edges_done V s n r x e =
    let met : Bool = each_node V (λ x. not (edge V.nodes x n) || is_done (s.phase x)) in
    let idle = and_parts (is_idle (s.phase n)) (met && reached (kind_at V n) s.counter) (and_parts (nat_lt n (length V.nodes)) (is_idle (s.phase n) && (met && reached (kind_at V n) s.counter)) r).1 in
    let at = at_node V (λ x. not (edge V.nodes x n) || is_done (s.phase x)) (and_parts met (reached (kind_at V n) s.counter) idle.1).0 x (edge_within V.nodes x n e).0 in
    ⊎_elim (λ q. absurd (false≢true (sym (ap not e) ∙ q))) (λ q. q) (or_cases (not (edge V.nodes x n)) (is_done (s.phase x)) at)
