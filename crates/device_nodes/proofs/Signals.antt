-- The next signal of a queue, and the last one below a number.
use Rattle.std.proofs.Common.{◌≡◌, ℕ, ◌+◌, ◌-◌, ◌<◌, Bool, true, false, Option, Some, None, List, length, drop, get_or, slice_set, ◌&&◌, ◌==◌, refl, sym, ap, ◌∙◌, subst, ⊎_elim, arith}
use Rattle.std.proofs.lemmas.Bool.{cases_lt, false≢true, ltb-false}
use Rattle.std.proofs.lemmas.List.{get_or-drop, length-drop}
use Rattle.std.proofs.lemmas.List.Quantifiers.{position-Some}
use Rattle.std.proofs.lemmas.List.Sums.{fails_before_first}
use Rattle.std.specs.List.{position, position_or_len}
use Rattle.std.specs.Option.{option_map}
use Rattle.std.specs.Prelude.{nat_lt, if◌then◌else◌}
use Rattle.base.proofs.Absence.{some_same}
use Rattle.device_nodes.proofs.Below.{IsLast, last_more}
use Rattle.device_nodes.proofs.Lists.{set_by}
use Rattle.device_nodes.specs.Internal.Blocked.{signal_below}
use Rattle.check_order.specs.Edges.{is_signal, signals, next_signal, node_at}
use Rattle.check_order.specs.Nodes.{no_node}
use Rattle.check_order.specs.declared.node.Node.{Node}
use Rattle.device_model.specs.Ready.{kind_at}
use Rattle.check_access.specs.Views.{View, queue_at}

abbrev of_queue : List Node → ℕ → ℕ → Bool
of_queue nodes q k = signals q (node_at nodes k)

-- n is the first signal of queue q after x
pub record IsFirstAfter (nodes : List Node) (q x n : ℕ) : Type 0 where
  pub after : x < n
  pub within : n < length nodes
  pub signal : of_queue nodes q n ≡ true
  pub none : (k : ℕ) → x < k → k < n → of_queue nodes q k ≡ false

at_place : (nodes : List Node) (x k n : ℕ) → x + 1 + k ≡ n → get_or (drop (x + 1) nodes) k no_node ≡ node_at nodes n
at_place nodes x k n e = get_or-drop (x + 1) nodes k no_node ∙ ap (λ z. node_at nodes z) e

found : (nodes : List Node) (q x n : ℕ) (o : Option ℕ) → position (signals q) (drop (x + 1) nodes) ≡ o → option_map (λ k. x + 1 + k) o ≡ Some n → IsFirstAfter nodes q x n
found nodes q x n None e f = absurd cc
found nodes q x n (Some k) e f =
    let p = position-Some (signals q) (drop (x + 1) nodes) k no_node e in
    let same : x + 1 + k ≡ n = some_same f in
    let l = length-drop (x + 1) nodes in
    record {
      after = omega (arith, same);
      within = omega (arith, p.0, l, same);
      signal = subst (λ z. signals q z ≡ true) (at_place nodes x k n same) p.1;
      none = λ j a b. subst (λ z. signals q z ≡ false) (at_place nodes x (j - (x + 1)) j (omega (arith, a))) (p.2 (j - (x + 1)) (omega (arith, a, b, same)));
    }

pub next_some : (nodes : List Node) (x n : ℕ) → next_signal nodes x ≡ Some n → IsFirstAfter nodes (node_at nodes x).queue x n
next_some nodes x n e = found nodes (node_at nodes x).queue x n (position (signals (node_at nodes x).queue) (drop (x + 1) nodes)) refl e

none_found : {X : Type 0} (p : X → Bool) (xs : List X) (d : X) (k : ℕ) → position p xs ≡ None → k < length xs → p (get_or xs k d) ≡ false
none_found p xs d k e lt = go (nat_lt (position_or_len p xs) (length xs)) refl
  where
    go : (b : Bool) → nat_lt (position_or_len p xs) (length xs) ≡ b → p (get_or xs k d) ≡ false
    go true q = absurd (let f : Some (position_or_len p xs) ≡ None = ap (λ t. if t then Some (position_or_len p xs) else None) (sym q) ∙ e in cc)
    go false q = let g = ltb-false (position_or_len p xs) (length xs) q in fails_before_first p xs k d (omega (arith, lt, g))

gone : (nodes : List Node) (q x : ℕ) (o : Option ℕ) → position (signals q) (drop (x + 1) nodes) ≡ o → option_map (λ k. x + 1 + k) o ≡ None → (k : ℕ) → x < k → k < length nodes → of_queue nodes q k ≡ false
gone nodes q x (Some j) e f k a b = absurd cc
gone nodes q x None e f k a b =
    let l = length-drop (x + 1) nodes in
    subst (λ z. signals q z ≡ false) (at_place nodes x (k - (x + 1)) k (omega (arith, a))) (none_found (signals q) (drop (x + 1) nodes) no_node (k - (x + 1)) e (omega (arith, a, b, l)))

pub next_none : (nodes : List Node) (x : ℕ) → next_signal nodes x ≡ None → (k : ℕ) → x < k → k < length nodes → of_queue nodes (node_at nodes x).queue k ≡ false
next_none nodes x e = gone nodes (node_at nodes x).queue x (position (signals (node_at nodes x).queue) (drop (x + 1) nodes)) refl e

-- a signal that is the last one below the next
pub next_is : (nodes : List Node) (x n : ℕ) → IsLast (of_queue nodes (node_at nodes x).queue) n x → n < length nodes → of_queue nodes (node_at nodes x).queue n ≡ true → next_signal nodes x ≡ Some n
next_is nodes x n last lt h = go (next_signal nodes x) refl
  where
    same : (m : ℕ) → IsFirstAfter nodes (node_at nodes x).queue x m → m ≡ n
    same m f = ⊎_elim
        (λ l. absurd (false≢true (sym (last.none m f.after l) ∙ f.signal)))
        (λ g. ⊎_elim (λ l. absurd (false≢true (sym (f.none n last.below l) ∙ h))) (λ k. omega (arith, g, k)) (cases_lt n m))
        (cases_lt m n)

    go : (o : Option ℕ) → next_signal nodes x ≡ o → next_signal nodes x ≡ Some n
    go (Some m) e = e ∙ ap (λ z. Some z) (same m (next_some nodes x m e))
    go None e = absurd (false≢true (sym (next_none nodes x e n last.below lt) ∙ h))

-- a signal that is the last one of all
pub next_is_none : (nodes : List Node) (x : ℕ) → IsLast (of_queue nodes (node_at nodes x).queue) (length nodes) x → next_signal nodes x ≡ None
next_is_none nodes x last = go (next_signal nodes x) refl
  where
    go : (o : Option ℕ) → next_signal nodes x ≡ o → next_signal nodes x ≡ None
    go (Some m) e = let f = next_some nodes x m e in absurd (false≢true (sym (last.none m f.after f.within) ∙ f.signal))
    go None e = e

-- ONE NODE MORE

module _ (V : View) (n q : ℕ) where
  abbrev passes : ℕ → Bool
  passes k = signals q (node_at V.nodes k)

  more : (b : Bool) → is_signal (kind_at V n) ≡ b → signal_below V q (n + 1) ≡ (if (queue_at V n == q) && b then Some n else signal_below V q n)
  more b e = last_more passes n ∙ ap (λ z. if (queue_at V n == q) && z then Some n else signal_below V q n) e

  pub last_kept : is_signal (kind_at V n) ≡ false → (lasts : List (Option ℕ)) → get_or lasts q None ≡ signal_below V q n → get_or lasts q None ≡ signal_below V q (n + 1)
  last_kept e lasts h = h ∙ sym (more false e ∙ step (queue_at V n == q))
    where
      step : (b : Bool) → (if b && false then Some n else signal_below V q n) ≡ signal_below V q n
      step true = refl
      step false = refl

  pub last_set : is_signal (kind_at V n) ≡ true → (lasts : List (Option ℕ)) → queue_at V n < length lasts → get_or lasts q None ≡ signal_below V q n → get_or (slice_set lasts (queue_at V n) (Some n)) q None ≡ signal_below V q (n + 1)
  last_set e lasts lt h = set_by lasts (queue_at V n) (λ z. Some n) (Some n) None lt refl q ∙ ap (λ z. if queue_at V n == q then Some n else z) h ∙ sym (more true e ∙ step (queue_at V n == q))
    where
      step : (b : Bool) → (if b && true then Some n else signal_below V q n) ≡ (if b then Some n else signal_below V q n)
      step true = refl
      step false = refl
