-- The first node of a list that passes a test, from a number on.
use Rattle.std.proofs.Common.{◌≡◌, ⊎_elim, ℕ, ◌+◌, ◌-◌, ◌<◌, ◌≤◌, nat_lt, Bool, true, false, if◌then◌else◌, List, length, drop, get_or, Option, Some, None, option_map, refl, sym, ap, ◌∙◌, subst, arith}
use Rattle.std.specs.List.{position, position_or_len}
use Rattle.std.proofs.lemmas.Bool.{cases_lt, false≢true, ltb-false}
use Rattle.std.proofs.lemmas.List.{get_or-drop, get_or_past}
use Rattle.std.proofs.lemmas.List.Quantifiers.{position-Some}
use Rattle.std.proofs.lemmas.List.Sums.{fails_before_first}
use Rattle.check_order.specs.Edges.{node_at}
use Rattle.check_order.specs.Nodes.{no_node}
use Rattle.check_order.specs.declared.node.Node.{Node}
use Rattle.law_tight.proofs.Followed.{Follows}

-- m is the first from low on that passes
pub record IsFirst (test : Node → Bool) (nodes : List Node) (low m : ℕ) : Type 0 where
  pub from : low ≤ m
  pub passes : test (node_at nodes m) ≡ true
  pub none : (k : ℕ) → low ≤ k → k < m → test (node_at nodes k) ≡ false

-- the first from low on, or none
abbrev pub Found : (Node → Bool) → List Node → ℕ → Option ℕ → Type 0
Found test nodes low None = (k : ℕ) → low ≤ k → test (node_at nodes k) ≡ false
Found test nodes low (Some m) = IsFirst test nodes low m

clash : {b : Bool} → b ≡ false → b ≡ true → ⊥
clash f t = false≢true (sym f ∙ t)

pub one_answer : (test : Node → Bool) (nodes : List Node) (low : ℕ) (o p : Option ℕ) → Found test nodes low o → Found test nodes low p → o ≡ p
one_answer test nodes low None None f g = refl
one_answer test nodes low None (Some m) f g = absurd (clash (f m g.from) g.passes)
one_answer test nodes low (Some m) None f g = absurd (clash (g m f.from) f.passes)
one_answer test nodes low (Some m) (Some n) f g = ap (λ z. Some z)
    (⊎_elim
    (λ (l : m < n). absurd (clash (g.none m f.from l) f.passes))
    (λ (le : n ≤ m). ⊎_elim
    (λ (l : n < m). absurd (clash (f.none n g.from l) g.passes))
    (λ (ge : m ≤ n). let same : m ≡ n = omega (arith, le, ge) in same)
    (cases_lt n m))
    (cases_lt m n))

-- BY POSITION

none_passes : {X : Type 0} (test : X → Bool) (xs : List X) (d : X) (k : ℕ) → position test xs ≡ None → k < length xs → test (get_or xs k d) ≡ false
none_passes test xs d k e lt = go (nat_lt (position_or_len test xs) (length xs)) refl
  where
    go : (b : Bool) → nat_lt (position_or_len test xs) (length xs) ≡ b → test (get_or xs k d) ≡ false
    go true q = absurd (let f : Some (position_or_len test xs) ≡ None = ap (λ t. if t then Some (position_or_len test xs) else None) (sym q) ∙ e in cc)
    go false q = let g = ltb-false (position_or_len test xs) (length xs) q in fails_before_first test xs k d (omega (arith, lt, g))

module _ (test : Node → Bool) (idle : test no_node ≡ false) (nodes : List Node) (low : ℕ) where
  dropped : (k : ℕ) → low ≤ k → get_or (drop low nodes) (k - low) no_node ≡ node_at nodes k
  dropped k le = let same : low + (k - low) ≡ k = omega (arith, le) in get_or-drop low nodes (k - low) no_node ∙ ap (node_at nodes) same

  found : (o : Option ℕ) → position test (drop low nodes) ≡ o → Found test nodes low (option_map (λ k. low + k) o)
  found (Some i) e =
      let p = position-Some test (drop low nodes) i no_node e in
      record {
        from = omega arith;
        passes = ap test (sym (get_or-drop low nodes i no_node)) ∙ p.1;
        none = λ k le lt. ap test (sym (dropped k le)) ∙ p.2 (k - low) (omega (arith, le, lt));
      }
  found None e = λ k le. ap test (sym (dropped k le)) ∙ ⊎_elim
      (λ (lt : k - low < length (drop low nodes)). none_passes test (drop low nodes) no_node (k - low) e lt)
      (λ (past : length (drop low nodes) ≤ k - low). ap test (get_or_past (drop low nodes) (k - low) no_node past) ∙ idle)
      (cases_lt (k - low) (length (drop low nodes)))

  pub by_position : Found test nodes low (option_map (λ k. low + k) (position test (drop low nodes)))
  by_position = found (position test (drop low nodes)) refl

-- IN NODES THAT FOLLOW OTHERS

module _ (given nodes : List Node) (up : ℕ → ℕ) (down : ℕ → Option ℕ) (F : Follows given nodes up down) where
  pub falls : (m n : ℕ) → up m < up n → m < n
  falls m n lt = ⊎_elim
      (λ (l : m < n). l)
      (λ (le : n ≤ m). ⊎_elim
      (λ (l : n < m). let r = F.rises n m l in absurd (omega (arith, lt, r)))
      (λ (ge : m ≤ n). let same : up m ≡ up n = ap up (omega (arith, le, ge)) in absurd (omega (arith, lt, same)))
      (cases_lt n m))
      (cases_lt m n)

  -- a test that nodes pass where the given ones do, and that no wait which is gone passes
  module _ (test : Node → Bool) (same : (n : ℕ) → test (node_at given (up n)) ≡ test (node_at nodes n)) (no_wait : (y : ℕ) → down y ≡ None → test (node_at given y) ≡ false) (low from : ℕ) (to : (n : ℕ) → low ≤ n → from ≤ up n) (back : (n : ℕ) → from ≤ up n → low ≤ n) where
    still_none : (y : ℕ) → ((n : ℕ) → up n ≡ y → test (node_at nodes n) ≡ false) → test (node_at given y) ≡ false
    still_none y none = go (down y) refl
      where
        go : (o : Option ℕ) → down y ≡ o → test (node_at given y) ≡ false
        go None e = no_wait y e
        go (Some n) e = ap (λ z. test (node_at given z)) (sym (F.forth y n e)) ∙ same n ∙ none n (F.forth y n e)

    pub carried : (o : Option ℕ) → Found test nodes low o → Found test given from (option_map up o)
    carried None f = λ y le. still_none y (λ n is. f n (back n (subst (λ z. from ≤ z) (sym is) le)))
    carried (Some m) f = record {
      from = to m f.from;
      passes = same m ∙ f.passes;
      none = λ y le lt. still_none y (λ n is. f.none n (back n (subst (λ z. from ≤ z) (sym is) le)) (falls n m (subst (λ z. z < up m) (sym is) lt)));
    }
