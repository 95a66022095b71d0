-- The last access of a sort before another of its piece.
use Rattle.std.proofs.Common.{◌≡◌, ◌⊎◌, inl, inr, ℕ, zero, suc, ◌+◌, ◌<◌, ◌≤◌, ◌==◌, ◌||◌, Bool, true, refl, sym, ap, ◌∙◌, subst, ⊎_elim, eq-eqb, eqb-true, arith}
use Rattle.std.proofs.lemmas.Bool.{cases_eq, cases_lt, and_from, and_parts}
use Rattle.law_plan.proofs.Clashes.{piece_clash}
use Rattle.law_plan.proofs.Knit.{Acyclic}
use Rattle.law_plan.proofs.Ranks.{rank, phase, phase_small, At, at_of, at_has, rank_before, rank_same, before_rank}
use Rattle.law_plan.proofs.Synchronizing.{spot_piece}
use Rattle.law_plan.specs.Crossings.{IsFull}
use Rattle.law_plan.specs.Local.{Local}
use Rattle.law_plan.specs.Nodes.{Nodes}
use Rattle.law_plan.specs.Plans.{Plan}
use Rattle.law_plan.specs.Spots.{Spot}
use Rattle.check_state.specs.PieceStates.{on_piece}
use Rattle.law_nodes.specs.Passing.{Before}
use Rattle.check_access.specs.AccessKinds.{changes, transfers}
use Rattle.check_access.specs.ValidView.{Has}
use Rattle.check_access.specs.Views.{View, clash, node_access, overlap}
use Rattle.check_access.specs.declared.access.Access.{Access}
use Rattle.check_access.specs.declared.access.AccessKind.{AccessKind}
use Rattle.check_access.specs.declared.node_access.NodeAccess.{NodeAccess}

-- BY WHAT HAPPENS BEFORE WHAT

-- access d of node t is so, and every other one that is so and before node n is before t
pub record LastOf (V : View) (test : NodeAccess → Bool) (n t : ℕ) (d : Access) : Type 0 where
  pub has : Has V t d
  pub is : test (node_access t d) ≡ true
  pub before : Before V t n
  pub last : (v : ℕ) (c : Access) → Has V v c → test (node_access v c) ≡ true → Before V v n → (v ≡ t) ⊎ Before V v t

abbrev pub NoneOf : View → (NodeAccess → Bool) → ℕ → Type 0
NoneOf V test n = (v : ℕ) (c : Access) → Has V v c → test (node_access v c) ≡ true → Before V v n → ⊥

-- what an access of the sort and of the piece is
pub sorted_on : (sort : AccessKind → Bool) (p v : ℕ) (c : Access) → on_piece p sort (node_access v c) ≡ true → (c.piece ≡ p) × (sort c.kind ≡ true)
sorted_on sort p v c h = let t = and_parts (c.piece == p) (sort c.kind) h in (eqb-true c.piece p t.0, t.1)

-- NUMBERS

-- the last number below q that is so, if there is one
last_below : (P : ℕ → Type 0) → ((r : ℕ) → P r ⊎ (P r → ⊥)) → (q : ℕ) → ((r : ℕ) × (r < q) × P r × ((k : ℕ) → r < k → k < q → P k → ⊥)) ⊎ ((k : ℕ) → k < q → P k → ⊥)
last_below P known zero = inr (λ k l p. absurd (omega (arith, l)))
last_below P known (suc q) = go (known q) (last_below P known q)
  where
    go : P q ⊎ (P q → ⊥) → ((r : ℕ) × (r < q) × P r × ((k : ℕ) → r < k → k < q → P k → ⊥)) ⊎ ((k : ℕ) → k < q → P k → ⊥) → ((r : ℕ) × (r < suc q) × P r × ((k : ℕ) → r < k → k < suc q → P k → ⊥)) ⊎ ((k : ℕ) → k < suc q → P k → ⊥)
    go (inl p) z = inl (q, omega arith, p, λ k l m s. absurd (omega (arith, l, m)))
    go (inr other) (inl (r, lt, p, none)) = inl (r, omega (arith, lt), p, λ k l m s. ⊎_elim (λ e. other (subst P e s)) (λ ne. none k l (omega (arith, m, ne)) s) (cases_eq k q))
    go (inr other) (inr none) = inr (λ k m s. ⊎_elim (λ e. other (subst P e s)) (λ ne. none k (omega (arith, m, ne)) s) (cases_eq k q))

-- each number is the rank of a prologue, of members, or of a release
by_phase : (r : ℕ) → (g : ℕ) × ((r ≡ rank g 0) ⊎ ((r ≡ rank g 1) ⊎ (r ≡ rank g 2)))
by_phase zero = (0, inl (omega arith))
by_phase (suc r) = go (by_phase r)
  where
    go : (g : ℕ) × ((r ≡ rank g 0) ⊎ ((r ≡ rank g 1) ⊎ (r ≡ rank g 2))) → (g : ℕ) × ((suc r ≡ rank g 0) ⊎ ((suc r ≡ rank g 1) ⊎ (suc r ≡ rank g 2)))
    go (g, inl e) = (g, inr (inl (omega (arith, e))))
    go (g, inr (inl e)) = (g, inr (inr (omega (arith, e))))
    go (g, inr (inr e)) = (g + 1, inl (omega (arith, e)))

-- BY RANKS

-- an access of the sort in a phase of a group
abbrev pub InPhase : Plan → View → Nodes → (AccessKind → Bool) → ℕ → ℕ → Type 0
InPhase F V N sort g k = (x : ℕ) × (a : Access) × (s : Spot F V N x a g) × (phase F V N x a g s ≡ k) × (sort a.kind ≡ true)

abbrev pub Known : Type 0 → Type 0
Known P = P ⊎ (P → ⊥)

-- it is known which groups have accesses of the sort, and in which phase
pub record Sorted (F : Plan) (V : View) (N : Nodes) (sort : AccessKind → Bool) : Type 0 where
  pub prologue : (g : ℕ) → Known (InPhase F V N sort g 0)
  pub member : (g : ℕ) → Known (InPhase F V N sort g 1)
  pub release : (g : ℕ) → Known (InPhase F V N sort g 2)

-- an access of the sort and of the piece at a rank
pub record SortAt (F : Plan) (V : View) (N : Nodes) (sort : AccessKind → Bool) (p x : ℕ) (a : Access) (r : ℕ) : Type 0 where
  pub at : At F V N x a r
  pub sorted : sort a.kind ≡ true
  pub piece : a.piece ≡ p

-- the last one below rank q
pub record LastAt (F : Plan) (V : View) (N : Nodes) (sort : AccessKind → Bool) (p q x : ℕ) (a : Access) (r : ℕ) : Type 0 where
  pub is : SortAt F V N sort p x a r
  pub below : r < q
  pub none : (v k : ℕ) (c : Access) → SortAt F V N sort p v c k → r < k → k < q → ⊥

abbrev pub NoneAt : Plan → View → Nodes → (AccessKind → Bool) → ℕ → ℕ → Type 0
NoneAt F V N sort p q = (v k : ℕ) (c : Access) → SortAt F V N sort p v c k → k < q → ⊥

module _ (F : Plan) (V : View) (N : Nodes) (sort : AccessKind → Bool) (p : ℕ) where
  abbrev SomeAt : ℕ → Type 0
  SomeAt r = (x : ℕ) × (a : Access) × SortAt F V N sort p x a r

  pub sort_at : (g k : ℕ) → F.piece g ≡ p → InPhase F V N sort g k → (x : ℕ) × (a : Access) × SortAt F V N sort p x a (rank g k)
  sort_at g k pg (x, a, s, w, so) = (x, a, record { at = record { group = g; spot = s; is = ap (rank g) w }; sorted = so; piece = spot_piece F V N x a g s ∙ pg })

  -- what stands at a rank is of its group and in its phase
  in_phase : (r g k : ℕ) → k < 3 → r ≡ rank g k → SomeAt r → (F.piece g ≡ p) × InPhase F V N sort g k
  in_phase r g k small e (x, a, A) = place A.at.group A.at.spot A.at.is
    where
      place : (h : ℕ) (s : Spot F V N x a h) → rank h (phase F V N x a h s) ≡ r → (F.piece g ≡ p) × InPhase F V N sort g k
      place h s is = go same s (omega (arith, is, low, small, e))
        where
          low : phase F V N x a h s < 3
          low = phase_small F V N x a h s

          same : h ≡ g
          same = omega (arith, is, low, small, e)

          go : h ≡ g → (s : Spot F V N x a h) → phase F V N x a h s ≡ k → (F.piece g ≡ p) × InPhase F V N sort g k
          go f t w = subst (λ z. (F.piece z ≡ p) × InPhase F V N sort z k) f (sym (spot_piece F V N x a h t) ∙ A.piece, (x, a, t, w, A.sorted))

  phase_known : (r g k : ℕ) → k < 3 → r ≡ rank g k → Known (InPhase F V N sort g k) → Known (SomeAt r)
  phase_known r g k small e known = go known (cases_eq (F.piece g) p)
    where
      go : Known (InPhase F V N sort g k) → (F.piece g ≡ p) ⊎ (F.piece g ≡ p → ⊥) → Known (SomeAt r)
      go z (inr other) = inr (λ A. other (in_phase r g k small e A).0)
      go (inl s) (inl pg) = inl (subst SomeAt (sym e) (sort_at g k pg s))
      go (inr none) (inl pg) = inr (λ A. none (in_phase r g k small e A).1)

  -- the last of a sort below a rank, or none
  pub last_or_none : Sorted F V N sort → (q : ℕ) → ((x : ℕ) × (a : Access) × (r : ℕ) × LastAt F V N sort p q x a r) ⊎ NoneAt F V N sort p q
  last_or_none S q = go (last_below SomeAt known q)
    where
      known : (r : ℕ) → Known (SomeAt r)
      known r = by (by_phase r)
        where
          by : (g : ℕ) × ((r ≡ rank g 0) ⊎ ((r ≡ rank g 1) ⊎ (r ≡ rank g 2))) → Known (SomeAt r)
          by (g, inl e) = phase_known r g 0 (omega arith) e (S.prologue g)
          by (g, inr (inl e)) = phase_known r g 1 (omega arith) e (S.member g)
          by (g, inr (inr e)) = phase_known r g 2 (omega arith) e (S.release g)

      go : ((r : ℕ) × (r < q) × SomeAt r × ((k : ℕ) → r < k → k < q → SomeAt k → ⊥)) ⊎ ((k : ℕ) → k < q → SomeAt k → ⊥) → ((x : ℕ) × (a : Access) × (r : ℕ) × LastAt F V N sort p q x a r) ⊎ NoneAt F V N sort p q
      go (inl (r, lt, (x, a, A), none)) = inl (x, a, r, record { is = A; below = lt; none = λ v k c B l m. none k l m (v, c, B) })
      go (inr none) = inr (λ v k c B l. none k l (v, c, B))

-- FROM RANKS TO WHAT HAPPENS BEFORE

module _ (F : Plan) (V : View) (N : Nodes) (D : IsFull V) (X : Local F V N) (C : Acyclic V) (sort : AccessKind → Bool) (moves : (d : AccessKind) → sort d ≡ true → (changes d || transfers d) ≡ true) where
  -- access a of node n stands at rank q, and its piece has bytes
  module _ (n q : ℕ) (a : Access) (B : At F V N n a q) (o : overlap V a.piece a.piece ≡ true) where
    clashes : (c b : Access) → sort c.kind ≡ true → c.piece ≡ a.piece → b.piece ≡ a.piece → clash V c b ≡ true
    clashes c b so pc pb = piece_clash V a.piece c b o pc pb (moves c.kind so)

    below : (v i : ℕ) (c : Access) → sort c.kind ≡ true → c.piece ≡ a.piece → At F V N v c i → Before V v n → i < q
    below v i c so pc W p = before_rank F V N D X C v n c a i q pc (clashes c a so pc refl) W B p

    pub none_of : NoneAt F V N sort a.piece q → NoneOf V (on_piece a.piece sort) n
    none_of none v c h tc p =
        let so = sorted_on sort a.piece v c tc in
        let W = at_of F V N D X v c h in
        none v W.0 c (record { at = W.1; sorted = so.1; piece = so.0 }) (below v W.0 c so.1 so.0 W.1 p)

    pub last_of : (t r : ℕ) (d : Access) → LastAt F V N sort a.piece q t d r → LastOf V (on_piece a.piece sort) n t d
    last_of t r d L = record {
      has = at_has F V N t d r L.is.at;
      is = and_from (d.piece == a.piece) (sort d.kind) (eq-eqb d.piece a.piece L.is.piece) L.is.sorted;
      before = rank_before F V N D X t n d a r q L.is.piece L.is.at B L.below;
      last = λ v c h tc p. let so = sorted_on sort a.piece v c tc in let W = at_of F V N D X v c h in go v c so.1 so.0 p W.0 W.1 (cases_lt W.0 r) (cases_eq W.0 r);
    }
      where
        go : (v : ℕ) (c : Access) → sort c.kind ≡ true → c.piece ≡ a.piece → Before V v n → (i : ℕ) → At F V N v c i → (i < r) ⊎ (r ≤ i) → (i ≡ r) ⊎ (i ≡ r → ⊥) → (v ≡ t) ⊎ Before V v t
        go v c so pc p i W (inl lt) f = inr (rank_before F V N D X v t c d i r (pc ∙ sym L.is.piece) W L.is.at lt)
        go v c so pc p i W (inr le) (inl f) = inl (rank_same F V N D X v t c d i r (clashes c d so pc L.is.piece) W L.is.at f)
        go v c so pc p i W (inr le) (inr ne) = absurd (L.none v i c (record { at = W; sorted = so; piece = pc }) (omega (arith, le, ne)) (below v i c so pc W p))
