-- The accesses of one piece stand in ranks: the prologue of a group, its members, its release, and then the next group.
use Rattle.std.proofs.Common.{◌≡◌, ◌⊎◌, inl, inr, ℕ, ◌+◌, ◌<◌, ◌≤◌, Bool, true, false, refl, sym, ap, ◌∙◌, subst, arith}
use Rattle.std.proofs.lemmas.Bool.{cases_eq, cases_lt, false≢true}
use Rattle.law_plan.proofs.Knit.{Acyclic, synchronizes_chain}
use Rattle.law_plan.proofs.Runs.{run_either}
use Rattle.law_plan.proofs.Synchronizing.{spot_piece, spot_has, spot_leaves, member_release, prologue_release, one_member, local_knit}
use Rattle.law_plan.specs.Crossings.{IsFull}
use Rattle.law_plan.specs.Local.{Local}
use Rattle.law_plan.specs.Masks.{Leaves}
use Rattle.law_plan.specs.Nodes.{Nodes}
use Rattle.law_plan.specs.Plans.{Plan, leads}
use Rattle.law_plan.specs.Spots.{Spot, at_prologue, at_member, at_release, at_reader, OfPrologue, OfMember, OfRelease, OfReader}
use Rattle.check_order.proofs.Lines.{sync_no_host}
use Rattle.check_order.specs.Edges.{is_host, is_sync, node_at}
use Rattle.base_reach.specs.Paths.{Path, then_on}
use Rattle.law_nodes.specs.Passing.{Before, UpTo}
use Rattle.check_access.specs.ValidView.{Has}
use Rattle.check_access.specs.Views.{View, clash}
use Rattle.check_access.specs.declared.access.Access.{Access}

-- in a group its prologue comes first, then what its members and host reads do, and then the release
abbrev pub phase : (F : Plan) (V : View) (N : Nodes) (x : ℕ) (a : Access) (g : ℕ) → Spot F V N x a g → ℕ
phase F V N x a g (at_prologue e t) = 0
phase F V N x a g (at_member e m) = 1
phase F V N x a g (at_reader e r) = 1
phase F V N x a g (at_release e r) = 2

abbrev pub rank : ℕ → ℕ → ℕ
rank g k = g + g + g + k

-- the access has rank r among those of its piece
pub record At (F : Plan) (V : View) (N : Nodes) (x : ℕ) (a : Access) (r : ℕ) : Type 0 where
  pub group : ℕ
  pub spot : Spot F V N x a group
  pub is : rank group (phase F V N x a group spot) ≡ r

pub phase_small : (F : Plan) (V : View) (N : Nodes) (x : ℕ) (a : Access) (g : ℕ) (s : Spot F V N x a g) → phase F V N x a g s < 3
phase_small F V N x a g (at_prologue e t) = omega arith
phase_small F V N x a g (at_member e m) = omega arith
phase_small F V N x a g (at_reader e r) = omega arith
phase_small F V N x a g (at_release e r) = omega arith

-- what stands in each phase
pub in_turn : (F : Plan) (V : View) (N : Nodes) (x : ℕ) (a : Access) (g : ℕ) (s : Spot F V N x a g) → phase F V N x a g s ≡ 0 → (x ≡ N.prologue g) × OfPrologue F V N g a
in_turn F V N x a g (at_prologue e t) w = (e, t)
in_turn F V N x a g (at_member e m) w = absurd (omega (arith, w))
in_turn F V N x a g (at_reader e r) w = absurd (omega (arith, w))
in_turn F V N x a g (at_release e r) w = absurd (omega (arith, w))

pub in_members : (F : Plan) (V : View) (N : Nodes) (x : ℕ) (a : Access) (g : ℕ) (s : Spot F V N x a g) → phase F V N x a g s ≡ 1 → ((c : ℕ) × OfMember F V N c g a) ⊎ ((x ≡ N.reader g) × OfReader F V N g a)
in_members F V N x a g (at_prologue e t) w = absurd (omega (arith, w))
in_members F V N x a g (at_member {c = c} e m) w = inl (c, m)
in_members F V N x a g (at_reader e r) w = inr (e, r)
in_members F V N x a g (at_release e r) w = absurd (omega (arith, w))

pub in_release : (F : Plan) (V : View) (N : Nodes) (x : ℕ) (a : Access) (g : ℕ) (s : Spot F V N x a g) → phase F V N x a g s ≡ 2 → (x ≡ N.release g) × OfRelease F V N g a
in_release F V N x a g (at_prologue e t) w = absurd (omega (arith, w))
in_release F V N x a g (at_member e m) w = absurd (omega (arith, w))
in_release F V N x a g (at_reader e r) w = absurd (omega (arith, w))
in_release F V N x a g (at_release e r) w = (e, r)

pub at_has : (F : Plan) (V : View) (N : Nodes) (x : ℕ) (a : Access) (r : ℕ) → At F V N x a r → Has V x a
at_has F V N x a r A = spot_has F V N x a A.group A.spot

pub at_piece : (F : Plan) (V : View) (N : Nodes) (x : ℕ) (a : Access) (r : ℕ) (A : At F V N x a r) → a.piece ≡ F.piece A.group
at_piece F V N x a r A = spot_piece F V N x a A.group A.spot

-- the group of a rank
pub at_low : (F : Plan) (V : View) (N : Nodes) (x : ℕ) (a : Access) (r : ℕ) (A : At F V N x a r) → (rank A.group 0 ≤ r) × (r < rank A.group 3)
at_low F V N x a r A =
    let small = phase_small F V N x a A.group A.spot in
    let is = A.is in
    (omega (arith, small, is), omega (arith, small, is))

-- a barrier is no command or host read
apart : {X : Type 0} (x y : X) (f : X → Bool) → f x ≡ true → f y ≡ false → x ≡ y → ⊥
apart x y f p q e = false≢true (sym q ∙ ap f (sym e) ∙ p)

module _ (F : Plan) (V : View) (N : Nodes) (D : IsFull V) (X : Local F V N) where
  -- INSIDE A GROUP

  leaves_before : (t y : ℕ) (b : Access) → (t ≡ y → ⊥) → Leaves V t y b → Before V t y
  leaves_before t y b ne L = go L.from
    where
      go : UpTo V t y → Before V t y
      go (inl e) = absurd (ne e)
      go (inr p) = p

  prologue_first : (y : ℕ) (b : Access) (g : ℕ) → N.has_prologue g ≡ true → (u : Spot F V N y b g) → 0 < phase F V N y b g u → Before V (N.prologue g) y
  prologue_first y b g t (at_prologue e u) lt = absurd (omega (arith, lt))
  prologue_first y b g t (at_member {c = c} e m) lt = leaves_before (N.prologue g) y b
      (apart (N.prologue g) y (λ n. is_sync (node_at V.nodes n).kind) (X.roles.prologues g t).sync (ap (λ n. is_sync (node_at V.nodes n).kind) e ∙ ap is_sync (X.roles.commands c g m.member).kind))
      (spot_leaves F V N D X y b g t (at_member e m))
  prologue_first y b g t (at_release e r) lt = subst (λ z. Before V (N.prologue g) z) (sym e) (prologue_release F V N D X g t r.released)
  prologue_first y b g t (at_reader e r) lt = leaves_before (N.prologue g) y b
      (λ same. false≢true (sym (sync_no_host (node_at V.nodes (N.prologue g)).kind (X.roles.prologues g t).sync) ∙ ap (λ n. is_host (node_at V.nodes n).kind) (same ∙ e) ∙ X.roles.readers g r.host))
      (spot_leaves F V N D X y b g t (at_reader e r))

  inside_before : (x y : ℕ) (a b : Access) (g : ℕ) (s : Spot F V N x a g) (u : Spot F V N y b g) → phase F V N x a g s < phase F V N y b g u → Before V x y
  inside_before x y a b g (at_prologue e t) u lt = subst (λ z. Before V z y) (sym e) (prologue_first y b g t.has_prologue u lt)
  inside_before x y a b g (at_member {c = c} e m) (at_release f r) lt = subst (λ z. Before V z y) (sym e) (subst (λ z. Before V (N.command c) z) (sym f) (member_release F V N D X g c a r.released m).before)
  inside_before x y a b g (at_member e m) (at_prologue f u) lt = absurd (omega (arith, lt))
  inside_before x y a b g (at_member e m) (at_member f u) lt = absurd (omega (arith, lt))
  inside_before x y a b g (at_member e m) (at_reader f u) lt = absurd (omega (arith, lt))
  inside_before x y a b g (at_reader e r) (at_release f s) lt = absurd (false≢true (sym (X.spots.host_kept g s.released) ∙ r.host))
  inside_before x y a b g (at_reader e r) (at_prologue f u) lt = absurd (omega (arith, lt))
  inside_before x y a b g (at_reader e r) (at_member f u) lt = absurd (omega (arith, lt))
  inside_before x y a b g (at_reader e r) (at_reader f u) lt = absurd (omega (arith, lt))
  inside_before x y a b g (at_release e r) u lt = let small = phase_small F V N y b g u in absurd (omega (arith, lt, small))

  inside_same : (x y : ℕ) (a b : Access) (g : ℕ) (s : Spot F V N x a g) (u : Spot F V N y b g) → clash V a b ≡ true → phase F V N x a g s ≡ phase F V N y b g u → x ≡ y
  inside_same x y a b g (at_prologue e t) (at_prologue f u) cl w = e ∙ sym f
  inside_same x y a b g (at_prologue e t) (at_member f u) cl w = absurd (omega (arith, w))
  inside_same x y a b g (at_prologue e t) (at_release f u) cl w = absurd (omega (arith, w))
  inside_same x y a b g (at_prologue e t) (at_reader f u) cl w = absurd (omega (arith, w))
  inside_same x y a b g (at_member {c = c} e m) (at_member {c = d} f n) cl w = e ∙ ap N.command (one_member F V N D X a b g c d m n cl) ∙ sym f
  inside_same x y a b g (at_member {c = c} e m) (at_reader f r) cl w = absurd (X.spots.host_alone g c r.host m.member)
  inside_same x y a b g (at_member e m) (at_prologue f u) cl w = absurd (omega (arith, w))
  inside_same x y a b g (at_member e m) (at_release f u) cl w = absurd (omega (arith, w))
  inside_same x y a b g (at_reader e r) (at_reader f s) cl w = e ∙ sym f
  inside_same x y a b g (at_reader e r) (at_member {c = c} f m) cl w = absurd (X.spots.host_alone g c r.host m.member)
  inside_same x y a b g (at_reader e r) (at_prologue f u) cl w = absurd (omega (arith, w))
  inside_same x y a b g (at_reader e r) (at_release f u) cl w = absurd (omega (arith, w))
  inside_same x y a b g (at_release e r) (at_release f s) cl w = e ∙ sym f
  inside_same x y a b g (at_release e r) (at_prologue f u) cl w = absurd (omega (arith, w))
  inside_same x y a b g (at_release e r) (at_member f u) cl w = absurd (omega (arith, w))
  inside_same x y a b g (at_release e r) (at_reader f u) cl w = absurd (omega (arith, w))

  -- OF ONE PIECE

  -- a spot in another number of the same group
  in_group : (x : ℕ) (a : Access) (r h : ℕ) (A : At F V N x a r) → A.group ≡ h → (s : Spot F V N x a h) × (rank h (phase F V N x a h s) ≡ r)
  in_group x a r h A e = subst (λ z. (s : Spot F V N x a z) × (rank z (phase F V N x a z s) ≡ r)) e (A.spot, A.is)

  -- of two accesses of one piece that of lower rank is before the other
  pub rank_before : (x y : ℕ) (a b : Access) (r q : ℕ) → a.piece ≡ b.piece → At F V N x a r → At F V N y b q → r < q → Before V x y
  rank_before x y a b r q e A B lt = go (run_either F X.grouped A.group B.group (sym (at_piece F V N x a r A) ∙ e ∙ at_piece F V N y b q B) le)
    where
      le : A.group ≤ B.group
      le =
          let s = at_low F V N x a r A in
          let u = at_low F V N y b q B in
          let lo = s.0 in
          let hi = u.1 in
          omega (arith, lt, lo, hi)

      inside : (s : Spot F V N x a B.group) × (rank B.group (phase F V N x a B.group s) ≡ r) → Before V x y
      inside (s, is) = let at = B.is in inside_before x y a b B.group s B.spot (omega (arith, is, at, lt))

      go : (A.group ≡ B.group) ⊎ Path (leads F) A.group B.group → Before V x y
      go (inl f) = inside (in_group x a r B.group A f)
      go (inr p) = (synchronizes_chain V (leads F) N.prologue (Spot F V N) (local_knit F V N D X) x y a b A.group B.group A.spot B.spot p).before

  -- two accesses of one rank that clash are of one node
  pub rank_same : (x y : ℕ) (a b : Access) (r q : ℕ) → clash V a b ≡ true → At F V N x a r → At F V N y b q → r ≡ q → x ≡ y
  rank_same x y a b r q cl A B e = inside (in_group x a r B.group A groups)
    where
      groups : A.group ≡ B.group
      groups =
          let s = at_low F V N x a r A in
          let u = at_low F V N y b q B in
          let s0 = s.0 in
          let s1 = s.1 in
          let u0 = u.0 in
          let u1 = u.1 in
          omega (arith, s0, s1, u0, u1, e)

      inside : (s : Spot F V N x a B.group) × (rank B.group (phase F V N x a B.group s) ≡ r) → x ≡ y
      inside (s, is) = let at = B.is in inside_same x y a b B.group s B.spot cl (omega (arith, is, at, e))

  -- what happens before another access of its piece that it clashes with has a lower rank
  pub before_rank : Acyclic V → (x y : ℕ) (a b : Access) (r q : ℕ) → a.piece ≡ b.piece → clash V a b ≡ true → At F V N x a r → At F V N y b q → Before V x y → r < q
  before_rank C x y a b r q e cl A B p = go (cases_lt r q) (cases_eq r q)
    where
      go : (r < q) ⊎ (q ≤ r) → (r ≡ q) ⊎ (r ≡ q → ⊥) → r < q
      go (inl lt) f = lt
      go (inr le) (inl f) = absurd (C x (subst (λ z. Before V x z) (sym (rank_same x y a b r q cl A B f)) p))
      go (inr le) (inr ne) = absurd (C x (then_on p (rank_before y x b a q r (sym e) B A (omega (arith, le, ne)))))

  pub at_of : (x : ℕ) (a : Access) → Has V x a → (r : ℕ) × At F V N x a r
  at_of x a h = let s = X.spots.all x a h in (rank s.0 (phase F V N x a s.0 s.1), record { group = s.0; spot = s.1; is = refl })
