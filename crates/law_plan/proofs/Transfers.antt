-- Each release is followed by its acquire, and each acquire has its release before it.
use Rattle.std.proofs.Common.{◌≡◌, ℕ, zero, suc, ◌+◌, ◌-◌, ◌<◌, ◌==◌, ◌||◌, if◌then◌else◌, Bool, true, false, List, [], ◌∷◌, drop, Some, refl, sym, ap, ◌∙◌, ⊎_elim, eq-eqb, arith}
use Rattle.std.specs.List.{find}
use Rattle.std.specs.Prelude.{slice_get, unwrap_or}
use Rattle.std.proofs.lemmas.Bool.{cases_Bool, and_from, or_right, false≢true}
use Rattle.law_plan.proofs.Clashes.{itself, piece_clash}
use Rattle.law_plan.proofs.KindTables.{transfer_sets_owner}
use Rattle.law_plan.proofs.Lasts.{LastOf, last_of, sorted_on}
use Rattle.law_plan.proofs.Listed.{Finds, finds_owner, last_listed, listed_before, stands_before}
use Rattle.law_plan.proofs.Listings.{has_within, listed_in}
use Rattle.law_plan.proofs.Ranks.{rank, phase, At, at_has, at_of, rank_before, before_rank}
use Rattle.law_plan.specs.Crossings.{IsFull}
use Rattle.law_plan.specs.Kinds.{is_plain, is_entry, is_release}
use Rattle.law_plan.specs.Local.{Local}
use Rattle.law_plan.specs.Nodes.{Nodes}
use Rattle.law_plan.specs.Plans.{Plan}
use Rattle.law_plan.specs.Spots.{Spot, at_prologue, at_member, at_release, at_reader, OfPrologue, OfRelease}
use Rattle.law_plan.specs.States.{Handed}
use Rattle.check_order.specs.Laws.{IsAsymmetric, IsIrreflexive}
use Rattle.check_order.specs.Orders.{Order}
use Rattle.check_state.specs.PieceStates.{kind_of, last_transfer, next_transfer, on_piece}
use Rattle.check_state.specs.StateValid.{MatchAt, Matches}
use Rattle.check_sync.proofs.Ordered.{listed_of}
use Rattle.law_nodes.specs.Passing.{Before}
use Rattle.law_nodes.specs.Synchronized.{Synchronized}
use Rattle.check_access.specs.AccessKinds.{changes, transfers}
use Rattle.check_access.specs.ValidView.{Has, NodeAccessAt, Precedes, ValidView}
use Rattle.check_access.specs.Views.{View, clash, node_access, node_accesses_of, overlap}
use Rattle.check_access.specs.declared.access.Access.{Access}
use Rattle.check_access.specs.declared.access.AccessKind.{AccessKind}
use Rattle.check_access.specs.declared.access.AccessKind.TheVariants.{Load, Store, Transition, Discard, Release, Acquire}
use Rattle.check_access.specs.declared.access.Handover.{Handover}
use Rattle.check_access.specs.declared.node_access.NodeAccess.{NodeAccess}

-- LISTS

drop_at : (accesses : List NodeAccess) (n k : ℕ) → slice_get (drop n accesses) k ≡ slice_get accesses (n + k)
drop_at accesses zero k = ap (λ z. slice_get accesses z) (omega arith)
drop_at [] (suc n) k = refl
drop_at (x ∷ accesses) (suc n) k = drop_at accesses n k ∙ ap (λ z. slice_get (x ∷ accesses) z) shift
  where
    shift : suc (n + k) ≡ suc n + k
    shift = omega arith

find_is : (test : NodeAccess → Bool) (accesses : List NodeAccess) (i : ℕ) (a : NodeAccess) → NodeAccessAt accesses i a → test a ≡ true → ((k : ℕ) (c : NodeAccess) → k < i → NodeAccessAt accesses k c → test c ≡ false) → find test accesses ≡ Some a
find_is test [] i a e t h = absurd cc
find_is test (x ∷ accesses) zero a e t h =
    let same : x ≡ a = ap (λ o. unwrap_or o x) e in
    ap (λ z. if z then Some x else find test accesses) (ap test same ∙ t) ∙ ap (λ z. Some z) same
find_is test (x ∷ accesses) (suc i) a e t h = ap (λ z. if z then Some x else find test accesses) (h 0 x (omega arith) refl) ∙ find_is test accesses i a e t (λ k c lt f. h (suc k) c (omega (arith, lt)) f)

-- the first one after place j
find_after : (test : NodeAccess → Bool) (accesses : List NodeAccess) (j i : ℕ) (a : NodeAccess) → j < i → NodeAccessAt accesses i a → test a ≡ true → ((k : ℕ) (c : NodeAccess) → j < k → k < i → NodeAccessAt accesses k c → test c ≡ true → ⊥) → find test (drop (suc j) accesses) ≡ Some a
find_after test accesses j i a lt at is none = find_is test (drop (suc j) accesses) (i - suc j) a (drop_at accesses (suc j) (i - suc j) ∙ ap (λ z. slice_get accesses z) far ∙ at) is
    (λ k c l f. ⊎_elim (λ t. absurd (none (suc j + k) c (omega arith) (omega (arith, far, l)) (sym (drop_at accesses (suc j) k) ∙ f) t)) (λ z. z) (cases_Bool (test c)))
  where
    far : suc j + (i - suc j) ≡ i
    far = omega (arith, lt)

-- HALVES

-- a release is one of a released group, and an acquire is a prologue's
release_spot : (F : Plan) (V : View) (N : Nodes) (n g : ℕ) (a : Access) (s : Spot F V N n a g) (what : Handover) → a.kind ≡ Release what → (phase F V N n a g s ≡ 2) × OfRelease F V N g a
release_spot F V N n g a (at_release x r) what e = (refl, r)
release_spot F V N n g a (at_prologue x t) what e = absurd (false≢true (sym (ap is_entry e) ∙ t.entry))
release_spot F V N n g a (at_member x m) what e = absurd (false≢true (sym (ap is_plain e) ∙ m.plain))
release_spot F V N n g a (at_reader x r) what e = absurd (false≢true (sym (ap is_plain e) ∙ r.plain))

acquire_spot : (F : Plan) (V : View) (N : Nodes) (n g : ℕ) (a : Access) (s : Spot F V N n a g) (what : Handover) → a.kind ≡ Acquire what → (phase F V N n a g s ≡ 0) × OfPrologue F V N g a
acquire_spot F V N n g a (at_prologue x t) what e = (refl, t)
acquire_spot F V N n g a (at_release x r) what e = absurd (false≢true (sym (ap is_release e) ∙ r.release))
acquire_spot F V N n g a (at_member x m) what e = absurd (false≢true (sym (ap is_plain e) ∙ m.plain))
acquire_spot F V N n g a (at_reader x r) what e = absurd (false≢true (sym (ap is_plain e) ∙ r.plain))

one_handover : (a b : Handover) → Release a ≡ Release b → a ≡ b
one_handover a b e = cc

transfer_moves : (d : AccessKind) → transfers d ≡ true → (changes d || transfers d) ≡ true
transfer_moves d h = or_right (changes d) (transfers d) h

module _ (F : Plan) (V : View) (N : Nodes) (D : IsFull V) (X : Local F V N) (S : ValidView V) (H : Handed F V N) (T : Synchronized V) (order : List ℕ) (O : Order V.nodes order) (I : IsIrreflexive V.nodes) (A : IsAsymmetric V.nodes) where
  -- a transfer clashes with what touches its piece, and it is the last thing that its node does
  transfer_before : (i j : ℕ) (a b : NodeAccess) → NodeAccessAt (node_accesses_of V order) i a → NodeAccessAt (node_accesses_of V order) j b → i < j → transfers a.access.kind ≡ true → clash V a.access b.access ≡ true → Before V a.node b.node
  transfer_before i j a b ha hb lt t c = ⊎_elim (λ z. absurd (never z.1)) (λ p. p) (listed_before V S T order O I A i j a b ha hb lt c)
    where
      never : Precedes V a.node a.access b.access → ⊥
      never p = false≢true (sym (S.final a.node p.0 p.1 a.access b.access p.3 p.4 p.2) ∙ transfer_sets_owner a.access.kind t)

  -- of two transfers of a piece at neighbouring ranks the second is the next one after the first
  next_at : (j i : ℕ) (b a : NodeAccess) (r q : ℕ) → NodeAccessAt (node_accesses_of V order) j b → NodeAccessAt (node_accesses_of V order) i a → At F V N b.node b.access r → At F V N a.node a.access q → transfers b.access.kind ≡ true → transfers a.access.kind ≡ true → a.access.piece ≡ b.access.piece → r < q → ((k : ℕ) → r < k → k < q → ⊥) → find (on_piece b.access.piece transfers) (drop (suc j) (node_accesses_of V order)) ≡ Some a
  next_at j i b a r q hb ha B E tb ta e lt none = find_after (on_piece b.access.piece transfers) (node_accesses_of V order) j i a
      (stands_before V S T order O I A j i b a hb ha (rank_before F V N D X b.node a.node b.access a.access r q (sym e) B E lt)) ha
      (and_from (a.access.piece == b.access.piece) (transfers a.access.kind) (eq-eqb a.access.piece b.access.piece e) ta) between
    where
      over : overlap V b.access.piece b.access.piece ≡ true
      over = itself V S b.node b.access (at_has F V N b.node b.access r B)

      meets : (c d : Access) → c.piece ≡ b.access.piece → d.piece ≡ b.access.piece → transfers c.kind ≡ true → clash V c d ≡ true
      meets c d pc pd t = piece_clash V b.access.piece c d over pc pd (transfer_moves c.kind t)

      between : (k : ℕ) (c : NodeAccess) → j < k → k < i → NodeAccessAt (node_accesses_of V order) k c → on_piece b.access.piece transfers c ≡ true → ⊥
      between k c l m hc t = by (sorted_on transfers b.access.piece c.node c.access t) (at_of F V N D X c.node c.access (listed_of V order k c hc).1)
        where
          by : (c.access.piece ≡ b.access.piece) × (transfers c.access.kind ≡ true) → (s : ℕ) × At F V N c.node c.access s → ⊥
          by (pc, tc) (s, W) =
              let bc = meets b.access c.access refl pc tb in
              let ca = meets c.access a.access pc e tc in
              none s
              (before_rank F V N D X (I order O) b.node c.node b.access c.access r s (sym pc) bc B W (transfer_before j k b c hb hc l tb bc))
              (before_rank F V N D X (I order O) c.node a.node c.access a.access s q (pc ∙ sym e) ca W E (transfer_before k i c a hc ha m tc ca))

  -- between the release of a group and the prologue of the next one there is no rank
  none_between : (g k : ℕ) → rank g 2 < k → k < rank (g + 1) 0 → ⊥
  none_between g k l m = omega (arith, l, m)

  -- after a release its acquire comes next
  released : (j : ℕ) (b : NodeAccess) (what : Handover) → NodeAccessAt (node_accesses_of V order) j b → b.access.kind ≡ Release what → next_transfer (node_accesses_of V order) j b.access.piece ≡ Some (Acquire what)
  released j b what hb e = by (X.spots.all b.node b.access (listed_of V order j b hb).1)
    where
      by : (g : ℕ) × Spot F V N b.node b.access g → next_transfer (node_accesses_of V order) j b.access.piece ≡ Some (Acquire what)
      by (g, s) = found (H.acquire g r.released)
        where
          here : phase F V N b.node b.access g s ≡ 2
          here = (release_spot F V N b.node g b.access s what e).0

          r : OfRelease F V N g b.access
          r = (release_spot F V N b.node g b.access s what e).1

          found : (a : Access) × OfPrologue F V N (g + 1) a × (a.kind ≡ Acquire (H.handover g)) → next_transfer (node_accesses_of V order) j b.access.piece ≡ Some (Acquire what)
          found (a, t, k) =
              let i = listed_in V order (N.prologue (g + 1)) a (O.all (N.prologue (g + 1)) (has_within V S (N.prologue (g + 1)) a t.has)) t.has in
              let piece : a.piece ≡ b.access.piece = t.piece ∙ sym (H.next g r.released) ∙ sym r.piece in
              ap kind_of (next_at j i.0 b (node_access (N.prologue (g + 1)) a) (rank g 2) (rank (g + 1) 0) hb i.1 (record { group = g; spot = s; is = ap (rank g) here }) (record { group = g + 1; spot = at_prologue refl t; is = refl }) (ap transfers e) (ap transfers k) piece (omega arith) (λ z l m. none_between g z l m))
              ∙ ap (λ z. Some z) (k ∙ ap (λ z. Acquire z) (one_handover (H.handover g) what (sym (H.released g b.access r) ∙ e)))

  -- and before an acquire its release came last
  acquired : (j : ℕ) (b : NodeAccess) (what : Handover) → NodeAccessAt (node_accesses_of V order) j b → b.access.kind ≡ Acquire what → last_transfer (node_accesses_of V order) j b.access.piece ≡ Some (Release what)
  acquired j b what hb e = by (X.spots.all b.node b.access has)
    where
      has : Has V b.node b.access
      has = (listed_of V order j b hb).1

      over : overlap V b.access.piece b.access.piece ≡ true
      over = itself V S b.node b.access has

      finds : Finds V (on_piece b.access.piece transfers) b.node b.access
      finds = finds_owner V S (on_piece b.access.piece transfers) (λ v c h. transfer_sets_owner c.kind (sorted_on transfers b.access.piece v c h).1) b.node b.access
          (λ v c h. let t = sorted_on transfers b.access.piece v c h in piece_clash V b.access.piece c b.access over t.0 refl (transfer_moves c.kind t.1))

      by : (h : ℕ) × Spot F V N b.node b.access h → last_transfer (node_accesses_of V order) j b.access.piece ≡ Some (Release what)
      by (h, s) = go (H.acquired h b.access what prologue e)
        where
          here : phase F V N b.node b.access h s ≡ 0
          here = (acquire_spot F V N b.node h b.access s what e).0

          prologue : OfPrologue F V N h b.access
          prologue = (acquire_spot F V N b.node h b.access s what e).1

          go : (g : ℕ) × (h ≡ g + 1) × (N.released g ≡ true) × (what ≡ H.handover g) → last_transfer (node_accesses_of V order) j b.access.piece ≡ Some (Release what)
          go (g, next, kept, same) = found (H.release g kept)
            where
              B : At F V N b.node b.access (rank (g + 1) 0)
              B = record { group = h; spot = s; is = ap (rank h) here ∙ ap (λ z. rank z 0) next }

              found : (a : Access) × OfRelease F V N g a → last_transfer (node_accesses_of V order) j b.access.piece ≡ Some (Release what)
              found (a, r) = ap kind_of (last_listed V S T order O I A (on_piece b.access.piece transfers) j b hb finds (N.release g) a last) ∙ ap (λ z. Some z) (is ∙ ap (λ z. Release z) (sym same))
                where
                  is : a.kind ≡ Release (H.handover g)
                  is = H.released g a r

                  piece : a.piece ≡ b.access.piece
                  piece = r.piece ∙ H.next g kept ∙ ap F.piece (sym next) ∙ sym prologue.piece

                  last : LastOf V (on_piece b.access.piece transfers) b.node (N.release g) a
                  last = last_of F V N D X (I order O) transfers transfer_moves b.node (rank (g + 1) 0) b.access B over (N.release g) (rank g 2) a
                      (record { is = record { at = record { group = g; spot = at_release refl r; is = refl }; sorted = ap transfers is; piece = piece }; below = omega arith; none = λ v k c W l m. none_between g k l m })

  match_kind : (j : ℕ) (b : NodeAccess) → NodeAccessAt (node_accesses_of V order) j b → (d : AccessKind) → b.access.kind ≡ d → Matches d (node_accesses_of V order) j b.access.piece
  match_kind j b hb (Load agent layout) e = tt
  match_kind j b hb (Store agent layout) e = tt
  match_kind j b hb (Transition layouts) e = tt
  match_kind j b hb (Discard layout) e = tt
  match_kind j b hb (Release what) e = released j b what hb e
  match_kind j b hb (Acquire what) e = acquired j b what hb e

  -- in every order each half of a transfer finds the other
  pub match_at : (j : ℕ) (b : NodeAccess) → NodeAccessAt (node_accesses_of V order) j b → MatchAt (node_accesses_of V order) j b
  match_at j b hb = match_kind j b hb b.access.kind refl
