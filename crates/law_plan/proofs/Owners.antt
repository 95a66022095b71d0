-- What each access finds of owners: its own family set the owner last, or nothing did since the unit's first group.
use Rattle.std.proofs.Common.{◌≡◌, ◌⊎◌, inl, inr, ℕ, ◌+◌, ◌<◌, ◌≤◌, true, false, refl, sym, ap, ◌∙◌, subst, ⊎_elim, arith}
use Rattle.std.proofs.lemmas.Bool.{cases_Bool, cases_lt, or_right, false≢true}
use Rattle.std.proofs.lemmas.Map.Keys.{any_passes_from_place}
use Rattle.law_plan.proofs.Clashes.{itself}
use Rattle.law_plan.proofs.KindTables.{entry_owner, owner_moves, plain_sets_none, release_sets_owner, transfer_sets_owner}
use Rattle.law_plan.proofs.Knit.{Acyclic}
use Rattle.law_plan.proofs.Lasts.{LastOf, NoneOf, LastAt, NoneAt, SortAt, last_or_none, last_of, none_of, sort_at}
use Rattle.law_plan.proofs.Ranks.{rank, phase, At, at_low, at_of, at_piece}
use Rattle.law_plan.proofs.Runs.{first_group, steady}
use Rattle.law_plan.proofs.Sorts.{owners_sorted}
use Rattle.law_plan.specs.Crossings.{IsFull}
use Rattle.law_plan.specs.Local.{Local}
use Rattle.law_plan.specs.Nodes.{Nodes}
use Rattle.law_plan.specs.Plans.{Plan, First}
use Rattle.law_plan.specs.Spots.{Spot, at_prologue, at_member, at_release, at_reader, OfPrologue, OfRelease}
use Rattle.law_plan.specs.States.{Owned, Handed}
use Rattle.check_order.proofs.Lines.{sync_no_host}
use Rattle.check_order.specs.Edges.{is_host, node_at}
use Rattle.check_state.specs.PieceStates.{on_piece, owner_after}
use Rattle.check_state.specs.StateValid.{acquires}
use Rattle.check_access.specs.AccessKinds.{is_acquire, sets_layout, sets_owner, transfers}
use Rattle.check_access.specs.ValidView.{Has, ValidView}
use Rattle.check_access.specs.Views.{View, accesses_of, family_at, shared_at}
use Rattle.check_access.specs.declared.access.Access.{Access}
use Rattle.check_access.specs.declared.access.AccessKind.TheVariants.{Acquire}
use Rattle.check_access.specs.declared.access.Handover.{Handover}

-- a node with an access that acquires
acquires_by : (V : View) (n : ℕ) (a : Access) (what : Handover) → Has V n a → a.kind ≡ Acquire what → acquires V n ≡ true
acquires_by V n a what (i, at) e = any_passes_from_place (λ c. is_acquire c.kind) (accesses_of V n) i a at (ap is_acquire e)

module _ (F : Plan) (V : View) (N : Nodes) (X : Local F V N) (Y : Owned F V N) (H : Handed F V N) where
  -- what decides the owner is a prologue's, or a release
  pub owner_place : (x g : ℕ) (a : Access) (s : Spot F V N x a g) → sets_owner a.kind ≡ true → ((phase F V N x a g s ≡ 0) × OfPrologue F V N g a) ⊎ ((phase F V N x a g s ≡ 2) × OfRelease F V N g a)
  owner_place x g a (at_prologue e t) so = inl (refl, t)
  owner_place x g a (at_release e r) so = inr (refl, r)
  owner_place x g a (at_member e m) so = absurd (plain_sets_none a.kind m.plain (or_right (sets_layout a.kind) (sets_owner a.kind) so))
  owner_place x g a (at_reader e r) so = absurd (plain_sets_none a.kind r.plain (or_right (sets_layout a.kind) (sets_owner a.kind) so))

  -- so its node is of a queue
  pub owner_queued : (x g : ℕ) (a : Access) → Spot F V N x a g → sets_owner a.kind ≡ true → is_host (node_at V.nodes x).kind ≡ false
  owner_queued x g a (at_prologue e t) so = subst (λ z. is_host (node_at V.nodes z).kind ≡ false) (sym e) (sync_no_host (node_at V.nodes (N.prologue g)).kind (X.roles.prologues g t.has_prologue).sync)
  owner_queued x g a (at_release e r) so = subst (λ z. is_host (node_at V.nodes z).kind ≡ false) (sym e) (sync_no_host (node_at V.nodes (N.release g)).kind (X.roles.releases g r.released).sync)
  owner_queued x g a (at_member e m) so = absurd (plain_sets_none a.kind m.plain (or_right (sets_layout a.kind) (sets_owner a.kind) so))
  owner_queued x g a (at_reader e r) so = absurd (plain_sets_none a.kind r.plain (or_right (sets_layout a.kind) (sets_owner a.kind) so))

  release_at : (p k : ℕ) → F.piece k ≡ p → N.released k ≡ true → (x : ℕ) × (a : Access) × SortAt F V N sets_owner p x a (rank k 2)
  release_at p k pk h = let t = H.release k h in sort_at F V N sets_owner p k 2 pk (N.release k, t.0, at_release refl t.1, refl, release_sets_owner t.0.kind t.1.release)

  -- access a of node n stands at rank q; its unit is not shared
  module _ (n q : ℕ) (a : Access) (B : At F V N n a q) (shared : shared_at V a.piece ≡ false) (queued : is_host (node_at V.nodes n).kind ≡ false) where
    unshared : (g : ℕ) → F.piece g ≡ a.piece → shared_at V (F.piece g) ≡ false
    unshared g pg = subst (λ z. shared_at V z ≡ false) (sym pg) shared

    -- where no group is released from group j on, n is on a queue of the family of j
    runs_from : (j : ℕ) → F.piece j ≡ a.piece → j ≤ B.group → ((k : ℕ) → j ≤ k → k < B.group → F.piece k ≡ a.piece → N.released k ≡ true → ⊥) → Y.family j ≡ family_at V n
    runs_from j pj le kept =
        steady F X.grouped Y.family a.piece j B.group pj pb le (λ k lo hi pk pn. Y.steady k (pk ∙ sym pn) (unshared k pk) (⊎_elim (λ h. absurd (kept k lo hi pk h)) (λ h. h) (cases_Bool (N.released k))))
        ∙ sym (Y.runs n B.group a B.spot (unshared B.group pb) queued)
      where
        pb : F.piece B.group ≡ a.piece
        pb = sym (at_piece F V N n a q B)

    -- nothing decided the owner before
    pub runs_first : NoneAt F V N sets_owner a.piece q → (i : ℕ) → First F B.group i → Y.family i ≡ family_at V n
    runs_first none i first = runs_from i (first.same ∙ sym (at_piece F V N n a q B)) (first.least B.group refl) (λ k lo hi pk h. hit k hi (release_at a.piece k pk h))
      where
        hit : (k : ℕ) → k < B.group → (x : ℕ) × (c : Access) × SortAt F V N sets_owner a.piece x c (rank k 2) → ⊥
        hit k lt (x, c, A) = let low = (at_low F V N n a q B).0 in none x (rank k 2) c A (omega (arith, lt, low))

    -- a prologue decided it last
    runs_prologue : (t r : ℕ) (d : Access) (L : LastAt F V N sets_owner a.piece q t d r) → phase F V N t d L.is.at.group L.is.at.spot ≡ 0 → OfPrologue F V N L.is.at.group d → owner_after d.kind (family_at V t) ≡ family_at V n
    runs_prologue t r d L w prologue = entry_owner d.kind (family_at V t) prologue.entry ∙ Y.runs t L.is.at.group d L.is.at.spot (unshared L.is.at.group pt) (owner_queued t L.is.at.group d L.is.at.spot L.is.sorted) ∙ runs_from L.is.at.group pt le (λ k lo hi pk h. hit k lo hi (release_at a.piece k pk h))
      where
        pt : F.piece L.is.at.group ≡ a.piece
        pt = sym prologue.piece ∙ L.is.piece

        here : r ≡ rank L.is.at.group 0
        here = let is = L.is.at.is in omega (arith, is, w)

        range : (rank B.group 0 ≤ q) × (q < rank B.group 3)
        range = at_low F V N n a q B

        le : L.is.at.group ≤ B.group
        le = let under = L.below in let high = range.1 in omega (arith, here, under, high)

        hit : (k : ℕ) → L.is.at.group ≤ k → k < B.group → (x : ℕ) × (c : Access) × SortAt F V N sets_owner a.piece x c (rank k 2) → ⊥
        hit k lo hi (x, c, A) = let low = range.0 in L.none x (rank k 2) c A (omega (arith, here, lo)) (omega (arith, hi, low))

    -- a release did: then the next prologue acquires, and comes before n or is n
    not_release : (t r : ℕ) (d : Access) (L : LastAt F V N sets_owner a.piece q t d r) → phase F V N t d L.is.at.group L.is.at.spot ≡ 2 → OfRelease F V N L.is.at.group d → acquires V n ≡ false → ⊥
    not_release t r d L w release plain = next (H.acquire L.is.at.group release.released)
      where
        here : r ≡ rank L.is.at.group 2
        here = let is = L.is.at.is in omega (arith, is, w)

        pn : F.piece (L.is.at.group + 1) ≡ a.piece
        pn = sym (H.next L.is.at.group release.released) ∙ sym release.piece ∙ L.is.piece

        next : (c : Access) × OfPrologue F V N (L.is.at.group + 1) c × (c.kind ≡ Acquire (H.handover L.is.at.group)) → ⊥
        next (c, prologue, e) = go (cases_lt (rank (L.is.at.group + 1) 0) q)
          where
            A : (x : ℕ) × (b : Access) × SortAt F V N sets_owner a.piece x b (rank (L.is.at.group + 1) 0)
            A = sort_at F V N sets_owner a.piece (L.is.at.group + 1) 0 pn (N.prologue (L.is.at.group + 1), c, at_prologue refl prologue, refl, transfer_sets_owner c.kind (ap transfers e))

            -- n stands at the rank of the prologue that acquires
            it : (g : ℕ) (s : Spot F V N n a g) → rank g (phase F V N n a g s) ≡ q → q ≡ rank (L.is.at.group + 1) 0 → n ≡ N.prologue (L.is.at.group + 1)
            it g (at_prologue f u) is at = f ∙ ap N.prologue (omega (arith, is, at))
            it g (at_member f u) is at = absurd (omega (arith, is, at))
            it g (at_reader f u) is at = absurd (omega (arith, is, at))
            it g (at_release f u) is at = absurd (omega (arith, is, at))

            go : (rank (L.is.at.group + 1) 0 < q) ⊎ (q ≤ rank (L.is.at.group + 1) 0) → ⊥
            go (inl lt) = L.none A.0 (rank (L.is.at.group + 1) 0) A.1 A.2 (omega (arith, here)) lt
            go (inr le) =
                let under = L.below in
                let same : n ≡ N.prologue (L.is.at.group + 1) = it B.group B.spot B.is (omega (arith, here, under, le)) in
                false≢true (sym plain ∙ ap (acquires V) same ∙ acquires_by V (N.prologue (L.is.at.group + 1)) c (H.handover L.is.at.group) prologue.has e)

module _ (F : Plan) (V : View) (N : Nodes) (D : IsFull V) (X : Local F V N) (S : ValidView V) (Y : Owned F V N) (H : Handed F V N) where
  -- what an access finds of owners
  pub data OwnedBy (n : ℕ) (a : Access) : Type 0 where
    set : {t : ℕ} {d : Access} → LastOf V (on_piece a.piece sets_owner) n t d → owner_after d.kind (family_at V t) ≡ family_at V n → OwnedBy n a
    never : {g i : ℕ} → NoneOf V (on_piece a.piece sets_owner) n → F.piece g ≡ a.piece → First F g i → Y.family i ≡ family_at V n → OwnedBy n a

  pub owned_by : Acyclic V → (n : ℕ) (a : Access) → Has V n a → shared_at V a.piece ≡ false → is_host (node_at V.nodes n).kind ≡ false → acquires V n ≡ false → OwnedBy n a
  owned_by C n a ha shared queued plain = at (at_of F V N D X n a ha)
    where
      at : (q : ℕ) × At F V N n a q → OwnedBy n a
      at (q, B) = go (last_or_none F V N sets_owner a.piece (owners_sorted F V N Y H) q)
        where
          by_last : (t r : ℕ) (d : Access) (L : LastAt F V N sets_owner a.piece q t d r) → ((phase F V N t d L.is.at.group L.is.at.spot ≡ 0) × OfPrologue F V N L.is.at.group d) ⊎ ((phase F V N t d L.is.at.group L.is.at.spot ≡ 2) × OfRelease F V N L.is.at.group d) → owner_after d.kind (family_at V t) ≡ family_at V n
          by_last t r d L (inl (w, prologue)) = runs_prologue F V N X Y H n q a B shared queued t r d L w prologue
          by_last t r d L (inr (w, release)) = absurd (not_release F V N X Y H n q a B shared queued t r d L w release plain)

          first : (i : ℕ) × First F B.group i → NoneAt F V N sets_owner a.piece q → OwnedBy n a
          first (i, one) none = never {g = B.group} {i = i} (none_of F V N D X C sets_owner owner_moves n q a B (itself V S n a ha) none) (sym (at_piece F V N n a q B)) one (runs_first F V N X Y H n q a B shared queued none i one)

          go : ((t : ℕ) × (d : Access) × (r : ℕ) × LastAt F V N sets_owner a.piece q t d r) ⊎ NoneAt F V N sets_owner a.piece q → OwnedBy n a
          go (inl (t, d, r, L)) = set {t = t} {d = d} (last_of F V N D X C sets_owner owner_moves n q a B (itself V S n a ha) t r d L) (by_last t r d L (owner_place F V N X Y H t L.is.at.group d L.is.at.spot L.is.sorted))
          go (inr none) = first (first_group F X.grouped B.group) none
