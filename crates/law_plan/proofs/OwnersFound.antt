-- In every order each access finds its piece owned by its own family.
use Rattle.std.proofs.Common.{◌≡◌, ℕ, zero, suc, ◌<◌, ◌==◌, ◌||◌, not, if◌then◌else◌, Bool, true, false, List, [], ◌∷◌, Some, None, refl, sym, ap, ◌∙◌, subst, eq-eqb, eqb-true, arith}
use Rattle.std.specs.List.{find}
use Rattle.std.specs.Option.{option_map_or}
use Rattle.std.specs.Prelude.{unwrap_or}
use Rattle.std.proofs.lemmas.Bool.{and_from, and_parts, false≢true, not-true}
use Rattle.law_plan.proofs.Clashes.{itself, piece_clash}
use Rattle.law_plan.proofs.KindTables.{owner_moves}
use Rattle.law_plan.proofs.Lasts.{NoneAt, sorted_on}
use Rattle.law_plan.proofs.Listed.{Finds, finds_owner, last_listed, none_listed, stands_before}
use Rattle.law_plan.proofs.Listings.{has_within, listed_in}
use Rattle.law_plan.proofs.Owners.{OwnedBy, set, never, owned_by, owner_queued, runs_first}
use Rattle.law_plan.proofs.Ranks.{At, at_has, at_of, at_piece, rank_before}
use Rattle.law_plan.specs.Crossings.{IsFull}
use Rattle.law_plan.specs.Local.{Local}
use Rattle.law_plan.specs.Nodes.{Nodes}
use Rattle.law_plan.specs.Plans.{Plan, First}
use Rattle.law_plan.specs.States.{Owned, Handed}
use Rattle.check_order.specs.Edges.{is_host, node_at}
use Rattle.check_order.specs.Laws.{IsAsymmetric, IsIrreflexive}
use Rattle.check_order.specs.Orders.{Order}
use Rattle.check_state.specs.PieceStates.{first_owner, found_owner, on_piece, on_queue, owner_after}
use Rattle.check_state.specs.StateValid.{acquires, OwnerAt}
use Rattle.check_sync.proofs.Ordered.{listed_of}
use Rattle.law_nodes.specs.Synchronized.{Synchronized}
use Rattle.check_access.specs.AccessKinds.{is_discard, sets_owner}
use Rattle.check_access.specs.ValidView.{Has, NodeAccessAt, ValidView}
use Rattle.check_access.specs.Views.{View, family_at, node_access, node_accesses_of, shared_at}
use Rattle.check_access.specs.declared.node_access.NodeAccess.{NodeAccess}

-- the first access that is so
record FirstThat (test : NodeAccess → Bool) (accesses : List NodeAccess) : Type 0 where
  place : ℕ
  found : NodeAccess
  at : NodeAccessAt accesses place found
  is : test found ≡ true
  finds : find test accesses ≡ Some found
  none : (k : ℕ) (c : NodeAccess) → k < place → NodeAccessAt accesses k c → test c ≡ true → ⊥

first_that : (test : NodeAccess → Bool) (accesses : List NodeAccess) (j : ℕ) (b : NodeAccess) → NodeAccessAt accesses j b → test b ≡ true → FirstThat test accesses
first_that test [] j b e t = absurd cc
first_that test (x ∷ accesses) j b e t = go (test x) refl j e (λ i f. first_that test accesses i b f t)
  where
    go : (v : Bool) → test x ≡ v → (j : ℕ) → NodeAccessAt (x ∷ accesses) j b → ((i : ℕ) → NodeAccessAt accesses i b → FirstThat test accesses) → FirstThat test (x ∷ accesses)
    go true h j e later = record { place = 0; found = x; at = refl; is = h; finds = ap (λ z. if z then Some x else find test accesses) h; none = λ k c lt f u. omega (arith, lt) }
    go false h zero e later = absurd (false≢true (sym h ∙ ap test (ap (λ o. unwrap_or o x) e) ∙ t))
    go false h (suc i) e later =
        let A = later i e in
        record { place = suc A.place; found = A.found; at = A.at; is = A.is; finds = ap (λ z. if z then Some x else find test accesses) h ∙ A.finds; none = before A }
      where
        before : (A : FirstThat test accesses) (k : ℕ) (c : NodeAccess) → k < suc A.place → NodeAccessAt (x ∷ accesses) k c → test c ≡ true → ⊥
        before A zero c lt f u = false≢true (sym h ∙ ap test (ap (λ o. unwrap_or o x) f) ∙ u)
        before A (suc k) c lt f u = A.none k c (omega (arith, lt)) f u

none_of_four : (a b c d : Bool) → not (a || (b || (c || d))) ≡ true → (b ≡ false) × (c ≡ false) × (d ≡ false)
none_of_four false false false false e = (refl, refl, refl)
none_of_four true b c d e = absurd (false≢true e)
none_of_four false true c d e = absurd (false≢true e)
none_of_four false false true d e = absurd (false≢true e)
none_of_four false false false true e = absurd (false≢true e)

module _ (F : Plan) (V : View) (N : Nodes) (D : IsFull V) (X : Local F V N) (S : ValidView V) (Y : Owned F V N) (H : Handed F V N) (T : Synchronized V) (order : List ℕ) (O : Order V.nodes order) (I : IsIrreflexive V.nodes) (A : IsAsymmetric V.nodes) where
  -- before the first access of a piece by a queue nothing decides its owner
  none_first : (p : ℕ) (B : FirstThat (on_queue V p) (node_accesses_of V order)) (q : ℕ) → At F V N B.found.node B.found.access q → B.found.access.piece ≡ p → NoneAt F V N sets_owner B.found.access.piece q
  none_first p B q W pb v k c L lt = go (listed_in V order v c (O.all v (has_within V S v c has)) has)
    where
      has : Has V v c
      has = at_has F V N v c k L.at

      so : on_queue V p (node_access v c) ≡ true
      so = and_from (c.piece == p) (not (is_host (node_at V.nodes v).kind)) (eq-eqb c.piece p (L.piece ∙ pb)) (ap not (owner_queued F V N X Y H v L.at.group c L.at.spot L.sorted))

      go : (i : ℕ) × NodeAccessAt (node_accesses_of V order) i (node_access v c) → ⊥
      go (i, hi) = B.none i (node_access v c) (stands_before V S T order O I A i B.place (node_access v c) B.found hi B.at (rank_before F V N D X v B.found.node c B.found.access k q L.piece L.at W lt)) hi so

  -- whose piece it is by first use is whose its first group is
  first_family : (j : ℕ) (b : NodeAccess) → NodeAccessAt (node_accesses_of V order) j b → shared_at V b.access.piece ≡ false → is_host (node_at V.nodes b.node).kind ≡ false → (g i : ℕ) → F.piece g ≡ b.access.piece → First F g i → first_owner V (node_accesses_of V order) b.access.piece ≡ Y.family i
  first_family j b hb shared queued g i pg one = ap (λ z. option_map_or (λ a. family_at V a.node) z None) B.finds ∙ by (at_of F V N D X B.found.node B.found.access (listed_of V order B.place B.found B.at).1)
    where
      B : FirstThat (on_queue V b.access.piece) (node_accesses_of V order)
      B = first_that (on_queue V b.access.piece) (node_accesses_of V order) j b hb (and_from (b.access.piece == b.access.piece) (not (is_host (node_at V.nodes b.node).kind)) (eq-eqb b.access.piece b.access.piece refl) (ap not queued))

      is : ((B.found.access.piece == b.access.piece) ≡ true) × (not (is_host (node_at V.nodes B.found.node).kind) ≡ true)
      is = and_parts (B.found.access.piece == b.access.piece) (not (is_host (node_at V.nodes B.found.node).kind)) B.is

      pb : B.found.access.piece ≡ b.access.piece
      pb = eqb-true B.found.access.piece b.access.piece is.0

      by : (q : ℕ) × At F V N B.found.node B.found.access q → family_at V B.found.node ≡ Y.family i
      by (q, W) = sym (runs_first F V N X Y H B.found.node q B.found.access W (subst (λ z. shared_at V z ≡ false) (sym pb) shared) (not-true (is_host (node_at V.nodes B.found.node).kind) is.1) (none_first b.access.piece B q W pb) i (record { same = one.same ∙ sym same; least = λ h e. one.least h (e ∙ same) }))
        where
          same : F.piece W.group ≡ F.piece g
          same = sym (at_piece F V N B.found.node B.found.access q W) ∙ pb ∙ sym pg

  -- each access that needs an owner finds its own family
  pub owner_at : (j : ℕ) (b : NodeAccess) → NodeAccessAt (node_accesses_of V order) j b → OwnerAt V (node_accesses_of V order) j b
  owner_at j b hb needs = go (owned_by F V N D X S Y H (I order O) b.node b.access has own.2 own.1 own.0)
    where
      has : Has V b.node b.access
      has = (listed_of V order j b hb).1

      own : (acquires V b.node ≡ false) × (is_host (node_at V.nodes b.node).kind ≡ false) × (shared_at V b.access.piece ≡ false)
      own = none_of_four (is_discard b.access.kind) (acquires V b.node) (is_host (node_at V.nodes b.node).kind) (shared_at V b.access.piece) needs

      finds : Finds V (on_piece b.access.piece sets_owner) b.node b.access
      finds = finds_owner V S (on_piece b.access.piece sets_owner) (λ v c h. (sorted_on sets_owner b.access.piece v c h).1) b.node b.access
          (λ v c h. piece_clash V b.access.piece c b.access (itself V S b.node b.access has) (sorted_on sets_owner b.access.piece v c h).0 refl (owner_moves c.kind (sorted_on sets_owner b.access.piece v c h).1))

      go : OwnedBy F V N D X S Y H b.node b.access → found_owner V (node_accesses_of V order) j b.access.piece ≡ family_at V b.node
      go (set {t = t} {d = d} L e) = ap (λ z. option_map_or (λ a. owner_after a.access.kind (family_at V a.node)) z (first_owner V (node_accesses_of V order) b.access.piece)) (last_listed V S T order O I A (on_piece b.access.piece sets_owner) j b hb finds t d L) ∙ e
      go (never {g = g} {i = i} none pg one e) = ap (λ z. option_map_or (λ a. owner_after a.access.kind (family_at V a.node)) z (first_owner V (node_accesses_of V order) b.access.piece)) (none_listed V S T order O I A (on_piece b.access.piece sets_owner) j b hb finds none) ∙ first_family j b hb own.2 own.1 g i pg one ∙ e
