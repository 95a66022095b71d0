-- In views that are alike accesses find the same of earlier ones.
use Rattle.std.proofs.Common.{◌≡◌, ℕ, false, ◌&&◌, ◌||◌, ◌==◌, not, List, take, slice_get, get_or, Option, Some, None, sym, ap, ◌∙◌, subst}
use Rattle.std.proofs.Math.Path.{fun_ext}
use Rattle.std.specs.List.{find, flat_map, list_any}
use Rattle.std.specs.Option.{option_map_or}
use Rattle.std.specs.Prelude.{map}
use Rattle.vk.specs.Sharings.{is_shared}
use Rattle.check_order.specs.Edges.{is_host, node_at}
use Rattle.check_access.specs.AccessKinds.{changes, sets_owner, is_discard, is_acquire}
use Rattle.check_access.specs.Views.{View, queue_at, family_at, no_piece, pieces_overlap, node_access, node_accesses_of}
use Rattle.check_access.specs.declared.node_access.NodeAccess.{NodeAccess}
use Rattle.check_state.specs.Initialized.{Initializes, Initialized}
use Rattle.check_state.specs.PieceStates.{last_that, last_on, owner_after, on_queue, first_owner, found_owner, last_change}
use Rattle.check_state.specs.StateValid.{acquires, needs_owner, StateValid, StateValidAt}
use Rattle.law_alike.specs.Wholly.{WhollyAlike}

module _ (V W : View) (K : WhollyAlike V W) where
  pub accesses_same : (order : List ℕ) → node_accesses_of V order ≡ node_accesses_of W order
  accesses_same order = ap (λ f. flat_map (λ n. map (node_access n) (f n)) order) (fun_ext K.tied.accesses)

  -- OWNERS

  family_same : (n : ℕ) → family_at V n ≡ family_at W n
  family_same n = ap (λ q. slice_get V.families q) (K.nodes.queue n) ∙ ap (λ f. slice_get f (queue_at W n)) K.families

  on_queue_same : (p : ℕ) (a : NodeAccess) → on_queue V p a ≡ on_queue W p a
  on_queue_same p a = ap (λ k. (a.access.piece == p) && not (is_host k)) (K.nodes.kind a.node)

  first_same : (accesses : List NodeAccess) (p : ℕ) → first_owner V accesses p ≡ first_owner W accesses p
  first_same accesses p =
      ap (λ f. option_map_or (λ a. f a.node) (find (on_queue V p) accesses) None) (fun_ext family_same)
      ∙ ap (λ test. option_map_or (λ a. family_at W a.node) (find test accesses) None) (fun_ext (on_queue_same p))

  owner_same : (accesses : List NodeAccess) (j p : ℕ) → found_owner V accesses j p ≡ found_owner W accesses j p
  owner_same accesses j p =
      ap (λ f. option_map_or (λ a. owner_after a.access.kind (f a.node)) (last_on sets_owner p (take j accesses)) (first_owner V accesses p)) (fun_ext family_same)
      ∙ ap (λ first. option_map_or (λ a. owner_after a.access.kind (family_at W a.node)) (last_on sets_owner p (take j accesses)) first) (first_same accesses p)

  needs_same : (a : NodeAccess) → needs_owner V a ≡ needs_owner W a
  needs_same a =
      ap (λ l. not (is_discard a.access.kind || (list_any (λ b. is_acquire b.kind) l || (is_host (node_at V.nodes a.node).kind || is_shared (get_or V.pieces a.access.piece no_piece).sharing)))) (K.tied.accesses a.node)
      ∙ ap (λ k. not (is_discard a.access.kind || (acquires W a.node || (is_host k || is_shared (get_or V.pieces a.access.piece no_piece).sharing)))) (K.nodes.kind a.node)
      ∙ ap (λ ps. not (is_discard a.access.kind || (acquires W a.node || (is_host (node_at W.nodes a.node).kind || is_shared (get_or ps a.access.piece no_piece).sharing)))) K.pieces

  state_at : (accesses : List NodeAccess) (j : ℕ) (a : NodeAccess) → StateValidAt V accesses j a → StateValidAt W accesses j a
  state_at accesses j a S = record {
    layout = S.layout;
    owner = λ e. sym (owner_same accesses j a.access.piece) ∙ S.owner (needs_same a ∙ e) ∙ family_same a.node;
    match = S.match;
  }

  pub state_on : (accesses : List NodeAccess) → StateValid V accesses → StateValid W accesses
  state_on accesses S j a at = state_at accesses j a (S j a at)

  -- BYTES

  change_same : (accesses : List NodeAccess) (j p : ℕ) → last_change V accesses j p ≡ last_change W accesses j p
  change_same accesses j p = ap (λ ps. last_that (λ a. pieces_overlap (get_or ps a.access.piece no_piece) (get_or ps p no_piece) && changes a.access.kind) (take j accesses)) K.pieces

  initializes_on : (p : ℕ) (found : Option NodeAccess) → Initializes V p found → Initializes W p found
  initializes_on p (Some change) h = h
  initializes_on p None h = sym (ap (λ l. get_or l p false) K.imported) ∙ h

  pub initialized_on : (accesses : List NodeAccess) → Initialized V accesses → Initialized W accesses
  initialized_on accesses I j a at e =
      let p = a.access.piece in
      subst (Initializes W p) (change_same accesses j p) (initializes_on p (last_change V accesses j p) (I j a at e))
