-- What the tables hold is what an access finds, and that decides whether its state is valid.
use Rattle.std.proofs.Common.{◌≡◌, ◌↔◌, ℕ, Bool, ◌<◌, true, false, List, length, get_or, take, Option, Some, None, arith, IsTrue, refl, sym, ap, ◌∙◌, subst}
use Rattle.std.specs.Option.{option_map_or}
use Rattle.vk.specs.declared.layout.Layout.{Layout}
use Rattle.vk.specs.declared.layout.Layout.TheVariants.{Undefined}
use Rattle.check_access.specs.AccessKinds.{sets_owner, wanted, transfers}
use Rattle.check_access.specs.ValidView.{NodeAccessAt}
use Rattle.check_access.specs.Views.{View, family_at}
use Rattle.check_access.specs.declared.access.AccessKind.{AccessKind}
use Rattle.check_access.specs.declared.access.AccessKind.TheVariants.{Load, Store, Transition, Discard, Release, Acquire}
use Rattle.check_access.specs.declared.access.Handover.{Handover}
use Rattle.check_access.specs.declared.node_access.NodeAccess.{NodeAccess}
use Rattle.check_state.specs.PieceStates.{kind_of, last_on, layout_after, owner_after, next_transfer, last_transfer}
use Rattle.check_state.specs.StateValid.{LayoutAt, OwnerAt, MatchAt, Matches, needs_owner}
use Rattle.check_state.specs.Internal.Tables.{Finds, IsAhead, IsPast}
use Rattle.check_state.specs.declared.ahead.Ahead.{Ahead}
use Rattle.check_state.specs.declared.piece_state.PieceState.{PieceState}
use Rattle.check_state.specs.declared.past.Past.{Past}

-- what is told of half of a transfer
pub record Told (kind : AccessKind) (last next : Option AccessKind) (told : Bool) : Type 0 where
  pub release : (handover : Handover) → kind ≡ Release handover → IsTrue told ↔ next ≡ Some (Acquire handover)
  pub acquire : (handover : Handover) → kind ≡ Acquire handover → IsTrue told ↔ last ≡ Some (Release handover)
  pub other : transfers kind ≡ false → told ≡ true

matched : (kind : AccessKind) (accesses : List NodeAccess) (j p : ℕ) (told : Bool) → Told kind (last_transfer accesses j p) (next_transfer accesses j p) told → (told ≡ true) ↔ Matches kind accesses j p
matched (Load agent layout) accesses j p told T = (λ _. tt, λ _. T.other refl)
matched (Store agent layout) accesses j p told T = (λ _. tt, λ _. T.other refl)
matched (Transition layouts) accesses j p told T = (λ _. tt, λ _. T.other refl)
matched (Discard layout) accesses j p told T = (λ _. tt, λ _. T.other refl)
matched (Release handover) accesses j p told T = T.release handover refl
matched (Acquire handover) accesses j p told T = T.acquire handover refl

pub record Judged (V : View) (accesses : List NodeAccess) (j : ℕ) (a : NodeAccess) (told : Bool) : Type 0 where
  pub layout : LayoutAt accesses j a
  pub owner : OwnerAt V accesses j a
  pub match : (told ≡ true) ↔ MatchAt accesses j a

-- where the layout and the owner are right
pub judged : (V : View) (accesses : List NodeAccess) (j : ℕ) (a node_access : NodeAccess) (found : PieceState) (told : Bool) → node_access ≡ a → Finds V accesses j a.access.piece found → ((layout : Layout) → wanted node_access.access.kind ≡ Some layout → found.layout ≡ layout) → (needs_owner V node_access ≡ true → found.owner ≡ family_at V node_access.node) → Told node_access.access.kind found.last found.next told → Judged V accesses j a told
judged V accesses j a node_access found told e F layout owner T = record {
  layout = λ want h. sym F.layout ∙ layout want (ap (λ z. wanted z.access.kind) e ∙ h);
  owner = λ h. sym F.owner ∙ owner (ap (λ z. needs_owner V z) e ∙ h) ∙ ap (λ z. family_at V z.node) e;
  match = matched a.access.kind accesses j a.access.piece told (subst (λ z. Told a.access.kind z (next_transfer accesses j a.access.piece) told) F.last (subst (λ z. Told a.access.kind found.last z told) F.next (subst (λ z. Told z.access.kind found.last found.next told) e T)));
}

pub finds : (V : View) (accesses : List NodeAccess) (past : Past) (ahead : Ahead) (j : ℕ) (a node_access : NodeAccess) (setter first : Option NodeAccess) (found : PieceState) → node_access ≡ a → NodeAccessAt accesses j a → a.access.piece < length V.pieces → IsPast (length V.pieces) (take j accesses) past → IsAhead V accesses 0 ahead → found.layout ≡ option_map_or (λ x. layout_after x.access.kind) (get_or past.layouts node_access.access.piece None) Undefined → setter ≡ get_or past.owners node_access.access.piece None → first ≡ get_or ahead.owners node_access.access.piece None → found.owner ≡ option_map_or (λ x. owner_after x.access.kind (family_at V x.node)) setter (option_map_or (λ x. family_at V x.node) first None) → found.last ≡ kind_of (get_or past.transfers node_access.access.piece None) → found.next ≡ get_or ahead.next j None → Finds V accesses j a.access.piece found
finds V accesses past ahead j a node_access setter first found e at lt P A layout set owned owner last next =
    let same : node_access.access.piece ≡ a.access.piece = ap (λ z. z.access.piece) e in
    record {
      layout = layout ∙ ap (λ z. option_map_or (λ x. layout_after x.access.kind) (get_or past.layouts z None) Undefined) same ∙ ap (λ z. option_map_or (λ x. layout_after x.access.kind) z Undefined) (P.layouts.each a.access.piece lt);
      owner = owner ∙ ap (λ z. option_map_or (λ x. owner_after x.access.kind (family_at V x.node)) z (option_map_or (λ x. family_at V x.node) first None)) (set ∙ ap (λ z. get_or past.owners z None) same ∙ P.owners.each a.access.piece lt) ∙ ap (λ z. option_map_or (λ x. owner_after x.access.kind (family_at V x.node)) (last_on sets_owner a.access.piece (take j accesses)) (option_map_or (λ x. family_at V x.node) z None)) (owned ∙ ap (λ z. get_or ahead.owners z None) same ∙ A.owners.each a.access.piece lt);
      last = last ∙ ap (λ z. kind_of (get_or past.transfers z None)) same ∙ ap kind_of (P.transfers.each a.access.piece lt);
      next = next ∙ A.next j a (omega arith) at;
    }
