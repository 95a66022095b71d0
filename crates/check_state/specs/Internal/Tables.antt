-- What the tables of accesses hold.
use Rattle.std.specs.Prelude.{◌≡◌, ℕ, ◌<◌, List, ◌≤◌, length, get_or, drop, Bool, Option, Some, None, if◌then◌else◌}
use Rattle.std.specs.List.{find}
use Rattle.check_access.specs.AccessKinds as access_kinds
use Rattle.check_access.specs.ValidView.{NodeAccessAt}
use Rattle.check_access.specs.Views.{View}
use Rattle.check_access.specs.declared.access.AccessKind.{AccessKind}
use Rattle.check_access.specs.declared.node_access.NodeAccess.{NodeAccess}
use Rattle.check_state.specs.PieceStates.{last_that, on_piece, on_queue, found_layout, found_owner, next_transfer, last_transfer}
use Rattle.check_state.specs.declared.ahead.Ahead.{Ahead}
use Rattle.check_state.specs.declared.piece_state.PieceState.{PieceState}
use Rattle.check_state.specs.declared.past.Past.{Past}

-- the access is put where the test passes
pub record PutWhere (test : ℕ → Bool) (a : NodeAccess) (old new : List (Option NodeAccess)) : Type 0 where
  pub size : length new ≡ length old
  pub each : (p : ℕ) → p < length old → get_or new p None ≡ (if test p then Some a else get_or old p None)

-- for each piece the last access that is so
pub record IsLast (test : ℕ → NodeAccess → Bool) (pieces : ℕ) (accesses : List NodeAccess) (table : List (Option NodeAccess)) : Type 0 where
  pub size : length table ≡ pieces
  pub each : (p : ℕ) → p < pieces → get_or table p None ≡ last_that (test p) accesses

-- for each piece the first access that is so
pub record IsFirst (test : ℕ → NodeAccess → Bool) (pieces : ℕ) (accesses : List NodeAccess) (table : List (Option NodeAccess)) : Type 0 where
  pub size : length table ≡ pieces
  pub each : (p : ℕ) → p < pieces → get_or table p None ≡ find (test p) accesses

-- what comes before an access
pub record IsPast (pieces : ℕ) (accesses : List NodeAccess) (past : Past) : Type 0 where
  pub layouts : IsLast (λ p. on_piece p access_kinds.sets_layout) pieces accesses past.layouts
  pub owners : IsLast (λ p. on_piece p access_kinds.sets_owner) pieces accesses past.owners
  pub transfers : IsLast (λ p. on_piece p access_kinds.transfers) pieces accesses past.transfers

-- of each access from j on the next transfer of its piece
abbrev pub NextFrom : List NodeAccess → ℕ → List (Option AccessKind) → Type 0
NextFrom accesses j next = (i : ℕ) (a : NodeAccess) → j ≤ i → NodeAccessAt accesses i a → get_or next i None ≡ next_transfer accesses i a.access.piece

-- what comes after accesses from j on: of each piece the first access that is no host read and the first transfer, and of
-- each access the next transfer of its piece
pub record IsAhead (V : View) (accesses : List NodeAccess) (j : ℕ) (ahead : Ahead) : Type 0 where
  pub owners : IsFirst (on_queue V) (length V.pieces) (drop j accesses) ahead.owners
  pub transfers : IsFirst (λ p. on_piece p access_kinds.transfers) (length V.pieces) (drop j accesses) ahead.transfers
  pub size : length ahead.next ≡ length accesses
  pub next : NextFrom accesses j ahead.next

-- what access j finds of a piece
pub record Finds (V : View) (accesses : List NodeAccess) (j p : ℕ) (found : PieceState) : Type 0 where
  pub layout : found.layout ≡ found_layout accesses j p
  pub owner : found.owner ≡ found_owner V accesses j p
  pub last : found.last ≡ last_transfer accesses j p
  pub next : found.next ≡ next_transfer accesses j p
