-- What an access finds of earlier ones.
use Rattle.std.specs.Prelude.{ℕ, suc, List, [], ◌∷◌, ◌==◌, ◌&&◌, take, drop, Bool, not, Option, Some, None, if◌then◌else◌}
use Rattle.std.specs.List.{find}
use Rattle.std.specs.Option.{option_or, option_map, option_map_or}
use Rattle.base.specs.declared.shape.Family.{Family}
use Rattle.vk.specs.declared.layout.Layout.{Layout}
use Rattle.vk.specs.declared.layout.Layout.TheVariants.{Undefined}
use Rattle.check_order.specs.Edges.{is_host, node_at}
use Rattle.check_access.specs.AccessKinds.{changes, sets_layout, sets_owner, transfers}
use Rattle.check_access.specs.Views.{View, family_at, overlap}
use Rattle.check_access.specs.declared.access.AccessKind.{AccessKind}
use Rattle.check_access.specs.declared.access.AccessKind.TheVariants.{Transition, Discard, Release}
use Rattle.check_access.specs.declared.node_access.NodeAccess.{NodeAccess}

-- the last access that is so
abbrev pub last_that : (NodeAccess → Bool) → List NodeAccess → Option NodeAccess
last_that test [] = None
last_that test (a ∷ accesses) = option_or (last_that test accesses) (if test a then Some a else None)

-- of the piece, and so
abbrev pub on_piece : ℕ → (AccessKind → Bool) → NodeAccess → Bool
on_piece p test a = (a.access.piece == p) && test a.access.kind

-- the last of these accesses that is of the piece, and so
abbrev pub last_on : (AccessKind → Bool) → ℕ → List NodeAccess → Option NodeAccess
last_on test p accesses = last_that (on_piece p test) accesses

-- LAYOUTS

abbrev pub layout_after : AccessKind → Layout
layout_after (Transition layouts) = layouts.to
layout_after (Discard layout) = layout
layout_after kind = Undefined

-- the layout that the last transition or discard before access j set
abbrev pub found_layout : List NodeAccess → ℕ → ℕ → Layout
found_layout accesses j p = option_map_or (λ a. layout_after a.access.kind) (last_on sets_layout p (take j accesses)) Undefined

-- OWNERS

-- nobody owns a piece that is released
abbrev pub owner_after : AccessKind → Option Family → Option Family
owner_after (Release handover) family = None
owner_after kind family = family

abbrev pub on_queue : View → ℕ → NodeAccess → Bool
on_queue V p a = (a.access.piece == p) && not (is_host (node_at V.nodes a.node).kind)

-- whose piece it is by first use: the family of the first access that is not the host's
abbrev pub first_owner : View → List NodeAccess → ℕ → Option Family
first_owner V accesses p = option_map_or (λ a. family_at V a.node) (find (on_queue V p) accesses) None

-- the owner that the last discard, release or acquire before access j set
abbrev pub found_owner : View → List NodeAccess → ℕ → ℕ → Option Family
found_owner V accesses j p = option_map_or (λ a. owner_after a.access.kind (family_at V a.node)) (last_on sets_owner p (take j accesses)) (first_owner V accesses p)

-- TRANSFERS

abbrev pub kind_of : Option NodeAccess → Option AccessKind
kind_of found = option_map (λ a. a.access.kind) found

-- the next transfer of the piece after access j, and the last one before it
abbrev pub next_transfer : List NodeAccess → ℕ → ℕ → Option AccessKind
next_transfer accesses j p = kind_of (find (on_piece p transfers) (drop (suc j) accesses))

abbrev pub last_transfer : List NodeAccess → ℕ → ℕ → Option AccessKind
last_transfer accesses j p = kind_of (last_on transfers p (take j accesses))

-- CHANGES

abbrev pub changes_bytes : View → ℕ → NodeAccess → Bool
changes_bytes V p a = overlap V a.access.piece p && changes a.access.kind

-- the last change of bytes of the piece before access j
abbrev pub last_change : View → List NodeAccess → ℕ → ℕ → Option NodeAccess
last_change V accesses j p = last_that (changes_bytes V p) (take j accesses)
