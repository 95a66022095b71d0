-- What each kind of access does to its piece: one table of six rows.
use Rattle.std.specs.Prelude.{Bool, true, false, Option, Some, None}
use Rattle.vk.specs.declared.layout.Layout.{Layout}
use Rattle.check_access.specs.declared.access.AccessKind.{AccessKind}
use Rattle.check_access.specs.declared.access.AccessKind.TheVariants.{Load, Store, Transition, Discard, Release, Acquire}

pub record KindRow : Type 0 where
  -- old bytes matter
  pub loads : Bool
  -- bytes may change
  pub changes : Bool
  -- bytes are there afterwards
  pub stores : Bool
  -- a layout is set
  pub sets_layout : Bool
  -- half of a transfer of ownership
  pub transfers : Bool
  -- it is decided who owns the piece
  pub sets_owner : Bool

abbrev pub nothing : KindRow
nothing = record { loads = false; changes = false; stores = false; sets_layout = false; transfers = false; sets_owner = false }

-- a transition keeps what was stored; a discard is a transition out of UNDEFINED
abbrev pub kind_row : AccessKind → KindRow
kind_row (Load agent layout) = record nothing { loads = true }
kind_row (Store agent layout) = record nothing { changes = true; stores = true }
kind_row (Transition layouts) = record nothing { loads = true; changes = true; stores = true; sets_layout = true }
kind_row (Discard layout) = record nothing { changes = true; sets_layout = true; sets_owner = true }
kind_row (Release handover) = record nothing { transfers = true; sets_owner = true }
kind_row (Acquire handover) = record nothing { transfers = true; sets_owner = true }

abbrev pub loads : AccessKind → Bool
loads kind = (kind_row kind).loads

abbrev pub changes : AccessKind → Bool
changes kind = (kind_row kind).changes

abbrev pub stores : AccessKind → Bool
stores kind = (kind_row kind).stores

abbrev pub sets_layout : AccessKind → Bool
sets_layout kind = (kind_row kind).sets_layout

abbrev pub transfers : AccessKind → Bool
transfers kind = (kind_row kind).transfers

abbrev pub sets_owner : AccessKind → Bool
sets_owner kind = (kind_row kind).sets_owner

abbrev pub is_discard : AccessKind → Bool
is_discard (Discard layout) = true
is_discard kind = false

abbrev pub is_acquire : AccessKind → Bool
is_acquire (Acquire handover) = true
is_acquire kind = false

-- the layout that has to be found
abbrev pub wanted : AccessKind → Option Layout
wanted (Load agent layout) = layout
wanted (Store agent layout) = layout
wanted (Transition layouts) = Some layouts.from
wanted kind = None
