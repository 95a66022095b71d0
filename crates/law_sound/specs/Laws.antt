-- Laws of what is compiled of a frame.
use Rattle.std.specs.Prelude.{◌≡◌, ◌≢◌, ◌⊎◌, ℕ, ◌<◌, List, Bool, true, false}
use Rattle.check_program.specs.Sound.{Sound}
use Rattle.law_sound.specs.Nodes.{nodes_of}
use Rattle.law_sound.specs.Plan.{plan_of}
use Rattle.law_sound.specs.Served.{ServeEarlier}
use Rattle.law_plan.specs.Aliases.{Beside}
use Rattle.law_plan.specs.Crossings.{Later}
use Rattle.law_plan.specs.Masks.{Masks}
use Rattle.law_plan.specs.Nodes.{Nodes, IsBarrier}
use Rattle.law_plan.specs.Plans.{Plan, Grouped}
use Rattle.law_plan.specs.Spots.{Spots}
use Rattle.law_plan.specs.States.{Laid, Owned, Handed, Changed}
use Rattle.frame.specs.Valid.{IsValid}
use Rattle.frame.specs.Numbered.{NumberedFrame}
use Rattle.compile_groups.specs.Groups.{grouping}
use Rattle.compile_groups.specs.Placed.{sizes}
use Rattle.compile_lifetimes.specs.Ordered.{IsOrdered}
use Rattle.compile_heap.specs.Placing.{Places, IsLeast}
use Rattle.compile_record.specs.Recorded.{heap_with, recorded}
use Rattle.law_nodes.specs.Passing.{UpTo}
use Rattle.check_access.specs.Views.{View, imported_at, overlap, view_of}

-- of each program that is compiled of a valid frame, by its plan and its nodes
abbrev pub OfCompiled : (Plan → View → Nodes → Type 0) → Type 0
OfCompiled IsSo =
    (frame : NumberedFrame) (kept : List Bool) (ordered : ℕ → ℕ → Bool) (places : Places) →
    IsValid frame →
    IsOrdered (grouping frame kept) ordered →
    IsLeast (sizes (grouping frame kept)) ordered places →
    IsSo (plan_of (grouping frame kept) (heap_with ordered places)) (view_of (recorded frame kept ordered places)) (nodes_of (grouping frame kept) (heap_with ordered places))

abbrev pub IsGrouped : Plan → View → Nodes → Type 0
IsGrouped F V N = Grouped F

-- UNITS IN THE SAME BYTES

-- two units that overlap are ordered
abbrev pub AreOrdered : Plan → View → Nodes → Type 0
AreOrdered F V N = (g h : ℕ) → g < F.groups → h < F.groups → F.piece g ≢ F.piece h → overlap V (F.piece g) (F.piece h) ≡ true → Beside F g h ⊎ Beside F h g

-- between them stands an alias barrier, up to the prologue of the later one's first group
abbrev pub HaveBarriers : Plan → View → Nodes → Type 0
HaveBarriers F V N = (g h : ℕ) → F.over g h ≡ true → IsBarrier V (N.alias h) × UpTo V (N.alias h) (N.prologue h)

-- and the last group of the earlier one is not released
abbrev pub AreUnreleased : Plan → View → Nodes → Type 0
AreUnreleased F V N = (g h : ℕ) → F.over g h ≡ true → N.released g ≡ false

-- what uses the earlier one comes before the barrier
abbrev pub ComeBefore : Plan → View → Nodes → Type 0
ComeBefore F V N = (g h c : ℕ) → F.over g h ≡ true → F.member c g ≡ true → Later V.nodes (N.command c) (N.alias h)

-- of two pieces that overlap none but itself is an import
abbrev pub ImportsAreAlone : Plan → View → Nodes → Type 0
ImportsAreAlone F V N = (g p : ℕ) → g < F.groups → imported_at V p ≡ true → overlap V (F.piece g) p ≡ true → F.piece g ≡ p

-- WITH WHAT IS ASKED OF ACCESSES

-- what is asked of accesses, masks and states
pub record Accessed (F : Plan) (V : View) (N : Nodes) : Type 0 where
  pub spots : Spots F V N
  pub masks : Masks F V N
  pub aliases : ServeEarlier F V N
  pub laid : Laid F V N
  pub owned : Owned F V N
  pub handed : Handed F V N
  pub changed : Changed F V N

-- it is sound, in the least order of its nodes
abbrev pub HasSoundOrder : Plan → View → Nodes → Type 0
HasSoundOrder F V N = (order : List ℕ) × Sound V order

-- it is with these facts
abbrev pub IsSoundWith : Plan → View → Nodes → Type 0
IsSoundWith F V N = Accessed F V N → HasSoundOrder F V N
