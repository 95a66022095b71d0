-- What commands load, other commands stored before.
use Rattle.std.specs.Prelude.{◌≡◌, ℕ, ◌<◌, List, length, slice_get, Bool, false, Some}
use Rattle.std.specs.List.{Contains}
use Rattle.base.specs.Touches.{touches_of}
use Rattle.base.specs.declared.touch.Touch.{Touch}
use Rattle.vk.specs.Roles.{load_access, store_access}
use Rattle.law_sound.specs.Nodes.{nodes_of}
use Rattle.law_sound.specs.Plan.{plan_of}
use Rattle.law_plan.specs.Nodes.{Nodes}
use Rattle.law_plan.specs.Plans.{Plan}
use Rattle.frame.specs.Valid.{IsValid}
use Rattle.frame.specs.Numbered.{NumberedFrame}
use Rattle.compile_groups.specs.Groups.{grouping}
use Rattle.compile_groups.specs.Placed.{is_import, sizes}
use Rattle.compile_groups.specs.declared.command.Command.{Command}
use Rattle.compile_groups.specs.declared.grouping.Grouping.{Grouping}
use Rattle.compile_lifetimes.specs.Ordered.{IsOrdered}
use Rattle.compile_heap.specs.Placing.{Places, IsLeast}
use Rattle.compile_record.specs.Recorded.{heap_with, recorded}
use Rattle.check_access.specs.Views.{View, view_of}

-- command c touches unit r, and so
pub record DoesTo (G : Grouping) (c r : ℕ) (IsSo : Touch → Type 0) : Type 0 where
  pub command : Command
  pub there : slice_get G.commands c ≡ Some command
  pub touch : Touch
  pub among : Contains (touches_of G.shapes command.op) touch
  pub unit : touch.what ≡ r
  pub so : IsSo touch

abbrev pub Loads : Touch → Type 0
Loads t = (bits : ℕ) × (load_access t.role t.whole ≡ Some bits)

abbrev pub Stores : Touch → Type 0
Stores t = (bits : ℕ) × (store_access t.role ≡ Some bits)

-- what a command loads of a unit that is no import, an earlier one stored to
abbrev pub IsInitialized : Grouping → Type 0
IsInitialized G = (c r : ℕ) → r < length G.imports → is_import G r ≡ false → DoesTo G c r Loads → (d : ℕ) × (d < c) × DoesTo G d r Stores

-- of each program that is compiled of a valid frame whose kept passes load what they stored
abbrev pub OfInitialized : (Plan → View → Nodes → Type 0) → Type 0
OfInitialized IsSo =
    (frame : NumberedFrame) (kept : List Bool) (ordered : ℕ → ℕ → Bool) (places : Places) →
    IsValid frame →
    IsOrdered (grouping frame kept) ordered →
    IsLeast (sizes (grouping frame kept)) ordered places →
    IsInitialized (grouping frame kept) →
    IsSo (plan_of (grouping frame kept) (heap_with ordered places)) (view_of (recorded frame kept ordered places)) (nodes_of (grouping frame kept) (heap_with ordered places))
