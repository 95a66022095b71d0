-- What the fields of a device have of its state.
use Rattle.std.specs.Prelude.{ℕ, ◌+◌, ◌*◌, ◌≤◌, List, length, Option}
use Rattle.device_cache.specs.Tables.{Table, caches_of}
use Rattle.device_nodes.specs.Controls.{Control, Agrees}
use Rattle.device.specs.Internal.Loads.{HasPendingAll, HasReadAll}
use Rattle.device.specs.Internal.Rooms.{events_left, stores_left, left_of}
use Rattle.device.specs.Internal.Tables.{HasBytes}
use Rattle.device.specs.declared.pending.Pending.{Pending}
use Rattle.device_model.specs.States.{State}
use Rattle.program.specs.declared.program.Program.{Program}
use Rattle.check_access.specs.Views.{view_of}

-- what the fields hold is what the state has
pub record HasState (program : Program) (control : Control) (table : Table) (pending : List (Option Pending)) (reads : List (List ℕ)) (s : State) : Type 0 where
  pub agrees : Agrees control s
  pub bytes : HasBytes program (caches_of table) s
  pub holds : HasPendingAll program pending s
  pub has_read : HasReadAll program reads s

-- how many nodes the program has
abbrev pub node_count : Program → ℕ
node_count program = length (view_of program).nodes

-- there is room for all that is still to come
pub record HasRoom (program : Program) (s : State) (moves cuts stores used capacity : ℕ) : Type 0 where
  pub for_moves : 2 * moves ≤ cuts
  pub for_stores : left_of stores_left s.phase (node_count program) ≤ stores
  pub for_events : left_of events_left s.phase (node_count program) + moves + used ≤ capacity
