-- What the fields of a device keep.
use Rattle.std.specs.Prelude.{◌≡◌, length, vec_len, vec_capacity, true, None}
use Rattle.std.specs.Arc.{arc_value}
use Rattle.std.specs.List.{All}
use Rattle.check_program.specs.Sound.{IsSound}
use Rattle.device.specs.Internal.Fields.{HasState, HasRoom, node_count}
use Rattle.device.specs.Internal.Tables.{FitsProgram}
use Rattle.device.specs.declared.device.Device.TheInside.{Inside}
use Rattle.device_model.specs.Coming.{AllCame}
use Rattle.device_model.specs.Devices.{Device, state_of}
use Rattle.program.specs.Entries.{entries_of}
use Rattle.program.specs.FirstFault.{first_fault}
use Rattle.program.specs.Obeys.{EntryObeys, IsSmall}
use Rattle.program.specs.Rules.{shapes_of}
use Rattle.program.specs.declared.rule.Rule.{Rule}
use Rattle.check_access.specs.Views.{view_of}

abbrev pub device_in : Inside → Device
device_in i = record { program = arc_value i.program; fill = i.fill; history = i.history.items; moves = i.moves }

pub record IsKept (i : Inside) : Type 0 where
  pub faultless : first_fault (arc_value i.program) ≡ None
  pub sound : i.sound ≡ true → IsSound (arc_value i.program)
  pub small : IsSmall (arc_value i.program)
  pub obeys : (rule : Rule) → All (EntryObeys rule (arc_value i.program)) (entries_of (arc_value i.program))
  pub view : i.control.view ≡ view_of (arc_value i.program)
  pub shapes : i.shapes ≡ shapes_of (arc_value i.program)
  pub places : length i.pending.items ≡ node_count (arc_value i.program)
  pub table : FitsProgram i.table (arc_value i.program) i.fill
  pub state : HasState (arc_value i.program) i.control i.table i.pending.items i.reads.items (state_of (device_in i))
  pub came : AllCame (device_in i)
  pub room : HasRoom (arc_value i.program) (state_of (device_in i)) i.moves i.table.cuts_left i.table.stores_left (vec_len i.history) (vec_capacity i.history)
