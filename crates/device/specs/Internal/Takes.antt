-- What a Begin takes memory for.
use Rattle.std.specs.Prelude.{◌≡◌, ℕ, List, [], ◌∷◌, map, replicate, Some}
use Rattle.check_program.specs.Apart.{op_at}
use Rattle.base.specs.declared.op.Op.{Op}
use Rattle.device.specs.Internal.Loads.{store_size, IsWork}
use Rattle.device.specs.declared.pending.Pending.{Pending}
use Rattle.device.specs.declared.job.Command.{Command}
use Rattle.device.specs.declared.work.Work.{Work}
use Rattle.device_model.specs.Devices.{Device, state_of, view_in}
use Rattle.device_model.specs.Steps.{loaded_by}
use Rattle.program.specs.Rules.{shapes_of}
use Rattle.program.specs.declared.program.Program.{Program}
use Rattle.check_access.specs.Views.{loads_of}

-- what the command loads, load by load
abbrev pub loads_in : Device → ℕ → List (List ℕ)
loads_in d n = map (loaded_by (view_in d) (state_of d) n (d.fill ∷ [])) (loads_of (view_in d) n)

-- that, and what is computed of it
pub record AreInputs (d : Device) (n : ℕ) (bytes : List (List ℕ)) (what : Work) : Type 0 where
  pub loaded : bytes ≡ loads_in d n
  pub work : (op : Op ℕ) → op_at d.program n ≡ Some op → IsWork (shapes_of d.program) op bytes what

-- with zeros in the room of what it stores
pub record IsReserved (d : Device) (n : ℕ) (pending : Pending) : Type 0 where
  pub inputs : AreInputs d n pending.loaded pending.work
  pub room : pending.room ≡ replicate (store_size (view_in d) n) 0

-- the command of a node, with these bytes
pub record IsCommand (program : Program) (n : ℕ) (bytes : List (List ℕ)) (command : Command) : Type 0 where
  pub node : command.node ≡ n
  pub op : op_at program n ≡ Some command.op
  pub shapes : command.shapes ≡ shapes_of program
  pub loaded : command.loaded ≡ bytes
