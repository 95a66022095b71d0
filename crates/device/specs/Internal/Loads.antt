-- What an operation runs on, and what a device holds of begun commands and host reads.
use Rattle.std.specs.Prelude.{◌≡◌, ℕ, ◌<◌, ◌≤◌, List, [], length, replicate, get_or, slice_get, true, false, Option, Some, None}
use Rattle.std.specs.List.{All}
use Rattle.base.specs.Applied.{applied}
use Rattle.base.specs.Fits.{fits}
use Rattle.base.specs.Operands.{operands_of, sources_of, destination_of, mapped}
use Rattle.base.specs.Shapes.{bytes_of, shape_at}
use Rattle.base.specs.declared.op.Op.{Op}
use Rattle.base.specs.declared.shape.Shape.{Shape}
use Rattle.check_program.specs.Apart.{inputs, op_at}
use Rattle.check_program.specs.Sound.{IsSound}
use Rattle.device.specs.declared.pending.Pending.{Pending}
use Rattle.device.specs.declared.work.Work.{Work}
use Rattle.check_order.specs.Orders.{Order}
use Rattle.device_model.specs.Outputs.{stored_by}
use Rattle.device_model.specs.Ready.{is_command, kind_at, read_node}
use Rattle.device_model.specs.States.{is_begun, is_done, State}
use Rattle.device_model.specs.Steps.{store_of}
use Rattle.program.specs.Rules.{shapes_of}
use Rattle.program.specs.declared.program.Program.{Program}
use Rattle.check_access.specs.Views.{View, view_of, piece_at}

-- the operation fits the shapes, and has been given the bytes of its sources and then, or not, the old ones of its destination
pub record IsRunnable (shapes : List Shape) (op : Op ℕ) (loaded : List (List ℕ)) : Type 0 where
  pub operands : All (λ p. p < length shapes) (operands_of op)
  pub fitting : fits (mapped (shape_at shapes) op) ≡ true
  pub sources : length (sources_of op) ≤ length loaded
  pub few : length loaded ≤ length (operands_of op)
  pub sized : (k : ℕ) → k < length loaded → length (get_or loaded k []) ≡ bytes_of (shape_at shapes (get_or (operands_of op) k 0))

-- the operation that is run for a command: another one in the place of its own, if there is one
abbrev pub op_or : Op ℕ → Option (Op ℕ) → Op ℕ
op_or own None = own
op_or own (Some other) = other

abbrev pub op_in : Op ℕ → Work → Op ℕ
op_in own work = op_or own work.other

-- it runs on the bytes that it is given, and stores in the same destination what the command's own does with what was loaded
pub record IsWork (shapes : List Shape) (op : Op ℕ) (loaded : List (List ℕ)) (work : Work) : Type 0 where
  pub runnable : IsRunnable shapes (op_in op work) work.bytes
  pub same : stored_by shapes (op_in op work) work.bytes ≡ stored_by shapes op loaded
  pub destination : destination_of (op_in op work) ≡ destination_of op

-- these bytes in the place of the destination's old ones lead to the same
abbrev pub LeadsOn : List Shape → Op ℕ → List ℕ → List ℕ → Type 0
LeadsOn shapes op old other = (sources : List (List ℕ)) → applied shapes op sources old ≡ applied shapes op sources other

-- where the program is sound, command n loads these bytes where all commands run one after another
abbrev pub LoadsIn : Program → ℕ → List (List ℕ) → Type 0
LoadsIn program n loaded = IsSound program → (order : List ℕ) → Order (view_of program).nodes order → loaded ≡ inputs program order n

-- BEGUN COMMANDS

-- how many bytes a command stores
abbrev pub store_size : View → ℕ → ℕ
store_size V n = bytes_of (piece_at V (store_of V n).piece).shape

-- a begun command, with what the state says that it loaded, and zeros in the room of what it stores
pub record IsPending (program : Program) (s : State) (n : ℕ) (pending : Pending) : Type 0 where
  pub begun : is_begun (s.phase n) ≡ true
  pub command : is_command (kind_at (view_of program) n) ≡ true
  pub loaded : pending.loaded ≡ s.loaded n
  pub room : pending.room ≡ replicate (store_size (view_of program) n) 0
  pub work : (op : Op ℕ) → op_at program n ≡ Some op → IsWork (shapes_of program) op pending.loaded pending.work

abbrev pub HasPending : Program → State → ℕ → Option Pending → Type 0
HasPending program s n None = is_begun (s.phase n) ≡ false
HasPending program s n (Some pending) = IsPending program s n pending

abbrev pub pending_at : List (Option Pending) → ℕ → Option Pending
pending_at list n = get_or list n None

abbrev pub HasPendingAll : Program → List (Option Pending) → State → Type 0
HasPendingAll program list s = (n : ℕ) → HasPending program s n (pending_at list n)

-- HOST READS

-- read-back k has room for its piece, and where it is done the bytes that were read
pub record HasRead (program : Program) (list : List (List ℕ)) (s : State) (k p : ℕ) : Type 0 where
  pub room : length (get_or list k []) ≡ bytes_of (piece_at (view_of program) p).shape
  pub bytes : is_done (s.phase (read_node program k)) ≡ true → get_or list k [] ≡ s.host (read_node program k)

pub record HasReadAll (program : Program) (list : List (List ℕ)) (s : State) : Type 0 where
  pub count : length list ≡ length program.readbacks
  pub each : (k p : ℕ) → slice_get program.readbacks k ≡ Some p → HasRead program list s k p
