-- A device as its callers see it.
use Rattle.std.specs.Prelude.{◌≡◌, ◌⊎◌, ℕ, ◌<◌, List, [], ◌∷◌, ◌++◌, length, map, slice_get, get_or, Bool, true, false, Some}
use Rattle.std.specs.Option.{option_map_or}
use Rattle.base.specs.declared.event.Event.{Event}
use Rattle.device_cache.specs.Lines.{Bytes}
use Rattle.check_program.specs.Apart.{inputs, output, host_bytes}
use Rattle.check_program.specs.Sound.{IsSound}
use Rattle.device_model.specs.Laws.{AllDone}
use Rattle.device_model.specs.Ready.{ready}
use Rattle.device_model.specs.States.{is_begun, State, opened}
use Rattle.device_model.specs.Steps.{Told, after}
use Rattle.check_order.specs.Edges.{node_at}
use Rattle.check_order.specs.Orders.{Order}
use Rattle.program.specs.declared.program.Memory.{Memory}
use Rattle.program.specs.declared.program.Memory.TheVariants.{Plain, Import}
use Rattle.program.specs.declared.program.Program.{Program}
use Rattle.check_access.specs.Views.{View, view_of}

-- the program that it runs, the byte that it was opened with, what has happened, and how many cache moves are left
pub record Device : Type 0 where
  pub program : Program
  pub fill : ℕ
  pub history : List Event
  pub moves : ℕ

-- imports, and the fill byte elsewhere
abbrev pub opening_byte : ℕ → ℕ → Memory → ℕ
opening_byte fill i (Plain size) = fill
opening_byte fill i (Import bytes) = get_or bytes i fill

abbrev pub opening : Program → ℕ → Bytes
opening program fill m i = option_map_or (opening_byte fill i) (slice_get program.memories m) fill

-- the junk of each event is the fill byte
abbrev pub told : ℕ → Event → Told
told fill event = record { event = event; junk = fill ∷ [] }

unfoldable pub state_of : Device → State
state_of d = after d.program (opened (opening d.program d.fill)) (map (told d.fill) d.history)

abbrev pub view_in : Device → View
view_in d = view_of d.program

-- nothing has happened
abbrev pub fresh : Program → ℕ → ℕ → Device
fresh program fill moves = record { program = program; fill = fill; history = []; moves = moves }

-- one more event
abbrev pub did : Device → Event → Device
did d event = record d { history = d.history ++ event ∷ [] }

-- NODES

abbrev pub is_ready : Device → ℕ → Bool
is_ready d n = ready (view_in d) (state_of d) n

-- the least ready node of a queue; host reads are of the number after the last queue
pub record IsNext (d : Device) (queue n : ℕ) : Type 0 where
  pub on : (node_at (view_in d).nodes n).queue ≡ queue
  pub may : is_ready d n ≡ true
  pub least : (k : ℕ) → k < n → (node_at (view_in d).nodes k).queue ≡ queue → is_ready d k ≡ false

abbrev pub NoneReady : Device → ℕ → Type 0
NoneReady d queue = (n : ℕ) → n < length (view_in d).nodes → (node_at (view_in d).nodes n).queue ≡ queue → is_ready d n ≡ false

abbrev pub IsComplete : Device → Type 0
IsComplete d = AllDone (view_in d) (state_of d)

abbrev pub NoneBegun : Device → Type 0
NoneBegun d = (n : ℕ) → is_begun ((state_of d).phase n) ≡ false

-- WHERE ITS PROGRAM IS SOUND

-- what commands give one after another, in each order
abbrev pub InEachOrder : Device → (List ℕ → Type 0) → Type 0
InEachOrder d P = IsSound d.program → (order : List ℕ) → Order (view_in d).nodes order → P order

-- command n loads these bytes where the commands run one after another
abbrev pub LoadsApart : Device → ℕ → List (List ℕ) → Type 0
LoadsApart d n loaded = InEachOrder d (λ order. loaded ≡ inputs d.program order n)

-- command n stores these bytes
abbrev pub StoresApart : Device → ℕ → List ℕ → Type 0
StoresApart d n bytes = InEachOrder d (λ order. output d.program order n ≡ Some bytes)

-- read-back k has these bytes at the end
abbrev pub ReadsApart : Device → ℕ → List ℕ → Type 0
ReadsApart d k bytes = InEachOrder d (λ order. host_bytes d.program order k ≡ Some bytes)

-- where no node is ready, a command is begun or all is done
abbrev pub NeverStands : Device → Type 0
NeverStands d = IsSound d.program → ((queue : ℕ) → NoneReady d queue) → IsComplete d ⊎ ((n : ℕ) × (is_begun ((state_of d).phase n) ≡ true))
