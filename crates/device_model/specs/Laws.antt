-- What holds of a device's state after any events.
use Rattle.std.specs.Prelude.{◌≡◌, ◌⊎◌, ℕ, ◌<◌, List, length, slice_get, slice_index, true, false, Some, None}
use Rattle.device_cache.specs.Lines.{Bytes}
use Rattle.check_program.specs.Apart.{inputs, output, host_bytes}
use Rattle.check_program.specs.Sound.{IsSound}
use Rattle.device_model.specs.Ready.{read_node, ready}
use Rattle.device_model.specs.States.{is_begun, is_done, State, opened}
use Rattle.device_model.specs.Steps.{made, Told, after}
use Rattle.check_order.specs.Orders.{Order}
use Rattle.program.specs.FirstFault.{first_fault}
use Rattle.program.specs.declared.program.Memory.TheVariants.{Import}
use Rattle.program.specs.declared.program.Program.{Program}
use Rattle.check_access.specs.Views.{View, view_of}

-- main has the bytes of each import; what else it has is free
abbrev pub HoldsImports : Program → Bytes → Type 0
HoldsImports program main = (k : ℕ) (bytes : List ℕ) → slice_get program.memories k ≡ Some (Import bytes) → (i : ℕ) → i < length bytes → main k i ≡ slice_index bytes i

-- what commands load and store, and what the host reads, is what they would where all commands run one after another
pub record Simulated (program : Program) (order : List ℕ) (s : State) : Type 0 where
  pub loaded : (n : ℕ) → is_begun (s.phase n) ≡ true → s.loaded n ≡ inputs program order n
  pub unmarked : (n : ℕ) → s.marked n ≡ false
  pub made : (n : ℕ) (junk : List ℕ) → is_begun (s.phase n) ≡ true → output program order n ≡ Some (made program s n junk)
  pub hosts : (k : ℕ) → k < length program.readbacks → is_done (s.phase (read_node program k)) ≡ true → host_bytes program order k ≡ Some (s.host (read_node program k))

-- of a sound program, in every order, after any events with any junk
abbrev pub Simulates : Type 0
Simulates =
    (program : Program) → first_fault program ≡ None → IsSound program
    → (order : List ℕ) → Order (view_of program).nodes order
    → (main : Bytes) → HoldsImports program main
    → (told : List Told) → Simulated program order (after program (opened main) told)

abbrev pub AllDone : View → State → Type 0
AllDone V s = (n : ℕ) → n < length V.nodes → is_done (s.phase n) ≡ true

-- a node is ready, or a command is begun
abbrev pub GoesOn : View → State → Type 0
GoesOn V s = (n : ℕ) × ((ready V s n ≡ true) ⊎ (is_begun (s.phase n) ≡ true))

-- a sound program never stands still
abbrev pub Progresses : Type 0
Progresses =
    (program : Program) → first_fault program ≡ None → IsSound program
    → (main : Bytes) → HoldsImports program main
    → (told : List Told) → AllDone (view_of program) (after program (opened main) told) ⊎ GoesOn (view_of program) (after program (opened main) told)
