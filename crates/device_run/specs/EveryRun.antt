-- What the host reads of a program whatever the interleaving.
use Rattle.std.specs.Prelude.{◌≡◌, ◌<◌, ℕ, List, length, take, slice_get, true, Some}
use Rattle.check_access.specs.Views.{view_of}
use Rattle.device_cache.specs.Lines.{Bytes}
use Rattle.device_model.specs.Coming.{is_enabled}
use Rattle.device_model.specs.Laws.{HoldsImports, AllDone}
use Rattle.device_model.specs.Ready.{read_node}
use Rattle.device_model.specs.States.{opened}
use Rattle.device_model.specs.Steps.{Told, after}
use Rattle.program.specs.declared.program.Program.{Program}

-- Memory holds the imports and, elsewhere, any bytes. Each told event can come in the state that those before it leave, with any
-- junk, and at the end all nodes are done.
pub record IsRun (program : Program) (main : Bytes) (told : List Told) : Type 0 where
  pub holds : HoldsImports program main
  pub enabled : (k : ℕ) (t : Told) → slice_get told k ≡ Some t → is_enabled program (after program (opened main) (take k told)) t.event ≡ true
  pub complete : AllDone (view_of program) (after program (opened main) told)

-- in each run the host reads these bytes, read-back by read-back
abbrev pub InEveryRun : Program → (ℕ → List ℕ) → Type 0
InEveryRun program bytes =
    (main : Bytes) (told : List Told) → IsRun program main told
    → (k : ℕ) → k < length program.readbacks → (after program (opened main) told).host (read_node program k) ≡ bytes k
