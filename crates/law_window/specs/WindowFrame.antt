-- A window as a declared frame.
use Rattle.std.specs.Prelude.{ℕ, suc, List, [], ◌∷◌, ◌++◌, map}
use Rattle.frame.specs.declared.frame.Frame.{Frame}
use Rattle.frame.specs.declared.frame.Pass.{Pass}
use Rattle.frame.specs.declared.frame.QueueDecl.{QueueDecl}
use Rattle.frame.specs.declared.frame.Resource.{Resource}
use Rattle.law_window.specs.Declared.{Declared}
use Rattle.law_window.specs.Exports.{declared_exports, named_others}
use Rattle.law_window.specs.NamedJoins.{named_carries, named_joins}
use Rattle.law_window.specs.Names.{rename_in}
use Rattle.law_window.specs.Passes.{renamed_passes}
use Rattle.law_window.specs.Resources.{renamed_resources, set_imports}
use Rattle.law_window.specs.NamedSources.{NamedSource, kept, last_named, left_names, named_after, named_import}

-- FRAME i OF A WINDOW

-- only those are imports under persisting names whose bytes are persisted from before the window
abbrev pub resources_in : ℕ → List NamedSource → Declared → List Resource
resources_in i sources d = renamed_resources i 0 (set_imports d.holders (map named_import sources) d.frame.resources)

-- its join pass, on this queue, stands before its own passes
abbrev pub named_passes_in : List ℕ → ℕ → List NamedSource → Declared → List Pass
named_passes_in queue i sources d = named_joins i queue (named_carries i d.frame.resources d.holders sources) ++ renamed_passes i 0 (rename_in i d.frame) d.frame.passes

-- ALL FRAMES FROM FRAME i ON

abbrev pub declared_resources : ℕ → List NamedSource → List Declared → List Resource
declared_resources i sources [] = []
declared_resources i sources (d ∷ ds) = resources_in i sources d ++ declared_resources (suc i) (named_after i d.holders sources) ds

abbrev pub declared_passes : List ℕ → ℕ → List NamedSource → List Declared → List Pass
declared_passes queue i sources [] = []
declared_passes queue i sources (d ∷ ds) = named_passes_in queue i sources d ++ declared_passes queue (suc i) (named_after i d.holders sources) ds

abbrev pub first_name : List QueueDecl → List ℕ
first_name [] = []
first_name (queue ∷ queues) = queue.name

-- the window of frames over these queues, of which the first begins with the persisted bytes. After the exports of its frames
-- it exports the last resource of each persisting name
abbrev pub window_frame : List QueueDecl → List Declared → List (List ℕ) → Frame
window_frame queues ds persisted =
    let own = declared_exports 0 ds in
    record {
      queues = queues;
      resources = declared_resources 0 (kept persisted) ds;
      passes = declared_passes (first_name queues) 0 (kept persisted) ds;
      exports = own ++ named_others own (left_names (last_named 0 (kept persisted) ds));
    }
