-- Programs of today's files: scopes change nothing.
use Rattle.std.specs.Prelude.{◌≡◌, ◌↔◌, ℕ, List, None}
use Rattle.law_alike.specs.Alike.{Alike}
use Rattle.check_sync.specs.Synchronized.{Synchronized, FirstFlaw}
use Rattle.program.specs.FirstFault.{first_fault}
use Rattle.program.specs.declared.program.Program.{Program}
use Rattle.law_nodes.specs.Synchronized as by_nodes
use Rattle.check_sync.specs.declared.sync_hazard.Flaw.{Flaw}
use Rattle.check_access.specs.ValidView.{Listed}
use Rattle.check_access.specs.Views.{view_of}
use Rattle.check_access.specs.declared.node_access.NodeAccess.{NodeAccess}
use Rattle.law_narrow.specs.Scoped.{scoped_view}

abbrev pub ScopesChangeNothing : Type 0
ScopesChangeNothing = (program : Program) → first_fault program ≡ None → Alike (view_of program) (scoped_view program)

-- accesses are synchronized by their order, over scopes, just where they are by that of nodes, over stages
abbrev pub SynchronizedAsBefore : Type 0
SynchronizedAsBefore = (program : Program) → first_fault program ≡ None → Synchronized (scoped_view program) ↔ by_nodes.Synchronized (view_of program)

-- and the first flaw is the same
abbrev pub FirstAsBefore : Type 0
FirstAsBefore =
    (program : Program) → first_fault program ≡ None
    → (accesses : List NodeAccess) → Listed (view_of program) accesses
    → (i j : ℕ) (a b : NodeAccess) (flaw : Flaw) → FirstFlaw (scoped_view program) accesses i j a b flaw ↔ by_nodes.FirstFlaw (view_of program) accesses i j a b flaw
