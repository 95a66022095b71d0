-- The path of a location.
use Rattle.std.specs.Prelude.{ℕ, List, [], ◌∷◌, ◌++◌, codes}
use Rattle.base.specs.Paths.{entry}
use Rattle.base.specs.declared.broken.Broken.{Broken}
use Rattle.base.specs.declared.path.Leg.{Leg}
use Rattle.base.specs.declared.path.Leg.TheVariants.{Member}
use Rattle.program.specs.Faults.{number_of}
use Rattle.program.specs.declared.fault.ProgramFault.{ProgramFault}
use Rattle.program.specs.declared.location.Location.{Location}
use Rattle.program.specs.declared.location.Location.TheVariants as at
use Rattle.program.specs.declared.rule.Rule.{Rule}

abbrev pub in_batch : ℕ → ℕ → List Leg
in_batch q b = entry (codes "queues") q ++ entry (codes "batches") b

abbrev pub path_of : Location → List Leg
path_of at.Whole = []
path_of at.Queues = Member (codes "queues") ∷ []
path_of at.Memories = Member (codes "memories") ∷ []
path_of at.Pieces = Member (codes "pieces") ∷ []
path_of at.Readbacks = Member (codes "readbacks") ∷ []
path_of (at.Memory i) = entry (codes "memories") i
path_of (at.Piece i) = entry (codes "pieces") i
path_of (at.Wait q b k) = in_batch q b ++ entry (codes "waits") k
path_of (at.Item q b k) = in_batch q b ++ entry (codes "items") k
path_of (at.Signal q b) = in_batch q b ++ Member (codes "signal") ∷ []
path_of (at.Readback k) = entry (codes "readbacks") k

-- as it is printed: with the path of its location
abbrev pub fault_of : Broken Rule Location → ProgramFault
fault_of b = record { number = number_of b.rule; limit = b.limit; location = path_of b.location }
