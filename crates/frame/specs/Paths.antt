-- The path of a location.
use Rattle.std.specs.Prelude.{ℕ, List, [], ◌∷◌, ◌++◌, codes}
use Rattle.base.specs.Paths.{entry}
use Rattle.base.specs.declared.broken.Broken.{Broken}
use Rattle.base.specs.declared.path.Leg.{Leg}
use Rattle.base.specs.declared.path.Leg.TheVariants.{Member}
use Rattle.frame.specs.Faults.{number_of}
use Rattle.frame.specs.declared.fault.FrameFault.{FrameFault}
use Rattle.frame.specs.declared.location.Operand.{Operand}
use Rattle.frame.specs.declared.location.Operand.TheVariants.{Src, Mask, A, B, Dst}
use Rattle.frame.specs.declared.location.Location.{Location}
use Rattle.frame.specs.declared.location.Location.TheVariants as at
use Rattle.frame.specs.declared.rule.Rule.{Rule}

abbrev pub operand_name : Operand → List ℕ
operand_name Src = codes "src"
operand_name Mask = codes "mask"
operand_name A = codes "a"
operand_name B = codes "b"
operand_name Dst = codes "dst"

-- a member of operation k of pass p
abbrev pub in_op : ℕ → ℕ → List ℕ → List Leg
in_op p k name = entry (codes "passes") p ++ entry (codes "ops") k ++ Member name ∷ []

abbrev pub path_of : Location → List Leg
path_of at.Queues = Member (codes "queues") ∷ []
path_of at.Resources = Member (codes "resources") ∷ []
path_of at.Passes = Member (codes "passes") ∷ []
path_of at.Exports = Member (codes "exports") ∷ []
path_of (at.Queue i) = entry (codes "queues") i
path_of (at.Resource i) = entry (codes "resources") i
path_of (at.Import i) = entry (codes "resources") i ++ Member (codes "import") ∷ []
path_of (at.Pass p) = entry (codes "passes") p
path_of (at.PassQueue p) = entry (codes "passes") p ++ Member (codes "queue") ∷ []
path_of (at.Read p k) = entry (codes "passes") p ++ entry (codes "reads") k
path_of (at.Write p j) = entry (codes "passes") p ++ entry (codes "writes") j
path_of (at.Ops p) = entry (codes "passes") p ++ Member (codes "ops") ∷ []
path_of (at.Op p k) = in_op p k (codes "op")
path_of (at.Rects p k) = in_op p k (codes "rects")
path_of (at.Operand p k member) = in_op p k (operand_name member)
path_of (at.Export i) = entry (codes "exports") i

-- as it is printed: with the path of its location
abbrev pub fault_of : Broken Rule Location → FrameFault
fault_of b = record { number = number_of b.rule; limit = b.limit; location = path_of b.location }
