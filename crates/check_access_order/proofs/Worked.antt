-- Worked rows: what the definitions come to on written-out nodes.
use Rattle.std.proofs.Common.{◌≡◌, List, [], ◌∷◌, true, false, refl}
use Rattle.vk.specs.Stages.{copy, clear, compute_shader}
use Rattle.check_order.specs.Edges.{sync_edge}
use Rattle.check_order.specs.Nodes.{node}
use Rattle.check_order.specs.declared.kind.Kind.TheVariants.{Command, Barrier}
use Rattle.check_order.specs.declared.node.Node.{Node}
use Rattle.check_access_order.specs.Edges.{waits_for, lets_in}

-- a copy, two barriers from copies, to kernels and to clears, a kernel, and a barrier from kernels to clears
abbrev row : List Node
row =
    node Command 0 copy copy
    ∷ node Barrier 0 copy compute_shader
    ∷ node Barrier 0 copy clear
    ∷ node Command 0 compute_shader compute_shader
    ∷ node Barrier 0 compute_shader clear
    ∷ []

-- the copy leaves into both barriers, and neither is before the other
leaves_first : waits_for row copy 0 1 ≡ true
leaves_first = refl

leaves_second : waits_for row copy 0 2 ≡ true
leaves_second = refl

not_ordered : sync_edge row 1 2 ≡ false
not_ordered = refl

-- no edge goes to a command; the barriers around it meet by its stage
none_to_command : sync_edge row 1 3 ≡ false
none_to_command = refl

lets_kernel_in : lets_in row compute_shader 1 3 ≡ true
lets_kernel_in = refl

met_by_stage : sync_edge row 1 4 ≡ true
met_by_stage = refl
