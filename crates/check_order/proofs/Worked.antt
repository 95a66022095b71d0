-- Worked rows: what the definitions come to on written-out nodes.
use Rattle.std.proofs.Common.{◌≡◌, List, [], ◌∷◌, true, false, Some, None, refl}
use Rattle.vk.specs.Stages.{copy, compute_shader, host}
use Rattle.check_order.specs.Edges.{edge, next_signal, meeting}
use Rattle.check_order.specs.Nodes.{node, host_node}
use Rattle.check_order.specs.Orders.{NotAbove, before_in}
use Rattle.check_order.specs.declared.kind.Kind.TheVariants.{Command, Barrier, Wait, Signal}
use Rattle.check_order.specs.declared.node.Node.{Node}
use Rattle.std.proofs.Common.{inl, inr, arith}

-- queue 0: a copy, a barrier from copies to kernels, a copy, a kernel, signals of 3 and 5; queue 1: a wait for 4 that
-- holds back kernels, a kernel; then a host read
abbrev row : List Node
row =
    node Command 0 copy copy
    ∷ node Barrier 0 copy compute_shader
    ∷ node Command 0 copy copy
    ∷ node Command 0 compute_shader compute_shader
    ∷ node (Signal 3) 0 compute_shader 0
    ∷ node (Signal 5) 0 host 0
    ∷ node (Wait 0 4) 1 0 compute_shader
    ∷ node Command 1 compute_shader compute_shader
    ∷ host_node 2
    ∷ []

command_to_barrier : edge row 0 1 ≡ true
command_to_barrier = refl

barrier_to_command : edge row 1 3 ≡ true
barrier_to_command = refl

-- the copy is none of the barrier's destination stages
other_stage : edge row 1 2 ≡ false
other_stage = refl

-- two commands
no_barrier_between : edge row 0 2 ≡ false
no_barrier_between = refl

never_backward : edge row 1 0 ≡ false
never_backward = refl

command_to_signal : edge row 3 4 ≡ true
command_to_signal = refl

signal_to_next : edge row 4 5 ≡ true
signal_to_next = refl

-- 5 is the first value of at least 4
signal_to_wait : edge row 5 6 ≡ true
signal_to_wait = refl

too_low_a_value : edge row 4 6 ≡ false
too_low_a_value = refl

wait_to_command : edge row 6 7 ≡ true
wait_to_command = refl

-- the stages would meet, but the queues differ
other_queue : edge row 1 7 ≡ false
other_queue = refl

last_signal_to_host : edge row 5 8 ≡ true
last_signal_to_host = refl

first_signal_to_host : edge row 4 8 ≡ false
first_signal_to_host = refl

-- a value that no signal reaches
never_met : meeting row (Wait 0 6) ≡ None
never_met = refl

next_of_first : next_signal row 4 ≡ Some 5
next_of_first = refl

before_six : before_in (0 ∷ 6 ∷ 2 ∷ []) 2 ≡ 0 ∷ 6 ∷ []
before_six = refl

lower_in_second_place : NotAbove (0 ∷ 1 ∷ 6 ∷ []) (0 ∷ 6 ∷ 1 ∷ [])
lower_in_second_place = inr (refl, inl (omega arith))
