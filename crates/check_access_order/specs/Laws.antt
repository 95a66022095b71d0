-- Laws of the order of accesses.
use Rattle.std.specs.Prelude.{◌≡◌, ◌≢◌, ℕ, ◌<◌, ◌^◌, true, List}
use Rattle.vk.specs.Sets.{meets}
use Rattle.check_order.specs.Edges.{node_at}
use Rattle.check_order.specs.Orders.{Earlier, Order}
use Rattle.program.specs.declared.program.Program.{Program}
use Rattle.check_access.specs.ValidView.{Has}
use Rattle.check_access.specs.Views.{View, view_of}
use Rattle.check_access.specs.declared.access.Access.{Access}
use Rattle.check_access_order.specs.Edges.{waits_for}
use Rattle.check_access_order.specs.Order.{UpTo, InOrder}
use Rattle.check_access_order.specs.Single.{Single}

-- order goes on through one access
abbrev pub GoesThrough : View → Type 0
GoesThrough V = (n k m : ℕ) (a c b : Access) → InOrder V n a k c → InOrder V k c m b → InOrder V n a m b

-- of what waits for a stage, one for which the stage waits too is before all that come after it
abbrev pub CutsOff : View → Type 0
CutsOff V = (bit n x z : ℕ) → waits_for V.nodes (2 ^ bit) n x ≡ true → meets (node_at V.nodes x).dst_stages.0 (2 ^ bit) ≡ true → waits_for V.nodes (2 ^ bit) n z ≡ true → x < z → UpTo V x z

-- where one access is before another, its node stands earlier in every order of the nodes
abbrev pub StandsEarlier : View → Type 0
StandsEarlier V = (order : List ℕ) → Order V.nodes order → (n m : ℕ) (a b : Access) → Has V m b → n ≢ m → InOrder V n a m b → Earlier order n m

-- commands of programs have one stage
abbrev pub HasSingles : Type 0
HasSingles = (program : Program) → Single (view_of program)
