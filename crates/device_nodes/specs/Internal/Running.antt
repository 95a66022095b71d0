-- Begun commands.
use Rattle.std.specs.Prelude.{◌≡◌, ℕ, ◌<◌, ◌≤◌, ◌==◌, List, length, get_or, Bool}
use Rattle.device_nodes.specs.Internal.Blocked.{some_below}
use Rattle.device_nodes.specs.declared.running.Running.{Running}
use Rattle.device_model.specs.States.{is_begun}
use Rattle.device_model.specs.declared.phase.Phase.{Phase}

-- x is one of the first `count` numbers
abbrev pub is_among : List ℕ → ℕ → ℕ → Bool
is_among numbers count x = some_below (λ i. get_or numbers i 0 == x) count

-- one of the listed numbers passes
abbrev pub any_of : Running → (ℕ → Bool) → Bool
any_of running test = some_below (λ i. test (get_or running.nodes i 0)) running.count

-- the list has room for all nodes, and each that is listed is one
pub record IsOfNodes (nodes : ℕ) (running : Running) : Type 0 where
  pub room : length running.nodes ≡ nodes
  pub fits : running.count ≤ nodes
  pub below : (i : ℕ) → i < running.count → get_or running.nodes i 0 < nodes

-- each node that is begun is listed once
pub record Runs (nodes : ℕ) (phase : ℕ → Phase) (running : Running) : Type 0 where
  pub of_nodes : IsOfNodes nodes running
  pub each : (x : ℕ) → is_begun (phase x) ≡ is_among running.nodes running.count x
  pub once : (i k : ℕ) → i < running.count → k < running.count → get_or running.nodes i 0 ≡ get_or running.nodes k 0 → i ≡ k
