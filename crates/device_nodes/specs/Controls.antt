-- What a running device knows of its nodes, pieces and timelines.
use Rattle.std.specs.Prelude.{◌≡◌, ℕ, ◌<◌, List, length, get_or, Bool, true, false}
use Rattle.vk.specs.declared.layout.Layout.{Layout}
use Rattle.vk.specs.declared.layout.Layout.TheVariants.{Undefined}
use Rattle.device_model.specs.Ready.{may_go}
use Rattle.device_model.specs.States.{State}
use Rattle.device_model.specs.declared.owner.Owner.{Owner}
use Rattle.device_model.specs.declared.owner.Owner.TheVariants.{Unused}
use Rattle.device_model.specs.declared.phase.Phase.{Phase}
use Rattle.device_model.specs.declared.phase.Phase.TheVariants.{Idle}
use Rattle.check_access.specs.Views.{View, queue_at}

pub record Control : Type 0 where
  pub view : View
  -- of each node
  pub phases : List Phase
  pub marked : List Bool
  -- of each piece
  pub layouts : List Layout
  pub owners : List Owner
  -- of each queue
  pub counters : List ℕ

abbrev pub phase_of : Control → ℕ → Phase
phase_of c n = get_or c.phases n Idle

abbrev pub mark_of : Control → ℕ → Bool
mark_of c n = get_or c.marked n false

abbrev pub layout_of : Control → ℕ → Layout
layout_of c p = get_or c.layouts p Undefined

abbrev pub owner_of : Control → ℕ → Owner
owner_of c p = get_or c.owners p Unused

abbrev pub counter_of : Control → ℕ → ℕ
counter_of c q = get_or c.counters q 0

-- all that it knows is so in the state, at each number
pub record Agrees (c : Control) (s : State) : Type 0 where
  pub phase : (n : ℕ) → phase_of c n ≡ s.phase n
  pub mark : (n : ℕ) → mark_of c n ≡ s.marked n
  pub layout : (p : ℕ) → layout_of c p ≡ s.layout p
  pub owner : (p : ℕ) → owner_of c p ≡ s.owner p
  pub counter : (q : ℕ) → counter_of c q ≡ s.counter q

-- READY NODES

abbrev pub is_ready : Control → ℕ → Bool
is_ready c n = may_go c.view (phase_of c) (counter_of c) n

-- the least ready node of a queue; host reads are of the number after the last queue
pub record IsNext (c : Control) (queue n : ℕ) : Type 0 where
  pub on : queue_at c.view n ≡ queue
  pub may : is_ready c n ≡ true
  pub least : (k : ℕ) → k < n → queue_at c.view k ≡ queue → is_ready c k ≡ false

abbrev pub NoneReady : Control → ℕ → Type 0
NoneReady c queue = (n : ℕ) → n < length c.view.nodes → queue_at c.view n ≡ queue → is_ready c n ≡ false
