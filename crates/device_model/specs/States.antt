-- What a device holds.
use Rattle.std.specs.Prelude.{ℕ, List, [], ◌==◌, ◌%◌, if◌then◌else◌, map, length, slice_index, Bool, true, false}
use Rattle.std.specs.List.{range_with_len}
use Rattle.vk.specs.declared.layout.Layout.{Layout}
use Rattle.vk.specs.declared.layout.Layout.TheVariants as layouts
use Rattle.device_cache.specs.Lines.{Lines, Bytes, Absent}
use Rattle.device_model.specs.declared.owner.Owner.{Owner}
use Rattle.device_model.specs.declared.owner.Owner.TheVariants.{Unused}
use Rattle.device_model.specs.declared.phase.Phase.{Phase}
use Rattle.device_model.specs.declared.phase.Phase.TheVariants.{Idle, Begun, Done}

abbrev pub is_idle : Phase → Bool
is_idle Idle = true
is_idle Begun = false
is_idle Done = false

abbrev pub is_begun : Phase → Bool
is_begun Idle = false
is_begun Begun = true
is_begun Done = false

abbrev pub is_done : Phase → Bool
is_done Idle = false
is_done Begun = false
is_done Done = true

pub record State : Type 0 where
  pub main : Bytes
  -- by the number of the agent
  pub line : Lines
  -- of a node: how far it is, the bytes that a command loaded, whether it overlapped in time with what it clashes with, and
  -- what a host read read
  pub phase : ℕ → Phase
  pub loaded : ℕ → List (List ℕ)
  pub marked : ℕ → Bool
  pub host : ℕ → List ℕ
  -- of a piece
  pub layout : ℕ → Layout
  pub owner : ℕ → Owner
  -- of a queue's timeline
  pub counter : ℕ → ℕ

-- before the first event
abbrev pub opened : Bytes → State
opened main = record {
  main = main;
  line = λ g m i. Absent;
  phase = λ n. Idle;
  loaded = λ n. [];
  marked = λ n. false;
  host = λ n. [];
  layout = λ p. layouts.Undefined;
  owner = λ p. Unused;
  counter = λ q. 0;
}

-- at one argument another value
abbrev pub put : {X : Type 0} → (ℕ → X) → ℕ → X → ℕ → X
put f n v x = if x == n then v else f x

-- JUNK

-- again and again from its start
abbrev pub junk_at : List ℕ → ℕ → ℕ
junk_at junk k = slice_index junk (k % length junk)

abbrev pub junk_bytes : List ℕ → ℕ → List ℕ
junk_bytes junk size = map (junk_at junk) (range_with_len 0 size)
