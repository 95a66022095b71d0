-- The signals of each queue count 1, 2, 3, and stand after nodes that are waited for, or last.
use Rattle.std.specs.Prelude.{◌≡◌, ◌⊎◌, ℕ, suc, ◌≤◌, ◌==◌, List, [], ◌∷◌, length, slice_get, Some, if◌then◌else◌}
use Rattle.std.specs.List.{flat_map, range_with_len}
use Rattle.vk.specs.Stages.{all_commands}
use Rattle.compile_record.specs.declared.compiled.Compiled.{Compiled}
use Rattle.frame.specs.Numbered.{NumberedFrame}
use Rattle.program.specs.Entries.{Entry, OfWait, OfItem, OfSignal, OfHost, entries_of, queue_of}
use Rattle.program.specs.declared.program.Item.{Item}
use Rattle.program.specs.declared.program.Program.{Program}
use Rattle.program.specs.declared.program.Signal.{Signal}
use Rattle.program.specs.declared.program.WaitFor.{WaitFor}

-- the values of the signals of queue q, one after another
abbrev pub value_of : ℕ → Entry → List ℕ
value_of q (OfSignal p signal) = if p == q then signal.value ∷ [] else []
value_of q (OfWait p wait) = []
value_of q (OfItem p item) = []
value_of q (OfHost piece) = []

abbrev pub values_on : Program → ℕ → List ℕ
values_on program q = flat_map (value_of q) (entries_of program)

-- a wait is for this value of queue q
pub record IsWaitedFor (program : Program) (q value : ℕ) : Type 0 where
  pub place : ℕ
  pub queue : ℕ
  pub wait : WaitFor
  pub there : slice_get (entries_of program) place ≡ Some (OfWait queue wait)
  pub for : wait.queue ≡ q
  pub is : wait.value ≡ value

-- no node of queue q is after node n
abbrev pub IsLast : Program → ℕ → ℕ → Type 0
IsLast program q n = (m : ℕ) (entry : Entry) → slice_get (entries_of program) m ≡ Some entry → queue_of entry ≡ Some q → m ≤ n

-- node n, a signal of queue q, stands right after an item, and is waited for or last
pub record IsDue (program : Program) (n q : ℕ) (signal : Signal) : Type 0 where
  pub before : ℕ
  pub right : suc before ≡ n
  pub item : Item
  pub there : slice_get (entries_of program) before ≡ Some (OfItem q item)
  pub due : IsWaitedFor program q signal.value ⊎ IsLast program q n
  pub stages : signal.stages.0 ≡ all_commands

-- the last node of queue q is a signal
pub record EndsWithSignal (program : Program) (q : ℕ) : Type 0 where
  pub place : ℕ
  pub signal : Signal
  pub there : slice_get (entries_of program) place ≡ Some (OfSignal q signal)
  pub last : IsLast program q place

pub record SignalsCount (program : Program) : Type 0 where
  pub counted : (q : ℕ) → values_on program q ≡ range_with_len 1 (length (values_on program q))
  pub due : (n q : ℕ) (signal : Signal) → slice_get (entries_of program) n ≡ Some (OfSignal q signal) → IsDue program n q signal
  pub ends : (n q : ℕ) (entry : Entry) → slice_get (entries_of program) n ≡ Some entry → queue_of entry ≡ Some q → EndsWithSignal program q

abbrev pub AreSignalled : NumberedFrame → Compiled Program → Type 0
AreSignalled frame made = SignalsCount made.program
