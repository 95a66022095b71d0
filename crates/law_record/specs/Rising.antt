-- The values of a queue's waits for one other queue rise, and the waits at one place are for rising queues.
use Rattle.std.specs.Prelude.{◌≡◌, ◌≢◌, ℕ, suc, ◌<◌, slice_get, Some}
use Rattle.compile_record.specs.declared.compiled.Compiled.{Compiled}
use Rattle.frame.specs.Numbered.{NumberedFrame}
use Rattle.program.specs.Entries.{OfWait, entries_of}
use Rattle.program.specs.declared.program.Program.{Program}
use Rattle.program.specs.declared.program.WaitFor.{WaitFor}

-- node n is a wait of queue q
abbrev pub IsWait : Program → ℕ → ℕ → WaitFor → Type 0
IsWait program n q wait = slice_get (entries_of program) n ≡ Some (OfWait q wait)

pub record WaitsRise (program : Program) : Type 0 where
  pub other : (n q : ℕ) (wait : WaitFor) → IsWait program n q wait → wait.queue ≢ q
  pub values : (m n q : ℕ) (one two : WaitFor) → IsWait program m q one → IsWait program n q two → one.queue ≡ two.queue → m < n → one.value < two.value
  pub queues : (n q : ℕ) (one two : WaitFor) → IsWait program n q one → IsWait program (suc n) q two → one.queue < two.queue

abbrev pub AreRising : NumberedFrame → Compiled Program → Type 0
AreRising frame made = WaitsRise made.program
