-- Why a call ended with a fault.
use Rattle.std.specs.Prelude.{ℕ, ◌≡◌}
use Rattle.base_io.specs.Counts.{Rose}
use Rattle.answer.specs.declared.status.Status.{Status}
use Rattle.answer.specs.declared.status.Status.TheVariants.{ReadFault, WriteFault}

-- the source counted a fault in this call exactly where its status is a read fault
abbrev pub ReadCause : ℕ → ℕ → Status → Type 0
ReadCause before after ReadFault = Rose before after
ReadCause before after status = after ≡ before

-- the sink counted a fault in this call exactly where its status is a write fault
abbrev pub WriteCause : ℕ → ℕ → Status → Type 0
WriteCause before after WriteFault = Rose before after
WriteCause before after status = after ≡ before
