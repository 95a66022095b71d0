-- What waits have to do with what the host reads: nothing, as long as the program is sound.
use Rattle.std.specs.Prelude.{◌≡◌, ℕ, List, not, Bool, true, false}
use Rattle.std.specs.List.{filter}
use Rattle.check_program.specs.Apart.{host_bytes}
use Rattle.check_order.specs.Orders.{Order}
use Rattle.program.specs.Entries.{Entry, OfWait, OfItem, OfSignal, OfHost, entries_of}
use Rattle.program.specs.declared.program.Program.{Program}
use Rattle.check_access.specs.Views.{view_of}

abbrev pub is_wait_entry : Entry → Bool
is_wait_entry (OfWait q wait) = true
is_wait_entry (OfItem q item) = false
is_wait_entry (OfSignal q signal) = false
is_wait_entry (OfHost piece) = false

-- the nodes that are no waits, in the order of their numbers: commands, barriers, transfers, signals and host reads
abbrev pub entries_but_waits : Program → List Entry
entries_but_waits program = filter (λ entry. not (is_wait_entry entry)) (entries_of program)

-- each read-back has the same bytes in an order of the one program and in one of the other
abbrev pub ReadsSame : Program → List ℕ → Program → List ℕ → Type 0
ReadsSame given one program other = (k : ℕ) → host_bytes program other k ≡ host_bytes given one k

-- the program can run in some order in which it does what the given one does in this order
abbrev pub CanFollow : Program → Program → List ℕ → Type 0
CanFollow given program one = (other : List ℕ) × Order (view_of program).nodes other × ReadsSame given one program other

-- in every order of the one program and every order of the other
abbrev pub ReadsAlike : Program → Program → Type 0
ReadsAlike given program = (one other : List ℕ) → Order (view_of given).nodes one → Order (view_of program).nodes other → ReadsSame given one program other
