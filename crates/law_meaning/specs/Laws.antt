-- What holds of frames, of sound programs, and of what frames are compiled to.
use Rattle.std.specs.Prelude.{◌≡◌, ℕ, ◌<◌, List, length, slice_get, Bool, Some}
use Rattle.std.specs.List.{All}
use Rattle.base.specs.Applied.{bytes_at}
use Rattle.base.specs.Shapes.{bytes_of, shape_at}
use Rattle.check_program.specs.Apart.{host_bytes}
use Rattle.law_meaning.specs.Kept.{kept_bytes}
use Rattle.frame.specs.Valid.{shapes_in}
use Rattle.frame.specs.Numbered.{NumberedFrame}
use Rattle.check_order.specs.Orders.{Order}
use Rattle.frame_meaning.specs.Meaning.{all_bytes, meaning}
use Rattle.program.specs.declared.program.Program.{Program}
use Rattle.check_access.specs.Views.{view_of}

-- the host reads the same bytes in any two orders
abbrev pub OrdersAgree : Program → Type 0
OrdersAgree program = (one other : List ℕ) → Order (view_of program).nodes one → Order (view_of program).nodes other → (k : ℕ) → host_bytes program one k ≡ host_bytes program other k

-- each exported unit has after the kept passes what it has after all passes
abbrev pub KeptSuffice : NumberedFrame → List Bool → Type 0
KeptSuffice frame kept = All (λ unit. meaning frame unit ≡ Some (bytes_at (kept_bytes frame kept) unit)) frame.exports

-- where the nodes run in this order, read-back k has the bytes of the unit that is exported as number k
abbrev pub ReadsMeaning : NumberedFrame → Program → List ℕ → Type 0
ReadsMeaning frame program order = (k unit : ℕ) → slice_get frame.exports k ≡ Some unit → host_bytes program order k ≡ meaning frame unit

-- so it is in every order
abbrev pub IsReadMeant : NumberedFrame → Program → Type 0
IsReadMeant frame program = (order : List ℕ) → Order (view_of program).nodes order → ReadsMeaning frame program order

-- each unit has after all passes as many bytes as its shape
abbrev pub AreAsLong : NumberedFrame → Type 0
AreAsLong frame = (unit : ℕ) → unit < length frame.units → length (bytes_at (all_bytes frame) unit) ≡ bytes_of (shape_at (shapes_in frame) unit)
