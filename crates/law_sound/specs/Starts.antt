-- What is first done to units: a unit that is no import is stored whole before anything else touches it.
use Rattle.std.specs.Prelude.{◌≡◌, ℕ, ◌<◌, ◌≤◌, List, Bool, true, false, length, slice_get, Some}
use Rattle.base.specs.Operands.{touches}
use Rattle.base.specs.declared.shape.Shape.{Shape}
use Rattle.frame.specs.Valid.{is_import, shapes_in}
use Rattle.frame.specs.Numbered.{NumberedFrame}
use Rattle.frame.specs.Uses.{stores_whole}
use Rattle.compile_groups.specs.Commands.{commands}
use Rattle.compile_groups.specs.declared.command.Command.{Command}

-- command b stores the whole of the unit, and none before it touches it
pub record IsStart (shapes : List Shape) (list : List Command) (unit b : ℕ) : Type 0 where
  pub command : Command
  pub there : slice_get list b ≡ Some command
  pub whole : stores_whole shapes unit command.op ≡ true
  pub first : (e : ℕ) (other : Command) → e < b → slice_get list e ≡ Some other → touches unit other.op ≡ false

-- of each unit that is no import and that a command touches
abbrev pub AreStarted : NumberedFrame → List Bool → Type 0
AreStarted frame kept =
    (c unit : ℕ) (command : Command) →
    slice_get (commands frame kept) c ≡ Some command →
    touches unit command.op ≡ true →
    unit < length frame.units →
    is_import frame.units unit ≡ false →
    (b : ℕ) × (b ≤ c) × IsStart (shapes_in frame) (commands frame kept) unit b
