-- Bytes of the lengths of their units, and operations that run on them.
use Rattle.std.specs.Prelude.{◌≡◌, ◌<◌, ℕ, List, true, false, length}
use Rattle.std.specs.List.{All}
use Rattle.base.specs.Applied.{bytes_at}
use Rattle.base.specs.Fits.{fits}
use Rattle.base.specs.InPlace.{in_place}
use Rattle.base.specs.Operands.{operands_of, mapped}
use Rattle.base.specs.Shapes.{bytes_of, shape_at}
use Rattle.base.specs.declared.op.Op.{Op}
use Rattle.base.specs.declared.shape.Shape.{Shape}

pub record AreSized (shapes : List Shape) (bytes : List (List ℕ)) : Type 0 where
  pub count : length bytes ≡ length shapes
  pub sized : (unit : ℕ) → unit < length shapes → length (bytes_at bytes unit) ≡ bytes_of (shape_at shapes unit)

-- the operation names units alone, fits, and reads nothing that it stores to
pub record IsRunnable (shapes : List Shape) (op : Op ℕ) : Type 0 where
  pub operands : All (λ unit. unit < length shapes) (operands_of op)
  pub fitting : fits (mapped (shape_at shapes) op) ≡ true
  pub not_in_place : in_place op ≡ false
