-- What pictures leave, texel by texel.
use Rattle.std.specs.Prelude.{◌==◌, ◌+◌, ◌-◌, ℕ, if◌then◌else◌}
use Rattle.base.specs.Kernels.{fun_of, is_inside}
use Rattle.base.specs.declared.op.Fun.{Fun}
use Rattle.base.specs.declared.shape.Texel.{Texel}
use Rattle.kernel.specs.declared.repainting.Area.{Area}

-- a function of two
abbrev pub all_combined : Texel → Fun → (ℕ → ℕ → ℕ) → (ℕ → ℕ → ℕ) → ℕ → ℕ → ℕ
all_combined t fun a b x y = fun_of t fun (a x y) (b x y)

-- the first where the mask is not 0, else the second
abbrev pub all_selected : (ℕ → ℕ → ℕ) → (ℕ → ℕ → ℕ) → (ℕ → ℕ → ℕ) → ℕ → ℕ → ℕ
all_selected mask a b x y = if mask x y == 0 then b x y else a x y

-- one inside the area, another around it
abbrev pub inside_else : Area → (ℕ → ℕ → ℕ) → (ℕ → ℕ → ℕ) → ℕ → ℕ → ℕ
inside_else area p q x y = if is_inside area.left area.top area.width area.height x y then p x y else q x y

-- one moved, so that what was at (x0, y0) is at (left, top)
abbrev pub moved : ℕ → ℕ → ℕ → ℕ → (ℕ → ℕ → ℕ) → ℕ → ℕ → ℕ
moved x0 y0 left top p x y = p (x0 + (x - left)) (y0 + (y - top))
