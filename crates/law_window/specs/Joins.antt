-- The join pass of a frame: it copies what earlier frames of the window left under persisting names.
use Rattle.std.specs.Prelude.{ℕ, List, [], ◌∷◌, ◌+◌, map, true, false, Option, Some, None}
use Rattle.base.specs.Shapes.{bytes_of, shape_at}
use Rattle.base.specs.declared.op.Op.{Op}
use Rattle.base.specs.declared.op.Op.TheVariants.{CopyBuffer}
use Rattle.base.specs.declared.shape.Shape.{Shape}
use Rattle.frame.specs.declared.frame.Write.{Write}
use Rattle.frame.specs.declared.numbered.NumberedPass.{NumberedPass}
use Rattle.law_window.specs.Sources.{Source, Given, Left}

-- a whole buffer that is copied
pub record Carry : Type 0 where
  pub from : ℕ
  pub to : ℕ
  pub size : ℕ

-- the copies for a frame of these shapes whose units begin at n, in the order of the names
abbrev pub carries : ℕ → List Shape → List (Option ℕ) → List Source → List Carry
carries n shapes [] sources = []
carries n shapes (place ∷ places) [] = []
carries n shapes (None ∷ places) (source ∷ sources) = carries n shapes places sources
carries n shapes (Some x ∷ places) (Given bytes ∷ sources) = carries n shapes places sources
carries n shapes (Some x ∷ places) (Left unit ∷ sources) = record { from = unit; to = n + x; size = bytes_of (shape_at shapes x) } ∷ carries n shapes places sources

abbrev pub copy_of : Carry → Op ℕ
copy_of carry = CopyBuffer carry.from carry.to 0 0 carry.size

abbrev pub renewal : Carry → Write ℕ
renewal carry = record { what = carry.to; fresh = true }

-- on queue 0
abbrev pub join_of : List Carry → NumberedPass
join_of all = record { queue = 0; reads = map (λ carry. carry.from) all; writes = map renewal all; ops = map copy_of all; side_effect = false }

-- no pass where there is nothing to copy
abbrev pub joins : List Carry → List NumberedPass
joins [] = []
joins (carry ∷ all) = join_of (carry ∷ all) ∷ []
