-- The declared join pass of a frame.
use Rattle.std.specs.Prelude.{ℕ, List, [], ◌∷◌, map, true, false, Option, Some, None, slice_get}
use Rattle.std.specs.Option.{option_map_or}
use Rattle.base.specs.Shapes.{bytes_of}
use Rattle.base.specs.declared.op.Op.{Op}
use Rattle.base.specs.declared.op.Op.TheVariants.{CopyBuffer}
use Rattle.frame.specs.declared.frame.Pass.{Pass}
use Rattle.frame.specs.declared.frame.Resource.{Resource}
use Rattle.frame.specs.declared.frame.Spot.{Spot}
use Rattle.frame.specs.declared.frame.Write.{Write}
use Rattle.law_window.specs.Names.{join_name, numbered_name}
use Rattle.law_window.specs.NamedSources.{NamedSource, Kept, Named}

-- a whole buffer that is copied from one name to another
pub record NamedCarry : Type 0 where
  pub from : List ℕ
  pub to : List ℕ
  pub size : ℕ

abbrev pub size_of : List Resource → ℕ → ℕ
size_of rs k = option_map_or (λ r. bytes_of r.shape) (slice_get rs k) 0

-- the copies for frame i, in the order of the persisting names
abbrev pub named_carries : ℕ → List Resource → List (Option ℕ) → List NamedSource → List NamedCarry
named_carries i rs [] sources = []
named_carries i rs (holder ∷ holders) [] = []
named_carries i rs (None ∷ holders) (source ∷ sources) = named_carries i rs holders sources
named_carries i rs (Some k ∷ holders) (Kept bytes ∷ sources) = named_carries i rs holders sources
named_carries i rs (Some k ∷ holders) (Named name ∷ sources) = record { from = name; to = numbered_name i k; size = size_of rs k } ∷ named_carries i rs holders sources

abbrev pub whole : List ℕ → Spot
whole name = record { name = name; layer = None }

abbrev pub named_copy : NamedCarry → Op Spot
named_copy carry = CopyBuffer (whole carry.from) (whole carry.to) 0 0 carry.size

abbrev pub named_renewal : NamedCarry → Write Spot
named_renewal carry = record { what = whole carry.to; fresh = true }

abbrev pub named_join : ℕ → List ℕ → List NamedCarry → Pass
named_join i queue all = record { name = join_name i; queue = queue; reads = map (λ carry. whole carry.from) all; writes = map named_renewal all; ops = map named_copy all; side_effect = false }

-- no pass where there is nothing to copy
abbrev pub named_joins : ℕ → List ℕ → List NamedCarry → List Pass
named_joins i queue [] = []
named_joins i queue (carry ∷ all) = named_join i queue (carry ∷ all) ∷ []
