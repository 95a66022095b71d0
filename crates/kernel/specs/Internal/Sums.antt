-- Sums of columns that are kept.
use Rattle.std.specs.Prelude.{◌≡◌, ℕ, List, ◌<◌, ◌≤◌, slice_index}
use Rattle.base.specs.Kernels.{three}
use Rattle.base.specs.Texels.{picture}
use Rattle.base.specs.declared.grid.Grid.{Grid}

-- so many are the sums of the first columns over row y and the rows beside it
abbrev pub AreColumns : Grid → List ℕ → ℕ → ℕ → List ℕ → Type 0
AreColumns g bytes y count sums = (x : ℕ) → x < count → slice_index sums x ≡ three g.height (picture g bytes x) y

-- so many are no more than three bytes come to
abbrev pub AreSmall : ℕ → List ℕ → Type 0
AreSmall count sums = (x : ℕ) → x < count → slice_index sums x ≤ 765
