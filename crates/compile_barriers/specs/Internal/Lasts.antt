-- The last groups of units, among the first so many groups.
use Rattle.std.specs.Prelude.{◌≡◌, ℕ, ◌<◌, ◌≤◌, ◌-◌, ◌==◌, List, [], length, slice_index_or, if◌then◌else◌}
use Rattle.compile_groups.specs.Needs.{group_at}
use Rattle.compile_groups.specs.declared.grouping.Grouping.{Grouping}
use Rattle.compile_groups.specs.declared.unit_use.Use.{Use}
use Rattle.compile_barriers.specs.Under.{last_below}

-- the group with this number, counted from 1
abbrev pub group_from : Grouping → ℕ → List Use
group_from G last = if last == 0 then [] else group_at G (last - 1)

pub record AreLasts (G : Grouping) (n : ℕ) (lasts : List ℕ) : Type 0 where
  pub size : length lasts ≡ length G.imports
  pub low : (unit : ℕ) → slice_index_or lasts unit 0 ≤ n
  pub is : (unit : ℕ) → unit < length G.imports → group_from G (slice_index_or lasts unit 0) ≡ last_below G unit n
