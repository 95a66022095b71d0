-- Which transient resources are used one after another, so that they may lie in the same bytes.
use Rattle.std.specs.Prelude.{◌≡◌, ◌↔◌, ℕ, ◌<◌, length, Bool, true}
use Rattle.compile_groups.specs.Needs.{leads, touches}
use Rattle.compile_groups.specs.Placed.{placed, unit_at}
use Rattle.compile_groups.specs.declared.grouping.Grouping.{Grouping}
use Rattle.base_reach.specs.Paths.{Path}

-- each command that uses the unit reaches each command that uses the other, by at least one need or step along a queue
abbrev pub IsBefore : Grouping → ℕ → ℕ → Type 0
IsBefore G unit other = (c d : ℕ) → touches G unit c ≡ true → touches G other d ≡ true → Path (leads G) c d

-- these are, by their places in the list of placed units, the pairs of which the first is before the second
abbrev pub IsOrdered : Grouping → (ℕ → ℕ → Bool) → Type 0
IsOrdered G ordered = (a b : ℕ) → a < length (placed G) → b < length (placed G) → (ordered a b ≡ true) ↔ IsBefore G (unit_at G a) (unit_at G b)
