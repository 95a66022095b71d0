-- What is computed once for groups.
use Rattle.std.specs.Prelude.{◌≡◌, ℕ, List, map, length}
use Rattle.std.specs.List.{range_with_len}
use Rattle.compile_groups.specs.Laws.{IsGrouped, IsKnown, IsSmall}
use Rattle.compile_groups.specs.Needs.{uses_at, numbers_in}
use Rattle.compile_groups.specs.Placed.{placed, sizes}
use Rattle.compile_groups.specs.declared.grouping.Grouping.{Grouping}
use Rattle.compile_groups.specs.declared.unit_use.UseAt.{UseAt}

pub record IsTabled (G : Grouping) (list : List UseAt) (numbers : List (List ℕ)) (units : List ℕ) (amounts : List ℕ) : Type 0 where
  pub grouped : IsGrouped G
  pub known : IsKnown G
  pub small : IsSmall G
  pub uses : list ≡ uses_at G
  pub by_group : numbers ≡ map (numbers_in G) (range_with_len 0 (length G.groups))
  pub places : units ≡ placed G
  pub bytes : amounts ≡ sizes G
