-- Which units had the bytes of a placed unit before it. Placed units are known by their places in `placed`.
use Rattle.std.specs.Prelude.{ℕ, zero, suc, List, [], ◌==◌, ◌&&◌, length, Bool, if◌then◌else◌}
use Rattle.std.specs.List.{filter, flat_map, range_with_len, position_or_len}
use Rattle.compile_groups.specs.Needs.{group_at, is_of}
use Rattle.compile_groups.specs.Placed.{placed, unit_at, sizes}
use Rattle.compile_groups.specs.declared.grouping.Grouping.{Grouping}
use Rattle.compile_groups.specs.declared.unit_use.Use.{Use}
use Rattle.compile_heap.specs.Pairs.{Table, has}
use Rattle.compile_heap.specs.Placing.{Places, number_at, overlap}

-- where placed units begin, and which of them is used before which
pub record Heap : Type 0 where
  pub ordered : ℕ → ℕ → Bool
  pub offsets : List ℕ

abbrev pub place_of : Grouping → ℕ → ℕ
place_of G unit = position_or_len (λ u. u == unit) (placed G)

-- unit a is used before unit b, and both have a byte of the heap
abbrev pub is_under : Grouping → Heap → ℕ → ℕ → Bool
is_under G heap b a = heap.ordered a b && overlap (number_at heap.offsets a) (number_at (sizes G) a) (number_at heap.offsets b) (number_at (sizes G) b)

abbrev pub under : Grouping → Heap → ℕ → List ℕ
under G heap b = filter (is_under G heap b) (range_with_len 0 (length (placed G)))

-- the uses of the unit's last group below number n
abbrev pub last_below : Grouping → ℕ → ℕ → List Use
last_below G unit zero = []
last_below G unit (suc n) = if is_of G unit n then group_at G n else last_below G unit n

abbrev pub last_uses : Grouping → ℕ → List Use
last_uses G unit = last_below G unit (length G.groups)

-- the last groups of all units that had bytes of the unit at place b before it, together
abbrev pub uses_under : Grouping → Heap → ℕ → List Use
uses_under G heap b = flat_map (λ a. last_uses G (unit_at G a)) (under G heap b)

-- a heap by the pairs that are ordered, and the places
abbrev pub heap_of : Table → Places → Heap
heap_of pairs places = record { ordered = has pairs; offsets = places.offsets }
