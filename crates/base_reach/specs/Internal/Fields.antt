-- The set that the fields of rows stand for, and what is kept of them.
use Rattle.std.specs.Prelude.{◌≡◌, ◌*◌, ◌^◌, ◌≤◌, length}
use Rattle.base_reach.specs.Pairs.{Pairs, Ahead}
use Rattle.base_reach.specs.declared.rows.Rows.TheInside.{Inside}

abbrev pub view_of : Inside → Pairs
view_of rows = record { count = rows.count; width = rows.width; words = rows.words.items }

pub record IsKept (rows : Inside) : Type 0 where
  pub few : rows.width ≤ 2 ^ 26
  pub wide : rows.count ≤ 64 * rows.width
  pub size : length rows.words.items ≡ rows.count * rows.width
  pub scratch : length rows.scratch.items ≡ rows.width
  pub ahead : Ahead rows.words.items rows.width rows.count
