-- What the fields of a table stand for.
use Rattle.std.specs.Prelude.{◌≡◌, ◌*◌, ◌≤◌, length}
use Rattle.base_first.specs.Firsts.{Table}
use Rattle.base_first.specs.declared.table.Firsts.TheInside.{Inside}

abbrev pub table_of : Inside → Table
table_of inside = record { count = inside.count; queues = inside.queues; channels = inside.channels; numbers = inside.numbers.items }

pub record IsRoomy (inside : Inside) : Type 0 where
  pub width : inside.width ≡ inside.queues * inside.channels
  pub size : inside.count * inside.width ≤ length inside.numbers.items
