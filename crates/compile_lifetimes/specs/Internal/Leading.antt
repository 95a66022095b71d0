-- Which command leads to which, by queues and by groups.
use Rattle.std.specs.Prelude.{ℕ, suc, List, ◌<◌, ◌==◌, ◌&&◌, nat_lt, length, slice_get, Bool}
use Rattle.std.specs.List.{All}
use Rattle.std.specs.Option.{option_map_or}
use Rattle.compile_groups.specs.Needs.{goes_on, is_member}
use Rattle.compile_groups.specs.declared.command.Command.{Command}
use Rattle.compile_groups.specs.declared.grouping.Grouping.{Grouping}
use Rattle.compile_groups.specs.declared.unit_use.Use.{Use}

abbrev pub queue_in : List Command → ℕ → ℕ
queue_in commands c = option_map_or (λ command. command.queue) (slice_get commands c) 0

-- x is one of the first commands, fewer than `from`, on the queue of command `to`, which is y
abbrev pub leads_to : List Command → ℕ → ℕ → ℕ → ℕ → Bool
leads_to commands from to x y = nat_lt x from && (y == to && queue_in commands x == queue_in commands to)

-- d is a later command on the queue of c
abbrev pub comes_later : List Command → ℕ → ℕ → Bool
comes_later commands c d = nat_lt c d && (nat_lt d (length commands) && queue_in commands c == queue_in commands d)

-- d needs c by group g and the next one
abbrev pub needs_by : Grouping → ℕ → ℕ → ℕ → Bool
needs_by G c d g = goes_on G g && (is_member G c g && is_member G d (suc g))

-- each use of the first group is by an earlier command than each of the next, of so many commands
abbrev pub AreForward : ℕ → List Use → List Use → Type 0
AreForward count uses next = All (λ u. All (λ v. (u.command < v.command) × (v.command < count)) next) uses
