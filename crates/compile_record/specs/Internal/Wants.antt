-- Needs as they are found.
use Rattle.std.specs.Prelude.{ℕ, List, [], ◌∷◌, ◌==◌, Option, Some, None, if◌then◌else◌}
use Rattle.compile_groups.specs.declared.unit_use.Use.{Use}
use Rattle.compile_groups.specs.declared.unit_use.UseAt.{UseAt}
use Rattle.compile_barriers.specs.Prologues.{last}

-- the command of the last of these uses
abbrev pub last_number : List Use → Option ℕ
last_number [] = None
last_number (u ∷ uses) = Some (last (u ∷ uses)).command

-- after one use more
abbrev pub later_number : ℕ → Option ℕ → Use → Option ℕ
later_number q found u = if u.queue == q then Some u.command else found

-- the group of a use, if it is one of command c
abbrev pub group_by : ℕ → UseAt → List ℕ
group_by c u = if u.command == c then u.group ∷ [] else []
