-- What a queue needs of others before a command or a release. Which of these needs become waits is the timeline's matter.
use Rattle.std.specs.Prelude.{ℕ, List, [], ◌∷◌, ◌==◌, ◌-◌, length, Bool, true, false, if◌then◌else◌}
use Rattle.std.specs.List.{flat_map, range_with_len}
use Rattle.compile_groups.specs.declared.grouping.Grouping.{Grouping}
use Rattle.compile_groups.specs.declared.unit_use.Use.{Use}
use Rattle.compile_record.specs.declared.mark.Mark.{Mark}
use Rattle.compile_record.specs.declared.mark.Mark.TheVariants.{Command, Prologue as OfPrologue, Release}
use Rattle.compile_barriers.specs.Prologues.{last}
use Rattle.compile_barriers.specs.Unions.{on}
use Rattle.compile_barriers.specs.declared.prologue.Prologue.{Prologue}
use Rattle.compile_barriers.specs.declared.prologue.PrologueKind.{PrologueKind}
use Rattle.compile_barriers.specs.declared.prologue.PrologueKind.TheVariants.{Nothing, Barrier, Transfer}

abbrev pub last_command : List Use → List Mark
last_command [] = []
last_command (u ∷ uses) = Command (last (u ∷ uses)).command ∷ []

-- the last of the uses on queue p, if that is not queue q
abbrev pub last_on : ℕ → List Use → ℕ → List Mark
last_on q A p = if p == q then [] else last_command (on p A)

-- the last of the uses on each queue but q, in the order of queues
abbrev pub last_elsewhere : Grouping → ℕ → List Use → List Mark
last_elsewhere G q A = flat_map (last_on q A) (range_with_len 0 (length G.families))

-- before the first member of a group: a barrier needs the last uses of the group before it, A, on other queues, and an acquire
-- needs its release. Before a unit's first group nothing is needed: an alias barrier has what its unit's commands need
abbrev pub wanted_by : PrologueKind → Grouping → Prologue → List Use → List Mark
wanted_by Barrier G prologue A = last_elsewhere G prologue.queue A
wanted_by Transfer G prologue A = Release (prologue.group - 1) ∷ []
wanted_by kind G prologue A = []

abbrev pub wanted_first : Grouping → Prologue → List Use → List Mark
wanted_first G prologue A = wanted_by prologue.kind G prologue A

abbrev pub is_there : PrologueKind → Bool
is_there Nothing = false
is_there kind = true

-- before the first member of a group on a queue that does not have the prologue
abbrev pub wanted_further : Prologue → List Mark
wanted_further prologue = if is_there prologue.kind then OfPrologue prologue.group ∷ [] else []

-- before the release after the uses A
abbrev pub wanted_release : Grouping → List Use → List Mark
wanted_release G A = last_elsewhere G (last A).queue A
