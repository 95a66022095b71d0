-- What becomes of main and of lines where a node makes memory available or visible.
use Rattle.std.specs.Prelude.{ℕ, zero, suc, ◌<◌, List, [], ◌∷◌, length, Bool, if◌then◌else◌}
use Rattle.device_cache.specs.Effects.{Caches, write_back, write_back_all, drop_clean, drop_clean_all, overwrite}
use Rattle.device_cache.specs.Lines.{Line, cleaned, dropped}
use Rattle.device.specs.declared.syncing.Agents.{Agents}
use Rattle.device.specs.declared.syncing.Move.{Move}
use Rattle.device.specs.declared.syncing.Move.TheVariants.{WriteBack, DropClean}
use Rattle.device_model.specs.Agents.{agent_at, piece_range}
use Rattle.device_model.specs.States.{State}
use Rattle.device_model.specs.Steps.{agent_count, junks}
use Rattle.check_access.specs.Views.{View, accesses_of, effect_at, queue_at, has_agent}
use Rattle.check_access.specs.declared.access.Access.{Access}
use Rattle.check_access.specs.declared.effect.Scope.{Scope}
use Rattle.check_access.specs.declared.effect.Scope.TheVariants.{Everywhere, Piece}

-- the agent of a number is in a set of agents of a queue
abbrev pub has_agent_at : ℕ → ℕ → ℕ → Bool
has_agent_at queue set g = has_agent queue set (agent_at g)

abbrev pub passes : Agents → ℕ → Bool
passes agents g = has_agent_at agents.queue agents.set g

-- a scope is on a piece that is there
abbrev pub IsThere : View → Scope → Type 0
IsThere V Everywhere = Unit {0}
IsThere V (Piece p) = p < length V.pieces

-- what becomes of a line
abbrev pub moved_line : Move → Line → Line
moved_line WriteBack line = cleaned line
moved_line DropClean line = dropped line

-- the lines of one agent, in a scope
abbrev pub moved_one : View → Move → ℕ → Scope → Caches → Caches
moved_one V WriteBack agent Everywhere c = write_back_all agent c
moved_one V WriteBack agent (Piece p) c = write_back agent (piece_range V p) c
moved_one V DropClean agent Everywhere c = drop_clean_all agent c
moved_one V DropClean agent (Piece p) c = drop_clean agent (piece_range V p) c

-- of the first agents those that pass, in rising number
abbrev pub moved_agents : View → Move → (ℕ → Bool) → ℕ → Scope → Caches → Caches
moved_agents V kind pass zero scope c = c
moved_agents V kind pass (suc k) scope c = if pass k then moved_one V kind k scope (moved_agents V kind pass k scope c) else moved_agents V kind pass k scope c

-- the agents of the node's queue that are in a set, in its scope
abbrev pub moved_by : View → ℕ → Move → ℕ → Caches → Caches
moved_by V n kind set c = moved_agents V kind (has_agent_at (queue_at V n) set) (agent_count V) (effect_at V n).scope c

-- junk on the pieces of the accesses that leave some
abbrev pub junked : View → State → ℕ → List ℕ → List Access → Caches → Caches
junked V s n junk [] c = c
junked V s n junk (a ∷ rest) c = junked V s n junk rest (if junks V s n a then overwrite (piece_range V a.piece) junk c else c)

-- stores go to main, then there is junk, and then clean lines go away
abbrev pub synced_caches : View → State → ℕ → List ℕ → Caches → Caches
synced_caches V s n junk c = moved_by V n DropClean (effect_at V n).visible (junked V s n junk (accesses_of V n) (moved_by V n WriteBack (effect_at V n).available c))
