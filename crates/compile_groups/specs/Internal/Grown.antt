-- Lists as they grow at their end.
use Rattle.std.specs.Prelude.{ℕ, List, [], ◌∷◌, ◌++◌, take, slice_index_or, Bool, false, if◌then◌else◌}
use Rattle.base.specs.Operands.{operands_of}
use Rattle.base.specs.Touches.{touches_of}
use Rattle.base.specs.declared.role.Role.TheVariants.{CopyRead}
use Rattle.base.specs.declared.shape.Shape.{Shape}
use Rattle.base.specs.declared.touch.Touch.{Touch}
use Rattle.frame.specs.declared.numbered.NumberedPass.{NumberedPass}
use Rattle.compile_groups.specs.Commands.{pass_commands}
use Rattle.compile_groups.specs.Uses.{is_first_named, use_of}
use Rattle.compile_groups.specs.declared.command.Command.{Command}
use Rattle.compile_groups.specs.declared.unit_use.Use.{Use}
use Rattle.frame_cull.specs.Versions.{no_pass}

-- the commands of one pass, if it is kept
abbrev pub kept_pass : List NumberedPass → List Bool → ℕ → List Command
kept_pass passes kept p = if slice_index_or kept p false then pass_commands (slice_index_or passes p no_pass) else []

abbrev pub no_touch : Touch
no_touch = record { what = 0; role = CopyRead; whole = false }

abbrev pub touch_at : List Shape → Command → ℕ → Touch
touch_at shapes command k = slice_index_or (touches_of shapes command.op) k no_touch

-- the use of a unit by operand k, if that is the first that names it
abbrev pub operand_use : List Shape → ℕ → ℕ → Command → ℕ → List Use
operand_use shapes units c command k = if is_first_named units (take k (operands_of command.op)) (touch_at shapes command k).what then use_of shapes c command.queue k (touch_at shapes command k) ∷ [] else []

-- RUNS

-- the last of a use and those after it
abbrev pub last_use : Use → List Use → Use
last_use u [] = u
last_use u (v ∷ run) = last_use v run

-- the use joins the last one of a run
abbrev pub joins_last : (Use → Use → Bool) → List Use → Use → Bool
joins_last joins [] u = false
joins_last joins (v ∷ run) u = joins (last_use v run) u

-- a use after one run
abbrev pub after_run : (Use → Use → Bool) → Use → List Use → List (List Use)
after_run joins u run = if joins_last joins run u then (run ++ u ∷ []) ∷ [] else run ∷ (u ∷ []) ∷ []

-- a use after all runs
abbrev pub added : (Use → Use → Bool) → Use → List (List Use) → List (List Use)
added joins u [] = (u ∷ []) ∷ []
added joins u (run ∷ []) = after_run joins u run
added joins u (run ∷ next ∷ runs) = run ∷ added joins u (next ∷ runs)
