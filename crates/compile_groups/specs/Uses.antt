-- What commands use of units.
use Rattle.std.specs.Prelude.{ℕ, suc, List, [], ◌∷◌, ◌++◌, ◌==◌, ◌&&◌, nat_lt, not, Bool, None, unwrap_or, if◌then◌else◌}
use Rattle.std.specs.Int.RustNames.{bit_or}
use Rattle.std.specs.List.{list_any}
use Rattle.base.specs.Shapes.{shape_at}
use Rattle.base.specs.Touches.{touches_of}
use Rattle.base.specs.declared.role.Role.{Role}
use Rattle.base.specs.declared.shape.Shape.{Shape}
use Rattle.base.specs.declared.touch.Touch.{Touch}
use Rattle.vk.specs.Roles.{role_stage, load_access, store_access, layout_wanted}
use Rattle.compile_groups.specs.declared.command.Command.{Command}
use Rattle.compile_groups.specs.declared.unit_use.Use.{Use}

-- it stores
abbrev pub is_write : Use → Bool
is_write u = not (u.writes.0 == 0)

-- no use of a frame: what is looked up where there is nothing
abbrev pub no_use : Use
no_use = record { command = 0; operand = 0; queue = 0; unit = 0; stage = record { 0 = 0 }; accesses = record { 0 = 0 }; writes = record { 0 = 0 }; layout = None }

-- ONE OPERAND

-- the accesses that write, and all
abbrev pub role_writes : Role → ℕ
role_writes role = unwrap_or (store_access role) 0

abbrev pub role_accesses : Role → Bool → ℕ
role_accesses role whole = bit_or (unwrap_or (load_access role whole) 0) (role_writes role)

-- of command c on queue q, by its operand k
abbrev pub use_of : List Shape → ℕ → ℕ → ℕ → Touch → Use
use_of shapes c q k touch = record {
  command = c;
  operand = k;
  queue = q;
  unit = touch.what;
  stage = record { 0 = role_stage touch.role };
  accesses = record { 0 = role_accesses touch.role touch.whole };
  writes = record { 0 = role_writes touch.role };
  layout = layout_wanted (shape_at shapes touch.what) touch.role;
}

-- ALL OPERANDS OF A COMMAND

-- the operand is one of so many units, and not one of those that were named before
abbrev pub is_first_named : ℕ → List ℕ → ℕ → Bool
is_first_named units named what = nat_lt what units && not (list_any (λ unit. unit == what) named)

-- the uses by the operands from number k on
abbrev pub uses_from : List Shape → ℕ → ℕ → ℕ → ℕ → List ℕ → List Touch → List Use
uses_from shapes units c q k named [] = []
uses_from shapes units c q k named (touch ∷ touches) =
    (if is_first_named units named touch.what then use_of shapes c q k touch ∷ [] else [])
    ++ uses_from shapes units c q (suc k) (named ++ touch.what ∷ []) touches

-- one for each unit that it names
abbrev pub command_uses : List Shape → ℕ → ℕ → Command → List Use
command_uses shapes units c command = uses_from shapes units c command.queue 0 [] (touches_of shapes command.op)

-- of commands that are numbered from c on, in their order
abbrev pub uses_of : List Shape → ℕ → ℕ → List Command → List Use
uses_of shapes units c [] = []
uses_of shapes units c (command ∷ commands) = command_uses shapes units c command ++ uses_of shapes units (suc c) commands
