-- Commands and barriers between waits and signals.
use Rattle.std.specs.Prelude.{◌≡◌, ◌⊎◌, ℕ, true, Some}
use Rattle.base.specs.declared.op.Op.{Op}
use Rattle.base.specs.declared.role.Role.{Role}
use Rattle.vk.specs.Roles.{role_stage}
use Rattle.vk.specs.Sets.{has}
use Rattle.vk.specs.Stages.{host}
use Rattle.vk.specs.declared.masks.Masks.{Masks}
use Rattle.law_plan.specs.Crossings.{Open}
use Rattle.law_schedule.specs.Standing.{StandsFor}
use Rattle.check_order.specs.Nodes.{program_nodes}
use Rattle.program.specs.Barriers.{masks_of}
use Rattle.program.specs.Entries.{OfItem}
use Rattle.program.specs.declared.program.Item.{Item}
use Rattle.program.specs.declared.program.Item.TheVariants.{Command}
use Rattle.program.specs.declared.program.Program.{Program}

-- the stage of some role is in the set
abbrev pub HasRole : ℕ → Type 0
HasRole stages = (role : Role) × (has stages (role_stage role) ≡ true)

-- commands, and barriers from the stage of a role to that of one or to the host, wait for the waits before them on their queue,
-- and the signals after them wait for them
pub record AreOpen (program : Program) : Type 0 where
  pub command : (n q : ℕ) (op : Op ℕ) → StandsFor program n (OfItem q (Command op)) → Open (program_nodes program) n
  pub barrier : (n q : ℕ) (item : Item) (masks : Masks) → masks_of item ≡ Some masks → StandsFor program n (OfItem q item) → HasRole masks.src_stages.0 → HasRole masks.dst_stages.0 ⊎ (has masks.dst_stages.0 host ≡ true) → Open (program_nodes program) n
