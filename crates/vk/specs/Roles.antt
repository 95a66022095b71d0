-- What each role of an operand asks: one table of seven rows.
use Rattle.std.specs.Prelude.{ℕ, Bool, Option, Some, None, if◌then◌else◌}
use Rattle.base.specs.Shapes.{is_image}
use Rattle.base.specs.Touches.{destination_role}
use Rattle.base.specs.declared.op.Op.{Op}
use Rattle.base.specs.declared.role.Role.{Role}
use Rattle.base.specs.declared.role.Role.TheVariants.{CopyRead, CopyWrite, ClearWrite, Sampled, StorageRead, StorageWrite, Attachment}
use Rattle.base.specs.declared.shape.Shape.{Shape}
use Rattle.vk.specs.Accesses.{transfer_read, transfer_write, shader_sampled_read, shader_storage_read, shader_storage_write, color_attachment_read, color_attachment_write}
use Rattle.vk.specs.Stages.{color_attachment_output, compute_shader, copy, clear}
use Rattle.vk.specs.declared.layout.Layout.{Layout}
use Rattle.vk.specs.declared.layout.Layout.TheVariants.{General, ColorAttachment, ShaderReadOnly, TransferSrc, TransferDst}

-- whether an operand is loaded: always, never, or unless its store leaves no old byte
abbrev pub always : ℕ → Bool → Option ℕ
always access whole = Some access

abbrev pub never : Bool → Option ℕ
never whole = None

abbrev pub unless_whole : ℕ → Bool → Option ℕ
unless_whole access whole = if whole then None else Some access

-- the stage in which an operand is touched, the accesses by which it is loaded and stored, and the layout of an image
pub record RoleRow : Type 0 where
  pub stage : ℕ
  pub load : Bool → Option ℕ
  pub store : Option ℕ
  pub layout : Layout

abbrev pub role_row : Role → RoleRow
role_row CopyRead = record { stage = copy; load = always transfer_read; store = None; layout = TransferSrc }
role_row CopyWrite = record { stage = copy; load = unless_whole transfer_write; store = Some transfer_write; layout = TransferDst }
role_row ClearWrite = record { stage = clear; load = unless_whole transfer_write; store = Some transfer_write; layout = TransferDst }
role_row Sampled = record { stage = compute_shader; load = always shader_sampled_read; store = None; layout = ShaderReadOnly }
role_row StorageRead = record { stage = compute_shader; load = always shader_storage_read; store = None; layout = General }
role_row StorageWrite = record { stage = compute_shader; load = never; store = Some shader_storage_write; layout = General }
role_row (Attachment load) = record { stage = color_attachment_output; load = if load then always color_attachment_read else never; store = Some color_attachment_write; layout = ColorAttachment }

abbrev pub role_stage : Role → ℕ
role_stage role = (role_row role).stage

-- as what an operand is loaded, if it is; whole where its store leaves no old byte
abbrev pub load_access : Role → Bool → Option ℕ
load_access role whole = (role_row role).load whole

abbrev pub store_access : Role → Option ℕ
store_access role = (role_row role).store

abbrev pub role_layout : Role → Layout
role_layout role = (role_row role).layout

-- an image has to be in the layout of the role, a buffer has none
abbrev pub layout_wanted : Shape → Role → Option Layout
layout_wanted shape role = if is_image shape then Some (role_layout role) else None

-- an operation runs in one stage, that of its destination
abbrev pub op_stage : {R : Type 0} → Op R → ℕ
op_stage op = role_stage (destination_role op)
