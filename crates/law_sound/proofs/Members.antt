-- The nodes of commands: each access is by a touch of an operand, and one of a group's unit is as its use says.
use Rattle.std.proofs.Common.{◌≡◌, ⊎_elim, ℕ, ◌<◌, true, List, length, map, get_or, slice_get, Some, sym, ap, ◌∙◌, subst, arith}
use Rattle.std.specs.List.{All, Contains}
use Rattle.std.specs.Option.{option_map_or}
use Rattle.std.proofs.lemmas.Bool.{cases_lt, le-leb, or_left}
use Rattle.std.proofs.lemmas.List.Elements.{All-contains, Contains-get_or}
use Rattle.base.proofs.Lists.{entry_of}
use Rattle.base.proofs.Operands.{destination_role_mapped}
use Rattle.base.specs.Operands.{operands_of, mapped}
use Rattle.base.specs.Shapes.{shape_at}
use Rattle.base.specs.Touches.{touches_of}
use Rattle.base.specs.declared.shape.Shape.{Shape}
use Rattle.base.specs.declared.touch.Touch.{Touch}
use Rattle.vk.specs.Roles.{role_stage, op_stage, layout_wanted}
use Rattle.law_sound.proofs.Commands.{Sort, not_in_place}
use Rattle.law_sound.proofs.Counting.{count_same}
use Rattle.law_sound.proofs.Groups.{Member, member_queue, sourced, unit_each, unit_piece}
use Rattle.law_sound.proofs.Items.{item_stands}
use Rattle.law_sound.proofs.Pieces.{piece_shape}
use Rattle.law_sound.proofs.Roles.{IsBy, by_load, by_store, loads_said, stores_said, writes_said}
use Rattle.law_sound.proofs.Setting.{IsSet}
use Rattle.law_sound.proofs.Touches.{IsOf, a_load, a_store, IsTouched, alike, moved, operand_touch, touch_operand, touch_stages, touched_each}
use Rattle.law_sound.proofs.Uses.{UsedBy, used_by, sourced_use}
use Rattle.law_sound.specs.Nodes.{command_node, item_at}
use Rattle.law_sound.specs.Plan.{unit_of}
use Rattle.law_plan.specs.Kinds.{is_plain}
use Rattle.law_schedule.specs.Standing.{StandsFor}
use Rattle.compile_groups.specs.Laws.{IsFound}
use Rattle.compile_groups.specs.Needs.{group_at, group_of, is_touched, queue_of, uses_in}
use Rattle.compile_groups.specs.Uses.{role_accesses, role_writes}
use Rattle.compile_groups.specs.declared.command.Command.{Command}
use Rattle.compile_groups.specs.declared.grouping.Grouping.{Grouping}
use Rattle.compile_groups.specs.declared.unit_use.Use.{Use}
use Rattle.check_order.specs.Edges.{node_at}
use Rattle.check_order.specs.Nodes.{program_nodes}
use Rattle.compile_record.specs.Pieces.{has_piece, is_readback, piece_of}
use Rattle.compile_record.specs.Standing.{step}
use Rattle.compile_record.specs.declared.mark.Mark.TheVariants as marks
use Rattle.program.specs.Entries.{OfItem}
use Rattle.program.specs.Rules.{shapes_of}
use Rattle.program.specs.declared.program.Item.TheVariants as item
use Rattle.program.specs.declared.program.Program.{Program}
use Rattle.compile_barriers.specs.Under.{Heap}
use Rattle.law_valid.proofs.Bits.{Inside}
use Rattle.check_access.specs.AccessKinds.{wanted}
use Rattle.check_access.specs.Effects.{command_accesses}
use Rattle.check_access.specs.ValidView.{Has}
use Rattle.check_access.specs.Views.{view_of}
use Rattle.check_access.specs.declared.access.Access.{Access}

-- WHAT A TOUCH DOES

pub touch_plain : (shapes : List Shape) (q : ℕ) (t : Touch) (a : Access) → IsOf shapes q t a → is_plain a.kind ≡ true
touch_plain shapes q t a (a_load bits e is) = ap (λ (x : Access). is_plain x.kind) is
touch_plain shapes q t a (a_store bits e is) = ap (λ (x : Access). is_plain x.kind) is

pub touch_piece : (shapes : List Shape) (q : ℕ) (t : Touch) (a : Access) → IsOf shapes q t a → a.piece ≡ t.what
touch_piece shapes q t a (a_load bits e is) = ap (λ (x : Access). x.piece) is
touch_piece shapes q t a (a_store bits e is) = ap (λ (x : Access). x.piece) is

pub touch_wanted : (shapes : List Shape) (q : ℕ) (t : Touch) (a : Access) → IsOf shapes q t a → wanted a.kind ≡ layout_wanted (shape_at shapes t.what) t.role
touch_wanted shapes q t a (a_load bits e is) = ap (λ (x : Access). wanted x.kind) is
touch_wanted shapes q t a (a_store bits e is) = ap (λ (x : Access). wanted x.kind) is

-- by a use that says of the role what there is
pub by_touch : (shapes : List Shape) (q : ℕ) (t : Touch) (u : Use) (a : Access) → u.stage.0 ≡ role_stage t.role → u.accesses.0 ≡ role_accesses t.role t.whole → u.writes.0 ≡ role_writes t.role → IsOf shapes q t a → IsBy q u a.kind
by_touch shapes q t u a stage accesses writes (a_load bits e is) =
    by_load t.role t.whole bits (layout_wanted (shape_at shapes t.what) t.role) e stage (subst (Inside bits) (sym accesses) (loads_said t.role t.whole bits e)) (ap (λ (x : Access). x.kind) is)
by_touch shapes q t u a stage accesses writes (a_store bits e is) =
    by_store t.role bits (layout_wanted (shape_at shapes t.what) t.role) e stage (subst (Inside bits) (sym accesses) (stores_said t.role t.whole bits e)) (subst (Inside bits) (sym writes) (writes_said t.role bits e)) (ap (λ (x : Access). x.kind) is)

-- access a of command c is as a use says, on the command's queue and in its stage
pub record IsDoneBy (G : Grouping) (heap : Heap) (P : Program) (c : ℕ) (a : Access) (u : Use) : Type 0 where
  pub queue : u.queue ≡ queue_of G c
  pub own : (node_at (program_nodes P) (command_node G heap c)).queue ≡ queue_of G c
  pub waits : (node_at (program_nodes P) (command_node G heap c)).src_stages.0 ≡ u.stage.0
  pub awaited : (node_at (program_nodes P) (command_node G heap c)).dst_stages.0 ≡ u.stage.0
  pub by : IsBy (queue_of G c) u a.kind

-- it is as the command's use in a group says
pub record IsDone (G : Grouping) (heap : Heap) (P : Program) (c g : ℕ) (a : Access) : Type 0 where
  pub one : Use
  pub there : Contains (group_at G g) one
  pub command : one.command ≡ c
  pub layout : wanted a.kind ≡ one.layout
  pub is : IsDoneBy G heap P c a one

module _ (G : Grouping) (heap : Heap) (P : Program) (S : IsSet G heap P) where
  abbrev shapes : List Shape
  shapes = shapes_of P

  -- NODES

  pub queue_at : (c : ℕ) (command : Command) → slice_get G.commands c ≡ Some command → queue_of G c ≡ command.queue
  queue_at c command at = ap (λ o. option_map_or (λ (x : Command). x.queue) o 0) at

  pub command_stands : (c : ℕ) (command : Command) → slice_get G.commands c ≡ Some command → StandsFor P (command_node G heap c) (OfItem command.queue (item.Command (mapped (piece_of G) command.op)))
  command_stands c command at =
      subst (λ q. StandsFor P (item_at G heap q (step G heap (marks.Command c))) (OfItem command.queue (item.Command (mapped (piece_of G) command.op)))) (sym (queue_at c command at))
      (item_stands G heap P S.stand S.script (step G heap (marks.Command c)) command.queue (Some (marks.Command c)) (item.Command (mapped (piece_of G) command.op)) (S.standing.each_command c command at))

  -- PIECES OF OPERANDS

  pub use_group : (c r : ℕ) (U : UsedBy G c r) → IsFound G U.one
  use_group c r U = All-contains (IsFound G) (uses_in G) U.one S.grouped.found U.there

  -- the group of a use is of its unit
  pub found_unit : (u : Use) → IsFound G u → unit_of G (group_of G u.command u.unit) ≡ u.unit
  found_unit u F = sym (All-contains (λ (v : Use). v.unit ≡ unit_of G (group_of G u.command u.unit)) (group_at G (group_of G u.command u.unit)) u (unit_each G S.grouped (group_of G u.command u.unit) F.group) F.member)

  unit_has : (c r : ℕ) → UsedBy G c r → has_piece G r ≡ true
  unit_has c r U =
      let F = use_group c r U in
      subst (λ n. has_piece G n ≡ true) (found_unit U.one F ∙ U.unit) (unit_piece G S.grouped (group_of G U.one.command U.one.unit) F.group)

  pub touch_has : (c : ℕ) (command : Command) (t : Touch) → slice_get G.commands c ≡ Some command → Contains (touches_of G.shapes command.op) t → has_piece G t.what ≡ true
  touch_has c command t at h = ⊎_elim
      (λ (lt : t.what < length G.imports). let same = S.known.sharings in unit_has c t.what (used_by G c command t at h (omega (arith, lt, same))))
      (λ le. or_left (is_readback G t.what) (is_touched G t.what) (le-leb (length G.imports) t.what le))
      (cases_lt t.what (length G.imports))

  pub pieces_same : (c : ℕ) (command : Command) → slice_get G.commands c ≡ Some command → All (λ r. shape_at shapes (piece_of G r) ≡ shape_at G.shapes r) (operands_of command.op)
  pieces_same c command at = λ k d lt.
      let r : ℕ = get_or (operands_of command.op) k d in
      let T = operand_touch G.shapes command.op r (Contains-get_or (operands_of command.op) k d lt) in
      let within : r < length G.shapes = entry_of (λ (x : Command). All (λ n. n < length G.shapes) (operands_of x.op)) G.commands c command S.known.operands at k d lt in
      let has : has_piece G r ≡ true = subst (λ n. has_piece G n ≡ true) T.what (touch_has c command T.touch at T.there) in
      ap (λ list. shape_at (map (λ piece. piece.shape) list) (piece_of G r)) S.pieces ∙ piece_shape G heap.offsets r within has

  -- ACCESSES

  pub touched : (c : ℕ) (command : Command) (a : Access) → slice_get G.commands c ≡ Some command → Has (view_of P) (command_node G heap c) a → IsTouched G.shapes shapes (piece_of G) command.queue command.op a
  touched c command a at (i, e) =
      entry_of (IsTouched G.shapes shapes (piece_of G) command.queue command.op) (command_accesses shapes command.queue (mapped (piece_of G) command.op)) i a
      (touched_each G.shapes shapes (piece_of G) command.queue command.op (pieces_same c command at))
      (sym (ap (λ x. slice_get x.accesses i) (command_stands c command at).effect) ∙ e)

  -- as a use says that is by the same touch
  pub done_by : (c : ℕ) (command : Command) (at : slice_get G.commands c ≡ Some command) (a : Access) (T : IsTouched G.shapes shapes (piece_of G) command.queue command.op a) (u : Use) → u.queue ≡ queue_of G c → u.stage.0 ≡ role_stage T.touch.role → u.accesses.0 ≡ role_accesses T.touch.role T.touch.whole → u.writes.0 ≡ role_writes T.touch.role → IsDoneBy G heap P c a u
  done_by c command at a T u queue stage accesses writes =
      let node = (command_stands c command at).node in
      let same : command.queue ≡ queue_of G c = sym (queue_at c command at) in
      let runs : op_stage (mapped (piece_of G) command.op) ≡ u.stage.0 =
      ap role_stage (destination_role_mapped (piece_of G) command.op)
      ∙ sym (All-contains (λ (t : Touch). role_stage t.role ≡ op_stage command.op) (touches_of G.shapes command.op) T.touch (touch_stages G.shapes command.op) T.there)
      ∙ sym stage in
      record {
        queue = queue;
        own = ap (λ n. n.queue) node ∙ same;
        waits = ap (λ n. n.src_stages.0) node ∙ runs;
        awaited = ap (λ n. n.dst_stages.0) node ∙ runs;
        by = subst (λ q. IsBy q u a.kind) same (by_touch shapes command.queue (moved (piece_of G) T.touch) u a stage accesses writes T.is);
      }

  -- an image is wanted in the layout of its role
  pub touched_wanted : (c : ℕ) (command : Command) (at : slice_get G.commands c ≡ Some command) (a : Access) (T : IsTouched G.shapes shapes (piece_of G) command.queue command.op a) → wanted a.kind ≡ layout_wanted (shape_at G.shapes T.touch.what) T.touch.role
  touched_wanted c command at a T =
      touch_wanted shapes command.queue (moved (piece_of G) T.touch) a T.is
      ∙ ap (λ shape. layout_wanted shape T.touch.role) (All-contains (λ r. shape_at shapes (piece_of G r) ≡ shape_at G.shapes r) (operands_of command.op) T.touch.what (pieces_same c command at) (touch_operand G.shapes command.op T.touch T.there))

  -- MEMBERS

  module _ (c g : ℕ) (low : g < length G.groups) (M : Member G c g) (a : Access) (h : Has (view_of P) (command_node G heap c) a) (on : a.piece ≡ piece_of G (unit_of G g)) where
    pub done : IsDone G heap P c g a
    done =
        let X = sourced G S.grouped c g low M in
        let at : slice_get G.commands c ≡ Some X.command = subst (λ n. slice_get G.commands n ≡ Some X.command) M.command X.there in
        let I = sourced_use G M.one X in
        let T = touched c X.command a at h in
        let unit : M.one.unit ≡ unit_of G g = All-contains (λ (v : Use). v.unit ≡ unit_of G g) (group_at G g) M.one (unit_each G S.grouped g low) M.there in
        let piece : piece_of G T.touch.what ≡ piece_of G (unit_of G g) = sym (touch_piece shapes X.command.queue (moved (piece_of G) T.touch) a T.is) ∙ on in
        let what : T.touch.what ≡ unit_of G g = count_same (has_piece G) T.touch.what (unit_of G g) (touch_has c X.command T.touch at T.there) (unit_piece G S.grouped g low) piece in
        let apart = entry_of (λ (x : Command). Sort G x) G.commands c X.command S.sorts at in
        let same : I.touch ≡ T.touch = alike G.shapes X.command.op (not_in_place G X.command apart) I.touch T.touch I.there T.there (sym (ap (λ (u : Use). u.unit) I.is) ∙ unit ∙ sym what) in
        record {
          one = M.one;
          there = M.there;
          command = M.command;
          layout = touched_wanted c X.command at a T ∙ ap (λ (t : Touch). layout_wanted (shape_at G.shapes t.what) t.role) (sym same) ∙ sym (ap (λ (u : Use). u.layout) I.is);
          is = done_by c X.command at a T M.one (member_queue G S.grouped c g low M)
              (ap (λ (u : Use). u.stage.0) I.is ∙ ap (λ (t : Touch). role_stage t.role) same)
              (ap (λ (u : Use). u.accesses.0) I.is ∙ ap (λ (t : Touch). role_accesses t.role t.whole) same)
              (ap (λ (u : Use). u.writes.0) I.is ∙ ap (λ (t : Touch). role_writes t.role) same);
        }
