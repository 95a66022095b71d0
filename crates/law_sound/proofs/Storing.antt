-- Which groups store.
use Rattle.std.proofs.Common.{◌≡◌, ⊎_elim, ℕ, ◌<◌, ◌≤◌, ◌==◌, not, Bool, true, List, length, get_or, slice_get, if◌then◌else◌, Some, refl, sym, ap, ◌∙◌, eq-eqb}
use Rattle.std.specs.List.{Contains, list_any}
use Rattle.std.proofs.lemmas.Bool.{and_from, cases_lt, false≢true, le-ltb, lt-ltb}
use Rattle.std.proofs.lemmas.List.Folds.{list_any_at, Any-from_list_any}
use Rattle.base.proofs.Lists.{entry_of}
use Rattle.base.specs.Operands.{mapped}
use Rattle.base.specs.Shapes.{shape_at}
use Rattle.base.specs.Touches.{destination_touch, touches_of}
use Rattle.base.specs.declared.role.Role.{Role}
use Rattle.base.specs.declared.role.Role.TheVariants.{CopyRead, CopyWrite, ClearWrite, Sampled, StorageRead, StorageWrite, Attachment}
use Rattle.base.specs.declared.shape.Shape.{Shape}
use Rattle.base.specs.declared.touch.Touch.{Touch}
use Rattle.vk.specs.Accesses.{transfer_write, shader_storage_write, color_attachment_write}
use Rattle.vk.specs.Roles.{store_access, layout_wanted}
use Rattle.law_sound.proofs.Commands.{Sort}
use Rattle.law_sound.proofs.ExportGroups.{copy_parts}
use Rattle.law_sound.proofs.Exports.{Copies}
use Rattle.law_sound.proofs.Groups.{Member, sourced, unit_each}
use Rattle.law_sound.proofs.Members.{command_stands, done, pieces_same}
use Rattle.law_sound.proofs.Roles.{changes_write}
use Rattle.law_sound.proofs.Served.{copied_to}
use Rattle.law_sound.proofs.Setting.{IsSet}
use Rattle.law_sound.proofs.SpotFacts.{IsMemberOf, of_group, of_copy, entry_got, member_cases}
use Rattle.law_sound.proofs.Spots.{copies_is, member_is, member_late, piece_is, piece_late}
use Rattle.law_sound.proofs.Touches.{destination_there, moved, storing, touched_there}
use Rattle.law_sound.proofs.Uses.{sourced_use}
use Rattle.law_sound.specs.Nodes.{command_node, copy_of, nodes_of}
use Rattle.law_sound.specs.Plan.{export_at, is_copy, is_copy_of, is_of_unit, plan_of, unit_of}
use Rattle.law_plan.specs.Nodes.{Nodes}
use Rattle.law_plan.specs.Plans.{Plan}
use Rattle.law_plan.specs.Spots.{OfMember}
use Rattle.compile_groups.specs.Needs.{group_at, queue_of}
use Rattle.compile_groups.specs.Uses.{is_write, role_writes}
use Rattle.compile_groups.specs.declared.command.Command as commands
use Rattle.compile_groups.specs.declared.grouping.Grouping.{Grouping}
use Rattle.compile_groups.specs.declared.unit_use.Use.{Use}
use Rattle.compile_record.specs.Pieces.{piece_of}
use Rattle.program.specs.Rules.{shapes_of}
use Rattle.program.specs.declared.program.Program.{Program}
use Rattle.compile_barriers.specs.Under.{Heap}
use Rattle.check_access.specs.AccessKinds.{changes}
use Rattle.check_access.specs.Effects.{access, command_accesses, role_agent}
use Rattle.check_access.specs.ValidView.{Has}
use Rattle.check_access.specs.Views.{View, view_of}
use Rattle.check_access.specs.declared.access.Access.{Access}
use Rattle.check_access.specs.declared.access.AccessKind.TheVariants as access_kinds

-- a role with writes stores
write_stores : (role : Role) → not (role_writes role == 0) ≡ true → (bits : ℕ) × (store_access role ≡ Some bits)
write_stores CopyRead e = absurd (false≢true e)
write_stores CopyWrite e = (transfer_write, refl)
write_stores ClearWrite e = (transfer_write, refl)
write_stores Sampled e = absurd (false≢true e)
write_stores StorageRead e = absurd (false≢true e)
write_stores StorageWrite e = (shader_storage_write, refl)
write_stores (Attachment load) e = (color_attachment_write, refl)

module _ (G : Grouping) (heap : Heap) (P : Program) (S : IsSet G heap P) where
  abbrev F : Plan
  F = plan_of G heap

  abbrev V : View
  V = view_of P

  abbrev N : Nodes
  N = nodes_of G heap

  abbrev shapes : List Shape
  shapes = shapes_of P

  -- a use of it writes, or it is that of a copy
  abbrev pub group_stores : ℕ → Bool
  group_stores g = if is_of_unit G g then list_any is_write (group_at G g) else is_copy G g

  pub stores_low : (g : ℕ) → g < length G.groups → group_stores g ≡ list_any is_write (group_at G g)
  stores_low g lt = ap (λ b. if b then list_any is_write (group_at G g) else is_copy G g) (lt-ltb g (length G.groups) lt)

  pub stores_late : (g : ℕ) → length G.groups ≤ g → group_stores g ≡ is_copy G g
  stores_late g le = ap (λ b. if b then list_any is_write (group_at G g) else is_copy G g) (le-ltb g (length G.groups) le)

  -- a command stores by a touch of its operation
  stored : (c : ℕ) (command : commands.Command) (at : slice_get G.commands c ≡ Some command) (t : Touch) → Contains (touches_of G.shapes command.op) t → (bits : ℕ) → store_access t.role ≡ Some bits → Has V (command_node G heap c) (access (piece_of G t.what) (access_kinds.Store (role_agent command.queue t.role bits) (layout_wanted (shape_at shapes (piece_of G t.what)) t.role)))
  stored c command at t h bits e =
      let a : Access = access (piece_of G t.what) (access_kinds.Store (role_agent command.queue t.role bits) (layout_wanted (shape_at shapes (piece_of G t.what)) t.role)) in
      let listed : Contains (command_accesses shapes command.queue (mapped (piece_of G) command.op)) a = touched_there G.shapes shapes (piece_of G) command.queue command.op (pieces_same G heap P S c command at) t h a (storing shapes command.queue (moved (piece_of G) t) bits e) in
      let E = entry_got (command_accesses shapes command.queue (mapped (piece_of G) command.op)) a listed in
      (E.0, ap (λ x. slice_get x.accesses E.0) (command_stands G heap P S c command at).effect ∙ E.1)

  unit_there : (g : ℕ) → g < length G.groups → list_any is_write (group_at G g) ≡ true → (c : ℕ) × (a : Access) × OfMember F V N c g a × (changes a.kind ≡ true)
  unit_there g lt e = go (Any-from_list_any is_write (group_at G g) e)
    where
      go : (k : ℕ) × (u : Use) × (k < length (group_at G g)) × (get_or (group_at G g) k u ≡ u) × (is_write u ≡ true) → (c : ℕ) × (a : Access) × OfMember F V N c g a × (changes a.kind ≡ true)
      go (k, u, below, at, w) =
          let M : Member G u.command g = record { one = u; there = (k, below, at); command = refl } in
          let X = sourced G S.grouped u.command g lt M in
          let I = sourced_use G u X in
          let writes : not (role_writes I.touch.role == 0) ≡ true = sym (ap is_write I.is) ∙ w in
          let B = write_stores I.touch.role writes in
          let a : Access = access (piece_of G I.touch.what) (access_kinds.Store (role_agent X.command.queue I.touch.role B.0) (layout_wanted (shape_at shapes (piece_of G I.touch.what)) I.touch.role)) in
          let unit : I.touch.what ≡ unit_of G g = sym (ap (λ (v : Use). v.unit) I.is) ∙ sym (ap (λ (v : Use). v.unit) at) ∙ unit_each G S.grouped g lt k u below in (
            u.command,
            a,
            record {
              member = member_is G heap P S u.command g lt ∙ list_any_at (λ (v : Use). v.command == u.command) (group_at G g) k u below (ap (λ (v : Use). v.command == u.command) at ∙ eq-eqb u.command u.command refl);
              has = stored u.command X.command X.there I.touch I.there B.0 B.1;
              plain = refl;
              piece = ap (piece_of G) unit ∙ sym (piece_is G heap P S g lt);
            },
            refl,
          )

  copy_there : (g : ℕ) → is_copy G g ≡ true → (c : ℕ) × (a : Access) × OfMember F V N c g a × (changes a.kind ≡ true)
  copy_there g e =
      let X = copy_parts G g e in
      let k : ℕ = export_at G g in
      let c : ℕ = copy_of G k in
      let C : Copies G k c = S.copied.each k X.known in
      let to = copied_to G heap P S k c C (entry_of (λ (x : commands.Command). Sort G x) G.commands c C.command S.sorts C.there) in
      let t : Touch = destination_touch G.shapes C.command.op in
      let store : store_access t.role ≡ Some transfer_write = ap store_access to.1 in
      let a : Access = access (piece_of G t.what) (access_kinds.Store (role_agent C.command.queue t.role transfer_write) (layout_wanted (shape_at shapes (piece_of G t.what)) t.role)) in (
        c,
        a,
        record {
          member = member_late G heap P S c g X.past ∙ and_from (is_copy G g) (is_copy_of G k c) e (copies_is G heap P S c k C.command C.there C.export);
          has = stored c C.command C.there t (destination_there G.shapes C.command.op) transfer_write store;
          plain = refl;
          piece = ap (piece_of G) to.0 ∙ sym (piece_late G heap P S g k X);
        },
        refl,
      )

  pub stores_there : (g : ℕ) → group_stores g ≡ true → (c : ℕ) × (a : Access) × OfMember F V N c g a × (changes a.kind ≡ true)
  stores_there g e = ⊎_elim (λ lt. unit_there g lt (sym (stores_low g lt) ∙ e)) (λ le. copy_there g (sym (stores_late g le) ∙ e)) (cases_lt g (length G.groups))

  pub stores_known : (c g : ℕ) (a : Access) → OfMember F V N c g a → changes a.kind ≡ true → group_stores g ≡ true
  stores_known c g a O k = go (member_cases G heap P S c g O.member)
    where
      go : IsMemberOf G c g → group_stores g ≡ true
      go (of_copy le copy is) = stores_late g le ∙ copy
      go (of_group lt M) =
          let D = done G heap P S c g lt M a O.has (O.piece ∙ piece_is G heap P S g lt) in
          let there = D.there in
          stores_low g lt ∙ list_any_at is_write (group_at G g) there.0 D.one there.1 (ap is_write there.2 ∙ changes_write (queue_of G c) D.one a.kind D.is.by k)
