-- What barriers take of commands before them, and give to commands after them.
use Rattle.std.proofs.Common.{◌≡◌, ℕ, suc, ◌+◌, ◌<◌, true, false, List, length, Some, None, refl, sym, ap, ◌∙◌, subst, arith}
use Rattle.std.specs.List.{Contains}
use Rattle.std.specs.Option.{option_map_or}
use Rattle.std.proofs.lemmas.Bool.{false≢true, le-leb, or_left}
use Rattle.base.proofs.Absence.{none_some, some_same}
use Rattle.base.proofs.Lists.{entry_of}
use Rattle.base.specs.Operands.{destination_of}
use Rattle.base.specs.Touches.{destination_role, destination_touch, touches_of}
use Rattle.base.specs.declared.role.Role.TheVariants.{CopyWrite}
use Rattle.base.specs.declared.shape.Shape.{Shape}
use Rattle.base.specs.declared.shape.Shape.TheVariants.{Buffer, Image}
use Rattle.base.specs.declared.touch.Touch.{Touch}
use Rattle.vk.specs.Accesses.{transfer_write}
use Rattle.vk.specs.Roles.{role_stage}
use Rattle.vk.specs.Stages.{copy}
use Rattle.vk.specs.declared.masks.Masks.{Masks}
use Rattle.law_sound.proofs.Barriers.{IsBarrierOf, IsSource, IsDestination, takes, gives}
use Rattle.law_sound.proofs.Commands.{Sort, a_pass, a_copy, not_in_place}
use Rattle.law_sound.proofs.Counting.{count_same}
use Rattle.law_sound.proofs.ExportGroups.{IsExport, copy_parts, not_both}
use Rattle.law_sound.proofs.Exports.{Copies, copies_from}
use Rattle.law_sound.proofs.Grouped.{AreNext, of_unit, of_export, next}
use Rattle.law_sound.proofs.Groups.{next_unit, next_within}
use Rattle.law_sound.proofs.Items.{barrier_stands, item_masks, item_stands, prologue_masks, prologue_serves}
use Rattle.law_sound.proofs.PrologueKinds.{earlier_is, kept_barrier, released_goes}
use Rattle.law_sound.proofs.Members.{IsDoneBy, done, done_by, queue_at, touch_has, touch_piece, touched}
use Rattle.law_sound.proofs.Roles.{IsBy}
use Rattle.law_sound.proofs.Setting.{IsSet}
use Rattle.law_sound.proofs.SpotFacts.{IsMemberOf, of_group, of_copy, member_cases}
use Rattle.law_sound.proofs.Spots.{leaving_item, piece_is, piece_late, release_stands, prologue_is, prologue_late, prologue_stands, has_prologue_is, has_prologue_late}
use Rattle.law_sound.proofs.Touches.{alike, destination_there, moved}
use Rattle.law_sound.proofs.Unions.{barrier_takes, release_takes, barrier_gives, entry_gives}
use Rattle.law_sound.specs.Nodes.{command_node, copied_node, copied_step, item_at, nodes_of, release_node, release_queue, prologue_node, prologue_queue}
use Rattle.law_sound.specs.Plan.{export_at, plan_of, unit_of}
use Rattle.law_plan.specs.Crossings.{Sooner}
use Rattle.law_plan.specs.Masks.{Takes, Gives}
use Rattle.law_plan.specs.Nodes.{Nodes}
use Rattle.law_plan.specs.Plans.{Plan}
use Rattle.law_plan.specs.Spots.{OfMember}
use Rattle.law_schedule.specs.Standing.{StandsFor}
use Rattle.compile_groups.proofs.Operands.{copy_destination}
use Rattle.compile_groups.specs.Commands.{copy_out}
use Rattle.compile_groups.specs.Needs.{group_at, goes_on, is_touched, queue_of}
use Rattle.compile_groups.specs.Uses.{role_writes, use_of}
use Rattle.compile_groups.specs.declared.command.Command as commands
use Rattle.compile_groups.specs.declared.grouping.Grouping.{Grouping}
use Rattle.compile_groups.specs.declared.unit_use.Use.{Use}
use Rattle.check_order.specs.Edges.{node_at}
use Rattle.compile_record.specs.Pieces.{has_piece, is_readback, piece_of}
use Rattle.compile_record.specs.Standing.{IsRecorded, host_item, host_step, prologue_item}
use Rattle.compile_record.specs.Wanted.{is_there}
use Rattle.compile_record.specs.declared.mark.Mark.TheVariants as marks
use Rattle.program.specs.Entries.{OfItem}
use Rattle.program.specs.Rules.{shapes_of}
use Rattle.program.specs.declared.program.Program.{Program}
use Rattle.compile_barriers.specs.Masks.{barrier_masks, release_masks, host_masks}
use Rattle.compile_barriers.specs.Prologues.{earlier, prologue_of}
use Rattle.compile_barriers.specs.Under.{Heap, place_of, uses_under}
use Rattle.compile_barriers.specs.declared.prologue.PrologueKind.{PrologueKind}
use Rattle.compile_barriers.specs.declared.prologue.PrologueKind.TheVariants as kinds
use Rattle.law_valid.proofs.Bits.{Inside, inside_self}
use Rattle.check_access.specs.Views.{View, view_of}
use Rattle.check_access.specs.declared.access.Access.{Access}

-- each prologue gives to the uses after it
kind_gives : (kind : PrologueKind) (A L B : List Use) (q : ℕ) (u : Use) → is_there kind ≡ true → Contains B u → u.queue ≡ q → IsDestination u (item_masks kind A L B q)
kind_gives kinds.Nothing A L B q u t h own = absurd (false≢true t)
kind_gives kinds.Barrier A L B q u t h own = barrier_gives B q u h own A
kind_gives kinds.Transfer A L B q u t h own = entry_gives B q u h own
kind_gives kinds.Alias A L B q u t h own = barrier_gives B q u h own L
kind_gives kinds.Init A L B q u t h own = entry_gives B q u h own
kind_gives kinds.AliasInit A L B q u t h own = entry_gives B q u h own

-- the barrier after a copy takes what a copy stores
host_takes : (u : Use) → u.stage.0 ≡ role_stage CopyWrite → u.writes.0 ≡ role_writes CopyWrite → IsSource u host_masks
host_takes u stage writes = record {
  stage = subst (λ s. Inside s copy) (sym stage) (inside_self copy);
  writes = subst (λ w. Inside w transfer_write) (sym writes) (inside_self transfer_write);
}

copy_role : (shape : Shape) (src dst : ℕ) → destination_role (copy_out shape src dst) ≡ CopyWrite
copy_role (Buffer size) src dst = refl
copy_role (Image width height texel) src dst = refl

module _ (G : Grouping) (heap : Heap) (P : Program) (S : IsSet G heap P) where
  abbrev F : Plan
  F = plan_of G heap

  abbrev V : View
  V = view_of P

  abbrev N : Nodes
  N = nodes_of G heap

  -- ONE BARRIER AND ONE COMMAND

  module _ (t q p : ℕ) (masks : Masks) (B : IsBarrierOf V t q p masks) (c : ℕ) (a : Access) (u : Use) (D : IsDoneBy G heap P c a u) (on : a.piece ≡ p) where
    own_queue : (node_at V.nodes (command_node G heap c)).queue ≡ (node_at V.nodes t).queue → queue_of G c ≡ q
    own_queue same = sym D.own ∙ same ∙ ap (λ n. n.queue) B.node

    pub takes_by : Sooner V.nodes (command_node G heap c) t → (u.queue ≡ q → IsSource u masks) → Takes V (command_node G heap c) a t
    takes_by sooner T = takes V t q p masks B u (command_node G heap c) a D.awaited on (subst (λ r. IsBy r u a.kind) (own_queue sooner.same) D.by) (T (D.queue ∙ own_queue sooner.same))

    pub gives_by : Sooner V.nodes t (command_node G heap c) → (u.queue ≡ q → IsDestination u masks) → Gives V t (command_node G heap c) a
    gives_by sooner T = gives V t q p masks B u (command_node G heap c) a D.waits on (subst (λ r. IsBy r u a.kind) (own_queue (sym sooner.same)) D.by) (T (D.queue ∙ own_queue (sym sooner.same)))

  -- TURNS OF UNITS

  -- the uses that had the bytes of group h before
  abbrev pub before_bytes : ℕ → List Use
  before_bytes h = uses_under G heap (place_of G (unit_of G h))

  abbrev pub prologue_masks_of : PrologueKind → ℕ → Masks
  prologue_masks_of kind h = item_masks kind (earlier G h) (before_bytes h) (group_at G h) (prologue_queue G h)

  prologue_barrier : (h : ℕ) → IsRecorded G heap (marks.Prologue h) → IsBarrierOf V (prologue_node G heap h) (prologue_queue G h) (piece_of G (unit_of G h)) (prologue_masks_of (prologue_of G heap h).kind h)
  prologue_barrier h r = barrier_stands P (prologue_node G heap h) (prologue_queue G h) (piece_of G (unit_of G h)) (prologue_item G heap h) (prologue_masks_of (prologue_of G heap h).kind h)
      (prologue_masks (prologue_of G heap h).kind G (prologue_of G heap h) (earlier G h) (before_bytes h) (group_at G h) refl)
      (prologue_serves (prologue_of G heap h).kind G (prologue_of G heap h) (earlier G h) (group_at G h))
      (prologue_stands G heap P S h r)

  pub own_piece : (g c : ℕ) (a : Access) → g < length G.groups → OfMember F V N c g a → a.piece ≡ piece_of G (unit_of G g)
  own_piece g c a lt O = O.piece ∙ piece_is G heap P S g lt

  -- the prologue after a group that is not released
  takes_unit : (g c : ℕ) (a : Access) → suc g < length G.groups → goes_on G g ≡ true → N.released g ≡ false → OfMember F V N c g a → IsMemberOf G c g → Sooner V.nodes (N.command c) (N.prologue (suc g)) → Takes V (N.command c) a (N.prologue (suc g))
  takes_unit g c a lt goes kept O (of_copy le is k) sooner = absurd (omega (arith, le, lt))
  takes_unit g c a lt goes kept O (of_group low M) sooner =
      let h : ℕ = suc g in
      let kind : (prologue_of G heap h).kind ≡ kinds.Barrier = kept_barrier G S.grouped heap g goes kept in
      let r : IsRecorded G heap (marks.Prologue h) = (lt, ap is_there kind) in
      let D = done G heap P S c g low M a O.has (own_piece g c a low O) in
      let on : a.piece ≡ piece_of G (unit_of G h) = own_piece g c a low O ∙ ap (piece_of G) (next_unit G S.grouped g goes) in
      let masks : prologue_masks_of (prologue_of G heap h).kind h ≡ barrier_masks (group_at G g) (group_at G h) (prologue_queue G h) =
      ap (λ k. prologue_masks_of k h) kind ∙ ap (λ A. barrier_masks A (group_at G h) (prologue_queue G h)) (earlier_is G S.grouped heap g goes) in
      subst (λ t. Takes V (N.command c) a t) (sym (prologue_is G heap P S h lt))
      (takes_by (prologue_node G heap h) (prologue_queue G h) (piece_of G (unit_of G h)) (prologue_masks_of (prologue_of G heap h).kind h) (prologue_barrier h r) c a D.one D.is on
      (subst (λ t. Sooner V.nodes (N.command c) t) (prologue_is G heap P S h lt) sooner)
      (λ own. subst (IsSource D.one) (sym masks) (barrier_takes (group_at G g) (prologue_queue G h) D.one D.there own (group_at G h))))

  -- EXPORTS

  -- the barrier after the copy of export k
  pub copied_is : (k c : ℕ) (C : Copies G k c) → copied_node G heap k ≡ item_at G heap C.command.queue (host_step G heap c C.command)
  copied_is k c C =
      let same = S.copied.once k c C in
      ap (λ d. item_at G heap (queue_of G d) (copied_step G heap d)) same
      ∙ ap (λ q. item_at G heap q (copied_step G heap c)) (queue_at G heap P S c C.command C.there)
      ∙ ap (λ o. item_at G heap C.command.queue (option_map_or (host_step G heap c) o 0)) C.there

  pub copied_stands : (k c : ℕ) (C : Copies G k c) → StandsFor P (copied_node G heap k) (OfItem C.command.queue (host_item G C.command))
  copied_stands k c C =
      subst (λ n. StandsFor P n (OfItem C.command.queue (host_item G C.command))) (sym (copied_is k c C))
      (item_stands G heap P S.stand S.script (host_step G heap c C.command) C.command.queue None (host_item G C.command) (S.standing.each_copy c k C.command C.there C.export))

  -- it is on the buffer of the export
  pub copied_to : (k c : ℕ) (C : Copies G k c) → Sort G C.command → (destination_of C.command.op ≡ length G.imports + k) × (destination_role C.command.op ≡ CopyWrite)
  copied_to k c C (a_pass none operands apart) = absurd (none_some (sym none ∙ C.export))
  copied_to k c C (a_copy j unit shape below lt is op from to) =
      let same : j ≡ k = some_same (sym is ∙ C.export) in
      (ap destination_of op ∙ copy_destination shape unit (length G.imports + j) ∙ ap (λ n. length G.imports + n) same, ap destination_role op ∙ copy_role shape unit (length G.imports + j))

  takes_copy : (g c : ℕ) (a : Access) → IsExport G g (export_at G g) → Copies G (export_at G g) c → OfMember F V N c g a → Sooner V.nodes (N.command c) (copied_node G heap (export_at G g)) → Takes V (N.command c) a (copied_node G heap (export_at G g))
  takes_copy g c a X C O sooner =
      let k : ℕ = export_at G g in
      let r : ℕ = length G.imports + k in
      let sort = entry_of (λ (x : commands.Command). Sort G x) G.commands c C.command S.sorts C.there in
      let to = copied_to k c C sort in
      let T = touched G heap P S c C.command a C.there O.has in
      let on : a.piece ≡ piece_of G r = O.piece ∙ piece_late G heap P S g k X in
      let buffer : has_piece G r ≡ true = or_left (is_readback G r) (is_touched G r) (le-leb (length G.imports) r (omega arith)) in
      let what : T.touch.what ≡ r = count_same (has_piece G) T.touch.what r (touch_has G heap P S c C.command T.touch C.there T.there) buffer (sym (touch_piece (shapes_of P) C.command.queue (moved (piece_of G) T.touch) a T.is) ∙ on) in
      let last : Contains (touches_of G.shapes C.command.op) (destination_touch G.shapes C.command.op) = destination_there G.shapes C.command.op in
      let same : T.touch ≡ destination_touch G.shapes C.command.op = alike G.shapes C.command.op (not_in_place G C.command sort) T.touch (destination_touch G.shapes C.command.op) T.there last (what ∙ sym to.0) in
      let role : T.touch.role ≡ CopyWrite = ap (λ (t : Touch). t.role) same ∙ to.1 in
      let u : Use = use_of G.shapes c (queue_of G c) 0 T.touch in
      let D : IsDoneBy G heap P c a u = done_by G heap P S c C.command C.there a T u refl refl refl refl in
      let B : IsBarrierOf V (copied_node G heap k) C.command.queue (piece_of G r) host_masks = barrier_stands P (copied_node G heap k) C.command.queue (piece_of G r) (host_item G C.command) host_masks refl (ap (piece_of G) to.0) (copied_stands k c C) in
      takes_by (copied_node G heap k) C.command.queue (piece_of G r) host_masks B c a u D on sooner
      (λ own. host_takes u (ap role_stage role) (ap role_writes role))

  -- THE CLAUSES

  takes_next : (g c : ℕ) (a : Access) → AreNext G g → N.released g ≡ false → OfMember F V N c g a → Sooner V.nodes (N.command c) (N.prologue (suc g)) → Takes V (N.command c) a (N.prologue (suc g))
  takes_next g c a (of_unit lt goes) kept O sooner = takes_unit g c a lt goes kept O (member_cases G heap P S c g O.member) sooner
  takes_next g c a (of_export le copy read same) kept O sooner = go (member_cases G heap P S c g O.member)
    where
      prologue : N.prologue (suc g) ≡ copied_node G heap (export_at G g)
      prologue = prologue_late G heap P S (suc g) (omega (arith, le)) ∙ ap (copied_node G heap) (sym same)

      go : IsMemberOf G c g → Takes V (N.command c) a (N.prologue (suc g))
      go (of_group low M) = absurd (omega (arith, low, le))
      go (of_copy past is k) = subst (λ t. Takes V (N.command c) a t) (sym prologue)
          (takes_copy g c a (copy_parts G g copy) (copies_from G (export_at G g) c k) O (subst (λ t. Sooner V.nodes (N.command c) t) prologue sooner))

  pub takes_prologue : (g c : ℕ) (a : Access) → F.piece g ≡ F.piece (g + 1) → N.released g ≡ false → OfMember F V N c g a → Sooner V.nodes (N.command c) (N.prologue (g + 1)) → Takes V (N.command c) a (N.prologue (g + 1))
  takes_prologue g c a e kept O sooner =
      let number : g + 1 ≡ suc g = omega arith in
      subst (λ h. Takes V (N.command c) a (N.prologue h)) (sym number)
      (takes_next g c a (next G S.grouped S.known g (e ∙ ap F.piece number)) kept O (subst (λ h. Sooner V.nodes (N.command c) (N.prologue h)) number sooner))

  pub takes_release : (g c : ℕ) (a : Access) → N.released g ≡ true → OfMember F V N c g a → Sooner V.nodes (N.command c) (N.release g) → Takes V (N.command c) a (N.release g)
  takes_release g c a r O sooner = go (member_cases G heap P S c g O.member)
    where
      goes : goes_on G g ≡ true
      goes = released_goes G S.grouped heap g r

      p : ℕ
      p = piece_of G (unit_of G (suc g))

      masks : Masks
      masks = release_masks (group_at G g) (release_queue G g)

      go : IsMemberOf G c g → Takes V (N.command c) a (N.release g)
      go (of_copy le is k) = absurd (let within = next_within G S.grouped g goes in omega (arith, le, within))
      go (of_group low M) =
          let D = done G heap P S c g low M a O.has (own_piece g c a low O) in
          let B : IsBarrierOf V (release_node G heap g) (release_queue G g) p masks = barrier_stands P (release_node G heap g) (release_queue G g) p (leaving_item G heap P S g) masks refl refl (release_stands G heap P S g (low, r)) in
          takes_by (release_node G heap g) (release_queue G g) p masks B c a D.one D.is (own_piece g c a low O ∙ ap (piece_of G) (next_unit G S.grouped g goes)) sooner
          (λ own. release_takes (group_at G g) (release_queue G g) D.one D.there own)

  pub gives_prologue : (h d : ℕ) (b : Access) → N.has_prologue h ≡ true → OfMember F V N d h b → Sooner V.nodes (N.prologue h) (N.command d) → Gives V (N.prologue h) (N.command d) b
  gives_prologue h d b t O sooner = go (member_cases G heap P S d h O.member)
    where
      go : IsMemberOf G d h → Gives V (N.prologue h) (N.command d) b
      go (of_copy le is k) = absurd (not_both G h is (sym (has_prologue_late G heap P S h le) ∙ t))
      go (of_group low M) =
          let there : is_there (prologue_of G heap h).kind ≡ true = sym (has_prologue_is G heap P S h low) ∙ t in
          let D = done G heap P S d h low M b O.has (own_piece h d b low O) in
          subst (λ n. Gives V n (N.command d) b) (sym (prologue_is G heap P S h low))
          (gives_by (prologue_node G heap h) (prologue_queue G h) (piece_of G (unit_of G h)) (prologue_masks_of (prologue_of G heap h).kind h) (prologue_barrier h (low, there)) d b D.one D.is (own_piece h d b low O)
          (subst (λ n. Sooner V.nodes n (N.command d)) (prologue_is G heap P S h low) sooner)
          (λ own. kind_gives (prologue_of G heap h).kind (earlier G h) (before_bytes h) (group_at G h) (prologue_queue G h) D.one there D.there own))
