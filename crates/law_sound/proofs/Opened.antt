-- What the nodes of a compiled frame are.
use Rattle.std.proofs.Common.{◌≡◌, ⊎_elim, inl, inr, ℕ, suc, ◌-◌, ◌%◌, ◌<◌, ◌≤◌, ◌==◌, nat_lt, not, true, length, get_or, Some, refl, sym, ap, ◌∙◌, subst, arith}
use Rattle.std.specs.List.{filter, range_with_len}
use Rattle.std.specs.Prelude.{slice_get}
use Rattle.std.proofs.lemmas.Bool.{and_parts, cases_lt, ltb-false, ltb-true, not-true}
use Rattle.std.proofs.lemmas.List.{length-map}
use Rattle.std.proofs.lemmas.List.Sums.{length-filter}
use Rattle.std.proofs.lemmas.Option.{slice_get-get_or}
use Rattle.base.specs.Operands.{mapped}
use Rattle.base.specs.declared.op.Op.{Op}
use Rattle.base.specs.declared.role.Role.TheVariants.{CopyRead}
use Rattle.law_sound.proofs.Counting.{count_late}
use Rattle.law_sound.proofs.Exports.{AreCopied, copies_from}
use Rattle.law_sound.proofs.Groups.{member_of, next_within, some_use, sourced}
use Rattle.law_sound.proofs.PrologueKinds.{released_goes}
use Rattle.law_sound.proofs.Places.{member_late, member_unit, release_at, prologue_late, prologue_unit, has_prologue_late, has_prologue_unit}
use Rattle.law_sound.proofs.Stages.{OpensBy, group_stages, last_stages, prologue_opens}
use Rattle.law_sound.proofs.Steps.{ItemAt, command_at, copy_at, item_there, prologue_at}
use Rattle.law_sound.specs.Nodes.{command_node, copied_step, copy_of, item_at, nodes_of, read_node, release_queue, steps, prologue_queue}
use Rattle.law_sound.specs.Plan.{export_at, export_count, group_count, is_of_export, is_of_unit, is_read, plan_of, uses_in_group}
use Rattle.law_plan.specs.Nodes.{IsBarrier, IsCommand, Roles}
use Rattle.law_schedule.specs.Opens.{AreOpen}
use Rattle.law_schedule.specs.Standing.{AllStand, StandsFor}
use Rattle.compile_groups.specs.Laws.{IsGrouped}
use Rattle.compile_groups.specs.Needs.{group_at, queue_of}
use Rattle.compile_groups.specs.declared.command.Command as commands
use Rattle.compile_groups.specs.declared.grouping.Grouping.{Grouping}
use Rattle.check_order.specs.Edges.{is_host, is_sync, node_at}
use Rattle.check_order.specs.Nodes.{item_node, program_nodes}
use Rattle.compile_record.specs.Items.{transfer}
use Rattle.compile_record.specs.Pieces.{is_readback, piece_of, readbacks, resources}
use Rattle.compile_record.specs.Standing.{IsStanding, host_item, step, prologue_item}
use Rattle.compile_record.specs.Wanted.{is_there}
use Rattle.compile_record.specs.declared.mark.Mark.TheVariants.{Command, Prologue as OfPrologue, Release}
use Rattle.program.specs.Barriers.{masks_of}
use Rattle.program.specs.Entries.{OfItem}
use Rattle.program.specs.declared.program.Item.{Item}
use Rattle.program.specs.declared.program.Item.TheVariants as item
use Rattle.program.specs.declared.program.Program.{Program}
use Rattle.vk.specs.declared.masks.Masks.{Masks}
use Rattle.compile_timeline.specs.Steps.{IsScript}
use Rattle.compile_barriers.specs.Masks.{host_masks, release_masks}
use Rattle.compile_barriers.specs.Prologues.{prologue_of}
use Rattle.compile_barriers.specs.Under.{Heap}
use Rattle.check_access.specs.Views.{view_of}

sync_by : (q : ℕ) (it : Item) (masks : Masks) → masks_of it ≡ Some masks → is_sync (item_node q it).kind ≡ true
sync_by q (item.Command op) masks e = absurd cc
sync_by q (item.Global m) masks e = refl
sync_by q (item.BufferBarrier piece m) masks e = refl
sync_by q (item.ImageBarrier piece layouts m) masks e = refl
sync_by q (item.Release t) masks e = refl
sync_by q (item.Acquire t) masks e = refl

-- the barrier after a copy
pub host_opens : (G : Grouping) (command : commands.Command) → OpensBy (host_item G command)
host_opens G command = record { masks = host_masks; is = refl; from = (CopyRead, refl); to = inr refl }

-- the export of the group of a host read
pub read_export : (G : Grouping) (g : ℕ) → is_read G g ≡ true → (length G.groups ≤ g) × (export_at G g < export_count G)
read_export G g e =
    let both = and_parts (is_of_export G g) ((g - length G.groups) % 2 == 1) e in
    let parts = and_parts (not (is_of_unit G g)) (nat_lt g (group_count G)) both.0 in
    let low : length G.groups ≤ g = ltb-false g (length G.groups) (not-true (is_of_unit G g) parts.0) in
    let high : g < group_count G = ltb-true g (group_count G) parts.1 in
    (low, omega (arith, low, high))

-- the host reads one piece for each export
pub read_count : (G : Grouping) → length (readbacks G) ≡ export_count G
read_count G =
    length-map (filter (is_readback G) (resources G)) (piece_of G)
    ∙ length-filter (is_readback G) (range_with_len 0 (length G.shapes))
    ∙ count_late (length G.imports) (length G.shapes)

module _ (G : Grouping) (L : IsGrouped G) (heap : Heap) (S : IsStanding G heap) (P : Program) (T : AllStand P (steps G heap) (length G.families)) (opens : AreOpen P) (K : IsScript (steps G heap) (length G.families)) where
  pub item_stands : (q i : ℕ) (it : Item) → ItemAt G heap q i it → StandsFor P (item_at G heap q i) (OfItem q it)
  item_stands q i it at = T.item q i it (K.items i q (item_there (steps G heap) q i it at)) at

  pub is_barrier : (q i : ℕ) (it : Item) → ItemAt G heap q i it → OpensBy it → IsBarrier (view_of P) (item_at G heap q i)
  is_barrier q i it at O =
      let F = item_stands q i it at in
      record {
        sync = ap (λ z. is_sync z.kind) F.node ∙ sync_by q it O.masks O.is;
        opened = opens.barrier (item_at G heap q i) q it O.masks O.is F O.from O.to;
      }

  is_command : (c : ℕ) (command : commands.Command) → slice_get G.commands c ≡ Some command → IsCommand (view_of P) (command_node G heap c)
  is_command c command e =
      let op : Op ℕ = mapped (piece_of G) command.op in
      let F = item_stands (queue_of G c) (step G heap (Command c)) (item.Command (mapped (piece_of G) command.op)) (command_at G heap S c command e) in
      record { kind = ap (λ z. z.kind) F.node; opened = opens.command (command_node G heap c) (queue_of G c) (mapped (piece_of G) command.op) F }

  -- a member is a command that is there
  pub member_there : (c g : ℕ) → uses_in_group G c g ≡ true → (command : commands.Command) × (slice_get G.commands c ≡ Some command)
  member_there c g e = ⊎_elim
      (λ lt. let M = member_of G L c g (member_unit G heap c g lt e) in let s = sourced G L c g lt M in (s.command, ap (slice_get G.commands) (sym M.command) ∙ s.there))
      (λ le. let C = copies_from G (export_at G g) c (member_late G heap c g le e).1 in (C.command, C.there))
      (cases_lt g (length G.groups))

  release_opens : (g : ℕ) → g < length G.groups → OpensBy (item.Release (transfer G (group_at G g) (group_at G (suc g)) (release_masks (group_at G g) (release_queue G g))))
  release_opens g lt =
      let R = last_stages (group_at G g) (group_stages G L g) (some_use G L g lt) in
      record { masks = release_masks (group_at G g) (release_queue G g); is = refl; from = R; to = inl R }

  module _ (A : AreCopied G) (read_of : P.readbacks ≡ readbacks G) where
    prologues : (h : ℕ) → (nodes_of G heap).has_prologue h ≡ true → IsBarrier (view_of P) ((nodes_of G heap).prologue h)
    prologues h t = ⊎_elim unit late (cases_lt h (length G.groups))
      where
        unit : h < length G.groups → IsBarrier (view_of P) ((nodes_of G heap).prologue h)
        unit lt =
            let there : is_there (prologue_of G heap h).kind ≡ true = sym (has_prologue_unit G heap h lt) ∙ t in
            subst (λ n. IsBarrier (view_of P) n) (sym (prologue_unit G heap h lt))
            (is_barrier (prologue_queue G h) (step G heap (OfPrologue h)) (prologue_item G heap h) (prologue_at G heap S h (lt, there)) (prologue_opens G L heap h lt there))

        late : length G.groups ≤ h → IsBarrier (view_of P) ((nodes_of G heap).prologue h)
        late le =
            let k = read_export G h (sym (has_prologue_late G heap h le) ∙ t) in
            let C = A.each (export_at G h) k.1 in
            subst (λ n. IsBarrier (view_of P) n) (sym (prologue_late G heap h le))
            (is_barrier (queue_of G (copy_of G (export_at G h))) (copied_step G heap (copy_of G (export_at G h))) (host_item G C.command) (copy_at G heap S (copy_of G (export_at G h)) (export_at G h) C.command C.there C.export) (host_opens G C.command))

    reader : (h : ℕ) → is_read G h ≡ true → is_host (node_at (program_nodes P) (read_node G heap (export_at G h))).kind ≡ true
    reader h e =
        let k = read_export G h e in
        let low = k.1 in
        let count = read_count G in
        let at : slice_get P.readbacks (export_at G h) ≡ Some (get_or (readbacks G) (export_at G h) 0) = ap (λ l. slice_get l (export_at G h)) read_of ∙ slice_get-get_or (readbacks G) (export_at G h) 0 (omega (arith, count, low)) in
        let F = T.read (export_at G h) (get_or (readbacks G) (export_at G h) 0) at in
        ap (λ z. is_host z.kind) F.node

    pub have_roles : Roles (plan_of G heap) (view_of P) (nodes_of G heap)
    have_roles = record {
      commands = λ c g e. let m = member_there c g e in is_command c m.0 m.1;
      prologues = prologues;
      releases = λ g r.
          let within = next_within G L g (released_goes G L heap g r) in
          is_barrier (release_queue G g) (step G heap (Release g)) (item.Release (transfer G (group_at G g) (group_at G (suc g)) (release_masks (group_at G g) (release_queue G g)))) (release_at G L heap S g r) (release_opens g (omega (arith, within)));
      readers = reader;
    }
