-- Each access of a compiled program is of a group: of its prologue, a member, its release or its host read.
use Rattle.std.proofs.Common.{◌≡◌, ◌⊎◌, inl, inr, ⊎_elim, ℕ, zero, suc, ◌+◌, ◌<◌, ◌≤◌, ◌==◌, ◌&&◌, true, false, List, [], ◌∷◌, length, slice_get, if◌then◌else◌, Option, Some, None, refl, sym, ap, ◌∙◌, subst, eq-eqb, arith}
use Rattle.std.specs.List.{All, Contains}
use Rattle.std.specs.Option.{option_map_or}
use Rattle.std.proofs.lemmas.Bool.{and_from, cases_lt, le-ltb, lt-ltb}
use Rattle.std.proofs.lemmas.List.{get_or_past, length-map}
use Rattle.std.proofs.lemmas.List.Elements.{All-contains}
use Rattle.std.proofs.lemmas.List.Folds.{list_any_at}
use Rattle.base.proofs.Lists.{entry_of, one}
use Rattle.base.specs.Operands.{operands_of, mapped}
use Rattle.base.specs.Touches.{touches_of}
use Rattle.base.specs.declared.shape.Shape.{Shape}
use Rattle.base.specs.declared.shape.Shape.TheVariants.{Buffer, Image}
use Rattle.base.specs.declared.touch.Touch.{Touch}
use Rattle.law_sound.proofs.Commands.{Sort, a_pass, a_copy}
use Rattle.law_sound.proofs.ExportGroups.{IsExport, copy_export, copy_group, copy_is, read_export, read_group, read_is}
use Rattle.law_sound.proofs.Grouped.{resource_export, resource_unit}
use Rattle.law_sound.proofs.Groups.{next_unit}
use Rattle.law_sound.proofs.Items.{IsEntry, IsMarkedAt, item_marked, item_stands, prologue_entries}
use Rattle.law_sound.proofs.PrologueKinds.{released_goes}
use Rattle.law_sound.proofs.Members.{found_unit, queue_at, touch_piece, touch_plain, touched, use_group}
use Rattle.law_sound.proofs.Pieces.{read_back}
use Rattle.law_sound.proofs.Setting.{IsSet}
use Rattle.law_sound.proofs.Touches.{moved, touch_operand}
use Rattle.law_sound.proofs.Uses.{used_by}
use Rattle.law_sound.specs.Nodes.{command_node, copied_node, item_at, nodes_of, read_node, release_node, release_queue, steps, prologue_node, prologue_queue}
use Rattle.law_sound.specs.Plan.{export_at, exports, is_copy, is_copy_of, is_read, plan_of, unit_of}
use Rattle.law_plan.specs.Kinds.{is_plain, is_release}
use Rattle.law_plan.specs.Nodes.{Nodes}
use Rattle.law_plan.specs.Plans.{Plan}
use Rattle.law_plan.specs.Spots.{OfPrologue, OfRelease, Spot, at_prologue, at_member, at_release, at_reader}
use Rattle.law_schedule.specs.Standing.{IsOneOf, as_wait, as_item, as_signal, as_read, StandsFor, read_number}
use Rattle.compile_groups.specs.Commands.{copy_out}
use Rattle.compile_groups.specs.Needs.{group_at, group_of, is_member}
use Rattle.compile_groups.specs.declared.command.Command as commands
use Rattle.compile_groups.specs.declared.grouping.Grouping.{Grouping}
use Rattle.compile_groups.specs.declared.unit_use.Use.{Use}
use Rattle.check_order.specs.Nodes.{entry_node, program_nodes}
use Rattle.compile_record.proofs.Entries.{entry_there}
use Rattle.compile_record.specs.Items.{transfer}
use Rattle.compile_record.specs.Pieces.{piece_of}
use Rattle.compile_record.specs.Script.{script}
use Rattle.compile_record.specs.Standing.{IsKnown, by_mark, by_alias, by_copy, IsRecorded, StandsAt, step, prologue_item}
use Rattle.compile_record.specs.Wanted.{is_there}
use Rattle.compile_record.specs.declared.mark.Mark.{Mark}
use Rattle.compile_record.specs.declared.mark.Mark.TheVariants.{Command, Prologue as OfPrologueMark, Release}
use Rattle.compile_record.specs.declared.mark.Marked.TheVariants.{Does}
use Rattle.program.specs.Entries.{OfItem, entries_of}
use Rattle.program.specs.Rules.{shapes_of}
use Rattle.program.specs.declared.program.Item.{Item}
use Rattle.program.specs.declared.program.Item.TheVariants as item
use Rattle.program.specs.declared.program.Program.{Program}
use Rattle.compile_barriers.specs.Masks.{release_masks}
use Rattle.compile_barriers.specs.Prologues.{earlier, prologue_of}
use Rattle.compile_barriers.specs.Under.{Heap}
use Rattle.check_access.proofs.Endings.{nothing_there}
use Rattle.check_access.specs.Effects.{access, entry_effect, handover_of, item_effect, no_effect}
use Rattle.check_access.specs.ValidView.{Has}
use Rattle.check_access.specs.Views.{View, accesses_of, view_of}
use Rattle.check_access.specs.declared.access.Access.{Access}
use Rattle.check_access.specs.declared.access.AccessKind.TheVariants as access_kinds
use Rattle.check_access.specs.declared.access.Agent.TheVariants as agent

-- the operands of a copy
two : (a b r : ℕ) → Contains (a ∷ b ∷ []) r → (r ≡ a) ⊎ (r ≡ b)
two a b r (zero, lt, at) = inl (sym at)
two a b r (suc zero, lt, at) = inr (sym at)
two a b r (suc (suc k), lt, at) = absurd (omega (arith, lt))

copy_operands : (shape : Shape) (src dst r : ℕ) → Contains (operands_of (copy_out shape src dst)) r → (r ≡ src) ⊎ (r ≡ dst)
copy_operands (Buffer size) src dst r h = two src dst r h
copy_operands (Image width height texel) src dst r h = two src dst r h

-- of a release, on the piece
record IsLeaving (p : ℕ) (a : Access) : Type 0 where
  release : is_release a.kind ≡ true
  piece : a.piece ≡ p

-- of a host read, on the piece
record IsReading (p : ℕ) (a : Access) : Type 0 where
  plain : is_plain a.kind ≡ true
  piece : a.piece ≡ p

some_item : (q r : ℕ) (x y : Option Mark) (a b : Item) → Some (Does q x a) ≡ Some (Does r y b) → (q ≡ r) × (a ≡ b)
some_item q r x y a b e = (cc, cc)

module _ (G : Grouping) (heap : Heap) (P : Program) (S : IsSet G heap P) where
  abbrev F : Plan
  F = plan_of G heap

  abbrev V : View
  V = view_of P

  abbrev N : Nodes
  N = nodes_of G heap

  abbrev shapes : List Shape
  shapes = shapes_of P

  -- GROUPS OF UNITS

  pub prologue_is : (g : ℕ) → g < length G.groups → N.prologue g ≡ prologue_node G heap g
  prologue_is g lt = ap (λ b. if b then prologue_node G heap g else copied_node G heap (export_at G g)) (lt-ltb g (length G.groups) lt)

  pub has_prologue_is : (g : ℕ) → g < length G.groups → N.has_prologue g ≡ is_there (prologue_of G heap g).kind
  has_prologue_is g lt = ap (λ b. if b then is_there (prologue_of G heap g).kind else is_read G g) (lt-ltb g (length G.groups) lt)

  pub member_is : (c g : ℕ) → g < length G.groups → F.member c g ≡ is_member G c g
  member_is c g lt = ap (λ b. if b then is_member G c g else (is_copy G g && is_copy_of G (export_at G g) c)) (lt-ltb g (length G.groups) lt)

  pub piece_is : (g : ℕ) → g < length G.groups → F.piece g ≡ piece_of G (unit_of G g)
  piece_is g lt = ap (piece_of G) (resource_unit G S.grouped S.known g lt)

  -- AND OF EXPORTS

  pub prologue_late : (g : ℕ) → length G.groups ≤ g → N.prologue g ≡ copied_node G heap (export_at G g)
  prologue_late g le = ap (λ b. if b then prologue_node G heap g else copied_node G heap (export_at G g)) (le-ltb g (length G.groups) le)

  pub has_prologue_late : (g : ℕ) → length G.groups ≤ g → N.has_prologue g ≡ is_read G g
  has_prologue_late g le = ap (λ b. if b then is_there (prologue_of G heap g).kind else is_read G g) (le-ltb g (length G.groups) le)

  pub member_late : (c g : ℕ) → length G.groups ≤ g → F.member c g ≡ (is_copy G g && is_copy_of G (export_at G g) c)
  member_late c g le = ap (λ b. if b then is_member G c g else (is_copy G g && is_copy_of G (export_at G g) c)) (le-ltb g (length G.groups) le)

  pub piece_late : (g k : ℕ) → IsExport G g k → F.piece g ≡ piece_of G (length G.imports + k)
  piece_late g k X = ap (piece_of G) (resource_export G S.grouped S.known g X.past X.within ∙ ap (λ j. length G.imports + j) X.is)

  -- COMMANDS

  -- of a use of a unit
  unit_spot : (c : ℕ) (command : commands.Command) (at : slice_get G.commands c ≡ Some command) (a : Access) (h : Has V (command_node G heap c) a) (t : Touch) → Contains (touches_of G.shapes command.op) t → t.what < length G.imports → is_plain a.kind ≡ true → a.piece ≡ piece_of G t.what → (g : ℕ) × Spot F V N (command_node G heap c) a g
  unit_spot c command at a h t there lt plain piece =
      let same = S.known.sharings in
      let U = used_by G c command t at there (omega (arith, lt, same)) in
      let X = use_group G heap P S c t.what U in
      let g : ℕ = group_of G U.one.command U.one.unit in (
        g,
        at_member {c = c} refl (record {
          member = member_is c g X.group ∙ list_any_at (λ (u : Use). u.command == c) (group_at G g) X.member.0 U.one X.member.1 (ap (λ (u : Use). u.command == c) X.member.2 ∙ eq-eqb U.one.command c U.command);
          has = h;
          plain = plain;
          piece = piece ∙ ap (piece_of G) (sym (found_unit G heap P S U.one X ∙ U.unit)) ∙ sym (piece_is g X.group);
        }),
      )

  pub copies_is : (c k : ℕ) (command : commands.Command) → slice_get G.commands c ≡ Some command → command.export ≡ Some k → is_copy_of G k c ≡ true
  copies_is c k command at is = ap (λ o. option_map_or (exports k) o false) at ∙ ap (λ o. option_map_or (λ j. j == k) o false) is ∙ eq-eqb k k refl

  -- the copy of an export is a member of its group
  pub copy_member : (c k : ℕ) (command : commands.Command) → slice_get G.commands c ≡ Some command → command.export ≡ Some k → IsExport G (copy_group G k) k → F.member c (copy_group G k) ≡ true
  copy_member c k command at is X =
      member_late c (copy_group G k) X.past
      ∙ and_from (is_copy G (copy_group G k)) (is_copy_of G (export_at G (copy_group G k)) c) (copy_is G k X.known)
      (ap (λ j. is_copy_of G j c) X.is ∙ copies_is c k command at is)

  -- of the buffer of an export
  buffer_spot : (c : ℕ) (command : commands.Command) (at : slice_get G.commands c ≡ Some command) (a : Access) (h : Has V (command_node G heap c) a) (r : ℕ) → Contains (operands_of command.op) r → length G.imports ≤ r → Sort G command → is_plain a.kind ≡ true → a.piece ≡ piece_of G r → (g : ℕ) × Spot F V N (command_node G heap c) a g
  buffer_spot c command at a h r there late (a_pass none operands apart) plain piece = absurd (let low = All-contains (λ n. n < length G.imports) (operands_of command.op) r operands there in omega (arith, low, late))
  buffer_spot c command at a h r there late (a_copy k unit shape below lt is op from to) plain piece =
      let X = copy_export G k below in
      let what : r ≡ length G.imports + k = ⊎_elim (λ e. absurd (omega (arith, e, lt, late))) (λ e. e) (copy_operands shape unit (length G.imports + k) r (subst (λ o. Contains (operands_of o) r) op there)) in (
        copy_group G k,
        at_member {c = c} refl (record {
          member = copy_member c k command at is X;
          has = h;
          plain = plain;
          piece = piece ∙ ap (piece_of G) what ∙ sym (piece_late (copy_group G k) k X);
        }),
      )

  pub command_spot : (c : ℕ) (command : commands.Command) → slice_get G.commands c ≡ Some command → (a : Access) → Has V (command_node G heap c) a → (g : ℕ) × Spot F V N (command_node G heap c) a g
  command_spot c command at a h =
      let T = touched G heap P S c command a at h in
      let t : Touch = moved (piece_of G) T.touch in
      let plain = touch_plain shapes command.queue t a T.is in
      let piece = touch_piece shapes command.queue t a T.is in
      ⊎_elim
      (λ lt. unit_spot c command at a h T.touch T.there lt plain piece)
      (λ le. buffer_spot c command at a h T.touch.what (touch_operand G.shapes command.op T.touch T.there) le (entry_of (λ (x : commands.Command). Sort G x) G.commands c command S.sorts at) plain piece)
      (cases_lt T.touch.what (length G.imports))

  -- TURNS

  pub prologue_stands : (g : ℕ) → IsRecorded G heap (OfPrologueMark g) → StandsFor P (prologue_node G heap g) (OfItem (prologue_queue G g) (prologue_item G heap g))
  prologue_stands g r = item_stands G heap P S.stand S.script (step G heap (OfPrologueMark g)) (prologue_queue G g) (Some (OfPrologueMark g)) (prologue_item G heap g) (S.standing.each_prologue g r)

  -- of a node of an item
  pub item_access : (Q : Access → Type 0) (n q : ℕ) (it : Item) (a : Access) → StandsFor P n (OfItem q it) → All Q (item_effect shapes q it).accesses → Has V n a → Q a
  item_access Q n q it a T all (i, e) = entry_of Q (item_effect shapes q it).accesses i a all (sym (ap (λ x. slice_get x.accesses i) T.effect) ∙ e)

  pub prologue_access : (g : ℕ) → IsRecorded G heap (OfPrologueMark g) → (a : Access) → Has V (prologue_node G heap g) a → OfPrologue F V N g a
  prologue_access g r a h =
      let E : IsEntry (piece_of G (unit_of G g)) a = item_access (IsEntry (piece_of G (unit_of G g))) (prologue_node G heap g) (prologue_queue G g) (prologue_item G heap g) a (prologue_stands g r) (prologue_entries shapes (prologue_queue G g) (prologue_of G heap g).kind G (prologue_of G heap g) (earlier G g) (group_at G g)) h in
      record {
        has_prologue = has_prologue_is g r.0 ∙ r.1;
        has = subst (λ n. Has V n a) (sym (prologue_is g r.0)) h;
        entry = E.entry;
        piece = E.piece ∙ sym (piece_is g r.0);
      }

  -- RELEASES

  abbrev pub leaving_item : ℕ → Item
  leaving_item g = item.Release (transfer G (group_at G g) (group_at G (suc g)) (release_masks (group_at G g) (release_queue G g)))

  pub release_stands : (g : ℕ) → IsRecorded G heap (Release g) → StandsFor P (release_node G heap g) (OfItem (release_queue G g) (leaving_item g))
  release_stands g r = item_stands G heap P S.stand S.script (step G heap (Release g)) (release_queue G g) (Some (Release g)) (leaving_item g) (S.standing.each_release g r)

  pub release_access : (g : ℕ) → IsRecorded G heap (Release g) → (a : Access) → Has V (release_node G heap g) a → OfRelease F V N g a
  release_access g r a h =
      let t = transfer G (group_at G g) (group_at G (suc g)) (release_masks (group_at G g) (release_queue G g)) in
      let E : IsLeaving (piece_of G (unit_of G (suc g))) a = item_access (IsLeaving (piece_of G (unit_of G (suc g)))) (release_node G heap g) (release_queue G g) (leaving_item g) a (release_stands g r)
      (one (IsLeaving (piece_of G (unit_of G (suc g)))) (access t.piece (access_kinds.Release (handover_of t))) (record { release = refl; piece = refl })) h in
      record {
        released = r.1;
        has = h;
        release = E.release;
        piece = E.piece ∙ ap (piece_of G) (sym (next_unit G S.grouped g (released_goes G S.grouped heap g r.1))) ∙ sym (piece_is g r.0);
      }

  -- HOST READS

  pub reader_is : (k : ℕ) → IsExport G (read_group G k) k → N.reader (read_group G k) ≡ read_number (steps G heap) (length G.families) k
  reader_is k X = ap (read_node G heap) X.is

  read_access : (k piece : ℕ) (a : Access) → slice_get P.readbacks k ≡ Some piece → Has V (read_number (steps G heap) (length G.families) k) a → (g : ℕ) × Spot F V N (read_number (steps G heap) (length G.families) k) a g
  read_access k piece a e (i, h) =
      let R = read_back G S.known.shapes k piece (sym (ap (λ l. slice_get l k) S.readbacks) ∙ e) in
      let X = read_export G k R.known in
      let E : IsReading piece a = entry_of (IsReading piece) (access piece (access_kinds.Load agent.Host None) ∷ []) i a (one (IsReading piece) (access piece (access_kinds.Load agent.Host None)) (record { plain = refl; piece = refl }))
      (sym (ap (λ x. slice_get x.accesses i) (S.stand.read k piece e).effect) ∙ h) in (
        read_group G k,
        at_reader (sym (reader_is k X)) (record {
          host = read_is G k R.known;
          has = subst (λ n. Has V n a) (sym (reader_is k X)) (i, h);
          plain = E.plain;
          piece = E.piece ∙ R.is ∙ sym (piece_late (read_group G k) k X);
        }),
      )

  -- EACH NODE

  moved_spot : (x y : ℕ) (a : Access) → x ≡ y → Has V x a → (Has V y a → (g : ℕ) × Spot F V N y a g) → (g : ℕ) × Spot F V N x a g
  moved_spot x y a e h f = subst (λ n. (g : ℕ) × Spot F V N n a g) (sym e) (f (subst (λ n. Has V n a) e h))

  -- of an item with a mark
  mark_spot : (i q : ℕ) (of : Option Mark) (it : Item) (a : Access) (mark : Mark) → StandsAt G heap i (Does q of it) → IsRecorded G heap mark → i ≡ step G heap mark → Has V (item_at G heap q i) a → (g : ℕ) × Spot F V N (item_at G heap q i) a g
  mark_spot i q of it a (Command c) at r e h =
      let C = entry_there G.commands c r in
      let same = some_item q C.0.queue of (Some (Command c)) it (item.Command (mapped (piece_of G) C.0.op)) (sym at ∙ ap (λ n. slice_get (script G heap) n) e ∙ S.standing.each_command c C.0 C.1) in
      moved_spot (item_at G heap q i) (command_node G heap c) a
      (ap (λ n. item_at G heap q n) e ∙ ap (λ p. item_at G heap p (step G heap (Command c))) (same.0 ∙ sym (queue_at G heap P S c C.0 C.1)))
      h (command_spot c C.0 C.1 a)
  mark_spot i q of it a (OfPrologueMark g) at r e h =
      let same = some_item q (prologue_queue G g) of (Some (OfPrologueMark g)) it (prologue_item G heap g) (sym at ∙ ap (λ n. slice_get (script G heap) n) e ∙ S.standing.each_prologue g r) in
      moved_spot (item_at G heap q i) (prologue_node G heap g) a
      (ap (λ n. item_at G heap q n) e ∙ ap (λ p. item_at G heap p (step G heap (OfPrologueMark g))) same.0)
      h (λ has. (g, at_prologue (sym (prologue_is g r.0)) (prologue_access g r a has)))
  mark_spot i q of it a (Release g) at r e h =
      let same = some_item q (release_queue G g) of (Some (Release g)) it (leaving_item g) (sym at ∙ ap (λ n. slice_get (script G heap) n) e ∙ S.standing.each_release g r) in
      moved_spot (item_at G heap q i) (release_node G heap g) a
      (ap (λ n. item_at G heap q n) e ∙ ap (λ p. item_at G heap p (step G heap (Release g))) same.0)
      h (λ has. (g, at_release refl (release_access g r a has)))

  -- an alias barrier and the barrier after a copy have none
  none_of : (n q : ℕ) (it : Item) (a : Access) → StandsFor P n (OfItem q it) → (item_effect shapes q it).accesses ≡ [] → Has V n a → ⊥
  none_of n q it a T none (i, e) = nothing_there i a (sym (ap (λ l. slice_get l i) none) ∙ sym (ap (λ x. slice_get x.accesses i) T.effect) ∙ e)

  item_spot : (i q : ℕ) (it : Item) (a : Access) → (M : IsMarkedAt G heap i q it) → IsKnown G heap i q M.of it → Has V (item_at G heap q i) a → (g : ℕ) × Spot F V N (item_at G heap q i) a g
  item_spot i q it a M (by_mark mark is r e) h = mark_spot i q M.of it a mark M.at r e h
  item_spot i q it a M (by_alias g none lt kind e queue is) h = absurd (none_of (item_at G heap q i) q it a (item_stands G heap P S.stand S.script i q M.of it M.at) (ap (λ x. (item_effect shapes q x).accesses) is) h)
  item_spot i q it a M (by_copy c k command none at export e queue is) h = absurd (none_of (item_at G heap q i) q it a (item_stands G heap P S.stand S.script i q M.of it M.at) (ap (λ x. (item_effect shapes q x).accesses) is) h)

  node_spot : (x : ℕ) (a : Access) → IsOneOf P (steps G heap) (length G.families) x → Has V x a → (g : ℕ) × Spot F V N x a g
  node_spot x a (as_wait q i p lq lp there waits e) (j, h) = absurd (nothing_there j a (sym (ap (λ z. slice_get z.accesses j) (S.stand.wait q i p lq lp there waits).effect) ∙ sym (ap (λ n. slice_get (accesses_of V n) j) e) ∙ h))
  node_spot x a (as_item q i it lq there e) h =
      let M = item_marked G heap i q it there in
      moved_spot x (item_at G heap q i) a e h (item_spot i q it a M (S.standing.only i q M.of it M.at))
  node_spot x a (as_signal q i lq there e) (j, h) = absurd (nothing_there j a (sym (ap (λ z. slice_get z.accesses j) (S.stand.signal q i lq there).effect) ∙ sym (ap (λ n. slice_get (accesses_of V n) j) e) ∙ h))
  node_spot x a (as_read k piece there e) h = moved_spot x (read_number (steps G heap) (length G.families) k) a e h (read_access k piece a there)

  pub all_spots : (x : ℕ) (a : Access) → Has V x a → (g : ℕ) × Spot F V N x a g
  all_spots x a h = ⊎_elim (λ lt. node_spot x a (S.all x lt) h) (λ le. absurd (past le h)) (cases_lt x (length (program_nodes P)))
    where
      past : length (program_nodes P) ≤ x → Has V x a → ⊥
      past le (j, e) =
          let nodes = length-map (entries_of P) (entry_node (length P.queues)) in
          let effects = length-map (entries_of P) (entry_effect shapes) in
          nothing_there j a (sym (ap (λ z. slice_get z.accesses j) (get_or_past V.effects x no_effect (omega (arith, le, nodes, effects)))) ∙ e)
