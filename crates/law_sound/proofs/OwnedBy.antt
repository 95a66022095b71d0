-- The family of each group, and where it is decided.
use Rattle.std.proofs.Common.{◌≡◌, ℕ, zero, suc, ◌+◌, ◌-◌, ◌<◌, ◌≤◌, ◌||◌, Bool, true, false, List, [], length, get_or, slice_get, if◌then◌else◌, Option, Some, refl, sym, ap, ◌∙◌, subst, eqb-true, arith}
use Rattle.std.specs.List.{Contains}
use Rattle.std.proofs.lemmas.Bool.{false≢true, le-ltb, lt-ltb}
use Rattle.std.proofs.lemmas.List.{get_or_default}
use Rattle.std.proofs.lemmas.List.Elements.{Contains-get_or}
use Rattle.std.proofs.lemmas.Option.{get_or_from_slice_get, slice_get-get_or}
use Rattle.base.specs.Operands.{mapped}
use Rattle.base.specs.declared.shape.Family.{Family}
use Rattle.base.specs.declared.shape.Family.TheVariants.{Graphics, Compute, Transfer}
use Rattle.vk.specs.Families.{family_number}
use Rattle.vk.specs.Sharings.{is_shared}
use Rattle.law_sound.proofs.ExportGroups.{read_parts}
use Rattle.law_sound.proofs.Exports.{copies_from}
use Rattle.law_sound.proofs.Grouped.{AreNext, of_unit, of_export, next}
use Rattle.law_sound.proofs.Groups.{next_unit, some_use, sourced, unit_known, unit_piece}
use Rattle.law_sound.proofs.Members.{command_stands, queue_at}
use Rattle.law_sound.proofs.Pieces.{piece_there}
use Rattle.law_sound.proofs.Reading.{read_stands}
use Rattle.law_sound.proofs.Setting.{IsSet}
use Rattle.law_sound.proofs.SpotFacts.{IsMemberOf, of_group, of_copy, member_cases, released_low}
use Rattle.law_sound.proofs.Spots.{leaving_item, piece_is, release_stands, prologue_is, prologue_stands}
use Rattle.law_sound.proofs.PrologueAccesses.{does_known, does_there, is_next, next_kind_is, prologue_does, prologue_low}
use Rattle.law_sound.proofs.PrologueKinds.{earlier_is, kept_barrier}
use Rattle.law_sound.specs.Nodes.{copy_of, nodes_of, release_queue, prologue_node, prologue_queue}
use Rattle.law_sound.specs.Plan.{export_at, is_of_unit, plan_of, unit_of}
use Rattle.law_plan.specs.Nodes.{Nodes}
use Rattle.law_plan.specs.Plans.{Plan}
use Rattle.law_plan.specs.Spots.{Spot, at_prologue, at_member, at_release, at_reader}
use Rattle.law_plan.specs.States.{Owned}
use Rattle.law_schedule.specs.Standing.{StandsFor}
use Rattle.compile_groups.specs.Groups.{family_of, same_family, sharing_of, shares}
use Rattle.compile_groups.specs.Needs.{group_at, queue_of}
use Rattle.compile_groups.specs.Uses.{no_use}
use Rattle.compile_groups.specs.declared.grouping.Grouping.{Grouping}
use Rattle.compile_groups.specs.declared.unit_use.Use.{Use}
use Rattle.check_order.proofs.HostReads.{item_queue}
use Rattle.check_order.specs.Edges.{is_host, node_at}
use Rattle.compile_record.specs.Pieces.{piece, piece_of}
use Rattle.compile_record.specs.Standing.{prologue_item}
use Rattle.program.specs.Entries.{OfItem}
use Rattle.program.specs.declared.program.Item.{Item}
use Rattle.program.specs.declared.program.Item.TheVariants as item
use Rattle.program.specs.declared.program.Piece.{Piece}
use Rattle.program.specs.declared.program.Program.{Program}
use Rattle.compile_barriers.specs.Prologues.{earlier, first, last}
use Rattle.compile_barriers.specs.Under.{Heap}
use Rattle.compile_barriers.specs.declared.prologue.PrologueKind.TheVariants as kinds
use Rattle.check_access.specs.AccessKinds.{sets_owner}
use Rattle.check_access.specs.Views.{View, family_at, no_piece, shared_at, view_of}
use Rattle.check_access.specs.declared.access.Access.{Access}

-- FAMILIES

one_number : (f g : Family) → family_number f ≡ family_number g → f ≡ g
one_number Graphics Graphics e = refl
one_number Graphics Compute e = absurd (omega (arith, e))
one_number Graphics Transfer e = absurd (omega (arith, e))
one_number Compute Graphics e = absurd (omega (arith, e))
one_number Compute Compute e = refl
one_number Compute Transfer e = absurd (omega (arith, e))
one_number Transfer Graphics e = absurd (omega (arith, e))
one_number Transfer Compute e = absurd (omega (arith, e))
one_number Transfer Transfer e = refl

-- queues of one family have it
same_slice : (families : List Family) (p q : ℕ) → p < length families → q < length families → same_family families p q ≡ true → slice_get families p ≡ slice_get families q
same_slice families p q lp lq e =
    slice_get-get_or families p Graphics lp
    ∙ ap (λ f. Some f) (one_number (family_of families p) (family_of families q) (eqb-true (family_number (family_of families p)) (family_number (family_of families q)) e))
    ∙ sym (slice_get-get_or families q Graphics lq)

not_shared : (s f : Bool) → s ≡ false → (s || f) ≡ true → f ≡ true
not_shared false f e h = h
not_shared true f e h = absurd cc

module _ (G : Grouping) (heap : Heap) (P : Program) (S : IsSet G heap P) where
  abbrev F : Plan
  F = plan_of G heap

  abbrev V : View
  V = view_of P

  abbrev N : Nodes
  N = nodes_of G heap

  -- of a group of an export that of the queue of its copy
  abbrev family : ℕ → Option Family
  family g = if is_of_unit G g then slice_get G.families (prologue_queue G g) else slice_get G.families (queue_of G (copy_of G (export_at G g)))

  family_low : (g : ℕ) → g < length G.groups → family g ≡ slice_get G.families (prologue_queue G g)
  family_low g lt = ap (λ b. if b then slice_get G.families (prologue_queue G g) else slice_get G.families (queue_of G (copy_of G (export_at G g)))) (lt-ltb g (length G.groups) lt)

  family_late : (g : ℕ) → length G.groups ≤ g → family g ≡ slice_get G.families (queue_of G (copy_of G (export_at G g)))
  family_late g le = ap (λ b. if b then slice_get G.families (prologue_queue G g) else slice_get G.families (queue_of G (copy_of G (export_at G g)))) (le-ltb g (length G.groups) le)

  -- of the node of an item
  item_family : (n q : ℕ) (it : Item) → StandsFor P n (OfItem q it) → family_at V n ≡ slice_get G.families q
  item_family n q it T = ap (λ l. slice_get l (node_at V.nodes n).queue) S.families ∙ ap (slice_get G.families) (ap (λ x. x.queue) T.node ∙ item_queue q it)

  -- SHARED UNITS

  unit_shared : (g : ℕ) → g < length G.groups → shared_at V (F.piece g) ≡ is_shared (sharing_of G.sharings (unit_of G g))
  unit_shared g lt =
      let within = unit_known G S.grouped S.known g lt in
      let fewer = S.known.shapes in
      let there = ap (λ l. slice_get l (piece_of G (unit_of G g))) S.pieces ∙ piece_there G heap.offsets (unit_of G g) (omega (arith, within, fewer)) (unit_piece G S.grouped g lt) in
      ap (shared_at V) (piece_is G heap P S g lt) ∙ ap (λ (x : Piece). is_shared x.sharing) (get_or_from_slice_get P.pieces (piece_of G (unit_of G g)) (piece G heap.offsets (unit_of G g)) no_piece there)

  -- all uses of a group are on queues of one family
  use_family : (g : ℕ) (u : Use) → g < length G.groups → shared_at V (F.piece g) ≡ false → Contains (group_at G g) u → slice_get G.families u.queue ≡ slice_get G.families (prologue_queue G g)
  use_family g u lt own (zero, l, at) = ap (λ (v : Use). slice_get G.families v.queue) (sym at ∙ get_or_default (group_at G g) 0 u no_use l)
  use_family g u lt own (suc i, l, at) =
      let first_at = get_or_default (group_at G g) 0 u no_use (some_use G S.grouped g lt) in
      let T = (S.grouped.joined g [] lt 0 (suc i) u (omega arith) l).shared in
      let both : shares G.families G.sharings (unit_of G g) (prologue_queue G g) u.queue ≡ true =
      sym (ap (λ (v : Use). shares G.families G.sharings v.unit v.queue (get_or (group_at G g) (suc i) u).queue) first_at ∙ ap (λ (v : Use). shares G.families G.sharings (unit_of G g) (prologue_queue G g) v.queue) at) ∙ T in
      let one : same_family G.families (prologue_queue G g) u.queue ≡ true = not_shared (is_shared (sharing_of G.sharings (unit_of G g))) (same_family G.families (prologue_queue G g) u.queue) (sym (unit_shared g lt) ∙ own) both in
      let first_known = (S.known.members g [] lt 0 no_use (some_use G S.grouped g lt)).1 in
      let known = (S.known.members g [] lt (suc i) u l).1 in
      sym (same_slice G.families (prologue_queue G g) u.queue first_known (subst (λ (v : Use). v.queue < length G.families) at known) one)

  -- NODES OF A GROUP

  runs_unit : (x g : ℕ) (a : Access) → g < length G.groups → shared_at V (F.piece g) ≡ false → (u : Use) → Contains (group_at G g) u → family_at V x ≡ slice_get G.families u.queue → family_at V x ≡ family g
  runs_unit x g a lt own u there is = is ∙ use_family g u lt own there ∙ sym (family_low g lt)

  member_family : (c g : ℕ) (a : Access) → shared_at V (F.piece g) ≡ false → IsMemberOf G c g → family_at V (N.command c) ≡ family g
  member_family c g a own (of_group lt M) =
      let X = sourced G S.grouped c g lt M in
      let at = subst (λ n. slice_get G.commands n ≡ Some X.command) M.command X.there in
      runs_unit (N.command c) g a lt own M.one M.there (item_family (N.command c) X.command.queue (item.Command (mapped (piece_of G) X.command.op)) (command_stands G heap P S c X.command at) ∙ ap (slice_get G.families) (sym X.queue))
  member_family c g a own (of_copy le copy is) =
      let C = copies_from G (export_at G g) c is in
      item_family (N.command c) C.command.queue (item.Command (mapped (piece_of G) C.command.op)) (command_stands G heap P S c C.command C.there)
      ∙ ap (slice_get G.families) (sym (queue_at G heap P S c C.command C.there) ∙ ap (queue_of G) (sym (S.copied.once (export_at G g) c C)))
      ∙ sym (family_late g le)

  runs : (x g : ℕ) (a : Access) → Spot F V N x a g → shared_at V (F.piece g) ≡ false → is_host (node_at V.nodes x).kind ≡ false → family_at V x ≡ family g
  runs x g a (at_prologue e t) own queued =
      let T = prologue_low G heap P S g a t in
      let lt = T.recorded.0 in
      ap (family_at V) (e ∙ prologue_is G heap P S g lt) ∙ item_family (prologue_node G heap g) (prologue_queue G g) (prologue_item G heap g) (prologue_stands G heap P S g T.recorded) ∙ sym (family_low g lt)
  runs x g a (at_member {c = c} e m) own queued = ap (family_at V) e ∙ member_family c g a own (member_cases G heap P S c g m.member)
  runs x g a (at_release e r) own queued =
      let low = released_low G heap P S g r.released in
      let lt : g < length G.groups = omega (arith, low) in
      let some = some_use G S.grouped g lt in
      ap (family_at V) e
      ∙ runs_unit (N.release g) g a lt own (last (group_at G g)) (Contains-get_or (group_at G g) (length (group_at G g) - 1) no_use (omega (arith, some)))
      (item_family (N.release g) (release_queue G g) (leaving_item G heap P S g) (release_stands G heap P S g (lt, r.released)))
  runs x g a (at_reader e r) own queued =
      let X = read_parts G g r.host in
      absurd (false≢true (sym queued ∙ ap (λ n. is_host (node_at V.nodes n).kind) e ∙ ap (λ n. is_host n.kind) (read_stands G heap P S (export_at G g) X.known).node))

  -- FROM GROUP TO GROUP

  steady_next : (g : ℕ) → AreNext G g → shared_at V (F.piece g) ≡ false → N.released g ≡ false → family g ≡ family (suc g)
  steady_next g (of_unit lt goes) own kept =
      let low : g < length G.groups = omega (arith, lt) in
      let kind = sym (next_kind_is G heap (suc g) (ap is_next (kept_barrier G S.grouped heap g goes kept))) ∙ kept_barrier G S.grouped heap g goes kept in
      let A = group_at G g in
      let B = group_at G (suc g) in
      let shared : shares G.families G.sharings (unit_of G (suc g)) (first A).queue (first B).queue ≡ true =
      sym (ap (λ uses. shares G.families G.sharings (unit_of G (suc g)) (first uses).queue (first B).queue) (earlier_is G S.grouped heap g goes)) ∙ barrier_shares (shares G.families G.sharings (unit_of G (suc g)) (first (earlier G (suc g))).queue (first B).queue) kind in
      let unit : is_shared (sharing_of G.sharings (unit_of G (suc g))) ≡ false = ap (λ u. is_shared (sharing_of G.sharings u)) (sym (next_unit G S.grouped g goes)) ∙ sym (unit_shared g low) ∙ own in
      let one = not_shared (is_shared (sharing_of G.sharings (unit_of G (suc g)))) (same_family G.families (first A).queue (first B).queue) unit shared in
      let known-A = (S.known.members g [] low 0 no_use (some_use G S.grouped g low)).1 in
      let known-B = (S.known.members (suc g) [] lt 0 no_use (some_use G S.grouped (suc g) lt)).1 in
      family_low g low ∙ same_slice G.families (first A).queue (first B).queue known-A known-B one ∙ sym (family_low (suc g) lt)
    where
      barrier_shares : (b : Bool) → (if b then kinds.Barrier else kinds.Transfer) ≡ kinds.Barrier → b ≡ true
      barrier_shares true e = refl
      barrier_shares false e = absurd cc
  steady_next g (of_export le copy read same) own kept =
      family_late g le ∙ ap (λ k. slice_get G.families (queue_of G (copy_of G k))) same ∙ sym (family_late (suc g) (omega (arith, le)))

  steady : (g : ℕ) → F.piece g ≡ F.piece (g + 1) → shared_at V (F.piece g) ≡ false → N.released g ≡ false → family g ≡ family (g + 1)
  steady g e own kept =
      let number : g + 1 ≡ suc g = omega arith in
      steady_next g (next G S.grouped S.known g (e ∙ ap F.piece number)) own kept ∙ ap family (sym number)

  pub owned : Owned F V N
  owned = record {
    sets = prologue_does G heap P sets_owner;
    family = family;
    there = does_there G heap P S sets_owner;
    known = does_known G heap P S sets_owner;
    runs = runs;
    steady = steady;
  }
