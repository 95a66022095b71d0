-- What loads from no import, loads what an earlier group of its unit stored.
use Rattle.std.proofs.Common.{◌≡◌, ◌⊎◌, inl, inr, ⊎_elim, ℕ, ◌+◌, ◌<◌, ◌==◌, not, true, false, length, slice_get, Some, None, refl, sym, ap, ◌∙◌, subst, arith}
use Rattle.std.specs.List.{Contains, list_any}
use Rattle.std.specs.Prelude.{unwrap_or}
use Rattle.std.proofs.lemmas.Bool.{cases_Bool, cases_order, false≢true, le-leb, or_left}
use Rattle.std.proofs.lemmas.List.Elements.{Contains-get_or}
use Rattle.std.proofs.lemmas.List.Folds.{list_any_at}
use Rattle.base.proofs.Absence.{none_some, some_same}
use Rattle.base.proofs.Lists.{entry_of}
use Rattle.base.specs.Touches.{destination_touch, touches_of}
use Rattle.base.specs.declared.role.Role.{Role}
use Rattle.base.specs.declared.role.Role.TheVariants.{CopyWrite}
use Rattle.base.specs.declared.touch.Touch.{Touch}
use Rattle.vk.specs.Roles.{load_access, store_access}
use Rattle.vk.specs.declared.layout.Layout.{Layout}
use Rattle.law_sound.proofs.Commands.{Sort, export_whole, not_in_place}
use Rattle.law_sound.proofs.Counting.{count_same}
use Rattle.law_sound.proofs.ExportGroups.{copy_export, copy_group, copy_is, copy_parts, read_number, read_parts}
use Rattle.law_sound.proofs.Exports.{copies_from}
use Rattle.law_sound.proofs.Groups.{Member, commands_rise, next_unit, some_use, sourced, unit_known, unit_piece}
use Rattle.law_sound.proofs.LaidBy.{prologue_before}
use Rattle.law_sound.proofs.Members.{found_unit, touch_has, touch_piece, touched, use_group}
use Rattle.law_sound.proofs.Roles.{store_some}
use Rattle.law_sound.proofs.Served.{copied_to}
use Rattle.law_sound.proofs.Setting.{IsSet}
use Rattle.law_sound.proofs.SpotFacts.{IsMemberOf, of_group, of_copy, lone_use, member_cases}
use Rattle.law_sound.proofs.Spots.{piece_is, piece_late}
use Rattle.law_sound.proofs.Storing.{group_stores, stores_late, stores_low}
use Rattle.law_sound.proofs.Touches.{IsOf, a_load, a_store, acts, alike, destination_there, moved}
use Rattle.law_sound.proofs.PrologueAccesses.{prologue_low}
use Rattle.law_sound.proofs.Uses.{sourced_use, used_by}
use Rattle.law_sound.specs.Initialized.{DoesTo, IsInitialized, Loads, Stores}
use Rattle.law_sound.specs.Nodes.{nodes_of}
use Rattle.law_sound.specs.Plan.{export_at, is_copy, is_copy_of, plan_of, unit_of}
use Rattle.law_plan.specs.Kinds.{is_entry, is_release}
use Rattle.law_plan.specs.Nodes.{Nodes}
use Rattle.law_plan.specs.Plans.{Plan}
use Rattle.law_plan.specs.Spots.{OfPrologue, OfMember, Spot, at_prologue, at_member, at_release, at_reader}
use Rattle.compile_groups.specs.Needs.{group_at, group_of, is_touched}
use Rattle.compile_groups.specs.Placed.{is_import}
use Rattle.compile_groups.specs.Uses.{no_use, is_write, role_writes}
use Rattle.compile_groups.specs.declared.command.Command as commands
use Rattle.compile_groups.specs.declared.grouping.Grouping.{Grouping}
use Rattle.compile_groups.specs.declared.unit_use.Use.{Use}
use Rattle.compile_record.specs.Pieces.{has_piece, is_readback, piece_of}
use Rattle.program.specs.Rules.{shapes_of}
use Rattle.program.specs.declared.program.Program.{Program}
use Rattle.compile_barriers.specs.Prologues.{first}
use Rattle.compile_barriers.specs.Under.{Heap}
use Rattle.check_access.specs.AccessKinds.{loads, wanted}
use Rattle.check_access.specs.Views.{View, imported_at, view_of}
use Rattle.check_access.specs.declared.access.Access.{Access}
use Rattle.check_access.specs.declared.access.AccessKind.{AccessKind}
use Rattle.check_access.specs.declared.access.AccessKind.TheVariants as access_kinds

-- of what stands before a group a transition alone loads, and it wants a layout
entry_wants : (kind : AccessKind) → is_entry kind ≡ true → loads kind ≡ true → (l : Layout) × (wanted kind ≡ Some l)
entry_wants (access_kinds.Load a layout) e k = absurd (false≢true e)
entry_wants (access_kinds.Store a layout) e k = absurd (false≢true e)
entry_wants (access_kinds.Transition layouts) e k = (layouts.from, refl)
entry_wants (access_kinds.Discard layout) e k = absurd (false≢true k)
entry_wants (access_kinds.Release handover) e k = absurd (false≢true e)
entry_wants (access_kinds.Acquire handover) e k = absurd (false≢true k)

release_keeps : (kind : AccessKind) → is_release kind ≡ true → loads kind ≡ false
release_keeps (access_kinds.Load a layout) e = absurd (false≢true e)
release_keeps (access_kinds.Store a layout) e = absurd (false≢true e)
release_keeps (access_kinds.Transition layouts) e = absurd (false≢true e)
release_keeps (access_kinds.Discard layout) e = absurd (false≢true e)
release_keeps (access_kinds.Release handover) e = refl
release_keeps (access_kinds.Acquire handover) e = absurd (false≢true e)

-- a role that stores writes
store_writes : (role : Role) (bits : ℕ) → store_access role ≡ Some bits → not (role_writes role == 0) ≡ true
store_writes role bits e = ap (λ o. not (unwrap_or o 0 == 0)) e ∙ ap not (store_some role bits e)

module _ (G : Grouping) (heap : Heap) (P : Program) (S : IsSet G heap P) (initialized : IsInitialized G) where
  abbrev F : Plan
  F = plan_of G heap

  abbrev V : View
  V = view_of P

  abbrev N : Nodes
  N = nodes_of G heap

  -- an earlier group of the unit stores
  record IsStoredBefore (g : ℕ) : Type 0 where
    from : ℕ
    less : from < g
    within : from < length G.groups
    unit : unit_of G from ≡ unit_of G g
    writes : list_any is_write (group_at G from) ≡ true

  -- THE GROUP OF A STORE

  record IsStore (d r : ℕ) : Type 0 where
    group : ℕ
    low : group < length G.groups
    unit : unit_of G group ≡ r
    one : Use
    there : Contains (group_at G group) one
    command : one.command ≡ d
    write : is_write one ≡ true

  store_group : (d r : ℕ) → r < length G.imports → DoesTo G d r Stores → IsStore d r
  store_group d r lt D =
      let same = S.known.sharings in
      let what = D.unit in
      let U = used_by G d D.command D.touch D.there D.among (omega (arith, lt, same, what)) in
      let X = use_group G heap P S d D.touch.what U in
      let g : ℕ = group_of G U.one.command U.one.unit in
      let M : Member G d g = record { one = U.one; there = X.member; command = U.command } in
      let Y = sourced G S.grouped d g X.group M in
      let I = sourced_use G U.one Y in
      let command : Y.command ≡ D.command = some_same (sym Y.there ∙ ap (slice_get G.commands) U.command ∙ D.there) in
      let among : Contains (touches_of G.shapes D.command.op) I.touch = subst (λ (x : commands.Command). Contains (touches_of G.shapes x.op) I.touch) command I.there in
      let apart = entry_of (λ (x : commands.Command). Sort G x) G.commands d D.command S.sorts D.there in
      let touch : I.touch ≡ D.touch = alike G.shapes D.command.op (not_in_place G D.command apart) I.touch D.touch among D.among (sym (ap (λ (u : Use). u.unit) I.is) ∙ U.unit) in
      record {
        group = g;
        low = X.group;
        unit = found_unit G heap P S U.one X ∙ U.unit ∙ D.unit;
        one = U.one;
        there = X.member;
        command = U.command;
        write = ap is_write I.is ∙ ap (λ (t : Touch). not (role_writes t.role == 0)) touch ∙ store_writes D.touch.role D.so.0 D.so.1;
      }

  -- a group with a member that loads comes after the group of the store
  before_load : (c g : ℕ) → (low : g < length G.groups) → Member G c g → is_import G (unit_of G g) ≡ false → DoesTo G c (unit_of G g) Loads → IsStoredBefore g
  before_load c g low M fresh L =
      let E = initialized c (unit_of G g) (unit_known G S.grouped S.known g low) fresh L in
      let d : ℕ = E.0 in
      let T = store_group d (unit_of G g) (unit_known G S.grouped S.known g low) E.2 in
      let earlier = E.1 in
      let own = M.command in
      let other = T.command in
      let there = T.there in
      record {
        from = T.group;
        less = ⊎_elim
            (λ (e : T.group ≡ g).
            let same : T.one ≡ M.one = lone_use G heap P S g low T.one M.one (subst (λ n. Contains (group_at G n) T.one) e T.there) M.there T.write in
            let number : T.one.command ≡ M.one.command = ap (λ (u : Use). u.command) same in
            absurd (omega (arith, number, earlier, own, other)))
            (⊎_elim
            (λ (l : T.group < g). l)
            (λ (l : g < T.group).
            let rise = commands_rise G S.grouped g T.group M.one T.one l T.low (sym T.unit) M.there T.there in
            absurd (omega (arith, rise, earlier, own, other))))
            (cases_order T.group g);
        within = T.low;
        unit = T.unit;
        writes = list_any_at is_write (group_at G T.group) there.0 T.one there.1 (ap is_write there.2 ∙ T.write);
      }

  -- LOADS OF MEMBERS

  load_touch : (q : ℕ) (t : Touch) (a : Access) → IsOf (shapes_of P) q (moved (piece_of G) t) a → loads a.kind ≡ true → Loads t
  load_touch q t a (a_load bits e is) k = (bits, e)
  load_touch q t a (a_store bits e is) k = absurd (false≢true (sym (ap (λ (x : Access). loads x.kind) is) ∙ k))

  fresh_unit : (g : ℕ) (a : Access) → (low : g < length G.groups) → a.piece ≡ piece_of G (unit_of G g) → imported_at V a.piece ≡ false → is_import G (unit_of G g) ≡ false
  fresh_unit g a low on none = ⊎_elim
      (λ e. absurd (false≢true (sym none ∙ ap (imported_at V) on ∙ S.imported (unit_of G g) (unit_known G S.grouped S.known g low) e (unit_piece G S.grouped g low))))
      (λ e. e)
      (cases_Bool (is_import G (unit_of G g)))

  member_start : (c g : ℕ) (a : Access) → (low : g < length G.groups) → Member G c g → OfMember F V N c g a → loads a.kind ≡ true → imported_at V a.piece ≡ false → IsStoredBefore g
  member_start c g a low M O k none =
      let X = sourced G S.grouped c g low M in
      let at : slice_get G.commands c ≡ Some X.command = subst (λ n. slice_get G.commands n ≡ Some X.command) M.command X.there in
      let T = touched G heap P S c X.command a at O.has in
      let on : a.piece ≡ piece_of G (unit_of G g) = O.piece ∙ piece_is G heap P S g low in
      let what : T.touch.what ≡ unit_of G g = count_same (has_piece G) T.touch.what (unit_of G g) (touch_has G heap P S c X.command T.touch at T.there) (unit_piece G S.grouped g low) (sym (touch_piece (shapes_of P) X.command.queue (moved (piece_of G) T.touch) a T.is) ∙ on) in
      before_load c g low M (fresh_unit g a low on none) (record { command = X.command; there = at; touch = T.touch; among = T.there; unit = what; so = load_touch X.command.queue T.touch a T.is k })

  -- the copy of an export loads nothing of its buffer
  copy_stores : (c g : ℕ) (a : Access) → is_copy G g ≡ true → is_copy_of G (export_at G g) c ≡ true → OfMember F V N c g a → loads a.kind ≡ true → ⊥
  copy_stores c g a copy is O k =
      let X = copy_parts G g copy in
      let j : ℕ = export_at G g in
      let r : ℕ = length G.imports + j in
      let C = copies_from G j c is in
      let sort = entry_of (λ (x : commands.Command). Sort G x) G.commands c C.command S.sorts C.there in
      let to = copied_to G heap P S j c C sort in
      let T = touched G heap P S c C.command a C.there O.has in
      let on : a.piece ≡ piece_of G r = O.piece ∙ piece_late G heap P S g j X in
      let buffer : has_piece G r ≡ true = or_left (is_readback G r) (is_touched G r) (le-leb (length G.imports) r (omega arith)) in
      let what : T.touch.what ≡ r = count_same (has_piece G) T.touch.what r (touch_has G heap P S c C.command T.touch C.there T.there) buffer (sym (touch_piece (shapes_of P) C.command.queue (moved (piece_of G) T.touch) a T.is) ∙ on) in
      let same : T.touch ≡ destination_touch G.shapes C.command.op = alike G.shapes C.command.op (not_in_place G C.command sort) T.touch (destination_touch G.shapes C.command.op) T.there (destination_there G.shapes C.command.op) (what ∙ sym to.0) in
      let role : T.touch.role ≡ CopyWrite = ap (λ (t : Touch). t.role) same ∙ to.1 in
      let whole : T.touch.whole ≡ true = ap (λ (t : Touch). t.whole) same ∙ export_whole G C.command j sort C.export in
      let L = load_touch C.command.queue T.touch a T.is k in
      none_some (ap (λ w. load_access CopyWrite w) (sym whole) ∙ ap (λ x. load_access x T.touch.whole) (sym role) ∙ L.1)

  -- TRANSITIONS

  -- a group stores, or a member of it loads
  first_acts : (g : ℕ) → (low : g < length G.groups) → (list_any is_write (group_at G g) ≡ true) ⊎ ((c : ℕ) × Member G c g × DoesTo G c (unit_of G g) Loads)
  first_acts g low =
      let u : Use = first (group_at G g) in
      let there : Contains (group_at G g) u = Contains-get_or (group_at G g) 0 no_use (some_use G S.grouped g low) in
      let M : Member G u.command g = record { one = u; there = there; command = refl } in
      let X = sourced G S.grouped u.command g low M in
      let I = sourced_use G u X in
      let unit : I.touch.what ≡ unit_of G g = sym (ap (λ (v : Use). v.unit) I.is) in
      ⊎_elim
      (λ L. inr (u.command, M, record { command = X.command; there = X.there; touch = I.touch; among = I.there; unit = unit; so = L }))
      (λ T. inl (list_any_at is_write (group_at G g) there.0 u there.1 (ap is_write there.2 ∙ ap is_write I.is ∙ store_writes I.touch.role T.0 T.1)))
      (acts I.touch.role I.touch.whole)

  prologue_start : (g : ℕ) (a : Access) → OfPrologue F V N g a → loads a.kind ≡ true → imported_at V a.piece ≡ false → IsStoredBefore g
  prologue_start g a O k none =
      let W = entry_wants a.kind O.entry k in
      let B = prologue_before G heap P S g a W.0 O W.1 in
      let p : ℕ = B.0 in
      let number = B.1.after.number in
      let unit : unit_of G p ≡ unit_of G g = next_unit G S.grouped p B.1.after.goes ∙ ap (unit_of G) (sym number) in
      let T = prologue_low G heap P S g a O in
      let on : a.piece ≡ piece_of G (unit_of G p) = O.piece ∙ piece_is G heap P S g T.recorded.0 ∙ ap (piece_of G) (sym unit) in
      ⊎_elim
      (λ w. record { from = p; less = omega (arith, number); within = B.1.low; unit = unit; writes = w })
      (λ L.
      let E = before_load L.0 p B.1.low L.1 (fresh_unit p a B.1.low on none) L.2 in
      let less = E.less in
      record { from = E.from; less = omega (arith, less, number); within = E.within; unit = E.unit ∙ unit; writes = E.writes })
      (first_acts p B.1.low)

  -- EACH ACCESS

  abbrev Starts : ℕ → Type 0
  Starts g = (i : ℕ) × (F.piece i ≡ F.piece g) × (i < g) × (group_stores G heap P S i ≡ true)

  unit_starts : (g : ℕ) → g < length G.groups → IsStoredBefore g → Starts g
  unit_starts g low E =
      (E.from, piece_is G heap P S E.from E.within ∙ ap (piece_of G) E.unit ∙ sym (piece_is G heap P S g low), E.less, stores_low G heap P S E.from E.within ∙ E.writes)

  pub start : (x g : ℕ) (a : Access) → Spot F V N x a g → loads a.kind ≡ true → imported_at V a.piece ≡ false → Starts g
  start x g a (at_prologue e t) k none = unit_starts g (prologue_low G heap P S g a t).recorded.0 (prologue_start g a t k none)
  start x g a (at_member {c = c} e m) k none = go (member_cases G heap P S c g m.member)
    where
      go : IsMemberOf G c g → Starts g
      go (of_group low M) = unit_starts g low (member_start c g a low M m k none)
      go (of_copy le copy is) = absurd (copy_stores c g a copy is m k)
  start x g a (at_release e r) k none = absurd (false≢true (sym (release_keeps a.kind r.release) ∙ k))
  start x g a (at_reader e r) k none =
      let X = read_parts G g r.host in
      let j : ℕ = export_at G g in
      let i : ℕ = copy_group G j in
      let Y = copy_export G j X.known in
      let number = read_number G g r.host in
      (i, piece_late G heap P S i j Y ∙ sym (piece_late G heap P S g j X), omega (arith, number), stores_late G heap P S i Y.past ∙ copy_is G j X.known)
