-- The layout of each group is where its members want it.
use Rattle.std.proofs.Common.{◌≡◌, ⊎_elim, ℕ, zero, suc, ◌+◌, ◌-◌, ◌<◌, ◌≤◌, Bool, true, false, [], ◌∷◌, length, slice_get, if◌then◌else◌, Option, Some, None, refl, sym, ap, ◌∙◌, arith}
use Rattle.std.specs.List.{Contains}
use Rattle.std.specs.Prelude.{is_some, unwrap_or}
use Rattle.std.proofs.lemmas.Bool.{cases_Bool, false≢true, le-leb, or_left}
use Rattle.std.proofs.lemmas.List.{get_or_past}
use Rattle.std.proofs.lemmas.List.Elements.{Contains-get_or}
use Rattle.base.proofs.Absence.{none_some}
use Rattle.base.proofs.Lists.{entry_of, one}
use Rattle.base.specs.Shapes.{is_image, shape_at}
use Rattle.vk.specs.Roles.{role_layout}
use Rattle.vk.specs.declared.layout.Layout.{Layout}
use Rattle.vk.specs.declared.layout.Layout.TheVariants.{Undefined}
use Rattle.law_sound.proofs.Counting.{count_same}
use Rattle.law_sound.proofs.ExportGroups.{copy_parts, read_parts}
use Rattle.law_sound.proofs.Exports.{copies_from}
use Rattle.law_sound.proofs.Grouped.{AreNext, of_unit, of_export, next, resource_unit, same_resource}
use Rattle.law_sound.proofs.Groups.{next_unit, next_within, some_use}
use Rattle.law_sound.proofs.LaidOut.{IsSetting, IsWanting, any_set, first_known, group_layout, init_sets, is_init, next_kept, prologue_setting, prologue_wanting}
use Rattle.law_sound.proofs.Members.{done, touch_has, touch_piece, touched, touched_wanted}
use Rattle.law_sound.proofs.Reading.{read_stands}
use Rattle.law_sound.proofs.Setting.{IsSet}
use Rattle.law_sound.proofs.SpotFacts.{IsMemberOf, of_group, of_copy, member_cases}
use Rattle.law_sound.proofs.Spots.{piece_is, piece_late}
use Rattle.law_sound.proofs.Touches.{moved}
use Rattle.law_sound.proofs.PrologueAccesses.{IsAfter, does_item, does_known, does_there, is_next, next_after, prologue_all, prologue_does, prologue_low}
use Rattle.law_sound.proofs.PrologueKinds.{earlier_is, next_kinds, next_there}
use Rattle.law_sound.specs.Nodes.{nodes_of, prologue_queue}
use Rattle.law_sound.specs.Plan.{export_at, is_copy, is_copy_of, plan_of, unit_of}
use Rattle.law_plan.specs.Kinds.{is_release}
use Rattle.law_plan.specs.Nodes.{Nodes}
use Rattle.law_plan.specs.Plans.{First, Plan}
use Rattle.law_plan.specs.Spots.{OfPrologue, OfMember, OfReader, Spot, at_prologue, at_member, at_release, at_reader}
use Rattle.law_plan.specs.States.{Laid}
use Rattle.compile_groups.specs.Needs.{group_at, goes_on, is_touched}
use Rattle.compile_groups.specs.Placed.{is_import}
use Rattle.compile_groups.specs.Uses.{no_use}
use Rattle.compile_groups.specs.declared.grouping.Grouping.{Grouping}
use Rattle.compile_record.specs.Pieces.{has_piece, is_readback, piece_of}
use Rattle.compile_record.specs.Standing.{prologue_item}
use Rattle.compile_record.specs.Wanted.{is_there}
use Rattle.check_state.specs.PieceStates.{layout_after}
use Rattle.program.specs.Rules.{shapes_of}
use Rattle.program.specs.declared.program.Program.{Program}
use Rattle.compile_barriers.specs.Prologues.{earlier, first, first_kind, has_uses, last, next_kind, prologue_of}
use Rattle.compile_barriers.specs.Under.{Heap, place_of, uses_under}
use Rattle.compile_barriers.specs.declared.prologue.PrologueKind.{PrologueKind}
use Rattle.compile_barriers.specs.declared.prologue.PrologueKind.TheVariants as kinds
use Rattle.check_access.specs.AccessKinds.{sets_layout, wanted}
use Rattle.check_access.specs.Effects.{access, item_effect}
use Rattle.check_access.specs.Views.{View, view_of}
use Rattle.check_access.specs.declared.access.Access.{Access}
use Rattle.check_access.specs.declared.access.AccessKind.{AccessKind}
use Rattle.check_access.specs.declared.access.AccessKind.TheVariants as access_kinds
use Rattle.check_access.specs.declared.access.Agent.TheVariants as agent

release_wants : (kind : AccessKind) → is_release kind ≡ true → wanted kind ≡ None
release_wants (access_kinds.Load a layout) e = absurd (false≢true e)
release_wants (access_kinds.Store a layout) e = absurd (false≢true e)
release_wants (access_kinds.Transition layouts) e = absurd (false≢true e)
release_wants (access_kinds.Discard layout) e = absurd (false≢true e)
release_wants (access_kinds.Release handover) e = refl
release_wants (access_kinds.Acquire handover) e = refl

init_kind : (reused : Bool) → is_init (first_kind reused true) ≡ true
init_kind true = refl
init_kind false = refl

init_there : (kind : PrologueKind) → is_init kind ≡ true → is_there kind ≡ true
init_there kinds.Nothing e = absurd (false≢true e)
init_there kinds.Barrier e = refl
init_there kinds.Transfer e = refl
init_there kinds.Alias e = refl
init_there kinds.Init e = refl
init_there kinds.AliasInit e = refl

some_of : (o : Option Layout) → is_some o ≡ true → (l : Layout) × (o ≡ Some l)
some_of (Some l) e = (l, refl)
some_of None e = absurd (false≢true e)

module _ (G : Grouping) (heap : Heap) (P : Program) (S : IsSet G heap P) where
  abbrev F : Plan
  F = plan_of G heap

  abbrev V : View
  V = view_of P

  abbrev N : Nodes
  N = nodes_of G heap

  abbrev own_layout : ℕ → Option Layout
  own_layout g = (first (group_at G g)).layout

  abbrev layout : ℕ → Layout
  layout g = unwrap_or (own_layout g) Undefined

  abbrev sets : ℕ → Bool
  sets g = prologue_does G heap P sets_layout g

  known : (g : ℕ) (a : Access) → OfPrologue F V N g a → sets_layout a.kind ≡ true → (sets g ≡ true) × (layout_after a.kind ≡ layout g)
  known g a O e =
      let Q = prologue_all G heap P S (IsSetting (own_layout g)) g a O (prologue_setting (shapes_of P) (prologue_queue G g) (prologue_of G heap g).kind G (prologue_of G heap g) (earlier G g) (group_at G g)) in
      (does_known G heap P S sets_layout g a O e, Q.sets e)

  -- FROM GROUP TO GROUP

  pub last_there : (g : ℕ) → g < length G.groups → Contains (group_at G g) (last (group_at G g))
  last_there g lt = let some = some_use G S.grouped g lt in Contains-get_or (group_at G g) (length (group_at G g) - 1) no_use (omega (arith, some))

  -- what the last use before group g + 1 is in
  last_layout : (g : ℕ) → g < length G.groups → goes_on G g ≡ true → (last (earlier G (suc g))).layout ≡ own_layout g
  last_layout g lt goes = ap (λ A. (last A).layout) (earlier_is G S.grouped heap g goes) ∙ group_layout G S.grouped g (last (group_at G g)) lt (last_there g lt)

  next_is_next : (g : ℕ) → goes_on G g ≡ true → is_next (prologue_of G heap (suc g)).kind ≡ true
  next_is_next g goes = ⊎_elim (λ e. ap is_next e) (λ e. ap is_next e) (next_kinds G S.grouped heap g goes)

  unit_image : (g : ℕ) → g < length G.groups → is_some (own_layout g) ≡ is_image (shape_at G.shapes (unit_of G g))
  unit_image g lt = (first_known G S.grouped g lt).image

  steady_next : (g : ℕ) → AreNext G g → sets (suc g) ≡ false → layout g ≡ layout (suc g)
  steady_next g (of_unit lt goes) none = go (own_layout g) (own_layout (suc g)) refl refl
    where
      low : g < length G.groups
      low = omega (arith, lt)

      both_some : is_some (own_layout g) ≡ is_some (own_layout (suc g))
      both_some = unit_image g low ∙ ap (λ u. is_image (shape_at G.shapes u)) (next_unit G S.grouped g goes) ∙ sym (unit_image (suc g) lt)

      quiet : any_set (item_effect (shapes_of P) (prologue_queue G (suc g)) (prologue_item G heap (suc g))).accesses ≡ false
      quiet = sym (does_item G heap P S sets_layout (suc g) (lt, next_there G S.grouped heap g goes)) ∙ none

      go : (x y : Option Layout) → own_layout g ≡ x → own_layout (suc g) ≡ y → unwrap_or (own_layout g) Undefined ≡ unwrap_or (own_layout (suc g)) Undefined
      go None None ex ey = ap (λ o. unwrap_or o Undefined) (ex ∙ sym ey)
      go (Some from) None ex ey = absurd (false≢true (sym (ap is_some ey) ∙ sym both_some ∙ ap is_some ex))
      go None (Some to) ex ey = absurd (false≢true (sym (ap is_some ex) ∙ both_some ∙ ap is_some ey))
      go (Some from) (Some to) ex ey =
          let same : from ≡ to = next_kept (shapes_of P) (prologue_queue G (suc g)) (prologue_of G heap (suc g)).kind G (prologue_of G heap (suc g)) (earlier G (suc g)) (group_at G (suc g)) from to
          (next_is_next g goes) (last_layout g low goes ∙ ex) ey ((first_known G S.grouped g low).known from ex) quiet in
          ap (λ o. unwrap_or o Undefined) ex ∙ same ∙ sym (ap (λ o. unwrap_or o Undefined) ey)
  steady_next g (of_export le copy read same) none = ap (λ A. unwrap_or (first A).layout Undefined) (get_or_past G.groups g [] le ∙ sym (get_or_past G.groups (suc g) [] (omega (arith, le))))

  steady : (g : ℕ) → F.piece g ≡ F.piece (g + 1) → sets (g + 1) ≡ false → layout g ≡ layout (g + 1)
  steady g e none =
      let number : g + 1 ≡ suc g = omega arith in
      steady_next g (next G S.grouped S.known g (e ∙ ap F.piece number)) (ap sets (sym number) ∙ none) ∙ ap layout (sym number)

  -- MEMBERS

  -- a copy wants none of the buffer of its export
  copy_wants : (g c : ℕ) (a : Access) (l : Layout) → OfMember F V N c g a → wanted a.kind ≡ Some l → length G.groups ≤ g → is_copy G g ≡ true → is_copy_of G (export_at G g) c ≡ true → ⊥
  copy_wants g c a l O w le copy is =
      let X = copy_parts G g copy in
      let k : ℕ = export_at G g in
      let r : ℕ = length G.imports + k in
      let C = copies_from G k c is in
      let T = touched G heap P S c C.command a C.there O.has in
      let on : a.piece ≡ piece_of G r = O.piece ∙ piece_late G heap P S g k X in
      let buffer : has_piece G r ≡ true = or_left (is_readback G r) (is_touched G r) (le-leb (length G.imports) r (omega arith)) in
      let what : T.touch.what ≡ r = count_same (has_piece G) T.touch.what r (touch_has G heap P S c C.command T.touch C.there T.there) buffer (sym (touch_piece (shapes_of P) C.command.queue (moved (piece_of G) T.touch) a T.is) ∙ on) in
      let plain : is_image (shape_at G.shapes T.touch.what) ≡ false = ap (λ n. is_image (shape_at G.shapes n)) what ∙ S.buffers k X.known in
      none_some (sym (ap (λ b. if b then Some (role_layout T.touch.role) else None) plain) ∙ sym (touched_wanted G heap P S c C.command C.there a T) ∙ w)

  member_layout : (c g : ℕ) (a : Access) (l : Layout) → OfMember F V N c g a → wanted a.kind ≡ Some l → IsMemberOf G c g → (g < length G.groups) × (own_layout g ≡ Some l)
  member_layout c g a l O w (of_group lt M) =
      let D = done G heap P S c g lt M a O.has (O.piece ∙ piece_is G heap P S g lt) in
      (lt, sym (group_layout G S.grouped g D.one lt D.there) ∙ sym D.layout ∙ w)
  member_layout c g a l O w (of_copy le copy is) = absurd (copy_wants g c a l O w le copy is)

  member : (c g : ℕ) (a : Access) (l : Layout) → OfMember F V N c g a → wanted a.kind ≡ Some l → layout g ≡ l
  member c g a l O w = ap (λ o. unwrap_or o Undefined) (member_layout c g a l O w (member_cases G heap P S c g O.member)).1

  -- TURNS

  pub record IsBefore (g h : ℕ) (l : Layout) : Type 0 where
    pub after : IsAfter G g h
    pub low : g < length G.groups
    pub layout : own_layout g ≡ Some l

  pub prologue_before : (h : ℕ) (a : Access) (l : Layout) → OfPrologue F V N h a → wanted a.kind ≡ Some l → (g : ℕ) × IsBefore g h l
  prologue_before h a l O w =
      let Q = prologue_all G heap P S (IsWanting (prologue_of G heap h).kind (last (earlier G h)).layout) h a O (prologue_wanting (shapes_of P) (prologue_queue G h) (prologue_of G heap h).kind G (prologue_of G heap h) (earlier G h) (group_at G h)) in
      let found = Q.wants l w in
      let A = next_after G heap h found.0 in
      let g : ℕ = A.0 in
      let within = next_within G S.grouped g A.1.goes in
      let low : g < length G.groups = omega (arith, within) in
      (g, record { after = A.1; low = low; layout = sym (last_layout g low A.1.goes) ∙ ap (λ n. (last (earlier G n)).layout) (sym A.1.number) ∙ found.1 })

  prologue : (h : ℕ) (a : Access) (l : Layout) → OfPrologue F V N h a → wanted a.kind ≡ Some l → (g : ℕ) × (h ≡ g + 1) × (F.piece g ≡ F.piece h) × (layout g ≡ l)
  prologue h a l O w =
      let B = prologue_before h a l O w in
      let g : ℕ = B.0 in
      let number = B.1.after.number in
      let more : suc g ≡ g + 1 = omega arith in
      let within = next_within G S.grouped g B.1.after.goes in (
        g,
        number ∙ more,
        piece_is G heap P S g B.1.low ∙ ap (piece_of G) (next_unit G S.grouped g B.1.after.goes) ∙ sym (piece_is G heap P S (suc g) within) ∙ ap F.piece (sym number),
        ap (λ o. unwrap_or o Undefined) B.1.layout,
      )

  -- THE FIRST GROUP OF AN IMAGE

  record IsImage (g : ℕ) : Type 0 where
    pub low : g < length G.groups
    image : is_image (shape_at G.shapes (unit_of G g)) ≡ true

  read_wants : (g : ℕ) (b : Access) → OfReader F V N g b → wanted b.kind ≡ None
  read_wants g b O =
      let X = read_parts G g O.host in
      let R = read_stands G heap P S (export_at G g) X.known in
      let has = O.has in
      entry_of (λ (x : Access). wanted x.kind ≡ None) (access (piece_of G (length G.imports + export_at G g)) (access_kinds.Load agent.Host None) ∷ []) has.0 b
      (one (λ (x : Access). wanted x.kind ≡ None) (access (piece_of G (length G.imports + export_at G g)) (access_kinds.Load agent.Host None)) refl)
      (sym (ap (λ x. slice_get x.accesses has.0) R.effect) ∙ has.1)

  spot_image : (x g : ℕ) (a : Access) (l : Layout) → Spot F V N x a g → wanted a.kind ≡ Some l → IsImage g
  spot_image x g a l (at_prologue e t) w =
      let B = prologue_before g a l t w in
      let T = prologue_low G heap P S g a t in
      let unit : unit_of G B.0 ≡ unit_of G g = next_unit G S.grouped B.0 B.1.after.goes ∙ ap (unit_of G) (sym B.1.after.number) in
      record { low = T.recorded.0; image = ap (λ u. is_image (shape_at G.shapes u)) (sym unit) ∙ sym (unit_image B.0 B.1.low) ∙ ap is_some B.1.layout }
  spot_image x g a l (at_member {c = c} e m) w =
      let M = member_layout c g a l m w (member_cases G heap P S c g m.member) in
      record { low = M.0; image = sym (unit_image g M.0) ∙ ap is_some M.1 }
  spot_image x g a l (at_release e r) w = absurd (none_some (sym (release_wants a.kind r.release) ∙ w))
  spot_image x g a l (at_reader e r) w = absurd (none_some (sym (read_wants g a r) ∙ w))

  -- a first group has none before it
  first_alone : (g i : ℕ) → First F g i → i < length G.groups → has_uses (earlier G i) ≡ false
  first_alone g zero I low = refl
  first_alone g (suc j) I low = go (goes_on G j) refl
    where
      go : (b : Bool) → goes_on G j ≡ b → has_uses (if b then group_at G j else []) ≡ false
      go false e = refl
      go true e =
          let within = next_within G S.grouped j e in
          let piece : F.piece j ≡ F.piece g = piece_is G heap P S j (omega (arith, within)) ∙ ap (piece_of G) (next_unit G S.grouped j e) ∙ sym (piece_is G heap P S (suc j) within) ∙ I.same in
          let late = I.least j piece in
          absurd (omega (arith, late))

  image_kind : (i : ℕ) → has_uses (earlier G i) ≡ false → is_import G (unit_of G i) ≡ false → is_some (own_layout i) ≡ true → is_init (prologue_of G heap i).kind ≡ true
  image_kind i alone fresh image =
      let B = group_at G i in
      let reused = has_uses (uses_under G heap (place_of G (first B).unit)) in
      ap (λ b. is_init (if b then next_kind G (earlier G i) B else if is_import G (first B).unit then kinds.Nothing else first_kind reused (is_some (first B).layout))) alone
      ∙ ap (λ b. is_init (if b then kinds.Nothing else first_kind reused (is_some (first B).layout))) fresh
      ∙ ap (λ b. is_init (first_kind reused b)) image
      ∙ init_kind reused

  begins : (x g i : ℕ) (a : Access) (l : Layout) → Spot F V N x a g → wanted a.kind ≡ Some l → First F g i → sets i ≡ true
  begins x g i a l spot w I =
      let X = spot_image x g a l spot w in
      let early = I.least g refl in
      let g_low = X.low in
      let low : i < length G.groups = omega (arith, early, g_low) in
      let unit : unit_of G i ≡ unit_of G g = sym (resource_unit G S.grouped S.known i low) ∙ same_resource G S.grouped S.known i g I.same ∙ resource_unit G S.grouped S.known g g_low in
      let image : is_image (shape_at G.shapes (unit_of G i)) ≡ true = ap (λ u. is_image (shape_at G.shapes u)) unit ∙ X.image in
      let some : is_some (own_layout i) ≡ true = unit_image i low ∙ image in
      let fresh : is_import G (unit_of G i) ≡ false = ⊎_elim (λ e. absurd (false≢true (sym (S.imports (unit_of G i) e) ∙ image))) (λ e. e) (cases_Bool (is_import G (unit_of G i))) in
      let kind = image_kind i (first_alone g i I low) fresh some in
      let to = some_of (own_layout i) some in
      does_item G heap P S sets_layout i (low, init_there (prologue_of G heap i).kind kind)
      ∙ init_sets (shapes_of P) (prologue_queue G i) (prologue_of G heap i).kind G (prologue_of G heap i) (earlier G i) (group_at G i) to.0 kind to.1

  pub laid : Laid F V N
  laid = record {
    sets = sets;
    layout = layout;
    there = does_there G heap P S sets_layout;
    known = known;
    steady = steady;
    member = member;
    prologue = prologue;
    begins = begins;
  }
