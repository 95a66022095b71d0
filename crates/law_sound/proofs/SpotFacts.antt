-- What holds of the groups that accesses are of.
use Rattle.std.proofs.Common.{◌≡◌, ⊎_elim, ℕ, zero, suc, ◌+◌, ◌<◌, ◌≤◌, ◌==◌, ◌&&◌, true, false, List, [], ◌∷◌, length, get_or, slice_get, Some, refl, sym, ap, ◌∙◌, eq-eqb, eqb-true, arith}
use Rattle.std.specs.List.{Contains}
use Rattle.std.proofs.lemmas.Bool.{and_parts, cases_lt, cases_order, false≢true, or_cases}
use Rattle.std.proofs.lemmas.List.{get_or_default}
use Rattle.std.proofs.lemmas.List.Elements.{Contains-get_or}
use Rattle.std.proofs.lemmas.List.Folds.{list_any_at}
use Rattle.base.specs.Operands.{mapped}
use Rattle.base.specs.declared.shape.Shape.{Shape}
use Rattle.base.specs.declared.touch.Touch.{Touch}
use Rattle.law_sound.proofs.ExportGroups.{copy_parts, no_read, not_both, read_parts}
use Rattle.law_sound.proofs.Exports.{copies_from}
use Rattle.law_sound.proofs.Grouped.{AreNext, of_unit, of_export, next, over_parts}
use Rattle.law_sound.proofs.Groups.{Member, member_of, next_within, some_use, sourced}
use Rattle.law_sound.proofs.PrologueKinds.{released_goes}
use Rattle.law_sound.proofs.Members.{command_stands, done, pieces_same, touch_piece, touch_plain}
use Rattle.law_sound.proofs.Roles.{changes_write}
use Rattle.law_sound.proofs.Setting.{IsSet}
use Rattle.law_sound.proofs.Spots.{all_spots, member_is, member_late, piece_is, has_prologue_late}
use Rattle.law_sound.proofs.Touches.{acting, moved, touched_there}
use Rattle.law_sound.proofs.Uses.{sourced_use}
use Rattle.law_sound.specs.Nodes.{command_node, nodes_of}
use Rattle.law_sound.specs.Plan.{export_at, is_copy, is_copy_of, plan_of}
use Rattle.law_plan.specs.Nodes.{Nodes}
use Rattle.law_plan.specs.Plans.{Plan, leads}
use Rattle.law_plan.specs.Spots.{OfMember, Spot, at_prologue, at_member, at_release, at_reader, Spots}
use Rattle.compile_groups.specs.Needs.{group_at, is_member, queue_of}
use Rattle.compile_groups.specs.Uses.{no_use, is_write}
use Rattle.compile_groups.specs.declared.grouping.Grouping.{Grouping}
use Rattle.compile_groups.specs.declared.unit_use.Use.{Use}
use Rattle.compile_record.specs.Pieces.{piece_of}
use Rattle.program.specs.Rules.{shapes_of}
use Rattle.program.specs.declared.program.Program.{Program}
use Rattle.compile_barriers.specs.Prologues.{first}
use Rattle.compile_barriers.specs.Under.{Heap}
use Rattle.check_access.specs.AccessKinds.{changes}
use Rattle.check_access.specs.Effects.{command_accesses}
use Rattle.check_access.specs.ValidView.{Has}
use Rattle.check_access.specs.Views.{View, view_of}
use Rattle.check_access.specs.declared.access.Access.{Access}

-- what is in a list is got from it
pub entry_got : {X : Type 0} (xs : List X) (x : X) → Contains xs x → (i : ℕ) × (slice_get xs i ≡ Some x)
entry_got [] x (k, lt, at) = absurd (omega (arith, lt))
entry_got (y ∷ xs) x (zero, lt, at) = (0, ap (λ z. Some z) at)
entry_got (y ∷ xs) x (suc k, lt, at) = let rest = entry_got xs x (k, omega (arith, lt), at) in (suc rest.0, rest.1)

-- a member of a group is one of a unit's, or the copy of an export
pub data IsMemberOf (G : Grouping) (c g : ℕ) : Type 0 where
  of_group : g < length G.groups → Member G c g → IsMemberOf G c g
  of_copy : length G.groups ≤ g → is_copy G g ≡ true → is_copy_of G (export_at G g) c ≡ true → IsMemberOf G c g

module _ (G : Grouping) (heap : Heap) (P : Program) (S : IsSet G heap P) where
  abbrev F : Plan
  F = plan_of G heap

  abbrev V : View
  V = view_of P

  abbrev N : Nodes
  N = nodes_of G heap

  abbrev shapes : List Shape
  shapes = shapes_of P

  -- WITHIN

  low_group : (g : ℕ) → g < length G.groups → g < F.groups
  low_group g lt = omega (arith, lt)

  pub member_cases : (c g : ℕ) → F.member c g ≡ true → IsMemberOf G c g
  member_cases c g m = ⊎_elim
      (λ lt. of_group lt (member_of G S.grouped c g (sym (member_is G heap P S c g lt) ∙ m)))
      (λ le. let both = and_parts (is_copy G g) (is_copy_of G (export_at G g) c) (sym (member_late G heap P S c g le) ∙ m) in of_copy le both.0 both.1)
      (cases_lt g (length G.groups))

  member_within : (c g : ℕ) → IsMemberOf G c g → g < F.groups
  member_within c g (of_group lt M) = low_group g lt
  member_within c g (of_copy le copy is) = (copy_parts G g copy).within

  has_prologue_within : (g : ℕ) → N.has_prologue g ≡ true → g < F.groups
  has_prologue_within g t = ⊎_elim (low_group g) (λ le. (read_parts G g (sym (has_prologue_late G heap P S g le) ∙ t)).within) (cases_lt g (length G.groups))

  pub released_low : (g : ℕ) → N.released g ≡ true → suc g < length G.groups
  released_low g r = next_within G S.grouped g (released_goes G S.grouped heap g r)

  within : (x : ℕ) (a : Access) (g : ℕ) → Spot F V N x a g → g < F.groups
  within x a g (at_prologue e t) = has_prologue_within g t.has_prologue
  within x a g (at_member {c = c} e m) = member_within c g (member_cases c g m.member)
  within x a g (at_release e r) = let low = released_low g r.released in low_group g (omega (arith, low))
  within x a g (at_reader e r) = (read_parts G g r.host).within

  -- SOME

  some : (g : ℕ) → N.has_prologue g ≡ true → F.host g ≡ false → (c : ℕ) × (a : Access) × OfMember F V N c g a
  some g t h = ⊎_elim unit (λ le. absurd (false≢true (sym h ∙ sym (has_prologue_late G heap P S g le) ∙ t))) (cases_lt g (length G.groups))
    where
      unit : g < length G.groups → (c : ℕ) × (a : Access) × OfMember F V N c g a
      unit lt =
          let u : Use = first (group_at G g) in
          let there : Contains (group_at G g) u = Contains-get_or (group_at G g) 0 no_use (some_use G S.grouped g lt) in
          let M : Member G u.command g = record { one = u; there = there; command = refl } in
          let X = sourced G S.grouped u.command g lt M in
          let I = sourced_use G u X in
          let q : ℕ = X.command.queue in
          let T : Touch = moved (piece_of G) I.touch in
          let A = acting shapes q T in
          let listed : Contains (command_accesses shapes q (mapped (piece_of G) X.command.op)) A.one = touched_there G.shapes shapes (piece_of G) q X.command.op (pieces_same G heap P S u.command X.command X.there) I.touch I.there A.one A.there in
          let E = entry_got (command_accesses shapes q (mapped (piece_of G) X.command.op)) A.one listed in
          let has : Has V (command_node G heap u.command) A.one = (E.0, ap (λ x. slice_get x.accesses E.0) (command_stands G heap P S u.command X.command X.there).effect ∙ E.1) in (
            u.command,
            A.one,
            record {
              member = member_is G heap P S u.command g lt ∙ is_there u there;
              has = has;
              plain = touch_plain shapes q T A.one A.is;
              piece = touch_piece shapes q T A.one A.is ∙ ap (piece_of G) (sym (ap (λ (v : Use). v.unit) I.is)) ∙ sym (piece_is G heap P S g lt);
            },
          )
        where
          is_there : (u : Use) → Contains (group_at G g) u → is_member G u.command g ≡ true
          is_there u h = list_any_at (λ (v : Use). v.command == u.command) (group_at G g) h.0 u h.1 (ap (λ (v : Use). v.command == u.command) h.2 ∙ eq-eqb u.command u.command refl)

  -- ALONE

  -- of two uses of a group neither writes
  pub lone_use : (g : ℕ) → g < length G.groups → (u v : Use) → Contains (group_at G g) u → Contains (group_at G g) v → is_write u ≡ true → u ≡ v
  lone_use g lt u v (i, li, at-u) (j, lj, at-v) w = ⊎_elim same (⊎_elim before after) (cases_order i j)
    where
      same : i ≡ j → u ≡ v
      same e = sym at-u ∙ ap (λ k. get_or (group_at G g) k u) e ∙ get_or_default (group_at G g) j u v lj ∙ at-v

      before : i < j → u ≡ v
      before l = absurd (false≢true (sym (S.grouped.joined g [] lt i j u l lj).first ∙ ap is_write at-u ∙ w))

      after : j < i → u ≡ v
      after l = absurd (false≢true (sym (S.grouped.joined g [] lt j i u l li).second ∙ ap is_write at-u ∙ w))

  alone_cases : (c d g : ℕ) (a : Access) → OfMember F V N c g a → changes a.kind ≡ true → IsMemberOf G c g → IsMemberOf G d g → c ≡ d
  alone_cases c d g a O k (of_group lt M) (of_group low M2) =
      let D = done G heap P S c g lt M a O.has (O.piece ∙ piece_is G heap P S g lt) in
      let w : is_write D.one ≡ true = changes_write (queue_of G c) D.one a.kind D.is.by k in
      sym D.command ∙ ap (λ (u : Use). u.command) (lone_use g lt D.one M2.one D.there M2.there w) ∙ M2.command
  alone_cases c d g a O k (of_group lt M) (of_copy le copy is) = absurd (omega (arith, lt, le))
  alone_cases c d g a O k (of_copy le copy is) (of_group lt M) = absurd (omega (arith, lt, le))
  alone_cases c d g a O k (of_copy le copy is) (of_copy low copy2 is2) = sym (S.copied.once (export_at G g) c (copies_from G (export_at G g) c is)) ∙ S.copied.once (export_at G g) d (copies_from G (export_at G g) d is2)

  -- HOST READS

  host_alone : (g c : ℕ) → F.host g ≡ true → F.member c g ≡ true → ⊥
  host_alone g c h m = go (member_cases c g m)
    where
      go : IsMemberOf G c g → ⊥
      go (of_group lt M) = false≢true (sym (no_read G g lt) ∙ h)
      go (of_copy le copy is) = not_both G g copy h

  host_last : (g h : ℕ) → F.host g ≡ true → leads F g h ≡ true → ⊥
  host_last g h is l = ⊎_elim onward over (or_cases ((h == g + 1) && (F.piece g == F.piece h)) (F.over g h) l)
    where
      past : length G.groups ≤ g
      past = (read_parts G g is).past

      onward : ((h == g + 1) && (F.piece g == F.piece h)) ≡ true → ⊥
      onward e =
          let both = and_parts (h == g + 1) (F.piece g == F.piece h) e in
          let number : h ≡ suc g = let n = eqb-true h (g + 1) both.0 in omega (arith, n) in
          go (next G S.grouped S.known g (eqb-true (F.piece g) (F.piece h) both.1 ∙ ap F.piece number))
        where
          go : AreNext G g → ⊥
          go (of_unit lt goes) = omega (arith, lt, past)
          go (of_export le copy read one) = not_both G g copy is

      over : F.over g h ≡ true → ⊥
      over o = let low = (over_parts G heap g h o).lower in omega (arith, low, past)

  host_kept : (g : ℕ) → N.released g ≡ true → F.host g ≡ false
  host_kept g r = let low = released_low g r in no_read G g (omega (arith, low))

  pub spots : Spots F V N
  spots = record {
    all = all_spots G heap P S;
    within = within;
    some = some;
    alone = λ c d g a O k m. alone_cases c d g a O k (member_cases c g O.member) (member_cases d g m);
    host_alone = host_alone;
    host_last = host_last;
    host_kept = host_kept;
  }
