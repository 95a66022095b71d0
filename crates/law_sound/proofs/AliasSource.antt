-- What an alias barrier takes of the members of the last group of a unit that had the bytes.
use Rattle.std.proofs.Common.{◌≡◌, ◌⊎◌, inl, inr, ⊎_elim, ℕ, zero, suc, ◌-◌, ◌<◌, ◌≤◌, Bool, true, false, length, if◌then◌else◌, None, refl, sym, ap, ◌∙◌, subst, arith}
use Rattle.std.specs.List.{Contains, range_with_len}
use Rattle.std.proofs.lemmas.Bool.{cases_lt, cases_order, false≢true}
use Rattle.vk.specs.declared.masks.Masks.{Masks}
use Rattle.law_sound.proofs.Barriers.{IsBarrierOf, IsSource}
use Rattle.law_sound.proofs.Contained.{contains_number}
use Rattle.law_sound.proofs.Grouped.{Over, over_parts}
use Rattle.law_sound.proofs.Groups.{goes, is_own, of_unit, units_rise}
use Rattle.law_sound.proofs.Items.{barrier_stands, item_stands}
use Rattle.law_sound.proofs.PrologueKinds.{over_kinds, placed_unit}
use Rattle.law_sound.proofs.Members.{done}
use Rattle.law_sound.proofs.Served.{before_bytes, own_piece, takes_by}
use Rattle.law_sound.proofs.Setting.{IsSet}
use Rattle.law_sound.proofs.SpotFacts.{IsMemberOf, of_group, of_copy, member_cases}
use Rattle.law_sound.proofs.Unions.{barrier_takes}
use Rattle.law_sound.proofs.Spots.{prologue_stands}
use Rattle.law_sound.specs.Nodes.{alias_node, alias_step, item_at, nodes_of, steps_before, prologue_node, prologue_queue}
use Rattle.law_sound.specs.Plan.{plan_of, unit_of}
use Rattle.law_plan.specs.Crossings.{Sooner}
use Rattle.law_plan.specs.Masks.{Takes}
use Rattle.law_plan.specs.Nodes.{Nodes}
use Rattle.law_plan.specs.Plans.{Plan}
use Rattle.law_plan.specs.Spots.{OfMember}
use Rattle.law_schedule.specs.Standing.{StandsFor}
use Rattle.compile_groups.specs.Laws.{IsGrouped}
use Rattle.compile_groups.specs.Needs.{group_at, goes_on, is_of}
use Rattle.compile_groups.specs.Placed.{placed, unit_at}
use Rattle.compile_groups.specs.declared.grouping.Grouping.{Grouping}
use Rattle.compile_groups.specs.declared.unit_use.Use.{Use}
use Rattle.compile_record.proofs.Contained.{contains_filter, contains_part}
use Rattle.compile_record.specs.Pieces.{piece_of}
use Rattle.compile_record.specs.Standing.{item_by, step, prologue_item}
use Rattle.compile_record.specs.Wanted.{is_there}
use Rattle.compile_record.specs.declared.mark.Mark.TheVariants as marks
use Rattle.program.specs.Entries.{OfItem}
use Rattle.program.specs.declared.program.Item.TheVariants as item
use Rattle.program.specs.declared.program.Program.{Program}
use Rattle.compile_barriers.specs.Masks.{barrier_masks}
use Rattle.compile_barriers.specs.Prologues.{earlier, masks_of, prologue_of}
use Rattle.compile_barriers.specs.Under.{Heap, is_under, last_below, last_uses, place_of, under, uses_under}
use Rattle.compile_barriers.specs.declared.prologue.PrologueKind.TheVariants as kinds
use Rattle.check_access.specs.Views.{View, view_of}
use Rattle.check_access.specs.declared.access.Access.{Access}

module _ (G : Grouping) (L : IsGrouped G) where
  -- after a unit's last group comes none of it
  none_after : (g k : ℕ) → g < k → k < length G.groups → goes_on G g ≡ false → is_of G (unit_of G g) k ≡ true → ⊥
  none_after g k lt below ends own =
      let same : unit_of G k ≡ unit_of G g = of_unit G L (unit_of G g) k below own in
      let up = units_rise G L g (suc g) (omega arith) (omega (arith, lt, below)) in
      let more : unit_of G (suc g) ≤ unit_of G k = ⊎_elim (λ (l : suc g < k). units_rise G L (suc g) k l below) (λ (le : k ≤ suc g). let e : suc g ≡ k = omega (arith, le, lt) in let f : unit_of G (suc g) ≡ unit_of G k = ap (unit_of G) e in omega (arith, f)) (cases_lt (suc g) k) in
      let next : unit_of G g ≡ unit_of G (suc g) = omega (arith, up, more, same) in
      false≢true (sym ends ∙ goes G L g (omega (arith, lt, below)) next)

  last_is : (g m : ℕ) → g < m → m ≤ length G.groups → goes_on G g ≡ false → last_below G (unit_of G g) m ≡ group_at G g
  last_is g zero lt le ends = absurd (omega (arith, lt))
  last_is g (suc m) lt le ends = ⊎_elim
      (λ (same : g ≡ m).
      let own : is_of G (unit_of G g) m ≡ true = subst (λ k. is_of G (unit_of G g) k ≡ true) same (is_own G L g (omega (arith, lt, le))) in
      ap (λ b. if b then group_at G m else last_below G (unit_of G g) m) own ∙ ap (group_at G) (sym same))
      (⊎_elim
      (λ (low : g < m).
      let none : is_of G (unit_of G g) m ≡ false = false_unless (is_of G (unit_of G g) m) (none_after g m low (omega (arith, le)) ends) in
      ap (λ b. if b then group_at G m else last_below G (unit_of G g) m) none ∙ last_is g m low (omega (arith, le)) ends)
      (λ (high : m < g). absurd (omega (arith, high, lt))))
      (cases_order g m)
    where
      false_unless : (b : Bool) → (b ≡ true → ⊥) → b ≡ false
      false_unless true h = absurd (h refl)
      false_unless false h = refl

  -- the uses of that group are among those that had the bytes
  over_uses : (heap : Heap) (g h : ℕ) → Over G heap g h → (u : Use) → Contains (group_at G g) u → Contains (uses_under G heap (place_of G (unit_of G h))) u
  over_uses heap g h O u there =
      let b : ℕ = place_of G (unit_of G h) in
      let a : ℕ = place_of G (unit_of G g) in
      let among : Contains (under G heap b) a = contains_filter (is_under G heap b) (range_with_len 0 (length (placed G))) a (contains_number (length (placed G)) a O.lower_placed) O.under in
      let last : last_uses G (unit_at G a) ≡ group_at G g = ap (last_uses G) (placed_unit G (unit_of G g) O.lower_placed) ∙ last_is g (length G.groups) O.lower (omega arith) O.lower_last in
      contains_part (λ x. last_uses G (unit_at G x)) (under G heap b) a u among (subst (λ uses. Contains uses u) (sym last) there)

module _ (G : Grouping) (heap : Heap) (P : Program) (S : IsSet G heap P) where
  abbrev F : Plan
  F = plan_of G heap

  abbrev V : View
  V = view_of P

  abbrev N : Nodes
  N = nodes_of G heap

  -- where the alias barrier of group h stands, and that it does
  alias_stands : (h : ℕ) → h < length G.groups → ((prologue_of G heap h).kind ≡ kinds.Alias) ⊎ ((prologue_of G heap h).kind ≡ kinds.AliasInit) → StandsFor P (alias_node G heap h) (OfItem (prologue_queue G h) (item.Global (prologue_of G heap h).masks))
  alias_stands h lt (inl e) =
      let at : alias_step G heap h ≡ step G heap (marks.Prologue h) = ap (λ k. step G heap (marks.Prologue h) - steps_before k) e ∙ omega arith in
      let is : prologue_item G heap h ≡ item.Global (prologue_of G heap h).masks = ap (λ k. item_by k G (prologue_of G heap h) (earlier G h) (group_at G h)) e in
      subst (λ i. StandsFor P (item_at G heap (prologue_queue G h) i) (OfItem (prologue_queue G h) (item.Global (prologue_of G heap h).masks))) (sym at)
      (subst (λ x. StandsFor P (prologue_node G heap h) (OfItem (prologue_queue G h) x)) is (prologue_stands G heap P S h (lt, ap is_there e)))
  alias_stands h lt (inr e) =
      let A = S.standing.each_alias h lt e in
      let before = A.1 in
      let i : alias_step G heap h ≡ A.0 = ap (λ k. step G heap (marks.Prologue h) - steps_before k) e ∙ omega (arith, before) in
      subst (λ n. StandsFor P (item_at G heap (prologue_queue G h) n) (OfItem (prologue_queue G h) (item.Global (prologue_of G heap h).masks))) (sym i)
      (item_stands G heap P S.stand S.script A.0 (prologue_queue G h) None (item.Global (prologue_of G heap h).masks) A.2)

  alias_masks : (h : ℕ) → ((prologue_of G heap h).kind ≡ kinds.Alias) ⊎ ((prologue_of G heap h).kind ≡ kinds.AliasInit) → (prologue_of G heap h).masks ≡ barrier_masks (before_bytes G heap P S h) (group_at G h) (prologue_queue G h)
  alias_masks h (inl e) = ap (λ k. masks_of k (earlier G h) (before_bytes G heap P S h) (group_at G h) (prologue_queue G h)) e
  alias_masks h (inr e) = ap (λ k. masks_of k (earlier G h) (before_bytes G heap P S h) (group_at G h) (prologue_queue G h)) e

  pub takes_alias : (g h c : ℕ) (a : Access) → F.over g h ≡ true → OfMember F V N c g a → Sooner V.nodes (N.command c) (N.alias h) → Takes V (N.command c) a (N.alias h)
  takes_alias g h c a o M sooner = go (member_cases G heap P S c g M.member)
    where
      O : Over G heap g h
      O = over_parts G heap g h o

      kind : ((prologue_of G heap h).kind ≡ kinds.Alias) ⊎ ((prologue_of G heap h).kind ≡ kinds.AliasInit)
      kind = over_kinds G S.grouped heap g h o

      masks : Masks
      masks = (prologue_of G heap h).masks

      go : IsMemberOf G c g → Takes V (N.command c) a (N.alias h)
      go (of_copy le is k) = absurd (let low = O.lower in omega (arith, low, le))
      go (of_group low member) =
          let on = own_piece G heap P S g c a low M in
          let D = done G heap P S c g low member a M.has on in
          let B : IsBarrierOf V (alias_node G heap h) (prologue_queue G h) (piece_of G (unit_of G g)) masks = barrier_stands P (alias_node G heap h) (prologue_queue G h) (piece_of G (unit_of G g)) (item.Global masks) masks refl tt (alias_stands h O.upper kind) in
          takes_by G heap P S (alias_node G heap h) (prologue_queue G h) (piece_of G (unit_of G g)) masks B c a D.one D.is on sooner
          (λ own. subst (IsSource D.one) (sym (alias_masks h kind))
          (barrier_takes (before_bytes G heap P S h) (prologue_queue G h) D.one (over_uses G S.grouped heap g h O D.one D.there) own (group_at G h)))
