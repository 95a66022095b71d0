-- What uses the earlier of two units in the same bytes comes before the alias barrier.
use Rattle.std.proofs.Common.{◌≡◌, ◌⊎◌, ⊎_elim, inl, inr, ℕ, suc, ◌+◌, ◌-◌, ◌<◌, ◌≤◌, ◌==◌, ◌&&◌, nat_lt, Bool, true, false, [], length, get_or, if◌then◌else◌, None, Some, refl, sym, ap, ◌∙◌, subst, eq-eqb, eqb-true, arith}
use Rattle.std.specs.List.{Contains, range_with_len}
use Rattle.std.specs.Prelude.{slice_get}
use Rattle.std.proofs.lemmas.Bool.{and_from, and_parts, cases_Bool, cases_eq, cases_order, false≢true, lt-ltb, ltb-true, or_cases}
use Rattle.std.proofs.lemmas.Option.{slice_get_cases}
use Rattle.std.proofs.lemmas.List.Folds.{Any-from_list_any, list_any_at}
use Rattle.std.proofs.lemmas.List.FromFn.{get_or-range_with_len, length-range_with_len}
use Rattle.law_sound.proofs.Aliased.{alias_at, alias_item}
use Rattle.law_sound.proofs.Contained.{contains_on, from_first, on_rising}
use Rattle.law_sound.proofs.Early.{IsEarly}
use Rattle.law_sound.proofs.Grouped.{over_parts, resource_unit}
use Rattle.law_sound.proofs.Groups.{Member, commands_rise, first_in, member_of, member_queue, next_unit, next_within, is_own, some_use, use_queue}
use Rattle.law_sound.proofs.Later.{later_then}
use Rattle.law_sound.proofs.Places.{HasItem, member_unit, into_next, into_release, into_transfer, member_command, member_into, known_command, release_at, prologue_before}
use Rattle.law_sound.proofs.Steps.{ItemAt, command_steps, over_need, soon, prologue_at}
use Rattle.law_sound.proofs.PrologueKinds.{earlier_is, kept_barrier, next_there, over_kinds, over_there, placed_unit, released_transfer}
use Rattle.law_sound.specs.Nodes.{alias_node, alias_step, command_node, item_at, release_node, release_queue, steps, steps_before, prologue_node, prologue_queue}
use Rattle.law_sound.specs.Plan.{is_copy, is_copy_of, export_at, is_over, plan_of, resource_of, unit_of, uses_in_group}
use Rattle.law_plan.specs.Crossings.{Sooner, Crossed, Later, IsFull}
use Rattle.law_plan.specs.Plans.{Reach, by_queue, by_need, then_reach}
use Rattle.law_schedule.specs.Later.{AreSooner, AreCrossed}
use Rattle.compile_groups.specs.Laws.{IsGrouped, IsKnown}
use Rattle.compile_groups.specs.Needs.{group_at, goes_on, is_member, is_of, leads, needs, queue_of, touches}
use Rattle.compile_groups.specs.Placed.{sizes, unit_at}
use Rattle.compile_groups.specs.Uses.{no_use}
use Rattle.compile_groups.specs.declared.grouping.Grouping.{Grouping}
use Rattle.compile_groups.specs.declared.unit_use.Use.{Use}
use Rattle.check_order.specs.Nodes.{program_nodes}
use Rattle.compile_lifetimes.specs.Ordered.{IsOrdered}
use Rattle.compile_heap.specs.Placing.{number_at, overlap}
use Rattle.base_reach.specs.Paths.{Path, one, then_on}
use Rattle.compile_record.proofs.Contained.{contains_some}
use Rattle.compile_record.specs.Items.{transfer}
use Rattle.compile_record.specs.Pieces.{piece_of}
use Rattle.compile_record.specs.Script.{does_command, is_released, script}
use Rattle.compile_record.specs.Standing.{IsNeeded, IsRecorded, IsStanding, NeedsOthers, StandsAt, step, prologue_item}
use Rattle.compile_record.specs.declared.mark.Mark.{Mark}
use Rattle.compile_record.specs.declared.mark.Mark.TheVariants.{Command, Prologue as OfPrologue, Release}
use Rattle.compile_record.specs.declared.mark.Marked.{Marked}
use Rattle.compile_record.specs.declared.mark.Marked.TheVariants.{Does, Needs}
use Rattle.program.specs.declared.program.Item.{Item}
use Rattle.program.specs.declared.program.Item.TheVariants as item
use Rattle.program.specs.declared.program.Program.{Program}
use Rattle.compile_barriers.specs.Masks.{release_masks}
use Rattle.compile_barriers.specs.Prologues.{first, last, prologue_of}
use Rattle.compile_barriers.specs.Under.{Heap, place_of}
use Rattle.compile_barriers.specs.Unions.{on}
use Rattle.compile_barriers.specs.declared.prologue.PrologueKind.TheVariants as kinds
use Rattle.check_access.specs.Views.{view_of}

-- PATHS

-- a need goes from a group to the next one of its unit
record IsNeed (G : Grouping) (c d : ℕ) : Type 0 where
  group : ℕ
  goes : goes_on G group ≡ true
  from : is_member G c group ≡ true
  to : is_member G d (suc group) ≡ true

-- by the queue, or by a need
data IsLed (G : Grouping) (c d : ℕ) : Type 0 where
  in_queue : c < d → d < length G.commands → queue_of G c ≡ queue_of G d → IsLed G c d
  in_need : IsNeed G c d → IsLed G c d

need_parts : (G : Grouping) (c d : ℕ) → needs G c d ≡ true → IsNeed G c d
need_parts G c d e = go (Any-from_list_any (λ g. goes_on G g && (is_member G c g && is_member G d (suc g))) (range_with_len 0 (length G.groups)) e)
  where
    go : (k : ℕ) × (g : ℕ) × (k < length (range_with_len 0 (length G.groups))) × (get_or (range_with_len 0 (length G.groups)) k g ≡ g) × ((goes_on G g && (is_member G c g && is_member G d (suc g))) ≡ true) → IsNeed G c d
    go (k, g, below, at, has) =
        let both = and_parts (goes_on G g) (is_member G c g && is_member G d (suc g)) has in
        let members = and_parts (is_member G c g) (is_member G d (suc g)) both.1 in
        record { group = g; goes = both.0; from = members.0; to = members.1 }

led_parts : (G : Grouping) (c d : ℕ) → leads G c d ≡ true → IsLed G c d
led_parts G c d e = ⊎_elim
    (λ q. let first_part = and_parts (nat_lt c d) (nat_lt d (length G.commands) && queue_of G c == queue_of G d) q in
    let second = and_parts (nat_lt d (length G.commands)) (queue_of G c == queue_of G d) first_part.1 in
    in_queue (ltb-true c d first_part.0) (ltb-true d (length G.commands) second.0) (eqb-true (queue_of G c) (queue_of G d) second.1))
    (λ n. in_need (need_parts G c d n))
    (or_cases (nat_lt c d && (nat_lt d (length G.commands) && queue_of G c == queue_of G d)) (needs G c d) e)

module _ (G : Grouping) (L : IsGrouped G) (K : IsKnown G) (heap : Heap) where
  in_group : (c g : ℕ) → g < length G.groups → is_member G c g ≡ true → uses_in_group G c g ≡ true
  in_group c g lt e = ap (λ b. if b then is_member G c g else (is_copy G g && is_copy_of G (export_at G g) c)) (lt-ltb g (length G.groups) lt) ∙ e

  need_reach : (c d : ℕ) → IsNeed G c d → Reach (plan_of G heap) c d
  need_reach c d N =
      let within = next_within G L N.group N.goes in
      let n : suc N.group ≡ N.group + 1 = omega arith in
      let piece : piece_of G (resource_of G N.group) ≡ piece_of G (resource_of G (suc N.group)) = ap (piece_of G) (resource_unit G L K N.group (omega (arith, within)) ∙ next_unit G L N.group N.goes ∙ sym (resource_unit G L K (suc N.group) within)) in
      by_need {g = N.group} (piece ∙ ap (λ k. piece_of G (resource_of G k)) n) (in_group c N.group (omega (arith, within)) N.from) (subst (λ k. uses_in_group G d k ≡ true) n (in_group d (suc N.group) within N.to))

  led_reach : (c d : ℕ) → IsLed G c d → Reach (plan_of G heap) c d
  led_reach c d (in_queue lt below same) = by_queue same lt below
  led_reach c d (in_need N) = need_reach c d N

  pub path_reach : (c d : ℕ) → Path (leads G) c d → Reach (plan_of G heap) c d
  path_reach c d (one e) = led_reach c d (led_parts G c d e)
  path_reach c d (then_on {b = m} p q) = then_reach (path_reach c m p) (path_reach m d q)

-- BEFORE AN ALIAS BARRIER

-- a need, or an item with a mark
abbrev is_marked : Marked → Bool
is_marked (Does q (Some mark) it) = true
is_marked (Does q None it) = false
is_marked (Needs q mark) = true

module _ (G : Grouping) (L : IsGrouped G) (K : IsKnown G) (heap : Heap) (S : IsStanding G heap) (early : IsEarly G heap) (P : Program) (sooner : AreSooner P (steps G heap) (length G.families)) (crossed : AreCrossed P (steps G heap) (length G.families)) (full : IsFull (view_of P)) (g h : ℕ) (over : is_over G heap g h ≡ true) where
  upper : h < length G.groups
  upper = (over_parts G heap g h over).upper

  recorded : IsRecorded G heap (OfPrologue h)
  recorded = (upper, over_there G L heap g h over)

  abbrev q : ℕ
  q = prologue_queue G h

  abbrev d : ℕ
  d = (first (group_at G h)).command

  -- what has a mark and stands before the prologue stands before the alias barrier
  before_alias : (i : ℕ) (x : Marked) → StandsAt G heap i x → is_marked x ≡ true → i < step G heap (OfPrologue h) → i < alias_step G heap h
  before_alias i x at marked lt = ⊎_elim alone both (over_kinds G L heap g h over)
    where
      alone : (prologue_of G heap h).kind ≡ kinds.Alias → i < alias_step G heap h
      alone e = let is : alias_step G heap h ≡ step G heap (OfPrologue h) - 0 = ap (λ k. step G heap (OfPrologue h) - steps_before k) e in omega (arith, is, lt)

      both : (prologue_of G heap h).kind ≡ kinds.AliasInit → i < alias_step G heap h
      both e =
          let is : alias_step G heap h ≡ step G heap (OfPrologue h) - 1 = ap (λ k. step G heap (OfPrologue h) - steps_before k) e in
          let a = S.each_alias h upper e in
          let next = a.1 in
          ⊎_elim
          (λ (same : i ≡ a.0). absurd (false≢true (sym (unmarked_there x (Does q None (item.Global (prologue_of G heap h).masks)) (sym at ∙ ap (slice_get (script G heap)) same ∙ a.2) refl) ∙ marked)))
          (λ (other : (i < a.0) ⊎ (a.0 < i)). ⊎_elim (λ l. omega (arith, is, next, l)) (λ l. absurd (omega (arith, next, l, lt))) other)
          (cases_order i a.0)
        where
          unmarked_there : (y z : Marked) → Some y ≡ Some z → is_marked z ≡ false → is_marked y ≡ false
          unmarked_there y z e2 f = let same : y ≡ z = cc in ap is_marked same ∙ f

  -- what is needed before the command of the group's first member is needed before the alias barrier
  moved : (r i : ℕ) (mark : Mark) → IsNeeded G heap r mark i → i ≤ step G heap (Command d) → IsNeeded G heap r mark (alias_step G heap h)
  moved r i mark N le =
      let low = N.below in
      record { place = N.place; below = before_alias N.place (Needs r mark) N.there refl (early h N.place r mark recorded N.there (omega (arith, low, le))); there = N.there }

  at : ItemAt G heap q (alias_step G heap h) (alias_item G L heap S h)
  at = alias_at G L heap S g h over

  its : HasItem G heap d
  its = member_command G L heap S d h upper M
    where
      M : Member G d h
      M = record { one = first (group_at G h); there = first_in G L h upper; command = refl }

  own_queue : queue_of G d ≡ q
  own_queue = sym (use_queue G L (first (group_at G h)) (L.sourced h [] upper 0 no_use (some_use G L h upper)))

  -- an earlier command stands before it
  command_before : (e : ℕ) → e < d → step G heap (Command e) < alias_step G heap h
  command_before e lt =
      let known = its.known in
      let E = known_command G L heap S e (omega (arith, lt, known)) in
      before_alias (step G heap (Command e)) (does_there e E.known).0 (does_there e E.known).1 (does_there e E.known).2 (S.in_order (Command e) (OfPrologue h) E.known recorded (inl lt))
    where
      does_there : (c : ℕ) → c < length G.commands → (x : Marked) × StandsAt G heap (step G heap (Command c)) x × (is_marked x ≡ true)
      does_there c below = ⊎_elim (λ t. (does_command G c t.0, S.each_command c t.0 t.2, refl)) (λ t. absurd (let le = t.0 in omega (arith, le, below))) (slice_get_cases G.commands c).1

  by_its_queue : (e : ℕ) → e < d → queue_of G e ≡ q → Later (program_nodes P) (command_node G heap e) (alias_node G heap h)
  by_its_queue e lt same =
      let known = its.known in
      let E = known_command G L heap S e (omega (arith, lt, known)) in
      inl (subst (λ r. Sooner (program_nodes P) (item_at G heap r (step G heap (Command e))) (alias_node G heap h)) (sym same)
      (soon G heap P sooner crossed q (step G heap (Command e)) (alias_step G heap h) E.it (alias_item G L heap S h) (subst (λ r. ItemAt G heap r (step G heap (Command e)) E.it) same E.at) at (command_before e lt)))

  -- over a need
  needed : (r i p : ℕ) (mark : Mark) (x : Item) → IsNeeded G heap r mark i → i ≤ step G heap (Command d) → r ≡ q → ItemAt G heap p (step G heap mark) x → Crossed (program_nodes P) (item_at G heap p (step G heap mark)) (alias_node G heap h)
  needed r i p mark x N le same there = over_need G heap P sooner crossed q p (alias_step G heap h) (alias_step G heap h) mark x (alias_item G L heap S h) (subst (λ s. IsNeeded G heap s mark (alias_step G heap h)) same (moved r i mark N le)) (omega arith) there at

  module _ (e : ℕ) (N : IsNeed G e d) where
    abbrev t : ℕ
    t = suc N.group

    within : suc N.group < length G.groups
    within = next_within G L N.group N.goes

    has_prologue : IsRecorded G heap (OfPrologue (suc N.group))
    has_prologue = (within, next_there G L heap N.group N.goes)

    from : Member G e N.group
    from = member_of G L e N.group N.from

    to : Member G d (suc N.group)
    to = member_of G L d (suc N.group) N.to

    rise : e < d
    rise = let l = commands_rise G L N.group (suc N.group) from.one to.one (omega arith) within (next_unit G L N.group N.goes) from.there to.there in let a = from.command in let b = to.command in omega (arith, l, a, b)

    prologue_low : step G heap (OfPrologue (suc N.group)) ≤ step G heap (Command d)
    prologue_low = let l = prologue_before G L heap S (suc N.group) d has_prologue to in omega (arith, l)

    -- to the prologue of the group that it leads to
    to_prologue : Later (program_nodes P) (command_node G heap e) (prologue_node G heap (suc N.group))
    to_prologue = go (cases_Bool (is_released G heap N.group))
      where
        go : (is_released G heap N.group ≡ true) ⊎ (is_released G heap N.group ≡ false) → Later (program_nodes P) (command_node G heap e) (prologue_node G heap (suc N.group))
        go (inl r) = later_then P full (command_node G heap e) (release_node G heap N.group) (prologue_node G heap (suc N.group)) (into_release G L heap S P sooner crossed K N.group e r N.from) (inr (into_transfer G L heap S P sooner crossed N.group r))
        go (inr r) = into_next G L heap S P sooner crossed K N.group e N.goes r N.from

    -- where the prologue is on the queue of the alias barrier
    same_queue : prologue_queue G (suc N.group) ≡ q → Later (program_nodes P) (command_node G heap e) (alias_node G heap h)
    same_queue same = go (cases_Bool (is_released G heap N.group))
      where
        back : suc N.group - 1 ≡ N.group
        back = omega arith

        go : (is_released G heap N.group ≡ true) ⊎ (is_released G heap N.group ≡ false) → Later (program_nodes P) (command_node G heap e) (alias_node G heap h)
        go (inl r) = later_then P full (command_node G heap e) (release_node G heap N.group) (alias_node G heap h) (into_release G L heap S P sooner crossed K N.group e r N.from)
            (inr (needed (prologue_queue G (suc N.group)) (step G heap (OfPrologue (suc N.group))) (release_queue G N.group) (Release N.group) (item.Release (transfer G (group_at G N.group) (group_at G (suc N.group)) (release_masks (group_at G N.group) (release_queue G N.group))))
            (subst (λ k. IsNeeded G heap (prologue_queue G (suc N.group)) (Release k) (step G heap (OfPrologue (suc N.group)))) back (S.acquires (suc N.group) within (released_transfer G L heap N.group r)))
            prologue_low same (release_at G L heap S N.group r)))
        go (inr r) = member_into G L heap S P sooner crossed K N.group q (alias_step G heap h) e (alias_item G L heap S h) (omega (arith, within)) at others from (command_before e rise)
          where
            others : NeedsOthers G heap (group_at G N.group) q (alias_step G heap h)
            others p lp differ some =
                subst (λ r2. IsNeeded G heap r2 (Command (last (on p (group_at G N.group))).command) (alias_step G heap h)) same
                (moved (prologue_queue G (suc N.group)) (step G heap (OfPrologue (suc N.group))) (Command (last (on p (group_at G N.group))).command)
                (subst (λ A. NeedsOthers G heap A (prologue_queue G (suc N.group)) (step G heap (OfPrologue (suc N.group)))) (earlier_is G L heap N.group N.goes) (S.barriers (suc N.group) within (kept_barrier G L heap N.group N.goes r)) p lp (λ is. differ (is ∙ same)) some)
                prologue_low)

    -- where it is on another one
    other_queue : (prologue_queue G (suc N.group) ≡ q → ⊥) → Later (program_nodes P) (command_node G heap e) (alias_node G heap h)
    other_queue differ = later_then P full (command_node G heap e) (prologue_node G heap (suc N.group)) (alias_node G heap h) to_prologue
        (inr (needed q (step G heap (Command (first (on q (group_at G (suc N.group)))).command)) (prologue_queue G (suc N.group)) (OfPrologue (suc N.group)) (prologue_item G heap (suc N.group))
        (S.members (suc N.group) q has_prologue (λ is. differ (sym is)) (contains_some (on q (group_at G (suc N.group))) to.one among))
        (command_steps G heap S (first (on q (group_at G (suc N.group)))).command d low its.known) refl (prologue_at G heap S (suc N.group) has_prologue)))
      where
        among : Contains (on q (group_at G (suc N.group))) to.one
        among = subst (λ r. Contains (on r (group_at G (suc N.group))) to.one) (member_queue G L d (suc N.group) within to ∙ own_queue) (contains_on (group_at G (suc N.group)) to.one to.there)

        low : (first (on q (group_at G (suc N.group)))).command ≤ d
        low = let l = from_first (on q (group_at G (suc N.group))) to.one (on_rising (group_at G (suc N.group)) q (L.members_rise (suc N.group) [] within)) among in let own = to.command in omega (arith, l, own)

    by_its_need : Later (program_nodes P) (command_node G heap e) (alias_node G heap h)
    by_its_need = ⊎_elim same_queue other_queue (cases_eq (prologue_queue G (suc N.group)) q)

  led_before : (e : ℕ) → IsLed G e d → Later (program_nodes P) (command_node G heap e) (alias_node G heap h)
  led_before e (in_queue lt below same) = by_its_queue e lt (same ∙ own_queue)
  led_before e (in_need N) = by_its_need e N

  -- along a path, whose last step is as above
  module _ (crosses : (c m : ℕ) → Reach (plan_of G heap) c m → Later (program_nodes P) (command_node G heap c) (command_node G heap m)) where
    path_before : (c e : ℕ) → e ≡ d → Path (leads G) c e → Later (program_nodes P) (command_node G heap c) (alias_node G heap h)
    path_before c e is (one l) = led_before c (subst (λ m. IsLed G c m) is (led_parts G c e l))
    path_before c e is (then_on {b = m} p r) = later_then P full (command_node G heap c) (command_node G heap m) (alias_node G heap h) (crosses c m (path_reach G L K heap c m p)) (path_before m e is r)

    -- a command uses a group's unit
    uses_unit : (c k : ℕ) → k < length G.groups → is_member G c k ≡ true → touches G (unit_of G k) c ≡ true
    uses_unit c k lt m =
        let count = length-range_with_len 0 (length G.groups) in
        let zero_more : 0 + k ≡ k = omega arith in
        let number : get_or (range_with_len 0 (length G.groups)) k 0 ≡ k = get_or-range_with_len 0 (length G.groups) k 0 lt ∙ zero_more in
        list_any_at (λ j. is_of G (unit_of G k) j && is_member G c j) (range_with_len 0 (length G.groups)) k 0 (omega (arith, count, lt))
        (subst (λ j. (is_of G (unit_of G k) j && is_member G c j) ≡ true) (sym number) (and_from (is_of G (unit_of G k) k) (is_member G c k) (is_own G L k lt) m))

    pub into_alias : IsOrdered G heap.ordered → (c : ℕ) → uses_in_group G c g ≡ true → Later (program_nodes P) (command_node G heap c) (alias_node G heap h)
    into_alias ordered c m =
        let O = over_parts G heap g h over in
        let pair = and_parts (heap.ordered (place_of G (unit_of G g)) (place_of G (unit_of G h))) (overlap (number_at heap.offsets (place_of G (unit_of G g))) (number_at (sizes G) (place_of G (unit_of G g))) (number_at heap.offsets (place_of G (unit_of G h))) (number_at (sizes G) (place_of G (unit_of G h)))) O.under in
        let before = (ordered (place_of G (unit_of G g)) (place_of G (unit_of G h)) O.lower_placed O.upper_placed).0 pair.0 in
        let low : touches G (unit_at G (place_of G (unit_of G g))) c ≡ true = subst (λ u. touches G u c ≡ true) (sym (placed_unit G (unit_of G g) O.lower_placed)) (uses_unit c g O.lower (member_unit G heap c g O.lower m)) in
        let high : touches G (unit_at G (place_of G (unit_of G h))) d ≡ true = subst (λ u. touches G u d ≡ true) (sym (placed_unit G (unit_of G h) O.upper_placed)) (uses_unit d h upper (is_first_member upper)) in
        path_before c d refl (before c d low high)
      where
        is_first_member : h < length G.groups → is_member G d h ≡ true
        is_first_member lt = list_any_at (λ (u : Use). u.command == d) (group_at G h) 0 no_use (some_use G L h lt) (eq-eqb d d refl)
