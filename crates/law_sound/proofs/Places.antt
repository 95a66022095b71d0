-- Where the nodes of a compiled frame stand.
use Rattle.std.proofs.Common.{◌≡◌, ◌≢◌, ◌⊎◌, ⊎_elim, inl, inr, ℕ, suc, ◌+◌, ◌-◌, ◌%◌, ◌<◌, ◌≤◌, ◌==◌, ◌&&◌, Bool, true, false, [], length, if◌then◌else◌, Some, sym, ap, ◌∙◌, subst, eqb-true, arith}
use Rattle.std.specs.List.{Contains}
use Rattle.std.specs.Option.{option_map_or}
use Rattle.std.specs.Prelude.{slice_get}
use Rattle.std.proofs.lemmas.Bool.{and_parts, cases_eq, cases_lt, cases_order, false≢true, le-ltb, lt-ltb, or_cases}
use Rattle.std.proofs.lemmas.List.Elements.{All-contains}
use Rattle.std.proofs.lemmas.Option.{slice_get_cases, slice_get_within}
use Rattle.base.specs.Operands.{mapped}
use Rattle.law_sound.proofs.Contained.{contains_on, from_first, last_on, last_queue, on_rising, up_to_last}
use Rattle.law_sound.proofs.Exports.{AreCopied, Copies, copies_from}
use Rattle.law_sound.proofs.Grouped.{AreNext, of_unit, of_export, next, over_parts}
use Rattle.law_sound.proofs.Groups.{Member, commands_rise, first_in, member_of, member_queue, next_unit, next_within, sourced, use_queue}
use Rattle.law_sound.proofs.PrologueKinds.{earlier_is, kept_barrier, next_there, over_there, released_goes, released_transfer}
use Rattle.law_sound.proofs.Later.{sooner_crossed}
use Rattle.law_sound.proofs.Steps.{ItemAt, command_at, command_steps, copy_at, does_at, over_need, soon, prologue_at}
use Rattle.law_sound.specs.Nodes.{command_node, copied_node, copied_step, item_at, nodes_of, release_node, release_queue, steps, prologue_node, prologue_queue}
use Rattle.law_sound.specs.Plan.{export_at, is_copy, is_copy_of, is_of_export, is_over, is_read, plan_of, uses_in_group}
use Rattle.law_plan.specs.Crossings.{Sooner, Crossed, Later}
use Rattle.law_plan.specs.Nodes.{Places}
use Rattle.law_plan.specs.Plans.{leads}
use Rattle.law_schedule.specs.Later.{AreSooner, AreCrossed}
use Rattle.compile_groups.specs.Laws.{IsGrouped, IsKnown, IsSourced}
use Rattle.compile_groups.specs.Needs.{group_at, goes_on, is_member, queue_of}
use Rattle.compile_groups.specs.declared.command.Command as commands
use Rattle.compile_groups.specs.declared.grouping.Grouping.{Grouping}
use Rattle.compile_groups.specs.declared.unit_use.Use.{Use}
use Rattle.check_order.specs.Nodes.{program_nodes}
use Rattle.compile_record.proofs.Contained.{contains_some}
use Rattle.compile_record.specs.Items.{transfer}
use Rattle.compile_record.specs.Pieces.{piece_of}
use Rattle.compile_record.specs.Script.{is_released}
use Rattle.compile_record.specs.Standing.{IsNeeded, IsRecorded, IsStanding, NeedsOthers, host_item, host_step, step, prologue_item}
use Rattle.compile_record.specs.Wanted.{is_there}
use Rattle.compile_record.specs.declared.mark.Mark.TheVariants.{Command, Prologue as OfPrologue, Release}
use Rattle.program.specs.declared.program.Item.{Item}
use Rattle.program.specs.declared.program.Item.TheVariants as item
use Rattle.program.specs.declared.program.Program.{Program}
use Rattle.compile_barriers.specs.Masks.{release_masks}
use Rattle.compile_barriers.specs.Prologues.{first, last, prologue_of}
use Rattle.compile_barriers.specs.Under.{Heap}
use Rattle.compile_barriers.specs.Unions.{on}
use Rattle.check_access.specs.Views.{view_of}

-- the item of command c is there
pub record HasItem (G : Grouping) (heap : Heap) (c : ℕ) : Type 0 where
  pub it : Item
  pub at : ItemAt G heap (queue_of G c) (step G heap (Command c)) it
  pub known : c < length G.commands

-- prologues and members of the groups of units, and of those after them
module _ (G : Grouping) (heap : Heap) where
  pub prologue_unit : (g : ℕ) → g < length G.groups → (nodes_of G heap).prologue g ≡ prologue_node G heap g
  prologue_unit g lt = ap (λ b. if b then prologue_node G heap g else copied_node G heap (export_at G g)) (lt-ltb g (length G.groups) lt)

  pub prologue_late : (g : ℕ) → length G.groups ≤ g → (nodes_of G heap).prologue g ≡ copied_node G heap (export_at G g)
  prologue_late g le = ap (λ b. if b then prologue_node G heap g else copied_node G heap (export_at G g)) (le-ltb g (length G.groups) le)

  pub has_prologue_unit : (g : ℕ) → g < length G.groups → (nodes_of G heap).has_prologue g ≡ is_there (prologue_of G heap g).kind
  has_prologue_unit g lt = ap (λ b. if b then is_there (prologue_of G heap g).kind else is_read G g) (lt-ltb g (length G.groups) lt)

  pub has_prologue_late : (g : ℕ) → length G.groups ≤ g → (nodes_of G heap).has_prologue g ≡ is_read G g
  has_prologue_late g le = ap (λ b. if b then is_there (prologue_of G heap g).kind else is_read G g) (le-ltb g (length G.groups) le)

  pub member_unit : (c g : ℕ) → g < length G.groups → uses_in_group G c g ≡ true → is_member G c g ≡ true
  member_unit c g lt e = sym (ap (λ b. if b then is_member G c g else (is_copy G g && is_copy_of G (export_at G g) c)) (lt-ltb g (length G.groups) lt)) ∙ e

  pub member_late : (c g : ℕ) → length G.groups ≤ g → uses_in_group G c g ≡ true → (is_copy G g ≡ true) × (is_copy_of G (export_at G g) c ≡ true)
  member_late c g le e = and_parts (is_copy G g) (is_copy_of G (export_at G g) c) (sym (ap (λ b. if b then is_member G c g else (is_copy G g && is_copy_of G (export_at G g) c)) (le-ltb g (length G.groups) le)) ∙ e)

module _ (G : Grouping) (L : IsGrouped G) (heap : Heap) (S : IsStanding G heap) where
  -- ITEMS

  pub of_command : (c : ℕ) (command : commands.Command) → slice_get G.commands c ≡ Some command → HasItem G heap c
  of_command c command e = record { it = item.Command (mapped (piece_of G) command.op); at = command_at G heap S c command e; known = slice_get_within G.commands c command e }

  pub known_command : (c : ℕ) → c < length G.commands → HasItem G heap c
  known_command c lt = ⊎_elim (λ h. of_command c h.0 h.2) (λ h. absurd (let le = h.0 in omega (arith, le, lt))) (slice_get_cases G.commands c).1

  pub use_command : (u : Use) → IsSourced G u → HasItem G heap u.command
  use_command u I = of_command u.command I.command I.there

  pub member_command : (c g : ℕ) → g < length G.groups → Member G c g → HasItem G heap c
  member_command c g lt M = subst (HasItem G heap) M.command (use_command M.one (sourced G L c g lt M))

  pub release_at : (g : ℕ) → is_released G heap g ≡ true → ItemAt G heap (release_queue G g) (step G heap (Release g)) (item.Release (transfer G (group_at G g) (group_at G (suc g)) (release_masks (group_at G g) (release_queue G g))))
  release_at g r =
      let within = next_within G L g (released_goes G L heap g r) in
      does_at G heap (step G heap (Release g)) (release_queue G g) (Some (Release g)) (item.Release (transfer G (group_at G g) (group_at G (suc g)) (release_masks (group_at G g) (release_queue G g)))) (S.each_release g (omega (arith, within), r))

  -- the command of a prologue's first member is not after its members
  first_low : (g d : ℕ) → g < length G.groups → Member G d g → (first (group_at G g)).command ≤ d
  first_low g d lt M = let l = from_first (group_at G g) M.one (L.members_rise g [] lt) M.there in let e = M.command in omega (arith, l, e)

  last_high : (g c : ℕ) → g < length G.groups → Member G c g → c ≤ (last (group_at G g)).command
  last_high g c lt M = let l = up_to_last (group_at G g) M.one (L.members_rise g [] lt) M.there in let e = M.command in omega (arith, l, e)

  pub prologue_before : (g d : ℕ) → IsRecorded G heap (OfPrologue g) → Member G d g → step G heap (OfPrologue g) < step G heap (Command d)
  prologue_before g d r M =
      let low = first_low g d r.0 M in
      let known = (member_command d g r.0 M).known in
      S.in_order (OfPrologue g) (Command d) r known
      (⊎_elim (λ e. inr (e, omega arith)) (⊎_elim (λ l. inl l) (λ l. absurd (omega (arith, l, low)))) (cases_order (first (group_at G g)).command d))

  release_after : (g c : ℕ) → IsRecorded G heap (Release g) → Member G c g → step G heap (Command c) < step G heap (Release g)
  release_after g c r M =
      let high = last_high g c r.0 M in
      let known = (member_command c g r.0 M).known in
      S.in_order (Command c) (Release g) known r
      (⊎_elim (λ e. inr (e, omega arith)) (⊎_elim (λ l. inl l) (λ l. absurd (omega (arith, l, high)))) (cases_order c (last (group_at G g)).command))

  prologue_after : (g c : ℕ) → goes_on G g ≡ true → IsRecorded G heap (OfPrologue (suc g)) → Member G c g → step G heap (Command c) < step G heap (OfPrologue (suc g))
  prologue_after g c goes r M =
      let within = next_within G L g goes in
      let known = (member_command c g (omega (arith, within)) M).known in
      let rise = commands_rise G L g (suc g) M.one (first (group_at G (suc g))) (omega arith) within (next_unit G L g goes) M.there (first_in G L (suc g) within) in
      let own = M.command in
      S.in_order (Command c) (OfPrologue (suc g)) known r (inl (omega (arith, rise, own)))

  -- the barrier after the copy of an export stands after it
  copy_after : (c : ℕ) (command : commands.Command) → slice_get G.commands c ≡ Some command → step G heap (Command c) < copied_step G heap c
  copy_after c command e =
      let is : copied_step G heap c ≡ host_step G heap c command = ap (λ o. option_map_or (host_step G heap c) o 0) e in
      omega (arith, is)

  module _ (P : Program) (sooner : AreSooner P (steps G heap) (length G.families)) (crossed : AreCrossed P (steps G heap) (length G.families)) where
    steps_in_order : (c d : ℕ) → queue_of G c ≡ queue_of G d → c < d → d < length G.commands → Sooner (program_nodes P) (command_node G heap c) (command_node G heap d)
    steps_in_order c d same lt below =
        let a = known_command c (omega (arith, lt, below)) in
        let b = known_command d below in
        subst (λ q. Sooner (program_nodes P) (item_at G heap q (step G heap (Command c))) (command_node G heap d)) (sym same)
        (soon G heap P sooner crossed (queue_of G d) (step G heap (Command c)) (step G heap (Command d)) a.it b.it
        (subst (λ q. ItemAt G heap q (step G heap (Command c)) a.it) same a.at) b.at
        (S.in_order (Command c) (Command d) a.known below (inl lt)))

    -- INTO WHAT STANDS AFTER A GROUP

    -- the last command of the group on that queue
    over_last : (g q p k : ℕ) (y : Item) → g < length G.groups → ItemAt G heap q k y → p ≢ q → p < length G.families → 0 < length (on p (group_at G g)) → NeedsOthers G heap (group_at G g) q k → Crossed (program_nodes P) (item_at G heap p (step G heap (Command (last (on p (group_at G g))).command))) (item_at G heap q k)
    over_last g q p k y lt at differ known some needs =
        let A = group_at G g in
        let v : Use = last (on p A) in
        let source : IsSourced G (last (on p A)) = last_on A p (IsSourced G) (L.sourced g [] lt) some in
        let its : HasItem G heap (last (on p A)).command = use_command (last (on p A)) source in
        let queue : queue_of G (last (on p A)).command ≡ p = sym (use_queue G L (last (on p A)) source) ∙ last_queue A p some in
        over_need G heap P sooner crossed q p k k (Command (last (on p A)).command) its.it y (needs p known differ some) (omega arith) (subst (λ r. ItemAt G heap r (step G heap (Command (last (on p A)).command)) its.it) queue its.at) at

    -- a member, by its use
    use_into : (K : IsKnown G) (g q k : ℕ) (y : Item) (u : Use) → g < length G.groups → ItemAt G heap q k y → NeedsOthers G heap (group_at G g) q k → Contains (group_at G g) u → step G heap (Command u.command) < k → Later (program_nodes P) (item_at G heap u.queue (step G heap (Command u.command))) (item_at G heap q k)
    use_into K g q k y u lt at needs there before = ⊎_elim here there_too (cases_eq u.queue q)
      where
        source : IsSourced G u
        source = All-contains (IsSourced G) (group_at G g) u (L.sourced g [] lt) there

        its : HasItem G heap u.command
        its = use_command u source

        own : ItemAt G heap u.queue (step G heap (Command u.command)) its.it
        own = subst (λ r. ItemAt G heap r (step G heap (Command u.command)) its.it) (sym (use_queue G L u source)) its.at

        here : u.queue ≡ q → Later (program_nodes P) (item_at G heap u.queue (step G heap (Command u.command))) (item_at G heap q k)
        here same = inl (subst (λ r. Sooner (program_nodes P) (item_at G heap r (step G heap (Command u.command))) (item_at G heap q k)) (sym same)
            (soon G heap P sooner crossed q (step G heap (Command u.command)) k its.it y (subst (λ r. ItemAt G heap r (step G heap (Command u.command)) its.it) same own) at before))

        there_too : (u.queue ≡ q → ⊥) → Later (program_nodes P) (item_at G heap u.queue (step G heap (Command u.command))) (item_at G heap q k)
        there_too differ = inr (⊎_elim
            (λ (e : u.command ≡ (last (on u.queue (group_at G g))).command). subst (λ c. Crossed (program_nodes P) (item_at G heap u.queue (step G heap (Command c))) (item_at G heap q k)) (sym e) cross)
            (⊎_elim (λ l. sooner_crossed (program_nodes P) (item_at G heap u.queue (step G heap (Command u.command))) (item_at G heap u.queue (step G heap (Command (last (on u.queue (group_at G g))).command))) (item_at G heap q k) (earlier_one l) cross) (λ l. absurd (omega (arith, l, high))))
            (cases_order u.command (last (on u.queue (group_at G g))).command))
          where
            some : 0 < length (on u.queue (group_at G g))
            some = contains_some (on u.queue (group_at G g)) u (contains_on (group_at G g) u there)

            cross : Crossed (program_nodes P) (item_at G heap u.queue (step G heap (Command (last (on u.queue (group_at G g))).command))) (item_at G heap q k)
            cross = over_last g q u.queue k y lt at differ (All-contains (λ (w : Use). w.queue < length G.families) (group_at G g) u (λ i d l. (K.members g [] lt i d l).1) there) some needs

            high : u.command ≤ (last (on u.queue (group_at G g))).command
            high = up_to_last (on u.queue (group_at G g)) u (on_rising (group_at G g) u.queue (L.members_rise g [] lt)) (contains_on (group_at G g) u there)

            earlier_one : u.command < (last (on u.queue (group_at G g))).command → Sooner (program_nodes P) (item_at G heap u.queue (step G heap (Command u.command))) (item_at G heap u.queue (step G heap (Command (last (on u.queue (group_at G g))).command)))
            earlier_one l =
                let final : IsSourced G (last (on u.queue (group_at G g))) = last_on (group_at G g) u.queue (IsSourced G) (L.sourced g [] lt) some in
                let late : HasItem G heap (last (on u.queue (group_at G g))).command = use_command (last (on u.queue (group_at G g))) final in
                let queue : queue_of G (last (on u.queue (group_at G g))).command ≡ u.queue = sym (use_queue G L (last (on u.queue (group_at G g))) final) ∙ last_queue (group_at G g) u.queue some in
                soon G heap P sooner crossed u.queue (step G heap (Command u.command)) (step G heap (Command (last (on u.queue (group_at G g))).command)) its.it late.it own
                (subst (λ r. ItemAt G heap r (step G heap (Command (last (on u.queue (group_at G g))).command)) late.it) queue late.at)
                (S.in_order (Command u.command) (Command (last (on u.queue (group_at G g))).command) its.known late.known (inl l))

    pub member_into : (K : IsKnown G) (g q k c : ℕ) (y : Item) → g < length G.groups → ItemAt G heap q k y → NeedsOthers G heap (group_at G g) q k → Member G c g → step G heap (Command c) < k → Later (program_nodes P) (command_node G heap c) (item_at G heap q k)
    member_into K g q k c y lt at needs M before =
        let queue : M.one.queue ≡ queue_of G c = member_queue G L c g lt M in
        let low : step G heap (Command M.one.command) < k = subst (λ d. step G heap (Command d) < k) (sym M.command) before in
        subst (λ r. Later (program_nodes P) (item_at G heap r (step G heap (Command c))) (item_at G heap q k)) queue
        (subst (λ d. Later (program_nodes P) (item_at G heap M.one.queue (step G heap (Command d))) (item_at G heap q k)) M.command
        (use_into K g q k y M.one lt at needs M.there low))

    pub into_release : (K : IsKnown G) (g c : ℕ) → is_released G heap g ≡ true → is_member G c g ≡ true → Later (program_nodes P) (command_node G heap c) (release_node G heap g)
    into_release K g c r e =
        let within = next_within G L g (released_goes G L heap g r) in
        let lt : g < length G.groups = omega (arith, within) in
        let M = member_of G L c g e in
        member_into K g (release_queue G g) (step G heap (Release g)) c (item.Release (transfer G (group_at G g) (group_at G (suc g)) (release_masks (group_at G g) (release_queue G g)))) lt (release_at g r) (S.after g (lt, r)) M (release_after g c (lt, r) M)

    pub into_next : (K : IsKnown G) (g c : ℕ) → goes_on G g ≡ true → is_released G heap g ≡ false → is_member G c g ≡ true → Later (program_nodes P) (command_node G heap c) (prologue_node G heap (suc g))
    into_next K g c goes kept e =
        let within = next_within G L g goes in
        let M = member_of G L c g e in
        let r : IsRecorded G heap (OfPrologue (suc g)) = (within, next_there G L heap g goes) in
        member_into K g (prologue_queue G (suc g)) (step G heap (OfPrologue (suc g))) c (prologue_item G heap (suc g)) (omega (arith, within)) (prologue_at G heap S (suc g) r)
        (subst (λ A. NeedsOthers G heap A (prologue_queue G (suc g)) (step G heap (OfPrologue (suc g)))) (earlier_is G L heap g goes) (S.barriers (suc g) within (kept_barrier G L heap g goes kept)))
        M (prologue_after g c goes r M)

    pub into_copied : (A : AreCopied G) (k c : ℕ) → Copies G k c → Later (program_nodes P) (command_node G heap c) (copied_node G heap k)
    into_copied A k c C =
        let its = of_command c C.command C.there in
        inl (subst (λ d. Sooner (program_nodes P) (command_node G heap c) (item_at G heap (queue_of G d) (copied_step G heap d))) (sym (A.once k c C))
        (soon G heap P sooner crossed (queue_of G c) (step G heap (Command c)) (copied_step G heap c) its.it (host_item G C.command) its.at (copy_at G heap S c k C.command C.there C.export) (copy_after c C.command C.there)))

    -- ONTO THE MEMBERS OF A GROUP

    pub onto_member : (h d : ℕ) → IsRecorded G heap (OfPrologue h) → is_member G d h ≡ true → Later (program_nodes P) (prologue_node G heap h) (command_node G heap d)
    onto_member h d r e = ⊎_elim here over (cases_eq (queue_of G d) (prologue_queue G h))
      where
        M : Member G d h
        M = member_of G L d h e

        its : HasItem G heap d
        its = member_command d h r.0 M

        queue : M.one.queue ≡ queue_of G d
        queue = member_queue G L d h r.0 M

        here : queue_of G d ≡ prologue_queue G h → Later (program_nodes P) (prologue_node G heap h) (command_node G heap d)
        here same = inl (subst (λ q. Sooner (program_nodes P) (prologue_node G heap h) (item_at G heap q (step G heap (Command d)))) (sym same)
            (soon G heap P sooner crossed (prologue_queue G h) (step G heap (OfPrologue h)) (step G heap (Command d)) (prologue_item G heap h) its.it (prologue_at G heap S h r) (subst (λ q. ItemAt G heap q (step G heap (Command d)) its.it) same its.at) (prologue_before h d r M)))

        among : Contains (on (queue_of G d) (group_at G h)) M.one
        among = subst (λ q. Contains (on q (group_at G h)) M.one) queue (contains_on (group_at G h) M.one M.there)

        low : (first (on (queue_of G d) (group_at G h))).command ≤ d
        low = let l = from_first (on (queue_of G d) (group_at G h)) M.one (on_rising (group_at G h) (queue_of G d) (L.members_rise h [] r.0)) among in let own = M.command in omega (arith, l, own)

        over : (queue_of G d ≡ prologue_queue G h → ⊥) → Later (program_nodes P) (prologue_node G heap h) (command_node G heap d)
        over differ = inr (over_need G heap P sooner crossed (queue_of G d) (prologue_queue G h) (step G heap (Command (first (on (queue_of G d) (group_at G h))).command)) (step G heap (Command d)) (OfPrologue h) (prologue_item G heap h) its.it
            (S.members h (queue_of G d) r differ (contains_some (on (queue_of G d) (group_at G h)) M.one among))
            (command_steps G heap S (first (on (queue_of G d) (group_at G h))).command d low its.known)
            (prologue_at G heap S h r) its.at)

    pub into_transfer : (g : ℕ) → is_released G heap g ≡ true → Crossed (program_nodes P) (release_node G heap g) (prologue_node G heap (suc g))
    into_transfer g r =
        let goes = released_goes G L heap g r in
        let within = next_within G L g goes in
        let back : suc g - 1 ≡ g = omega arith in
        over_need G heap P sooner crossed (prologue_queue G (suc g)) (release_queue G g) (step G heap (OfPrologue (suc g))) (step G heap (OfPrologue (suc g))) (Release g) (item.Release (transfer G (group_at G g) (group_at G (suc g)) (release_masks (group_at G g) (release_queue G g)))) (prologue_item G heap (suc g))
        (subst (λ h. IsNeeded G heap (prologue_queue G (suc g)) (Release h) (step G heap (OfPrologue (suc g)))) back (S.acquires (suc g) within (released_transfer G L heap g r)))
        (omega arith) (release_at g r) (prologue_at G heap S (suc g) (within, next_there G L heap g goes))

    -- ALL OF THEM

    module _ (K : IsKnown G) (A : AreCopied G) where
      abbrev prologue : ℕ → ℕ
      prologue = (nodes_of G heap).prologue

      abbrev has_prologue : ℕ → Bool
      has_prologue = (nodes_of G heap).has_prologue

      abbrev piece : ℕ → ℕ
      piece = (plan_of G heap).piece

      has_prologue_next : (g : ℕ) → piece g ≡ piece (suc g) → has_prologue (suc g) ≡ true
      has_prologue_next g e = go (next G L K g e)
        where
          go : AreNext G g → has_prologue (suc g) ≡ true
          go (of_unit lt goes) = has_prologue_unit G heap (suc g) lt ∙ next_there G L heap g goes
          go (of_export le copy read one) = has_prologue_late G heap (suc g) (omega (arith, le)) ∙ read

      leads_cases : (g h : ℕ) → leads (plan_of G heap) g h ≡ true → ((h ≡ suc g) × (piece g ≡ piece (suc g))) ⊎ (is_over G heap g h ≡ true)
      leads_cases g h e = ⊎_elim
          (λ near. let both = and_parts (h == g + 1) (piece g == piece h) near in let is : h ≡ g + 1 = eqb-true h (g + 1) both.0 in let at : h ≡ suc g = omega (arith, is) in inl (at, eqb-true (piece g) (piece h) both.1 ∙ ap piece at))
          (λ over. inr over)
          (or_cases ((h == g + 1) && (piece g == piece h)) (is_over G heap g h) e)

      have_prologue : (g h : ℕ) → leads (plan_of G heap) g h ≡ true → has_prologue h ≡ true
      have_prologue g h e = ⊎_elim
          (λ near. subst (λ k. has_prologue k ≡ true) (sym near.0) (has_prologue_next g near.1))
          (λ over. has_prologue_unit G heap h (over_parts G heap g h over).upper ∙ over_there G L heap g h over)
          (leads_cases g h e)

      into_prologue : (g c : ℕ) → piece g ≡ piece (suc g) → is_released G heap g ≡ false → uses_in_group G c g ≡ true → Later (program_nodes P) (command_node G heap c) (prologue (suc g))
      into_prologue g c e kept m = go (next G L K g e)
        where
          go : AreNext G g → Later (program_nodes P) (command_node G heap c) (prologue (suc g))
          go (of_unit lt goes) = subst (λ x. Later (program_nodes P) (command_node G heap c) x) (sym (prologue_unit G heap (suc g) lt)) (into_next K g c goes kept (member_unit G heap c g (omega (arith, lt)) m))
          go (of_export le copy read one) = subst (λ x. Later (program_nodes P) (command_node G heap c) x) (sym (prologue_late G heap (suc g) (omega (arith, le)) ∙ ap (copied_node G heap) (sym one))) (into_copied A (export_at G g) c (copies_from G (export_at G g) c (member_late G heap c g le m).1))

      -- the group of a copy has no prologue
      copy_alone : (h d : ℕ) → length G.groups ≤ h → has_prologue h ≡ true → uses_in_group G d h ≡ true → ⊥
      copy_alone h d le t m =
          let read = (and_parts (is_of_export G h) ((h - length G.groups) % 2 == 1) (sym (has_prologue_late G heap h le) ∙ t)).1 in
          let copy = (and_parts (is_of_export G h) ((h - length G.groups) % 2 == 0) (member_late G heap d h le m).0).1 in
          let odd = eqb-true ((h - length G.groups) % 2) 1 read in
          let even = eqb-true ((h - length G.groups) % 2) 0 copy in
          omega (arith, odd, even)

      onto : (h d : ℕ) → has_prologue h ≡ true → uses_in_group G d h ≡ true → Later (program_nodes P) (prologue h) (command_node G heap d)
      onto h d t m = ⊎_elim
          (λ lt. subst (λ x. Later (program_nodes P) x (command_node G heap d)) (sym (prologue_unit G heap h lt)) (onto_member h d (lt, sym (has_prologue_unit G heap h lt) ∙ t) (member_unit G heap d h lt m)))
          (λ le. absurd (copy_alone h d le t m))
          (cases_lt h (length G.groups))

      released_low : (g : ℕ) → is_released G heap g ≡ true → g < length G.groups
      released_low g r = let within = next_within G L g (released_goes G L heap g r) in omega (arith, within)

      into_acquire : (g h : ℕ) → is_released G heap g ≡ true → leads (plan_of G heap) g h ≡ true → Crossed (program_nodes P) (release_node G heap g) (prologue h)
      into_acquire g h r e = ⊎_elim
          (λ near. let within = next_within G L g (released_goes G L heap g r) in subst (λ k. Crossed (program_nodes P) (release_node G heap g) (prologue k)) (sym near.0) (subst (λ x. Crossed (program_nodes P) (release_node G heap g) x) (sym (prologue_unit G heap (suc g) within)) (into_transfer g r)))
          (λ over. absurd (false≢true (sym (over_parts G heap g h over).lower_last ∙ released_goes G L heap g r)))
          (leads_cases g h e)

      pub are_placed : Places (plan_of G heap) (view_of P) (nodes_of G heap)
      are_placed = record {
        steps = steps_in_order;
        has_prologue = have_prologue;
        into_prologue = λ g c e kept m.
            let n : suc g ≡ g + 1 = omega arith in
            subst (λ k. piece g ≡ piece k → Later (program_nodes P) (command_node G heap c) (prologue k)) n (λ same. into_prologue g c same kept m) e;
        onto = onto;
        into_release = λ g c r m. into_release K g c r (member_unit G heap c g (released_low g r) m);
        into_acquire = into_acquire;
      }
