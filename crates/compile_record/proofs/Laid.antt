-- At which steps what is recorded stands.
use Rattle.std.proofs.Common.{◌≡◌, ◌≢◌, inl, inr, ⊎_elim, ℕ, suc, ◌+◌, ◌-◌, ◌<◌, ◌≤◌, ◌==◌, true, false, List, [], ◌∷◌, ◌++◌, length, map, Option, Some, None, if◌then◌else◌, refl, sym, ap, ◌∙◌, subst, eqb-true, eq-eqb, arith}
use Rattle.std.specs.List.{Contains, range_with_len}
use Rattle.std.specs.Option.{option_map_or}
use Rattle.std.specs.Prelude.{slice_get}
use Rattle.std.proofs.lemmas.Bool.{and_from}
use Rattle.std.proofs.lemmas.Bool.Decides.{eqb_tells}
use Rattle.std.proofs.lemmas.List.FromFn.{length-range_with_len, get_or-range_with_len}
use Rattle.std.proofs.lemmas.Option.{slice_get-get_or, slice_get_within}
use Rattle.base.proofs.Lists.{entry_of}
use Rattle.compile_groups.specs.Laws.{IsGrouped}
use Rattle.compile_groups.specs.Needs.{group_at}
use Rattle.compile_groups.specs.Uses.{no_use}
use Rattle.compile_groups.specs.declared.command.Command as commands
use Rattle.compile_groups.specs.declared.grouping.Grouping.{Grouping}
use Rattle.compile_groups.specs.declared.unit_use.Use.{Use}
use Rattle.compile_record.proofs.Contained.{contains_entry, entry_contained, contains_head, contains_map, contains_part, kept}
use Rattle.compile_record.proofs.Entries.{entry_left, entry_map, entry_right, entry_there, joint, joined_entry, one_entry}
use Rattle.compile_record.proofs.Membership.{IsUsed, IsMember, member_of, first_member, last_member, member_queue, each_used, is_used, after_first, command_below}
use Rattle.compile_record.proofs.Scripted.{first_step}
use Rattle.compile_record.proofs.Sides.{IsPrologueItem, IsPrologueOf, IsReleaseItem, IsReleaseOf, marks_needed, needed, released, own_place, IsPart, part_of, needed_entry, prologue_part_entry, command_entry, released_entry, host_entry, prologue_in, release_in, HasMark, mark_in, beside_is, one_place, side_less, own_entry, own_is, own_prologue, alias_prologue, release_need, own_release, in_needed, in_prologue_part, at_command, in_released, in_host}
use Rattle.compile_record.proofs.Starts.{start, at_start, IsLocated, located, start_less}
use Rattle.compile_record.specs.Items.{items_of, prologue_items, release_item}
use Rattle.compile_record.specs.Script.{is_command, use_needs, use_prologues, is_released, use_releases, host_barrier, groups_used, does_command, block, script}
use Rattle.compile_record.specs.Standing.{beside, Precedes, host_item, host_step, prologue_item, step, IsKnown, IsNeeded, IsRecorded, IsStanding, NeedsOthers, by_mark, by_alias, by_copy}
use Rattle.compile_record.specs.Wanted.{is_there, last_command, last_on, last_elsewhere, wanted_by, wanted_first, wanted_further, wanted_release}
use Rattle.compile_record.specs.declared.mark.Mark.{Mark}
use Rattle.compile_record.specs.declared.mark.Mark.TheVariants.{Command, Prologue as OfPrologue, Release}
use Rattle.compile_record.specs.declared.mark.Marked.{Marked}
use Rattle.compile_record.specs.declared.mark.Marked.TheVariants.{Does, Needs}
use Rattle.program.specs.declared.program.Item.{Item}
use Rattle.program.specs.declared.program.Item.TheVariants as item
use Rattle.compile_barriers.specs.Prologues.{first, last, earlier, prologue_of}
use Rattle.compile_barriers.specs.Under.{Heap}
use Rattle.compile_barriers.specs.Unions.{on}
use Rattle.compile_barriers.specs.declared.prologue.PrologueKind.{PrologueKind}
use Rattle.compile_barriers.specs.declared.prologue.PrologueKind.TheVariants as kinds

last_listed : (B : List Use) → 0 < length B → Contains (last_command B) (Command (last B).command)
last_listed [] lt = absurd (omega (arith, lt))
last_listed (u ∷ uses) lt = contains_head (Command (last (u ∷ uses)).command) []

-- a queue that there is
queue_there : (n p : ℕ) → p < n → slice_get (range_with_len 0 n) p ≡ Some p
queue_there n p lt =
    let low : p < length (range_with_len 0 n) = omega (arith, lt, length-range_with_len 0 n) in
    let number : 0 + p ≡ p = omega arith in
    slice_get-get_or (range_with_len 0 n) p p low ∙ ap (λ z. Some z) (get_or-range_with_len 0 n p p lt ∙ number)

-- the last of the uses on each other queue is wanted
elsewhere_has : (G : Grouping) (q : ℕ) (A : List Use) (p : ℕ) → p < length G.families → p ≢ q → 0 < length (on p A) → Contains (last_elsewhere G q A) (Command (last (on p A)).command)
elsewhere_has G q A p lt differ some-on =
    contains_part (last_on q A) (range_with_len 0 (length G.families)) p (Command (last (on p A)).command)
    (contains_entry (range_with_len 0 (length G.families)) p p (queue_there (length G.families) p lt))
    (⊎_elim (λ h. absurd (differ h.1)) (λ h. subst (λ b. Contains (if b then [] else last_command (on p A)) (Command (last (on p A)).command)) (sym h.0) (last_listed (on p A) some-on)) (eqb_tells p q))

unlike : (a b : ℕ) → a < b → (a == b) ≡ false
unlike a b lt = ⊎_elim (λ h. absurd (let e = h.1 in omega (arith, e, lt))) (λ h. h.0) (eqb_tells a b)

module _ (G : Grouping) (heap : Heap) (L : IsGrouped G) where
  abbrev list : List Marked
  list = script G heap

  -- EACH MARK ONCE

  record OfMark (w : ℕ) (mark : Mark) (x : Marked) : Type 0 where
    pub number : ℕ
    pub command : commands.Command
    pub entry : ℕ
    pub there : slice_get G.commands number ≡ Some command
    pub has : HasMark G heap number command entry mark x
    pub is : slice_get (block G heap number command) entry ≡ Some x
    pub place : w ≡ start G heap number + entry

  mark_at : (w q : ℕ) (mark : Mark) (it : Item) → slice_get (script G heap) w ≡ Some (Does q (Some mark) it) → OfMark w mark (Does q (Some mark) it)
  mark_at w q mark it e =
      let P = located G heap w (Does q (Some mark) it) e in
      record { number = P.number; command = P.command; entry = P.entry; there = P.there; has = mark_in G heap P.number P.command P.entry q mark it P.is; is = P.is; place = P.place }

  number_is : (w : ℕ) (mark : Mark) (x : Marked) (P : OfMark w mark x) → beside G mark ≡ P.number
  number_is w mark x P = beside_is G heap P.number P.command P.entry mark x P.has

  -- beside the same command
  beside_same : (c d k : ℕ) (command other : commands.Command) (mark : Mark) (x : Marked) → c ≡ d → slice_get G.commands c ≡ Some command → slice_get G.commands d ≡ Some other → HasMark G heap d other k mark x → HasMark G heap c command k mark x
  beside_same c d k command other mark x number one two has =
      let both : Some other ≡ Some command = sym two ∙ ap (slice_get G.commands) (sym number) ∙ one in
      let same : other ≡ command = cc in
      subst (λ n. HasMark G heap n command k mark x) (sym number) (subst (λ z. HasMark G heap d z k mark x) same has)

  once : (v w : ℕ) (mark : Mark) (x y : Marked) → OfMark v mark x → OfMark w mark y → v ≡ w
  once v w mark x y P Q =
      let number : P.number ≡ Q.number = sym (number_is v mark x P) ∙ number_is w mark y Q in
      let entries : P.entry ≡ Q.entry = one_place G heap P.number P.command L P.entry Q.entry mark x y P.has (beside_same P.number Q.number Q.entry P.command Q.command mark y number P.there Q.there Q.has) in
      let starts : start G heap P.number ≡ start G heap Q.number = ap (start G heap) number in
      let a = P.place in
      let b = Q.place in
      omega (arith, a, b, entries, starts)

  pub step_is : (w q : ℕ) (mark : Mark) (it : Item) → slice_get (script G heap) w ≡ Some (Does q (Some mark) it) → w ≡ step G heap mark
  step_is w q mark it e =
      let F = first_step (script G heap) mark w q it e in
      once w (step G heap mark) mark (Does q (Some mark) it) (Does F.queue (Some mark) F.item) (mark_at w q mark it e) (mark_at (step G heap mark) F.queue mark F.item F.is)

  -- THE STEP OF EACH MARK

  pub command_step : (c : ℕ) (command : commands.Command) → slice_get G.commands c ≡ Some command → start G heap c + own_place G heap c command ≡ step G heap (Command c)
  command_step c command there = step_is (start G heap c + own_place G heap c command) command.queue (Command c) _ (at_start G heap c (own_place G heap c command) command (does_command G c command) there (command_entry G heap c command))

  prologue_there : (c g j : ℕ) (command : commands.Command) → slice_get (groups_used G c) j ≡ Some g → (first (group_at G g)).command ≡ c → (m : ℕ) (x : Marked) → slice_get (items_of (prologue_of G heap g).kind G (prologue_of G heap g) (earlier G g) (group_at G g)) m ≡ Some x → slice_get G.commands c ≡ Some command → slice_get (script G heap) (start G heap c + (length (needed G heap c command) + (joint (use_prologues G heap c) (groups_used G c) j + m))) ≡ Some x
  prologue_there c g j command at mine m x is there =
      at_start G heap c (length (needed G heap c command) + (joint (use_prologues G heap c) (groups_used G c) j + m)) command x there
      (prologue_part_entry G heap c command (joint (use_prologues G heap c) (groups_used G c) j + m) x
      (joined_entry (use_prologues G heap c) (groups_used G c) j m (joint (use_prologues G heap c) (groups_used G c) j + m) g x at
      (subst (λ b. slice_get (if b then prologue_items G (prologue_of G heap g) (earlier G g) (group_at G g) else []) m ≡ Some x) (sym (eq-eqb (first (group_at G g)).command c mine)) is) refl))

  prologue_step : (c g j : ℕ) (command : commands.Command) → slice_get (groups_used G c) j ≡ Some g → (first (group_at G g)).command ≡ c → is_there (prologue_of G heap g).kind ≡ true → slice_get G.commands c ≡ Some command → start G heap c + (length (needed G heap c command) + (joint (use_prologues G heap c) (groups_used G c) j + own_entry (prologue_of G heap g).kind)) ≡ step G heap (OfPrologue g)
  prologue_step c g j command at mine there is =
      let kind : PrologueKind = (prologue_of G heap g).kind in
      step_is (start G heap c + (length (needed G heap c command) + (joint (use_prologues G heap c) (groups_used G c) j + own_entry (prologue_of G heap g).kind))) (first (group_at G g)).queue (OfPrologue g) (prologue_item G heap g)
      (prologue_there c g j command at mine (own_entry (prologue_of G heap g).kind) (Does (first (group_at G g)).queue (Some (OfPrologue g)) (prologue_item G heap g)) (own_is (prologue_of G heap g).kind G (prologue_of G heap g) (earlier G g) (group_at G g) there) is)

  abbrev wants : ℕ → ℕ → List Marked
  wants q g = map (Needs q) (wanted_release G (group_at G g))

  release_there : (c g j : ℕ) (command : commands.Command) → slice_get (groups_used G c) j ≡ Some g → (last (group_at G g)).command ≡ c → is_released G heap g ≡ true → (m : ℕ) (x : Marked) → slice_get (wants command.queue g ++ release_item G g (group_at G g) (group_at G (suc g)) ∷ []) m ≡ Some x → slice_get G.commands c ≡ Some command → slice_get (script G heap) (start G heap c + (own_place G heap c command + (1 + (joint (use_releases G heap command.queue c) (groups_used G c) j + m)))) ≡ Some x
  release_there c g j command at mine so m x is there =
      at_start G heap c (own_place G heap c command + (1 + (joint (use_releases G heap command.queue c) (groups_used G c) j + m))) command x there
      (released_entry G heap c command (joint (use_releases G heap command.queue c) (groups_used G c) j + m) x
      (joined_entry (use_releases G heap command.queue c) (groups_used G c) j m (joint (use_releases G heap command.queue c) (groups_used G c) j + m) g x at
      (subst (λ b. slice_get (if b then wants command.queue g ++ release_item G g (group_at G g) (group_at G (suc g)) ∷ [] else []) m ≡ Some x) (sym (and_from (is_command c (last (group_at G g))) (is_released G heap g) (eq-eqb (last (group_at G g)).command c mine) so)) is) refl))

  release_step : (c g j : ℕ) (command : commands.Command) → slice_get (groups_used G c) j ≡ Some g → (last (group_at G g)).command ≡ c → is_released G heap g ≡ true → slice_get G.commands c ≡ Some command → start G heap c + (own_place G heap c command + (1 + (joint (use_releases G heap command.queue c) (groups_used G c) j + length (wants command.queue g)))) ≡ step G heap (Release g)
  release_step c g j command at mine so there =
      let it : Marked = release_item G g (group_at G g) (group_at G (suc g)) in
      let number : length (wants command.queue g) + 0 ≡ length (wants command.queue g) = omega arith in
      step_is (start G heap c + (own_place G heap c command + (1 + (joint (use_releases G heap command.queue c) (groups_used G c) j + length (wants command.queue g))))) (last (group_at G g)).queue (Release g) _
      (release_there c g j command at mine so (length (wants command.queue g)) it (entry_right (wants command.queue g) (it ∷ []) 0 (length (wants command.queue g)) it refl number) there)

  -- THEIR COMMANDS

  -- the command of a member, and where it has the group
  record OfMember (g : ℕ) (u : Use) : Type 0 where
    pub command : commands.Command
    pub there : slice_get G.commands u.command ≡ Some command
    pub queue : command.queue ≡ u.queue
    pub number : ℕ
    pub at : slice_get (groups_used G u.command) number ≡ Some g

  of_member : (g : ℕ) (u : Use) → IsMember G g u → OfMember g u
  of_member g u M =
      let C = entry_there G.commands u.command (command_below G L g u M) in
      let U = is_used G L g u M in
      record {
        command = C.0;
        there = C.1;
        queue = sym (ap (λ o. option_map_or (λ (x : commands.Command). x.queue) o 0) C.1) ∙ member_queue G L g u M;
        number = U.0;
        at = entry_contained (groups_used G u.command) g U;
      }

  first_of : (g : ℕ) → g < length G.groups → OfMember g (first (group_at G g))
  first_of g lt = of_member g (first (group_at G g)) (first_member G L g lt)

  last_of : (g : ℕ) → g < length G.groups → OfMember g (last (group_at G g))
  last_of g lt = of_member g (last (group_at G g)) (last_member G L g lt)

  -- WHAT STANDS

  pub commands_stand : (c : ℕ) (command : commands.Command) → slice_get G.commands c ≡ Some command → slice_get (script G heap) (step G heap (Command c)) ≡ Some (does_command G c command)
  commands_stand c command there =
      subst (λ i. slice_get (script G heap) i ≡ Some (does_command G c command)) (command_step c command there) (at_start G heap c (own_place G heap c command) command (does_command G c command) there (command_entry G heap c command))

  pub prologues_stand : (g : ℕ) → IsRecorded G heap (OfPrologue g) → slice_get (script G heap) (step G heap (OfPrologue g)) ≡ Some (Does (first (group_at G g)).queue (Some (OfPrologue g)) (prologue_item G heap g))
  prologues_stand g (lt, there) =
      let F = first_of g lt in
      let c : ℕ = (first (group_at G g)).command in
      let x : Marked = Does (first (group_at G g)).queue (Some (OfPrologue g)) (prologue_item G heap g) in
      subst (λ i. slice_get (script G heap) i ≡ Some (Does (first (group_at G g)).queue (Some (OfPrologue g)) (prologue_item G heap g))) (prologue_step (first (group_at G g)).command g F.number F.command F.at refl there F.there)
      (prologue_there (first (group_at G g)).command g F.number F.command F.at refl (own_entry (prologue_of G heap g).kind) x (own_is (prologue_of G heap g).kind G (prologue_of G heap g) (earlier G g) (group_at G g) there) F.there)

  pub releases_stand : (g : ℕ) → IsRecorded G heap (Release g) → slice_get (script G heap) (step G heap (Release g)) ≡ Some (release_item G g (group_at G g) (group_at G (suc g)))
  releases_stand g (lt, so) =
      let F = last_of g lt in
      let it : Marked = release_item G g (group_at G g) (group_at G (suc g)) in
      let number : length (wants F.command.queue g) + 0 ≡ length (wants F.command.queue g) = omega arith in
      subst (λ i. slice_get (script G heap) i ≡ Some (release_item G g (group_at G g) (group_at G (suc g)))) (release_step (last (group_at G g)).command g F.number F.command F.at refl so F.there)
      (release_there (last (group_at G g)).command g F.number F.command F.at refl so (length (wants F.command.queue g)) it (entry_right (wants F.command.queue g) (it ∷ []) 0 (length (wants F.command.queue g)) it refl number) F.there)

  pub aliases_stand : (g : ℕ) → g < length G.groups → (prologue_of G heap g).kind ≡ kinds.AliasInit → (i : ℕ) × (suc i ≡ step G heap (OfPrologue g)) × (slice_get (script G heap) i ≡ Some (Does (prologue_of G heap g).queue None (item.Global (prologue_of G heap g).masks)))
  aliases_stand g lt kind =
      let F = first_of g lt in
      let c : ℕ = (first (group_at G g)).command in
      let x : Marked = Does (prologue_of G heap g).queue None (item.Global (prologue_of G heap g).masks) in
      let own : own_entry (prologue_of G heap g).kind ≡ 1 = ap own_entry kind in
      let end = prologue_step (first (group_at G g)).command g F.number F.command F.at refl (ap is_there kind) F.there in
      let number : joint (use_prologues G heap (first (group_at G g)).command) (groups_used G (first (group_at G g)).command) F.number + 0 ≡ joint (use_prologues G heap (first (group_at G g)).command) (groups_used G (first (group_at G g)).command) F.number = omega arith in (
        start G heap (first (group_at G g)).command + (length (needed G heap (first (group_at G g)).command F.command) + joint (use_prologues G heap (first (group_at G g)).command) (groups_used G (first (group_at G g)).command) F.number),
        omega (arith, own, end),
        subst (λ n. slice_get (script G heap) (start G heap (first (group_at G g)).command + (length (needed G heap (first (group_at G g)).command F.command) + n)) ≡ Some (Does (prologue_of G heap g).queue None (item.Global (prologue_of G heap g).masks))) number
            (prologue_there (first (group_at G g)).command g F.number F.command F.at refl 0 x (subst (λ k. slice_get (items_of k G (prologue_of G heap g) (earlier G g) (group_at G g)) 0 ≡ Some (Does (prologue_of G heap g).queue None (item.Global (prologue_of G heap g).masks))) (sym kind) refl) F.there),
      )

  host_place : (c : ℕ) (command : commands.Command) (h : ℕ) → h ≡ 0 → slice_get G.commands c ≡ Some command → start G heap c + (own_place G heap c command + (1 + length (released G heap c command) + h)) ≡ host_step G heap c command
  host_place c command h none there = let s = command_step c command there in omega (arith, s, none)

  pub copies_stand : (c k : ℕ) (command : commands.Command) → slice_get G.commands c ≡ Some command → command.export ≡ Some k → slice_get (script G heap) (host_step G heap c command) ≡ Some (Does command.queue None (host_item G command))
  copies_stand c k command there export =
      subst (λ i. slice_get (script G heap) i ≡ Some (Does command.queue None (host_item G command))) (host_place c command 0 refl there)
      (at_start G heap c (own_place G heap c command + (1 + length (released G heap c command) + 0)) command (Does command.queue None (host_item G command)) there
      (host_entry G heap c command 0 (Does command.queue None (host_item G command)) (subst (λ o. slice_get (host_barrier G command o) 0 ≡ Some (Does command.queue None (host_item G command))) (sym export) refl)))

  -- NOTHING ELSE

  pub known : (i q : ℕ) (of : Option Mark) (it : Item) → slice_get (script G heap) i ≡ Some (Does q of it) → IsKnown G heap i q of it
  known i q of it e = go (part_of G heap P.number P.command P.entry (Does q of it) P.is)
    where
      P : IsLocated G heap i (Does q of it)
      P = located G heap i (Does q of it) e

      marked : (mark : Mark) → of ≡ Some mark → i ≡ step G heap mark
      marked mark is = step_is i q mark it (subst (λ o. slice_get (script G heap) i ≡ Some (Does q o it)) is e)

      group_low : (j g : ℕ) → slice_get (groups_used G P.number) j ≡ Some g → g < length G.groups
      group_low j g at = (entry_of (IsUsed G P.number) (groups_used G P.number) j g (each_used G L P.number) at).member.group

      no_need : (mark : Mark) × (slice_get (marks_needed G heap P.number P.command) P.entry ≡ Some mark) × (Needs P.command.queue mark ≡ Does q of it) → ⊥
      no_need (mark, there, is) = absurd cc

      by_prologue : (t : ℕ) → P.entry ≡ length (needed G heap P.number P.command) + t → (T : IsPrologueOf G heap P.number P.command t (Does q of it)) → IsPrologueItem (prologue_of G heap T.group).kind G (prologue_of G heap T.group) (earlier G T.group) (group_at G T.group) T.entry (Does q of it) → IsKnown G heap i q of it
      by_prologue t is T (own_prologue there entry-is same) = let m : of ≡ Some (OfPrologue T.group) = cc in by_mark (OfPrologue T.group) m (group_low T.number T.group T.used_there, there) (marked (OfPrologue T.group) m)
      by_prologue t is T (alias_prologue kind entry-is same) =
          let s = prologue_step P.number T.group T.number P.command T.used_there T.mine (ap is_there kind) P.there in
          let own : own_entry (prologue_of G heap T.group).kind ≡ 1 = ap own_entry kind in
          let a = P.place in
          let b = T.place in
          by_alias T.group (let h = same in cc) (group_low T.number T.group T.used_there) kind (omega (arith, s, own, a, b, is, entry-is)) (let h = same in cc) (let h = same in cc)

      by_release : (r : ℕ) → (R : IsReleaseOf G heap P.number P.command r (Does q of it)) → IsReleaseItem G heap P.number P.command R.group R.entry (Does q of it) → IsKnown G heap i q of it
      by_release r R (release_need mark same) = absurd cc
      by_release r R (own_release entry-is same) = let m : of ≡ Some (Release R.group) = cc in by_mark (Release R.group) m (group_low R.number R.group R.used_there, R.is_so) (marked (Release R.group) m)

      by_host : (h : ℕ) (export : Option ℕ) → P.command.export ≡ export → slice_get (host_barrier G P.command export) h ≡ Some (Does q of it) → P.entry ≡ own_place G heap P.number P.command + (1 + length (released G heap P.number P.command) + h) → IsKnown G heap i q of it
      by_host h None has at is = absurd cc
      by_host h (Some k) has at is =
          let z = one_entry (Does P.command.queue None (host_item G P.command)) h (Does q of it) at in
          let same = z.1 in
          let s = host_place P.number P.command h z.0 P.there in
          let a = P.place in
          by_copy P.number k P.command (let e2 = same in cc) P.there has (omega (arith, s, a, is)) (let e2 = same in cc) (let e2 = same in cc)

      go : IsPart G heap P.number P.command P.entry (Does q of it) → IsKnown G heap i q of it
      go (in_needed h) = absurd (no_need (entry_map (Needs P.command.queue) (marks_needed G heap P.number P.command) P.entry (Does q of it) h))
      go (in_prologue_part t h is) = let T = prologue_in G heap P.number P.command t (Does q of it) h in by_prologue t is T T.is
      go (at_command same is) = let m : of ≡ Some (Command P.number) = cc in by_mark (Command P.number) m (slice_get_within G.commands P.number P.command P.there) (marked (Command P.number) m)
      go (in_released r h is) = let R = release_in G heap P.number P.command r (Does q of it) h in by_release r R R.is
      go (in_host h at is) = by_host h P.command.export refl at is

  -- IN WHICH ORDER

  spot : (mark : Mark) → IsRecorded G heap mark → (x : Marked) × OfMark (step G heap mark) mark x
  spot (Command c) r =
      let C = entry_there G.commands c r in
      (does_command G c C.0, mark_at (step G heap (Command c)) C.0.queue (Command c) _ (commands_stand c C.0 C.1))
  spot (OfPrologue g) r = (Does (first (group_at G g)).queue (Some (OfPrologue g)) (prologue_item G heap g), mark_at (step G heap (OfPrologue g)) (first (group_at G g)).queue (OfPrologue g) (prologue_item G heap g) (prologues_stand g r))
  spot (Release g) r = (release_item G g (group_at G g) (group_at G (suc g)), mark_at (step G heap (Release g)) (last (group_at G g)).queue (Release g) _ (releases_stand g r))

  pub ordered : (x y : Mark) → IsRecorded G heap x → IsRecorded G heap y → Precedes G x y → step G heap x < step G heap y
  ordered x y one two before = go (spot x one) (spot y two) before
    where
      go : (a : Marked) × OfMark (step G heap x) x a → (b : Marked) × OfMark (step G heap y) y b → Precedes G x y → step G heap x < step G heap y
      go (a, P) (b, Q) (inl lt) =
          let m = number_is (step G heap x) x a P in
          let n = number_is (step G heap y) y b Q in
          let less = start_less G heap P.number Q.number P.entry Q.entry P.command a P.there P.is (omega (arith, m, n, lt)) in
          let s = P.place in
          let t = Q.place in
          omega (arith, less, s, t)
      go (a, P) (b, Q) (inr (same, lt)) =
          let number : P.number ≡ Q.number = sym (number_is (step G heap x) x a P) ∙ same ∙ number_is (step G heap y) y b Q in
          let less = side_less G heap P.number P.command P.entry Q.entry x y a b P.has (beside_same P.number Q.number Q.entry P.command Q.command y b number P.there Q.there Q.has) lt in
          let starts : start G heap P.number ≡ start G heap Q.number = ap (start G heap) number in
          let s = P.place in
          let t = Q.place in
          omega (arith, less, s, t, starts)

  -- WHAT IS NEEDED BEFORE

  needed_before : (c : ℕ) (command : commands.Command) (mark : Mark) (i q : ℕ) → slice_get G.commands c ≡ Some command → Contains (marks_needed G heap c command) mark → start G heap c + length (needed G heap c command) ≤ i → command.queue ≡ q → IsNeeded G heap q mark i
  needed_before c command mark i q there has le queue =
      let h = contains_map (Needs command.queue) (marks_needed G heap c command) mark has in
      let low = h.1 in
      record {
        place = start G heap c + h.0;
        below = omega (arith, low, le);
        there = at_start G heap c h.0 command (Needs q mark) there
            (needed_entry G heap c command h.0 (Needs q mark) (entry_contained (needed G heap c command) (Needs command.queue mark) h ∙ ap (λ n. Some (Needs n mark)) queue));
      }

  -- of the first member of a group
  first_needs : (g : ℕ) (mark : Mark) → IsRecorded G heap (OfPrologue g) → Contains (wanted_first G (prologue_of G heap g) (earlier G g)) mark → IsNeeded G heap (first (group_at G g)).queue mark (step G heap (OfPrologue g))
  first_needs g mark (lt, there) has =
      let F = first_of g lt in
      let s = prologue_step (first (group_at G g)).command g F.number F.command F.at refl there F.there in
      needed_before (first (group_at G g)).command F.command mark (step G heap (OfPrologue g)) (first (group_at G g)).queue F.there
      (contains_part (use_needs G heap F.command.queue (first (group_at G g)).command) (groups_used G (first (group_at G g)).command) g mark (contains_entry (groups_used G (first (group_at G g)).command) F.number g F.at)
      (subst (λ b. Contains (if b then wanted_first G (prologue_of G heap g) (earlier G g) else if is_command (first (group_at G g)).command (first (on F.command.queue (group_at G g))) then wanted_further (prologue_of G heap g) else []) mark) (sym (eq-eqb (first (group_at G g)).command (first (group_at G g)).command refl)) has))
      (omega (arith, s)) F.queue

  pub barriers_need : (g : ℕ) → g < length G.groups → (prologue_of G heap g).kind ≡ kinds.Barrier → NeedsOthers G heap (earlier G g) (first (group_at G g)).queue (step G heap (OfPrologue g))
  barriers_need g lt kind p low differ some-on =
      first_needs g (Command (last (on p (earlier G g))).command) (lt, ap is_there kind)
      (subst (λ k. Contains (wanted_by k G (prologue_of G heap g) (earlier G g)) (Command (last (on p (earlier G g))).command)) (sym kind) (elsewhere_has G (first (group_at G g)).queue (earlier G g) p low differ some-on))

  pub acquires_need : (g : ℕ) → g < length G.groups → (prologue_of G heap g).kind ≡ kinds.Transfer → IsNeeded G heap (first (group_at G g)).queue (Release (g - 1)) (step G heap (OfPrologue g))
  acquires_need g lt kind =
      first_needs g (Release (g - 1)) (lt, ap is_there kind)
      (subst (λ k. Contains (wanted_by k G (prologue_of G heap g) (earlier G g)) (Release (g - 1))) (sym kind) (contains_head (Release (g - 1)) []))

  pub members_need : (g q : ℕ) → IsRecorded G heap (OfPrologue g) → q ≢ (first (group_at G g)).queue → 0 < length (on q (group_at G g)) → IsNeeded G heap q (OfPrologue g) (step G heap (Command (first (on q (group_at G g))).command))
  members_need g q (lt, there) differ some-on =
      let u : Use = first (on q (group_at G g)) in
      let K = kept (λ (v : Use). v.queue == q) (group_at G g) 0 no_use some-on in
      let M : IsMember G g (first (on q (group_at G g))) = member_of G L g lt (first (on q (group_at G g))) K.0 in
      let on-q : (first (on q (group_at G g))).queue ≡ q = eqb-true (first (on q (group_at G g))).queue q K.1 in
      let F = of_member g (first (on q (group_at G g))) M in
      let queue : F.command.queue ≡ q = F.queue ∙ on-q in
      let later = after_first G L g (first (on q (group_at G g))) M (λ e. differ (sym on-q ∙ ap (λ (v : Use). v.queue) e)) in
      let miss : is_command (first (on q (group_at G g))).command (first (group_at G g)) ≡ false = unlike (first (group_at G g)).command (first (on q (group_at G g))).command later in
      let hit : is_command (first (on q (group_at G g))).command (first (on q (group_at G g))) ≡ true = eq-eqb (first (on q (group_at G g))).command (first (on q (group_at G g))).command refl in
      let s = command_step (first (on q (group_at G g))).command F.command F.there in
      needed_before (first (on q (group_at G g))).command F.command (OfPrologue g) (step G heap (Command (first (on q (group_at G g))).command)) q F.there
      (contains_part (use_needs G heap F.command.queue (first (on q (group_at G g))).command) (groups_used G (first (on q (group_at G g))).command) g (OfPrologue g) (contains_entry (groups_used G (first (on q (group_at G g))).command) F.number g F.at)
      (subst (λ b. Contains (if b then wanted_first G (prologue_of G heap g) (earlier G g) else if is_command (first (on q (group_at G g))).command (first (on F.command.queue (group_at G g))) then wanted_further (prologue_of G heap g) else []) (OfPrologue g)) (sym miss)
      (subst (λ r. Contains (if is_command (first (on q (group_at G g))).command (first (on r (group_at G g))) then wanted_further (prologue_of G heap g) else []) (OfPrologue g)) (sym queue)
      (subst (λ b. Contains (if b then wanted_further (prologue_of G heap g) else []) (OfPrologue g)) (sym hit)
      (subst (λ b. Contains (if b then OfPrologue g ∷ [] else []) (OfPrologue g)) (sym there) (contains_head (OfPrologue g) []))))))
      (omega (arith, s)) queue

  pub releases_need : (g : ℕ) → IsRecorded G heap (Release g) → NeedsOthers G heap (group_at G g) (last (group_at G g)).queue (step G heap (Release g))
  releases_need g (lt, so) p low differ some-on =
      let F = last_of g lt in
      let mark : Mark = Command (last (on p (group_at G g))).command in
      let c : ℕ = (last (group_at G g)).command in
      let h = contains_map (Needs F.command.queue) (wanted_release G (group_at G g)) (Command (last (on p (group_at G g))).command) (elsewhere_has G (last (group_at G g)).queue (group_at G g) p low differ some-on) in
      let x : Marked = Needs F.command.queue (Command (last (on p (group_at G g))).command) in
      let it : Marked = release_item G g (group_at G g) (group_at G (suc g)) in
      let s = release_step (last (group_at G g)).command g F.number F.command F.at refl so F.there in
      let before = h.1 in
      record {
        place = start G heap (last (group_at G g)).command + (own_place G heap (last (group_at G g)).command F.command + (1 + (joint (use_releases G heap F.command.queue (last (group_at G g)).command) (groups_used G (last (group_at G g)).command) F.number + h.0)));
        below = omega (arith, s, before);
        there = release_there (last (group_at G g)).command g F.number F.command F.at refl so h.0 x (entry_left (wants F.command.queue g) (it ∷ []) h.0 x (entry_contained (wants F.command.queue g) x h)) F.there ∙ ap (λ n. Some (Needs n (Command (last (on p (group_at G g))).command))) F.queue;
      }

  pub standing : IsStanding G heap
  standing = record {
    each_command = commands_stand;
    each_prologue = prologues_stand;
    each_release = releases_stand;
    each_alias = aliases_stand;
    each_copy = copies_stand;
    only = known;
    in_order = ordered;
    barriers = barriers_need;
    acquires = acquires_need;
    members = members_need;
    after = releases_need;
  }
