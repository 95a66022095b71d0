-- What is recorded as needed is what waits are wanted for, at their spots.
use Rattle.std.proofs.Common.{◌≡◌, ◌≢◌, ◌⊎◌, inl, inr, ⊎_elim, ℕ, zero, suc, ◌+◌, ◌-◌, ◌<◌, ◌==◌, ◌&&◌, Bool, true, false, List, [], ◌∷◌, ◌++◌, length, map, Option, Some, None, if◌then◌else◌, refl, sym, ap, ap₂, ◌∙◌, subst, eq-eqb, eqb-true, arith}
use Rattle.std.specs.List.{Contains, range_with_len}
use Rattle.std.specs.Option.{option_map_or}
use Rattle.std.specs.Prelude.{slice_get, is_some}
use Rattle.std.proofs.lemmas.Bool.{cases_Bool, and_from, and_parts, false≢true, ne_eqb}
use Rattle.std.proofs.lemmas.Bool.Decides.{eqb_tells}
use Rattle.std.proofs.lemmas.List.{length-map}
use Rattle.std.proofs.lemmas.Option.{slice_get_within}
use Rattle.base.proofs.Lists.{entry_of}
use Rattle.compile_barriers.specs.Prologues.{first, last, earlier, has_uses, first_kind, prologue_of}
use Rattle.compile_barriers.specs.Under.{Heap}
use Rattle.compile_barriers.specs.Unions.{on}
use Rattle.compile_barriers.specs.declared.prologue.Prologue.{Prologue}
use Rattle.compile_barriers.specs.declared.prologue.PrologueKind.{PrologueKind}
use Rattle.compile_groups.specs.Laws.{IsGrouped}
use Rattle.compile_groups.specs.Needs.{group_at, queue_of}
use Rattle.compile_groups.specs.Uses.{no_use}
use Rattle.compile_groups.specs.declared.command.Command.{Command}
use Rattle.compile_groups.specs.declared.grouping.Grouping.{Grouping}
use Rattle.compile_groups.specs.declared.unit_use.Use.{Use}
use Rattle.compile_record.proofs.Contained.{contains_entry, entry_contained, contains_head, contains_map, contains_part, contains_filter, contains_some, kept}
use Rattle.compile_record.proofs.Entries.{IsOf, entry_append, entry_left, entry_map, entry_there, one_entry, joint, entry_of_joined, joined_entry}
use Rattle.compile_record.proofs.Membership.{IsMember, IsUsed, member_of, contained, first_member, last_member, command_below, member_queue, after_first, each_used, is_used}
use Rattle.compile_record.proofs.Sides.{needed, released, own_place, marks_needed, IsPart, part_of, needed_entry, released_entry, IsPrologueItem, prologue_in, own_prologue, alias_prologue, in_needed, in_prologue_part, at_command, in_released, in_host}
use Rattle.compile_record.proofs.Starts.{start, at_start, IsLocated, located}
use Rattle.compile_record.specs.Items.{release_item}
use Rattle.compile_record.specs.Script.{is_command, use_needs, use_releases, is_released, host_barrier, groups_used, block, script}
use Rattle.compile_record.specs.Standing.{step}
use Rattle.compile_record.specs.Wanted.{last_command, last_on, last_elsewhere, wanted_by, wanted_first, is_there, wanted_further, wanted_release}
use Rattle.compile_record.specs.declared.mark.Mark.{Mark}
use Rattle.compile_record.specs.declared.mark.Mark.TheVariants as marks
use Rattle.compile_record.specs.declared.mark.Marked.{Marked}
use Rattle.compile_record.specs.declared.mark.Marked.TheVariants.{Needs}
use Rattle.law_record.proofs.Befores.{some_has, next_low, before_is, turn_kind, acquire_kind, discard_kind, alias_kind, released_is, release_wanted, KindOf, after_turn, after_release, of_import, of_placed, kind_at, step_for}
use Rattle.law_record.proofs.Spotted.{IsAt, at_wait, at_exit, chosen}
use Rattle.law_record.specs.Reasons.{Reason, Runs, Turn, Release, Acquire, Alias, Discard, IsFirstPlaced, same_bytes, next_group, IsWanted, queue_for}
use Rattle.law_record.specs.Spots.{Spot, waits_before, release_waits}
use Rattle.law_record.specs.WantedWaits.{IsLastElsewhere, Enters, by_turn, by_acquire, by_discard, by_alias, IsWaitWanted, for_turn, for_release, for_acquire, for_member}

-- a number of a range is below its end
in_range : (a n i p : ℕ) → slice_get (range_with_len a n) i ≡ Some p → p < a + n
in_range a zero i p e = absurd cc
in_range a (suc n) zero p e = let same : a ≡ p = cc in omega (arith, same)
in_range a (suc n) (suc i) p e = let r = in_range (a + 1) n i p e in omega (arith, r)

range_there : (a n p : ℕ) → p < n → slice_get (range_with_len a n) p ≡ Some (a + p)
range_there a zero p lt = absurd (omega (arith, lt))
range_there a (suc n) zero lt = let z : a ≡ a + 0 = omega arith in ap (λ k. Some k) z
range_there a (suc n) (suc p) lt = let z : a + 1 + p ≡ a + suc p = omega arith in range_there (a + 1) n p (omega (arith, lt)) ∙ ap (λ k. Some k) z

-- the first of the uses, where it is on the queue
first_on : (q : ℕ) (A : List Use) → 0 < length A → (first A).queue ≡ q → first (on q A) ≡ first A
first_on q [] lt e = absurd (omega (arith, lt))
first_on q (u ∷ A) lt e = ap (λ b. first (if b then u ∷ on q A else on q A)) (eq-eqb u.queue q e)

record Elsewhere (G : Grouping) (q : ℕ) (A : List Use) (mark : Mark) : Type 0 where
  queue : ℕ
  known : queue < length G.families
  other : queue ≢ q
  some : 0 < length (on queue A)
  is : mark ≡ marks.Command (last (on queue A)).command

one_last : (B : List Use) (e : ℕ) (mark : Mark) → slice_get (last_command B) e ≡ Some mark → (0 < length B) × (mark ≡ marks.Command (last B).command)
one_last [] e mark h = absurd cc
one_last (u ∷ B) e mark h = (omega arith, sym (one_entry (marks.Command (last (u ∷ B)).command) e mark h).1)

elsewhere_in : (G : Grouping) (q : ℕ) (A : List Use) (e : ℕ) (mark : Mark) → slice_get (last_elsewhere G q A) e ≡ Some mark → Elsewhere G q A mark
elsewhere_in G q A e mark h = go (entry_of_joined (last_on q A) (range_with_len 0 (length G.families)) e mark h)
  where
    go : IsOf (last_on q A) (range_with_len 0 (length G.families)) e mark → Elsewhere G q A mark
    go F = ⊎_elim
        (λ t. absurd (none (sym (ap (λ b. slice_get (if b then [] else last_command (on F.from A)) F.entry) t.0) ∙ F.is)))
        (λ f.
        let l = one_last (on F.from A) F.entry mark (sym (ap (λ b. slice_get (if b then [] else last_command (on F.from A)) F.entry) f.0) ∙ F.is) in
        record { queue = F.from; known = low; other = f.1; some = l.0; is = l.1 })
        (eqb_tells F.from q)
      where
        low : F.from < length G.families
        low = let r = in_range 0 (length G.families) F.number F.from F.there in omega (arith, r)

        none : slice_get {X = Mark} [] F.entry ≡ Some mark → ⊥
        none z = cc

last_listed : (B : List Use) → 0 < length B → Contains (last_command B) (marks.Command (last B).command)
last_listed [] lt = absurd (omega (arith, lt))
last_listed (u ∷ B) lt = contains_head (marks.Command (last (u ∷ B)).command) []

elsewhere_has : (G : Grouping) (q : ℕ) (A : List Use) (p : ℕ) → p < length G.families → p ≢ q → 0 < length (on p A) → Contains (last_elsewhere G q A) (marks.Command (last (on p A)).command)
elsewhere_has G q A p lt differ some =
    let z : 0 + p ≡ p = omega arith in
    contains_part (last_on q A) (range_with_len 0 (length G.families)) p (marks.Command (last (on p A)).command)
    (contains_entry (range_with_len 0 (length G.families)) p p (range_there 0 (length G.families) p lt ∙ ap (λ k. Some k) z))
    (subst (λ b. Contains (if b then [] else last_command (on p A)) (marks.Command (last (on p A)).command)) (sym (ne_eqb p q differ)) (last_listed (on p A) some))

module _ (G : Grouping) (heap : Heap) (L : IsGrouped G) where
  -- the item that a need names, for which a wait is wanted
  pub record Target (q : ℕ) (mark : Mark) (s : Spot) : Type 0 where
    pub item : Reason
    pub is : IsWanted G heap item
    pub at : step_for G heap L item ≡ step G heap mark
    pub wanted : IsWaitWanted G heap q s item

  -- the last of the uses of a group on another queue
  last_there : (h p : ℕ) → h < length G.groups → 0 < length (on p (group_at G h)) → (command : Command) × (slice_get G.commands (last (on p (group_at G h))).command ≡ Some command)
  last_there h p low some =
      let K = kept (λ (v : Use). v.queue == p) (group_at G h) (length (on p (group_at G h)) - 1) no_use (omega (arith, some)) in
      entry_there G.commands (last (on p (group_at G h))).command (command_below G L h (last (on p (group_at G h))) (member_of G L h low (last (on p (group_at G h))) K.0))

  elsewhere_target : (h q0 q : ℕ) (mark : Mark) (s : Spot) → h < length G.groups → q0 ≡ q → Elsewhere G q0 (group_at G h) mark → ((item : Reason) → IsLastElsewhere G (group_at G h) q item → IsWaitWanted G heap q s item) → Target q mark s
  elsewhere_target h q0 q mark s low queue F wants =
      let C = last_there h F.queue low F.some in
      record {
        item = Runs (last (on F.queue (group_at G h))).command C.0;
        is = C.1;
        at = sym (ap (step G heap) F.is);
        wanted = wants (Runs (last (on F.queue (group_at G h))).command C.0) (record { queue = F.queue; known = F.known; other = (λ e. F.other (e ∙ sym queue)); some = F.some; command = C.0; there = C.1; is = refl });
      }

  -- BEFORE A COMMAND

  module _ (c : ℕ) (command : Command) (there : slice_get G.commands c ≡ Some command) where
    queue_is : queue_of G c ≡ command.queue
    queue_is = ap (λ o. option_map_or (λ (x : Command). x.queue) o 0) there

    member_queue_is : (g : ℕ) (u : Use) → IsMember G g u → u.command ≡ c → u.queue ≡ command.queue
    member_queue_is g u M is = sym (member_queue G L g u M) ∙ ap (queue_of G) is ∙ queue_is

    -- by the first member of a group
    of_first : (g e : ℕ) (mark : Mark) → (first (group_at G g)).command ≡ c → g < length G.groups → slice_get (wanted_first G (prologue_of G heap g) (earlier G g)) e ≡ Some mark → KindOf G heap L g → Target command.queue mark (waits_before c)
    of_first g e mark mine low h (after_turn k next w kind) =
        let own : (first (group_at G g)).queue ≡ command.queue = member_queue_is g (first (group_at G g)) (first_member G L g low) mine in
        let before : earlier G g ≡ group_at G k = ap (earlier G) (sym next) ∙ before_is G heap L k w.0 in
        let in-list : slice_get (last_elsewhere G (first (group_at G g)).queue (group_at G k)) e ≡ Some mark = sym (ap₂ (λ x A. slice_get (wanted_by x G (prologue_of G heap g) A) e) kind before) ∙ h in
        elsewhere_target k (first (group_at G g)).queue command.queue mark (waits_before c) (omega (arith, low, next)) own (elsewhere_in G (first (group_at G g)).queue (group_at G k) e mark in-list)
        (λ item last. for_turn k w (sym own ∙ ap (λ z. (first (group_at G z)).queue) (sym next)) (ap waits_before (sym mine ∙ ap (λ z. (first (group_at G z)).command) (sym next))) last)
    of_first g e mark mine low h (after_release k next w kind) =
        let own : (first (group_at G g)).queue ≡ command.queue = member_queue_is g (first (group_at G g)) (first_member G L g low) mine in
        let one = one_entry (marks.Release (g - 1)) e mark (sym (ap (λ x. slice_get (wanted_by x G (prologue_of G heap g) (earlier G g)) e) kind) ∙ h) in
        let number : k ≡ g - 1 = omega (arith, next) in
        record {
          item = Release k;
          is = w;
          at = ap (λ z. step G heap (marks.Release z)) number ∙ ap (step G heap) one.1;
          wanted = for_acquire k w (sym own ∙ ap (λ z. (first (group_at G z)).queue) (sym next)) (ap waits_before (sym mine ∙ ap (λ z. (first (group_at G z)).command) (sym next))) refl;
        }
    of_first g e mark mine low h (of_import kind) = absurd (let z : slice_get {X = Mark} [] e ≡ Some mark = sym (ap (λ x. slice_get (wanted_by x G (prologue_of G heap g) (earlier G g)) e) kind) ∙ h in cc)
    of_first g e mark mine low h (of_placed F kind) = absurd (none (has_uses (same_bytes G heap g)) (is_some (first (group_at G g)).layout) (sym (ap (λ x. slice_get (wanted_by x G (prologue_of G heap g) (earlier G g)) e) kind) ∙ h))
      where
        none : (r i : Bool) → slice_get (wanted_by (first_kind r i) G (prologue_of G heap g) (earlier G g)) e ≡ Some mark → ⊥
        none true true z = cc
        none true false z = cc
        none false true z = cc
        none false false z = cc

    -- by a member on a further queue
    of_further : (g : ℕ) (mark : Mark) → g < length G.groups → is_command c (first (group_at G g)) ≡ false → is_command c (first (on command.queue (group_at G g))) ≡ true → IsUsed G c g → is_there (prologue_of G heap g).kind ≡ true → mark ≡ marks.Prologue g → KindOf G heap L g → Target command.queue mark (waits_before c)
    of_further g mark low miss hit U there-is is K = by K
      where
        on-some : 0 < length (on command.queue (group_at G g))
        on-some =
            let one : U.one.queue ≡ command.queue = member_queue_is g U.one U.member U.command in
            contains_some (on command.queue (group_at G g)) U.one (contains_filter (λ (v : Use). v.queue == command.queue) (group_at G g) U.one (contained G L g U.one U.member) (eq-eqb U.one.queue command.queue one))

        spot-is : waits_before c ≡ waits_before (first (on command.queue (group_at G g))).command
        spot-is = ap waits_before (sym (eqb-true (first (on command.queue (group_at G g))).command c hit))

        differ : command.queue ≢ (first (group_at G g)).queue
        differ e =
            let same : first (on command.queue (group_at G g)) ≡ first (group_at G g) = first_on command.queue (group_at G g) (L.in_order.some g [] low) (sym e) in
            false≢true (sym miss ∙ sym (ap (is_command c) same) ∙ hit)

        with_item : (item : Reason) → Enters G g item → IsWanted G heap item → (first (group_at G g)).queue ≡ queue_for G item → step_for G heap L item ≡ step G heap (marks.Prologue g) → Target command.queue mark (waits_before c)
        with_item item enters w queue at = record {
          item = item;
          is = w;
          at = at ∙ sym (ap (step G heap) is);
          wanted = for_member g enters w (λ e. differ (e ∙ sym queue)) on-some spot-is;
        }

        placed : IsFirstPlaced G g → (prologue_of G heap g).kind ≡ first_kind (has_uses (same_bytes G heap g)) (is_some (first (group_at G g)).layout) → (image : Bool) → is_some (first (group_at G g)).layout ≡ image → (reused : Bool) → has_uses (same_bytes G heap g) ≡ reused → Target command.queue mark (waits_before c)
        placed F kind true a reused b = with_item (Discard g) by_discard (F, a) refl refl
        placed F kind false a true b = with_item (Alias g) (by_alias a) (F, some_has (same_bytes G heap g) b) refl (ap (λ z. if z then step G heap (marks.Prologue g) - 1 else step G heap (marks.Prologue g)) a)
        placed F kind false a false b = absurd (false≢true (sym (ap is_there (kind ∙ ap₂ first_kind b a)) ∙ there-is))

        by : KindOf G heap L g → Target command.queue mark (waits_before c)
        by (after_turn k next w kind) = with_item (Turn k) (by_turn k next) w (ap (λ z. (first (group_at G z)).queue) (sym next)) (ap (λ z. step G heap (marks.Prologue z)) next)
        by (after_release k next w kind) = with_item (Acquire k) (by_acquire k next) w (ap (λ z. (first (group_at G z)).queue) (sym next)) (ap (λ z. step G heap (marks.Prologue z)) next)
        by (of_import kind) = absurd (false≢true (sym (ap is_there kind) ∙ there-is))
        by (of_placed F kind) = placed F kind (is_some (first (group_at G g)).layout) refl (has_uses (same_bytes G heap g)) refl

    of_use : (g e : ℕ) (mark : Mark) → IsUsed G c g → slice_get (use_needs G heap command.queue c g) e ≡ Some mark → Target command.queue mark (waits_before c)
    of_use g e mark U h = go (cases_Bool (is_command c (first (group_at G g)))) (cases_Bool (is_command c (first (on command.queue (group_at G g)))))
      where
        low : g < length G.groups
        low = U.member.group

        A : List Mark
        A = wanted_first G (prologue_of G heap g) (earlier G g)

        B : List Mark
        B = wanted_further (prologue_of G heap g)

        go : (is_command c (first (group_at G g)) ≡ true) ⊎ (is_command c (first (group_at G g)) ≡ false) → (is_command c (first (on command.queue (group_at G g))) ≡ true) ⊎ (is_command c (first (on command.queue (group_at G g))) ≡ false) → Target command.queue mark (waits_before c)
        go (inl t) r = of_first g e mark (eqb-true (first (group_at G g)).command c t) low (sym (ap (λ b. slice_get (if b then A else if is_command c (first (on command.queue (group_at G g))) then B else []) e) t) ∙ h) (kind_at G heap L g low)
        go (inr f) (inl t) =
            let one = chosen (is_there (prologue_of G heap g).kind) (marks.Prologue g ∷ []) e mark (sym (ap₂ (λ b d. slice_get (if b then A else if d then B else []) e) f t) ∙ h) in
            of_further g mark low f t U one.0 (sym (one_entry (marks.Prologue g) e mark one.1).1) (kind_at G heap L g low)
        go (inr f) (inr n) = absurd (let z : slice_get {X = Mark} [] e ≡ Some mark = sym (ap₂ (λ b d. slice_get (if b then A else if d then B else []) e) f n) ∙ h in cc)

  -- EACH NEED

  pub record IsNeed (w q : ℕ) (mark : Mark) : Type 0 where
    pub spot : Spot
    pub at : IsAt G heap L w spot
    pub target : Target q mark spot

  pub need_at : (w q : ℕ) (mark : Mark) → slice_get (script G heap) w ≡ Some (Needs q mark) → IsNeed w q mark
  need_at w q mark e = go (part_of G heap P.number P.command P.entry (Needs q mark) P.is)
    where
      x : Marked
      x = Needs q mark

      P : IsLocated G heap w (Needs q mark)
      P = located G heap w (Needs q mark) e

      used-by : (j g : ℕ) → slice_get (groups_used G P.number) j ≡ Some g → IsUsed G P.number g
      used-by j g at = entry_of (IsUsed G P.number) (groups_used G P.number) j g (each_used G L P.number) at

      waiting : P.command.queue ≡ q → (of : Mark) → of ≡ mark → slice_get (marks_needed G heap P.number P.command) P.entry ≡ Some of → P.entry < length (needed G heap P.number P.command) → IsNeed w q mark
      waiting queue of same h low =
          let F = entry_of_joined (use_needs G heap P.command.queue P.number) (groups_used G P.number) P.entry mark (h ∙ ap (λ z. Some z) same) in
          record {
            spot = waits_before P.number;
            at = record { number = P.number; command = P.command; entry = P.entry; marked = x; there = P.there; is = P.is; place = P.place; own = refl; spot = at_wait refl refl refl low };
            target = subst (λ z. Target z mark (waits_before P.number)) queue (of_use P.number P.command P.there F.from F.entry mark (used-by F.number F.from F.there) F.is);
          }

      in-needed : slice_get (needed G heap P.number P.command) P.entry ≡ Some x → IsNeed w q mark
      in-needed h = at (entry_map (Needs P.command.queue) (marks_needed G heap P.number P.command) P.entry x h)
        where
          at : (of : Mark) × (slice_get (marks_needed G heap P.number P.command) P.entry ≡ Some of) × (Needs P.command.queue of ≡ x) → IsNeed w q mark
          at (of, there, is) = waiting (cc) of (cc) there (slice_get_within (needed G heap P.number P.command) P.entry x h)

      in-released : (r : ℕ) → slice_get (released G heap P.number P.command) r ≡ Some x → P.entry ≡ own_place G heap P.number P.command + (1 + r) → IsNeed w q mark
      in-released r h is = by (entry_of_joined (use_releases G heap P.command.queue P.number) (groups_used G P.number) r x h)
        where
          by : IsOf (use_releases G heap P.command.queue P.number) (groups_used G P.number) r x → IsNeed w q mark
          by F = ⊎_elim (λ a. of_need (entry_map (Needs P.command.queue) (wanted_release G (group_at G F.from)) F.entry x a.1) a.0) (λ b. absurd (no_item (one_entry it (F.entry - length wants) x b.1).1)) (entry_append wants (it ∷ []) F.entry x tests.1)
            where
              wants : List Marked
              wants = map (Needs P.command.queue) (wanted_release G (group_at G F.from))

              it : Marked
              it = release_item G F.from (group_at G F.from) (group_at G (suc F.from))

              tests : ((is_command P.number (last (group_at G F.from)) && is_released G heap F.from) ≡ true) × (slice_get (wants ++ it ∷ []) F.entry ≡ Some x)
              tests = chosen (is_command P.number (last (group_at G F.from)) && is_released G heap F.from) (wants ++ it ∷ []) F.entry x F.is

              both-are : (is_command P.number (last (group_at G F.from)) ≡ true) × (is_released G heap F.from ≡ true)
              both-are = and_parts (is_command P.number (last (group_at G F.from))) (is_released G heap F.from) tests.0

              mine : (last (group_at G F.from)).command ≡ P.number
              mine = eqb-true (last (group_at G F.from)).command P.number both-are.0

              low : F.from < length G.groups
              low = (used-by F.number F.from F.there).member.group

              own : (last (group_at G F.from)).queue ≡ P.command.queue
              own = member_queue_is P.number P.command P.there F.from (last (group_at G F.from)) (last_member G L F.from low) mine

              of_need : (of : Mark) × (slice_get (wanted_release G (group_at G F.from)) F.entry ≡ Some of) × (Needs P.command.queue of ≡ x) → F.entry < length wants → IsNeed w q mark
              of_need (of, there, same) below =
                  let queue : P.command.queue ≡ q = cc in
                  let mark-is : of ≡ mark = cc in
                  record {
                    spot = release_waits G F.from;
                    at = record {
                      number = P.number;
                      command = P.command;
                      entry = P.entry;
                      marked = x;
                      there = P.there;
                      is = P.is;
                      place = P.place;
                      own = sym mine;
                      spot = at_exit F.number F.from F.entry refl F.there mine refl low both-are.1 (inl (refl, (let l = length-map (wanted_release G (group_at G F.from)) (Needs P.command.queue) in omega (arith, l, below)))) (let p = F.place in omega (arith, is, p));
                    };
                    target = elsewhere_target F.from (last (group_at G F.from)).queue q mark (release_waits G F.from) low (own ∙ queue) (elsewhere_in G (last (group_at G F.from)).queue (group_at G F.from) F.entry mark (there ∙ ap (λ z. Some z) mark-is))
                        (λ item last-one. for_release F.from (release_wanted G heap L F.from both-are.1) (sym (own ∙ queue)) refl last-one);
                  }

              no_item : it ≡ x → ⊥
              no_item z = cc

      no_prologue : (kind : PrologueKind) (p : Prologue) (A B : List Use) (m : ℕ) → IsPrologueItem kind G p A B m (Needs q mark) → ⊥
      no_prologue kind p A B m (own_prologue h i same) = cc
      no_prologue kind p A B m (alias_prologue h i same) = cc

      no_host : (h : ℕ) (export : Option ℕ) → slice_get (host_barrier G P.command export) h ≡ Some (Needs q mark) → ⊥
      no_host h None z = cc
      no_host h (Some k) z = let o = (one_entry _ h (Needs q mark) z).1 in cc

      go : IsPart G heap P.number P.command P.entry (Needs q mark) → IsNeed w q mark
      go (in_needed h) = in-needed h
      go (in_prologue_part t h is) = let T = prologue_in G heap P.number P.command t (Needs q mark) h in absurd (no_prologue (prologue_of G heap T.group).kind (prologue_of G heap T.group) _ _ T.entry T.is)
      go (at_command same is) = absurd cc
      go (in_released r h is) = in-released r h is
      go (in_host h at is) = absurd (no_host h P.command.export at)

  -- EACH WAIT THAT IS WANTED IS NEEDED

  -- at its spot a need for the item is recorded
  pub record IsRecordedNeed (q : ℕ) (s : Spot) (item : Reason) : Type 0 where
    pub place : ℕ
    pub mark : Mark
    pub there : slice_get (script G heap) place ≡ Some (Needs q mark)
    pub at : IsAt G heap L place s
    pub step_is : step G heap mark ≡ step_for G heap L item

  -- the command of a member, and where it has the group
  record OfMember (g : ℕ) (u : Use) : Type 0 where
    command : Command
    there : slice_get G.commands u.command ≡ Some command
    queue : command.queue ≡ u.queue
    number : ℕ
    at : slice_get (groups_used G u.command) number ≡ Some g

  of_member : (g : ℕ) (u : Use) → IsMember G g u → OfMember g u
  of_member g u M =
      let C = entry_there G.commands u.command (command_below G L g u M) in
      let U = is_used G L g u M in
      record { command = C.0; there = C.1; queue = sym (member_queue_is u.command C.0 C.1 g u M refl); number = U.0; at = entry_contained (groups_used G u.command) g U }

  -- before a command
  needed_there : (g : ℕ) (u : Use) (mark : Mark) (item : Reason) (q : ℕ) → IsMember G g u → u.queue ≡ q → ((r : ℕ) → r ≡ q → Contains (use_needs G heap r u.command g) mark) → step G heap mark ≡ step_for G heap L item → IsRecordedNeed q (waits_before u.command) item
  needed_there g u mark item q M queue has step-is =
      let F = of_member g u M in
      let own : F.command.queue ≡ q = F.queue ∙ queue in
      let among = contains_map (Needs F.command.queue) (marks_needed G heap u.command F.command) mark
      (contains_part (use_needs G heap F.command.queue u.command) (groups_used G u.command) g mark (contains_entry (groups_used G u.command) F.number g F.at) (has F.command.queue own)) in
      let is : slice_get (block G heap u.command F.command) among.0 ≡ Some (Needs F.command.queue mark) = needed_entry G heap u.command F.command among.0 (Needs F.command.queue mark) (entry_contained (needed G heap u.command F.command) (Needs F.command.queue mark) among) in
      record {
        place = start G heap u.command + among.0;
        mark = mark;
        there = at_start G heap u.command among.0 F.command (Needs F.command.queue mark) F.there is ∙ ap (λ r. Some (Needs r mark)) own;
        at = record { number = u.command; command = F.command; entry = among.0; marked = Needs F.command.queue mark; there = F.there; is = is; place = refl; own = refl; spot = at_wait refl refl refl among.1 };
        step_is = step-is;
      }

  first_has : (g r : ℕ) (mark : Mark) → Contains (wanted_first G (prologue_of G heap g) (earlier G g)) mark → Contains (use_needs G heap r (first (group_at G g)).command g) mark
  first_has g r mark has = subst (λ b. Contains (if b then wanted_first G (prologue_of G heap g) (earlier G g) else if is_command (first (group_at G g)).command (first (on r (group_at G g))) then wanted_further (prologue_of G heap g) else []) mark) (sym (eq-eqb (first (group_at G g)).command (first (group_at G g)).command refl)) has

  turn_there : (g q : ℕ) (item : Reason) → IsWanted G heap (Turn g) → q ≡ queue_for G (Turn g) → IsLastElsewhere G (group_at G g) q item → IsRecordedNeed q (waits_before (first (next_group G g)).command) item
  turn_there g q item w queue F =
      let low = next_low G heap L g w.0 in
      let mark : Mark = marks.Command (last (on F.queue (group_at G g))).command in
      let has : Contains (last_elsewhere G (first (group_at G (suc g))).queue (group_at G g)) (marks.Command (last (on F.queue (group_at G g))).command) = elsewhere_has G (first (group_at G (suc g))).queue (group_at G g) F.queue F.known (λ e. F.other (e ∙ sym queue)) F.some in
      needed_there (suc g) (first (group_at G (suc g))) (marks.Command (last (on F.queue (group_at G g))).command) item q (first_member G L (suc g) low) (sym queue)
      (λ r own. first_has (suc g) r (marks.Command (last (on F.queue (group_at G g))).command) (subst (λ A. Contains (wanted_by (prologue_of G heap (suc g)).kind G (prologue_of G heap (suc g)) A) (marks.Command (last (on F.queue (group_at G g))).command)) (sym (before_is G heap L g w.0)) (subst (λ k. Contains (wanted_by k G (prologue_of G heap (suc g)) (group_at G g)) (marks.Command (last (on F.queue (group_at G g))).command)) (sym (turn_kind G heap L g w.0 w.1)) has)))
      (sym (ap (step_for G heap L) F.is))

  acquire_there : (g q : ℕ) → IsWanted G heap (Acquire g) → q ≡ queue_for G (Acquire g) → IsRecordedNeed q (waits_before (first (next_group G g)).command) (Release g)
  acquire_there g q w queue =
      let low = next_low G heap L g w.0 in
      let number : suc g - 1 ≡ g = omega arith in
      needed_there (suc g) (first (group_at G (suc g))) (marks.Release (suc g - 1)) (Release g) q (first_member G L (suc g) low) (sym queue)
      (λ r own. first_has (suc g) r (marks.Release (suc g - 1)) (subst (λ k. Contains (wanted_by k G (prologue_of G heap (suc g)) (earlier G (suc g))) (marks.Release (suc g - 1))) (sym (acquire_kind G heap L g w.0 w.1)) (contains_head (marks.Release (suc g - 1)) [])))
      (ap (λ z. step G heap (marks.Release z)) number)

  -- what stands before a group is there, on the queue of its first member, with its mark
  record Entering (g : ℕ) (item : Reason) : Type 0 where
    group : g < length G.groups
    kind : is_there (prologue_of G heap g).kind ≡ true
    queue : queue_for G item ≡ (first (group_at G g)).queue
    at : step G heap (marks.Prologue g) ≡ step_for G heap L item

  entering : (g : ℕ) (item : Reason) → Enters G g item → IsWanted G heap item → Entering g item
  entering g item (by_turn h next) w = record { group = (let l = next_low G heap L h w.0 in omega (arith, l, next)); kind = ap (λ z. is_there (prologue_of G heap z).kind) (sym next) ∙ ap is_there (turn_kind G heap L h w.0 w.1); queue = ap (λ z. (first (group_at G z)).queue) next; at = ap (λ z. step G heap (marks.Prologue z)) (sym next) }
  entering g item (by_acquire h next) w = record { group = (let l = next_low G heap L h w.0 in omega (arith, l, next)); kind = ap (λ z. is_there (prologue_of G heap z).kind) (sym next) ∙ ap is_there (acquire_kind G heap L h w.0 w.1); queue = ap (λ z. (first (group_at G z)).queue) next; at = ap (λ z. step G heap (marks.Prologue z)) (sym next) }
  entering g item by_discard w = record { group = w.0.group; kind = ap is_there (discard_kind G heap L g w) ∙ either (has_uses (same_bytes G heap g)); queue = refl; at = refl }
    where
      either : (b : Bool) → is_there (first_kind b true) ≡ true
      either true = refl
      either false = refl
  entering g item (by_alias buffer) w = record { group = w.0.group; kind = ap is_there (alias_kind G heap L g false w buffer); queue = refl; at = sym (ap (λ b. if b then step G heap (marks.Prologue g) - 1 else step G heap (marks.Prologue g)) buffer) }

  member_there : (g q : ℕ) (item : Reason) → Enters G g item → IsWanted G heap item → q ≢ queue_for G item → 0 < length (on q (group_at G g)) → IsRecordedNeed q (waits_before (first (on q (group_at G g))).command) item
  member_there g q item enters w differ some = go (entering g item enters w)
    where
      u : Use
      u = first (on q (group_at G g))

      go : Entering g item → IsRecordedNeed q (waits_before (first (on q (group_at G g))).command) item
      go N = needed_there g (first (on q (group_at G g))) (marks.Prologue g) item q M on-q has N.at
        where
          K : Contains (group_at G g) (first (on q (group_at G g))) × (((first (on q (group_at G g))).queue == q) ≡ true)
          K = kept (λ (v : Use). v.queue == q) (group_at G g) 0 no_use some

          M : IsMember G g (first (on q (group_at G g)))
          M = member_of G L g N.group (first (on q (group_at G g))) K.0

          on-q : (first (on q (group_at G g))).queue ≡ q
          on-q = eqb-true (first (on q (group_at G g))).queue q K.1

          later : (first (group_at G g)).command < (first (on q (group_at G g))).command
          later = after_first G L g (first (on q (group_at G g))) M (λ e. differ (sym on-q ∙ ap (λ (v : Use). v.queue) e ∙ sym N.queue))

          miss : is_command (first (on q (group_at G g))).command (first (group_at G g)) ≡ false
          miss = ne_eqb (first (group_at G g)).command (first (on q (group_at G g))).command (λ e. omega (arith, e, later))

          has : (r : ℕ) → r ≡ q → Contains (use_needs G heap r (first (on q (group_at G g))).command g) (marks.Prologue g)
          has r own =
              subst (λ b. Contains (if b then wanted_first G (prologue_of G heap g) (earlier G g) else if is_command (first (on q (group_at G g))).command (first (on r (group_at G g))) then wanted_further (prologue_of G heap g) else []) (marks.Prologue g)) (sym miss)
              (subst (λ z. Contains (if is_command (first (on q (group_at G g))).command (first (on z (group_at G g))) then wanted_further (prologue_of G heap g) else []) (marks.Prologue g)) (sym own)
              (subst (λ b. Contains (if b then wanted_further (prologue_of G heap g) else []) (marks.Prologue g)) (sym (eq-eqb (first (on q (group_at G g))).command (first (on q (group_at G g))).command refl))
              (subst (λ b. Contains (if b then marks.Prologue g ∷ [] else []) (marks.Prologue g)) (sym N.kind) (contains_head (marks.Prologue g) []))))

  release_there : (g q : ℕ) (item : Reason) → IsWanted G heap (Release g) → q ≡ queue_for G (Release g) → IsLastElsewhere G (group_at G g) q item → IsRecordedNeed q (release_waits G g) item
  release_there g q item w queue F = go (of_member g (last (group_at G g)) (last_member G L g low))
    where
      low : g < length G.groups
      low = let l = next_low G heap L g w.0 in omega (arith, l)

      so : is_released G heap g ≡ true
      so = released_is G heap L g w

      mark : Mark
      mark = marks.Command (last (on F.queue (group_at G g))).command

      c : ℕ
      c = (last (group_at G g)).command

      it : Marked
      it = release_item G g (group_at G g) (group_at G (suc g))

      go : OfMember g (last (group_at G g)) → IsRecordedNeed q (release_waits G g) item
      go O = record {
        place = start G heap (last (group_at G g)).command + entry;
        mark = mark;
        there = at_start G heap (last (group_at G g)).command entry O.command x O.there in-block ∙ ap (λ r. Some (Needs r mark)) (O.queue ∙ sym queue);
        at = record {
          number = (last (group_at G g)).command;
          command = O.command;
          entry = entry;
          marked = x;
          there = O.there;
          is = in-block;
          place = refl;
          own = refl;
          spot = at_exit O.number g among.0 refl O.at refl refl low so (inl (refl, (let l = length-map (wanted_release G (group_at G g)) (Needs O.command.queue) in let a = among.1 in omega (arith, l, a)))) refl;
        };
        step_is = sym (ap (step_for G heap L) F.is);
      }
        where
          x : Marked
          x = Needs O.command.queue mark

          wants : List Marked
          wants = map (Needs O.command.queue) (wanted_release G (group_at G g))

          among : Contains wants x
          among = contains_map (Needs O.command.queue) (wanted_release G (group_at G g)) mark (elsewhere_has G (last (group_at G g)).queue (group_at G g) F.queue F.known (λ e. F.other (e ∙ sym queue)) F.some)

          entry : ℕ
          entry = own_place G heap (last (group_at G g)).command O.command + (1 + (joint (use_releases G heap O.command.queue (last (group_at G g)).command) (groups_used G (last (group_at G g)).command) O.number + among.0))

          in-block : slice_get (block G heap (last (group_at G g)).command O.command) entry ≡ Some x
          in-block =
              released_entry G heap (last (group_at G g)).command O.command (joint (use_releases G heap O.command.queue (last (group_at G g)).command) (groups_used G (last (group_at G g)).command) O.number + among.0) x
              (joined_entry (use_releases G heap O.command.queue (last (group_at G g)).command) (groups_used G (last (group_at G g)).command) O.number among.0 (joint (use_releases G heap O.command.queue (last (group_at G g)).command) (groups_used G (last (group_at G g)).command) O.number + among.0) g x O.at
              (subst (λ b. slice_get (if b then wants ++ it ∷ [] else []) among.0 ≡ Some x) (sym (and_from (is_command (last (group_at G g)).command (last (group_at G g))) (is_released G heap g) (eq-eqb (last (group_at G g)).command (last (group_at G g)).command refl) so))
              (entry_left wants (it ∷ []) among.0 x (entry_contained wants x among))) refl)

  pub need_for : (q : ℕ) (s : Spot) (item : Reason) → IsWaitWanted G heap q s item → IsRecordedNeed q s item
  need_for q s item (for_turn g w queue at F) = subst (λ z. IsRecordedNeed q z item) (sym at) (turn_there g q item w queue F)
  need_for q s item (for_release g w queue at F) = subst (λ z. IsRecordedNeed q z item) (sym at) (release_there g q item w queue F)
  need_for q s item (for_acquire g w queue at is) = subst (λ z. IsRecordedNeed q z item) (sym at) (subst (λ z. IsRecordedNeed q (waits_before (first (next_group G g)).command) z) (sym is) (acquire_there g q w queue))
  need_for q s item (for_member g enters w differ some at) = subst (λ z. IsRecordedNeed q z item) (sym at) (member_there g q item enters w differ some)
