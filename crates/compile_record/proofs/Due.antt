-- Each item stands on the queue of its mark, and what is needed before a command or its releases stands beside an earlier command,
-- on another queue.
use Rattle.std.proofs.Common.{◌≡◌, ◌≢◌, ⊎_elim, ℕ, zero, suc, ◌-◌, ◌<◌, ◌==◌, ◌&&◌, Bool, true, false, List, [], ◌∷◌, ◌++◌, length, map, get_or, if◌then◌else◌, Option, Some, None, refl, sym, ap, ◌∙◌, subst, eqb-true, eq-eqb, arith}
use Rattle.std.specs.List.{All, flat_map, range_with_len}
use Rattle.std.specs.Option.{option_map_or}
use Rattle.std.specs.Prelude.{slice_get, is_some}
use Rattle.std.proofs.lemmas.Bool.{and_from, and_parts, false≢true}
use Rattle.std.proofs.lemmas.Bool.Decides.{eqb_tells}
use Rattle.std.proofs.lemmas.List.Elements.{All-nil, All-append, All-map}
use Rattle.base.proofs.Lists.{entry_of, one, each_of}
use Rattle.base.specs.Operands.{destination_of}
use Rattle.compile_groups.specs.Groups.{shares}
use Rattle.compile_groups.specs.Laws.{IsGrouped}
use Rattle.compile_groups.specs.Needs.{group_at, goes_on, queue_of}
use Rattle.compile_groups.specs.Placed.{is_import}
use Rattle.compile_groups.specs.Uses.{no_use}
use Rattle.compile_groups.specs.declared.command.Command as commands
use Rattle.compile_groups.specs.declared.grouping.Grouping.{Grouping}
use Rattle.compile_groups.specs.declared.unit_use.Use.{Use}
use Rattle.compile_record.proofs.Contained.{contains_filter, contains_some, kept}
use Rattle.compile_record.proofs.Membership.{IsMember, IsUsed, member_of, contained, some, first_member, last_member, command_below, queue_below, member_queue, after_first, before_last, groups_rise, next_shares, each_used}
use Rattle.compile_record.specs.Items.{layouts_between, barrier, transfer, init, does_prologue, items_of, prologue_items, release_item}
use Rattle.compile_record.specs.Pieces.{piece_of}
use Rattle.compile_record.specs.Script.{is_command, use_needs, use_prologues, is_released, use_releases, host_barrier, groups_used, does_command, block}
use Rattle.compile_record.specs.Standing.{beside, IsRecorded}
use Rattle.compile_record.specs.Wanted.{last_command, last_on, last_elsewhere, wanted_by, wanted_first, is_there, wanted_further, wanted_release}
use Rattle.compile_record.specs.declared.mark.Mark.{Mark}
use Rattle.compile_record.specs.declared.mark.Mark.TheVariants.{Command, Prologue as OfPrologue, Release}
use Rattle.compile_record.specs.declared.mark.Marked.{Marked}
use Rattle.compile_record.specs.declared.mark.Marked.TheVariants.{Does, Needs}
use Rattle.program.specs.declared.program.Item.{Item}
use Rattle.program.specs.declared.program.Item.TheVariants as item
use Rattle.compile_barriers.specs.Masks.{host_masks}
use Rattle.compile_barriers.specs.Prologues.{first, last, has_uses, earlier, first_kind, kind_of, prologue_of, is_transfer}
use Rattle.compile_barriers.specs.Under.{Heap, place_of, uses_under}
use Rattle.compile_barriers.specs.Unions.{on}
use Rattle.compile_barriers.specs.declared.prologue.PrologueKind.{PrologueKind}
use Rattle.compile_barriers.specs.declared.prologue.PrologueKind.TheVariants as kinds

-- MARKS

-- the queue of the item with the mark
abbrev pub home : Grouping → Mark → ℕ
home G (Command c) = queue_of G c
home G (OfPrologue g) = (first (group_at G g)).queue
home G (Release g) = (last (group_at G g)).queue

-- queue q can need it before command c, or right after it
pub record IsDue (G : Grouping) (heap : Heap) (c q : ℕ) (mark : Mark) : Type 0 where
  pub recorded : IsRecorded G heap mark
  pub before : beside G mark < c
  pub other : home G mark ≢ q

abbrev pub IsHome : Grouping → ℕ → Option Mark → Type 0
IsHome G q None = Unit {0}
IsHome G q (Some mark) = q ≡ home G mark

-- it can stand beside command c
abbrev pub Fits : Grouping → Heap → ℕ → Marked → Type 0
Fits G heap c (Does q of item) = (q < length G.families) × IsHome G q of
Fits G heap c (Needs q mark) = (q < length G.families) × IsDue G heap c q mark

-- CASES

either : {X : Type 0} (P : X → Type 0) (b : Bool) (xs ys : List X) → (b ≡ true → All P xs) → (b ≡ false → All P ys) → All P (if b then xs else ys)
either P true xs ys h k = h refl
either P false xs ys h k = k refl

-- the last use on each other queue
elsewhere : (P : Mark → Type 0) (G : Grouping) (q : ℕ) (A : List Use) → ((p : ℕ) → p ≢ q → 0 < length (on p A) → P (Command (last (on p A)).command)) → All P (last_elsewhere G q A)
elsewhere P G q A each = each_of P (last_on q A) (range_with_len 0 (length G.families)) (λ k d lt. on_one (get_or (range_with_len 0 (length G.families)) k d))
  where
    listed : (B : List Use) → (0 < length B → P (Command (last B).command)) → All P (last_command B)
    listed [] h = All-nil P
    listed (u ∷ uses) h = one P (Command (last (u ∷ uses)).command) (h (omega arith))

    on_one : (p : ℕ) → All P (last_on q A p)
    on_one p = ⊎_elim same other (eqb_tells p q)
      where
        same : ((p == q) ≡ true) × (p ≡ q) → All P (last_on q A p)
        same h = subst (λ b. All P (if b then [] else last_command (on p A))) (sym h.0) (All-nil P)

        other : ((p == q) ≡ false) × (p ≢ q) → All P (last_on q A p)
        other h = subst (λ b. All P (if b then [] else last_command (on p A))) (sym h.0) (listed (on p A) (each p h.1))

-- a transfer stands between two groups, where these do not share the unit
transfer_at : (h s i r m : Bool) → (if h then (if s then kinds.Barrier else kinds.Transfer) else if i then kinds.Nothing else first_kind r m) ≡ kinds.Transfer → (h ≡ true) × (s ≡ false)
transfer_at true true i r m e = absurd cc
transfer_at true false i r m e = (refl, refl)
transfer_at false s true r m e = absurd cc
transfer_at false s false false false e = absurd cc
transfer_at false s false false true e = absurd cc
transfer_at false s false true false e = absurd cc
transfer_at false s false true true e = absurd cc

transfer_between : (G : Grouping) (A L B : List Use) → kind_of G A L B ≡ kinds.Transfer → (has_uses A ≡ true) × (shares G.families G.sharings (first B).unit (first A).queue (first B).queue ≡ false)
transfer_between G A L B = transfer_at (has_uses A) (shares G.families G.sharings (first B).unit (first A).queue (first B).queue) (is_import G (first B).unit) (has_uses L) (is_some (first B).layout)

first_on : (B : List Use) (q : ℕ) → 0 < length B → (first B).queue ≡ q → first (on q B) ≡ first B
first_on [] q lt e = absurd (omega (arith, lt))
first_on (u ∷ B) q lt e = ap (λ b. first (if b then u ∷ on q B else on q B)) (eq-eqb u.queue q e)

last_low : (B : List Use) → 0 < length B → length B - 1 < length B
last_low B lt = omega (arith, lt)

module _ (G : Grouping) (heap : Heap) (L : IsGrouped G) (known : All (λ command. command.queue < length G.families) G.commands) where
  -- a member of a group on another queue, with an earlier command
  member_due : (c q g : ℕ) (u : Use) → IsMember G g u → u.command < c → u.queue ≢ q → IsDue G heap c q (Command u.command)
  member_due c q g u M before other = record { recorded = command_below G L g u M; before = before; other = λ e. other (sym (member_queue G L g u M) ∙ e) }

  -- those of group g on queue p
  on_member : (g p k : ℕ) → g < length G.groups → (lt : k < length (on p (group_at G g))) → IsMember G g (get_or (on p (group_at G g)) k no_use)
  on_member g p k group lt = member_of G L g group (get_or (on p (group_at G g)) k no_use) (kept (λ (u : Use). u.queue == p) (group_at G g) k no_use lt).0

  on_queue : (g p k : ℕ) → (lt : k < length (on p (group_at G g))) → (get_or (on p (group_at G g)) k no_use).queue ≡ p
  on_queue g p k lt = eqb-true (get_or (on p (group_at G g)) k no_use).queue p (kept (λ (u : Use). u.queue == p) (group_at G g) k no_use lt).1

  module _ (c q : ℕ) (lt : q < length G.families) (own : queue_of G c ≡ q) where
    -- a member of the command is on its queue
    own_queue : (g : ℕ) (u : Use) → IsMember G g u → u.command ≡ c → u.queue ≡ q
    own_queue g u M e = sym (member_queue G L g u M) ∙ ap (queue_of G) e ∙ own

    -- BEFORE THE FIRST MEMBER

    abbrev Due : Mark → Type 0
    Due = IsDue G heap c q

    -- after the uses of the group before
    after_group : (g : ℕ) → suc g < length G.groups → goes_on G g ≡ true → (first (group_at G (suc g))).command ≡ c → (kind : PrologueKind) → (prologue_of G heap (suc g)).kind ≡ kind → earlier G (suc g) ≡ group_at G g → All Due (wanted_by kind G (prologue_of G heap (suc g)) (group_at G g))
    after_group g within goes command kinds.Nothing e is = All-nil Due
    after_group g within goes command kinds.Barrier e is = elsewhere Due G (first (group_at G (suc g))).queue (group_at G g) each
      where
        each : (p : ℕ) → p ≢ (first (group_at G (suc g))).queue → 0 < length (on p (group_at G g)) → Due (Command (last (on p (group_at G g))).command)
        each p differ some-on =
            let low = last_low (on p (group_at G g)) some-on in
            let M : IsMember G g (last (on p (group_at G g))) = on_member g p (length (on p (group_at G g)) - 1) (omega (arith, within)) low in
            let N : IsMember G (suc g) (first (group_at G (suc g))) = first_member G L (suc g) within in
            member_due c q g (last (on p (group_at G g))) M
            (subst (λ n. (last (on p (group_at G g))).command < n) command (groups_rise G L g (last (on p (group_at G g))) (first (group_at G (suc g))) M N goes))
            (λ same. differ (sym (on_queue g p (length (on p (group_at G g)) - 1) low) ∙ same ∙ sym (own_queue (suc g) (first (group_at G (suc g))) N command)))
    after_group g within goes command kinds.Transfer e is =
        let number : g ≡ suc g - 1 = omega arith in
        let under : g < length G.groups = omega (arith, within) in
        let N : IsMember G (suc g) (first (group_at G (suc g))) = first_member G L (suc g) within in
        let M : IsMember G g (last (group_at G g)) = last_member G L g under in
        let apart = (transfer_between G (earlier G (suc g)) (uses_under G heap (place_of G (first (group_at G (suc g))).unit)) (group_at G (suc g)) e).1 in
        one Due (Release (suc g - 1))
        (subst (λ n. Due (Release n)) number (record {
          recorded = (under, and_from (goes_on G g) (is_transfer (prologue_of G heap (suc g)).kind) goes (ap is_transfer e));
          before = subst (λ n. (last (group_at G g)).command < n) command (groups_rise G L g (last (group_at G g)) (first (group_at G (suc g))) M N goes);
          other = λ same. false≢true (sym (subst (λ A. shares G.families G.sharings (first (group_at G (suc g))).unit (first A).queue (first (group_at G (suc g))).queue ≡ false) is apart)
              ∙ subst (λ r. shares G.families G.sharings (first (group_at G (suc g))).unit (first (group_at G g)).queue r ≡ true) (same ∙ sym (own_queue (suc g) (first (group_at G (suc g))) N command)) (next_shares G L g within goes));
        }))
    after_group g within goes command kinds.Alias e is = All-nil Due
    after_group g within goes command kinds.Init e is = All-nil Due
    after_group g within goes command kinds.AliasInit e is = All-nil Due

    -- where there is none before
    after_none : (kind : PrologueKind) (g : ℕ) → g < length G.groups → (prologue_of G heap g).kind ≡ kind → earlier G g ≡ [] → All Due (wanted_by kind G (prologue_of G heap g) [])
    after_none kinds.Nothing g within e is = All-nil Due
    after_none kinds.Barrier g within e is = elsewhere Due G (first (group_at G g)).queue [] (λ p differ none. absurd (omega (arith, none)))
    after_none kinds.Transfer g within e is =
        let some-before = (transfer_between G (earlier G g) (uses_under G heap (place_of G (first (group_at G g)).unit)) (group_at G g) e).0 in
        absurd (false≢true (subst (λ A. has_uses A ≡ true) is some-before))
    after_none kinds.Alias g within e is = All-nil Due
    after_none kinds.Init g within e is = All-nil Due
    after_none kinds.AliasInit g within e is = All-nil Due

    first_due : (g : ℕ) → g < length G.groups → (first (group_at G g)).command ≡ c → All Due (wanted_first G (prologue_of G heap g) (earlier G g))
    first_due zero within command = after_none (prologue_of G heap zero).kind zero within refl refl
    first_due (suc g) within command = go (goes_on G g) refl
      where
        go : (o : Bool) → goes_on G g ≡ o → All Due (wanted_by (prologue_of G heap (suc g)).kind G (prologue_of G heap (suc g)) (earlier G (suc g)))
        go true e =
            let is : earlier G (suc g) ≡ group_at G g = ap (λ o. if o then group_at G g else []) e in
            subst (λ A. All Due (wanted_by (prologue_of G heap (suc g)).kind G (prologue_of G heap (suc g)) A)) (sym is) (after_group g within e command (prologue_of G heap (suc g)).kind refl is)
        go false e =
            let is : earlier G (suc g) ≡ [] = ap (λ o. if o then group_at G g else []) e in
            subst (λ A. All Due (wanted_by (prologue_of G heap (suc g)).kind G (prologue_of G heap (suc g)) A)) (sym is) (after_none (prologue_of G heap (suc g)).kind (suc g) within refl is)

    -- FURTHER QUEUES OF A GROUP

    further_due : (g : ℕ) → g < length G.groups → 0 < length (on q (group_at G g)) → is_command c (first (group_at G g)) ≡ false → is_command c (first (on q (group_at G g))) ≡ true → All Due (wanted_further (prologue_of G heap g))
    further_due g within some-on miss hit = either Due (is_there (prologue_of G heap g).kind) (OfPrologue g ∷ []) [] (λ e. one Due (OfPrologue g) (due e)) (λ e. All-nil Due)
      where
        differ : first (on q (group_at G g)) ≡ first (group_at G g) → ⊥
        differ e = false≢true (sym miss ∙ ap (is_command c) (sym e) ∙ hit)

        due : is_there (prologue_of G heap g).kind ≡ true → Due (OfPrologue g)
        due e = record {
          recorded = (within, e);
          before = subst (λ n. (first (group_at G g)).command < n) (eqb-true (first (on q (group_at G g))).command c hit) (after_first G L g (first (on q (group_at G g))) (on_member g q 0 within some-on) differ);
          other = λ same. differ (first_on (group_at G g) q (some G L g within) same);
        }

    needs_due : (g : ℕ) → IsUsed G c g → All Due (use_needs G heap q c g)
    needs_due g U =
        either Due (is_command c (first (group_at G g))) (wanted_first G (prologue_of G heap g) (earlier G g)) (if is_command c (first (on q (group_at G g))) then wanted_further (prologue_of G heap g) else [])
        (λ e. first_due g U.member.group (eqb-true (first (group_at G g)).command c e))
        (λ miss. either Due (is_command c (first (on q (group_at G g)))) (wanted_further (prologue_of G heap g)) []
        (λ hit. further_due g U.member.group some-on miss hit)
        (λ e. All-nil Due))
      where
        some-on : 0 < length (on q (group_at G g))
        some-on = contains_some (on q (group_at G g)) U.one (contains_filter (λ (u : Use). u.queue == q) (group_at G g) U.one (contained G L g U.one U.member) (eq-eqb U.one.queue q (own_queue g U.one U.member U.command)))

    -- ITEMS

    prologues_fit : (g : ℕ) → IsUsed G c g → All (Fits G heap c) (use_prologues G heap c g)
    prologues_fit g U = either (Fits G heap c) (is_command c (first (group_at G g))) (prologue_items G (prologue_of G heap g) (earlier G g) (group_at G g)) [] (λ e. items (prologue_of G heap g).kind) (λ e. All-nil (Fits G heap c))
      where
        below : (first (group_at G g)).queue < length G.families
        below = queue_below G L known g (first (group_at G g)) (first_member G L g U.member.group)

        does : (item : Item) → Fits G heap c (does_prologue (prologue_of G heap g) item)
        does item = (below, refl)

        items : (kind : PrologueKind) → All (Fits G heap c) (items_of kind G (prologue_of G heap g) (earlier G g) (group_at G g))
        items kinds.Nothing = All-nil (Fits G heap c)
        items kinds.Barrier =
            let it : Item = barrier (piece_of G (first (group_at G g)).unit) (layouts_between (earlier G g) (group_at G g)) (prologue_of G heap g).masks in
            one (Fits G heap c) (does_prologue (prologue_of G heap g) it) (does it)
        items kinds.Transfer =
            let it : Item = item.Acquire (transfer G (earlier G g) (group_at G g) (prologue_of G heap g).masks) in
            one (Fits G heap c) (does_prologue (prologue_of G heap g) it) (does it)
        items kinds.Alias =
            let it : Item = item.Global (prologue_of G heap g).masks in
            one (Fits G heap c) (does_prologue (prologue_of G heap g) it) (does it)
        items kinds.Init =
            let it : Item = init G (group_at G g) in
            one (Fits G heap c) (does_prologue (prologue_of G heap g) it) (does it)
        items kinds.AliasInit =
            let global : Marked = Does (prologue_of G heap g).queue None (item.Global (prologue_of G heap g).masks) in
            let it : Marked = does_prologue (prologue_of G heap g) (init G (group_at G g)) in
            All-append (Fits G heap c) (global ∷ []) (it ∷ []) (one (Fits G heap c) global (below, tt)) (one (Fits G heap c) it (does (init G (group_at G g))))

    releases_fit : (g : ℕ) → IsUsed G c g → All (Fits G heap c) (use_releases G heap q c g)
    releases_fit g U =
        either (Fits G heap c) (is_command c (last A) && is_released G heap g) (map (Needs q) (wanted_release G A) ++ release_item G g A (group_at G (suc g)) ∷ []) []
        (λ e. released (eqb-true (last A).command c (and_parts (is_command c (last A)) (is_released G heap g) e).0))
        (λ e. All-nil (Fits G heap c))
      where
        A : List Use
        A = group_at G g

        within : g < length G.groups
        within = U.member.group

        E : IsMember G g (last (group_at G g))
        E = last_member G L g within

        released : (last (group_at G g)).command ≡ c → All (Fits G heap c) (map (Needs q) (wanted_release G (group_at G g)) ++ release_item G g (group_at G g) (group_at G (suc g)) ∷ [])
        released command =
            All-append (Fits G heap c) (map (Needs q) (wanted_release G (group_at G g))) (release_item G g (group_at G g) (group_at G (suc g)) ∷ [])
            (All-map (Fits G heap c) (Needs q) (wanted_release G (group_at G g)) (elsewhere (λ mark. Fits G heap c (Needs q mark)) G (last (group_at G g)).queue (group_at G g) each))
            (one (Fits G heap c) (release_item G g (group_at G g) (group_at G (suc g))) (queue_below G L known g (last (group_at G g)) E, refl))
          where
            each : (p : ℕ) → p ≢ (last (group_at G g)).queue → 0 < length (on p (group_at G g)) → Fits G heap c (Needs q (Command (last (on p (group_at G g))).command))
            each p differ some-on =
                let low = last_low (on p (group_at G g)) some-on in
                let M : IsMember G g (last (on p (group_at G g))) = on_member g p (length (on p (group_at G g)) - 1) within low in
                let on-p : (last (on p (group_at G g))).queue ≡ p = on_queue g p (length (on p (group_at G g)) - 1) low in (
                  lt,
                  member_due c q g (last (on p (group_at G g))) M
                      (subst (λ n. (last (on p (group_at G g))).command < n) command (before_last G L g (last (on p (group_at G g))) M (λ e. differ (sym on-p ∙ ap (λ (u : Use). u.queue) e))))
                      (λ same. differ (sym on-p ∙ same ∙ sym (own_queue g (last (group_at G g)) E command))),
                )

    host_fits : (command : commands.Command) (export : Option ℕ) → command.queue ≡ q → All (Fits G heap c) (host_barrier G command export)
    host_fits command None e = All-nil (Fits G heap c)
    host_fits command (Some k) e =
        let it : Marked = Does command.queue None (item.BufferBarrier (piece_of G (destination_of command.op)) host_masks) in
        one (Fits G heap c) it (subst (λ n. n < length G.families) (sym e) lt, tt)

  -- ONE COMMAND

  pub block_fits : (c : ℕ) (command : commands.Command) → slice_get G.commands c ≡ Some command → All (Fits G heap c) (block G heap c command)
  block_fits c command there =
      let q : ℕ = command.queue in
      let lt : command.queue < length G.families = entry_of (λ (x : commands.Command). x.queue < length G.families) G.commands c command known there in
      let own : queue_of G c ≡ command.queue = ap (λ o. option_map_or (λ (x : commands.Command). x.queue) o 0) there in
      let gs : List ℕ = groups_used G c in
      let needs : List Marked = map (Needs q) (flat_map (use_needs G heap q c) gs) in
      let prologues : List Marked = flat_map (use_prologues G heap c) gs in
      let after : List Marked = does_command G c command ∷ flat_map (use_releases G heap q c) gs in
      All-append (Fits G heap c) ((needs ++ prologues) ++ after) (host_barrier G command command.export)
      (All-append (Fits G heap c) (needs ++ prologues) after
      (All-append (Fits G heap c) needs prologues
      (All-map (Fits G heap c) (Needs q) (flat_map (use_needs G heap q c) gs) (each_of (λ mark. Fits G heap c (Needs q mark)) (use_needs G heap q c) gs (λ k d h. λ j e l. (lt, needs_due c q lt own (get_or gs k d) (each_used G L c k d h) j e l))))
      (each_of (Fits G heap c) (use_prologues G heap c) gs (λ k d h. prologues_fit c q lt own (get_or gs k d) (each_used G L c k d h))))
      (All-append (Fits G heap c) (does_command G c command ∷ []) (flat_map (use_releases G heap q c) gs)
      (one (Fits G heap c) (does_command G c command) (lt, sym own))
      (each_of (Fits G heap c) (use_releases G heap q c) gs (λ k d h. releases_fit c q lt own (get_or gs k d) (each_used G L c k d h)))))
      (host_fits c q lt own command command.export refl)
