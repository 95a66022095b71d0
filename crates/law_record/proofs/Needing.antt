-- The items of a compiled program are those that are wanted, each once and in order.
use Rattle.std.proofs.Common.{◌≡◌, ⊎_elim, ℕ, suc, ◌-◌, ◌<◌, Bool, true, false, List, ◌++◌, length, map, Option, Some, None, if◌then◌else◌, refl, sym, ap, ap₂, ◌∙◌, subst, arith}
use Rattle.std.specs.Option.{option_map}
use Rattle.std.specs.Prelude.{slice_get, is_some}
use Rattle.std.proofs.lemmas.Bool.{cases_lt, false≢true}
use Rattle.std.proofs.lemmas.Option.{slice_get-map, get_or_from_slice_get}
use Rattle.compile_barriers.specs.Prologues.{first, has_uses, first_kind, prologue_of}
use Rattle.compile_barriers.specs.Under.{Heap}
use Rattle.compile_barriers.specs.declared.prologue.PrologueKind.{PrologueKind}
use Rattle.compile_barriers.specs.declared.prologue.PrologueKind.TheVariants as kinds
use Rattle.compile_groups.specs.Laws.{IsGrouped}
use Rattle.compile_groups.specs.Needs.{group_at}
use Rattle.compile_groups.specs.declared.command.Command.{Command}
use Rattle.compile_groups.specs.declared.grouping.Grouping.{Grouping}
use Rattle.compile_record.proofs.Entries.{entry_map, entry_there}
use Rattle.compile_record.specs.Marks.{unmarked, steps_of}
use Rattle.compile_record.specs.Script.{script}
use Rattle.compile_record.specs.Standing.{step, prologue_item, IsKnown, IsStanding, by_mark, by_alias, by_copy}
use Rattle.compile_record.specs.Wanted.{is_there}
use Rattle.compile_record.specs.declared.mark.Mark.{Mark}
use Rattle.compile_record.specs.declared.mark.Mark.TheVariants as marks
use Rattle.compile_record.specs.declared.mark.Marked.{Marked}
use Rattle.compile_record.specs.declared.mark.Marked.TheVariants.{Does, Needs}
use Rattle.compile_timeline.proofs.Latest.{has_there}
use Rattle.compile_timeline.specs.Laws.{AreNumbered, AllThere, InOrder}
use Rattle.compile_timeline.specs.Places.{places, entry_of, item_number}
use Rattle.compile_timeline.specs.Steps.{has_item, IsScript}
use Rattle.compile_timeline.specs.declared.step.Step.{Step}
use Rattle.compile_timeline.specs.declared.step.Step.TheVariants as steps
use Rattle.law_record.proofs.Befores.{no_command, command_at, some_has, turn_kind, acquire_kind, alias_kind, discard_kind, KindOf, after_turn, after_release, of_import, of_placed, kind_at, step_for, mark_for, release_wanted, stands}
use Rattle.law_record.proofs.Nodes.{ItemNode, Stood, item_of, item_node, item_stood, stood_sooner}
use Rattle.law_record.proofs.Spotted.{item_at, rises}
use Rattle.law_record.specs.Needed.{AreItems}
use Rattle.law_record.specs.Reasons.{Reason, Runs, Turn, Release, Acquire, Alias, Discard, Shows, IsFirstPlaced, same_bytes, IsWanted, queue_for}
use Rattle.law_record.specs.Spots.{Sooner, by_command, spot_for}
use Rattle.law_record.specs.Table.{item_for}
use Rattle.program.specs.Entries.{OfItem, OfHost, entries_of}
use Rattle.program.specs.declared.program.Item.{Item}
use Rattle.program.specs.declared.program.Item.TheVariants as item
use Rattle.program.specs.declared.program.Program.{Program}
use Rattle.vk.specs.declared.masks.Masks.{Masks}

-- EQUAL ENTRIES

same_queue : (q r : ℕ) (a b : Item) → Some (OfItem q a) ≡ Some (OfItem r b) → q ≡ r
same_queue q r a b e = cc

same_step : (q r : ℕ) (a b : Item) → Some (steps.Item q a) ≡ Some (steps.Item r b) → q ≡ r
same_step q r a b e = cc

same_mark : (q r : ℕ) (m n : Option Mark) (a b : Item) → Some (Does q m a) ≡ Some (Does r n b) → m ≡ n
same_mark q r m n a b e = cc

same_item : (q r : ℕ) (m n : Option Mark) (a b : Item) → Some (Does q m a) ≡ Some (Does r n b) → a ≡ b
same_item q r m n a b e = cc

same_group : (g h : ℕ) → Some (marks.Prologue g) ≡ Some (marks.Prologue h) → g ≡ h
same_group g h e = cc

same_command : (a b : Command) → Some a ≡ Some b → a ≡ b
same_command a b e = cc

no_global : (masks other : Masks) (piece : ℕ) → item.Global masks ≡ item.BufferBarrier piece other → ⊥
no_global masks other piece e = cc

module _ (G : Grouping) (heap : Heap) (L : IsGrouped G) (S : IsStanding G heap) where
  -- WHY AN ITEM IS RECORDED

  -- what is recorded is wanted
  pub reason : (i q : ℕ) (of : Option Mark) (it : Item) → slice_get (script G heap) i ≡ Some (Does q of it) → (x : Reason) × IsWanted G heap x × (step_for G heap L x ≡ i)
  reason i q of it e = go (S.only i q of it e)
    where
      Found : Type 0
      Found = (x : Reason) × IsWanted G heap x × (step_for G heap L x ≡ i)

      no_kind : (k : PrologueKind) → k ≡ kinds.Nothing → is_there k ≡ true → ⊥
      no_kind k e t = false≢true (sym (ap is_there e) ∙ t)

      first_of : (g : ℕ) → is_there (prologue_of G heap g).kind ≡ true → i ≡ step G heap (marks.Prologue g) → IsFirstPlaced G g → (prologue_of G heap g).kind ≡ first_kind (has_uses (same_bytes G heap g)) (is_some (first (group_at G g)).layout) → (image : Bool) → is_some (first (group_at G g)).layout ≡ image → (reused : Bool) → has_uses (same_bytes G heap g) ≡ reused → (x : Reason) × IsWanted G heap x × (step_for G heap L x ≡ i)
      first_of g there is F kind true a reused b = (Discard g, (F, a), sym is)
      first_of g there is F kind false a true b = (Alias g, (F, some_has (same_bytes G heap g) b), ap (λ c. if c then step G heap (marks.Prologue g) - 1 else step G heap (marks.Prologue g)) a ∙ sym is)
      first_of g there is F kind false a false b = absurd (no_kind (prologue_of G heap g).kind (kind ∙ ap₂ first_kind b a) there)

      by_kind : (g : ℕ) → is_there (prologue_of G heap g).kind ≡ true → i ≡ step G heap (marks.Prologue g) → KindOf G heap L g → (x : Reason) × IsWanted G heap x × (step_for G heap L x ≡ i)
      by_kind g there is (after_turn h next w kind) = (Turn h, w, ap (λ z. step G heap (marks.Prologue z)) next ∙ sym is)
      by_kind g there is (after_release h next w kind) = (Acquire h, w, ap (λ z. step G heap (marks.Prologue z)) next ∙ sym is)
      by_kind g there is (of_import kind) = absurd (no_kind (prologue_of G heap g).kind kind there)
      by_kind g there is (of_placed F kind) = first_of g there is F kind (is_some (first (group_at G g)).layout) refl (has_uses (same_bytes G heap g)) refl

      both_first : (reused image : Bool) → kinds.AliasInit ≡ first_kind reused image → (reused ≡ true) × (image ≡ true)
      both_first true true h = (refl, refl)
      both_first true false h = absurd cc
      both_first false true h = absurd cc
      both_first false false h = absurd cc

      of_alias : (g : ℕ) → (prologue_of G heap g).kind ≡ kinds.AliasInit → suc i ≡ step G heap (marks.Prologue g) → KindOf G heap L g → (x : Reason) × IsWanted G heap x × (step_for G heap L x ≡ i)
      of_alias g kind next (after_turn h e2 w other) = let z : kinds.AliasInit ≡ kinds.Barrier = sym kind ∙ other in absurd cc
      of_alias g kind next (after_release h e2 w other) = let z : kinds.AliasInit ≡ kinds.Transfer = sym kind ∙ other in absurd cc
      of_alias g kind next (of_import other) = let z : kinds.AliasInit ≡ kinds.Nothing = sym kind ∙ other in absurd cc
      of_alias g kind next (of_placed F other) =
          let h = both_first (has_uses (same_bytes G heap g)) (is_some (first (group_at G g)).layout) (sym kind ∙ other) in
          let number : step G heap (marks.Prologue g) - 1 ≡ i = omega (arith, next) in
          (Alias g, (F, some_has (same_bytes G heap g) h.0), ap (λ c. if c then step G heap (marks.Prologue g) - 1 else step G heap (marks.Prologue g)) h.1 ∙ number)

      go : IsKnown G heap i q of it → (x : Reason) × IsWanted G heap x × (step_for G heap L x ≡ i)
      go (by_mark (marks.Command c) m low is) = let C = entry_there G.commands c low in (Runs c C.0, C.1, sym is)
      go (by_mark (marks.Prologue g) m (low, there) is) = by_kind g there is (kind_at G heap L g low)
      go (by_mark (marks.Release g) m (low, so) is) = (Release g, release_wanted G heap L g so, sym is)
      go (by_alias g m low kind next q_is it_is) = of_alias g kind next (kind_at G heap L g low)
      go (by_copy c k command m at export is q_is it_is) = (Shows c command, (at, ap is_some export), sym is)

  -- ONE REASON FOR A STEP

  abbrev named : PrologueKind → ℕ → Reason
  named kinds.Nothing g = Discard g
  named kinds.Barrier g = Turn (g - 1)
  named kinds.Transfer g = Acquire (g - 1)
  named kinds.Alias g = Alias g
  named kinds.Init g = Discard g
  named kinds.AliasInit g = Discard g

  abbrev of_mark : Mark → Reason
  of_mark (marks.Command c) = Runs c (command_at G c)
  of_mark (marks.Prologue g) = named (prologue_of G heap g).kind g
  of_mark (marks.Release g) = Release g

  down : (g : ℕ) → suc g - 1 ≡ g
  down g = omega arith

  by_its_mark : (x : Reason) → IsWanted G heap x → (mark : Mark) → mark_for G heap L x ≡ Some mark → x ≡ of_mark mark
  by_its_mark (Runs c command) w mark e = let m : marks.Command c ≡ mark = cc in subst (λ z. Runs c command ≡ of_mark z) m (ap (Runs c) (sym (get_or_from_slice_get G.commands c command no_command w)))
  by_its_mark (Turn g) (goes, stay) mark e = let m : marks.Prologue (suc g) ≡ mark = cc in subst (λ z. Turn g ≡ of_mark z) m (sym (ap (λ k. named k (suc g)) (turn_kind G heap L g goes stay) ∙ ap Turn (down g)))
  by_its_mark (Release g) w mark e = let m : marks.Release g ≡ mark = cc in subst (λ z. Release g ≡ of_mark z) m refl
  by_its_mark (Acquire g) (goes, stay) mark e = let m : marks.Prologue (suc g) ≡ mark = cc in subst (λ z. Acquire g ≡ of_mark z) m (sym (ap (λ k. named k (suc g)) (acquire_kind G heap L g goes stay) ∙ ap Acquire (down g)))
  by_its_mark (Alias g) w mark e = go (is_some (first (group_at G g)).layout) refl e
    where
      go : (image : Bool) → is_some (first (group_at G g)).layout ≡ image → (if image then None else Some (marks.Prologue g)) ≡ Some mark → Alias g ≡ of_mark mark
      go true a h = absurd cc
      go false a h = let m : marks.Prologue g ≡ mark = cc in subst (λ z. Alias g ≡ of_mark z) m (sym (ap (λ k. named k g) (alias_kind G heap L g false w a)))
  by_its_mark (Discard g) w mark e = let m : marks.Prologue g ≡ mark = cc in subst (λ z. Discard g ≡ of_mark z) m (sym (ap (λ k. named k g) (discard_kind G heap L g w) ∙ either (has_uses (same_bytes G heap g))))
    where
      either : (b : Bool) → named (first_kind b true) g ≡ Discard g
      either true = refl
      either false = refl
  by_its_mark (Shows c command) w mark e = absurd cc

  data IsPlain (x : Reason) : Type 0 where
    plain_alias : (g : ℕ) → x ≡ Alias g → g < length G.groups → (prologue_of G heap g).kind ≡ kinds.AliasInit → suc (step_for G heap L x) ≡ step G heap (marks.Prologue g) → IsPlain x
    plain_copy : (c : ℕ) (command : Command) → x ≡ Shows c command → IsPlain x

  plain : (x : Reason) → IsWanted G heap x → mark_for G heap L x ≡ None → IsPlain x
  plain (Runs c command) w e = absurd cc
  plain (Turn g) w e = absurd cc
  plain (Release g) w e = absurd cc
  plain (Acquire g) w e = absurd cc
  plain (Alias g) w e = go (is_some (first (group_at G g)).layout) refl e
    where
      go : (image : Bool) → is_some (first (group_at G g)).layout ≡ image → (if image then None else Some (marks.Prologue g)) ≡ None → IsPlain (Alias g)
      go true a h =
          let kind = alias_kind G heap L g true w a in
          let A = S.each_alias g w.0.group kind in
          let next = A.1 in
          let number : suc (step G heap (marks.Prologue g) - 1) ≡ step G heap (marks.Prologue g) = omega (arith, next) in
          plain_alias g refl w.0.group kind (ap (λ c. suc (if c then step G heap (marks.Prologue g) - 1 else step G heap (marks.Prologue g))) a ∙ number)
      go false a h = absurd cc
  plain (Discard g) w e = absurd cc
  plain (Shows c command) w e = plain_copy c command refl

  -- IN A PROGRAM

  module _ (program : Program) (count : ℕ) (E : entries_of program ≡ map entry_of (places (steps_of (script G heap)) count) ++ map OfHost program.readbacks) (numbered : AreNumbered (steps_of (script G heap)) count) (there : AllThere (steps_of (script G heap)) count) (order : InOrder (steps_of (script G heap)) count) (K : IsScript (steps_of (script G heap)) count) where
    abbrev list : List Step
    list = steps_of (script G heap)

    abbrev pub node_for : Reason → ℕ
    node_for x = item_number (steps_of (script G heap)) count (queue_for G x) (step_for G heap L x)

    pub list_at : (x : Reason) → IsWanted G heap x → slice_get (steps_of (script G heap)) (step_for G heap L x) ≡ Some (steps.Item (queue_for G x) (item_for G heap x))
    list_at x w = slice_get-map (unmarked (script G heap)) (script G heap) (step_for G heap L x) ∙ ap (option_map (unmarked (script G heap))) (stands G heap L S x w)

    pub has_for : (x : Reason) → IsWanted G heap x → has_item (steps_of (script G heap)) (queue_for G x) (step_for G heap L x) ≡ true
    has_for x w = has_there list (queue_for G x) (step_for G heap L x) (item_for G heap x) (list_at x w)

    pub known_for : (x : Reason) → IsWanted G heap x → queue_for G x < count
    known_for x w = K.items (step_for G heap L x) (queue_for G x) (has_for x w)

    pub stood_for : (x : Reason) → IsWanted G heap x → Stood program (steps_of (script G heap)) count (node_for x) (queue_for G x) (step_for G heap L x)
    stood_for x w = item_stood program list count there (queue_for G x) (step_for G heap L x) (known_for x w) (has_for x w)

    steps_rise : (x y : Reason) → IsWanted G heap x → IsWanted G heap y → queue_for G x ≡ queue_for G y → step_for G heap L x < step_for G heap L y → node_for x < node_for y
    steps_rise x y w v same lt = stood_sooner program list count order (node_for x) (node_for y) (queue_for G x) (step_for G heap L x) (step_for G heap L y) (stood_for x w) (subst (λ q. Stood program (steps_of (script G heap)) count (node_for y) q (step_for G heap L y)) (sym same) (stood_for y v)) lt

    in_order : (x y : Reason) → IsWanted G heap x → IsWanted G heap y → queue_for G x ≡ queue_for G y → Sooner (spot_for G x) (spot_for G y) → node_for x < node_for y
    in_order x y w v same before = steps_rise x y w v same (rises G heap L (step_for G heap L x) (step_for G heap L y) (spot_for G x) (spot_for G y) (item_at G heap L S x w) (item_at G heap L S y v) before)

    each : (x : Reason) → IsWanted G heap x → slice_get (entries_of program) (node_for x) ≡ Some (OfItem (queue_for G x) (item_for G heap x))
    each x w = item_node program list count E there (queue_for G x) (step_for G heap L x) (item_for G heap x) (known_for x w) (list_at x w)

    only : (n q : ℕ) (it : Item) → slice_get (entries_of program) n ≡ Some (OfItem q it) → (x : Reason) × IsWanted G heap x × (n ≡ node_for x)
    only n q it e = go (item_of program list count E numbered n q it e)
      where
        go : ItemNode program list count n q it → (x : Reason) × IsWanted G heap x × (n ≡ node_for x)
        go I = at (entry_map (unmarked (script G heap)) (script G heap) I.step (steps.Item q it) I.there)
          where
            queue_is : (x : Reason) → IsWanted G heap x → step_for G heap L x ≡ I.step → queue_for G x ≡ q
            queue_is x w is =
                same_step (queue_for G x) q (item_for G heap x) it (sym (list_at x w) ∙ ap (slice_get list) is ∙ I.there)

            from : (r : ℕ) (of : Option Mark) (it2 : Item) → slice_get (script G heap) I.step ≡ Some (Does r of it2) → (x : Reason) × IsWanted G heap x × (n ≡ node_for x)
            from r of it2 h =
                let X = reason I.step r of it2 h in
                (X.0, X.1, I.number ∙ ap₂ (λ p i. item_number (steps_of (script G heap)) count p i) (sym (queue_is X.0 X.1 X.2)) (sym X.2))

            at : (m : Marked) × (slice_get (script G heap) I.step ≡ Some m) × (unmarked (script G heap) m ≡ steps.Item q it) → (x : Reason) × IsWanted G heap x × (n ≡ node_for x)
            at (Does r of it2, h, same) = from r of it2 h
            at (Needs r mark, h, same) = absurd cc

    once : (x y : Reason) → IsWanted G heap x → IsWanted G heap y → node_for x ≡ node_for y → x ≡ y
    once x y w v same = go (mark_for G heap L x) refl
      where
        both : Some (OfItem (queue_for G x) (item_for G heap x)) ≡ Some (OfItem (queue_for G y) (item_for G heap y))
        both = sym (each x w) ∙ ap (slice_get (entries_of program)) same ∙ each y v

        queues : queue_for G x ≡ queue_for G y
        queues = same_queue (queue_for G x) (queue_for G y) (item_for G heap x) (item_for G heap y) both

        step-same : step_for G heap L x ≡ step_for G heap L y
        step-same = ⊎_elim
            (λ lt. absurd (let less = steps_rise x y w v queues lt in omega (arith, less, same)))
            (λ ge. ⊎_elim (λ lt. absurd (let less = steps_rise y x v w (sym queues) lt in omega (arith, less, same))) (λ le. omega (arith, ge, le)) (cases_lt (step_for G heap L y) (step_for G heap L x)))
            (cases_lt (step_for G heap L x) (step_for G heap L y))

        recorded : Some (Does (queue_for G x) (mark_for G heap L x) (item_for G heap x)) ≡ Some (Does (queue_for G y) (mark_for G heap L y) (item_for G heap y))
        recorded = sym (stands G heap L S x w) ∙ ap (slice_get (script G heap)) step-same ∙ stands G heap L S y v

        mark-same : mark_for G heap L x ≡ mark_for G heap L y
        mark-same = same_mark (queue_for G x) (queue_for G y) (mark_for G heap L x) (mark_for G heap L y) (item_for G heap x) (item_for G heap y) recorded

        item-same : item_for G heap x ≡ item_for G heap y
        item-same = same_item (queue_for G x) (queue_for G y) (mark_for G heap L x) (mark_for G heap L y) (item_for G heap x) (item_for G heap y) recorded

        alike : IsPlain x → IsPlain y → x ≡ y
        alike (plain_alias g is low kind next) (plain_alias h also low2 kind2 next2) =
            let at : step G heap (marks.Prologue g) ≡ step G heap (marks.Prologue h) = sym next ∙ ap (λ n. suc n) step-same ∙ next2 in
            let group : g ≡ h = same_group g h (same_mark (first (group_at G g)).queue (first (group_at G h)).queue (Some (marks.Prologue g)) (Some (marks.Prologue h)) (prologue_item G heap g) (prologue_item G heap h) (sym (S.each_prologue g (low, ap is_there kind)) ∙ ap (slice_get (script G heap)) at ∙ S.each_prologue h (low2, ap is_there kind2))) in
            is ∙ ap Alias group ∙ sym also
        alike (plain_alias g is low kind next) (plain_copy d command also) =
            absurd (no_global _ _ _ (ap (item_for G heap) (sym is) ∙ item-same ∙ ap (item_for G heap) also))
        alike (plain_copy c command is) (plain_alias h also low2 kind2 next2) =
            absurd (no_global _ _ _ (sym (ap (item_for G heap) (sym is) ∙ item-same ∙ ap (item_for G heap) also)))
        alike (plain_copy c command is) (plain_copy d other also) = ⊎_elim
            (λ lt. absurd (let less = in_order x y w v queues (subst (λ z. Sooner (spot_for G z) (spot_for G y)) (sym is) (subst (λ z. Sooner (spot_for G (Shows c command)) (spot_for G z)) (sym also) (by_command lt))) in omega (arith, less, same)))
            (λ ge. ⊎_elim
            (λ lt. absurd (let less = in_order y x v w (sym queues) (subst (λ z. Sooner (spot_for G z) (spot_for G x)) (sym also) (subst (λ z. Sooner (spot_for G (Shows d other)) (spot_for G z)) (sym is) (by_command lt))) in omega (arith, less, same)))
            (λ le. equal (omega (arith, ge, le)))
            (cases_lt d c))
            (cases_lt c d)
          where
            equal : c ≡ d → x ≡ y
            equal number =
                let one : IsWanted G heap (Shows c command) = subst (IsWanted G heap) is w in
                let two : IsWanted G heap (Shows d other) = subst (IsWanted G heap) also v in
                let command-same : command ≡ other = same_command command other (sym one.0 ∙ ap (slice_get G.commands) number ∙ two.0) in
                is ∙ ap₂ Shows number command-same ∙ sym also

        go : (o : Option Mark) → mark_for G heap L x ≡ o → x ≡ y
        go (Some mark) e = by_its_mark x w mark e ∙ sym (by_its_mark y v mark (sym mark-same ∙ e))
        go None e = alike (plain x w e) (plain y v (sym mark-same ∙ e))

    pub are_items : AreItems G heap program node_for
    are_items = record { each = each; only = only; once = once; order = in_order }
