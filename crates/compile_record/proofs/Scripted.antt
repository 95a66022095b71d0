-- What is recorded of a frame is a script: each need is for an earlier item of another queue.
use Rattle.std.proofs.Common.{◌≡◌, ◌≢◌, ⊎_elim, ℕ, suc, ◌+◌, ◌-◌, ◌<◌, ◌≤◌, true, false, List, [], ◌∷◌, ◌++◌, length, get_or, Option, Some, None, refl, sym, ap, ◌∙◌, subst, eq-eqb, eqb-true, append_assoc, arith}
use Rattle.std.specs.List.{All, Contains}
use Rattle.std.specs.Option.{option_map, option_map_or}
use Rattle.std.specs.Prelude.{slice_get}
use Rattle.std.proofs.lemmas.Bool.{cases_lt, false≢true}
use Rattle.std.proofs.lemmas.List.{length-append, get_or_append_left}
use Rattle.std.proofs.lemmas.List.Elements.{Contains-append_left, Contains-append_right}
use Rattle.std.proofs.lemmas.List.Sums.{fails_before_first, passes_at_first}
use Rattle.std.proofs.lemmas.Option.{slice_get-get_or, slice_get-map, slice_get_within, get_or_from_slice_get}
use Rattle.base.proofs.Lists.{entry_of}
use Rattle.compile_groups.specs.Laws.{IsGrouped, IsKnown}
use Rattle.compile_groups.specs.Needs.{group_at}
use Rattle.compile_groups.specs.declared.command.Command as commands
use Rattle.compile_groups.specs.declared.grouping.Grouping.{Grouping}
use Rattle.compile_record.proofs.Entries.{entry_append}
use Rattle.compile_record.proofs.Due.{home, Fits, block_fits}
use Rattle.compile_record.specs.Standing.{beside, IsRecorded}
use Rattle.compile_record.proofs.Membership.{first_member, last_member, command_below}
use Rattle.compile_record.proofs.Standing.{Stands, stands}
use Rattle.compile_record.specs.Marks.{same, has_mark, step_of, unmarked, steps_of}
use Rattle.compile_record.specs.Script.{block, blocks, script}
use Rattle.compile_record.specs.declared.mark.Mark.{Mark}
use Rattle.compile_record.specs.declared.mark.Mark.TheVariants.{Command, Prologue, Release}
use Rattle.compile_record.specs.declared.mark.Marked.{Marked}
use Rattle.compile_record.specs.declared.mark.Marked.TheVariants.{Does, Needs}
use Rattle.program.specs.declared.program.Item.{Item}
use Rattle.compile_timeline.specs.Steps.{queue_of, queue_at, is_item, has_item, IsScript}
use Rattle.compile_timeline.specs.declared.step.Step.{Step}
use Rattle.compile_timeline.specs.declared.step.Step.TheVariants as steps
use Rattle.compile_barriers.specs.Prologues.{first, last}
use Rattle.compile_barriers.specs.Under.{Heap}

-- WHERE IN THE LIST

-- an item with the mark on this queue, below place w
pub record IsDone (list : List Marked) (w q : ℕ) (mark : Mark) : Type 0 where
  pub place : ℕ
  pub item : Item
  pub below : place < w
  pub is : slice_get list place ≡ Some (Does q (Some mark) item)

done_append : (xs ys : List Marked) (w q : ℕ) (mark : Mark) (item : Item) → Contains xs (Does q (Some mark) item) → length xs ≤ w → IsDone (xs ++ ys) w q mark
done_append xs ys w q mark item h le =
    let low = h.1 in
    let x : Marked = Does q (Some mark) item in
    record {
      place = h.0;
      item = item;
      below = omega (arith, low, le);
      is = slice_get-get_or (xs ++ ys) h.0 x (omega (arith, low, length-append xs ys)) ∙ ap (λ z. Some z) (get_or_append_left xs ys x h.0 h.1 ∙ h.2);
    }

-- BLOCK AFTER BLOCK

-- of an entry of what is recorded: it fits its command, and all that stands beside earlier commands stands before it
pub record IsEntry (G : Grouping) (heap : Heap) (list : List Marked) (w : ℕ) (x : Marked) : Type 0 where
  pub number : ℕ
  pub command : commands.Command
  pub there : slice_get G.commands number ≡ Some command
  pub fits : Fits G heap number x
  pub after : (t : ℕ) (other : commands.Command) → t < number → slice_get G.commands t ≡ Some other → (q : ℕ) (mark : Mark) → Stands (block G heap t other) q mark → IsDone list w q mark

-- what stands beside commands below number c is in the list
abbrev Begun : Grouping → Heap → ℕ → List Marked → Type 0
Begun G heap c list = (t : ℕ) (other : commands.Command) → t < c → slice_get G.commands t ≡ Some other → (q : ℕ) (mark : Mark) → Stands (block G heap t other) q mark → Stands list q mark

module _ (G : Grouping) (heap : Heap) (L : IsGrouped G) (known : All (λ command. command.queue < length G.families) G.commands) where
  begun_more : (c : ℕ) (command : commands.Command) (before : List Marked) → slice_get G.commands c ≡ Some command → Begun G heap c before → Begun G heap (suc c) (before ++ block G heap c command)
  begun_more c command before at begun t other lt e q mark S = ⊎_elim earlier here (cases_lt t c)
    where
      earlier : t < c → Stands (before ++ block G heap c command) q mark
      earlier less = let B = begun t other less e q mark S in record { item = B.item; there = Contains-append_left before (block G heap c command) (Does q (Some mark) B.item) B.there }

      here : c ≤ t → Stands (before ++ block G heap c command) q mark
      here ge =
          let number : t ≡ c = omega (arith, lt, ge) in
          let both : Some other ≡ Some command = sym e ∙ ap (slice_get G.commands) number ∙ at in
          let same-command : other ≡ command = cc in
          record {
            item = S.item;
            there = Contains-append_right before (block G heap c command) (Does q (Some mark) S.item)
                (subst (λ n. Contains (block G heap n command) (Does q (Some mark) S.item)) number
                (subst (λ x. Contains (block G heap t x) (Does q (Some mark) S.item)) same-command S.there));
          }

  entries : (c : ℕ) (rest : List commands.Command) (before : List Marked) → ((k : ℕ) (command : commands.Command) → slice_get rest k ≡ Some command → slice_get G.commands (c + k) ≡ Some command) → Begun G heap c before → (w : ℕ) (x : Marked) → length before ≤ w → slice_get (before ++ blocks G heap c rest) w ≡ Some x → IsEntry G heap (before ++ blocks G heap c rest) w x
  entries c [] before there begun w x le e =
      let lt = slice_get_within (before ++ []) w x e in
      absurd (omega (arith, lt, length-append before [], le))
  entries c (command ∷ rest) before there begun w x le e = ⊎_elim past (here (entries (suc c) rest (before ++ block G heap c command))) (entry_append before (block G heap c command ++ blocks G heap (suc c) rest) w x e)
    where
      at : slice_get G.commands c ≡ Some command
      at = let zero_more : c ≡ c + 0 = omega arith in ap (slice_get G.commands) zero_more ∙ there 0 command refl

      past : (w < length before) × (slice_get before w ≡ Some x) → IsEntry G heap (before ++ blocks G heap c (command ∷ rest)) w x
      past h = let l = h.0 in absurd (omega (arith, l, le))

      later : (k : ℕ) (next : commands.Command) → slice_get rest k ≡ Some next → slice_get G.commands (suc c + k) ≡ Some next
      later k next is = let number : suc c + k ≡ c + suc k = omega arith in ap (slice_get G.commands) number ∙ there (suc k) next is

      here : (((k : ℕ) (next : commands.Command) → slice_get rest k ≡ Some next → slice_get G.commands (suc c + k) ≡ Some next) → Begun G heap (suc c) (before ++ block G heap c command) → (v : ℕ) (y : Marked) → length (before ++ block G heap c command) ≤ v → slice_get ((before ++ block G heap c command) ++ blocks G heap (suc c) rest) v ≡ Some y → IsEntry G heap ((before ++ block G heap c command) ++ blocks G heap (suc c) rest) v y) → (length before ≤ w) × (slice_get (block G heap c command ++ blocks G heap (suc c) rest) (w - length before) ≡ Some x) → IsEntry G heap (before ++ blocks G heap c (command ∷ rest)) w x
      here others h = ⊎_elim in_own in_more (entry_append (block G heap c command) (blocks G heap (suc c) rest) (w - length before) x h.1)
        where
          in_own : (w - length before < length (block G heap c command)) × (slice_get (block G heap c command) (w - length before) ≡ Some x) → IsEntry G heap (before ++ blocks G heap c (command ∷ rest)) w x
          in_own k = record {
            number = c;
            command = command;
            there = at;
            fits = entry_of (Fits G heap c) (block G heap c command) (w - length before) x (block_fits G heap L known c command at) k.1;
            after = λ t other lt is q mark S. let B = begun t other lt is q mark S in done_append before (block G heap c command ++ blocks G heap (suc c) rest) w q mark B.item B.there h.0;
          }

          in_more : (length (block G heap c command) ≤ w - length before) × (slice_get (blocks G heap (suc c) rest) (w - length before - length (block G heap c command)) ≡ Some x) → IsEntry G heap (before ++ blocks G heap c (command ∷ rest)) w x
          in_more k =
              let low = h.0 in
              let high = k.0 in
              let joined : (before ++ block G heap c command) ++ blocks G heap (suc c) rest ≡ before ++ (block G heap c command ++ blocks G heap (suc c) rest) = append_assoc before (block G heap c command) (blocks G heap (suc c) rest) in
              subst (λ list. IsEntry G heap list w x) joined
              (others later (begun_more c command before at begun) w x (omega (arith, low, high, length-append before (block G heap c command))) (ap (λ list. slice_get list w) joined ∙ e))

  pub entry : (w : ℕ) (x : Marked) → slice_get (script G heap) w ≡ Some x → IsEntry G heap (script G heap) w x
  entry w x e = entries 0 G.commands [] (λ k command is. let number : 0 + k ≡ k = omega arith in ap (slice_get G.commands) number ∙ is) (λ t other lt is q mark S. absurd (omega (arith, lt))) w x (omega arith) e

  pub beside_below : (mark : Mark) → IsRecorded G heap mark → beside G mark < length G.commands
  beside_below (Command c) r = r
  beside_below (Prologue g) r = command_below G L g (first (group_at G g)) (first_member G L g r.0)
  beside_below (Release g) r = command_below G L g (last (group_at G g)) (last_member G L g r.0)

  -- a need is for an earlier item on another queue
  pub done : (w q : ℕ) (mark : Mark) → slice_get (script G heap) w ≡ Some (Needs q mark) → IsDone (script G heap) w (home G mark) mark × (home G mark ≢ q)
  done w q mark e =
      let E = entry w (Needs q mark) e in
      let D = E.fits.1 in
      let other : commands.Command = get_or G.commands (beside G mark) E.command in
      let at : slice_get G.commands (beside G mark) ≡ Some other = slice_get-get_or G.commands (beside G mark) E.command (beside_below mark D.recorded) in
      (E.after (beside G mark) other D.before at (home G mark) mark (stands G heap L mark other D.recorded at), D.other)

  pub known_need : (w q : ℕ) (mark : Mark) → slice_get (script G heap) w ≡ Some (Needs q mark) → q < length G.families
  known_need w q mark e = (entry w (Needs q mark) e).fits.0

  pub known_queue : (w q : ℕ) (of : Option Mark) (item : Item) → slice_get (script G heap) w ≡ Some (Does q of item) → q < length G.families
  known_queue w q of item e = (entry w (Does q of item) e).fits.0

  pub at_home : (w q : ℕ) (mark : Mark) (item : Item) → slice_get (script G heap) w ≡ Some (Does q (Some mark) item) → q ≡ home G mark
  at_home w q mark item e = (entry w (Does q (Some mark) item) e).fits.1

-- FROM MARKS TO STEPS

same_is : (a b : Mark) → same a b ≡ true → a ≡ b
same_is (Command c) (Command d) h = ap (λ z. Command z) (eqb-true c d h)
same_is (Prologue g) (Prologue h) e = ap (λ z. Prologue z) (eqb-true g h e)
same_is (Release g) (Release h) e = ap (λ z. Release z) (eqb-true g h e)
same_is (Command c) (Prologue h) e = absurd (false≢true e)
same_is (Command c) (Release h) e = absurd (false≢true e)
same_is (Prologue g) (Command d) e = absurd (false≢true e)
same_is (Prologue g) (Release h) e = absurd (false≢true e)
same_is (Release g) (Command d) e = absurd (false≢true e)
same_is (Release g) (Prologue h) e = absurd (false≢true e)

same_itself : (mark : Mark) → same mark mark ≡ true
same_itself (Command c) = eq-eqb c c refl
same_itself (Prologue g) = eq-eqb g g refl
same_itself (Release g) = eq-eqb g g refl

-- the step with a mark, not after the place
pub record IsStep (list : List Marked) (mark : Mark) (place : ℕ) : Type 0 where
  pub low : step_of list mark ≤ place
  pub queue : ℕ
  pub item : Item
  pub is : slice_get list (step_of list mark) ≡ Some (Does queue (Some mark) item)

pub first_step : (list : List Marked) (mark : Mark) (place q : ℕ) (item : Item) → slice_get list place ≡ Some (Does q (Some mark) item) → IsStep list mark place
first_step list mark place q item is = at (get_or list (step_of list mark) x) refl
  where
    x : Marked
    x = Does q (Some mark) item

    low : step_of list mark ≤ place
    low = ⊎_elim (λ lt. absurd (false≢true (sym (fails_before_first (has_mark mark) list place (Does q (Some mark) item) lt) ∙ ap (has_mark mark) (get_or_from_slice_get list place (Does q (Some mark) item) (Does q (Some mark) item) is) ∙ same_itself mark))) (λ le. le) (cases_lt place (step_of list mark))

    fits : step_of list mark < length list
    fits = let l = low in let within = slice_get_within list place (Does q (Some mark) item) is in omega (arith, l, within)

    passes : has_mark mark (get_or list (step_of list mark) (Does q (Some mark) item)) ≡ true
    passes = passes_at_first (has_mark mark) list (Does q (Some mark) item) fits

    there : slice_get list (step_of list mark) ≡ Some (get_or list (step_of list mark) (Does q (Some mark) item))
    there = slice_get-get_or list (step_of list mark) (Does q (Some mark) item) fits

    at : (y : Marked) → get_or list (step_of list mark) (Does q (Some mark) item) ≡ y → IsStep list mark place
    at (Needs r of) e = absurd (false≢true (ap (has_mark mark) (sym e) ∙ passes))
    at (Does r None i) e = absurd (false≢true (ap (has_mark mark) (sym e) ∙ passes))
    at (Does r (Some of) i) e = record { low = low; queue = r; item = i; is = there ∙ ap (λ z. Some z) e ∙ ap (λ z. Some (Does r (Some z) i)) (sym (same_is mark of (ap (has_mark mark) (sym e) ∙ passes))) }

step_there : (list : List Marked) (i : ℕ) (x : Marked) → slice_get list i ≡ Some x → slice_get (steps_of list) i ≡ Some (unmarked list x)
step_there list i x e = slice_get-map (unmarked list) list i ∙ ap (option_map (unmarked list)) e

record IsNeed (list : List Marked) (w q j : ℕ) : Type 0 where
  pub mark : Mark
  pub is : slice_get list w ≡ Some (Needs q mark)
  pub step : step_of list mark ≡ j

need_of : (list : List Marked) (w q j : ℕ) → slice_get (steps_of list) w ≡ Some (steps.Need q j) → IsNeed list w q j
need_of list w q j e = go (slice_get list w) refl (sym (slice_get-map (unmarked list) list w) ∙ e)
  where
    need_queue : (p k : ℕ) → ◌≡◌ {A = Option Step} (Some (steps.Need p k)) (Some (steps.Need q j)) → p ≡ q
    need_queue p k h = cc

    need_step : (p k : ℕ) → ◌≡◌ {A = Option Step} (Some (steps.Need p k)) (Some (steps.Need q j)) → k ≡ j
    need_step p k h = cc

    go : (o : Option Marked) → slice_get list w ≡ o → option_map (unmarked list) o ≡ Some (steps.Need q j) → IsNeed list w q j
    go None s h = absurd cc
    go (Some (Does p of item)) s h = absurd cc
    go (Some (Needs p of)) s h = record { mark = of; is = s ∙ ap (λ z. Some (Needs z of)) (need_queue p (step_of list of) h); step = need_step p (step_of list of) h }

-- THE SCRIPT

-- what is needed at step i: step j, which is an item of queue p
record IsFor (list : List Marked) (count i q j : ℕ) : Type 0 where
  pub known : q < count
  pub below : j < i
  pub queue : ℕ
  pub item : Item
  pub is : slice_get (steps_of list) j ≡ Some (steps.Item queue item)
  pub other : queue ≢ q

module _ (G : Grouping) (heap : Heap) (L : IsGrouped G) (K : IsKnown G) where
  abbrev list : List Marked
  list = script G heap

  need_for : (i q j : ℕ) → slice_get (steps_of list) i ≡ Some (steps.Need q j) → IsFor list (length G.families) i q j
  need_for i q j e =
      let N = need_of list i q j e in
      let D = done G heap L K.queues i q N.mark N.is in
      let F = first_step list N.mark D.0.place (home G N.mark) D.0.item D.0.is in
      let below = D.0.below in
      let low = F.low in
      let number = N.step in
      record {
        known = known_need G heap L K.queues i q N.mark N.is;
        below = omega (arith, below, low, number);
        queue = F.queue;
        item = F.item;
        is = ap (slice_get (steps_of list)) (sym number) ∙ step_there list (step_of list N.mark) (Does F.queue (Some N.mark) F.item) F.is;
        other = λ e. D.1 (sym (at_home G heap L K.queues (step_of list N.mark) F.queue N.mark F.item F.is) ∙ e);
      }

  items : (i q : ℕ) (o : Option Marked) → slice_get list i ≡ o → has_item (steps_of list) q i ≡ true → q < length G.families
  items i q None e h = absurd (false≢true (ap (λ z. option_map_or (is_item q) z false) (sym (slice_get-map (unmarked list) list i ∙ ap (option_map (unmarked list)) e)) ∙ h))
  items i q (Some (Needs p of)) e h = absurd (false≢true (ap (λ z. option_map_or (is_item q) z false) (sym (step_there list i (Needs p of) e)) ∙ h))
  items i q (Some (Does p of item)) e h = subst (λ z. z < length G.families) (eqb-true p q (ap (λ z. option_map_or (is_item q) z false) (sym (step_there list i (Does p of item) e)) ∙ h)) (known_queue G heap L K.queues i p of item e)

  queue_there : (i q j : ℕ) (F : IsFor list (length G.families) i q j) → queue_at (steps_of list) j ≡ F.queue
  queue_there i q j F = ap (λ o. option_map_or queue_of o 0) F.is

  pub is_script : IsScript (steps_of (script G heap)) (length G.families)
  is_script = record {
    items = λ i q h. items i q (slice_get list i) refl h;
    needs = λ i q j e. (need_for i q j e).known;
    earlier = λ i q j e. (need_for i q j e).below;
    needed = λ i q j e. let F = need_for i q j e in ap (λ o. option_map_or (is_item (queue_at (steps_of list) j)) o false) F.is ∙ eq-eqb F.queue (queue_at (steps_of list) j) (sym (queue_there i q j F));
    other = λ i q j e same. let F = need_for i q j e in F.other (sym (queue_there i q j F) ∙ same);
  }
