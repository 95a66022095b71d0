-- What is recorded, as items of queues at steps, and what comes later.
use Rattle.std.proofs.Common.{◌≡◌, ⊎_elim, inl, ℕ, ◌<◌, ◌≤◌, true, false, List, length, Option, Some, None, refl, sym, ap, ◌∙◌, subst, eq-eqb, arith}
use Rattle.std.specs.Option.{option_map, option_map_or}
use Rattle.std.specs.Prelude.{slice_get}
use Rattle.std.proofs.lemmas.Bool.{cases_order}
use Rattle.std.proofs.lemmas.Option.{slice_get-map}
use Rattle.base.specs.Operands.{mapped}
use Rattle.law_sound.specs.Nodes.{copied_step, item_at, steps}
use Rattle.law_plan.specs.Crossings.{Sooner, Crossed}
use Rattle.law_schedule.specs.Later.{AreSooner, AreCrossed}
use Rattle.compile_groups.specs.Needs.{group_at, queue_of}
use Rattle.compile_groups.specs.declared.command.Command as commands
use Rattle.compile_groups.specs.declared.grouping.Grouping.{Grouping}
use Rattle.check_order.specs.Nodes.{program_nodes}
use Rattle.compile_record.specs.Marks.{unmarked}
use Rattle.compile_record.specs.Pieces.{piece_of}
use Rattle.compile_record.specs.Script.{script}
use Rattle.compile_record.specs.Standing.{IsNeeded, IsRecorded, IsStanding, StandsAt, host_item, host_step, step, prologue_item}
use Rattle.compile_record.specs.declared.mark.Mark.{Mark}
use Rattle.compile_record.specs.declared.mark.Mark.TheVariants.{Command, Prologue as OfPrologue}
use Rattle.compile_record.specs.declared.mark.Marked.TheVariants.{Does, Needs}
use Rattle.program.specs.declared.program.Item.{Item}
use Rattle.program.specs.declared.program.Item.TheVariants as item
use Rattle.program.specs.declared.program.Program.{Program}
use Rattle.compile_timeline.proofs.Latest.{item_queue}
use Rattle.compile_timeline.specs.Steps.{has_item, is_item, queue_at}
use Rattle.compile_timeline.specs.declared.step.Step.{Step}
use Rattle.compile_timeline.specs.declared.step.Step.TheVariants as cases
use Rattle.compile_barriers.specs.Prologues.{first}
use Rattle.compile_barriers.specs.Under.{Heap}

-- STEPS

-- at step i stands this item of queue q
abbrev pub ItemAt : Grouping → Heap → ℕ → ℕ → Item → Type 0
ItemAt G heap q i it = slice_get (steps G heap) i ≡ Some (cases.Item q it)

pub item_there : (list : List Step) (q i : ℕ) (it : Item) → slice_get list i ≡ Some (cases.Item q it) → has_item list q i ≡ true
item_there list q i it e = ap (λ o. option_map_or (is_item q) o false) e ∙ eq-eqb q q refl

module _ (G : Grouping) (heap : Heap) where
  pub does_at : (i q : ℕ) (of : Option Mark) (it : Item) → StandsAt G heap i (Does q of it) → ItemAt G heap q i it
  does_at i q of it e = slice_get-map (unmarked (script G heap)) (script G heap) i ∙ ap (option_map (unmarked (script G heap))) e

  need_at : (i q : ℕ) (mark : Mark) → StandsAt G heap i (Needs q mark) → slice_get (steps G heap) i ≡ Some (cases.Need q (step G heap mark))
  need_at i q mark e = slice_get-map (unmarked (script G heap)) (script G heap) i ∙ ap (option_map (unmarked (script G heap))) e

  pub queue_there : (c : ℕ) (command : commands.Command) → slice_get G.commands c ≡ Some command → queue_of G c ≡ command.queue
  queue_there c command e = ap (λ o. option_map_or (λ (x : commands.Command). x.queue) o 0) e

  module _ (S : IsStanding G heap) where
    pub command_at : (c : ℕ) (command : commands.Command) → slice_get G.commands c ≡ Some command → ItemAt G heap (queue_of G c) (step G heap (Command c)) (item.Command (mapped (piece_of G) command.op))
    command_at c command e = subst (λ q. ItemAt G heap q (step G heap (Command c)) (item.Command (mapped (piece_of G) command.op))) (sym (queue_there c command e)) (does_at (step G heap (Command c)) command.queue (Some (Command c)) (item.Command (mapped (piece_of G) command.op)) (S.each_command c command e))

    pub prologue_at : (g : ℕ) → IsRecorded G heap (OfPrologue g) → ItemAt G heap (first (group_at G g)).queue (step G heap (OfPrologue g)) (prologue_item G heap g)
    prologue_at g r = does_at (step G heap (OfPrologue g)) (first (group_at G g)).queue (Some (OfPrologue g)) (prologue_item G heap g) (S.each_prologue g r)

    pub copy_at : (c k : ℕ) (command : commands.Command) → slice_get G.commands c ≡ Some command → command.export ≡ Some k → ItemAt G heap (queue_of G c) (copied_step G heap c) (host_item G command)
    copy_at c k command e x =
        subst (λ q. ItemAt G heap q (copied_step G heap c) (host_item G command)) (sym (queue_there c command e))
        (subst (λ i. ItemAt G heap command.queue i (host_item G command)) (sym (ap (λ o. option_map_or (host_step G heap c) o 0) e))
        (does_at (host_step G heap c command) command.queue None (host_item G command) (S.each_copy c k command e x)))

    -- no step of a command is after that of a later one
    pub command_steps : (c d : ℕ) → c ≤ d → d < length G.commands → step G heap (Command c) ≤ step G heap (Command d)
    command_steps c d le lt = ⊎_elim
        (λ (e : c ≡ d). let same : step G heap (Command c) ≡ step G heap (Command d) = ap (λ x. step G heap (Command x)) e in omega (arith, same))
        (⊎_elim
        (λ (l : c < d). let s = S.in_order (Command c) (Command d) (omega (arith, l, lt)) lt (inl l) in omega (arith, s))
        (λ (l : d < c). absurd (omega (arith, l, le))))
        (cases_order c d)

  -- NODES OF STEPS

  module _ (P : Program) (sooner : AreSooner P (steps G heap) (length G.families)) (crossed : AreCrossed P (steps G heap) (length G.families)) where
    pub soon : (q i k : ℕ) (x y : Item) → ItemAt G heap q i x → ItemAt G heap q k y → i < k → Sooner (program_nodes P) (item_at G heap q i) (item_at G heap q k)
    soon q i k x y a b lt = sooner q i k (item_there (steps G heap) q i x a) (item_there (steps G heap) q k y b) lt

    -- over a need
    pub over_need : (q p i k : ℕ) (mark : Mark) (x y : Item) → IsNeeded G heap q mark i → i ≤ k → ItemAt G heap p (step G heap mark) x → ItemAt G heap q k y → Crossed (program_nodes P) (item_at G heap p (step G heap mark)) (item_at G heap q k)
    over_need q p i k mark x y N le a b =
        let low = N.below in
        let queue : queue_at (steps G heap) (step G heap mark) ≡ p = item_queue (steps G heap) p (step G heap mark) (item_there (steps G heap) p (step G heap mark) x a) in
        subst (λ r. Crossed (program_nodes P) (item_at G heap r (step G heap mark)) (item_at G heap q k)) queue
        (crossed N.place q (step G heap mark) k (need_at N.place q mark N.there) (omega (arith, low, le)) (item_there (steps G heap) q k y b))
