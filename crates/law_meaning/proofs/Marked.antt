-- What stands at the steps of a list with marks, and which of it are commands.
use Rattle.std.proofs.Common.{◌≡◌, ℕ, List, Option, Some, None, option_map, refl, sym, ap, ap₂, ◌∙◌}
use Rattle.std.specs.Prelude.{slice_get, option_and_then}
use Rattle.std.proofs.lemmas.Option.{slice_get-map}
use Rattle.base.specs.declared.op.Op.{Op}
use Rattle.check_program.specs.Apart.{op_of}
use Rattle.law_meaning.proofs.Listed.{nothing}
use Rattle.law_meaning.proofs.Quiet.{prologue_quiet}
use Rattle.compile_groups.specs.declared.command.Command as commands
use Rattle.compile_groups.specs.declared.grouping.Grouping.{Grouping}
use Rattle.compile_record.proofs.Entries.{entry_there}
use Rattle.compile_record.specs.Marks.{unmarked, steps_of}
use Rattle.compile_record.specs.Script.{script}
use Rattle.compile_record.specs.Standing.{step, IsRecorded, IsKnown, by_mark, by_alias, by_copy, IsStanding, StandsAt}
use Rattle.compile_record.specs.declared.mark.Mark.{Mark}
use Rattle.compile_record.specs.declared.mark.Mark.TheVariants.{Command, Prologue as OfPrologue, Release}
use Rattle.compile_record.specs.declared.mark.Marked.{Marked}
use Rattle.compile_record.specs.declared.mark.Marked.TheVariants.{Does, Needs}
use Rattle.program.specs.declared.program.Item as programs
use Rattle.compile_timeline.specs.declared.step.Step.TheVariants as steps
use Rattle.compile_barriers.specs.Under.{Heap}

-- STEPS

-- what the list does at a step, if that is an item of queue q
record IsDone (script : List Marked) (i q : ℕ) (item : programs.Item) : Type 0 where
  mark : Option Mark
  there : slice_get script i ≡ Some (Does q mark item)

pub step_of_done : (script : List Marked) (i q : ℕ) (mark : Option Mark) (item : programs.Item) → slice_get script i ≡ Some (Does q mark item) → slice_get (steps_of script) i ≡ Some (steps.Item q item)
step_of_done script i q mark item e = slice_get-map (unmarked script) script i ∙ ap (option_map (unmarked script)) e

done_at : (script : List Marked) (i q : ℕ) (item : programs.Item) → slice_get (steps_of script) i ≡ Some (steps.Item q item) → IsDone script i q item
done_at script i q item e = go (slice_get script i) refl (sym (slice_get-map (unmarked script) script i) ∙ e)
  where
    queue_same : (r : ℕ) (other : programs.Item) → Some (steps.Item r other) ≡ Some (steps.Item q item) → r ≡ q
    queue_same r other h = cc

    item_same : (r : ℕ) (other : programs.Item) → Some (steps.Item r other) ≡ Some (steps.Item q item) → other ≡ item
    item_same r other h = cc

    go : (o : Option Marked) → slice_get script i ≡ o → option_map (unmarked script) o ≡ Some (steps.Item q item) → IsDone script i q item
    go None at h = absurd cc
    go (Some (Needs r mark)) at h = absurd cc
    go (Some (Does r mark other)) at h = record { mark = mark; there = at ∙ ap₂ (λ p z. Some (Does p mark z)) (queue_same r other h) (item_same r other h) }

-- COMMANDS

same_queue : {q r : ℕ} {of other : Option Mark} {item it : programs.Item} → Some (Does q of item) ≡ Some (Does r other it) → q ≡ r
same_queue e = cc

-- the operation that is done
abbrev done : Marked → Option (Op ℕ)
done (Does q of item) = op_of item
done (Needs q of) = None

-- step i is that of a command, and on its queue
pub record IsCommand (G : Grouping) (heap : Heap) (i q : ℕ) : Type 0 where
  pub number : ℕ
  pub command : commands.Command
  pub there : slice_get G.commands number ≡ Some command
  pub step_is : i ≡ step G heap (Command number)
  pub queue_is : q ≡ command.queue

module _ (G : Grouping) (heap : Heap) (S : IsStanding G heap) where
  -- an item that does not do an operation
  quiet : (item : programs.Item) (op : Op ℕ) → op_of item ≡ None → op_of item ≡ Some op → ⊥
  quiet item op none some = nothing op (sym some ∙ none)

  marked : (i q : ℕ) (of : Option Mark) (item : programs.Item) (op : Op ℕ) → StandsAt G heap i (Does q of item) → op_of item ≡ Some op → (mark : Mark) → IsRecorded G heap mark → i ≡ step G heap mark → IsCommand G heap i q
  marked i q of item op at does (Command c) known is =
      let C = entry_there G.commands c known in
      record {
        number = c;
        command = C.0;
        there = C.1;
        step_is = is;
        queue_is = same_queue (sym at ∙ ap (slice_get (script G heap)) is ∙ S.each_command c C.0 C.1);
      }
  marked i q of item op at does (OfPrologue g) known is = absurd (quiet item op (ap (option_and_then done) (sym at ∙ ap (slice_get (script G heap)) is ∙ S.each_prologue g known) ∙ prologue_quiet G heap g) does)
  marked i q of item op at does (Release g) known is = absurd (quiet item op (ap (option_and_then done) (sym at ∙ ap (slice_get (script G heap)) is ∙ S.each_release g known)) does)

  pub command_at : (i q : ℕ) (item : programs.Item) (op : Op ℕ) → slice_get (steps_of (script G heap)) i ≡ Some (steps.Item q item) → op_of item ≡ Some op → IsCommand G heap i q
  command_at i q item op e does = go (S.only i q D.mark item D.there)
    where
      D : IsDone (script G heap) i q item
      D = done_at (script G heap) i q item e

      go : IsKnown G heap i q D.mark item → IsCommand G heap i q
      go (by_mark mark same known is) = marked i q D.mark item op D.there does mark known is
      go (by_alias g none low kind before queue is) = absurd (quiet item op (ap op_of is) does)
      go (by_copy c k command none there export at queue is) = absurd (quiet item op (ap op_of is) does)
