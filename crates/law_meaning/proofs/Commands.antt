-- Of a program that is cut from what is recorded, the commands stand in an order by steps as they are declared.
use Rattle.std.proofs.Common.{◌≡◌, inl, ℕ, ◌<◌, List, length, Some, None, true, false, refl, sym, ap, ◌∙◌, eq-eqb}
use Rattle.std.specs.Option.{option_map_or}
use Rattle.std.specs.Prelude.{slice_get, option_and_then}
use Rattle.std.proofs.lemmas.Option.{slice_get_within}
use Rattle.base.specs.Operands.{mapped}
use Rattle.base.specs.declared.op.Op.{Op}
use Rattle.check_program.specs.Apart.{op_in, op_at}
use Rattle.law_schedule.specs.Levels.{IsByStep}
use Rattle.law_schedule.specs.Standing.{StandsFor, read_number, AllStand, IsOneOf, as_wait, as_item, as_signal, as_read, AreThese}
use Rattle.law_meaning.proofs.Listed.{nothing}
use Rattle.law_meaning.proofs.Marked.{step_of_done, IsCommand, command_at}
use Rattle.law_meaning.proofs.DeclaredNumbers.{IsNumber, in_their_order}
use Rattle.law_meaning.specs.Declared.{ops_in, declared_ops}
use Rattle.compile_groups.specs.declared.command.Command as commands
use Rattle.compile_groups.specs.declared.grouping.Grouping.{Grouping}
use Rattle.check_order.specs.Nodes.{program_nodes}
use Rattle.compile_record.specs.Marks.{steps_of}
use Rattle.compile_record.specs.Pieces.{piece_of}
use Rattle.compile_record.specs.Script.{script}
use Rattle.compile_record.specs.Standing.{step, IsStanding}
use Rattle.compile_record.specs.declared.mark.Mark.TheVariants.{Command}
use Rattle.program.specs.Entries.{Entry, OfWait, OfItem, OfSignal, OfHost}
use Rattle.program.specs.declared.program.Item.TheVariants as items
use Rattle.program.specs.declared.program.Program.{Program}
use Rattle.compile_timeline.specs.Parts.{wait_for, signal_after}
use Rattle.compile_timeline.specs.Places.{wait_number, item_number, signal_number}
use Rattle.compile_timeline.specs.Steps.{is_item, has_item, IsScript}
use Rattle.compile_timeline.specs.declared.step.Step.{Step}
use Rattle.compile_timeline.specs.declared.step.Step.TheVariants as steps
use Rattle.compile_barriers.specs.Under.{Heap}

-- the operation of a node is that of its entry
op_stands : (P : Program) (n m : ℕ) (entry : Entry) → n ≡ m → StandsFor P m entry → op_at P n ≡ op_in entry
op_stands P n m entry is S = ap (op_at P) is ∙ ap (option_and_then op_in) S.is

other_entry : (P : Program) (n m : ℕ) (entry : Entry) (op : Op ℕ) → n ≡ m → StandsFor P m entry → op_in entry ≡ None → op_at P n ≡ Some op → ⊥
other_entry P n m entry op is S none some = nothing op (sym some ∙ op_stands P n m entry is S ∙ none)

module _ (P : Program) (G : Grouping) (heap : Heap) (count : ℕ) (S : IsStanding G heap) (T : AllStand P (steps_of (script G heap)) count) (A : AreThese P (steps_of (script G heap)) count) (K : IsScript (steps_of (script G heap)) count) where
  abbrev recorded : List Step
  recorded = steps_of (script G heap)

  abbrev op_done : commands.Command → Op ℕ
  op_done command = mapped (piece_of G) command.op

  -- the number of the node of command c
  abbrev number : ℕ → commands.Command → ℕ
  number c command = item_number (steps_of (script G heap)) count command.queue (step G heap (Command c))

  -- EACH COMMAND

  step_there : (c : ℕ) (command : commands.Command) → slice_get G.commands c ≡ Some command → slice_get recorded (step G heap (Command c)) ≡ Some (steps.Item command.queue (items.Command (op_done command)))
  step_there c command e = step_of_done (script G heap) (step G heap (Command c)) command.queue (Some (Command c)) (items.Command (op_done command)) (S.each_command c command e)

  is_there : (c : ℕ) (command : commands.Command) → slice_get G.commands c ≡ Some command → has_item recorded command.queue (step G heap (Command c)) ≡ true
  is_there c command e = ap (λ o. option_map_or (is_item command.queue) o false) (step_there c command e) ∙ eq-eqb command.queue command.queue refl

  stands : (c : ℕ) (command : commands.Command) → slice_get G.commands c ≡ Some command → StandsFor P (number c command) (OfItem command.queue (items.Command (op_done command)))
  stands c command e = T.item command.queue (step G heap (Command c)) (items.Command (op_done command)) (K.items (step G heap (Command c)) command.queue (is_there c command e)) (step_there c command e)

  -- AND NOTHING ELSE

  of_command : (n : ℕ) (op : Op ℕ) → n < length (program_nodes P) → op_at P n ≡ Some op → IsNumber number G.commands n
  of_command n op lt does = go (A n lt)
    where
      of_item : (q i : ℕ) → n ≡ item_number recorded count q i → IsCommand G heap i q → IsNumber number G.commands n
      of_item q i is C = record {
        place = C.number;
        element = C.command;
        there = C.there;
        is = is ∙ ap (λ r. item_number recorded count r i) C.queue_is ∙ ap (item_number recorded count C.command.queue) C.step_is;
      }

      go : IsOneOf P recorded count n → IsNumber number G.commands n
      go (as_wait q i p lq lp h w is) = absurd (other_entry P n (wait_number recorded count q i p) (OfWait q (wait_for recorded count q i p)) op is (T.wait q i p lq lp h w) refl does)
      go (as_item q i item lq e is) = of_item q i is (command_at G heap S i q item op e (sym (op_stands P n (item_number recorded count q i) (OfItem q item) is (T.item q i item lq e)) ∙ does))
      go (as_signal q i lq s is) = absurd (other_entry P n (signal_number recorded count q i) (OfSignal q (signal_after recorded count i)) op is (T.signal q i lq s) refl does)
      go (as_read k piece e is) = absurd (other_entry P n (read_number recorded count k) (OfHost piece) op is (T.read k piece e) refl does)

  -- IN AN ORDER BY STEPS

  pub commands_declared : (order : List ℕ) → IsByStep P recorded count order → ops_in P order ≡ declared_ops G
  commands_declared order by = in_their_order (op_at P) op_done number order G.commands (record {
    once = by.order.once;
    there = λ c command e. by.order.all (number c command) (stands c command e).within;
    gives = λ c command e. op_stands P (number c command) (number c command) (OfItem command.queue (items.Command (op_done command))) refl (stands c command e);
    rise = λ c d x z e g lt. by.items x.queue z.queue (step G heap (Command c)) (step G heap (Command d)) (is_there c x e) (is_there d z g) (S.in_order (Command c) (Command d) (slice_get_within G.commands c x e) (slice_get_within G.commands d z g) (inl lt));
    only = λ n op a does. of_command n op (by.order.only n a) does;
  })
