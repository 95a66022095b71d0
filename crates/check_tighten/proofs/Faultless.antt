-- A program with another wait at a place breaks the same rules, if the two waits do.
use Rattle.std.proofs.Common.{◌≡◌, ◌∙◌, ◌+◌, ℕ, zero, suc, Bool, not, nat_lt, nat_le, List, [], ◌∷◌, length, take, slice_get, slice_set, Option, Some, None, Result, max, cond, refl, subst, sym, ap, arith, if◌then◌else◌}
use Rattle.std.proofs.Math.Path.{fun_ext}
use Rattle.std.specs.List.{position, position_or_len}
use Rattle.std.specs.Option.{option_or, option_map}
use Rattle.base.proofs.Absence.{some_same}
use Rattle.base.specs.Bounds.{is_between}
use Rattle.base.specs.Broken.{of_rule}
use Rattle.base.specs.Maxima.{max_queues, max_memories, max_pieces, max_nodes, max_rects, max_readbacks}
use Rattle.base.specs.Rooms.{go_on, spend_in, not_lasting}
use Rattle.base.specs.Walks.{first_in}
use Rattle.base.specs.declared.broken.Broken.{Broken}
use Rattle.base.specs.declared.limit.Limit.TheVariants as limits
use Rattle.base.specs.declared.shape.Shape.{Shape}
use Rattle.program.specs.Entries.{entries_of}
use Rattle.program.specs.FirstFault.{rule_broken, rules_broken, first_fault}
use Rattle.program.specs.Limits.{over, spend_batch, spend_queue, rects_over, size_broken, limit_broken}
use Rattle.program.specs.Paths.{fault_of}
use Rattle.program.specs.Rules.{piece_obeys, wait_obeys, item_obeys, readback_obeys, signal_place, batch_place, next_place, queue_place, shapes_of}
use Rattle.program.specs.Timelines.{value_of, highest}
use Rattle.program.specs.declared.location.Location.{Location}
use Rattle.program.specs.declared.location.Location.TheVariants as places
use Rattle.program.specs.declared.program.Batch.{Batch}
use Rattle.program.specs.declared.program.Program.{Program}
use Rattle.program.specs.declared.program.Queue.{Queue}
use Rattle.program.specs.declared.program.WaitFor.{WaitFor}
use Rattle.program.specs.declared.rule.Rule.{Rule}
use Rattle.program.specs.declared.rule.Rule.TheVariants as rules
use Rattle.check_tighten.specs.Edits.{changed_at, batch_with, queue_with, program_with}
use Rattle.check_tighten.specs.Tight.{WaitAt}
use Rattle.check_tighten.proofs.Replaced.{OneOther, entries_same, as_many, changed_many}

-- LISTS

-- with an entry for which the test says the same
set_many : {X : Type 0} (xs : List X) (k : ℕ) (y : X) → length (slice_set xs k y) ≡ length xs
set_many [] k y = refl
set_many (x ∷ xs) zero y = refl
set_many (x ∷ xs) (suc k) y = ap suc (set_many xs k y)

place_same : {X : Type 0} (test : X → Bool) (xs : List X) (k : ℕ) (x y : X) → slice_get xs k ≡ Some x → test y ≡ test x → position_or_len test (slice_set xs k y) ≡ position_or_len test xs
place_same test [] k x y at e = refl
place_same test (z ∷ xs) zero x y at e = ap (λ b. cond (not b) (1 + position_or_len test xs) 0) (e ∙ ap test (sym (some_same at)))
place_same test (z ∷ xs) (suc k) x y at e = ap (λ n. cond (not (test z)) (1 + n) 0) (place_same test xs k x y at e)

position_same : {X : Type 0} (test : X → Bool) (xs : List X) (k : ℕ) (x y : X) → slice_get xs k ≡ Some x → test y ≡ test x → position test (slice_set xs k y) ≡ position test xs
position_same test xs k x y at e =
    ap (λ n. cond (nat_lt n (length (slice_set xs k y))) (Some n) None) (place_same test xs k x y at e)
    ∙ ap (λ m. cond (nat_lt (position_or_len test xs) m) (Some (position_or_len test xs)) None) (set_many xs k y)

-- with a changed entry of which the rule says the same
first_same : {X Y : Type 0} (rule : ℕ → X → Option Y) (change : X → X) (i j : ℕ) (xs : List X) (x : X) → slice_get xs j ≡ Some x → rule (i + j) (change x) ≡ rule (i + j) x → first_in rule i (changed_at change j xs) ≡ first_in rule i xs
first_same rule change i j [] x at e = refl
first_same rule change i zero (z ∷ xs) x at e =
    let here : i + 0 ≡ i = omega arith in
    let same : rule i (change x) ≡ rule i x = subst (λ n. rule n (change x) ≡ rule n x) here e in
    ap (λ o. option_or o (first_in rule (suc i) xs)) (subst (λ w. rule i (change w) ≡ rule i w) (sym (some_same at)) same)
first_same rule change i (suc j) (z ∷ xs) x at e =
    let next : i + suc j ≡ suc i + j = omega arith in
    ap (λ o. option_or (rule i z) o) (first_same rule change (suc i) j xs x at (subst (λ n. rule n (change x) ≡ rule n x) next e))

all_same : {X Y : Type 0} (rule : ℕ → X → Option Y) (change : X → X) (j : ℕ) (xs : List X) (x : X) → slice_get xs j ≡ Some x → rule j (change x) ≡ rule j x → first_in rule 0 (changed_at change j xs) ≡ first_in rule 0 xs
all_same rule change j xs x at e =
    let here : j ≡ 0 + j = omega arith in
    first_same rule change 0 j xs x at (subst (λ n. rule n (change x) ≡ rule n x) here e)

-- and the same is spent
spent_same : {Room X Y : Type 0} (spend : Room → ℕ → X → Result Room Y) (change : X → X) → ((room : Room) (i : ℕ) (x : X) → spend room i (change x) ≡ spend room i x) → (room : Room) (i j : ℕ) (xs : List X) → spend_in spend room i (changed_at change j xs) ≡ spend_in spend room i xs
spent_same spend change e room i j [] = refl
spent_same spend change e room i zero (x ∷ xs) = ap (λ r. go_on (λ left. spend_in spend left (suc i) xs) r) (e room i x)
spent_same spend change e room i (suc j) (x ∷ xs) = ap (λ f. go_on f (spend room i x)) (fun_ext (λ left. spent_same spend change e left (suc i) j xs))

-- BATCHES AND QUEUES

highest_same : (waits : List WaitFor) (b n : ℕ) (batches : List Batch) → highest (take n (changed_at (batch_with waits) b batches)) ≡ highest (take n batches)
highest_same waits b zero [] = refl
highest_same waits b (suc n) [] = refl
highest_same waits zero zero (x ∷ batches) = refl
highest_same waits (suc b) zero (x ∷ batches) = refl
highest_same waits zero (suc n) (x ∷ batches) = refl
highest_same waits (suc b) (suc n) (x ∷ batches) = ap (λ h. max (value_of x.signal) h) (highest_same waits b n batches)

module _ (rule : Rule) (program : Program) (q b k : ℕ) (queue : Queue) (batch : Batch) (wait other : WaitFor) (at : WaitAt program q b k queue batch wait) (alike : wait_obeys rule (length program.queues) queue.family other ≡ wait_obeys rule (length program.queues) queue.family wait) where
  abbrev count : ℕ
  count = length program.queues

  abbrev shapes : List Shape
  shapes = shapes_of program

  abbrev waits : List WaitFor
  waits = slice_set batch.waits k other

  batch_alike : (reached : ℕ) → batch_place rule count shapes queue.family reached q b (batch_with waits batch) ≡ batch_place rule count shapes queue.family reached q b batch
  batch_alike reached =
      ap (λ p. option_or (option_map (λ i. places.Wait q b i) p)
      (option_or (option_map (λ i. places.Item q b i) (position (λ item. not (item_obeys rule shapes queue.family item)) batch.items))
      (signal_place rule queue.family reached q b batch.signal)))
      (position_same (λ w. not (wait_obeys rule count queue.family w)) batch.waits k wait other at.wait_is (ap not alike))

  next_alike : (i : ℕ) (x : Batch) → next_place rule count shapes queue.family q (changed_at (batch_with waits) b queue.batches) i x ≡ next_place rule count shapes queue.family q queue.batches i x
  next_alike i x = ap (λ reached. batch_place rule count shapes queue.family reached q i x) (highest_same waits b i queue.batches)

  queue_alike : queue_place rule count shapes q (queue_with b waits queue) ≡ queue_place rule count shapes q queue
  queue_alike =
      ap (λ f. first_in f 0 (changed_at (batch_with waits) b queue.batches)) (fun_ext (λ i. fun_ext (next_alike i)))
      ∙ all_same (next_place rule count shapes queue.family q queue.batches) (batch_with waits) b queue.batches batch at.batch_at.batch_is (batch_alike (highest (take b queue.batches)))

  pub broken_same : rule_broken rule (program_with q b waits program) shapes ≡ rule_broken rule program shapes
  broken_same =
      ap (λ o. option_map (of_rule rule) (option_or (option_map (λ i. places.Piece i) (position (λ piece. not (piece_obeys rule program.memories piece)) program.pieces)) (option_or o (option_map (λ i. places.Readback i) (position (λ piece. not (readback_obeys rule shapes piece)) program.readbacks)))))
      (ap (λ n. first_in (queue_place rule n shapes) 0 (changed_at (queue_with b waits) q program.queues)) (changed_many (queue_with b waits) q program.queues)
      ∙ all_same (queue_place rule count shapes) (queue_with b waits) q program.queues queue at.batch_at.queue_is queue_alike)

-- LIMITS

spent : (waits : List WaitFor) (b : ℕ) (room i : ℕ) (queue : Queue) → spend_queue room i (queue_with b waits queue) ≡ spend_queue room i queue
spent waits b room i queue = spent_same (spend_batch i) (batch_with waits) (λ left j batch. refl) room 0 b queue.batches

module _ (program : Program) (q b k : ℕ) (queue : Queue) (batch : Batch) (wait other : WaitFor) (at : WaitAt program q b k queue batch wait) where
  abbrev edited : Program
  edited = program_with q b (slice_set batch.waits k other) program

  abbrev counted : ℕ → ℕ → Option Location → Option (Broken Rule Location)
  counted queues nodes rects =
      option_or (if is_between 1 max_queues queues then None else Some (over limits.Queues places.Queues))
      (option_or (if nat_le (length program.memories) max_memories then None else Some (over limits.Memories places.Memories))
      (option_or (if nat_le (length program.pieces) max_pieces then None else Some (over limits.Pieces places.Pieces))
      (option_or (if nat_le nodes max_nodes then None else Some (over limits.Nodes places.Whole))
      (option_or (option_map (over limits.Rects) rects)
      (if nat_le (length program.readbacks) max_readbacks then None else Some (over limits.Readbacks places.Readbacks))))))

  limits_same : limit_broken edited ≡ limit_broken program
  limits_same =
      ap (λ c. option_or c (size_broken program))
      (ap (λ n. counted n (length (entries_of edited)) (rects_over edited.queues)) (changed_many (queue_with b (slice_set batch.waits k other)) q program.queues)
      ∙ ap (λ n. counted (length program.queues) n (rects_over edited.queues)) (as_many (OneOther q wait other) (entries_of program) (entries_of edited) (entries_same program q b k queue batch wait other at))
      ∙ ap (λ r. counted (length program.queues) (length (entries_of program)) (not_lasting r)) (spent_same spend_queue (queue_with b (slice_set batch.waits k other)) (spent (slice_set batch.waits k other) b) max_rects 0 q program.queues))

  -- RULES

  abbrev by_rules : (Rule → Option (Broken Rule Location)) → Option (Broken Rule Location)
  by_rules by =
      option_or (option_or (by rules.Range) (option_or (by rules.Known) (option_or (by rules.Stages) (by rules.Ignored))))
      (option_or (by rules.Supported) (option_or (by rules.OnQueue) (option_or (by rules.Runs) (by rules.Timeline))))

  pub fault_same : ((rule : Rule) → wait_obeys rule (length program.queues) queue.family other ≡ wait_obeys rule (length program.queues) queue.family wait) → first_fault edited ≡ first_fault program
  fault_same alike =
      ap (λ l. option_map fault_of (option_or l (rules_broken edited (shapes_of program)))) limits_same
      ∙ ap (λ by. option_map fault_of (option_or (limit_broken program) (by_rules by))) (fun_ext (λ rule. broken_same rule program q b k queue batch wait other at (alike rule)))
