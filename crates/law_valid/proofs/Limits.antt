-- The limits: how many nodes, rectangles and bytes a compiled program has.
use Rattle.std.proofs.Common.{◌≡◌, ℕ, zero, suc, ◌+◌, ◌-◌, ◌*◌, ◌<◌, ◌≤◌, ◌++◌, Bool, true, false, List, [], ◌∷◌, length, map, if◌then◌else◌, Option, Some, None, Result, Ok, Err, refl, ap, ◌∙◌, arith}
use Rattle.std.specs.List.{sum_by, range_with_len}
use Rattle.std.proofs.lemmas.Bool.{le-ltb}
use Rattle.std.proofs.lemmas.List.Sums.{sum_by-cons, sum_by-append}
use Rattle.base.proofs.Operands.{rects_mapped}
use Rattle.base.specs.Maxima.{max_rects}
use Rattle.base.specs.Operands.{rect_count}
use Rattle.base.specs.Rooms.{go_on, spend_in, not_lasting}
use Rattle.base.specs.Shapes.{shape_at}
use Rattle.base.specs.declared.op.Op.{Op}
use Rattle.base.specs.declared.shape.Family.{Family}
use Rattle.base.specs.declared.shape.Shape.{Shape}
use Rattle.base.specs.declared.shape.Shape.TheVariants.{Buffer, Image}
use Rattle.frame.specs.Valid.{IsValid, shapes_in}
use Rattle.frame.specs.Numbered.{NumberedFrame}
use Rattle.frame.specs.declared.numbered.NumberedPass.{NumberedPass}
use Rattle.compile_groups.specs.Commands.{on_queue, pass_commands, kept_commands, copy_out, export_command, export_commands}
use Rattle.compile_groups.specs.Groups.{grouping}
use Rattle.compile_groups.specs.Laws.{IsSmall}
use Rattle.compile_groups.specs.declared.command.Command.{Command}
use Rattle.compile_groups.specs.declared.grouping.Grouping.{Grouping}
use Rattle.compile_record.specs.Marks.{steps_of}
use Rattle.compile_record.specs.Pieces.{piece_of}
use Rattle.compile_record.specs.Script.{script}
use Rattle.program.specs.Limits.{rects_of, spend_item, spend_batch, spend_queue, rects_over}
use Rattle.program.specs.declared.location.Location.TheVariants as at
use Rattle.program.specs.declared.program.Batch.{Batch}
use Rattle.program.specs.declared.program.Item as programs
use Rattle.program.specs.declared.program.Queue.{Queue}
use Rattle.program.specs.declared.program.Signal.{Signal}
use Rattle.program.specs.declared.program.WaitFor.{WaitFor}
use Rattle.compile_timeline.specs.Batches.{batch, item_before, before, cut, queues_from, queues}
use Rattle.compile_timeline.specs.Parts.{Part, Waits, Does, Signals, when, wait_for, waits_at, signal_after, parts_at, parts}
use Rattle.compile_timeline.specs.Places.{places}
use Rattle.compile_timeline.specs.Waits.{waits}
use Rattle.compile_timeline.specs.Signals.{has_signal}
use Rattle.compile_timeline.specs.Steps.{queue_at, IsScript}
use Rattle.compile_timeline.specs.declared.step.Step.{Step}
use Rattle.compile_barriers.specs.Under.{Heap}
use Rattle.law_valid.proofs.Counts.{AreLight, own, is_host, script_few, weight_at, steps_weigh, of_one, places_few}
use Rattle.law_valid.proofs.Sums.{sum_below, at_one, spread, sum_all, sum_range}

-- SPENDING

-- where each entry fits what is left, all fit
pub spends : {X Y : Type 0} (spend : ℕ → ℕ → X → Result ℕ Y) (size : X → ℕ) → ((room i : ℕ) (x : X) → size x ≤ room → spend room i x ≡ Ok (room - size x)) → (xs : List X) (room i : ℕ) → sum_by size xs ≤ room → spend_in spend room i xs ≡ Ok (room - sum_by size xs)
spends spend size fits [] room i le = let same : room ≡ room - 0 = omega arith in ap (λ n. Ok n) same
spends {X} {Y} spend size fits (x ∷ xs) room i le =
    let all = sum_by-cons size x xs in
    let left : room - size x - sum_by size xs ≡ room - sum_by size (x ∷ xs) = omega (arith, all) in
    ap (go_on (λ n. spend_in spend n (suc i) xs)) (fits room i x (omega (arith, all, le)))
    ∙ spends spend size fits xs (room - size x) (suc i) (omega (arith, all, le))
    ∙ ap (λ n. Ok n) left

-- RECTANGLES

abbrev batch_rects : Batch → ℕ
batch_rects b = sum_by rects_of b.items

abbrev queue_rects : Queue → ℕ
queue_rects queue = sum_by batch_rects queue.batches

spend_items : (q b room k : ℕ) (it : programs.Item) → rects_of it ≤ room → spend_item q b room k it ≡ Ok (room - rects_of it)
spend_items q b room k it le = ap (λ t. if t then Err (at.Item q b k) else Ok (room - rects_of it)) (le-ltb room (rects_of it) le)

spend_batches : (q room b : ℕ) (x : Batch) → batch_rects x ≤ room → spend_batch q room b x ≡ Ok (room - batch_rects x)
spend_batches q room b x le = spends (spend_item q b) rects_of (spend_items q b) x.items room 0 le

spend_queues : (room q : ℕ) (queue : Queue) → queue_rects queue ≤ room → spend_queue room q queue ≡ Ok (room - queue_rects queue)
spend_queues room q queue le = spends (spend_batch q) batch_rects (spend_batches q) queue.batches room 0 le

pub rects_last : (qs : List Queue) → sum_by queue_rects qs ≤ max_rects → rects_over qs ≡ None
rects_last qs le = ap not_lasting (spends spend_queue queue_rects spend_queues qs max_rects 0 le)

abbrev part_rects : Part → ℕ
part_rects (Waits wait) = 0
part_rects (Does it) = rects_of it
part_rects (Signals signal) = 0

before_item_rects : (it : programs.Item) (ws : List WaitFor) (its : List programs.Item) (signal : Option Signal) (batches : List Batch) → sum_by batch_rects (item_before it ws its signal batches) ≡ rects_of it + sum_by batch_rects (batch ws its signal ∷ batches)
before_item_rects it [] its signal batches = omega (
  arith,
  sum_by-cons batch_rects (batch [] (it ∷ its) signal) batches,
  sum_by-cons batch_rects (batch [] its signal) batches,
  sum_by-cons rects_of it its,
)
before_item_rects it (w ∷ ws) its signal batches = omega (
  arith,
  sum_by-cons batch_rects (batch [] (it ∷ []) None) (batch (w ∷ ws) its signal ∷ batches),
  sum_by-cons rects_of it [],
)

before_rects : (part : Part) (batches : List Batch) → sum_by batch_rects (before part batches) ≡ part_rects part + sum_by batch_rects batches
before_rects (Signals signal) batches = omega (arith, sum_by-cons batch_rects (batch [] [] (Some signal)) batches)
before_rects (Waits wait) [] = omega arith
before_rects (Waits wait) (b ∷ batches) = omega (arith, sum_by-cons batch_rects (batch (wait ∷ b.waits) b.items b.signal) batches, sum_by-cons batch_rects b batches)
before_rects (Does it) [] = omega arith
before_rects (Does it) (b ∷ batches) = before_item_rects it b.waits b.items b.signal batches

cut_rects : (ps : List Part) → sum_by batch_rects (cut ps) ≡ sum_by part_rects ps
cut_rects [] = refl
cut_rects (part ∷ ps) = omega (arith, before_rects part (cut ps), cut_rects ps, sum_by-cons part_rects part ps)

module _ (script : List Step) (count : ℕ) where
  abbrev own_rects : ℕ → ℕ
  own_rects q = sum_by part_rects (parts script count q)

  queues_rects : (a : ℕ) (families : List Family) → sum_by queue_rects (queues_from script count a families) ≡ sum_by own_rects (range_with_len a (length families))
  queues_rects a [] = refl
  queues_rects a (family ∷ families) =
      let next : sum_by own_rects (range_with_len (suc a) (length families)) ≡ sum_by own_rects (range_with_len (a + 1) (length families)) = (let e : suc a ≡ a + 1 = omega arith in ap (λ n. sum_by own_rects (range_with_len n (length families))) e) in
      omega (
        arith,
        next,
        queues_rects (suc a) families,
        cut_rects (parts script count a),
        sum_by-cons queue_rects (record { family = family; batches = cut (parts script count a) }) (queues_from script count (suc a) families),
        sum_by-cons own_rects a (range_with_len (a + 1) (length families)),
      )

  quiet : (ps : List Part) → sum_by part_rects ps ≡ 0 → (it : programs.Item) (s : Bool) (signal : Signal) → sum_by part_rects (ps ++ Does it ∷ when s (Signals signal)) ≤ rects_of it
  quiet ps none it s signal = omega (arith, none, sum_by-append part_rects ps (Does it ∷ when s (Signals signal)), sum_by-cons part_rects (Does it) (when s (Signals signal)), silent s)
    where
      silent : (b : Bool) → sum_by part_rects (when b (Signals signal)) ≡ 0
      silent true = omega arith
      silent false = refl

  waits_rects : (q i : ℕ) → sum_by part_rects (waits_at script count q i) ≡ 0
  waits_rects q i = sum_all part_rects gives count ∙ each count
    where
      gives : ℕ → List Part
      gives p = when (waits script q i p) (Waits (wait_for script count q i p))

      silent : (b : Bool) (wait : WaitFor) → sum_by part_rects (when b (Waits wait)) ≡ 0
      silent true wait = omega arith
      silent false wait = refl

      each : (n : ℕ) → sum_below (λ p. sum_by part_rects (when (waits script q i p) (Waits (wait_for script count q i p)))) n ≡ 0
      each zero = refl
      each (suc n) = omega (arith, each n, silent (waits script q i n) (wait_for script count q i n))

  steps_rects : (q i : ℕ) → q < count → sum_by part_rects (parts_at script count q i) ≤ at_one (queue_at script i) (λ k. weight_at rects_of script i) q
  steps_rects q i lt = of_one script count rects_of (λ ps. sum_by part_rects ps) refl (λ q i it l. quiet (waits_at script count q i) (waits_rects q i) it (has_signal script count q i) (signal_after script count i)) q i lt

pub queues_few : (script : List Step) (families : List Family) → sum_by queue_rects (queues script families) ≤ sum_below (weight_at rects_of script) (length script)
queues_few script families = omega (
  arith,
  queues_rects script (length families) 0 families,
  sum_range (own_rects script (length families)) 0 (length families),
  same (length families),
  spread (λ q i. sum_by part_rects (parts_at script (length families) q i)) (queue_at script) (weight_at rects_of script) (length families) (length script) (λ q i lt. steps_rects script (length families) q i lt),
)
  where
    same : (n : ℕ) → sum_below (λ k. own_rects script (length families) (0 + k)) n ≡ sum_below (λ q. sum_below (λ i. sum_by part_rects (parts_at script (length families) q i)) (length script)) n
    same zero = refl
    same (suc n) =
        let e : own_rects script (length families) (0 + n) ≡ own_rects script (length families) n = (let z : 0 + n ≡ n = omega arith in ap (own_rects script (length families)) z) in
        omega (arith, same n, e, sum_all part_rects (parts_at script (length families) n) (length script))

-- COMMANDS

rect_light : AreLight rects_of 0
rect_light = record {
  global = λ masks. omega arith;
  buffer = λ piece masks. omega arith;
  image = λ piece layouts masks. omega arith;
  release = λ t. omega arith;
  acquire = λ t. omega arith;
}

abbrev op_rects : Command → ℕ
op_rects command = rect_count command.op

pass_rects : (queue : ℕ) (ops : List (Op ℕ)) → sum_by op_rects (map (on_queue queue) ops) ≡ sum_by rect_count ops
pass_rects queue [] = refl
pass_rects queue (op ∷ ops) = omega (arith, pass_rects queue ops, sum_by-cons op_rects (on_queue queue op) (map (on_queue queue) ops), sum_by-cons (λ (o : Op ℕ). rect_count o) op ops)

kept_rects : (passes : List NumberedPass) (kept : List Bool) → sum_by op_rects (kept_commands passes kept) ≤ sum_by (λ pass. sum_by rect_count pass.ops) passes
kept_rects [] kept = omega arith
kept_rects (pass ∷ passes) [] = omega arith
kept_rects (pass ∷ passes) (keep ∷ kept) = omega (
  arith,
  own_part keep,
  kept_rects passes kept,
  sum_by-append op_rects (if keep then pass_commands pass else []) (kept_commands passes kept),
  sum_by-cons (λ (p : NumberedPass). sum_by rect_count p.ops) pass passes,
)
  where
    own_part : (b : Bool) → sum_by op_rects (if b then pass_commands pass else []) ≤ sum_by rect_count pass.ops
    own_part true = omega (arith, pass_rects pass.queue pass.ops)
    own_part false = omega arith

copy_rects : (shape : Shape) (src dst : ℕ) → rect_count (copy_out shape src dst) ≡ 0
copy_rects (Buffer size) src dst = refl
copy_rects (Image width height texel) src dst = refl

export_rects : (frame : NumberedFrame) (k : ℕ) (units : List ℕ) → sum_by op_rects (export_commands frame k units) ≡ 0
export_rects frame k [] = refl
export_rects frame k (unit ∷ units) = omega (arith, export_rects frame (suc k) units, copy_rects (shape_at (shapes_in frame) unit) unit (length frame.units + k), sum_by-cons op_rects (export_command frame k unit) (export_commands frame (suc k) units))

pass_hosts : (queue : ℕ) (ops : List (Op ℕ)) → sum_by is_host (map (on_queue queue) ops) ≡ 0
pass_hosts queue [] = refl
pass_hosts queue (op ∷ ops) = omega (arith, pass_hosts queue ops, sum_by-cons is_host (on_queue queue op) (map (on_queue queue) ops))

kept_hosts : (passes : List NumberedPass) (kept : List Bool) → sum_by is_host (kept_commands passes kept) ≡ 0
kept_hosts [] kept = refl
kept_hosts (pass ∷ passes) [] = refl
kept_hosts (pass ∷ passes) (keep ∷ kept) = omega (arith, own_part keep, kept_hosts passes kept, sum_by-append is_host (if keep then pass_commands pass else []) (kept_commands passes kept))
  where
    own_part : (b : Bool) → sum_by is_host (if b then pass_commands pass else []) ≡ 0
    own_part true = pass_hosts pass.queue pass.ops
    own_part false = refl

export_hosts : (frame : NumberedFrame) (k : ℕ) (units : List ℕ) → sum_by is_host (export_commands frame k units) ≤ length units
export_hosts frame k [] = omega arith
export_hosts frame k (unit ∷ units) = omega (arith, export_hosts frame (suc k) units, sum_by-cons is_host (export_command frame k unit) (export_commands frame (suc k) units))

module _ (frame : NumberedFrame) (kept : List Bool) (good : IsValid frame) where
  abbrev G : Grouping
  G = grouping frame kept

  hosts_few : sum_by is_host G.commands ≤ 32
  hosts_few = let few = good.few_exports in omega (
    arith,
    few,
    kept_hosts frame.passes kept,
    export_hosts frame 0 frame.exports,
    sum_by-append is_host (kept_commands frame.passes kept) (export_commands frame 0 frame.exports),
  )

  commands_rects : sum_by op_rects G.commands ≤ 4096
  commands_rects = let few = good.few_rects in omega (
    arith,
    few,
    kept_rects frame.passes kept,
    export_rects frame 0 frame.exports,
    sum_by-append op_rects (kept_commands frame.passes kept) (export_commands frame 0 frame.exports),
  )

  module _ (heap : Heap) where
    abbrev steps : List Step
    steps = steps_of (script G heap)

    -- RECTANGLES OF ALL QUEUES

    rects_of_commands : sum_by (own rects_of G) G.commands ≡ sum_by op_rects G.commands
    rects_of_commands = go G.commands
      where
        go : (list : List Command) → sum_by (own rects_of (grouping frame kept)) list ≡ sum_by op_rects list
        go [] = refl
        go (command ∷ list) = omega (arith, go list, rects_mapped (piece_of (grouping frame kept)) command.op, sum_by-cons (own rects_of (grouping frame kept)) command list, sum_by-cons op_rects command list)

    pub all_rects : rects_over (queues steps G.families) ≡ None
    all_rects = rects_last (queues steps G.families) (omega (
      arith,
      commands_rects,
      rects_of_commands,
      queues_few steps G.families,
      steps_weigh rects_of (script G heap),
      script_few rects_of 0 rect_light G heap,
    ))

    -- NODES OF ALL QUEUES

    five_light : AreLight (λ it. 5) 5
    five_light = record {
      global = λ masks. omega arith;
      buffer = λ piece masks. omega arith;
      image = λ piece layouts masks. omega arith;
      release = λ t. omega arith;
      acquire = λ t. omega arith;
    }

    fives : (list : List Command) → sum_by (λ (command : Command). 5) list ≡ 5 * length list
    fives [] = refl
    fives (command ∷ list) = omega (arith, fives list, sum_by-cons (λ (c : Command). 5) command list)

    pub nodes_few : (small : IsSmall G) → IsScript steps (length G.families) → length (places steps (length G.families)) ≤ 18880
    nodes_few small S =
        let few = small.few_commands in
        let queues = good.few_queues in
        omega (
          arith,
          few,
          hosts_few,
          fives G.commands,
          places_few steps (length G.families) S queues,
          steps_weigh (λ it. 5) (script G heap),
          script_few (λ it. 5) 5 five_light G heap,
        )
