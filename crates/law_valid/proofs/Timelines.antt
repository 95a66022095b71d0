-- From steps to batches: waits, items and signals obey every rule where the items of the steps do.
use Rattle.std.proofs.Common.{◌≡◌, ℕ, zero, suc, ◌+◌, ◌-◌, ◌<◌, ◌≤◌, ◌==◌, ◌||◌, ◌++◌, not, max, Bool, true, false, List, [], ◌∷◌, length, take, slice_get, if◌then◌else◌, Option, Some, None, IfSome, refl, sym, ap, ◌∙◌, subst, eqb-true, arith}
use Rattle.std.specs.List.{All}
use Rattle.std.specs.Option.{option_map_or}
use Rattle.std.proofs.lemmas.Bool.{lt-ltb, le-leb, and_left}
use Rattle.std.proofs.lemmas.List.Elements.{All-nil, All-cons, All-head, All-tail, All-append}
use Rattle.std.proofs.lemmas.Option.{IfSome_then}
use Rattle.base.proofs.Lists.{entry_of, one}
use Rattle.base.specs.declared.shape.Family.{Family}
use Rattle.base.specs.declared.shape.Family.TheVariants.{Graphics, Compute, Transfer}
use Rattle.base.specs.declared.shape.Shape.{Shape}
use Rattle.vk.specs.Stages.{all_commands}
use Rattle.program.specs.Barriers.{on_queue}
use Rattle.program.specs.Rules.{wait_obeys, item_obeys, signal_obeys}
use Rattle.program.specs.Timelines.{value_of, highest}
use Rattle.program.specs.declared.program.Batch.{Batch}
use Rattle.program.specs.declared.program.Item as programs
use Rattle.program.specs.declared.program.Queue.{Queue}
use Rattle.program.specs.declared.program.Signal.{Signal}
use Rattle.program.specs.declared.program.WaitFor.{WaitFor}
use Rattle.program.specs.declared.rule.Rule.{Rule}
use Rattle.program.specs.declared.rule.Rule.TheVariants as rules
use Rattle.compile_timeline.specs.Batches.{batch, item_before, before, cut, queues_from, queues}
use Rattle.compile_timeline.specs.Below.{count_below, all_below}
use Rattle.compile_timeline.specs.Laws.{AreFor, AreRising}
use Rattle.compile_timeline.specs.Parts.{Part, Waits, Does, Signals, when, wait_for, signal_after, waits_at, step_parts, parts_at, parts}
use Rattle.compile_timeline.specs.Signals.{is_awaited, is_last, has_signal, value_at}
use Rattle.compile_timeline.specs.Steps.{queue_of, queue_at, is_item, has_item}
use Rattle.compile_timeline.specs.Waits.{latest, waits}
use Rattle.compile_timeline.specs.declared.step.Step.{Step}
use Rattle.compile_timeline.specs.declared.step.Step.TheVariants.{Item, Need}

-- WAITS AND SIGNALS OF ALL COMMANDS

all_on : (family : Family) → on_queue family all_commands ≡ true
all_on Graphics = refl
all_on Compute = refl
all_on Transfer = refl

wait_right : (rule : Rule) (count : ℕ) (family : Family) (queue value : ℕ) → queue < count → 1 ≤ value → (let wait : WaitFor = record { queue = queue; value = value; stages = record { 0 = all_commands } } in wait_obeys rule count family wait ≡ true)
wait_right rules.Limits count family queue value known some = refl
wait_right rules.Range count family queue value known some = refl
wait_right rules.Known count family queue value known some = lt-ltb queue count known
wait_right rules.Stages count family queue value known some = refl
wait_right rules.Ignored count family queue value known some = refl
wait_right rules.Supported count family queue value known some = refl
wait_right rules.OnQueue count family queue value known some = all_on family
wait_right rules.Runs count family queue value known some = refl
wait_right rules.Timeline count family queue value known some = le-leb 1 value some

-- a signal of all commands, of more than is reached
record Rises (reached : ℕ) (signal : Signal) : Type 0 where
  stages : signal.stages.0 ≡ all_commands
  more : reached < signal.value

signal_right : (rule : Rule) (family : Family) (reached : ℕ) (signal : Signal) → Rises reached signal → signal_obeys rule family reached signal ≡ true
signal_right rules.Limits family reached signal R = refl
signal_right rules.Range family reached signal R = refl
signal_right rules.Known family reached signal R = refl
signal_right rules.Stages family reached signal R = ap (λ n. not (n == 0)) R.stages
signal_right rules.Ignored family reached signal R = refl
signal_right rules.Supported family reached signal R = refl
signal_right rules.OnQueue family reached signal R = ap (on_queue family) R.stages ∙ all_on family
signal_right rules.Runs family reached signal R = refl
signal_right rules.Timeline family reached signal R = lt-ltb reached signal.value R.more

-- WAITS AND ITEMS IN BATCHES

module _ (shapes : List Shape) (count : ℕ) (family : Family) where
  abbrev pub PartRight : Part → Type 0
  PartRight (Waits wait) = (rule : Rule) → wait_obeys rule count family wait ≡ true
  PartRight (Does it) = (rule : Rule) → item_obeys rule shapes family it ≡ true
  PartRight (Signals signal) = Unit {0}

  abbrev pub WaitRight : WaitFor → Type 0
  WaitRight wait = (rule : Rule) → wait_obeys rule count family wait ≡ true

  abbrev pub ItemRight : programs.Item → Type 0
  ItemRight it = (rule : Rule) → item_obeys rule shapes family it ≡ true

  pub record BatchRight (b : Batch) : Type 0 where
    pub waits : All WaitRight b.waits
    pub items : All ItemRight b.items

  before_item : (it : programs.Item) (ws : List WaitFor) (its : List programs.Item) (signal : Option Signal) (batches : List Batch) → ItemRight it → All WaitRight ws → All ItemRight its → All BatchRight batches → All BatchRight (item_before it ws its signal batches)
  before_item it [] its signal batches right waits items rest =
      All-cons BatchRight (batch [] (it ∷ its) signal) batches (record { waits = All-nil WaitRight; items = All-cons ItemRight it its right items }) rest
  before_item it (w ∷ ws) its signal batches right waits items rest =
      All-cons BatchRight (batch [] (it ∷ []) None) (batch (w ∷ ws) its signal ∷ batches) (record { waits = All-nil WaitRight; items = one ItemRight it right })
      (All-cons BatchRight (batch (w ∷ ws) its signal) batches (record { waits = waits; items = items }) rest)

  before_right : (part : Part) (batches : List Batch) → PartRight part → All BatchRight batches → All BatchRight (before part batches)
  before_right (Signals signal) batches right rest = All-cons BatchRight (batch [] [] (Some signal)) batches (record { waits = All-nil WaitRight; items = All-nil ItemRight }) rest
  before_right (Waits wait) [] right rest = one BatchRight (batch (wait ∷ []) [] None) (record { waits = one WaitRight wait right; items = All-nil ItemRight })
  before_right (Waits wait) (b ∷ batches) right rest =
      let B = All-head BatchRight b batches rest in
      All-cons BatchRight (batch (wait ∷ b.waits) b.items b.signal) batches (record { waits = All-cons WaitRight wait b.waits right B.waits; items = B.items }) (All-tail BatchRight b batches rest)
  before_right (Does it) [] right rest = one BatchRight (batch [] (it ∷ []) None) (record { waits = All-nil WaitRight; items = one ItemRight it right })
  before_right (Does it) (b ∷ batches) right rest =
      let B = All-head BatchRight b batches rest in
      before_item it b.waits b.items b.signal batches right B.waits B.items (All-tail BatchRight b batches rest)

  pub cut_right : (ps : List Part) → All PartRight ps → All BatchRight (cut ps)
  cut_right [] all = All-nil BatchRight
  cut_right (part ∷ ps) all = before_right part (cut ps) (All-head PartRight part ps all) (cut_right ps (All-tail PartRight part ps all))

-- SIGNALS RISE

abbrev Rising : ℕ → List Part → Type 0
Rising reached [] = Unit {0}
Rising reached (Waits wait ∷ ps) = Rising reached ps
Rising reached (Does it ∷ ps) = Rising reached ps
Rising reached (Signals signal ∷ ps) = Rises reached signal × Rising signal.value ps

-- the value of the last signal
abbrev reach : ℕ → List Part → ℕ
reach reached [] = reached
reach reached (Waits wait ∷ ps) = reach reached ps
reach reached (Does it ∷ ps) = reach reached ps
reach reached (Signals signal ∷ ps) = reach signal.value ps

rising_append : (reached : ℕ) (xs ys : List Part) → Rising reached xs → Rising (reach reached xs) ys → Rising reached (xs ++ ys)
rising_append reached [] ys h k = k
rising_append reached (Waits wait ∷ xs) ys h k = rising_append reached xs ys h k
rising_append reached (Does it ∷ xs) ys h k = rising_append reached xs ys h k
rising_append reached (Signals signal ∷ xs) ys h k = (h.0, rising_append signal.value xs ys h.1 k)

reach_append : (reached : ℕ) (xs ys : List Part) → reach reached (xs ++ ys) ≡ reach (reach reached xs) ys
reach_append reached [] ys = refl
reach_append reached (Waits wait ∷ xs) ys = reach_append reached xs ys
reach_append reached (Does it ∷ xs) ys = reach_append reached xs ys
reach_append reached (Signals signal ∷ xs) ys = reach_append signal.value xs ys

abbrev BatchesRise : ℕ → List Batch → Type 0
BatchesRise reached [] = Unit {0}
BatchesRise reached (b ∷ batches) = IfSome b.signal (Rises reached) × BatchesRise (max reached (value_of b.signal)) batches

before_item_rises : (reached : ℕ) (it : programs.Item) (ws : List WaitFor) (its : List programs.Item) (signal : Option Signal) (batches : List Batch) → BatchesRise reached (batch ws its signal ∷ batches) → BatchesRise reached (item_before it ws its signal batches)
before_item_rises reached it [] its signal batches h = h
before_item_rises reached it (w ∷ ws) its signal batches h =
    let same : reached ≡ max reached 0 = omega arith in
    (tt, subst (λ r. BatchesRise r (batch (w ∷ ws) its signal ∷ batches)) same h)

cut_rises : (reached : ℕ) (ps : List Part) → Rising reached ps → BatchesRise reached (cut ps)
cut_rises reached [] h = tt
cut_rises reached (Waits wait ∷ ps) h = go (cut ps) (cut_rises reached ps h)
  where
    go : (batches : List Batch) → BatchesRise reached batches → BatchesRise reached (before (Waits wait) batches)
    go [] k = (tt, tt)
    go (b ∷ batches) k = k
cut_rises reached (Does it ∷ ps) h = go (cut ps) (cut_rises reached ps h)
  where
    go : (batches : List Batch) → BatchesRise reached batches → BatchesRise reached (before (Does it) batches)
    go [] k = (tt, tt)
    go (b ∷ batches) k = before_item_rises reached it b.waits b.items b.signal batches k
cut_rises reached (Signals signal ∷ ps) h =
    let more = h.0.more in
    let same : signal.value ≡ max reached signal.value = omega (arith, more) in
    (h.0, subst (λ r. BatchesRise r (cut ps)) same (cut_rises signal.value ps h.1))

-- at each batch, over what those before it reach
rises_at : (reached : ℕ) (batches : List Batch) (b : ℕ) (x : Batch) → BatchesRise reached batches → slice_get batches b ≡ Some x → IfSome x.signal (Rises (max reached (highest (take b batches))))
rises_at reached [] b x h is = absurd cc
rises_at reached (y ∷ batches) zero x h is =
    let same : y ≡ x = cc in
    let r : reached ≡ max reached 0 = omega arith in
    subst (λ (z : Batch). IfSome z.signal (Rises (max reached 0))) same (subst (λ n. IfSome y.signal (Rises n)) r h.0)
rises_at reached (y ∷ batches) (suc b) x h is =
    let same : max (max reached (value_of y.signal)) (highest (take b batches)) ≡ max reached (max (value_of y.signal) (highest (take b batches))) = omega arith in
    subst (λ n. IfSome x.signal (Rises n)) same (rises_at (max reached (value_of y.signal)) batches b x h.1 is)

from_nothing : (batches : List Batch) (b : ℕ) (x : Batch) → BatchesRise 0 batches → slice_get batches b ≡ Some x → IfSome x.signal (Rises (highest (take b batches)))
from_nothing batches b x h is =
    let same : max 0 (highest (take b batches)) ≡ highest (take b batches) = omega arith in
    subst (λ n. IfSome x.signal (Rises n)) same (rises_at 0 batches b x h is)

-- THE PARTS OF A QUEUE

below_each : {X : Type 0} (P : X → Type 0) (gives : ℕ → List X) (n : ℕ) → ((i : ℕ) → i < n → All P (gives i)) → All P (all_below gives n)
below_each P gives zero each = All-nil P
below_each P gives (suc n) each = All-append P (all_below gives n) (gives n) (below_each P gives n (λ i lt. each i (omega (arith, lt)))) (each n (omega arith))

abbrev IsQuiet : Part → Type 0
IsQuiet (Waits wait) = Unit {0}
IsQuiet (Does it) = Unit {0}
IsQuiet (Signals signal) = ⊥

quiet_rising : (reached : ℕ) (ps : List Part) → All IsQuiet ps → Rising reached ps × (reach reached ps ≡ reached)
quiet_rising reached [] all = (tt, refl)
quiet_rising reached (Waits wait ∷ ps) all = quiet_rising reached ps (All-tail IsQuiet (Waits wait) ps all)
quiet_rising reached (Does it ∷ ps) all = quiet_rising reached ps (All-tail IsQuiet (Does it) ps all)
quiet_rising reached (Signals signal ∷ ps) all = absurd (All-head IsQuiet (Signals signal) ps all)

module _ (script : List Step) (count q : ℕ) where
  when_quiet : (test : Bool) (wait : WaitFor) → All IsQuiet (when test (Waits wait))
  when_quiet true wait = one IsQuiet (Waits wait) tt
  when_quiet false wait = All-nil IsQuiet

  waits_quiet : (i : ℕ) → All IsQuiet (waits_at script count q i)
  waits_quiet i = below_each IsQuiet (λ p. when (waits script q i p) (Waits (wait_for script count q i p))) count (λ p lt. when_quiet (waits script q i p) (wait_for script count q i p))

  abbrev hs : ℕ → Bool
  hs = has_signal script count q

  abbrev RisesTo : ℕ → ℕ → List Part → Type 0
  RisesTo from to ps = Rising from ps × (reach from ps ≡ to)

  signalled : (n : ℕ) (it : programs.Item) (s : Bool) → hs n ≡ s → queue_at script n ≡ q → RisesTo (count_below hs n) (count_below hs (suc n)) (waits_at script count q n ++ Does it ∷ when s (Signals (signal_after script count n)))
  signalled n it s e own =
      let quiet = quiet_rising (count_below hs n) (waits_at script count q n) (waits_quiet n) in
      let rest = ends s e in (
        rising_append (count_below hs n) (waits_at script count q n) (Does it ∷ when s (Signals (signal_after script count n))) quiet.0 (subst (λ r. Rising r (when s (Signals (signal_after script count n)))) (sym quiet.1) rest.0),
        reach_append (count_below hs n) (waits_at script count q n) (Does it ∷ when s (Signals (signal_after script count n))) ∙ ap (λ r. reach r (when s (Signals (signal_after script count n)))) quiet.1 ∙ rest.1,
      )
    where
      ends : (t : Bool) → hs n ≡ t → RisesTo (count_below hs n) (count_below hs (suc n)) (when t (Signals (signal_after script count n)))
      ends false f = (tt, sym (ap (λ b. if b then suc (count_below hs n) else count_below hs n) f))
      ends true f =
          let next : count_below hs (suc n) ≡ suc (count_below hs n) = ap (λ b. if b then suc (count_below hs n) else count_below hs n) f in
          let value : value_at script count n ≡ count_below hs (suc n) = ap (λ p. count_below (has_signal script count p) (suc n)) own in
          ((record { stages = refl; more = omega (arith, next, value) }, tt), value)

  silent : (n : ℕ) → has_item script q n ≡ false → RisesTo (count_below hs n) (count_below hs (suc n)) []
  silent n none =
      let no : hs n ≡ false = and_left (has_item script q n) (is_awaited script count n || is_last script n) none in
      (tt, sym (ap (λ b. if b then suc (count_below hs n) else count_below hs n) no))

  step_rises : (n : ℕ) (o : Option Step) → slice_get script n ≡ o → RisesTo (count_below hs n) (count_below hs (suc n)) (option_map_or (step_parts script count q n) o [])
  step_rises n None e = silent n (ap (λ o. option_map_or (is_item q) o false) e)
  step_rises n (Some (Need r step)) e = silent n (ap (λ o. option_map_or (is_item q) o false) e)
  step_rises n (Some (Item r it)) e = go (r == q) refl
    where
      go : (b : Bool) → (r == q) ≡ b → RisesTo (count_below hs n) (count_below hs (suc n)) (if b then waits_at script count q n ++ Does it ∷ when (hs n) (Signals (signal_after script count n)) else [])
      go true f = signalled n it (hs n) refl (ap (λ o. option_map_or queue_of o 0) e ∙ eqb-true r q f)
      go false f = silent n (ap (λ o. option_map_or (is_item q) o false) e ∙ f)

  parts_rise : (n : ℕ) → RisesTo 0 (count_below hs n) (all_below (parts_at script count q) n)
  parts_rise zero = (tt, refl)
  parts_rise (suc n) =
      let so_far = parts_rise n in
      let here = step_rises n (slice_get script n) refl in (
        rising_append 0 (all_below (parts_at script count q) n) (parts_at script count q n) so_far.0 (subst (λ r. Rising r (parts_at script count q n)) (sym so_far.1) here.0),
        reach_append 0 (all_below (parts_at script count q) n) (parts_at script count q n) ∙ ap (λ r. reach r (parts_at script count q n)) so_far.1 ∙ here.1,
      )

  -- WAITS AND ITEMS OF A QUEUE

  module _ (shapes : List Shape) (family : Family) (low : q < count) (for : AreFor script count) (rising : AreRising script count) (each : (i : ℕ) (it : programs.Item) → slice_get script i ≡ Some (Item q it) → (rule : Rule) → item_obeys rule shapes family it ≡ true) where
    abbrev Right : Part → Type 0
    Right = PartRight shapes count family

    waits_right : (i : ℕ) → has_item script q i ≡ true → All Right (waits_at script count q i)
    waits_right i has = below_each Right (λ p. when (waits script q i p) (Waits (wait_for script count q i p))) count (λ p lt. go p lt (waits script q i p) refl)
      where
        go : (p : ℕ) → p < count → (b : Bool) → waits script q i p ≡ b → All Right (when b (Waits (wait_for script count q i p)))
        go p lt false e = All-nil Right
        go p lt true e = one Right (Waits (wait_for script count q i p)) (λ rule. wait_right rule count family p (value_at script count (latest script q p i - 1)) lt some)
          where
            some : 1 ≤ value_at script count (latest script q p i - 1)
            some =
                let reached = (for q i p low lt has e).latest in
                let step : latest script q p i - 1 ≡ (for q i p low lt has e).step = omega (arith, reached) in
                subst (λ n. 1 ≤ value_at script count n) (sym step) (rising.positive p (for q i p low lt has e).step (for q i p low lt has e).signal)

    when_right : (s : Bool) (signal : Signal) → All Right (when s (Signals signal))
    when_right true signal = one Right (Signals signal) tt
    when_right false signal = All-nil Right

    step_right : (i : ℕ) (o : Option Step) → slice_get script i ≡ o → All Right (option_map_or (step_parts script count q i) o [])
    step_right i None e = All-nil Right
    step_right i (Some (Need r step)) e = All-nil Right
    step_right i (Some (Item r it)) e = go (r == q) refl
      where
        go : (b : Bool) → (r == q) ≡ b → All Right (if b then waits_at script count q i ++ Does it ∷ when (has_signal script count q i) (Signals (signal_after script count i)) else [])
        go false f = All-nil Right
        go true f =
            let has : has_item script q i ≡ true = ap (λ o. option_map_or (is_item q) o false) e ∙ f in
            let own : slice_get script i ≡ Some (Item q it) = e ∙ ap (λ p. Some (Item p it)) (eqb-true r q f) in
            All-append Right (waits_at script count q i) (Does it ∷ when (has_signal script count q i) (Signals (signal_after script count i)))
            (waits_right i has)
            (All-cons Right (Does it) (when (has_signal script count q i) (Signals (signal_after script count i))) (each i it own) (when_right (has_signal script count q i) (signal_after script count i)))

    parts_right : All Right (parts script count q)
    parts_right = below_each Right (parts_at script count q) (length script) (λ i lt. step_right i (slice_get script i) refl)

    -- each batch of the queue obeys each rule
    pub record BatchIsRight (batches : List Batch) (b : ℕ) (x : Batch) : Type 0 where
      pub waits : (rule : Rule) → All (λ wait. wait_obeys rule count family wait ≡ true) x.waits
      pub items : (rule : Rule) → All (λ it. item_obeys rule shapes family it ≡ true) x.items
      pub signal : (rule : Rule) → IfSome x.signal (λ signal. signal_obeys rule family (highest (take b batches)) signal ≡ true)

    pub batch_right : (b : ℕ) (x : Batch) → slice_get (cut (parts script count q)) b ≡ Some x → BatchIsRight (cut (parts script count q)) b x
    batch_right b x is =
        let B : BatchRight shapes count family x = entry_of (BatchRight shapes count family) (cut (parts script count q)) b x (cut_right shapes count family (parts script count q) parts_right) is in
        record {
          waits = λ rule. λ k d lt. B.waits k d lt rule;
          items = λ rule. λ k d lt. B.items k d lt rule;
          signal = λ rule. IfSome_then x.signal (from_nothing (cut (parts script count q)) b x (cut_rises 0 (parts script count q) (parts_rise (length script)).0) is) (λ signal R. signal_right rule family (highest (take b (cut (parts script count q)))) signal R);
        }

-- THE QUEUES

pub record IsCut (script : List Step) (count q : ℕ) (families : List Family) (k : ℕ) (queue : Queue) : Type 0 where
  pub family : slice_get families k ≡ Some queue.family
  pub batches : queue.batches ≡ cut (parts script count q)

cut_from : (script : List Step) (count a : ℕ) (families : List Family) (k : ℕ) (queue : Queue) → slice_get (queues_from script count a families) k ≡ Some queue → IsCut script count (a + k) families k queue
cut_from script count a [] k queue is = absurd cc
cut_from script count a (family ∷ families) zero queue is =
    let z : a ≡ a + 0 = omega arith in
    let same : (let made : Queue = record { family = family; batches = cut (parts script count a) } in made) ≡ queue = cc in
    record {
      family = ap (λ (x : Queue). Some x.family) same;
      batches = sym (ap (λ (x : Queue). x.batches) same) ∙ ap (λ n. cut (parts script count n)) z;
    }
cut_from script count a (family ∷ families) (suc k) queue is =
    let next : suc a + k ≡ a + suc k = omega arith in
    let C = cut_from script count (suc a) families k queue is in
    record { family = C.family; batches = C.batches ∙ ap (λ n. cut (parts script count n)) next }

pub cut_queue : (script : List Step) (families : List Family) (q : ℕ) (queue : Queue) → slice_get (queues script families) q ≡ Some queue → IsCut script (length families) q families q queue
cut_queue script families q queue is =
    let z : 0 + q ≡ q = omega arith in
    subst (λ n. IsCut script (length families) n families q queue) z (cut_from script (length families) 0 families q queue is)
