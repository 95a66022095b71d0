-- What each node stands for, and where the nodes of a queue stand.
use Rattle.std.proofs.Common.{◌≡◌, ◌⊎◌, inl, inr, ℕ, zero, suc, ◌+◌, ◌<◌, ◌≤◌, List, [], ◌∷◌, ◌++◌, length, map, take, slice_get, slice_index_or, Option, Some, None, option_to_list, refl, sym, ap, ap₂, ◌∙◌, subst, ⊎_elim, add-one, arith}
use Rattle.std.specs.List.{All, flat_map, range_with_len}
use Rattle.std.specs.Option.{option_and_then, option_map}
use Rattle.std.proofs.Math.Seq.{take-length}
use Rattle.std.proofs.lemmas.List.{length-append, length-map, map-append}
use Rattle.std.proofs.lemmas.List.Elements.{All-nil, All-cons, All-append, All-map}
use Rattle.std.proofs.lemmas.Option.{slice_get-map, slice_get_read, slice_get_within}
use Rattle.std.proofs.lemmas.Simd.{map-map}
use Rattle.base.proofs.Lists.{entry_of}
use Rattle.program.specs.Internal.Standing.{batch_entry, queued_entry, entry_at}
use Rattle.program.specs.Entries.{Entry, OfWait, OfItem, OfSignal, OfHost, batch_entries, queue_entries, entries_of, queue_of, first_node, ByQueue}
use Rattle.program.specs.Internal.Nodes.{signal_nodes, batch_nodes, queue_nodes, nodes_of}
use Rattle.program.specs.Places.{all_in}
use Rattle.program.specs.declared.nodes.NodeAt.{NodeAt}
use Rattle.program.specs.declared.nodes.NodeAt.TheVariants as node
use Rattle.program.specs.declared.program.Batch.{Batch}
use Rattle.program.specs.declared.program.Item.{Item}
use Rattle.program.specs.declared.program.Program.{Program}
use Rattle.program.specs.declared.program.Queue.{Queue}
use Rattle.program.specs.declared.program.Signal.{Signal}

-- PLACES AND WHAT STANDS THERE

-- what g gives of the numbers from i on is what f makes of a list
indexed : {X Y : Type 0} (f : X → Y) (g : ℕ → Option Y) (i : ℕ) (xs : List X) → ((k : ℕ) → g (i + k) ≡ option_map f (slice_get xs k)) → map g (range_with_len i (length xs)) ≡ map (λ y. Some y) (map f xs)
indexed f g i [] h = refl
indexed f g i (x ∷ xs) h =
    let first : i + 0 ≡ i = omega arith in
    let here : g i ≡ Some (f x) = subst (λ n. g n ≡ Some (f x)) first (h 0) in
    let rest = indexed f g (i + 1) xs (λ k. let next : i + suc k ≡ i + 1 + k = omega arith in subst (λ n. g n ≡ option_map f (slice_get xs k)) next (h (suc k))) in
    ap₂ (λ y ys. y ∷ ys) here rest

all_indexed : {X Y : Type 0} (f : X → Y) (g : ℕ → Option Y) (xs : List X) → ((k : ℕ) → g k ≡ option_map f (slice_get xs k)) → map g (range_with_len 0 (length xs)) ≡ map (λ y. Some y) (map f xs)
all_indexed f g xs h = indexed f g 0 xs (λ k. let same : k ≡ 0 + k = omega arith in subst (λ n. g n ≡ option_map f (slice_get xs k)) same (h k))

-- what stands at places, where something stands at each
abbrev Stand : Program → List NodeAt → List Entry → Type 0
Stand program places entries = map (entry_at program) places ≡ map (λ e. Some e) entries

joined : (program : Program) (xs ys : List NodeAt) (first last : List Entry) → Stand program xs first → Stand program ys last → Stand program (xs ++ ys) (first ++ last)
joined program xs ys first last e f = map-append (entry_at program) xs ys ∙ ap₂ (λ l m. l ++ m) e f ∙ sym (map-append (λ e. Some e) first last)

all_stand : {X : Type 0} (program : Program) (places : ℕ → X → List NodeAt) (made : ℕ → X → List Entry) (i : ℕ) (xs : List X) → ((k : ℕ) (x : X) → slice_get xs k ≡ Some x → Stand program (places (i + k) x) (made (i + k) x)) → Stand program (all_in places i xs) (all_in made i xs)
all_stand program places made i [] h = refl
all_stand program places made i (x ∷ xs) h =
    let first : i + 0 ≡ i = omega arith in
    joined program (places i x) (all_in places (suc i) xs) (made i x) (all_in made (suc i) xs)
    (subst (λ n. Stand program (places n x) (made n x)) first (h 0 x refl))
    (all_stand program places made (suc i) xs (λ k y is. let next : i + suc k ≡ suc i + k = omega arith in subst (λ n. Stand program (places n y) (made n y)) next (h (suc k) y is)))

each_stand : {X : Type 0} (program : Program) (places : ℕ → X → List NodeAt) (made : ℕ → X → List Entry) (xs : List X) → ((k : ℕ) (x : X) → slice_get xs k ≡ Some x → Stand program (places k x) (made k x)) → Stand program (all_in places 0 xs) (all_in made 0 xs)
each_stand program places made xs h = all_stand program places made 0 xs (λ k x is. let same : k ≡ 0 + k = omega arith in subst (λ n. Stand program (places n x) (made n x)) same (h k x is))

flat : {X Y : Type 0} (made : X → List Y) (i : ℕ) (xs : List X) → all_in (λ k. made) i xs ≡ flat_map made xs
flat made i [] = refl
flat made i (x ∷ xs) = ap (λ l. made x ++ l) (flat made (suc i) xs)

module _ (program : Program) (q b : ℕ) (queue : Queue) (batch : Batch) (queue_is : slice_get program.queues q ≡ Some queue) (batch_is : slice_get queue.batches b ≡ Some batch) where
  reached : (location : NodeAt) → queued_entry program location q b ≡ batch_entry location batch
  reached location = ap (option_and_then (λ queue. option_and_then (batch_entry location) (slice_get queue.batches b))) queue_is ∙ ap (option_and_then (batch_entry location)) batch_is

  waits_stand : Stand program (map (λ k. node.Wait q b k) (range_with_len 0 (length batch.waits))) (map (OfWait q) batch.waits)
  waits_stand = map-map (entry_at program) (λ k. node.Wait q b k) (range_with_len 0 (length batch.waits)) ∙ all_indexed (OfWait q) (λ k. entry_at program (node.Wait q b k)) batch.waits (λ k. reached (node.Wait q b k))

  items_stand : Stand program (map (λ k. node.Item q b k) (range_with_len 0 (length batch.items))) (map (OfItem q) batch.items)
  items_stand = map-map (entry_at program) (λ k. node.Item q b k) (range_with_len 0 (length batch.items)) ∙ all_indexed (OfItem q) (λ k. entry_at program (node.Item q b k)) batch.items (λ k. reached (node.Item q b k))

  signal_stands : (signal : Option Signal) → batch.signal ≡ signal → Stand program (signal_nodes q b signal) (map (OfSignal q) (option_to_list signal))
  signal_stands None is = refl
  signal_stands (Some signal) is = ap (λ e. e ∷ []) (reached (node.Signal q b) ∙ ap (option_map (OfSignal q)) is)

  batch_stands : Stand program (batch_nodes q b batch) (batch_entries q batch)
  batch_stands =
      let waits = map (λ k. node.Wait q b k) (range_with_len 0 (length batch.waits)) in
      let items = map (λ k. node.Item q b k) (range_with_len 0 (length batch.items)) in
      joined program (waits ++ items) (signal_nodes q b batch.signal) (map (OfWait q) batch.waits ++ map (OfItem q) batch.items) (map (OfSignal q) (option_to_list batch.signal))
      (joined program waits items (map (OfWait q) batch.waits) (map (OfItem q) batch.items) waits_stand items_stand)
      (signal_stands batch.signal refl)

queue_stands : (program : Program) (q : ℕ) (queue : Queue) → slice_get program.queues q ≡ Some queue → Stand program (queue_nodes q queue) (queue_entries q queue)
queue_stands program q queue is = subst (λ l. Stand program (queue_nodes q queue) l) (flat (batch_entries q) 0 queue.batches)
    (each_stand program (batch_nodes q) (λ b. batch_entries q) queue.batches (λ b batch at. batch_stands program q b queue batch is at))

program_stands : (program : Program) → Stand program (nodes_of program) (entries_of program)
program_stands program =
    let reads = map (λ k. node.Host k) (range_with_len 0 (length program.readbacks)) in
    joined program (all_in queue_nodes 0 program.queues) reads (all_in queue_entries 0 program.queues) (map OfHost program.readbacks)
    (each_stand program queue_nodes queue_entries program.queues (queue_stands program))
    (map-map (entry_at program) (λ k. node.Host k) (range_with_len 0 (length program.readbacks)) ∙ all_indexed OfHost (λ k. entry_at program (node.Host k)) program.readbacks (λ k. refl))

pub as_many : (program : Program) → length (nodes_of program) ≡ length (entries_of program)
as_many program = sym (length-map (nodes_of program) (entry_at program)) ∙ ap length (program_stands program) ∙ length-map (entries_of program) (λ e. Some e)

lifted : (o r : Option Entry) → option_map (λ e. Some e) o ≡ Some r → o ≡ r
lifted None r e = absurd cc
lifted (Some x) r e = cc

pub entry_there : (program : Program) (n : ℕ) (location : NodeAt) → slice_get (nodes_of program) n ≡ Some location → slice_get (entries_of program) n ≡ entry_at program location
entry_there program n location is = lifted (slice_get (entries_of program) n) (entry_at program location)
    (sym (slice_get-map (λ e. Some e) (entries_of program) n) ∙ ap (λ l. slice_get l n) (sym (program_stands program)) ∙ slice_get-map (entry_at program) (nodes_of program) n ∙ ap (option_map (entry_at program)) is)

missing : {X : Type 0} (xs : List X) (n : ℕ) → n < length xs → slice_get xs n ≡ None → ⊥
missing [] n lt e = omega arith
missing (x ∷ xs) zero lt e = absurd cc
missing (x ∷ xs) (suc n) lt e = missing xs n (omega (arith, lt)) e

module _ (program inside : Program) (places : List NodeAt) (n : ℕ) (same : inside ≡ program) (are : places ≡ nodes_of inside) (lt : n < length (entries_of program)) where
  pub has_place : n < length places
  has_place = let all : length places ≡ length (nodes_of program) = ap length (are ∙ ap nodes_of same) in let count = as_many program in omega (arith, all, count, lt)

  pub read : (location : NodeAt) → location ≡ slice_index_or places n location → slice_get (entries_of program) n ≡ entry_at inside location
  read location is =
      let here = slice_get_read places (length places) n location refl has_place is in
      entry_there program n location (subst (λ l. slice_get l n ≡ Some location) (are ∙ ap nodes_of same) here) ∙ ap (λ p. entry_at p location) (sym same)

  pub not_missing : (location : NodeAt) → location ≡ slice_index_or places n location → entry_at inside location ≡ None → ⊥
  not_missing location is none = missing (entries_of program) n lt (read location is ∙ none)

-- WHAT HOLDS OF EACH

each_in : {X Y : Type 0} (P : Y → Type 0) (made : ℕ → X → List Y) (i : ℕ) (xs : List X) → ((k : ℕ) (x : X) → slice_get xs k ≡ Some x → All P (made (i + k) x)) → All P (all_in made i xs)
each_in P made i [] h = All-nil P
each_in P made i (x ∷ xs) h =
    let first : i + 0 ≡ i = omega arith in
    All-append P (made i x) (all_in made (suc i) xs) (subst (λ n. All P (made n x)) first (h 0 x refl)) (each_in P made (suc i) xs (λ k y is. let next : i + suc k ≡ suc i + k = omega arith in subst (λ n. All P (made n y)) next (h (suc k) y is)))

each_from : {X Y : Type 0} (P : Y → Type 0) (made : ℕ → X → List Y) (xs : List X) → ((k : ℕ) (x : X) → slice_get xs k ≡ Some x → All P (made k x)) → All P (all_in made 0 xs)
each_from P made xs h = each_in P made 0 xs (λ k x is. let same : k ≡ 0 + k = omega arith in subst (λ n. All P (made n x)) same (h k x is))

module _ (P : Entry → Type 0) where
  signal_each : (q : ℕ) (signal : Option Signal) → ((s : Signal) → signal ≡ Some s → P (OfSignal q s)) → All P (map (OfSignal q) (option_to_list signal))
  signal_each q None h = All-nil P
  signal_each q (Some s) h = All-cons P (OfSignal q s) [] (h s refl) (All-nil P)

  pub batch_each : (q : ℕ) (batch : Batch) → All (λ wait. P (OfWait q wait)) batch.waits → All (λ item. P (OfItem q item)) batch.items → ((s : Signal) → batch.signal ≡ Some s → P (OfSignal q s)) → All P (batch_entries q batch)
  batch_each q batch waits items signal =
      All-append P (map (OfWait q) batch.waits ++ map (OfItem q) batch.items) (map (OfSignal q) (option_to_list batch.signal))
      (All-append P (map (OfWait q) batch.waits) (map (OfItem q) batch.items) (All-map P (OfWait q) batch.waits waits) (All-map P (OfItem q) batch.items items))
      (signal_each q batch.signal signal)

  pub queue_each : (q : ℕ) (queue : Queue) → ((b : ℕ) (batch : Batch) → slice_get queue.batches b ≡ Some batch → All P (batch_entries q batch)) → All P (queue_entries q queue)
  queue_each q queue h = subst (λ l. All P l) (flat (batch_entries q) 0 queue.batches) (each_from P (λ b. batch_entries q) queue.batches h)

  pub program_each : (program : Program) → ((q : ℕ) (queue : Queue) → slice_get program.queues q ≡ Some queue → All P (queue_entries q queue)) → All (λ piece. P (OfHost piece)) program.readbacks → All P (entries_of program)
  program_each program h k = All-append P (all_in queue_entries 0 program.queues) (map OfHost program.readbacks) (each_from P queue_entries program.queues h) (All-map P OfHost program.readbacks k)

-- QUEUES

in_part : {X : Type 0} (xs ys : List X) (n : ℕ) (x : X) → slice_get (xs ++ ys) n ≡ Some x → (slice_get xs n ≡ Some x) ⊎ ((m : ℕ) × (length xs + m ≡ n) × (slice_get ys m ≡ Some x))
in_part [] ys n x h = inr (n, omega arith, h)
in_part (y ∷ xs) ys zero x h = inl h
in_part (y ∷ xs) ys (suc n) x h = ⊎_elim (λ l. inl l) (λ r. inr (r.0, omega (arith, r.1), r.2)) (in_part xs ys n x h)

abbrev Located : {X Y : Type 0} → (ℕ → X → List Y) → ℕ → List X → ℕ → Y → Type 0
Located {X} made i xs n y = (k : ℕ) × (x : X) × (slice_get xs k ≡ Some x) × (m : ℕ) × (slice_get (made (i + k) x) m ≡ Some y) × (length (all_in made i (take k xs)) ≤ n) × (n < length (all_in made i (take (suc k) xs)))

located_here : {X Y : Type 0} (made : ℕ → X → List Y) (i : ℕ) (x : X) (xs : List X) (n : ℕ) (y : Y) → slice_get (made i x) n ≡ Some y → Located made i (x ∷ xs) n y
located_here made i x xs n y l =
    let same : i ≡ i + 0 = omega arith in
    let within = slice_get_within (made i x) n y l in
    let all = length-append (made i x) (all_in made (suc i) (take zero xs)) in
    let low : 0 ≤ n = omega arith in
    let high : n < length (made i x ++ all_in made (suc i) (take zero xs)) = omega (arith, all, within) in
    (0, x, refl, n, subst (λ j. slice_get (made j x) n ≡ Some y) same l, low, high)

located_there : {X Y : Type 0} (made : ℕ → X → List Y) (i : ℕ) (x : X) (xs : List X) (n m : ℕ) (y : Y) → length (made i x) + m ≡ n → Located made (suc i) xs m y → Located made i (x ∷ xs) n y
located_there made i x xs n m y is t =
    let next : suc i + t.0 ≡ i + suc t.0 = omega arith in
    let before = length-append (made i x) (all_in made (suc i) (take t.0 xs)) in
    let after = length-append (made i x) (all_in made (suc i) (take (suc t.0) xs)) in
    let low : length (made i x ++ all_in made (suc i) (take t.0 xs)) ≤ n = omega (arith, before, is, t.5) in
    let high : n < length (made i x ++ all_in made (suc i) (take (suc t.0) xs)) = omega (arith, after, is, t.6) in
    (suc t.0, t.1, t.2, t.3, subst (λ j. slice_get (made j t.1) t.3 ≡ Some y) next t.4, low, high)

-- the entry of a list of which the n-th of all comes
located : {X Y : Type 0} (made : ℕ → X → List Y) (i : ℕ) (xs : List X) (n : ℕ) (y : Y) → slice_get (all_in made i xs) n ≡ Some y → Located made i xs n y
located made i [] n y h = absurd cc
located made i (x ∷ xs) n y h = ⊎_elim
    (λ l. located_here made i x xs n y l)
    (λ r. located_there made i x xs n r.0 y r.1 (located made (suc i) xs r.0 y r.2))
    (in_part (made i x) (all_in made (suc i) xs) n y h)

more : {X Y : Type 0} (made : ℕ → X → List Y) (i q r : ℕ) (xs : List X) → q ≤ r → length (all_in made i (take q xs)) ≤ length (all_in made i (take r xs))
more made i zero r xs le = omega arith
more made i (suc q) zero xs le = absurd (omega (arith, le))
more made i (suc q) (suc r) [] le = omega arith
more made i (suc q) (suc r) (x ∷ xs) le =
    let rest = more made (suc i) q r xs (omega (arith, le)) in
    let before = length-append (made i x) (all_in made (suc i) (take q xs)) in
    let after = length-append (made i x) (all_in made (suc i) (take r xs)) in
    let all : length (made i x ++ all_in made (suc i) (take q xs)) ≤ length (made i x ++ all_in made (suc i) (take r xs)) = omega (arith, rest, before, after) in
    all

module _ (program : Program) where
  abbrev queued : List Entry
  queued = all_in queue_entries 0 program.queues

  abbrev OnQueue : ℕ → Entry → Type 0
  OnQueue q entry = queue_of entry ≡ Some q

  on_queue : (q : ℕ) (queue : Queue) → All (OnQueue q) (queue_entries q queue)
  on_queue q queue = queue_each (OnQueue q) q queue (λ b batch at. batch_each (OnQueue q) q batch (λ i d lt. refl) (λ i d lt. refl) (λ s is. refl))

  whole : first_node program (length program.queues) ≡ length queued
  whole = ap (λ l. length (all_in queue_entries 0 l)) (take-length program.queues)

  abbrev AtQueue : ℕ → ℕ → Type 0
  AtQueue n q = (q < length program.queues) × (first_node program q ≤ n) × (n < first_node program (q + 1))

  in_queues : (n : ℕ) (entry : Entry) → slice_get queued n ≡ Some entry → (q : ℕ) × (queue_of entry ≡ Some q) × (q < length program.queues) × (first_node program q ≤ n) × (n < first_node program (q + 1))
  in_queues n entry h =
      let t = located queue_entries 0 program.queues n entry h in
      let same : 0 + t.0 ≡ t.0 = omega arith in
      let own : queue_of entry ≡ Some (0 + t.0) = entry_of (OnQueue (0 + t.0)) (queue_entries (0 + t.0) t.1) t.3 entry (on_queue (0 + t.0) t.1) t.4 in
      (t.0, own ∙ ap (λ z. Some z) same, slice_get_within program.queues t.0 t.1 t.2, t.5, rw add-one t.6)

  reads_none : All (λ entry. queue_of entry ≡ None) (map OfHost program.readbacks)
  reads_none = All-map (λ entry. queue_of entry ≡ None) OfHost program.readbacks (λ i d lt. refl)

  clash : (o : Option ℕ) (q : ℕ) → o ≡ None → o ≡ Some q → ⊥
  clash None q e f = absurd cc
  clash (Some r) q e f = absurd cc

  same_queue : (q r : ℕ) → Some q ≡ Some r → q ≡ r
  same_queue q r e = cc

  pub by_queue : ByQueue program
  by_queue = record {
    queued = λ n q entry is own. ⊎_elim
        (λ h. let t = in_queues n entry h in subst (AtQueue n) (same_queue t.0 q (sym t.1 ∙ own)) (t.2, t.3, t.4))
        (λ h. absurd (clash (queue_of entry) q (entry_of (λ entry. queue_of entry ≡ None) (map OfHost program.readbacks) h.0 entry reads_none h.2) own))
        (in_part queued (map OfHost program.readbacks) n entry is);
    hosts = λ n entry is none. ⊎_elim
        (λ h. let t = in_queues n entry h in absurd (clash (queue_of entry) t.0 none t.1))
        (λ h. omega (arith, whole, h.1))
        (in_part queued (map OfHost program.readbacks) n entry is);
    rising = λ q r le. more queue_entries 0 q r program.queues le;
    count = let all = length-append queued (map OfHost program.readbacks) in let reads = length-map program.readbacks OfHost in omega (arith, all, reads, whole);
  }
