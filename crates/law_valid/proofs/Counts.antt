-- How much is recorded: of each command a few barriers, and of each item a few nodes.
use Rattle.std.proofs.Common.{◌≡◌, ◌≢◌, ◌⊎◌, inl, inr, ℕ, zero, suc, ◌+◌, ◌*◌, ◌<◌, ◌≤◌, ◌==◌, ◌&&◌, ◌++◌, Bool, true, false, List, [], ◌∷◌, length, map, slice_get, if◌then◌else◌, Option, Some, None, refl, sym, ap, ◌∙◌, subst, eqb-true, arith}
use Rattle.std.proofs.Math.Nat.{mul-le-mul_left}
use Rattle.std.specs.List.{flat_map, filter, count_by, sum_by, range_with_len}
use Rattle.std.specs.Option.{option_map_or}
use Rattle.std.specs.Prelude.{is_some}
use Rattle.std.proofs.lemmas.Bool.{le-ltb}
use Rattle.std.proofs.lemmas.Bool.Decides.{eqb_tells}
use Rattle.std.proofs.lemmas.List.{length-append, length-map}
use Rattle.std.proofs.lemmas.List.Sums.{sum_by-cons, sum_by-append, length-filter}
use Rattle.base.specs.Operands.{mapped, destination_of}
use Rattle.vk.specs.declared.layout.Layout.TheVariants.{Undefined}
use Rattle.vk.specs.declared.layout.Layouts.{Layouts}
use Rattle.vk.specs.declared.masks.Masks.{Masks}
use Rattle.compile_groups.proofs.Sizes.{uses-few}
use Rattle.compile_groups.specs.Needs.{group_at, uses_in, use_at, uses_at}
use Rattle.compile_groups.specs.declared.command.Command.{Command}
use Rattle.compile_groups.specs.declared.grouping.Grouping.{Grouping}
use Rattle.compile_groups.specs.declared.unit_use.Use.{Use}
use Rattle.compile_groups.specs.declared.unit_use.UseAt.{UseAt}
use Rattle.compile_record.specs.Items.{both, barrier, layouts_between, transfer, init, items_of, prologue_items, release_item}
use Rattle.compile_record.specs.Marks.{unmarked, steps_of}
use Rattle.compile_record.specs.Pieces.{piece_of}
use Rattle.compile_record.specs.Script.{is_command, use_needs, use_prologues, is_released, use_releases, host_barrier, groups_used, does_command, block, blocks, script}
use Rattle.compile_record.specs.Wanted.{wanted_release}
use Rattle.compile_record.specs.declared.mark.Mark.{Mark}
use Rattle.compile_record.specs.declared.mark.Marked.{Marked}
use Rattle.compile_record.specs.declared.mark.Marked.TheVariants.{Does, Needs}
use Rattle.program.specs.declared.program.Item as programs
use Rattle.program.specs.declared.program.Item.TheVariants as item
use Rattle.program.specs.declared.program.Transfer as transfers
use Rattle.compile_timeline.specs.Parts.{Part, Waits, Does as Has, Signals, when, wait_for, signal_after, waits_at, step_parts, parts_at}
use Rattle.compile_timeline.specs.Places.{step_places, queue_places, places, place}
use Rattle.compile_timeline.specs.Signals.{has_signal}
use Rattle.compile_timeline.specs.Steps.{queue_of, queue_at, IsScript}
use Rattle.compile_timeline.specs.Waits.{wanted, latest, last_item, waits}
use Rattle.compile_timeline.specs.declared.step.Step.{Step}
use Rattle.compile_timeline.specs.declared.step.Step.TheVariants.{Item, Need}
use Rattle.compile_barriers.specs.Masks.{entry_masks, release_masks, host_masks}
use Rattle.compile_barriers.specs.Prologues.{first, last, earlier, prologue_of}
use Rattle.compile_barriers.specs.Under.{Heap}
use Rattle.compile_barriers.specs.declared.prologue.Prologue.{Prologue}
use Rattle.compile_barriers.specs.declared.prologue.PrologueKind.{PrologueKind}
use Rattle.compile_barriers.specs.declared.prologue.PrologueKind.TheVariants as kinds
use Rattle.law_valid.proofs.Sums.{sum_below, below_le, but_one, others, spread, at_one, length_all, sum_mapped, sum_range, sum_got, counted_once}

-- WHAT IS RECORDED

-- no barrier weighs more
pub record AreLight (w : programs.Item → ℕ) (most : ℕ) : Type 0 where
  pub global : (masks : Masks) → w (item.Global masks) ≤ most
  pub buffer : (piece : ℕ) (masks : Masks) → w (item.BufferBarrier piece masks) ≤ most
  pub image : (piece : ℕ) (layouts : Layouts) (masks : Masks) → w (item.ImageBarrier piece layouts masks) ≤ most
  pub release : (t : transfers.Transfer) → w (item.Release t) ≤ most
  pub acquire : (t : transfers.Transfer) → w (item.Acquire t) ≤ most

abbrev pub is_host : Command → ℕ
is_host command = if is_some command.export then 1 else 0

-- what a command weighs itself
abbrev pub own : (programs.Item → ℕ) → Grouping → Command → ℕ
own w G command = w (item.Command (mapped (piece_of G) command.op))

-- what is recorded
abbrev pub weight : (programs.Item → ℕ) → Marked → ℕ
weight w (Does q mark it) = w it
weight w (Needs q mark) = 0

module _ (w : programs.Item → ℕ) (most : ℕ) (light : AreLight w most) where
  barrier_light : (piece : ℕ) (layouts : Option Layouts) (masks : Masks) → w (barrier piece layouts masks) ≤ most
  barrier_light piece (Some layouts) masks = light.image piece layouts masks
  barrier_light piece None masks = light.buffer piece masks

  needs_weight : (q : ℕ) (marks : List Mark) → sum_by (weight w) (map (Needs q) marks) ≡ 0
  needs_weight q [] = refl
  needs_weight q (mark ∷ marks) = omega (arith, needs_weight q marks, sum_by-cons (weight w) (Needs q mark) (map (Needs q) marks))

  either_few : (b : Bool) (xs : List Marked) (n : ℕ) → sum_by (weight w) xs ≤ n → sum_by (weight w) (if b then xs else []) ≤ n
  either_few true xs n le = le
  either_few false xs n le = omega arith

  each_few : (f : ℕ → List Marked) (n : ℕ) (gs : List ℕ) → ((g : ℕ) → sum_by (weight w) (f g) ≤ n) → sum_by (weight w) (flat_map f gs) ≤ n * length gs
  each_few f n [] few = omega arith
  each_few f n (g ∷ gs) few = omega (arith, few g, each_few f n gs few, sum_by-append (weight w) (f g) (flat_map f gs))

  module _ (G : Grouping) (heap : Heap) where
    init_light : (B : List Use) → w (init G B) ≤ most
    init_light B = barrier_light (piece_of G (first B).unit) (both (Some Undefined) (first B).layout) (entry_masks B (first B).queue)

    items_few : (kind : PrologueKind) (prologue : Prologue) (A B : List Use) → sum_by (weight w) (items_of kind G prologue A B) ≤ 2 * most
    items_few kinds.Nothing prologue A B = omega arith
    items_few kinds.Barrier prologue A B = omega (arith, barrier_light (piece_of G (first B).unit) (layouts_between A B) prologue.masks)
    items_few kinds.Transfer prologue A B = omega (arith, light.acquire (transfer G A B prologue.masks))
    items_few kinds.Alias prologue A B = omega (arith, light.global prologue.masks)
    items_few kinds.Init prologue A B = omega (arith, init_light B)
    items_few kinds.AliasInit prologue A B = omega (arith, light.global prologue.masks, init_light B)

    prologues_few : (c g : ℕ) → sum_by (weight w) (use_prologues G heap c g) ≤ 2 * most
    prologues_few c g = either_few (is_command c (first (group_at G g))) (prologue_items G (prologue_of G heap g) (earlier G g) (group_at G g)) (2 * most) (items_few (prologue_of G heap g).kind (prologue_of G heap g) (earlier G g) (group_at G g))

    releases_few : (q c g : ℕ) → sum_by (weight w) (use_releases G heap q c g) ≤ most
    releases_few q c g =
        let A : List Use = group_at G g in
        let B : List Use = group_at G (suc g) in
        let needs : List Marked = map (Needs q) (wanted_release G A) in
        let release : Marked = release_item G g A B in
        either_few (is_command c (last A) && is_released G heap g) (needs ++ release ∷ []) most
        (omega (arith, needs_weight q (wanted_release G A), light.release (transfer G A B (release_masks A (last A).queue)), sum_by-append (weight w) needs (release ∷ [])))

    host_few : (command : Command) (export : Option ℕ) → sum_by (weight w) (host_barrier G command export) ≤ most * (if is_some export then 1 else 0)
    host_few command None = omega arith
    host_few command (Some k) = omega (arith, light.buffer (piece_of G (destination_of command.op)) host_masks)

    abbrev used : ℕ → ℕ
    used c = count_by (λ (u : UseAt). u.command == c) (uses_at G)

    groups_count : (c : ℕ) → length (groups_used G c) ≡ used c
    groups_count c = length-map (filter (λ (u : UseAt). u.command == c) (uses_at G)) (λ (u : UseAt). u.group) ∙ length-filter (λ (u : UseAt). u.command == c) (uses_at G)

    block_few : (c : ℕ) (command : Command) → sum_by (weight w) (block G heap c command) ≤ 3 * most * used c + own w G command + most * is_host command
    block_few c command =
        let q : ℕ = command.queue in
        let gs : List ℕ = groups_used G c in
        let needs : List Marked = map (Needs q) (flat_map (use_needs G heap q c) gs) in
        let prologues : List Marked = flat_map (use_prologues G heap c) gs in
        let releases : List Marked = flat_map (use_releases G heap q c) gs in
        let host : List Marked = host_barrier G command command.export in
        let count = groups_count c in
        let a = each_few (use_prologues G heap c) (2 * most) gs (prologues_few c) in
        let b = each_few (use_releases G heap q c) most gs (releases_few q c) in
        let a' : sum_by (weight w) prologues ≤ 2 * most * used c = subst (λ n. sum_by (weight w) prologues ≤ 2 * most * n) count a in
        let b' : sum_by (weight w) releases ≤ most * used c = subst (λ n. sum_by (weight w) releases ≤ most * n) count b in
        omega (
          arith,
          needs_weight q (flat_map (use_needs G heap q c) gs),
          a',
          b',
          host_few command command.export,
          sum_by-append (weight w) ((needs ++ prologues) ++ (does_command G c command ∷ releases)) host,
          sum_by-append (weight w) (needs ++ prologues) (does_command G c command ∷ releases),
          sum_by-append (weight w) needs prologues,
          sum_by-cons (weight w) (does_command G c command) releases,
        )

    blocks_few : (c : ℕ) (rest : List Command) → sum_by (weight w) (blocks G heap c rest) ≤ 3 * most * sum_by used (range_with_len c (length rest)) + sum_by (own w G) rest + most * sum_by is_host rest
    blocks_few c [] = omega arith
    blocks_few c (command ∷ rest) =
        let start : suc c ≡ c + 1 = omega arith in
        let next : sum_by used (range_with_len (suc c) (length rest)) ≡ sum_by used (range_with_len (c + 1) (length rest)) = ap (λ n. sum_by used (range_with_len n (length rest))) start in
        let uses : sum_by used (range_with_len c (suc (length rest))) ≡ used c + sum_by used (range_with_len (suc c) (length rest)) = omega (arith, next, sum_by-cons used c (range_with_len (c + 1) (length rest))) in
        omega (
          arith,
          block_few c command,
          blocks_few (suc c) rest,
          ap (λ n. 3 * most * n) uses,
          ap (λ n. most * n) (sum_by-cons is_host command rest),
          sum_by-append (weight w) (block G heap c command) (blocks G heap (suc c) rest),
          sum_by-cons (own w G) command rest,
        )

    used_few : sum_by used (range_with_len 0 (length G.commands)) ≤ 4 * length G.commands
    used_few = omega (
      arith,
      sum_range used 0 (length G.commands),
      zeroed (length G.commands),
      counted_once (λ (u : UseAt). u.command) (length G.commands) (uses_at G),
      length-map (uses_in G) (use_at G.groups),
      uses-few G.shapes (length G.sharings) 0 G.commands,
    )
      where
        zeroed : (n : ℕ) → sum_below (λ k. used (0 + k)) n ≡ sum_below used n
        zeroed zero = refl
        zeroed (suc n) = let e : 0 + n ≡ n = omega arith in let same : used (0 + n) ≡ used n = ap used e in omega (arith, zeroed n, same)

    pub script_few : sum_by (weight w) (script G heap) ≤ 3 * most * (4 * length G.commands) + sum_by (own w G) G.commands + most * sum_by is_host G.commands
    script_few =
        let all = blocks_few 0 G.commands in
        let more = mul-le-mul_left (3 * most) used_few in
        omega (arith, all, more)

-- STEPS

abbrev pub step_weight : (programs.Item → ℕ) → Step → ℕ
step_weight w (Item q it) = w it
step_weight w (Need q step) = 0

-- at a place of the list
abbrev pub weight_at : (programs.Item → ℕ) → List Step → ℕ → ℕ
weight_at w script i = option_map_or (step_weight w) (slice_get script i) 0

pub steps_weigh : (w : programs.Item → ℕ) (marked : List Marked) → sum_below (weight_at w (steps_of marked)) (length (steps_of marked)) ≡ sum_by (weight w) marked
steps_weigh w marked = sum_got (step_weight w) (steps_of marked) ∙ sum_mapped (step_weight w) (unmarked marked) marked ∙ same marked
  where
    same : (xs : List Marked) → sum_by (λ x. step_weight w (unmarked marked x)) xs ≡ sum_by (weight w) xs
    same [] = refl
    same (Does q mark it ∷ xs) = omega (arith, same xs, sum_by-cons (λ x. step_weight w (unmarked marked x)) (Does q mark it) xs, sum_by-cons (weight w) (Does q mark it) xs)
    same (Needs q mark ∷ xs) = omega (arith, same xs, sum_by-cons (λ x. step_weight w (unmarked marked x)) (Needs q mark) xs, sum_by-cons (weight w) (Needs q mark) xs)

-- what parts weigh that are of one step
pub of_one : (script : List Step) (count : ℕ) (w : programs.Item → ℕ) (size : List Part → ℕ) → size [] ≡ 0
    → ((q i : ℕ) (it : programs.Item) → q < count → size (waits_at script count q i ++ Has it ∷ when (has_signal script count q i) (Signals (signal_after script count i))) ≤ w it)
    → (q i : ℕ) → q < count → size (parts_at script count q i) ≤ at_one (queue_at script i) (λ k. weight_at w script i) q
of_one script count w size none some q i lt = by_step (slice_get script i) refl
  where
    nothing : (n : ℕ) → size [] ≤ n
    nothing n = omega (arith, none)

    by_step : (o : Option Step) → slice_get script i ≡ o → size (option_map_or (step_parts script count q i) o []) ≤ (if queue_at script i == q then option_map_or (step_weight w) o 0 else 0)
    by_step None e = nothing (if queue_at script i == q then 0 else 0)
    by_step (Some (Need r step)) e = nothing (if queue_at script i == q then 0 else 0)
    by_step (Some (Item r it)) e = go (r == q) refl
      where
        own : queue_at script i ≡ r
        own = ap (λ o. option_map_or queue_of o 0) e

        go : (b : Bool) → (r == q) ≡ b → size (if b then waits_at script count q i ++ Has it ∷ when (has_signal script count q i) (Signals (signal_after script count i)) else []) ≤ (if queue_at script i == q then w it else 0)
        go true f = subst (λ b. size (waits_at script count q i ++ Has it ∷ when (has_signal script count q i) (Signals (signal_after script count i))) ≤ (if b then w it else 0)) (sym (ap (λ n. n == q) own ∙ f)) (some q i it lt)
        go false f = nothing (if queue_at script i == q then w it else 0)

-- NODES

module _ (script : List Step) (count : ℕ) (S : IsScript script count) (few : count ≤ 4) where
  wanted_own : (q i : ℕ) (o : Option Step) → slice_get script i ≡ o → option_map_or (wanted script q q) o 0 ≡ 0
  wanted_own q i None e = refl
  wanted_own q i (Some (Item r it)) e = refl
  wanted_own q i (Some (Need r step)) e = go (r == q) (queue_at script step == q) refl refl
    where
      go : (a b : Bool) → (r == q) ≡ a → (queue_at script step == q) ≡ b → (if a && b then suc step else 0) ≡ 0
      go true true f h = absurd (S.other i r step e (eqb-true (queue_at script step) q h ∙ sym (eqb-true r q f)))
      go true false f h = refl
      go false b f h = refl

  latest_own : (q i : ℕ) → latest script q q i ≡ 0
  latest_own q zero = refl
  latest_own q (suc i) = omega (arith, wanted_own q i (slice_get script i) refl, latest_own q i)

  -- no queue waits for itself
  no_own : (q i : ℕ) → waits script q i q ≡ false
  no_own q i = le-ltb (latest script q q (last_item script q i)) (latest script q q i) (omega (arith, latest_own q i))

  when_few : {X : Type 0} (b : Bool) (x : X) → length (when b x) ≤ 1
  when_few true x = omega arith
  when_few false x = omega arith

  waits_few : (q i : ℕ) → q < count → length (waits_at script count q i) + 1 ≤ count
  waits_few q i lt = omega (arith, length_all gives count, below_le (λ p. length (gives p)) (but_one q) count (λ p l. each p (eqb_tells q p)), others q count lt)
    where
      gives : ℕ → List Part
      gives p = when (waits script q i p) (Waits (wait_for script count q i p))

      each : (p : ℕ) → (((q == p) ≡ true) × (q ≡ p)) ⊎ (((q == p) ≡ false) × (q ≢ p)) → length (when (waits script q i p) (Waits (wait_for script count q i p))) ≤ but_one q p
      each p (inl h) =
          let none : waits script q i p ≡ false = subst (λ x. waits script q i x ≡ false) h.1 (no_own q i) in
          let empty : length (when (waits script q i p) (Waits (wait_for script count q i p))) ≡ 0 = ap (λ b. length (when b (Waits (wait_for script count q i p)))) none in
          omega (arith, empty)
      each p (inr h) =
          let one : but_one q p ≡ 1 = ap (λ b. if b then 0 else 1) h.0 in
          omega (arith, one, when_few (waits script q i p) (Waits (wait_for script count q i p)))

  -- waits for other queues, an item, and a signal
  parts_few : (q i : ℕ) (it : programs.Item) → q < count → length (waits_at script count q i ++ Has it ∷ when (has_signal script count q i) (Signals (signal_after script count i))) ≤ 5
  parts_few q i it lt = omega (
    arith,
    few,
    waits_few q i lt,
    when_few (has_signal script count q i) (Signals (signal_after script count i)),
    length-append (waits_at script count q i) (Has it ∷ when (has_signal script count q i) (Signals (signal_after script count i))),
  )

  pub places_few : length (places script count) ≤ sum_below (weight_at (λ it. 5) script) (length script)
  places_few = omega (arith, length_all (queue_places script count) count, same count, spread (λ q i. length (parts_at script count q i)) (queue_at script) (weight_at (λ it. 5) script) count (length script) (λ q i lt. of_one script count (λ it. 5) (λ ps. length ps) refl parts_few q i lt))
    where
      steps : (q n : ℕ) → sum_below (λ i. length (step_places script count q i)) n ≡ sum_below (λ i. length (parts_at script count q i)) n
      steps q zero = refl
      steps q (suc n) = omega (arith, steps q n, length-map (parts_at script count q n) (place q n))

      same : (n : ℕ) → sum_below (λ q. length (queue_places script count q)) n ≡ sum_below (λ q. sum_below (λ i. length (parts_at script count q i)) (length script)) n
      same zero = refl
      same (suc n) = omega (arith, same n, length_all (step_places script count n) (length script), steps n (length script))
