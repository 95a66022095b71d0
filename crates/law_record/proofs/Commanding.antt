-- The commands on each queue of a compiled program are those of its frame there, in their order.
use Rattle.std.proofs.Common.{◌≡◌, ◌≢◌, ◌⊎◌, inl, inr, ⊎_elim, ℕ, suc, ◌<◌, ◌==◌, ◌&&◌, if◌then◌else◌, Bool, true, false, List, [], ◌∷◌, ◌++◌, length, map, Option, Some, None, refl, sym, ap, ap₂, ◌∙◌, eq-eqb, eqb-true, arith}
use Rattle.std.specs.List.{All, filter, flat_map}
use Rattle.std.specs.Option.{option_map_or}
use Rattle.std.specs.Prelude.{slice_get}
use Rattle.std.proofs.lemmas.Bool.{cases_Bool, cases_lt, ne_eqb}
use Rattle.std.proofs.lemmas.List.{append-nil}
use Rattle.std.proofs.lemmas.List.Concat.{flat_map-append}
use Rattle.std.proofs.lemmas.List.Elements.{All-head, All-tail}
use Rattle.base.specs.Operands.{mapped}
use Rattle.base.specs.declared.op.Op.{Op}
use Rattle.compile_barriers.specs.Masks.{release_masks, entry_masks}
use Rattle.compile_barriers.specs.Prologues.{first, last, earlier, prologue_of}
use Rattle.compile_barriers.specs.Under.{Heap}
use Rattle.compile_barriers.specs.declared.prologue.Prologue.{Prologue}
use Rattle.compile_barriers.specs.declared.prologue.PrologueKind.{PrologueKind}
use Rattle.compile_barriers.specs.declared.prologue.PrologueKind.TheVariants as kinds
use Rattle.compile_groups.specs.Needs.{group_at}
use Rattle.compile_groups.specs.declared.command.Command.{Command}
use Rattle.compile_groups.specs.declared.grouping.Grouping.{Grouping}
use Rattle.compile_groups.specs.declared.unit_use.Use.{Use}
use Rattle.compile_record.specs.Items.{both, barrier, init, layouts_between, transfer, items_of, prologue_items, release_item}
use Rattle.compile_record.specs.Marks.{unmarked, steps_of}
use Rattle.compile_record.specs.Pieces.{piece_of}
use Rattle.compile_record.specs.Script.{is_command, use_needs, use_prologues, is_released, use_releases, host_barrier, groups_used, does_command, block, blocks, script}
use Rattle.compile_record.specs.Standing.{host_item}
use Rattle.compile_record.specs.Wanted.{wanted_release}
use Rattle.compile_record.specs.declared.mark.Mark.{Mark}
use Rattle.compile_record.specs.declared.mark.Mark.TheVariants as marks
use Rattle.compile_record.specs.declared.mark.Marked.{Marked}
use Rattle.compile_record.specs.declared.mark.Marked.TheVariants.{Does, Needs}
use Rattle.compile_timeline.proofs.Below.{same_below}
use Rattle.compile_timeline.specs.Below.{all_below}
use Rattle.compile_timeline.specs.Parts.{Part, Waits, Signals, Does as DoesItem, when, signal_after, parts_at}
use Rattle.compile_timeline.specs.Places.{places, part_entry, entry_of}
use Rattle.compile_timeline.specs.Signals.{has_signal}
use Rattle.compile_timeline.specs.declared.step.Step.{Step}
use Rattle.compile_timeline.specs.declared.step.Step.TheVariants as steps
use Rattle.law_record.proofs.Counted.{listed, of_queue, of_none, of_item, of_need, of_foreign, of_nothing}
use Rattle.law_record.specs.Carried.{command_in, command_of, commands_on, carried_on}
use Rattle.program.specs.Entries.{OfHost, entries_of}
use Rattle.program.specs.declared.program.Item.{Item}
use Rattle.program.specs.declared.program.Item.TheVariants as item
use Rattle.program.specs.declared.program.Program.{Program}
use Rattle.vk.specs.declared.layout.Layout.TheVariants.{Undefined}
use Rattle.vk.specs.declared.layout.Layouts.{Layouts}
use Rattle.vk.specs.declared.masks.Masks.{Masks}

-- BY STEPS

abbrev part_command : Part → List (Op ℕ)
part_command (Waits wait) = []
part_command (DoesItem it) = command_in it
part_command (Signals signal) = []

abbrev step_command : ℕ → Step → List (Op ℕ)
step_command q (steps.Item r it) = if r == q then command_in it else []
step_command q (steps.Need r j) = []

module _ (q : ℕ) where
  own : (r : ℕ) (part : Part) → r ≡ q → command_of q (part_entry r part) ≡ part_command part
  own r (Waits wait) same = refl
  own r (DoesItem it) same = ap (λ b. if b then command_in it else []) (eq-eqb r q same)
  own r (Signals signal) same = refl

  other : (r : ℕ) (part : Part) → r ≢ q → command_of q (part_entry r part) ≡ []
  other r (Waits wait) differ = refl
  other r (DoesItem it) differ = ap (λ b. if b then command_in it else []) (ne_eqb r q differ)
  other r (Signals signal) differ = refl

  host : (piece : ℕ) → command_of q (OfHost piece) ≡ []
  host piece = refl

module _ (list : List Step) (count q : ℕ) where
  no_signal : (b : Bool) (i : ℕ) → flat_map part_command (when b (Signals (signal_after list count i))) ≡ []
  no_signal true i = refl
  no_signal false i = refl

  step_commands : (i : ℕ) → flat_map part_command (parts_at list count q i) ≡ option_map_or (step_command q) (slice_get list i) []
  step_commands i = go (slice_get list i) refl
    where
      go : (o : Option Step) → slice_get list i ≡ o → flat_map part_command (parts_at list count q i) ≡ option_map_or (step_command q) (slice_get list i) []
      go None e = of_nothing part_command list count q i (λ p. refl) e ∙ sym (ap (λ o. option_map_or (step_command q) o []) e)
      go (Some (steps.Need r j)) e = of_need part_command list count q i (λ p. refl) r j e ∙ sym (ap (λ o. option_map_or (step_command q) o []) e)
      go (Some (steps.Item r it)) e = by (cases_Bool (r == q))
        where
          by : ((r == q) ≡ true) ⊎ ((r == q) ≡ false) → flat_map part_command (parts_at list count q i) ≡ option_map_or (step_command q) (slice_get list i) []
          by (inl t) =
              of_item part_command list count q i (λ p. refl) it (e ∙ ap (λ z. Some (steps.Item z it)) (eqb-true r q t))
              ∙ ap (λ ys. command_in it ++ ys) (no_signal (has_signal list count q i) i)
              ∙ append-nil (command_in it)
              ∙ sym (ap (λ o. option_map_or (step_command q) o []) e ∙ ap (λ b. if b then command_in it else []) t)
          by (inr f) = of_foreign part_command list count q i (λ p. refl) r it f e ∙ sym (ap (λ o. option_map_or (step_command q) o []) e ∙ ap (λ b. if b then command_in it else []) f)

  by_steps : all_below (λ i. flat_map part_command (parts_at list count q i)) (length list) ≡ flat_map (step_command q) list
  by_steps = same_below (λ i. flat_map part_command (parts_at list count q i)) (λ i. option_map_or (step_command q) (slice_get list i) []) (length list) (λ i low. step_commands i) ∙ listed (step_command q) list

-- BY MARKS

abbrev marked_command : ℕ → Marked → List (Op ℕ)
marked_command q (Does r mark it) = if r == q then command_in it else []
marked_command q (Needs r mark) = []

by_marks : (q : ℕ) (all marked : List Marked) → flat_map (step_command q) (map (unmarked all) marked) ≡ flat_map (marked_command q) marked
by_marks q all [] = refl
by_marks q all (Does r mark it ∷ marked) = ap (λ ys. (if r == q then command_in it else []) ++ ys) (by_marks q all marked)
by_marks q all (Needs r mark ∷ marked) = by_marks q all marked

-- NO COMMAND

module _ (q : ℕ) where
  chosen_none : (b : Bool) (it : Item) → command_in it ≡ [] → (if b then command_in it else []) ≡ []
  chosen_none true it e = e
  chosen_none false it e = refl

  no_barrier : (piece : ℕ) (layouts : Option Layouts) (masks : Masks) → command_in (barrier piece layouts masks) ≡ []
  no_barrier piece None masks = refl
  no_barrier piece (Some layouts) masks = refl

  one_none : (r : ℕ) (of : Option Mark) (it : Item) → command_in it ≡ [] → flat_map (marked_command q) (Does r of it ∷ []) ≡ []
  one_none r of it e = append-nil (if r == q then command_in it else []) ∙ chosen_none (r == q) it e

  no_items : (kind : PrologueKind) (G : Grouping) (prologue : Prologue) (A B : List Use) → flat_map (marked_command q) (items_of kind G prologue A B) ≡ []
  no_items kinds.Nothing G prologue A B = refl
  no_items kinds.Barrier G prologue A B = one_none prologue.queue (Some (marks.Prologue prologue.group)) (barrier (piece_of G (first B).unit) (layouts_between A B) prologue.masks) (no_barrier (piece_of G (first B).unit) (layouts_between A B) prologue.masks)
  no_items kinds.Transfer G prologue A B = one_none prologue.queue (Some (marks.Prologue prologue.group)) (item.Acquire (transfer G A B prologue.masks)) refl
  no_items kinds.Alias G prologue A B = one_none prologue.queue (Some (marks.Prologue prologue.group)) (item.Global prologue.masks) refl
  no_items kinds.Init G prologue A B = one_none prologue.queue (Some (marks.Prologue prologue.group)) (init G B) (no_barrier (piece_of G (first B).unit) (both (Some Undefined) (first B).layout) (entry_masks B (first B).queue))
  no_items kinds.AliasInit G prologue A B = ap₂ (λ a b. a ++ b) (chosen_none (prologue.queue == q) (item.Global prologue.masks) refl) (one_none prologue.queue (Some (marks.Prologue prologue.group)) (init G B) (no_barrier (piece_of G (first B).unit) (both (Some Undefined) (first B).layout) (entry_masks B (first B).queue)))

  chosen_items : (b : Bool) (xs : List Marked) → flat_map (marked_command q) xs ≡ [] → flat_map (marked_command q) (if b then xs else []) ≡ []
  chosen_items true xs e = e
  chosen_items false xs e = refl

  no_needs : (r : ℕ) (marks : List Mark) → flat_map (marked_command q) (map (Needs r) marks) ≡ []
  no_needs r [] = refl
  no_needs r (mark ∷ marks) = no_needs r marks

  no_parts : {X : Type 0} (f : X → List Marked) (xs : List X) → ((x : X) → flat_map (marked_command q) (f x) ≡ []) → flat_map (marked_command q) (flat_map f xs) ≡ []
  no_parts f [] none = refl
  no_parts f (x ∷ xs) none = flat_map-append (marked_command q) (f x) (flat_map f xs) ∙ ap₂ (λ a b. a ++ b) (none x) (no_parts f xs none)

  module _ (G : Grouping) (heap : Heap) where
    no_prologues : (c g : ℕ) → flat_map (marked_command q) (use_prologues G heap c g) ≡ []
    no_prologues c g = chosen_items (is_command c (first (group_at G g))) (prologue_items G (prologue_of G heap g) (earlier G g) (group_at G g)) (no_items (prologue_of G heap g).kind G (prologue_of G heap g) (earlier G g) (group_at G g))

    no_releases : (r c g : ℕ) → flat_map (marked_command q) (use_releases G heap r c g) ≡ []
    no_releases r c g = chosen_items (is_command c (last (group_at G g)) && is_released G heap g) (map (Needs r) (wanted_release G (group_at G g)) ++ release_item G g (group_at G g) (group_at G (suc g)) ∷ [])
        (flat_map-append (marked_command q) (map (Needs r) (wanted_release G (group_at G g))) (release_item G g (group_at G g) (group_at G (suc g)) ∷ [])
        ∙ ap₂ (λ a b. a ++ b) (no_needs r (wanted_release G (group_at G g))) (one_none (last (group_at G g)).queue (Some (marks.Release g)) (item.Release (transfer G (group_at G g) (group_at G (suc g)) (release_masks (group_at G g) (last (group_at G g)).queue))) refl))

    no_host : (command : Command) (export : Option ℕ) → flat_map (marked_command q) (host_barrier G command export) ≡ []
    no_host command None = refl
    no_host command (Some k) = one_none command.queue None (host_item G command) refl

    block_commands : (c : ℕ) (command : Command) → flat_map (marked_command q) (block G heap c command) ≡ (if command.queue == q then mapped (piece_of G) command.op ∷ [] else [])
    block_commands c command =
        flat_map-append F ((needs ++ before) ++ (does_command G c command ∷ after)) end
        ∙ ap₂ (λ a b. a ++ b) middle (no_host command command.export)
        ∙ append-nil (if command.queue == q then mapped (piece_of G) command.op ∷ [] else [])
      where
        F : Marked → List (Op ℕ)
        F = marked_command q

        needs : List Marked
        needs = map (Needs command.queue) (flat_map (use_needs G heap command.queue c) (groups_used G c))

        before : List Marked
        before = flat_map (use_prologues G heap c) (groups_used G c)

        after : List Marked
        after = flat_map (use_releases G heap command.queue c) (groups_used G c)

        end : List Marked
        end = host_barrier G command command.export

        head : flat_map F (needs ++ before) ≡ []
        head = flat_map-append F needs before ∙ ap₂ (λ a b. a ++ b) (no_needs command.queue (flat_map (use_needs G heap command.queue c) (groups_used G c))) (no_parts (use_prologues G heap c) (groups_used G c) (no_prologues c))

        middle : flat_map F ((needs ++ before) ++ (does_command G c command ∷ after)) ≡ (if command.queue == q then mapped (piece_of G) command.op ∷ [] else [])
        middle =
            flat_map-append F (needs ++ before) (does_command G c command ∷ after)
            ∙ ap₂ (λ a b. a ++ ((if command.queue == q then mapped (piece_of G) command.op ∷ [] else []) ++ b)) head (no_parts (use_releases G heap command.queue c) (groups_used G c) (no_releases command.queue c))
            ∙ append-nil (if command.queue == q then mapped (piece_of G) command.op ∷ [] else [])

    one_more : (b : Bool) (command : Command) (more : List Command) → (if b then mapped (piece_of G) command.op ∷ [] else []) ++ map (λ c. mapped (piece_of G) c.op) more ≡ map (λ (c : Command). mapped (piece_of G) c.op) (if b then command ∷ more else more)
    one_more true command more = refl
    one_more false command more = refl

    blocks_commands : (c : ℕ) (all : List Command) → flat_map (marked_command q) (blocks G heap c all) ≡ carried_on G q all
    blocks_commands c [] = refl
    blocks_commands c (command ∷ all) =
        flat_map-append (marked_command q) (block G heap c command) (blocks G heap (suc c) all)
        ∙ ap₂ (λ a b. a ++ b) (block_commands c command) (blocks_commands (suc c) all)
        ∙ one_more (command.queue == q) command (filter (λ (x : Command). x.queue == q) all)

-- ALL OF A PROGRAM

none_of : (G : Grouping) (q : ℕ) (all : List Command) → All (λ (command : Command). command.queue < q) all → carried_on G q all ≡ []
none_of G q [] low = refl
none_of G q (command ∷ all) low =
    let less = All-head (λ (c : Command). c.queue < q) command all low in
    let rest : List Command = filter (λ (x : Command). x.queue == q) all in
    ap (λ b. map (λ (c : Command). mapped (piece_of G) c.op) (if b then command ∷ rest else rest)) (ne_eqb command.queue q (λ e. omega (arith, e, less))) ∙ none_of G q all (All-tail (λ (c : Command). c.queue < q) command all low)

pub all_commands : (G : Grouping) (heap : Heap) (program : Program) (count q : ℕ) → All (λ (command : Command). command.queue < count) G.commands → entries_of program ≡ map entry_of (places (steps_of (script G heap)) count) ++ map OfHost program.readbacks → commands_on program q ≡ carried_on G q G.commands
all_commands G heap program count q known E = ⊎_elim
    (λ lt. of_queue q (command_of q) part_command (own q) (other q) (host q) (steps_of (script G heap)) count program E lt ∙ by_steps (steps_of (script G heap)) count q ∙ by_marks q (script G heap) (script G heap) ∙ blocks_commands q G heap 0 G.commands)
    (λ ge. of_none q (command_of q) part_command (own q) (other q) (host q) (steps_of (script G heap)) count program E ge ∙ sym (none_of G q G.commands (λ k d lt. let low = known k d lt in omega (arith, low, ge))))
    (cases_lt q count)
