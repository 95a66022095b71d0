-- Beside its command stands the item with each mark that is recorded.
use Rattle.std.proofs.Common.{◌≡◌, ℕ, suc, ◌<◌, ◌&&◌, true, List, [], ◌∷◌, ◌++◌, length, map, if◌then◌else◌, Some, None, refl, sym, ap, subst, eq-eqb}
use Rattle.std.specs.List.{Contains, flat_map}
use Rattle.std.specs.Option.{option_map_or}
use Rattle.std.specs.Prelude.{slice_get}
use Rattle.std.proofs.lemmas.Bool.{and_from, false≢true}
use Rattle.std.proofs.lemmas.List.Elements.{Contains-append_left, Contains-append_right, Contains-push}
use Rattle.base.specs.Operands.{mapped}
use Rattle.compile_groups.specs.Laws.{IsGrouped}
use Rattle.compile_groups.specs.Needs.{group_at, queue_of}
use Rattle.compile_groups.specs.declared.command.Command as commands
use Rattle.compile_groups.specs.declared.grouping.Grouping.{Grouping}
use Rattle.compile_record.proofs.Due.{home}
use Rattle.compile_record.specs.Standing.{beside, IsRecorded}
use Rattle.compile_record.proofs.Contained.{contains_head, contains_tail, contains_part}
use Rattle.compile_record.proofs.Membership.{first_member, last_member, is_used}
use Rattle.compile_record.specs.Items.{layouts_between, barrier, transfer, init, does_prologue, items_of, prologue_items, release_item}
use Rattle.compile_record.specs.Pieces.{piece_of}
use Rattle.compile_record.specs.Script.{is_command, use_needs, use_prologues, is_released, use_releases, host_barrier, groups_used, does_command, block}
use Rattle.compile_record.specs.Wanted.{is_there, wanted_release}
use Rattle.compile_record.specs.declared.mark.Mark.{Mark}
use Rattle.compile_record.specs.declared.mark.Mark.TheVariants.{Command, Prologue as OfPrologue, Release}
use Rattle.compile_record.specs.declared.mark.Marked.{Marked}
use Rattle.compile_record.specs.declared.mark.Marked.TheVariants.{Does, Needs}
use Rattle.program.specs.declared.program.Item.{Item}
use Rattle.program.specs.declared.program.Item.TheVariants as item
use Rattle.compile_barriers.specs.Masks.{release_masks}
use Rattle.compile_barriers.specs.Prologues.{first, last, earlier, prologue_of}
use Rattle.compile_barriers.specs.Under.{Heap}
use Rattle.compile_barriers.specs.declared.prologue.PrologueKind.{PrologueKind}
use Rattle.compile_barriers.specs.declared.prologue.PrologueKind.TheVariants as kinds

-- an item of the list has the mark, on this queue
pub record Stands (list : List Marked) (q : ℕ) (mark : Mark) : Type 0 where
  pub item : Item
  pub there : Contains list (Does q (Some mark) item)

module _ (G : Grouping) (heap : Heap) where
  -- PARTS OF A BLOCK

  of_prologues : (c : ℕ) (command : commands.Command) (x : Marked) → Contains (flat_map (use_prologues G heap c) (groups_used G c)) x → Contains (block G heap c command) x
  of_prologues c command x h =
      let gs : List ℕ = groups_used G c in
      let needs : List Marked = map (Needs command.queue) (flat_map (use_needs G heap command.queue c) gs) in
      let prologues : List Marked = flat_map (use_prologues G heap c) gs in
      let after : List Marked = does_command G c command ∷ flat_map (use_releases G heap command.queue c) gs in
      Contains-append_left ((needs ++ prologues) ++ after) (host_barrier G command command.export) x
      (Contains-append_left (needs ++ prologues) after x (Contains-append_right needs prologues x h))

  of_rest : (c : ℕ) (command : commands.Command) (x : Marked) → Contains (does_command G c command ∷ flat_map (use_releases G heap command.queue c) (groups_used G c)) x → Contains (block G heap c command) x
  of_rest c command x h =
      let gs : List ℕ = groups_used G c in
      let needs : List Marked = map (Needs command.queue) (flat_map (use_needs G heap command.queue c) gs) in
      let prologues : List Marked = flat_map (use_prologues G heap c) gs in
      let after : List Marked = does_command G c command ∷ flat_map (use_releases G heap command.queue c) gs in
      Contains-append_left ((needs ++ prologues) ++ after) (host_barrier G command command.export) x
      (Contains-append_right (needs ++ prologues) after x h)

  module _ (L : IsGrouped G) where
    command_stands : (c : ℕ) (command : commands.Command) → slice_get G.commands c ≡ Some command → Stands (block G heap c command) (queue_of G c) (Command c)
    command_stands c command there =
        let own : queue_of G c ≡ command.queue = ap (λ o. option_map_or (λ (x : commands.Command). x.queue) o 0) there in
        record {
          item = item.Command (mapped (piece_of G) command.op);
          there = subst (λ q. Contains (block G heap c command) (Does q (Some (Command c)) (item.Command (mapped (piece_of G) command.op)))) (sym own)
              (of_rest c command (does_command G c command) (contains_head (does_command G c command) (flat_map (use_releases G heap command.queue c) (groups_used G c))));
        }

    prologue_stands : (g : ℕ) → g < length G.groups → (kind : PrologueKind) → is_there kind ≡ true → Stands (items_of kind G (prologue_of G heap g) (earlier G g) (group_at G g)) (first (group_at G g)).queue (OfPrologue g)
    prologue_stands g lt kinds.Nothing e = absurd (false≢true e)
    prologue_stands g lt kinds.Barrier e =
        let it : Item = barrier (piece_of G (first (group_at G g)).unit) (layouts_between (earlier G g) (group_at G g)) (prologue_of G heap g).masks in
        record { item = it; there = contains_head (does_prologue (prologue_of G heap g) it) [] }
    prologue_stands g lt kinds.Transfer e =
        let it : Item = item.Acquire (transfer G (earlier G g) (group_at G g) (prologue_of G heap g).masks) in
        record { item = it; there = contains_head (does_prologue (prologue_of G heap g) it) [] }
    prologue_stands g lt kinds.Alias e =
        let it : Item = item.Global (prologue_of G heap g).masks in
        record { item = it; there = contains_head (does_prologue (prologue_of G heap g) it) [] }
    prologue_stands g lt kinds.Init e =
        let it : Item = init G (group_at G g) in
        record { item = it; there = contains_head (does_prologue (prologue_of G heap g) it) [] }
    prologue_stands g lt kinds.AliasInit e =
        let it : Item = init G (group_at G g) in
        let global : Marked = Does (prologue_of G heap g).queue None (item.Global (prologue_of G heap g).masks) in
        record { item = it; there = contains_tail global (does_prologue (prologue_of G heap g) it ∷ []) (does_prologue (prologue_of G heap g) it) (contains_head (does_prologue (prologue_of G heap g) it) []) }

    prologue_beside : (g : ℕ) (command : commands.Command) → g < length G.groups → is_there (prologue_of G heap g).kind ≡ true → Stands (block G heap (first (group_at G g)).command command) (first (group_at G g)).queue (OfPrologue g)
    prologue_beside g command lt e =
        let c : ℕ = (first (group_at G g)).command in
        let S : Stands (items_of (prologue_of G heap g).kind G (prologue_of G heap g) (earlier G g) (group_at G g)) (first (group_at G g)).queue (OfPrologue g) = prologue_stands g lt (prologue_of G heap g).kind e in
        let x : Marked = Does (first (group_at G g)).queue (Some (OfPrologue g)) S.item in
        let own : is_command c (first (group_at G g)) ≡ true = eq-eqb c c refl in
        record {
          item = S.item;
          there = of_prologues c command x
              (contains_part (use_prologues G heap c) (groups_used G c) g x (is_used G L g (first (group_at G g)) (first_member G L g lt))
              (subst (λ b. Contains (if b then prologue_items G (prologue_of G heap g) (earlier G g) (group_at G g) else []) x) (sym own) S.there));
        }

    release_beside : (g : ℕ) (command : commands.Command) → g < length G.groups → is_released G heap g ≡ true → Stands (block G heap (last (group_at G g)).command command) (last (group_at G g)).queue (Release g)
    release_beside g command lt e =
        let c : ℕ = (last (group_at G g)).command in
        let q : ℕ = command.queue in
        let x : Marked = release_item G g (group_at G g) (group_at G (suc g)) in
        let needs : List Marked = map (Needs q) (wanted_release G (group_at G g)) in
        let passes : (is_command c (last (group_at G g)) && is_released G heap g) ≡ true = and_from (is_command c (last (group_at G g))) (is_released G heap g) (eq-eqb c c refl) e in
        record {
          item = item.Release (transfer G (group_at G g) (group_at G (suc g)) (release_masks (group_at G g) (last (group_at G g)).queue));
          there = of_rest c command x
              (contains_tail (does_command G c command) (flat_map (use_releases G heap q c) (groups_used G c)) x
              (contains_part (use_releases G heap q c) (groups_used G c) g x (is_used G L g (last (group_at G g)) (last_member G L g lt))
              (subst (λ b. Contains (if b then needs ++ x ∷ [] else []) x) (sym passes) (Contains-push needs x))));
        }

    -- EACH MARK

    pub stands : (mark : Mark) (command : commands.Command) → IsRecorded G heap mark → slice_get G.commands (beside G mark) ≡ Some command → Stands (block G heap (beside G mark) command) (home G mark) mark
    stands (Command c) command r there = command_stands c command there
    stands (OfPrologue g) command r there = prologue_beside g command r.0 r.1
    stands (Release g) command r there = release_beside g command r.0 r.1
