-- How long the list is of all that is recorded.
use Rattle.std.proofs.Common.{ℕ, suc, ◌*◌, ◌<◌, ◌≤◌, ◌==◌, ◌&&◌, Bool, true, false, List, [], ◌∷◌, ◌++◌, length, map, if◌then◌else◌, Option, Some, None, arith}
use Rattle.std.specs.List.{filter, flat_map, range_with_len}
use Rattle.std.proofs.lemmas.List.{length-append, length-map}
use Rattle.std.proofs.lemmas.List.FromFn.{length-range_with_len}
use Rattle.std.proofs.lemmas.List.Sums.{length-filter, count_by-le-length}
use Rattle.compile_groups.proofs.Sizes.{uses-few}
use Rattle.compile_groups.specs.Needs.{group_at, uses_in, uses_at, use_at}
use Rattle.compile_groups.specs.declared.command.Command as commands
use Rattle.compile_groups.specs.declared.grouping.Grouping.{Grouping}
use Rattle.compile_groups.specs.declared.unit_use.Use.{Use}
use Rattle.compile_groups.specs.declared.unit_use.UseAt.{UseAt}
use Rattle.compile_record.specs.Items.{items_of, prologue_items, release_item}
use Rattle.compile_record.specs.Script.{is_command, use_needs, use_prologues, is_released, use_releases, host_barrier, groups_used, does_command, block, blocks, script}
use Rattle.compile_record.specs.Wanted.{last_command, last_on, last_elsewhere, wanted_by, wanted_first, is_there, wanted_further, wanted_release}
use Rattle.compile_record.specs.declared.mark.Mark.{Mark}
use Rattle.compile_record.specs.declared.mark.Marked.{Marked}
use Rattle.compile_record.specs.declared.mark.Marked.TheVariants.{Needs}
use Rattle.compile_barriers.specs.Prologues.{first, last, earlier, prologue_of}
use Rattle.compile_barriers.specs.Under.{Heap}
use Rattle.compile_barriers.specs.Unions.{on}
use Rattle.compile_barriers.specs.declared.prologue.Prologue.{Prologue}
use Rattle.compile_barriers.specs.declared.prologue.PrologueKind.{PrologueKind}
use Rattle.compile_barriers.specs.declared.prologue.PrologueKind.TheVariants as kinds

one_each : {X Y : Type 0} (f : X → List Y) (xs : List X) → ((x : X) → length (f x) ≤ 1) → length (flat_map f xs) ≤ length xs
one_each f [] few = omega arith
one_each f (x ∷ xs) few = omega (arith, few x, one_each f xs few, length-append (f x) (flat_map f xs))

five_each : {X Y : Type 0} (f : X → List Y) (xs : List X) → ((x : X) → length (f x) ≤ 5) → length (flat_map f xs) ≤ 5 * length xs
five_each f [] few = omega arith
five_each f (x ∷ xs) few = omega (arith, few x, five_each f xs few, length-append (f x) (flat_map f xs))

both_few : {X : Type 0} (b : Bool) (xs ys : List X) → length xs ≤ 5 → length ys ≤ 5 → length (if b then xs else ys) ≤ 5
both_few true xs ys h k = h
both_few false xs ys h k = k

module _ (G : Grouping) (heap : Heap) (families : length G.families ≤ 4) where
  elsewhere_few : (q : ℕ) (A : List Use) → length (last_elsewhere G q A) ≤ 4
  elsewhere_few q A = omega (arith, families, one_each (last_on q A) (range_with_len 0 (length G.families)) one, length-range_with_len 0 (length G.families))
    where
      listed : (B : List Use) → length (last_command B) ≤ 1
      listed [] = omega arith
      listed (u ∷ uses) = omega arith

      chosen : (b : Bool) (p : ℕ) → length (if b then [] else last_command (on p A)) ≤ 1
      chosen true p = omega arith
      chosen false p = listed (on p A)

      one : (p : ℕ) → length (last_on q A p) ≤ 1
      one p = chosen (p == q) p

  wanted_few : (kind : PrologueKind) (prologue : Prologue) (A : List Use) → length (wanted_by kind G prologue A) ≤ 5
  wanted_few kinds.Nothing prologue A = omega arith
  wanted_few kinds.Barrier prologue A = omega (arith, elsewhere_few prologue.queue A)
  wanted_few kinds.Transfer prologue A = omega arith
  wanted_few kinds.Alias prologue A = omega arith
  wanted_few kinds.Init prologue A = omega arith
  wanted_few kinds.AliasInit prologue A = omega arith

  needs_few : (q c g : ℕ) → length (use_needs G heap q c g) ≤ 5
  needs_few q c g =
      both_few (is_command c (first (group_at G g))) (wanted_first G (prologue_of G heap g) (earlier G g)) (if is_command c (first (on q (group_at G g))) then wanted_further (prologue_of G heap g) else [])
      (wanted_few (prologue_of G heap g).kind (prologue_of G heap g) (earlier G g))
      (both_few (is_command c (first (on q (group_at G g)))) (wanted_further (prologue_of G heap g)) [] (both_few (is_there (prologue_of G heap g).kind) _ [] (omega arith) (omega arith)) (omega arith))

  items_few : (kind : PrologueKind) (prologue : Prologue) (A B : List Use) → length (items_of kind G prologue A B) ≤ 5
  items_few kinds.Nothing prologue A B = omega arith
  items_few kinds.Barrier prologue A B = omega arith
  items_few kinds.Transfer prologue A B = omega arith
  items_few kinds.Alias prologue A B = omega arith
  items_few kinds.Init prologue A B = omega arith
  items_few kinds.AliasInit prologue A B = omega arith

  prologues_few : (c g : ℕ) → length (use_prologues G heap c g) ≤ 5
  prologues_few c g = both_few (is_command c (first (group_at G g))) (prologue_items G (prologue_of G heap g) (earlier G g) (group_at G g)) [] (items_few (prologue_of G heap g).kind (prologue_of G heap g) (earlier G g) (group_at G g)) (omega arith)

  releases_few : (q c g : ℕ) → length (use_releases G heap q c g) ≤ 5
  releases_few q c g =
      let A : List Use = group_at G g in
      let needs : List Marked = map (Needs q) (wanted_release G A) in
      let release : Marked = release_item G g A (group_at G (suc g)) in
      both_few (is_command c (last A) && is_released G heap g) (needs ++ release ∷ []) []
      (omega (arith, length-append needs (release ∷ []), length-map (wanted_release G A) (Needs q), elsewhere_few (last A).queue A))
      (omega arith)

  module _ (few : length G.commands ≤ 288) where
    groups_few : (c : ℕ) → length (groups_used G c) ≤ 1152
    groups_few c =
        let of-command : List UseAt = filter (λ (u : UseAt). u.command == c) (uses_at G) in
        omega (arith, few, length-map of-command (λ (u : UseAt). u.group), length-filter (λ (u : UseAt). u.command == c) (uses_at G), count_by-le-length (λ (u : UseAt). u.command == c) (uses_at G), length-map (uses_in G) (use_at G.groups), uses-few G.shapes (length G.sharings) 0 G.commands)

    host_few : (command : commands.Command) (export : Option ℕ) → length (host_barrier G command export) ≤ 1
    host_few command None = omega arith
    host_few command (Some k) = omega arith

    block_few : (c : ℕ) (command : commands.Command) → length (block G heap c command) ≤ 17282
    block_few c command =
        let q : ℕ = command.queue in
        let gs : List ℕ = groups_used G c in
        let marks : List Mark = flat_map (use_needs G heap q c) gs in
        let needs : List Marked = map (Needs q) marks in
        let prologues : List Marked = flat_map (use_prologues G heap c) gs in
        let releases : List Marked = flat_map (use_releases G heap q c) gs in
        let after : List Marked = does_command G c command ∷ releases in
        let host : List Marked = host_barrier G command command.export in
        omega (
          arith,
          groups_few c,
          length-map marks (Needs q),
          five_each (use_needs G heap q c) gs (needs_few q c),
          five_each (use_prologues G heap c) gs (prologues_few c),
          five_each (use_releases G heap q c) gs (releases_few q c),
          host_few command command.export,
          length-append ((needs ++ prologues) ++ after) host,
          length-append (needs ++ prologues) after,
          length-append needs prologues,
        )

    blocks_few : (c : ℕ) (rest : List commands.Command) → length (blocks G heap c rest) ≤ 17282 * length rest
    blocks_few c [] = omega arith
    blocks_few c (command ∷ rest) = omega (arith, block_few c command, blocks_few (suc c) rest, length-append (block G heap c command) (blocks G heap (suc c) rest))

    -- a step is told by 32 bits
    pub few_steps : length (script G heap) < 4294967296
    few_steps = omega (arith, few, blocks_few 0 G.commands)
