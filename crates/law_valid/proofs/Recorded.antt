-- Each item of what is recorded obeys every rule: it is a command, what stands before or after a group, or a barrier for the host.
use Rattle.std.proofs.Common.{◌≡◌, ℕ, zero, suc, ◌+◌, ◌-◌, ◌<◌, ◌≤◌, ◌==◌, ◌&&◌, ◌++◌, nat_lt, not, Bool, true, false, List, [], ◌∷◌, length, map, get_or, if◌then◌else◌, Option, Some, None, IfSome, refl, sym, ap, ◌∙◌, subst, arith}
use Rattle.std.specs.List.{All, flat_map, filter, list_all}
use Rattle.std.specs.Prelude.{is_some}
use Rattle.std.proofs.lemmas.Bool.{and_from, and_parts, lt-ltb, le-leb}
use Rattle.std.proofs.Math.Seq.{get_or-append_seam}
use Rattle.std.proofs.lemmas.List.{get_or_append_left, length-append}
use Rattle.std.proofs.lemmas.List.Elements.{All-nil, All-append, All-map, All-filter}
use Rattle.std.proofs.lemmas.List.Sums.{list_all-from_AllPass}
use Rattle.std.proofs.lemmas.Option.{slice_get_within, get_or_from_slice_get}
use Rattle.base.proofs.Lists.{one, each_of}
use Rattle.base.proofs.Operands.{operands_mapped, mapped_twice, mapped_same, runs_mapped}
use Rattle.base.specs.Fits.{fits}
use Rattle.base.specs.InPlace.{in_place}
use Rattle.base.specs.Operands.{sources_of, destination_of, operands_of, mapped}
use Rattle.base.specs.Runs.{runs}
use Rattle.base.specs.Shapes.{shape_at}
use Rattle.base.specs.declared.shape.Shape.{Shape}
use Rattle.base.specs.declared.shape.Shape.TheVariants.{Buffer}
use Rattle.vk.specs.Sharings.{is_shared}
use Rattle.frame.specs.Valid.{IsValid}
use Rattle.frame.specs.Numbered.{NumberedFrame}
use Rattle.compile_groups.specs.Groups.{family_of, sharing_of, shares, grouping}
use Rattle.compile_groups.specs.Laws.{IsGrouped, IsKnown}
use Rattle.compile_groups.specs.Needs.{group_at, goes_on, uses_in, use_at, uses_at}
use Rattle.compile_groups.specs.Placed.{is_import}
use Rattle.compile_groups.specs.Uses.{no_use}
use Rattle.compile_groups.specs.declared.command.Command.{Command}
use Rattle.compile_groups.specs.declared.grouping.Grouping.{Grouping}
use Rattle.compile_groups.specs.declared.unit_use.Use.{Use}
use Rattle.compile_groups.specs.declared.unit_use.UseAt.{UseAt}
use Rattle.compile_record.specs.Items.{prologue_items, release_item}
use Rattle.compile_record.specs.Pieces.{has_piece, is_readback, piece_of}
use Rattle.compile_record.specs.Script.{is_command, use_needs, use_prologues, is_released, use_releases, host_barrier, groups_used, does_command, block, blocks, script}
use Rattle.compile_record.specs.Wanted.{wanted_release}
use Rattle.compile_record.specs.declared.mark.Mark.{Mark}
use Rattle.compile_record.specs.declared.mark.Marked.{Marked}
use Rattle.compile_record.specs.declared.mark.Marked.TheVariants.{Does, Needs}
use Rattle.program.specs.Ranges.{has_operands, op_in_range}
use Rattle.program.specs.declared.program.Item.TheVariants as item
use Rattle.compile_barriers.specs.Masks.{host_masks}
use Rattle.compile_barriers.specs.Prologues.{first, last, has_uses, earlier, first_kind, prologue_of, is_transfer}
use Rattle.compile_barriers.specs.Under.{Heap, place_of, uses_under}
use Rattle.compile_barriers.specs.declared.prologue.PrologueKind.{PrologueKind}
use Rattle.compile_barriers.specs.declared.prologue.PrologueKind.TheVariants.{Nothing, Barrier, Transfer, Alias, Init, AliasInit}
use Rattle.law_valid.proofs.Commands.{all_run, all_fit, none_in_place, exports_into}
use Rattle.law_valid.proofs.Items.{HasShape, buffer_obeys, command_obeys}
use Rattle.law_valid.proofs.Masks.{host_good}
use Rattle.law_valid.proofs.Members.{group_fit, under_fit, some_use, next_within, next_unit, family_kept}
use Rattle.law_valid.proofs.Numbers.{apart}
use Rattle.law_valid.proofs.Ops.{not_in_place}
use Rattle.law_valid.proofs.Pieces.{piece_shapes, shaped, buffers_read, imports_count}
use Rattle.law_valid.proofs.Touched.{operand_piece, member_piece}
use Rattle.law_valid.proofs.Prologues.{MarkedObeys, AreAfter, release_right, prologue_right}
use Rattle.law_valid.proofs.Uses.{FitsIn}

either : {X : Type 0} (P : X → Type 0) (b : Bool) (xs : List X) → (b ≡ true → All P xs) → All P (if b then xs else [])
either P true xs h = h refl
either P false xs h = All-nil P

-- a transfer stands where two groups do not share the unit
transfer_at : (a s i l y : Bool) → (if a then (if s then Barrier else Transfer) else if i then Nothing else first_kind l y) ≡ Transfer → s ≡ false
transfer_at true true i l y e = absurd cc
transfer_at true false i l y e = refl
transfer_at false s true l y e = absurd cc
transfer_at false s false false false e = absurd cc
transfer_at false s false false true e = absurd cc
transfer_at false s false true false e = absurd cc
transfer_at false s false true true e = absurd cc

pub is_transfer_kind : (kind : PrologueKind) → is_transfer kind ≡ true → kind ≡ Transfer
is_transfer_kind Nothing e = absurd cc
is_transfer_kind Barrier e = absurd cc
is_transfer_kind Transfer e = refl
is_transfer_kind Alias e = absurd cc
is_transfer_kind Init e = absurd cc
is_transfer_kind AliasInit e = absurd cc

module _ (frame : NumberedFrame) (kept : List Bool) (good : IsValid frame) (L : IsGrouped (grouping frame kept)) (K : IsKnown (grouping frame kept)) (heap : Heap) (offsets : List ℕ) where
  abbrev G : Grouping
  G = grouping frame kept

  abbrev shapes : List Shape
  shapes = piece_shapes G offsets

  abbrev Right : Marked → Type 0
  Right = MarkedObeys G shapes

  run : All (λ command. runs command.op (family_of G.families command.queue) ≡ true) G.commands
  run = all_run frame kept good

  -- GROUPS

  member_below : (g k : ℕ) (d : Use) → g < length G.groups → k < length (group_at G g) → (get_or (group_at G g) k d).unit < length G.shapes
  member_below g k d lt lk = let low = (L-known g k d lt lk) in let few = K.shapes in omega (arith, low, few)
    where
      L-known : (g k : ℕ) (d : Use) → g < length G.groups → k < length (group_at G g) → (get_or (group_at G g) k d).unit < length G.imports
      L-known g k d lt lk = (K.members g [] lt k d lk).0

  group_shape : (g : ℕ) → g < length G.groups → HasShape shapes (piece_of G (first (group_at G g)).unit) (shape_at G.shapes (first (group_at G g)).unit)
  group_shape g lt =
      let some = some_use G L run g lt in
      shaped G offsets (first (group_at G g)).unit (member_below g 0 no_use lt some) (member_piece G L K g 0 no_use lt some)

  -- a group after the one before it
  after_group : (g : ℕ) → goes_on G g ≡ true → AreAfter G shapes (group_at G g) (group_at G (suc g))
  after_group g goes =
      let within : suc g < length G.groups = next_within G L run g goes in
      let under : g < length G.groups = omega (arith, within) in
      let some = some_use G L run g under in
      record {
        fit_first = group_fit G L run g;
        fit_second = group_fit G L run (suc g);
        some_second = some_use G L run (suc g) within;
        piece = group_shape (suc g) within;
        unit = λ more. next_unit G L run g goes (length (group_at G g) - 1) 0 no_use no_use (omega (arith, some)) (some_use G L run (suc g) within);
        family = λ more own. family_kept G L run g under (subst (λ unit. is_shared (sharing_of G.sharings unit) ≡ false) (sym (next_unit G L run g goes 0 0 no_use no_use some (some_use G L run (suc g) within))) own);
      }

  after_none : (g : ℕ) → g < length G.groups → AreAfter G shapes [] (group_at G g)
  after_none g lt = record {
    fit_first = All-nil (FitsIn G);
    fit_second = group_fit G L run g;
    some_second = some_use G L run g lt;
    piece = group_shape g lt;
    unit = λ none. absurd (omega (arith, none));
    family = λ none own. absurd (omega (arith, none));
  }

  after_earlier : (g : ℕ) → g < length G.groups → AreAfter G shapes (earlier G g) (group_at G g)
  after_earlier zero lt = after_none zero lt
  after_earlier (suc g) lt = go (goes_on G g) refl
    where
      go : (b : Bool) → goes_on G g ≡ b → AreAfter G shapes (if b then group_at G g else []) (group_at G (suc g))
      go true e = after_group g e
      go false e = after_none (suc g) lt

  prologues_right : (c g : ℕ) → g < length G.groups → All Right (use_prologues G heap c g)
  prologues_right c g lt = either Right (is_command c (first (group_at G g))) (prologue_items G (prologue_of G heap g) (earlier G g) (group_at G g))
      (λ own. prologue_right G shapes (earlier G g) (group_at G g) (after_earlier g lt) (uses_under G heap (place_of G (first (group_at G g)).unit)) (under_fit G L run heap (place_of G (first (group_at G g)).unit)) g)

  needs_right : (q : ℕ) (marks : List Mark) → All Right (map (Needs q) marks)
  needs_right q marks = All-map Right (Needs q) marks (λ k d lt. tt)

  releases_right : (q c g : ℕ) → All Right (use_releases G heap q c g)
  releases_right q c g = either Right (is_command c (last (group_at G g)) && is_released G heap g) (map (Needs q) (wanted_release G (group_at G g)) ++ release_item G g (group_at G g) (group_at G (suc g)) ∷ [])
      (λ own. All-append Right (map (Needs q) (wanted_release G (group_at G g))) (release_item G g (group_at G g) (group_at G (suc g)) ∷ [])
      (needs_right q (wanted_release G (group_at G g)))
      (one Right (release_item G g (group_at G g) (group_at G (suc g))) (released (and_parts (is_command c (last (group_at G g))) (is_released G heap g) own).1)))
    where
      released : is_released G heap g ≡ true → Right (release_item G g (group_at G g) (group_at G (suc g)))
      released e =
          let parts = and_parts (goes_on G g) (is_transfer (prologue_of G heap (suc g)).kind) e in
          let before : earlier G (suc g) ≡ group_at G g = ap (λ b. if b then group_at G g else []) parts.0 in
          let kind = is_transfer_kind (prologue_of G heap (suc g)).kind parts.1 in
          let apart : shares G.families G.sharings (first (group_at G (suc g))).unit (first (earlier G (suc g))).queue (first (group_at G (suc g))).queue ≡ false = not_shared (suc g) kind in
          let within : suc g < length G.groups = next_within G L run g parts.0 in
          release_right G shapes (group_at G g) (group_at G (suc g)) (after_group g parts.0) (some_use G L run g (omega (arith, within)))
          (subst (λ X. shares G.families G.sharings (first (group_at G (suc g))).unit (first X).queue (first (group_at G (suc g))).queue ≡ false) before apart)
        where
          not_shared : (h : ℕ) → (prologue_of G heap h).kind ≡ Transfer → shares G.families G.sharings (first (group_at G h)).unit (first (earlier G h)).queue (first (group_at G h)).queue ≡ false
          not_shared h kind = transfer_at (has_uses (earlier G h)) (shares G.families G.sharings (first (group_at G h)).unit (first (earlier G h)).queue (first (group_at G h)).queue) (is_import G (first (group_at G h)).unit) (has_uses (uses_under G heap (place_of G (first (group_at G h)).unit))) (is_some (first (group_at G h)).layout) kind

  -- the groups that a command uses are there
  used_within : (c : ℕ) → All (λ g. g < length G.groups) (groups_used G c)
  used_within c = All-map (λ g. g < length G.groups) (λ (u : UseAt). u.group) (filter (λ u. u.command == c) (uses_at G))
      (All-filter (λ (u : UseAt). u.command == c) (λ (u : UseAt). u.group < length G.groups) (uses_at G)
      (All-map (λ (u : UseAt). u.group < length G.groups) (use_at G.groups) (uses_in G) (λ k d lt. (L.found k d lt).group)))

  -- COMMANDS

  module _ (c : ℕ) (d : Command) (lt : c < length G.commands) where
    abbrev command : Command
    command = get_or G.commands c d

    operand_below : (k e : ℕ) → k < length (operands_of command.op) → get_or (operands_of command.op) k e < length G.shapes
    operand_below k e lk = K.operands c d lt k e lk

    operand_shape : All (λ r. shape_at shapes (piece_of G r) ≡ shape_at G.shapes r) (operands_of command.op)
    operand_shape k e lk =
        let r : ℕ = get_or (operands_of command.op) k e in
        get_or_from_slice_get shapes (piece_of G r) (shape_at G.shapes r) (Buffer 0) (shaped G offsets r (operand_below k e lk) (operand_piece G L K c d lt k e lk))

    operands_there : has_operands shapes (mapped (piece_of G) command.op) ≡ true
    operands_there =
        ap (list_all (λ n. nat_lt n (length shapes))) (operands_mapped (piece_of G) command.op)
        ∙ list_all-from_AllPass (λ n. nat_lt n (length shapes)) (map (piece_of G) (operands_of command.op))
        (All-map (λ n. nat_lt n (length shapes) ≡ true) (piece_of G) (operands_of command.op)
        (λ k e lk. let r : ℕ = get_or (operands_of command.op) k e in lt-ltb (piece_of G r) (length shapes) (slice_get_within shapes (piece_of G r) (shape_at G.shapes r) (shaped G offsets r (operand_below k e lk) (operand_piece G L K c d lt k e lk)))))

    fits_pieces : fits (mapped (shape_at shapes) (mapped (piece_of G) command.op)) ≡ true
    fits_pieces =
        ap fits (mapped_twice (shape_at shapes) (piece_of G) command.op ∙ mapped_same (λ r. shape_at shapes (piece_of G r)) (shape_at G.shapes) command.op operand_shape)
        ∙ all_fit frame kept good c d lt

    -- of two operands with one piece each is the other
    same_piece : (j k e f : ℕ) → j < length (operands_of command.op) → k < length (operands_of command.op) → piece_of G (get_or (operands_of command.op) j e) ≡ piece_of G (get_or (operands_of command.op) k f) → get_or (operands_of command.op) j e ≡ get_or (operands_of command.op) k f
    same_piece j k e f lj lk is = apart (has_piece G) (length G.shapes) (get_or (operands_of command.op) j e) (get_or (operands_of command.op) k f) (operand_below j e lj) (operand_below k f lk) (operand_piece G L K c d lt j e lj) (operand_piece G L K c d lt k f lk) is

    sources_apart : All (λ s. piece_of G s ≡ piece_of G (destination_of command.op) → s ≡ destination_of command.op) (sources_of command.op)
    sources_apart k e lk is =
        let sources : List ℕ = sources_of command.op in
        let dst : ℕ = destination_of command.op in
        let all : length (operands_of command.op) ≡ length sources + 1 = length-append sources (dst ∷ []) in
        let source : get_or (operands_of command.op) k e ≡ get_or sources k e = get_or_append_left sources (dst ∷ []) e k lk in
        let target : get_or (operands_of command.op) (length sources) e ≡ dst = get_or-append_seam sources dst [] e in
        sym source ∙ same_piece k (length sources) e e (omega (arith, all, lk)) (omega (arith, all)) (ap (piece_of G) source ∙ is ∙ ap (piece_of G) (sym target)) ∙ target

    apart_pieces : in_place (mapped (piece_of G) command.op) ≡ false
    apart_pieces = not_in_place (piece_of G) command.op sources_apart (none_in_place frame kept good c d lt)

    in_range : op_in_range shapes (mapped (piece_of G) command.op) ≡ true
    in_range =
        ap (λ b. if b then fits (mapped (shape_at shapes) (mapped (piece_of G) command.op)) && not (in_place (mapped (piece_of G) command.op)) else true) operands_there
        ∙ and_from (fits (mapped (shape_at shapes) (mapped (piece_of G) command.op))) (not (in_place (mapped (piece_of G) command.op))) fits_pieces (ap not apart_pieces)

    command_right : Right (does_command G c command)
    command_right = command_obeys shapes (family_of G.families command.queue) (mapped (piece_of G) command.op) in_range operands_there (runs_mapped (piece_of G) (family_of G.families command.queue) command.op ∙ run c d lt)

    host_right : (export : Option ℕ) → IfSome export (λ k. length frame.units ≤ destination_of command.op) → All Right (host_barrier G command export)
    host_right None low = All-nil Right
    host_right (Some k) low =
        let dst : ℕ = destination_of command.op in
        let sources : List ℕ = sources_of command.op in
        let all : length (operands_of command.op) ≡ length sources + 1 = length-append sources (dst ∷ []) in
        let imports = imports_count frame kept good in
        let target : get_or (operands_of command.op) (length sources) 0 ≡ dst = get_or-append_seam sources dst [] 0 in
        let below : dst < length G.shapes = subst (λ n. n < length G.shapes) target (operand_below (length sources) 0 (omega (arith, all))) in
        let read : is_readback G dst ≡ true = le-leb (length G.imports) dst (omega (arith, imports, low)) in
        let has : has_piece G dst ≡ true = subst (λ n. has_piece G n ≡ true) target (operand_piece G L K c d lt (length sources) 0 (omega (arith, all))) in
        one Right (Does command.queue None (item.BufferBarrier (piece_of G dst) host_masks))
        (buffer_obeys shapes (family_of G.families command.queue) (piece_of G dst) (shape_at G.shapes dst) host_masks (shaped G offsets dst below has) (buffers_read frame kept good dst below read) (host_good (family_of G.families command.queue)))

    block_right : All Right (block G heap c command)
    block_right =
        let q : ℕ = command.queue in
        let gs : List ℕ = groups_used G c in
        let needs : List Marked = map (Needs q) (flat_map (use_needs G heap q c) gs) in
        let prologues : List Marked = flat_map (use_prologues G heap c) gs in
        let releases : List Marked = flat_map (use_releases G heap q c) gs in
        All-append Right ((needs ++ prologues) ++ (does_command G c command ∷ releases)) (host_barrier G command command.export)
        (All-append Right (needs ++ prologues) (does_command G c command ∷ releases)
        (All-append Right needs prologues
        (needs_right q (flat_map (use_needs G heap q c) gs))
        (each_of Right (use_prologues G heap c) gs (λ k e l. prologues_right c (get_or gs k e) (used_within c k e l))))
        (All-append Right (does_command G c command ∷ []) releases
        (one Right (does_command G c command) command_right)
        (each_of Right (use_releases G heap q c) gs (λ k e l. releases_right q c (get_or gs k e)))))
        (host_right command.export (exports_into frame kept good c d lt))

  -- ALL COMMANDS

  blocks_right : (c : ℕ) (rest : List Command) → ((k : ℕ) (d : Command) → k < length rest → All Right (block G heap (c + k) (get_or rest k d))) → All Right (blocks G heap c rest)
  blocks_right c [] each = All-nil Right
  blocks_right c (command ∷ rest) each =
      let z : c + 0 ≡ c = omega arith in
      All-append Right (block G heap c command) (blocks G heap (suc c) rest)
      (subst (λ n. All Right (block G heap n command)) z (each 0 command (omega arith)))
      (blocks_right (suc c) rest (λ k d lt. let next : c + suc k ≡ suc c + k = omega arith in subst (λ n. All Right (block G heap n (get_or rest k d))) next (each (suc k) d (omega (arith, lt)))))

  pub script_right : All Right (script G heap)
  script_right = blocks_right 0 G.commands (λ k d lt. let z : k ≡ 0 + k = omega arith in subst (λ n. All Right (block G heap n (get_or G.commands k d))) z (block_right k d lt))
