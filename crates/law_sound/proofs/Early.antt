-- What a command needs is needed before what stands beside it.
use Rattle.std.proofs.Common.{◌≡◌, ⊎_elim, ℕ, zero, suc, ◌+◌, ◌-◌, ◌<◌, ◌≤◌, ◌==◌, Bool, true, false, List, [], ◌∷◌, ◌++◌, length, map, get_or, if◌then◌else◌, Some, None, refl, sym, ap, ◌∙◌, subst, append_assoc, eq-eqb, arith}
use Rattle.std.specs.List.{All, Contains, filter, flat_map}
use Rattle.std.specs.Prelude.{slice_get}
use Rattle.std.proofs.lemmas.Bool.{cases_lt, false≢true}
use Rattle.std.proofs.lemmas.List.{length-append}
use Rattle.std.proofs.lemmas.List.Elements.{All-nil, All-cons, Contains-append_left, Contains-append_right}
use Rattle.std.proofs.lemmas.Option.{slice_get-get_or}
use Rattle.base.proofs.Lists.{each_of, entry_of, one, got_back}
use Rattle.base.specs.Operands.{mapped}
use Rattle.base.specs.declared.shape.Shape.{Shape}
use Rattle.law_sound.proofs.Entries.{contains_entry, entry_left}
use Rattle.law_sound.proofs.Groups.{some_use}
use Rattle.compile_groups.specs.Laws.{IsGrouped, IsSourced}
use Rattle.compile_groups.specs.Needs.{group_at, uses_at, uses_in, use_at}
use Rattle.compile_groups.specs.Uses.{no_use, command_uses, uses_of}
use Rattle.compile_groups.specs.declared.command.Command as commands
use Rattle.compile_groups.specs.declared.grouping.Grouping.{Grouping}
use Rattle.compile_groups.specs.declared.unit_use.Use.{Use}
use Rattle.compile_groups.specs.declared.unit_use.UseAt.{UseAt}
use Rattle.compile_record.proofs.Contained.{contains_filter, contains_map, contains_part}
use Rattle.compile_record.specs.Items.{does_prologue, init, items_of}
use Rattle.compile_record.specs.Script.{block, blocks, does_command, groups_used, host_barrier, is_command, script, use_needs, use_releases, use_prologues}
use Rattle.compile_record.specs.Standing.{IsKnown, by_alias, by_copy, by_mark, IsRecorded, IsStanding, StandsAt, item_by, step, prologue_item}
use Rattle.compile_record.specs.Wanted.{is_there}
use Rattle.compile_record.specs.declared.mark.Mark.{Mark}
use Rattle.compile_record.specs.declared.mark.Mark.TheVariants.{Command, Prologue as OfPrologue}
use Rattle.compile_record.specs.declared.mark.Marked.{Marked}
use Rattle.compile_record.specs.declared.mark.Marked.TheVariants.{Does, Needs}
use Rattle.compile_record.specs.Pieces.{piece_of}
use Rattle.program.specs.declared.program.Item.{Item}
use Rattle.program.specs.declared.program.Item.TheVariants as item
use Rattle.compile_barriers.specs.Prologues.{earlier, first, prologue_of}
use Rattle.compile_barriers.specs.Under.{Heap}
use Rattle.compile_barriers.specs.declared.prologue.Prologue.{Prologue}
use Rattle.compile_barriers.specs.declared.prologue.PrologueKind.{PrologueKind}
use Rattle.compile_barriers.specs.declared.prologue.PrologueKind.TheVariants.{Nothing, Barrier, Transfer, Alias, Init, AliasInit}

-- what is needed before the command of a prologue's first member is needed before the prologue
abbrev pub IsEarly : Grouping → Heap → Type 0
IsEarly G heap = (g w q : ℕ) (mark : Mark) → IsRecorded G heap (OfPrologue g) → StandsAt G heap w (Needs q mark) → w < step G heap (Command (first (group_at G g)).command) → w < step G heap (OfPrologue g)

-- TURNS ARE ITEMS

abbrev does : Marked → Bool
does (Does q of it) = true
does (Needs q of) = false

abbrev IsDone : Marked → Type 0
IsDone x = does x ≡ true

one_done : (prologue : Prologue) (it : Item) → All IsDone (does_prologue prologue it ∷ [])
one_done prologue it = one IsDone (does_prologue prologue it) refl

items_do : (kind : PrologueKind) (G : Grouping) (prologue : Prologue) (A B : List Use) → All IsDone (items_of kind G prologue A B)
items_do Nothing G prologue A B = All-nil IsDone
items_do Barrier G prologue A B = one_done prologue (item_by Barrier G prologue A B)
items_do Transfer G prologue A B = one_done prologue (item_by Transfer G prologue A B)
items_do Alias G prologue A B = one_done prologue (item_by Alias G prologue A B)
items_do Init G prologue A B = one_done prologue (item_by Init G prologue A B)
items_do AliasInit G prologue A B = All-cons IsDone (Does prologue.queue None (item.Global prologue.masks)) (does_prologue prologue (init G B) ∷ []) refl (one_done prologue (init G B))

prologue_among : (kind : PrologueKind) (G : Grouping) (prologue : Prologue) (A B : List Use) → is_there kind ≡ true → Contains (items_of kind G prologue A B) (does_prologue prologue (item_by kind G prologue A B))
prologue_among Nothing G prologue A B e = absurd (false≢true e)
prologue_among Barrier G prologue A B e = (0, omega arith, refl)
prologue_among Transfer G prologue A B e = (0, omega arith, refl)
prologue_among Alias G prologue A B e = (0, omega arith, refl)
prologue_among Init G prologue A B e = (0, omega arith, refl)
prologue_among AliasInit G prologue A B e = (1, omega arith, refl)

-- THE GROUPS OF A COMMAND

used_among : (shapes : List Shape) (units c : ℕ) (list : List commands.Command) (i j : ℕ) (command : commands.Command) (u : Use) → slice_get list i ≡ Some command → c + i ≡ j → Contains (command_uses shapes units j command) u → Contains (uses_of shapes units c list) u
used_among shapes units c [] i j command u e n h = absurd cc
used_among shapes units c (d ∷ list) zero j command u e n h =
    let same : command ≡ d = sym (cc) in
    let number : j ≡ c = omega (arith, n) in
    Contains-append_left (command_uses shapes units c d) (uses_of shapes units (suc c) list) u (subst (λ k. Contains (command_uses shapes units k d) u) number (subst (λ x. Contains (command_uses shapes units j x) u) same h))
used_among shapes units c (d ∷ list) (suc i) j command u e n h = Contains-append_right (command_uses shapes units c d) (uses_of shapes units (suc c) list) u (used_among shapes units (suc c) list i j command u e (omega (arith, n)) h)

module _ (G : Grouping) (L : IsGrouped G) where
  first_source : (g : ℕ) → g < length G.groups → IsSourced G (first (group_at G g))
  first_source g lt = L.sourced g [] lt 0 no_use (some_use G L g lt)

  -- the command of a group's first member uses the group
  used_there : (g : ℕ) → g < length G.groups → Contains (groups_used G (first (group_at G g)).command) g
  used_there g lt =
      let I = first_source g lt in
      let among : Contains (uses_in G) (first (group_at G g)) = used_among G.shapes (length G.sharings) 0 G.commands (first (group_at G g)).command (first (group_at G g)).command I.command (first (group_at G g)) I.there (omega arith) (contains_entry (command_uses G.shapes (length G.sharings) (first (group_at G g)).command I.command) I.entry (first (group_at G g)) I.is) in
      let at : Contains (uses_at G) (use_at G.groups (first (group_at G g))) = contains_map (use_at G.groups) (uses_in G) (first (group_at G g)) among in
      let kept = contains_filter (λ (u : UseAt). u.command == (first (group_at G g)).command) (uses_at G) (use_at G.groups (first (group_at G g))) at (eq-eqb (first (group_at G g)).command (first (group_at G g)).command refl) in
      let told = contains_map (λ (u : UseAt). u.group) (filter (λ (u : UseAt). u.command == (first (group_at G g)).command) (uses_at G)) (use_at G.groups (first (group_at G g))) kept in
      subst (λ h. Contains (groups_used G (first (group_at G g)).command) h) (L.numbered g lt 0 no_use (some_use G L g lt)) told

-- WHERE A BLOCK STANDS

-- a list within another
record IsWithin (list part : List Marked) : Type 0 where
  before : List Marked
  after : List Marked
  is : list ≡ before ++ (part ++ after)

module _ (G : Grouping) (heap : Heap) where
  split : (k : ℕ) (list : List commands.Command) (i j : ℕ) (command : commands.Command) → slice_get list i ≡ Some command → k + i ≡ j → IsWithin (blocks G heap k list) (block G heap j command)
  split k [] i j command e n = absurd cc
  split k (d ∷ list) zero j command e n =
      let same : d ≡ command = cc in
      let number : k ≡ j = omega (arith, n) in
      record { before = []; after = blocks G heap (suc k) list; is = ap (λ x. block G heap k x ++ blocks G heap (suc k) list) same ∙ ap (λ m. block G heap m command ++ blocks G heap (suc k) list) number }
  split k (d ∷ list) (suc i) j command e n =
      let W = split (suc k) list i j command e (omega (arith, n)) in
      record { before = block G heap k d ++ W.before; after = W.after; is = ap (λ l. block G heap k d ++ l) W.is ∙ sym (append_assoc (block G heap k d) W.before (block G heap j command ++ W.after)) }

  prologues_do : (c : ℕ) (groups : List ℕ) → All IsDone (flat_map (use_prologues G heap c) groups)
  prologues_do c groups = each_of IsDone (use_prologues G heap c) groups (λ k d lt. own (get_or groups k d) (is_command c (first (group_at G (get_or groups k d)))))
    where
      own : (g : ℕ) (b : Bool) → All IsDone (if b then items_of (prologue_of G heap g).kind G (prologue_of G heap g) (earlier G g) (group_at G g) else [])
      own g true = items_do (prologue_of G heap g).kind G (prologue_of G heap g) (earlier G g) (group_at G g)
      own g false = All-nil IsDone

  module _ (S : IsStanding G heap) where
    -- an item with a mark stands at its step
    mark_step : (i q : ℕ) (mark : Mark) (it : Item) → StandsAt G heap i (Does q (Some mark) it) → i ≡ step G heap mark
    mark_step i q mark it at = go (S.only i q (Some mark) it at)
      where
        go : IsKnown G heap i q (Some mark) it → i ≡ step G heap mark
        go (by_mark other e recorded is) = let same : other ≡ mark = sym (cc) in is ∙ ap (step G heap) same
        go (by_alias g e lt kind next queue it') = absurd cc
        go (by_copy c k command e there export is queue it') = absurd cc

    module _ (L : IsGrouped G) (c : ℕ) (command : commands.Command) (there : slice_get G.commands c ≡ Some command) where
      abbrev needed : List Marked
      needed = map (Needs command.queue) (flat_map (use_needs G heap command.queue c) (groups_used G c))

      abbrev has_prologue : List Marked
      has_prologue = flat_map (use_prologues G heap c) (groups_used G c)

      abbrev own : List Marked
      own = does_command G c command ∷ flat_map (use_releases G heap command.queue c) (groups_used G c)

      abbrev host : List Marked
      host = host_barrier G command command.export

      within : IsWithin (script G heap) (block G heap c command)
      within = split 0 G.commands c c command there (omega arith)

      -- up to the command
      front : (k : ℕ) → k < length (needed ++ has_prologue) + 1 → slice_get (script G heap) (length within.before + k) ≡ slice_get ((needed ++ has_prologue) ++ own) k
      front k lt =
          let some : 0 < length own = omega arith in
          let l = length-append (needed ++ has_prologue) own in
          let m = length-append ((needed ++ has_prologue) ++ own) host in
          ap (λ z. slice_get z (length within.before + k)) within.is
          ∙ got_back within.before (block G heap c command ++ within.after) k
          ∙ entry_left (((needed ++ has_prologue) ++ own) ++ host) within.after k (omega (arith, some, l, m, lt))
          ∙ entry_left ((needed ++ has_prologue) ++ own) host k (omega (arith, some, l, lt))

      command_place : length within.before + length (needed ++ has_prologue) ≡ step G heap (Command c)
      command_place =
          let z : length (needed ++ has_prologue) ≡ length (needed ++ has_prologue) + 0 = omega arith in
          mark_step (length within.before + length (needed ++ has_prologue)) command.queue (Command c) (item.Command (mapped (piece_of G) command.op))
          (front (length (needed ++ has_prologue)) (omega arith) ∙ ap (slice_get ((needed ++ has_prologue) ++ own)) z ∙ got_back (needed ++ has_prologue) own 0)

      prologue_place : (t : ℕ) → t < length has_prologue → slice_get (script G heap) (length within.before + (length needed + t)) ≡ slice_get has_prologue t
      prologue_place t lt =
          let l = length-append needed has_prologue in
          front (length needed + t) (omega (arith, l, lt))
          ∙ entry_left (needed ++ has_prologue) own (length needed + t) (omega (arith, l, lt))
          ∙ got_back needed has_prologue t

      -- no need stands among the prologues
      none_needed : (t q : ℕ) (mark : Mark) → slice_get has_prologue t ≡ Some (Needs q mark) → ⊥
      none_needed t q mark e = false≢true (entry_of IsDone has_prologue t (Needs q mark) (prologues_do c (groups_used G c)) e)

      pub before_prologue : (g w q : ℕ) (mark : Mark) → IsRecorded G heap (OfPrologue g) → (first (group_at G g)).command ≡ c → StandsAt G heap w (Needs q mark) → w < step G heap (Command c) → w < step G heap (OfPrologue g)
      before_prologue g w q mark r is at lt = ⊎_elim (λ l. l) (λ le. absurd (late le)) (cases_lt w (step G heap (OfPrologue g)))
        where
          mine : is_command c (first (group_at G g)) ≡ true
          mine = eq-eqb (first (group_at G g)).command c is

          among : Contains has_prologue (does_prologue (prologue_of G heap g) (prologue_item G heap g))
          among = contains_part (use_prologues G heap c) (groups_used G c) g (does_prologue (prologue_of G heap g) (prologue_item G heap g)) (subst (λ d. Contains (groups_used G d) g) is (used_there G L g r.0))
              (subst (λ b. Contains (if b then items_of (prologue_of G heap g).kind G (prologue_of G heap g) (earlier G g) (group_at G g) else []) (does_prologue (prologue_of G heap g) (prologue_item G heap g))) (sym mine) (prologue_among (prologue_of G heap g).kind G (prologue_of G heap g) (earlier G g) (group_at G g) r.1))

          entry : slice_get has_prologue among.0 ≡ Some (does_prologue (prologue_of G heap g) (prologue_item G heap g))
          entry = slice_get-get_or has_prologue among.0 (does_prologue (prologue_of G heap g) (prologue_item G heap g)) among.1 ∙ ap (λ z. Some z) among.2

          place : length within.before + (length needed + among.0) ≡ step G heap (OfPrologue g)
          place = mark_step (length within.before + (length needed + among.0)) (prologue_of G heap g).queue (OfPrologue g) (prologue_item G heap g) (prologue_place among.0 among.1 ∙ entry)

          late : step G heap (OfPrologue g) ≤ w → ⊥
          late le =
              let start = place in
              let end = command_place in
              let l = length-append needed has_prologue in
              let n : length within.before + (length needed + (w - (length within.before + length needed))) ≡ w = omega (arith, start, le) in
              let low : w - (length within.before + length needed) < length has_prologue = omega (arith, start, end, l, le, lt) in
              none_needed (w - (length within.before + length needed)) q mark (sym (prologue_place (w - (length within.before + length needed)) low) ∙ ap (slice_get (script G heap)) n ∙ at)

pub is_early : (G : Grouping) (heap : Heap) → IsStanding G heap → IsGrouped G → IsEarly G heap
is_early G heap S L g w q mark r at lt =
    let I = first_source G L g r.0 in
    before_prologue G heap S L (first (group_at G g)).command I.command I.there g w q mark r refl at lt
