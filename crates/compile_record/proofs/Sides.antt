-- What stands in the block of a command, and at which entry.
use Rattle.std.proofs.Common.{◌≡◌, ⊎_elim, ℕ, zero, suc, ◌+◌, ◌-◌, ◌<◌, ◌≤◌, ◌&&◌, Bool, true, false, List, [], ◌∷◌, ◌++◌, length, map, Option, Some, None, if◌then◌else◌, refl, sym, ap, ◌∙◌, eqb-true, arith}
use Rattle.std.specs.List.{flat_map}
use Rattle.std.specs.Prelude.{slice_get}
use Rattle.std.proofs.lemmas.Bool.{and_parts, false≢true}
use Rattle.std.proofs.lemmas.List.{length-append}
use Rattle.std.proofs.lemmas.Option.{slice_get_within}
use Rattle.compile_groups.specs.Laws.{IsGrouped}
use Rattle.compile_groups.specs.Needs.{group_at}
use Rattle.compile_groups.specs.declared.command.Command as commands
use Rattle.compile_groups.specs.declared.grouping.Grouping.{Grouping}
use Rattle.compile_groups.specs.declared.unit_use.Use.{Use}
use Rattle.compile_record.proofs.Distinct.{used_once}
use Rattle.compile_record.proofs.Entries.{entry_append, entry_left, entry_right, one_entry, entry_map, joint, entry_of_joined}
use Rattle.compile_record.specs.Items.{does_prologue, items_of, release_item}
use Rattle.compile_record.specs.Script.{is_command, use_needs, use_prologues, is_released, use_releases, host_barrier, groups_used, does_command, block}
use Rattle.compile_record.specs.Standing.{beside, side, item_by, prologue_item}
use Rattle.compile_record.specs.Wanted.{is_there, wanted_release}
use Rattle.compile_record.specs.declared.mark.Mark.{Mark}
use Rattle.compile_record.specs.declared.mark.Mark.TheVariants.{Command, Prologue as OfPrologue, Release}
use Rattle.compile_record.specs.declared.mark.Marked.{Marked}
use Rattle.compile_record.specs.declared.mark.Marked.TheVariants.{Does, Needs}
use Rattle.program.specs.declared.program.Item.{Item}
use Rattle.program.specs.declared.program.Item.TheVariants as item
use Rattle.compile_barriers.specs.Prologues.{first, last, earlier, prologue_of}
use Rattle.compile_barriers.specs.Under.{Heap}
use Rattle.compile_barriers.specs.declared.prologue.Prologue.{Prologue}
use Rattle.compile_barriers.specs.declared.prologue.PrologueKind.{PrologueKind}
use Rattle.compile_barriers.specs.declared.prologue.PrologueKind.TheVariants as kinds

-- ITEMS OF ONE TURN

-- the entry of the one that has the mark
abbrev pub own_entry : PrologueKind → ℕ
own_entry kinds.AliasInit = 1
own_entry kind = 0

pub data IsPrologueItem (kind : PrologueKind) (G : Grouping) (prologue : Prologue) (A B : List Use) (m : ℕ) (x : Marked) : Type 0 where
  own_prologue : is_there kind ≡ true → m ≡ own_entry kind → x ≡ does_prologue prologue (item_by kind G prologue A B) → IsPrologueItem kind G prologue A B m x
  alias_prologue : kind ≡ kinds.AliasInit → m ≡ 0 → x ≡ Does prologue.queue None (item.Global prologue.masks) → IsPrologueItem kind G prologue A B m x

pub prologue_entry : (kind : PrologueKind) (G : Grouping) (prologue : Prologue) (A B : List Use) (m : ℕ) (x : Marked) → slice_get (items_of kind G prologue A B) m ≡ Some x → IsPrologueItem kind G prologue A B m x
prologue_entry kinds.Nothing G prologue A B m x e = absurd cc
prologue_entry kinds.Barrier G prologue A B m x e = let h = one_entry _ m x e in own_prologue refl h.0 (sym h.1)
prologue_entry kinds.Transfer G prologue A B m x e = let h = one_entry _ m x e in own_prologue refl h.0 (sym h.1)
prologue_entry kinds.Alias G prologue A B m x e = let h = one_entry _ m x e in own_prologue refl h.0 (sym h.1)
prologue_entry kinds.Init G prologue A B m x e = let h = one_entry _ m x e in own_prologue refl h.0 (sym h.1)
prologue_entry kinds.AliasInit G prologue A B zero x e = alias_prologue refl refl cc
prologue_entry kinds.AliasInit G prologue A B (suc m) x e = let h = one_entry _ m x e in own_prologue refl (ap (λ n. suc n) h.0) (sym h.1)

pub own_is : (kind : PrologueKind) (G : Grouping) (prologue : Prologue) (A B : List Use) → is_there kind ≡ true → slice_get (items_of kind G prologue A B) (own_entry kind) ≡ Some (does_prologue prologue (item_by kind G prologue A B))
own_is kinds.Nothing G prologue A B e = absurd (false≢true e)
own_is kinds.Barrier G prologue A B e = refl
own_is kinds.Transfer G prologue A B e = refl
own_is kinds.Alias G prologue A B e = refl
own_is kinds.Init G prologue A B e = refl
own_is kinds.AliasInit G prologue A B e = refl

-- what is chosen by a test that it passes
chosen : {X : Type 0} (b : Bool) (xs : List X) (i : ℕ) (x : X) → slice_get (if b then xs else []) i ≡ Some x → (b ≡ true) × (slice_get xs i ≡ Some x)
chosen true xs i x e = (refl, e)
chosen false xs i x e = absurd cc

module _ (G : Grouping) (heap : Heap) (c : ℕ) (command : commands.Command) where
  abbrev pub used : List ℕ
  used = groups_used G c

  abbrev pub marks_needed : List Mark
  marks_needed = flat_map (use_needs G heap command.queue c) used

  abbrev pub needed : List Marked
  needed = map (Needs command.queue) marks_needed

  abbrev pub prologue_part : List Marked
  prologue_part = flat_map (use_prologues G heap c) used

  abbrev pub released : List Marked
  released = flat_map (use_releases G heap command.queue c) used

  abbrev pub host : List Marked
  host = host_barrier G command command.export

  abbrev pub own_place : ℕ
  own_place = length needed + length prologue_part

  -- FIVE PARTS

  pub data IsPart (k : ℕ) (x : Marked) : Type 0 where
    in_needed : slice_get needed k ≡ Some x → IsPart k x
    in_prologue_part : (t : ℕ) → slice_get prologue_part t ≡ Some x → k ≡ length needed + t → IsPart k x
    at_command : x ≡ does_command G c command → k ≡ own_place → IsPart k x
    in_released : (r : ℕ) → slice_get released r ≡ Some x → k ≡ own_place + (1 + r) → IsPart k x
    in_host : (h : ℕ) → slice_get host h ≡ Some x → k ≡ own_place + (1 + length released + h) → IsPart k x

  pub part_of : (k : ℕ) (x : Marked) → slice_get (block G heap c command) k ≡ Some x → IsPart k x
  part_of k x e = ⊎_elim (λ h. front h.1) (λ h. end h) (entry_append ((needed ++ prologue_part) ++ (does_command G c command ∷ released)) host k x e)
    where
      before : length (needed ++ prologue_part) ≡ own_place
      before = length-append needed prologue_part

      after : length ((needed ++ prologue_part) ++ (does_command G c command ∷ released)) ≡ own_place + (1 + length released)
      after = let l = length-append (needed ++ prologue_part) (does_command G c command ∷ released) in omega (arith, l, before)

      end : (length ((needed ++ prologue_part) ++ (does_command G c command ∷ released)) ≤ k) × (slice_get host (k - length ((needed ++ prologue_part) ++ (does_command G c command ∷ released))) ≡ Some x) → IsPart k x
      end h = let le = h.0 in in_host (k - length ((needed ++ prologue_part) ++ (does_command G c command ∷ released))) h.1 (omega (arith, le, after))

      own : (i : ℕ) → length (needed ++ prologue_part) + i ≡ k → slice_get (does_command G c command ∷ released) i ≡ Some x → IsPart k x
      own zero le h = let same : x ≡ does_command G c command = cc in at_command same (omega (arith, le, before))
      own (suc r) le h = in_released r h (omega (arith, le, before))

      again : length (needed ++ prologue_part) ≤ k → length (needed ++ prologue_part) + (k - length (needed ++ prologue_part)) ≡ k
      again le = omega (arith, le)

      start : slice_get (needed ++ prologue_part) k ≡ Some x → IsPart k x
      start h = ⊎_elim (λ a. in_needed a.1) (λ b. let le = b.0 in in_prologue_part (k - length needed) b.1 (omega (arith, le))) (entry_append needed prologue_part k x h)

      front : slice_get ((needed ++ prologue_part) ++ (does_command G c command ∷ released)) k ≡ Some x → IsPart k x
      front h = ⊎_elim (λ a. start a.1) (λ b. own (k - length (needed ++ prologue_part)) (again b.0) b.1) (entry_append (needed ++ prologue_part) (does_command G c command ∷ released) k x h)

  pub needed_entry : (k : ℕ) (x : Marked) → slice_get needed k ≡ Some x → slice_get (block G heap c command) k ≡ Some x
  needed_entry k x e =
      entry_left ((needed ++ prologue_part) ++ (does_command G c command ∷ released)) host k x
      (entry_left (needed ++ prologue_part) (does_command G c command ∷ released) k x
      (entry_left needed prologue_part k x e))

  pub prologue_part_entry : (t : ℕ) (x : Marked) → slice_get prologue_part t ≡ Some x → slice_get (block G heap c command) (length needed + t) ≡ Some x
  prologue_part_entry t x e =
      entry_left ((needed ++ prologue_part) ++ (does_command G c command ∷ released)) host (length needed + t) x
      (entry_left (needed ++ prologue_part) (does_command G c command ∷ released) (length needed + t) x
      (entry_right needed prologue_part t (length needed + t) x e refl))

  pub command_entry : slice_get (block G heap c command) own_place ≡ Some (does_command G c command)
  command_entry =
      let l = length-append needed prologue_part in
      entry_left ((needed ++ prologue_part) ++ (does_command G c command ∷ released)) host own_place (does_command G c command)
      (entry_right (needed ++ prologue_part) (does_command G c command ∷ released) 0 own_place (does_command G c command) refl (omega (arith, l)))

  pub released_entry : (r : ℕ) (x : Marked) → slice_get released r ≡ Some x → slice_get (block G heap c command) (own_place + (1 + r)) ≡ Some x
  released_entry r x e =
      let l = length-append needed prologue_part in
      entry_left ((needed ++ prologue_part) ++ (does_command G c command ∷ released)) host (own_place + (1 + r)) x
      (entry_right (needed ++ prologue_part) (does_command G c command ∷ released) (suc r) (own_place + (1 + r)) x e (omega (arith, l)))

  pub host_entry : (h : ℕ) (x : Marked) → slice_get host h ≡ Some x → slice_get (block G heap c command) (own_place + (1 + length released + h)) ≡ Some x
  host_entry h x e =
      let l = length-append needed prologue_part in
      let m = length-append (needed ++ prologue_part) (does_command G c command ∷ released) in
      entry_right ((needed ++ prologue_part) ++ (does_command G c command ∷ released)) host h (own_place + (1 + length released + h)) x e (omega (arith, l, m))

  -- TURNS AND RELEASES

  pub record IsPrologueOf (t : ℕ) (x : Marked) : Type 0 where
    pub number : ℕ
    pub group : ℕ
    pub entry : ℕ
    pub used_there : slice_get used number ≡ Some group
    pub mine : (first (group_at G group)).command ≡ c
    pub is : IsPrologueItem (prologue_of G heap group).kind G (prologue_of G heap group) (earlier G group) (group_at G group) entry x
    pub place : t ≡ joint (use_prologues G heap c) used number + entry

  pub prologue_in : (t : ℕ) (x : Marked) → slice_get prologue_part t ≡ Some x → IsPrologueOf t x
  prologue_in t x e =
      let J = entry_of_joined (use_prologues G heap c) used t x e in
      let h = chosen (is_command c (first (group_at G J.from))) (items_of (prologue_of G heap J.from).kind G (prologue_of G heap J.from) (earlier G J.from) (group_at G J.from)) J.entry x J.is in
      record {
        number = J.number;
        group = J.from;
        entry = J.entry;
        used_there = J.there;
        mine = eqb-true (first (group_at G J.from)).command c h.0;
        is = prologue_entry (prologue_of G heap J.from).kind G (prologue_of G heap J.from) (earlier G J.from) (group_at G J.from) J.entry x h.1;
        place = J.place;
      }

  -- entry r is a need of the release of a group, or that release
  pub data IsReleaseItem (g m : ℕ) (x : Marked) : Type 0 where
    release_need : (mark : Mark) → x ≡ Needs command.queue mark → IsReleaseItem g m x
    own_release : m ≡ length (map (Needs command.queue) (wanted_release G (group_at G g))) → x ≡ release_item G g (group_at G g) (group_at G (suc g)) → IsReleaseItem g m x

  pub record IsReleaseOf (r : ℕ) (x : Marked) : Type 0 where
    pub number : ℕ
    pub group : ℕ
    pub entry : ℕ
    pub used_there : slice_get used number ≡ Some group
    pub mine : (last (group_at G group)).command ≡ c
    pub is_so : is_released G heap group ≡ true
    pub is : IsReleaseItem group entry x
    pub place : r ≡ joint (use_releases G heap command.queue c) used number + entry

  release_entry : (g m : ℕ) (x : Marked) → slice_get (map (Needs command.queue) (wanted_release G (group_at G g)) ++ release_item G g (group_at G g) (group_at G (suc g)) ∷ []) m ≡ Some x → IsReleaseItem g m x
  release_entry g m x e = ⊎_elim need last_one (entry_append wants (it ∷ []) m x e)
    where
      wants : List Marked
      wants = map (Needs command.queue) (wanted_release G (group_at G g))

      it : Marked
      it = release_item G g (group_at G g) (group_at G (suc g))

      need : (m < length wants) × (slice_get wants m ≡ Some x) → IsReleaseItem g m x
      need a = go (entry_map (Needs command.queue) (wanted_release G (group_at G g)) m x a.1)
        where
          go : (mark : Mark) × (slice_get (wanted_release G (group_at G g)) m ≡ Some mark) × (Needs command.queue mark ≡ x) → IsReleaseItem g m x
          go (mark, there, is) = release_need mark (sym is)

      last_one : (length wants ≤ m) × (slice_get (it ∷ []) (m - length wants) ≡ Some x) → IsReleaseItem g m x
      last_one b =
          let le = b.0 in
          let z = one_entry it (m - length wants) x b.1 in
          let none = z.0 in
          own_release (omega (arith, le, none)) (sym z.1)

  pub release_in : (r : ℕ) (x : Marked) → slice_get released r ≡ Some x → IsReleaseOf r x
  release_in r x e =
      let J = entry_of_joined (use_releases G heap command.queue c) used r x e in
      let A : List Use = group_at G J.from in
      let wants : List Marked = map (Needs command.queue) (wanted_release G (group_at G J.from)) in
      let it : Marked = release_item G J.from (group_at G J.from) (group_at G (suc J.from)) in
      let h = chosen (is_command c (last (group_at G J.from)) && is_released G heap J.from) (wants ++ it ∷ []) J.entry x J.is in
      let both = and_parts (is_command c (last (group_at G J.from))) (is_released G heap J.from) h.0 in
      record {
        number = J.number;
        group = J.from;
        entry = J.entry;
        used_there = J.there;
        mine = eqb-true (last (group_at G J.from)).command c both.0;
        is_so = both.1;
        is = release_entry J.from J.entry x h.1;
        place = J.place;
      }

  -- WHERE A MARK STANDS

  pub data HasMark (k : ℕ) (mark : Mark) (x : Marked) : Type 0 where
    of_command : mark ≡ Command c → k ≡ own_place → x ≡ does_command G c command → HasMark k mark x
    of_prologue : (j g t : ℕ) → mark ≡ OfPrologue g → slice_get used j ≡ Some g → (first (group_at G g)).command ≡ c → is_there (prologue_of G heap g).kind ≡ true → t ≡ joint (use_prologues G heap c) used j + own_entry (prologue_of G heap g).kind → slice_get prologue_part t ≡ Some x → k ≡ length needed + t → x ≡ Does (first (group_at G g)).queue (Some (OfPrologue g)) (prologue_item G heap g) → HasMark k mark x
    of_release : (j g r : ℕ) → mark ≡ Release g → slice_get used j ≡ Some g → (last (group_at G g)).command ≡ c → is_released G heap g ≡ true → r ≡ joint (use_releases G heap command.queue c) used j + length (map (Needs command.queue) (wanted_release G (group_at G g))) → slice_get released r ≡ Some x → k ≡ own_place + (1 + r) → x ≡ release_item G g (group_at G g) (group_at G (suc g)) → HasMark k mark x

  no_host_mark : (h q : ℕ) (mark : Mark) (it : Item) (export : Option ℕ) → slice_get (host_barrier G command export) h ≡ Some (Does q (Some mark) it) → ⊥
  no_host_mark h q mark it None e = absurd cc
  no_host_mark h q mark it (Some k) e = let z = (one_entry _ h (Does q (Some mark) it) e).1 in absurd cc

  pub mark_in : (k q : ℕ) (mark : Mark) (it : Item) → slice_get (block G heap c command) k ≡ Some (Does q (Some mark) it) → HasMark k mark (Does q (Some mark) it)
  mark_in k q mark it e = go (part_of k (Does q (Some mark) it) e)
    where
      x : Marked
      x = Does q (Some mark) it

      no_need : (of : Mark) × (slice_get marks_needed k ≡ Some of) × (Needs command.queue of ≡ x) → ⊥
      no_need (of, there, is) = absurd cc

      by_prologue : (t : ℕ) → slice_get prologue_part t ≡ Some x → k ≡ length needed + t → (T : IsPrologueOf t x) → IsPrologueItem (prologue_of G heap T.group).kind G (prologue_of G heap T.group) (earlier G T.group) (group_at G T.group) T.entry x → HasMark k mark x
      by_prologue t at is T (own_prologue there entry-is same) = let place = T.place in of_prologue T.number T.group t (let s = same in cc) T.used_there T.mine there (place ∙ ap (λ n. joint (use_prologues G heap c) used T.number + n) entry-is) at is same
      by_prologue t at is T (alias_prologue kind entry-is same) = absurd cc

      by_release : (r : ℕ) → slice_get released r ≡ Some x → k ≡ own_place + (1 + r) → (R : IsReleaseOf r x) → IsReleaseItem R.group R.entry x → HasMark k mark x
      by_release r at is R (release_need of same) = absurd cc
      by_release r at is R (own_release entry-is same) = of_release R.number R.group r (let s = same in cc) R.used_there R.mine R.is_so (R.place ∙ ap (λ n. joint (use_releases G heap command.queue c) used R.number + n) entry-is) at is same

      go : IsPart k x → HasMark k mark x
      go (in_needed h) = absurd (no_need (entry_map (Needs command.queue) marks_needed k x h))
      go (in_prologue_part t h is) = let T = prologue_in t x h in by_prologue t h is T T.is
      go (at_command same is) = of_command (let s = same in cc) is same
      go (in_released r h is) = let R = release_in r x h in by_release r h is R R.is
      go (in_host h at is) = absurd (no_host_mark h q mark it command.export at)

  pub beside_is : (k : ℕ) (mark : Mark) (x : Marked) → HasMark k mark x → beside G mark ≡ c
  beside_is k mark x (of_command e is same) = ap (beside G) e
  beside_is k mark x (of_prologue j0 g0 t0 e at mine there t h is same) = ap (beside G) e ∙ mine
  beside_is k mark x (of_release j1 g1 r1 e at mine so r h is same) = ap (beside G) e ∙ mine

  -- a mark stands at one entry
  module _ (L : IsGrouped G) where
    pub one_place : (k l : ℕ) (mark : Mark) (x y : Marked) → HasMark k mark x → HasMark l mark y → k ≡ l
    one_place k l mark x y (of_command e is same) (of_command f has alike) = is ∙ sym has
    one_place k l mark x y (of_command e is same) (of_prologue j0 g0 t0 f at mine there t h has alike) = absurd cc
    one_place k l mark x y (of_command e is same) (of_release j1 g1 r1 f at mine so r h has alike) = absurd cc
    one_place k l mark x y (of_prologue j0 g0 t0 e at mine there t h is same) (of_command f has alike) = absurd cc
    one_place k l mark x y (of_prologue j g t' e at mine there t h is same) (of_prologue i f' s' f also mine2 there2 s h2 has alike) =
        let group : g ≡ f' = cc in
        let number : j ≡ i = used_once G L c j i g at (also ∙ ap (λ n. Some n) (sym group)) in
        let own-same : own_entry (prologue_of G heap g).kind ≡ own_entry (prologue_of G heap f').kind = ap (λ n. own_entry (prologue_of G heap n).kind) group in
        let joint-same : joint (use_prologues G heap c) used j ≡ joint (use_prologues G heap c) used i = ap (λ n. joint (use_prologues G heap c) used n) number in
        omega (arith, t, s, is, has, own-same, joint-same)
    one_place k l mark x y (of_prologue j0 g0 t0 e at mine there t h is same) (of_release j1 g1 r1 f also mine2 so r h2 has alike) = absurd cc
    one_place k l mark x y (of_release j1 g1 r1 e at mine so r h is same) (of_command f has alike) = absurd cc
    one_place k l mark x y (of_release j1 g1 r1 e at mine so r h is same) (of_prologue j0 g0 t0 f also mine2 there t h2 has alike) = absurd cc
    one_place k l mark x y (of_release j g r' e at mine so r h is same) (of_release i f' s' f also mine2 so2 s h2 has alike) =
        let group : g ≡ f' = cc in
        let number : j ≡ i = used_once G L c j i g at (also ∙ ap (λ n. Some n) (sym group)) in
        let own-same : length (map (Needs command.queue) (wanted_release G (group_at G g))) ≡ length (map (Needs command.queue) (wanted_release G (group_at G f'))) = ap (λ n. length (map (Needs command.queue) (wanted_release G (group_at G n)))) group in
        let joint-same : joint (use_releases G heap command.queue c) used j ≡ joint (use_releases G heap command.queue c) used i = ap (λ n. joint (use_releases G heap command.queue c) used n) number in
        omega (arith, r, s, is, has, own-same, joint-same)

  -- prologues stand before the command, and releases after it
  pub side_less : (k l : ℕ) (one two : Mark) (x y : Marked) → HasMark k one x → HasMark l two y → side one < side two → k < l
  side_less k l one two x y (of_command e is same) (of_command f has alike) lt = absurd (let a = ap side e in let b = ap side f in omega (arith, a, b, lt))
  side_less k l one two x y (of_command e is same) (of_prologue j0 g0 t0 f at mine there t h has alike) lt = absurd (let a = ap side e in let b = ap side f in omega (arith, a, b, lt))
  side_less k l one two x y (of_command e is same) (of_release j1 g1 r1 f at mine so r h has alike) lt = omega (arith, is, has)
  side_less k l one two x y (of_prologue j g t' e at mine there t h is same) (of_command f has alike) lt = let low = slice_get_within prologue_part t' x h in omega (arith, low, is, has)
  side_less k l one two x y (of_prologue j0 g0 t0 e at mine there t h is same) (of_prologue j2 g2 t2 f also mine2 there2 s h2 has alike) lt = absurd (let a = ap side e in let b = ap side f in omega (arith, a, b, lt))
  side_less k l one two x y (of_prologue j g t' e at mine there t h is same) (of_release j1 g1 r1 f also mine2 so r h2 has alike) lt = let low = slice_get_within prologue_part t' x h in omega (arith, low, is, has)
  side_less k l one two x y (of_release j1 g1 r1 e at mine so r h is same) (of_command f has alike) lt = absurd (let a = ap side e in let b = ap side f in omega (arith, a, b, lt))
  side_less k l one two x y (of_release j1 g1 r1 e at mine so r h is same) (of_prologue j0 g0 t0 f also mine2 there t h2 has alike) lt = absurd (let a = ap side e in let b = ap side f in omega (arith, a, b, lt))
  side_less k l one two x y (of_release j1 g1 r1 e at mine so r h is same) (of_release j2 g2 r2 f also mine2 so2 s h2 has alike) lt = absurd (let a = ap side e in let b = ap side f in omega (arith, a, b, lt))
