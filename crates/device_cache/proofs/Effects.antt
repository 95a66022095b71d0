-- What a change of segments does to the bytes.
use Rattle.std.proofs.Common.{◌≡◌, ◌≢◌, ℕ, ◌+◌, ◌-◌, ◌<◌, Bool, true, false, ltb, leb, ◌&&◌, List, length, get_or, refl, sym, ap, ◌∙◌, ⊎_elim, subst, arith}
use Rattle.std.specs.Prelude.{nat_le, nat_lt, ◌==◌, if◌then◌else◌, slice_index}
use Rattle.std.proofs.Math.Path.{fun_ext}
use Rattle.std.proofs.lemmas.List.{set-get_or}
use Rattle.std.proofs.lemmas.Bool.{cases_Bool, leb-true, false≢true, lt-ltb, ltb-true, eq-eqb, eqb-true, ne_eqb, cases_eq, and_parts, and_right, and_from}
use Rattle.device_cache.specs.declared.part.Part.{Part}
use Rattle.device_cache.specs.declared.cell.Cell.{Cell}
use Rattle.device_cache.specs.declared.cell.Cell.TheVariants as cells
use Rattle.device_cache.specs.declared.change.Change.TheVariants as changes
use Rattle.device_cache.specs.declared.row.Row.{Row}
use Rattle.device_cache.specs.declared.segment.Segment.{Segment}
use Rattle.device_cache.specs.declared.change.Change.{Change}
use Rattle.device_cache.specs.Lines.{Line, Absent, is_in, range, written, cleaned, dropped, filled}
use Rattle.device_cache.specs.Effects.{Caches, overwrite}
use Rattle.device_cache.specs.Places.{line_by}
use Rattle.device_cache.specs.Internal.Rows.{changed, main_after, line_after}
use Rattle.device_cache.specs.Places.{row_at}
use Rattle.device_cache.specs.Tables.{Table, size_of, address, slot_at, byte_in, line_in, caches_of, InMemory}
use Rattle.device_cache.proofs.Tiling.{changed_here, changed_other}
use Rattle.device_cache.proofs.Addresses.{range_inside}

pub same_Caches : (m n : ℕ → ℕ → ℕ) (k l : ℕ → ℕ → ℕ → Line) → ((a i : ℕ) → m a i ≡ n a i) → ((g a i : ℕ) → k g a i ≡ l g a i) → (let s : Caches = record { main = m; line = k } in let t : Caches = record { main = n; line = l } in s ≡ t)
same_Caches m n k l f h =
    let e : m ≡ n = fun_ext (λ a. fun_ext (f a)) in
    let d : k ≡ l = fun_ext (λ g. fun_ext (λ a. fun_ext (h g a))) in
    let P : (ℕ → ℕ → ℕ) → Type 0 = λ q. (let s : Caches = record { main = m; line = k } in let t : Caches = record { main = q; line = k } in s ≡ t) in
    let Q : (ℕ → ℕ → ℕ → Line) → Type 0 = λ q. (let s : Caches = record { main = m; line = k } in let t : Caches = record { main = n; line = q } in s ≡ t) in
    subst Q d (subst P e refl)

-- the bytes of a table, case by case
pub main_at : (t : Table) (m i : ℕ) → i < size_of t m → (caches_of t).main m i ≡ byte_in t.slots (row_at t.segments (address t m i)).main (address t m i)
unfolding caches_of
main_at t m i lt = rw (lt-ltb i (size_of t m) lt) refl

pub main_past : (t : Table) (m i : ℕ) → nat_lt i (size_of t m) ≡ false → (caches_of t).main m i ≡ 0
unfolding caches_of
main_past t m i e = rw e refl

pub line_at : (t : Table) (g m i : ℕ) → g < t.agents → i < size_of t m → (caches_of t).line g m i ≡ line_in t.slots (line_by (row_at t.segments (address t m i)) g) (address t m i)
unfolding caches_of
line_at t g m i known lt = rw (lt-ltb g t.agents known, lt-ltb i (size_of t m) lt) refl

pub line_past : (t : Table) (g m i : ℕ) → (nat_lt g t.agents && nat_lt i (size_of t m)) ≡ false → (caches_of t).line g m i ≡ Absent
unfolding caches_of
line_past t g m i e = rw e refl

-- each byte of the range goes by its place, its line and main's byte
abbrev pub effect : ℕ → ℕ → ℕ → ℕ → (ℕ → Line → ℕ → ℕ) → (ℕ → Line → ℕ → Line) → Caches → Caches
effect agent memory start size main line s =
    record {
      main = λ m i. if is_in (range memory start size) m i then main i (s.line agent m i) (s.main m i) else s.main m i;
      line = λ g m i. if (g == agent) && is_in (range memory start size) m i then line i (s.line g m i) (s.main m i) else s.line g m i;
    }

-- the same of a table with other segments
module _ (old : Table) (segments : List Segment) (left : ℕ) where
  abbrev pub recut : Table
  recut = record old { segments = segments; cuts_left = left }

  at_main : (m i : ℕ) → i < size_of old m → (caches_of recut).main m i ≡ byte_in old.slots (row_at segments (address old m i)).main (address old m i)
  unfolding size_of address
  at_main m i lt = main_at recut m i lt

  at_line : (g m i : ℕ) → g < old.agents → i < size_of old m → (caches_of recut).line g m i ≡ line_in old.slots (line_by (row_at segments (address old m i)) g) (address old m i)
  unfolding size_of address
  at_line g m i known lt = line_at recut g m i known lt

  past_main : (m i : ℕ) → nat_lt i (size_of old m) ≡ false → (caches_of recut).main m i ≡ 0
  unfolding size_of
  past_main m i e = main_past recut m i e

  past_line : (g m i : ℕ) → (nat_lt g old.agents && nat_lt i (size_of old m)) ≡ false → (caches_of recut).line g m i ≡ Absent
  unfolding size_of
  past_line g m i e = line_past recut g m i e

module _ (old : Table) (segments : List Segment) (left agent memory start size : ℕ) (change : Change) (known : agent < old.agents) (R : InMemory old memory start size) (lines : (m i : ℕ) → i < size_of old m → agent < length (row_at old.segments (address old m i)).lines) (rows : (m i : ℕ) → i < size_of old m → row_at segments (address old m i) ≡ (if is_in (range memory start size) m i then changed agent change (row_at old.segments (address old m i)) else row_at old.segments (address old m i))) where
  abbrev new : Table
  new = recut old segments left

  abbrev row : ℕ → ℕ → Row
  row m i = row_at old.segments (address old m i)

  row_in : (m i : ℕ) → i < size_of old m → is_in (range memory start size) m i ≡ true → row_at segments (address old m i) ≡ changed agent change (row m i)
  row_in m i lt e = rows m i lt ∙ ap (λ (b : Bool). if b then changed agent change (row m i) else row m i) e

  row_out : (m i : ℕ) → i < size_of old m → is_in (range memory start size) m i ≡ false → row_at segments (address old m i) ≡ row m i
  row_out m i lt e = rows m i lt ∙ ap (λ (b : Bool). if b then changed agent change (row m i) else row m i) e

  module _ (main : ℕ → Line → ℕ → ℕ) (line : ℕ → Line → ℕ → Line) (mains : (i : ℕ) (p : Part) (cell : Cell) → is_in (range memory start size) memory i ≡ true → byte_in old.slots (main_after change p cell) (address old memory i) ≡ main i (line_in old.slots cell (address old memory i)) (byte_in old.slots p (address old memory i))) (cells : (i : ℕ) (p : Part) (cell : Cell) → is_in (range memory start size) memory i ≡ true → line_in old.slots (line_after change p cell) (address old memory i) ≡ line i (line_in old.slots cell (address old memory i)) (byte_in old.slots p (address old memory i))) where
    main_in : (m i : ℕ) → i < size_of old m → is_in (range memory start size) m i ≡ true → (caches_of new).main m i ≡ main i ((caches_of old).line agent m i) ((caches_of old).main m i)
    main_in m i lt e =
        let is : m ≡ memory = sym (eqb-true memory m (and_parts (memory == m) (nat_le start i && nat_lt i (start + size)) e).0) in
        let P : ℕ → Type 0 = λ n. is_in (range memory start size) n i ≡ true in
        let Q : ℕ → Type 0 = λ n. byte_in old.slots (main_after change (row m i).main (line_by (row m i) agent)) (address old n i) ≡ main i (line_in old.slots (line_by (row m i) agent) (address old n i)) (byte_in old.slots (row m i).main (address old n i)) in
        let h = subst Q (sym is) (mains i (row m i).main (line_by (row m i) agent) (subst P is e)) in
        rw (at_main old segments left m i lt, row_in m i lt e, main_at old m i lt, line_at old agent m i known lt) h

    main_same : (m i : ℕ) → (caches_of new).main m i ≡ (if is_in (range memory start size) m i then main i ((caches_of old).line agent m i) ((caches_of old).main m i) else (caches_of old).main m i)
    main_same m i = ⊎_elim
        (λ (e : is_in (range memory start size) m i ≡ true). rw e (main_in m i (range_inside old memory start size m i R e) e))
        (λ e. rw e (⊎_elim
        (λ (v : nat_lt i (size_of old m) ≡ true). let lt = ltb-true i (size_of old m) v in rw (at_main old segments left m i lt, row_out m i lt e) (sym (main_at old m i lt)))
        (λ v. past_main old segments left m i v ∙ sym (main_past old m i v))
        (cases_Bool (nat_lt i (size_of old m)))))
        (cases_Bool (is_in (range memory start size) m i))

    line_in_range : (m i : ℕ) → is_in (range memory start size) m i ≡ true → (caches_of new).line agent m i ≡ line i ((caches_of old).line agent m i) ((caches_of old).main m i)
    line_in_range m i e =
        let lt = range_inside old memory start size m i R e in
        let is : m ≡ memory = sym (eqb-true memory m (and_parts (memory == m) (nat_le start i && nat_lt i (start + size)) e).0) in
        let P : ℕ → Type 0 = λ n. is_in (range memory start size) n i ≡ true in
        let Q : ℕ → Type 0 = λ n. line_in old.slots (line_after change (row m i).main (line_by (row m i) agent)) (address old n i) ≡ line i (line_in old.slots (line_by (row m i) agent) (address old n i)) (byte_in old.slots (row m i).main (address old n i)) in
        let h = subst Q (sym is) (cells i (row m i).main (line_by (row m i) agent) (subst P is e)) in
        rw (at_line old segments left agent m i known lt, row_in m i lt e, changed_here agent change (row m i) (lines m i lt), main_at old m i lt, line_at old agent m i known lt) h

    -- the lines of another agent, or out of the range
    line_out : (g m i : ℕ) → ((g == agent) && is_in (range memory start size) m i) ≡ false → (caches_of new).line g m i ≡ (caches_of old).line g m i
    line_out g m i e = ⊎_elim
        (λ (v : (nat_lt g old.agents && nat_lt i (size_of old m)) ≡ true).
        let p = and_parts (nat_lt g old.agents) (nat_lt i (size_of old m)) v in
        let here = ltb-true g old.agents p.0 in
        let lt = ltb-true i (size_of old m) p.1 in
        let other : line_by (row_at segments (address old m i)) g ≡ line_by (row m i) g = ⊎_elim
        (λ (r : is_in (range memory start size) m i ≡ true). let apart : g ≢ agent = λ (q : g ≡ agent). false≢true (sym e ∙ and_from (g == agent) (is_in (range memory start size) m i) (eq-eqb g agent q) r) in ap (λ (w : Row). line_by w g) (row_in m i lt r) ∙ changed_other agent g change (row m i) apart)
        (λ r. ap (λ (w : Row). line_by w g) (row_out m i lt r))
        (cases_Bool (is_in (range memory start size) m i)) in
        rw (at_line old segments left g m i here lt, other) (sym (line_at old g m i here lt)))
        (λ v. past_line old segments left g m i v ∙ sym (line_past old g m i v))
        (cases_Bool (nat_lt g old.agents && nat_lt i (size_of old m)))

    line_same : (g m i : ℕ) → (caches_of new).line g m i ≡ (if (g == agent) && is_in (range memory start size) m i then line i ((caches_of old).line g m i) ((caches_of old).main m i) else (caches_of old).line g m i)
    line_same g m i = ⊎_elim
        (λ (e : ((g == agent) && is_in (range memory start size) m i) ≡ true).
        let p = and_parts (g == agent) (is_in (range memory start size) m i) e in
        let P : ℕ → Type 0 = λ n. (caches_of new).line n m i ≡ line i ((caches_of old).line n m i) ((caches_of old).main m i) in
        rw e (subst P (sym (eqb-true g agent p.0)) (line_in_range m i p.1)))
        (λ e. rw e (line_out g m i e))
        (cases_Bool ((g == agent) && is_in (range memory start size) m i))

    pub changed_bytes : caches_of new ≡ effect agent memory start size main line (caches_of old)
    changed_bytes = same_Caches (caches_of new).main (effect agent memory start size main line (caches_of old)).main (caches_of new).line (effect agent memory start size main line (caches_of old)).line main_same line_same

-- a change of all lines of an agent
module _ (old : Table) (segments : List Segment) (left agent : ℕ) (change : Change) (known : agent < old.agents) (lines : (m i : ℕ) → i < size_of old m → agent < length (row_at old.segments (address old m i)).lines) (rows : (m i : ℕ) → i < size_of old m → row_at segments (address old m i) ≡ changed agent change (row_at old.segments (address old m i))) (main : Line → ℕ → ℕ) (line : Line → Line) (mains : (x : ℕ) (p : Part) (cell : Cell) → byte_in old.slots (main_after change p cell) x ≡ main (line_in old.slots cell x) (byte_in old.slots p x)) (cells : (x : ℕ) (p : Part) (cell : Cell) → line_in old.slots (line_after change p cell) x ≡ line (line_in old.slots cell x)) (none_main : main Absent 0 ≡ 0) (none_line : line Absent ≡ Absent) where
  all_main : (m i : ℕ) → (caches_of (recut old segments left)).main m i ≡ main ((caches_of old).line agent m i) ((caches_of old).main m i)
  all_main m i = ⊎_elim
      (λ (v : nat_lt i (size_of old m) ≡ true).
      let lt = ltb-true i (size_of old m) v in
      let x = address old m i in
      let r = row_at old.segments x in
      rw (at_main old segments left m i lt, rows m i lt, main_at old m i lt, line_at old agent m i known lt) (mains x r.main (line_by r agent)))
      (λ (v : nat_lt i (size_of old m) ≡ false).
      rw (past_main old segments left m i v, main_past old m i v, line_past old agent m i (and_right (nat_lt agent old.agents) (nat_lt i (size_of old m)) v)) (sym none_main))
      (cases_Bool (nat_lt i (size_of old m)))

  own_line : (m i : ℕ) → (caches_of (recut old segments left)).line agent m i ≡ line ((caches_of old).line agent m i)
  own_line m i = ⊎_elim
      (λ (v : nat_lt i (size_of old m) ≡ true).
      let lt = ltb-true i (size_of old m) v in
      let x = address old m i in
      let r = row_at old.segments x in
      rw (at_line old segments left agent m i known lt, rows m i lt, changed_here agent change r (lines m i lt), line_at old agent m i known lt) (cells x r.main (line_by r agent)))
      (λ (v : nat_lt i (size_of old m) ≡ false).
      let past = and_right (nat_lt agent old.agents) (nat_lt i (size_of old m)) v in
      rw (past_line old segments left agent m i past, line_past old agent m i past) (sym none_line))
      (cases_Bool (nat_lt i (size_of old m)))

  other_line : (g m i : ℕ) → g ≢ agent → (caches_of (recut old segments left)).line g m i ≡ (caches_of old).line g m i
  other_line g m i ne = ⊎_elim
      (λ (v : (nat_lt g old.agents && nat_lt i (size_of old m)) ≡ true).
      let p = and_parts (nat_lt g old.agents) (nat_lt i (size_of old m)) v in
      let here = ltb-true g old.agents p.0 in
      let lt = ltb-true i (size_of old m) p.1 in
      let r = row_at old.segments (address old m i) in
      rw (at_line old segments left g m i here lt, rows m i lt, changed_other agent g change r ne) (sym (line_at old g m i here lt)))
      (λ v. past_line old segments left g m i v ∙ sym (line_past old g m i v))
      (cases_Bool (nat_lt g old.agents && nat_lt i (size_of old m)))

  all_lines : (g m i : ℕ) → (caches_of (recut old segments left)).line g m i ≡ (if g == agent then line ((caches_of old).line g m i) else (caches_of old).line g m i)
  all_lines g m i = ⊎_elim
      (λ (e : g ≡ agent). let P : ℕ → Type 0 = λ n. (caches_of (recut old segments left)).line n m i ≡ line ((caches_of old).line n m i) in rw (eq-eqb g agent e) (subst P (sym e) (own_line m i)))
      (λ (ne : g ≢ agent). rw (ne_eqb g agent ne) (other_line g m i ne))
      (cases_eq g agent)

  pub changed_everywhere : (let new : Caches = record { main = λ m i. main ((caches_of old).line agent m i) ((caches_of old).main m i); line = λ g m i. if g == agent then line ((caches_of old).line g m i) else (caches_of old).line g m i } in caches_of (recut old segments left) ≡ new)
  changed_everywhere = same_Caches (caches_of (recut old segments left)).main (λ m i. main ((caches_of old).line agent m i) ((caches_of old).main m i)) (caches_of (recut old segments left)).line (λ g m i. if g == agent then line ((caches_of old).line g m i) else (caches_of old).line g m i) all_main all_lines

-- the changes that bring no part
module _ (slots : List (List ℕ)) (x : ℕ) (p : Part) where
  pub main_written : (cell : Cell) → byte_in slots (main_after changes.WriteBack p cell) x ≡ written (line_in slots cell x) (byte_in slots p x)
  main_written cells.Empty = refl
  main_written (cells.Clean q) = refl
  main_written (cells.Dirty q) = refl

  pub line_cleaned : (cell : Cell) → line_in slots (line_after changes.WriteBack p cell) x ≡ cleaned (line_in slots cell x)
  line_cleaned cells.Empty = refl
  line_cleaned (cells.Clean q) = refl
  line_cleaned (cells.Dirty q) = refl

  pub line_dropped : (cell : Cell) → line_in slots (line_after changes.DropClean p cell) x ≡ dropped (line_in slots cell x)
  line_dropped cells.Empty = refl
  line_dropped (cells.Clean q) = refl
  line_dropped (cells.Dirty q) = refl

  pub line_filled : (cell : Cell) → line_in slots (line_after changes.Fill p cell) x ≡ filled (line_in slots cell x) (byte_in slots p x)
  line_filled cells.Empty = refl
  line_filled (cells.Clean q) = refl
  line_filled (cells.Dirty q) = refl

pub same_if : {A : Type 0} (b : Bool) (x : A) → (if b then x else x) ≡ x
same_if true x = refl
same_if false x = refl

-- an effect that leaves main as it is
pub main_kept : (agent memory start size : ℕ) (line : ℕ → Line → ℕ → Line) (s : Caches) → effect agent memory start size (λ i l v. v) line s ≡ record s { line = λ g m i. if (g == agent) && is_in (range memory start size) m i then line i (s.line g m i) (s.main m i) else s.line g m i }
main_kept agent memory start size line s =
    let lines : ℕ → ℕ → ℕ → Line = λ g m i. if (g == agent) && is_in (range memory start size) m i then line i (s.line g m i) (s.main m i) else s.line g m i in
    same_Caches (λ m i. if is_in (range memory start size) m i then s.main m i else s.main m i) s.main lines lines (λ m i. same_if (is_in (range memory start size) m i) (s.main m i)) (λ g m i. refl)

-- the byte of a part that begins where a range does
pub byte_there : (t : Table) (p : Part) (memory start size i : ℕ) (bytes : List ℕ) → slot_at t.slots p.slot ≡ bytes → p.start ≡ address t memory start → is_in (range memory start size) memory i ≡ true → byte_in t.slots p (address t memory i) ≡ slice_index bytes (i - start)
unfolding byte_in address
byte_there t p memory start size i bytes is at e =
    let q = and_parts (leb start i) (ltb i (start + size)) (and_parts (memory == memory) (nat_le start i && nat_lt i (start + size)) e).1 in
    let low = leb-true start i q.0 in
    let place : address t memory i - p.start ≡ i - start = omega (arith, at, low) in
    ap (λ n. slice_index (slot_at t.slots p.slot) n) place ∙ ap (λ xs. slice_index xs (i - start)) is

-- a change that brings junk touches no line
module _ (old : Table) (segments : List Segment) (left agent memory start size : ℕ) (p : Part) (R : InMemory old memory start size) (lines : (m i : ℕ) → i < size_of old m → agent < length (row_at old.segments (address old m i)).lines) (rows : (m i : ℕ) → i < size_of old m → row_at segments (address old m i) ≡ (if is_in (range memory start size) m i then changed agent (changes.Junk p) (row_at old.segments (address old m i)) else row_at old.segments (address old m i))) (bytes : List ℕ) (mains : (i : ℕ) → is_in (range memory start size) memory i ≡ true → byte_in old.slots p (address old memory i) ≡ slice_index bytes (i - start)) where
  abbrev junked : Table
  junked = recut old segments left

  same_lines : (m i : ℕ) → i < size_of old m → (row_at segments (address old m i)).lines ≡ (row_at old.segments (address old m i)).lines
  same_lines m i lt =
      let r = row_at old.segments (address old m i) in
      ap (λ (w : Row). w.lines) (rows m i lt) ∙ go (is_in (range memory start size) m i) r
    where
      go : (b : Bool) (r : Row) → (let w : Row = if b then changed agent (changes.Junk p) r else r in w.lines ≡ r.lines)
      go true r = set-get_or r.lines agent cells.Empty
      go false r = refl

  pub junked_bytes : caches_of junked ≡ overwrite (range memory start size) bytes (caches_of old)
  junked_bytes = same_Caches (caches_of junked).main (overwrite (range memory start size) bytes (caches_of old)).main (caches_of junked).line (caches_of old).line mains_same lines_same
    where
      mains_same : (m i : ℕ) → (caches_of junked).main m i ≡ (if is_in (range memory start size) m i then slice_index bytes (i - start) else (caches_of old).main m i)
      mains_same m i = ⊎_elim
          (λ (e : is_in (range memory start size) m i ≡ true).
          let lt = range_inside old memory start size m i R e in
          let is : m ≡ memory = sym (eqb-true memory m (and_parts (memory == m) (nat_le start i && nat_lt i (start + size)) e).0) in
          let P : ℕ → Type 0 = λ n. is_in (range memory start size) n i ≡ true in
          let Q : ℕ → Type 0 = λ n. byte_in old.slots p (address old n i) ≡ slice_index bytes (i - start) in
          let row : row_at segments (address old m i) ≡ changed agent (changes.Junk p) (row_at old.segments (address old m i)) = rows m i lt ∙ ap (λ (b : Bool). if b then changed agent (changes.Junk p) (row_at old.segments (address old m i)) else row_at old.segments (address old m i)) e in
          rw (e, at_main old segments left m i lt, row) (subst Q (sym is) (mains i (subst P is e))))
          (λ e. rw e (⊎_elim
          (λ (v : nat_lt i (size_of old m) ≡ true).
          let lt = ltb-true i (size_of old m) v in
          let row : row_at segments (address old m i) ≡ row_at old.segments (address old m i) = rows m i lt ∙ ap (λ (b : Bool). if b then changed agent (changes.Junk p) (row_at old.segments (address old m i)) else row_at old.segments (address old m i)) e in
          rw (at_main old segments left m i lt, row) (sym (main_at old m i lt)))
          (λ v. past_main old segments left m i v ∙ sym (main_past old m i v))
          (cases_Bool (nat_lt i (size_of old m)))))
          (cases_Bool (is_in (range memory start size) m i))

      lines_same : (g m i : ℕ) → (caches_of junked).line g m i ≡ (caches_of old).line g m i
      lines_same g m i = ⊎_elim
          (λ (v : (nat_lt g old.agents && nat_lt i (size_of old m)) ≡ true).
          let q = and_parts (nat_lt g old.agents) (nat_lt i (size_of old m)) v in
          let here = ltb-true g old.agents q.0 in
          let lt = ltb-true i (size_of old m) q.1 in
          at_line old segments left g m i here lt ∙ ap (λ (ls : List Cell). line_in old.slots (get_or ls g cells.Empty) (address old m i)) (same_lines m i lt) ∙ sym (line_at old g m i here lt))
          (λ v. past_line old segments left g m i v ∙ sym (line_past old g m i v))
          (cases_Bool (nat_lt g old.agents && nat_lt i (size_of old m)))
