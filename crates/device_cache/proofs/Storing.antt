-- A slot that no part names gets other bytes.
use Rattle.std.proofs.Common.{◌≡◌, ◌≢◌, ℕ, ◌<◌, ◌≤◌, true, ◌&&◌, List, length, refl, sym, ap, ◌∙◌, ⊎_elim, arith}
use Rattle.std.specs.Prelude.{nat_lt}
use Rattle.std.proofs.lemmas.Bool.{cases_Bool, and_parts, ltb-true, lt-ltb}
use Rattle.device_cache.specs.declared.part.Part.{Part}
use Rattle.device_cache.specs.declared.cell.Cell.{Cell}
use Rattle.device_cache.specs.declared.cell.Cell.TheVariants as cells
use Rattle.device_cache.specs.declared.row.Row.{Row}
use Rattle.device_cache.specs.declared.segment.Segment.{Segment}
use Rattle.device_cache.specs.Internal.Uses.{cell_uses, row_uses, uses}
use Rattle.device_cache.specs.Places.{line_by}
use Rattle.device_cache.specs.Places.{place, row_at}
use Rattle.device_cache.specs.Tables.{Table, size_of, address, slot_at, byte_in, line_in, caches_of}
use Rattle.device_cache.specs.Internal.Kept.{PartFits, CellFits, RowFits, IsTiled, AreApart}
use Rattle.device_cache.proofs.Naming.{row_unnamed, part_other, main_other, cell_other}
use Rattle.device_cache.proofs.Addresses.{address_inside}
use Rattle.device_cache.proofs.Effects.{same_Caches, main_at, main_past, line_at, line_past}

module _ (old new : List (List ℕ)) (slot : ℕ) (longer : length old ≤ length new) (others : (k : ℕ) → k < length old → k ≢ slot → slot_at new k ≡ slot_at old k) where
  part_stays : (p : Part) (x : ℕ) → p.slot ≢ slot → PartFits old p x → PartFits new p x
  part_stays p x ne f = record { slot = omega (arith, f.slot, longer); from = f.from; to = omega (arith, f.to, ap length (others p.slot f.slot ne)) }

  cell_stays : (cell : Cell) (x : ℕ) → cell_uses slot cell ≡ 0 → CellFits old cell x → CellFits new cell x
  cell_stays cells.Empty x e f = tt
  cell_stays (cells.Clean p) x e f = part_stays p x (part_other slot p e) f
  cell_stays (cells.Dirty p) x e f = part_stays p x (part_other slot p e) f

  row_stays : (r : Row) (x : ℕ) → row_uses slot r ≡ 0 → RowFits old r x → RowFits new r x
  row_stays r x e f = record {
    lines = f.lines;
    main = part_stays r.main x (main_other slot r e) f.main;
    cells = λ g lt. cell_stays (line_by r g) x (cell_other slot r e g (omega (arith, lt, f.lines))) (f.cells g lt);
  }

  byte_stays : (p : Part) (x : ℕ) → p.slot ≢ slot → PartFits old p x → byte_in new p x ≡ byte_in old p x
  unfolding byte_in
  byte_stays p x ne f = rw (others p.slot f.slot ne) refl

  line_stays : (cell : Cell) (x : ℕ) → cell_uses slot cell ≡ 0 → CellFits old cell x → line_in new cell x ≡ line_in old cell x
  line_stays cells.Empty x e f = refl
  line_stays (cells.Clean p) x e f = rw (byte_stays p x (part_other slot p e) f) refl
  line_stays (cells.Dirty p) x e f = rw (byte_stays p x (part_other slot p e) f) refl

  module _ (total : ℕ) (segments : List Segment) (T : IsTiled total old segments) (unnamed : uses slot segments ≡ 0) where
    pub row_other : (x : ℕ) → x < total → row_uses slot (row_at segments x) ≡ 0
    unfolding row_at
    row_other x lt = row_unnamed slot segments unnamed (place segments x) (ltb-true (place segments x) (length segments) (T.covered x ∙ lt-ltb x total lt))

    pub stored_tiled : IsTiled total new segments
    stored_tiled = record {
      ascending = T.ascending;
      covered = T.covered;
      whole = T.whole;
      fits = λ x lt. row_stays (row_at segments x) x (row_other x lt) (T.fits x lt);
    }

-- the bytes of main and of all lines are as before
module _ (t : Table) (slots : List (List ℕ)) (left slot : ℕ) (longer : length t.slots ≤ length slots) (others : (k : ℕ) → k < length t.slots → k ≢ slot → slot_at slots k ≡ slot_at t.slots k) (T : IsTiled t.total t.slots t.segments) (A : AreApart t.total t.memories) (few : t.agents ≤ 32) (unnamed : uses slot t.segments ≡ 0) where
  abbrev stored : Table
  stored = record t { slots = slots; stores_left = left }

  main_stored : (m i : ℕ) → (caches_of stored).main m i ≡ (caches_of t).main m i
  unfolding size_of address
  main_stored m i = ⊎_elim
      (λ (v : nat_lt i (size_of t m) ≡ true).
      let lt = ltb-true i (size_of t m) v in
      let x = address t m i in
      let within = address_inside t m i A lt in
      let r = row_at t.segments x in
      main_at stored m i lt ∙ byte_stays t.slots slots slot longer others r.main x (main_other slot r (row_other t.slots slots slot longer others t.total t.segments T unnamed x within)) (T.fits x within).main ∙ sym (main_at t m i lt))
      (λ v. main_past stored m i v ∙ sym (main_past t m i v))
      (cases_Bool (nat_lt i (size_of t m)))

  line_stored : (g m i : ℕ) → (caches_of stored).line g m i ≡ (caches_of t).line g m i
  unfolding size_of address
  line_stored g m i = ⊎_elim
      (λ (v : (nat_lt g t.agents && nat_lt i (size_of t m)) ≡ true).
      let q = and_parts (nat_lt g t.agents) (nat_lt i (size_of t m)) v in
      let known = ltb-true g t.agents q.0 in
      let lt = ltb-true i (size_of t m) q.1 in
      let x = address t m i in
      let within = address_inside t m i A lt in
      let r = row_at t.segments x in
      let small : g < 32 = omega (arith, known, few) in
      line_at stored g m i known lt ∙ line_stays t.slots slots slot longer others (line_by r g) x (cell_other slot r (row_other t.slots slots slot longer others t.total t.segments T unnamed x within) g (omega (arith, small, (T.fits x within).lines))) ((T.fits x within).cells g small) ∙ sym (line_at t g m i known lt))
      (λ v. line_past stored g m i v ∙ sym (line_past t g m i v))
      (cases_Bool (nat_lt g t.agents && nat_lt i (size_of t m)))

  pub stored_bytes : caches_of stored ≡ caches_of t
  stored_bytes = same_Caches (caches_of stored).main (caches_of t).main (caches_of stored).line (caches_of t).line main_stored line_stored
