-- A new table has the opening bytes.
use Rattle.std.proofs.Common.{◌≡◌, ℕ, ◌+◌, ◌-◌, ◌<◌, true, ◌&&◌, List, [], ◌∷◌, length, add-one, refl, sym, ap, ◌∙◌, ⊎_elim, arith}
use Rattle.std.specs.Prelude.{nat_lt, replicate, slice_index}
use Rattle.std.proofs.lemmas.Bool.{cases_lt, cases_Bool, and_parts, ltb-true, ltb-false}
use Rattle.std.proofs.lemmas.List.{get_or_past, get_or-replicate, length-replicate}
use Rattle.device_cache.specs.declared.cell.Cell.{Cell}
use Rattle.device_cache.specs.declared.cell.Cell.TheVariants as cells
use Rattle.device_cache.specs.declared.row.Row.{Row}
use Rattle.device_cache.specs.declared.memory.Memory.{Memory}
use Rattle.device_cache.specs.declared.segment.Segment.{Segment}
use Rattle.device_cache.specs.Lines.{Absent}
use Rattle.device_cache.specs.Effects.{opened}
use Rattle.device_cache.specs.Places.{line_by}
use Rattle.device_cache.specs.Places.{row_at, cut_in}
use Rattle.device_cache.specs.Tables.{Table, memory_of, size_of, address, slot_at, byte_in, line_in, caches_of, junk_of, is_cut}
use Rattle.device_cache.specs.Internal.Opened.{open_row, IsOpened}
use Rattle.device_cache.specs.Tables.{IsMade}
use Rattle.device_cache.proofs.Addresses.{memory_there}
use Rattle.device_cache.proofs.Effects.{same_Caches, main_at, main_past, line_at, line_past}

no_line : (g slot start : ℕ) → line_by (open_row slot start) g ≡ cells.Empty
no_line g slot start = ⊎_elim (λ lt. get_or-replicate 32 g cells.Empty cells.Empty lt) (λ ge. get_or_past (replicate 32 cells.Empty) g cells.Empty (omega (arith, length-replicate 32 cells.Empty, ge))) (cases_lt g 32)

-- slot 0 has the junk, and the slots after it the opening bytes
module _ (t : Table) (agents : ℕ) (opening : List (List ℕ)) (bytes : List ℕ) (count : t.agents ≡ agents) (slots : t.slots ≡ bytes ∷ opening) (O : IsOpened t.slots (length opening) t.total t.memories t.segments) where
  slot_is : (m : ℕ) → slot_at t.slots (m + 1) ≡ slot_at opening m
  slot_is m = ap (λ xs. slot_at xs (m + 1)) slots ∙ rw add-one refl

  size_is : (m : ℕ) → size_of t m ≡ length (slot_at opening m)
  unfolding size_of
  size_is m = ⊎_elim
      (λ lt. O.sizes m lt ∙ ap length (slot_is m))
      (λ ge. ap (λ (d : Memory). d.size) (get_or_past t.memories m (record { start = 0; size = 0 }) (omega (arith, ge, O.many))) ∙ sym (ap length (get_or_past opening m [] ge)))
      (cases_lt m (length opening))

  row_is : (m i : ℕ) → i < size_of t m → row_at t.segments (address t m i) ≡ open_row (m + 1) (memory_of t m).start
  unfolding address size_of
  row_is m i lt = O.rows m i (omega (arith, memory_there t m i lt, O.many)) lt

  byte_is : (m i : ℕ) → (row : Row) → row ≡ open_row (m + 1) (memory_of t m).start → byte_in t.slots row.main (address t m i) ≡ slice_index (slot_at opening m) i
  unfolding byte_in address
  byte_is m i row e =
      let start = (memory_of t m).start in
      let place : start + i - start ≡ i = omega arith in
      ap (λ (r : Row). slice_index (slot_at t.slots r.main.slot) (start + i - r.main.start)) e ∙ ap (slice_index (slot_at t.slots (m + 1))) place ∙ ap (λ xs. slice_index xs i) (slot_is m)

  main_is : (m i : ℕ) → (caches_of t).main m i ≡ slice_index (slot_at opening m) i
  main_is m i = ⊎_elim
      (λ (v : nat_lt i (size_of t m) ≡ true). let lt = ltb-true i (size_of t m) v in main_at t m i lt ∙ byte_is m i (row_at t.segments (address t m i)) (row_is m i lt))
      (λ v. main_past t m i v ∙ sym (get_or_past (slot_at opening m) i 0 (omega (arith, ltb-false i (size_of t m) v, size_is m))))
      (cases_Bool (nat_lt i (size_of t m)))

  line_is : (g m i : ℕ) → (caches_of t).line g m i ≡ Absent
  line_is g m i = ⊎_elim
      (λ (v : (nat_lt g t.agents && nat_lt i (size_of t m)) ≡ true).
      let q = and_parts (nat_lt g t.agents) (nat_lt i (size_of t m)) v in
      let lt = ltb-true i (size_of t m) q.1 in
      line_at t g m i (ltb-true g t.agents q.0) lt ∙ ap (λ (r : Row). line_in t.slots (line_by r g) (address t m i)) (row_is m i lt) ∙ ap (λ (c : Cell). line_in t.slots c (address t m i)) (no_line g (m + 1) (memory_of t m).start))
      (λ v. line_past t g m i v)
      (cases_Bool (nat_lt g t.agents && nat_lt i (size_of t m)))

  pub is_made : IsMade t agents opening bytes
  unfolding size_of address junk_of is_cut
  is_made = record {
    agents = count;
    memories = O.many;
    sizes = size_is;
    junk = ap (λ xs. slot_at xs 0) slots;
    caches = same_Caches (caches_of t).main (opened opening).main (caches_of t).line (opened opening).line main_is line_is;
    starts = λ m lt. let zero : (memory_of t m).start ≡ (memory_of t m).start + 0 = omega arith in ap (cut_in t.segments) (sym zero) ∙ O.starts m lt;
    ends = λ m lt. O.ends m lt;
  }

-- segments with the same rows have the same bytes
module _ (t : Table) (segments : List Segment) (left : ℕ) (rows : (x : ℕ) → row_at segments x ≡ row_at t.segments x) where
  abbrev recut : Table
  recut = record t { segments = segments; cuts_left = left }

  main_recut : (m i : ℕ) → (caches_of recut).main m i ≡ (caches_of t).main m i
  unfolding size_of address
  main_recut m i = ⊎_elim
      (λ (v : nat_lt i (size_of t m) ≡ true). let lt = ltb-true i (size_of t m) v in main_at recut m i lt ∙ ap (λ (r : Row). byte_in t.slots r.main (address t m i)) (rows (address t m i)) ∙ sym (main_at t m i lt))
      (λ v. main_past recut m i v ∙ sym (main_past t m i v))
      (cases_Bool (nat_lt i (size_of t m)))

  line_recut : (g m i : ℕ) → (caches_of recut).line g m i ≡ (caches_of t).line g m i
  unfolding size_of address
  line_recut g m i = ⊎_elim
      (λ (v : (nat_lt g t.agents && nat_lt i (size_of t m)) ≡ true).
      let q = and_parts (nat_lt g t.agents) (nat_lt i (size_of t m)) v in
      let known = ltb-true g t.agents q.0 in
      let lt = ltb-true i (size_of t m) q.1 in
      line_at recut g m i known lt ∙ ap (λ (r : Row). line_in t.slots (line_by r g) (address t m i)) (rows (address t m i)) ∙ sym (line_at t g m i known lt))
      (λ v. line_past recut g m i v ∙ sym (line_past t g m i v))
      (cases_Bool (nat_lt g t.agents && nat_lt i (size_of t m)))

  pub same_recut : caches_of recut ≡ caches_of t
  same_recut = same_Caches (caches_of recut).main (caches_of t).main (caches_of recut).line (caches_of t).line main_recut line_recut

  -- so a new table stays one when it is cut further
  pub made_recut : (agents : ℕ) (opening : List (List ℕ)) (bytes : List ℕ) → ((x : ℕ) → cut_in t.segments x ≡ true → cut_in segments x ≡ true) → IsMade t agents opening bytes → IsMade recut agents opening bytes
  unfolding size_of address junk_of is_cut
  made_recut agents opening bytes kept M = record {
    agents = M.agents;
    memories = M.memories;
    sizes = M.sizes;
    junk = M.junk;
    caches = same_recut ∙ M.caches;
    starts = λ m lt. kept (address t m 0) (M.starts m lt);
    ends = λ m lt. kept (address t m (size_of t m)) (M.ends m lt);
  }
