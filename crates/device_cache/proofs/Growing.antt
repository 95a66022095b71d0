-- A table grows by a memory.
use Rattle.std.proofs.Common.{◌≡◌, ℕ, ◌+◌, ◌<◌, ◌≤◌, Bool, true, false, List, [], ◌∷◌, ◌++◌, length, take, drop, get_or, add_comm, refl, sym, ap, ◌∙◌, ⊎_elim, subst, arith}
use Rattle.std.specs.Prelude.{nat_lt, ◌==◌, if◌then◌else◌}
use Rattle.std.proofs.lemmas.Bool.{cases_lt, cases_Bool, lt-ltb, ltb-true, ltb-false, le-ltb, eqb-true, eqb-false}
use Rattle.std.proofs.lemmas.List.{get_or_append_left, get_or_push, length_push, length-replicate, get_or-replicate, get_or-drop, length-drop}
use Rattle.std.specs.List.{sum_by}
use Rattle.std.proofs.lemmas.List.Sums.{sum_by_more, sum_by_more_le}
use Rattle.std.specs.Cmp.{both_ways}
use Rattle.device_cache.specs.declared.cell.Cell.{Cell}
use Rattle.device_cache.specs.declared.cell.Cell.TheVariants as cells
use Rattle.device_cache.specs.declared.row.Row.{Row}
use Rattle.device_cache.specs.declared.memory.Memory.{Memory}
use Rattle.device_cache.specs.declared.segment.Segment.{Segment}
use Rattle.device_cache.specs.Places.{nowhere, segment_at, place, row_at, cut_in}
use Rattle.device_cache.specs.Internal.Segments.{covers, Ascending}
use Rattle.device_cache.specs.Tables.{memory_in, slot_at}
use Rattle.device_cache.specs.Internal.Kept.{CellFits, RowFits, IsTiled}
use Rattle.device_cache.specs.Internal.Opened.{open_row, open_segment, IsOpened}
use Rattle.device_cache.proofs.Placing.{place_le, place_is, place_bound, before_place, at_place, cut_cases, cut_zero, cut_end}

module _ (total : ℕ) (slots : List (List ℕ)) (segments : List Segment) (T : IsTiled total slots segments) where
  inside : (x : ℕ) → x < total → place segments x < length segments
  inside x lt = ltb-true (place segments x) (length segments) (T.covered x ∙ lt-ltb x total lt)

  full : (x : ℕ) → total ≤ x → place segments x ≡ length segments
  full x le = let p = ltb-false (place segments x) (length segments) (T.covered x ∙ le-ltb x total le) in omega (arith, p, place_bound segments x)

  ends_within : (j : ℕ) → j < length segments → (segment_at segments j).end ≤ total
  ends_within j lt = ⊎_elim (λ less. absurd (let p = place_le segments j total lt less in omega (arith, p, lt, full total (omega arith)))) (λ h. h) (cases_lt total (segment_at segments j).end)

  module _ (slot len : ℕ) (some : 0 < len) where
    abbrev added : Segment
    added = open_segment slot total len

    abbrev pub longer : List Segment
    longer = segments ++ added ∷ []

    len_longer : length longer ≡ length segments + 1
    len_longer = length_push segments added

    at_old : (j : ℕ) → j < length segments → segment_at longer j ≡ segment_at segments j
    at_old j lt = get_or_append_left segments (added ∷ []) nowhere j lt

    at_new : segment_at longer (length segments) ≡ added
    at_new = get_or_push segments added nowhere (length segments) refl

    place_old : (x : ℕ) → x < total → place longer x ≡ place segments x
    place_old x lt = place_is longer (place segments x) x (omega (arith, inside x lt, len_longer)) (λ j less. rw (at_old j (omega (arith, less, inside x lt))) (before_place segments j x less)) (λ _. rw (at_old (place segments x) (inside x lt)) (at_place segments x (inside x lt)))

    place_new : (x : ℕ) → total ≤ x → x < total + len → place longer x ≡ length segments
    place_new x low high = place_is longer (length segments) x (omega (arith, len_longer)) (λ j less. rw (at_old j less) (omega (arith, low, ends_within j less))) (λ _. rw at_new high)

    place_past : (x : ℕ) → total + len ≤ x → place longer x ≡ length segments + 1
    place_past x high = place_is longer (length segments + 1) x (omega (arith, len_longer))
        (λ j less. ⊎_elim (λ (lt : j < length segments). rw (at_old j lt) (omega (arith, high, ends_within j lt))) (λ (ge : length segments ≤ j). let e : j ≡ length segments = omega (arith, ge, less) in rw (e, at_new) high) (cases_lt j (length segments)))
        (λ lt. absurd (omega (arith, lt, len_longer)))

    pub rows_old : (x : ℕ) → x < total → row_at longer x ≡ row_at segments x
    unfolding row_at
    rows_old x lt = ap (λ n. (segment_at longer n).row) (place_old x lt) ∙ ap (λ (s : Segment). s.row) (at_old (place segments x) (inside x lt))

    pub rows_new : (x : ℕ) → total ≤ x → x < total + len → row_at longer x ≡ open_row slot total
    unfolding row_at
    rows_new x low high = ap (λ n. (segment_at longer n).row) (place_new x low high) ∙ ap (λ (s : Segment). s.row) at_new

    pub cuts_longer : (x : ℕ) → cut_in segments x ≡ true → cut_in longer x ≡ true
    cuts_longer x h = ⊎_elim (λ e. cut_zero longer x e) (λ t. cut_end longer t.0 x (omega (arith, t.1, len_longer)) (ap (λ (s : Segment). s.end) (at_old t.0 t.1) ∙ t.2)) (cut_cases segments x h)

    covers_longer : (x : ℕ) → covers longer x ≡ nat_lt x (total + len)
    covers_longer x = both_ways (covers longer x) (nat_lt x (total + len))
        (λ h. lt-ltb x (total + len) (⊎_elim (λ lt. lt) (λ ge. absurd (let p = ltb-true (place longer x) (length longer) h in omega (arith, p, place_past x ge, len_longer))) (cases_lt x (total + len))))
        (λ h. let high = ltb-true x (total + len) h in lt-ltb (place longer x) (length longer) (⊎_elim (λ (lt : x < total). let p = place_old x lt in omega (arith, p, inside x lt, len_longer)) (λ ge. let p = place_new x ge high in omega (arith, p, len_longer)) (cases_lt x total)))

    ascends : Ascending longer
    ascends = record {
      some = λ k lt. ⊎_elim (λ (less : k < length segments). rw (at_old k less) (T.ascending.some k less)) (λ (ge : length segments ≤ k). let e : k ≡ length segments = omega (arith, ge, lt, len_longer) in rw (e, at_new) (omega (arith, some))) (cases_lt k (length segments));
      rising = λ j k less lt. ⊎_elim
          (λ (in_old : k < length segments). rw (at_old k in_old, at_old j (omega (arith, less, in_old))) (T.ascending.rising j k less in_old))
          (λ (ge : length segments ≤ k). let e : k ≡ length segments = omega (arith, ge, lt, len_longer) in let low : j < length segments = omega (arith, less, e) in rw (e, at_new, at_old j low) (omega (arith, some, ends_within j low)))
          (cases_lt k (length segments));
    }

    pub tiled_longer : slot < length slots → length (slot_at slots slot) ≡ len → IsTiled (total + len) slots longer
    tiled_longer there size = record {
      ascending = ascends;
      covered = covers_longer;
      whole = cut_end longer (length segments) (total + len) (omega (arith, len_longer)) (ap (λ (s : Segment). s.end) at_new);
      fits = λ x lt. let P : Row → Type 0 = λ r. RowFits slots r x in ⊎_elim
          (λ less. subst P (sym (rows_old x less)) (T.fits x less))
          (λ ge. subst P (sym (rows_new x ge lt)) (record {
            lines = length-replicate 32 cells.Empty;
            main = record { slot = there; from = ge; to = omega (arith, lt, size) };
            cells = λ g known. let Q : Cell → Type 0 = λ c. CellFits slots c x in subst Q (sym (get_or-replicate 32 g cells.Empty cells.Empty known)) tt;
          }))
          (cases_lt x total);
    }

pub nothing_opened : (slots : List (List ℕ)) → IsOpened slots 0 0 [] []
nothing_opened slots = record {
  tiled = record {
    ascending = record { some = λ k lt. absurd (omega (arith, lt)); rising = λ j k less lt. absurd (omega (arith, lt)) };
    covered = λ x. sym (le-ltb x 0 (omega arith));
    whole = cut_zero [] 0 refl;
    fits = λ x lt. absurd (omega (arith, lt));
  };
  apart = record { inside = λ m d lt. absurd (omega (arith, lt)); rising = λ m n d less lt. absurd (omega (arith, lt)) };
  many = refl;
  sizes = λ m lt. absurd (omega (arith, lt));
  rows = λ m i lt. absurd (omega (arith, lt));
  starts = λ m lt. absurd (omega (arith, lt));
  ends = λ m lt. absurd (omega (arith, lt));
}

-- one memory more, over segments that go as far
module _ (slots : List (List ℕ)) (n total len : ℕ) (memories : List Memory) (segments longer : List Segment) (O : IsOpened slots n total memories segments) (size : length (slot_at slots (n + 1)) ≡ len) (T : IsTiled (total + len) slots longer) (old : (x : ℕ) → x < total → row_at longer x ≡ row_at segments x) (new : (x : ℕ) → total ≤ x → x < total + len → row_at longer x ≡ open_row (n + 1) total) (kept : (x : ℕ) → cut_in segments x ≡ true → cut_in longer x ≡ true) where
  abbrev memory : Memory
  memory = record { start = total; size = len }

  abbrev pub more : List Memory
  more = memories ++ memory ∷ []

  before : (m : ℕ) (d : Memory) → m < n → get_or more m d ≡ get_or memories m d
  before m d lt = get_or_append_left memories (memory ∷ []) d m (omega (arith, lt, O.many))

  last : (m : ℕ) (d : Memory) → m ≡ n → get_or more m d ≡ memory
  last m d e = get_or_push memories memory d m (O.many ∙ sym e)

  -- what holds of each old memory and of the new one holds of all
  each : (P : ℕ → Memory → Type 0) → ((m : ℕ) → m < n → P m (memory_in memories m)) → P n memory → (m : ℕ) → m < n + 1 → P m (memory_in more m)
  each P all one m lt = ⊎_elim
      (λ (less : m < n). subst (P m) (sym (before m (record { start = 0; size = 0 }) less)) (all m less))
      (λ ge. let e : m ≡ n = omega (arith, ge, lt) in let Q : ℕ → Type 0 = λ k. P k memory in subst (P m) (sym (last m (record { start = 0; size = 0 }) e)) (subst Q (sym e) one))
      (cases_lt m n)

  end_within : (m : ℕ) (d : Memory) → m < n → (get_or memories m d).start + (get_or memories m d).size ≤ total
  end_within m d lt = O.apart.inside m d (omega (arith, lt, O.many))

  pub opened_more : IsOpened slots (n + 1) (total + len) more longer
  opened_more = record {
    tiled = T;
    apart = record {
      inside = λ m d lt. let P : Memory → Type 0 = λ w. w.start + w.size ≤ total + len in ⊎_elim
          (λ (less : m < n). subst P (sym (before m d less)) (omega (arith, end_within m d less)))
          (λ ge. subst P (sym (last m d (omega (arith, ge, lt, length_push memories memory, O.many)))) (omega arith))
          (cases_lt m n);
      rising = λ m k d less lt.
          let low : m < n = omega (arith, less, lt, length_push memories memory, O.many) in
          let P : Memory → Type 0 = λ w. w.start + w.size ≤ (get_or more k d).start in
          let Q : Memory → Type 0 = λ w. (get_or memories m d).start + (get_or memories m d).size ≤ w.start in
          subst P (sym (before m d low)) (⊎_elim
          (λ (in_old : k < n). subst Q (sym (before k d in_old)) (O.apart.rising m k d less (omega (arith, in_old, O.many))))
          (λ ge. subst Q (sym (last k d (omega (arith, ge, lt, length_push memories memory, O.many)))) (end_within m d low))
          (cases_lt k n));
    };
    many = length_push memories memory ∙ ap (λ k. k + 1) O.many;
    sizes = each (λ m w. w.size ≡ length (slot_at slots (m + 1))) O.sizes (sym size);
    rows = λ m i lt. each (λ m w. i < w.size → row_at longer (w.start + i) ≡ open_row (m + 1) w.start)
        (λ m less small. old ((memory_in memories m).start + i) (omega (arith, small, end_within m (record { start = 0; size = 0 }) less)) ∙ O.rows m i less small)
        (λ small. new (total + i) (omega arith) (omega (arith, small)))
        m lt;
    starts = each (λ m w. cut_in longer w.start ≡ true) (λ m less. kept (memory_in memories m).start (O.starts m less)) (kept total O.tiled.whole);
    ends = each (λ m w. cut_in longer (w.start + w.size) ≡ true) (λ m less. kept ((memory_in memories m).start + (memory_in memories m).size) (O.ends m less)) T.whole;
  }

-- the step of the loop
pub opened_step : (slots : List (List ℕ)) (n total len : ℕ) (memories : List Memory) (segments : List Segment) → IsOpened slots n total memories segments → n + 1 < length slots → length (slot_at slots (n + 1)) ≡ len → IsOpened slots (n + 1) (total + len) (memories ++ record { start = total; size = len } ∷ []) (if len == 0 then segments else segments ++ open_segment (n + 1) total len ∷ [])
opened_step slots n total len memories segments O there size = ⊎_elim none some (cases_Bool (len == 0))
  where
    P : Bool → Type 0
    P b = IsOpened slots (n + 1) (total + len) (memories ++ record { start = total; size = len } ∷ []) (if b then segments else segments ++ open_segment (n + 1) total len ∷ [])

    none : (len == 0) ≡ true → P (len == 0)
    none e =
        let zero : total ≡ total + len = omega (arith, eqb-true len 0 e) in
        let Q : ℕ → Type 0 = λ k. IsTiled k slots segments in
        subst P (sym e) (opened_more slots n total len memories segments segments O size (subst Q zero O.tiled) (λ x lt. refl) (λ x low high. absurd (omega (arith, zero, low, high))) (λ x h. h))

    some : (len == 0) ≡ false → P (len == 0)
    some e =
        let ne = eqb-false len 0 e in
        let more : 0 < len = omega (arith, ne) in
        subst P (sym e) (opened_more slots n total len memories segments (segments ++ open_segment (n + 1) total len ∷ []) O size (tiled_longer total slots segments O.tiled (n + 1) len more there size) (rows_old total slots segments O.tiled (n + 1) len more) (rows_new total slots segments O.tiled (n + 1) len more) (cuts_longer total slots segments O.tiled (n + 1) len more))

-- the bytes of the memories so far, and of one more
module _ (slots : List (List ℕ)) (k : ℕ) (there : k + 1 < length slots) where
  next_slot : get_or (drop 1 slots) k [] ≡ slot_at slots (k + 1)
  next_slot = get_or-drop 1 slots k [] ∙ ap (slot_at slots) (add_comm 1 k)

  lt : k < length (drop 1 slots)
  lt = omega (arith, there, length-drop 1 slots)

  pub next_sum : sum_by length (take (k + 1) (drop 1 slots)) ≡ sum_by length (take k (drop 1 slots)) + length (slot_at slots (k + 1))
  next_sum = sum_by_more length (drop 1 slots) k [] lt ∙ ap (λ xs. sum_by length (take k (drop 1 slots)) + length xs) next_slot

  pub next_sum_le : sum_by length (take k (drop 1 slots)) + length (slot_at slots (k + 1)) ≤ sum_by length (drop 1 slots)
  next_sum_le = rw (← next_slot) (sum_by_more_le length (drop 1 slots) k [] lt)
