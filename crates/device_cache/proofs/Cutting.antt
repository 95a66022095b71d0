-- A segment is cut in two.
use Rattle.std.proofs.Common.{◌≡◌, ℕ, ◌+◌, ◌-◌, ◌<◌, ◌≤◌, true, false, List, length, get_or, refl, sym, ap, ◌∙◌, ⊎_elim, subst, arith}
use Rattle.std.specs.List.{insert}
use Rattle.std.proofs.lemmas.Bool.{cases_eq, cases_lt, lt-ltb, ltb-true}
use Rattle.std.proofs.lemmas.List.{get_or_read}
use Rattle.std.proofs.lemmas.List.Edits.{length-insert, get_or-insert_below, get_or-insert_at, get_or-insert_above}
use Rattle.std.specs.Cmp.{both_ways}
use Rattle.device_cache.specs.declared.segment.Segment.{Segment}
use Rattle.device_cache.specs.declared.row.Row.{Row}
use Rattle.device_cache.specs.Places.{nowhere, segment_at, place, row_at, cut_in}
use Rattle.device_cache.specs.Internal.Segments.{covers, Ascending}
use Rattle.device_cache.proofs.Placing.{place_le, place_is, place_bound, before_place, at_place, cut_cases, cut_zero, cut_end}

module _ (segments : List Segment) (at k : ℕ) (is : k ≡ place segments at) (inside : k < length segments) where
  -- the part before the address goes in front of the segment that has it
  abbrev front : Segment
  front = record { end = at; row = (segment_at segments k).row }

  pub cut : List Segment
  cut = insert segments k front

  -- what the code inserts
  pub cut_is : (s : Segment) → s ≡ get_or segments k s → insert segments k (record { end = at; row = s.row }) ≡ cut
  unfolding cut
  cut_is s e = let same : s ≡ segment_at segments k = get_or_read segments k s inside e nowhere in ap (λ (r : Row). insert segments k (record { end = at; row = r })) (ap (λ (t : Segment). t.row) same)

  length_cut : length cut ≡ length segments + 1
  unfolding cut
  length_cut = length-insert segments k front (omega (arith, inside))

  below_cut : (j : ℕ) → j < k → segment_at cut j ≡ segment_at segments j
  unfolding cut
  below_cut j lt = get_or-insert_below segments k front nowhere j lt (omega (arith, inside))

  at_cut : segment_at cut k ≡ front
  unfolding cut
  at_cut = get_or-insert_at segments k front nowhere (omega (arith, inside))

  above_cut : (j : ℕ) → k ≤ j → segment_at cut (j + 1) ≡ segment_at segments j
  unfolding cut
  above_cut j le = get_or-insert_above segments k front nowhere j le (omega (arith, inside))

  end_below : (j : ℕ) → j < k → (segment_at segments j).end ≤ at
  end_below j lt = before_place segments j at (rw (← is) lt)

  behind : at < (segment_at segments k).end
  behind = let h = at_place segments at (rw (← is) inside) in let P : ℕ → Type 0 = λ n. at < (segment_at segments n).end in subst P (sym is) h

  -- an address before the cut
  low_place : (x : ℕ) → x < at → place cut x ≡ place segments x
  low_place x lt = place_is cut (place segments x) x (omega (arith, length_cut, le, inside)) below here
    where
      le : place segments x ≤ k
      le = place_le segments k x inside (omega (arith, lt, behind))

      below : (j : ℕ) → j < place segments x → (segment_at cut j).end ≤ x
      below j less = rw (below_cut j (omega (arith, less, le))) (before_place segments j x less)

      here : place segments x < length cut → x < (segment_at cut (place segments x)).end
      here _ = ⊎_elim
          (λ (less : place segments x < k). rw (below_cut (place segments x) less) (at_place segments x (omega (arith, less, inside))))
          (λ ge. let e : place segments x ≡ k = omega (arith, ge, le) in rw (e, at_cut) lt)
          (cases_lt (place segments x) k)

  -- an address behind it
  high_place : (x : ℕ) → at ≤ x → place cut x ≡ place segments x + 1
  high_place x le = place_is cut (place segments x + 1) x (omega (arith, length_cut, place_bound segments x)) below here
    where
      from : k ≤ place segments x
      from = ⊎_elim (λ less. absurd (omega (arith, le, end_below (place segments x) less, at_place segments x (omega (arith, less, inside))))) (λ h. h) (cases_lt (place segments x) k)

      below : (j : ℕ) → j < place segments x + 1 → (segment_at cut j).end ≤ x
      below j less = ⊎_elim
          (λ (lt : j < k). rw (below_cut j lt) (omega (arith, le, end_below j lt)))
          (λ ge. ⊎_elim
          (λ (e : j ≡ k). rw (e, at_cut) le)
          (λ ne. let m : j ≡ (j - 1) + 1 = omega (arith, ge, ne) in let up : k ≤ j - 1 = omega (arith, ge, ne) in rw (m, above_cut (j - 1) up) (before_place segments (j - 1) x (omega (arith, less, ge, ne))))
          (cases_eq j k))
          (cases_lt j k)

      here : place segments x + 1 < length cut → x < (segment_at cut (place segments x + 1)).end
      here lt = rw (above_cut (place segments x) from) (at_place segments x (omega (arith, lt, length_cut)))

  pub cut_rows : (x : ℕ) → row_at cut x ≡ row_at segments x
  unfolding row_at
  cut_rows x = ⊎_elim low high (cases_lt x at)
    where
      low : x < at → (segment_at cut (place cut x)).row ≡ (segment_at segments (place segments x)).row
      low lt = rw (low_place x lt) (⊎_elim
          (λ (less : place segments x < k). ap (λ (s : Segment). s.row) (below_cut (place segments x) less))
          (λ ge. let e : place segments x ≡ k = omega (arith, ge, place_le segments k x inside (omega (arith, lt, behind))) in rw (e, at_cut) refl)
          (cases_lt (place segments x) k))

      high : at ≤ x → (segment_at cut (place cut x)).row ≡ (segment_at segments (place segments x)).row
      high le = rw (high_place x le) (ap (λ (s : Segment). s.row) (above_cut (place segments x) (⊎_elim (λ less. absurd (omega (arith, le, end_below (place segments x) less, at_place segments x (omega (arith, less, inside))))) (λ h. h) (cases_lt (place segments x) k))))

  pub cut_covers : (x : ℕ) → covers cut x ≡ covers segments x
  cut_covers x = both_ways (covers cut x) (covers segments x)
      (λ h. lt-ltb (place segments x) (length segments) (⊎_elim
      (λ (lt : x < at). omega (arith, inside, place_le segments k x inside (omega (arith, lt, behind))))
      (λ ge. let p = high_place x ge in let less = ltb-true (place cut x) (length cut) h in omega (arith, p, less, length_cut))
      (cases_lt x at)))
      (λ h. lt-ltb (place cut x) (length cut) (let less = ltb-true (place segments x) (length segments) h in ⊎_elim
      (λ (lt : x < at). let p = low_place x lt in omega (arith, p, less, length_cut))
      (λ ge. let p = high_place x ge in omega (arith, p, less, length_cut))
      (cases_lt x at)))

  pub cut_here : cut_in cut at ≡ true
  cut_here = cut_end cut k at (omega (arith, length_cut, inside)) (ap (λ (s : Segment). s.end) at_cut)

  pub cuts_kept : (x : ℕ) → cut_in segments x ≡ true → cut_in cut x ≡ true
  cuts_kept x h = ⊎_elim
      (λ e. cut_zero cut x e)
      (λ t. ⊎_elim
      (λ (lt : t.0 < k). cut_end cut t.0 x (omega (arith, length_cut, t.1)) (ap (λ (s : Segment). s.end) (below_cut t.0 lt) ∙ t.2))
      (λ ge. cut_end cut (t.0 + 1) x (omega (arith, length_cut, t.1)) (ap (λ (s : Segment). s.end) (above_cut t.0 ge) ∙ t.2))
      (cases_lt t.0 k))
      (cut_cases segments x h)

  -- no end is at the address, so the ends still rise
  pub cut_ascends : Ascending segments → cut_in segments at ≡ false → Ascending cut
  cut_ascends A none = record { some = some; rising = rising }
    where
      positive : 0 < at
      positive = ⊎_elim (λ h. h) (λ z. absurd (no (sym (cut_zero segments at (omega (arith, z))) ∙ none))) (cases_lt 0 at)
        where
          no : true ≡ false → ⊥
          no e = cc

      before : (j : ℕ) → j < k → (segment_at segments j).end < at
      before j lt = ⊎_elim (λ h. h) (λ ge. absurd (no (sym (cut_end segments j at (omega (arith, lt, inside)) (omega (arith, ge, end_below j lt))) ∙ none))) (cases_lt (segment_at segments j).end at)
        where
          no : true ≡ false → ⊥
          no e = cc

      some : (j : ℕ) → j < length cut → 0 < (segment_at cut j).end
      some j lt = ⊎_elim
          (λ (less : j < k). rw (below_cut j less) (A.some j (omega (arith, less, inside))))
          (λ ge. ⊎_elim
          (λ (e : j ≡ k). rw (e, at_cut) positive)
          (λ ne. let m : j ≡ (j - 1) + 1 = omega (arith, ge, ne) in let up : k ≤ j - 1 = omega (arith, ge, ne) in rw (m, above_cut (j - 1) up) (A.some (j - 1) (omega (arith, lt, length_cut, ge, ne))))
          (cases_eq j k))
          (cases_lt j k)

      -- the end of an old segment behind the cut
      old : (j : ℕ) → k < j → (segment_at cut j).end ≡ (segment_at segments (j - 1)).end
      old j lt = let m : j ≡ (j - 1) + 1 = omega (arith, lt) in let up : k ≤ j - 1 = omega (arith, lt) in ap (λ n. (segment_at cut n).end) m ∙ ap (λ (s : Segment). s.end) (above_cut (j - 1) up)

      next : (i j : ℕ) → i < j → j < length cut → i < k → (segment_at cut i).end < (segment_at cut j).end
      next i j lt in_cut less = rw (below_cut i less) (⊎_elim
          (λ (lower : j < k). rw (below_cut j lower) (A.rising i j lt (omega (arith, lower, inside))))
          (λ ge. ⊎_elim
          (λ (e : j ≡ k). rw (e, at_cut) (before i less))
          (λ ne. let up : i < j - 1 = omega (arith, less, ge, ne) in rw (old j (omega (arith, ge, ne))) (A.rising i (j - 1) up (omega (arith, in_cut, length_cut, ge, ne))))
          (cases_eq j k))
          (cases_lt j k))

      rising : (i j : ℕ) → i < j → j < length cut → (segment_at cut i).end < (segment_at cut j).end
      rising i j lt in_cut = ⊎_elim
          (next i j lt in_cut)
          (λ ge. rw (old j (omega (arith, ge, lt))) (⊎_elim
          (λ (e : i ≡ k). rw (e, at_cut) (⊎_elim
          (λ (same : j - 1 ≡ k). rw same behind)
          (λ ne. let r = A.rising k (j - 1) (omega (arith, e, lt, ne)) (omega (arith, in_cut, length_cut, lt)) in omega (arith, r, behind))
          (cases_eq (j - 1) k)))
          (λ ne. rw (old i (omega (arith, ge, ne))) (A.rising (i - 1) (j - 1) (omega (arith, lt, ge, ne)) (omega (arith, in_cut, length_cut, lt))))
          (cases_eq i k)))
          (cases_lt i k)
