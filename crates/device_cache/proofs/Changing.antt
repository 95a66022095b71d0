-- The segments of a range are changed.
use Rattle.std.proofs.Common.{◌≡◌, ℕ, ◌<◌, Bool, true, false, List, length, refl, sym, ap, ◌∙◌, ⊎_elim, arith}
use Rattle.std.specs.Prelude.{if◌then◌else◌}
use Rattle.std.specs.Cmp.{both_ways}
use Rattle.device_cache.specs.declared.segment.Segment.{Segment}
use Rattle.device_cache.specs.declared.change.Change.{Change}
use Rattle.device_cache.specs.Internal.Rows.{changed}
use Rattle.device_cache.specs.Places.{segment_at, place, row_at, cut_in}
use Rattle.device_cache.specs.Internal.Segments.{covers, Ascending, within, changed_in}
use Rattle.device_cache.proofs.Placing.{same_place, in_cuts, cut_cases, cut_zero, cut_end}

pub changed_not : (first last g : ℕ) (change : Change) (k : ℕ) (s : Segment) → within first last k ≡ false → changed_in first last g change k s ≡ s
changed_not first last g change k s e = rw e refl

changed_end : (first last g : ℕ) (change : Change) (k : ℕ) (s : Segment) → (changed_in first last g change k s).end ≡ s.end
changed_end first last g change k s = go (within first last k)
  where
    go : (b : Bool) → (let t : Segment = if b then record { end = s.end; row = changed g change s.row } else s in t.end ≡ s.end)
    go true = refl
    go false = refl

changed_row : (first last g : ℕ) (change : Change) (k : ℕ) (s : Segment) → (changed_in first last g change k s).row ≡ (if within first last k then changed g change s.row else s.row)
changed_row first last g change k s = go (within first last k)
  where
    go : (b : Bool) → (let t : Segment = if b then record { end = s.end; row = changed g change s.row } else s in t.row ≡ (if b then changed g change s.row else s.row))
    go true = refl
    go false = refl

module _ (old new : List Segment) (same_length : length new ≡ length old) (first last g : ℕ) (change : Change) (each : (k : ℕ) → k < length old → segment_at new k ≡ changed_in first last g change k (segment_at old k)) where
  same_end : (k : ℕ) → k < length old → (segment_at new k).end ≡ (segment_at old k).end
  same_end k lt = ap (λ (s : Segment). s.end) (each k lt) ∙ changed_end first last g change k (segment_at old k)

  pub changed_place : (x : ℕ) → place new x ≡ place old x
  changed_place x = same_place old new x same_length same_end

  pub changed_covers : (x : ℕ) → covers new x ≡ covers old x
  changed_covers x = rw (changed_place x, same_length) refl

  pub changed_ascends : Ascending old → Ascending new
  changed_ascends A = record {
    some = λ k lt. omega (arith, A.some k (omega (arith, lt, same_length)), same_end k (omega (arith, lt, same_length)));
    rising = λ j k less lt. omega (arith, A.rising j k less (omega (arith, lt, same_length)), same_end k (omega (arith, lt, same_length)), same_end j (omega (arith, less, lt, same_length)));
  }

  pub changed_cuts : (x : ℕ) → cut_in new x ≡ cut_in old x
  changed_cuts x = both_ways (cut_in new x) (cut_in old x)
      (λ h. ⊎_elim (λ z. cut_zero old x z) (λ t. cut_end old t.0 x (omega (arith, t.1, same_length)) (sym (same_end t.0 (omega (arith, t.1, same_length))) ∙ t.2)) (cut_cases new x h))
      (λ h. ⊎_elim (λ z. cut_zero new x z) (λ t. cut_end new t.0 x (omega (arith, t.1, same_length)) (same_end t.0 t.1 ∙ t.2)) (cut_cases old x h))

  pub changed_rows : Ascending old → (from to : ℕ) → first ≡ place old from → last ≡ place old to → cut_in old from ≡ true → cut_in old to ≡ true → (x : ℕ) → place old x < length old → row_at new x ≡ (if within from to x then changed g change (row_at old x) else row_at old x)
  unfolding row_at
  changed_rows A from to f l cf ct x lt =
      let s = segment_at old (place old x) in
      let here : within from to x ≡ within first last (place old x) = rw (f, l) (in_cuts old A from to x cf ct) in
      ap (λ n. (segment_at new n).row) (changed_place x) ∙ ap (λ (t : Segment). t.row) (each (place old x) lt) ∙ changed_row first last g change (place old x) s ∙ ap (λ (b : Bool). if b then changed g change s.row else s.row) (sym here)
