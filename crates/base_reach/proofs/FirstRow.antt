-- The first row of a list of rows.
use Rattle.std.proofs.Common.{◌≡◌, ◌≢◌, ◌⊎◌, ◌↔◌, inl, inr, ℕ, suc, ◌+◌, ◌-◌, ◌*◌, ◌/◌, ◌%◌, ◌<◌, ◌≤◌, true, false, ◌==◌, List, ◌++◌, length, get_or, length-append, refl, sym, ap, ◌∙◌, ⊎_elim, subst, arith}
use Rattle.std.proofs.lemmas.Bool.{cases_eq, cases_lt}
use Rattle.std.proofs.lemmas.Nat.Bits.{bit_at-zero}
use Rattle.std.proofs.lemmas.List.{get_or_append_left, get_or-append-add}
use Rattle.std.specs.Int.{bit_at}
use Rattle.base_reach.specs.Bits.{bit}
use Rattle.base_reach.specs.Internal.Closing.{row_bit, ClosedRows, Reaches, FirstClosed}

pub cat_left : (xs ys : List ℕ) (b : ℕ) → b < 64 * length xs → bit (xs ++ ys) b ≡ bit xs b
unfolding bit
cat_left xs ys b lt = ap (λ w. bit_at w (b % 64) == 1) (get_or_append_left xs ys 0 (b / 64) (omega (arith, lt)))

pub cat_right : (xs ys : List ℕ) (b : ℕ) → bit (xs ++ ys) (length xs * 64 + b) ≡ bit ys b
unfolding bit
cat_right xs ys b =
    let q : (length xs * 64 + b) / 64 ≡ length xs + b / 64 = omega arith in
    let r : (length xs * 64 + b) % 64 ≡ b % 64 = omega arith in
    rw (q, r) (ap (λ w. bit_at w (b % 64) == 1) (get_or-append-add xs ys (b / 64) 0))

pub no_bits : (list : List ℕ) (b : ℕ) → ((k : ℕ) → k < length list → get_or list k 0 ≡ 0) → b < 64 * length list → bit list b ≡ false
unfolding bit
no_bits list b zeros lt = ap (λ w. bit_at w (b % 64) == 1) (zeros (b / 64) (omega (arith, lt))) ∙ ap (λ x. x == 1) (bit_at-zero (b % 64))

one_up : (from x width : ℕ) → from < x → (x - from) * width ≡ width + (x - (from + 1)) * width
one_up from x width lt = let e : x - from ≡ suc (x - (from + 1)) = omega (arith, lt) in rw e (omega arith)

pub later : (xs ys : List ℕ) (width from x y : ℕ) → length xs ≡ width → from < x → row_bit (xs ++ ys) width from x y ≡ row_bit ys width (from + 1) x y
later xs ys width from x y size lt = ap (λ k. bit (xs ++ ys) (k * 64 + y)) (one_up from x width lt) ∙ ap (λ k. bit (xs ++ ys) k) (parts (x - (from + 1))) ∙ cat_right xs ys ((x - (from + 1)) * width * 64 + y)
  where
    parts : (k : ℕ) → (width + k * width) * 64 + y ≡ length xs * 64 + (k * width * 64 + y)
    parts k = rw size (omega arith)

pub here : (list : List ℕ) (width from y : ℕ) → row_bit list width from from y ≡ bit list y
here list width from y = let e : from - from ≡ 0 = omega arith in let z : 0 * width * 64 + y ≡ y = omega arith in rw (e, z) refl

pub first_closed : (old row new table : List ℕ) (width from count : ℕ) → from < count → old ≡ row ++ table → length row ≡ width → length new ≡ width → ClosedRows table width (from + 1) count → ((y : ℕ) → y < 64 * width → bit row y ≡ true → (from + 1 ≤ y) × (y < count)) → ((y : ℕ) → y < 64 * width → (bit new y ≡ true) ↔ Reaches row table width (from + 1) y) → ((y : ℕ) → 64 * width ≤ y → bit row y ≡ true → ⊥) → FirstClosed old (new ++ table) width from count
first_closed old row new table width from count lower is size-row size-new R fwd bits past = record { rows = rows; first = first; others = others }
  where
    all : List ℕ
    all = new ++ table

    here_new : (y : ℕ) → y < 64 * width → row_bit all width from from y ≡ bit new y
    here_new y lt = here all width from y ∙ cat_left new table y (subst (λ n. y < 64 * n) (sym size-new) lt)

    up : (x y : ℕ) → from < x → row_bit all width from x y ≡ row_bit table width (from + 1) x y
    up x y lt = later new table width from x y size-new lt

    small : (y : ℕ) → y < count → y < 64 * width
    small y lt = omega (arith, R.wide, lt)

    -- a number that the row reaches
    ahead : (y : ℕ) → y < 64 * width → bit new y ≡ true → (from + 1 ≤ y) × (y < count)
    ahead y lt h = go ((bits y lt).0 h)
      where
        go : Reaches row table width (from + 1) y → (from + 1 ≤ y) × (y < count)
        go t =
            let m : t.0 < 64 * width = ⊎_elim (λ k. k) (λ k. absurd (past t.0 k t.1)) (cases_lt t.0 (64 * width)) in
            let f = fwd t.0 m t.1 in
            ⊎_elim (λ (e : t.0 ≡ y). (omega (arith, f.0, e), omega (arith, f.1, e))) (λ r. let g = R.forward t.0 y f.0 f.1 lt r in (omega (arith, f.0, g.0), g.1)) t.2

    forward : (x y : ℕ) → from ≤ x → x < count → y < 64 * width → row_bit all width from x y ≡ true → (x < y) × (y < count)
    forward x y low high lt h = ⊎_elim
        (λ (e : from ≡ x). let a = ahead y lt (sym (here_new y lt) ∙ subst (λ z. row_bit all width from z y ≡ true) (sym e) h) in (omega (arith, a.0, e), a.1))
        (λ (ne : from ≢ x). let more : from < x = omega (arith, low, ne) in R.forward x y (omega (arith, more)) high lt (sym (up x y more) ∙ h))
        (cases_eq from x)

    closed : (x y z : ℕ) → from ≤ x → x < count → y < count → z < count → row_bit all width from x y ≡ true → row_bit all width from y z ≡ true → row_bit all width from x z ≡ true
    closed x y z low hx hy hz h k = ⊎_elim
        (λ (e : from ≡ x).
        let bit_y : bit new y ≡ true = sym (here_new y (small y hy)) ∙ subst (λ w. row_bit all width from w y ≡ true) (sym e) h in
        let a = ahead y (small y hy) bit_y in
        let r : row_bit table width (from + 1) y z ≡ true = sym (up y z (omega (arith, a.0))) ∙ k in
        subst (λ w. row_bit all width from w z ≡ true) e (here_new z (small z hz) ∙ (bits z (small z hz)).1 (onward ((bits y (small y hy)).0 bit_y) r)))
        (λ (ne : from ≢ x).
        let more : from < x = omega (arith, low, ne) in
        let f = forward x y low hx (small y hy) h in
        let more_y : from < y = omega (arith, more, f.0) in
        up x z more ∙ R.closed x y z (omega (arith, more)) hx hy hz (sym (up x y more) ∙ h) (sym (up y z more_y) ∙ k))
        (cases_eq from x)
      where
        onward : Reaches row table width (from + 1) y → row_bit table width (from + 1) y z ≡ true → Reaches row table width (from + 1) z
        onward t r =
            let m : t.0 < 64 * width = ⊎_elim (λ q. q) (λ q. absurd (past t.0 q t.1)) (cases_lt t.0 (64 * width)) in
            let f = fwd t.0 m t.1 in
            (t.0, t.1, inr (⊎_elim (λ e. subst (λ w. row_bit table width (from + 1) w z ≡ true) (sym e) r) (λ q. R.closed t.0 y z f.0 f.1 hy hz q r) t.2))

    rows : ClosedRows all width from count
    rows = record {
      size = length-append new table ∙ rw (size-new, R.size) (sym (one_up from count width lower));
      wide = R.wide;
      forward = forward;
      closed = closed;
    }

    old_bit : (m : ℕ) → m < 64 * width → bit old m ≡ bit row m
    old_bit m lt = ap (λ l. bit l m) is ∙ cat_left row table m (subst (λ n. m < 64 * n) (sym size-row) lt)

    old_up : (x y : ℕ) → from < x → row_bit old width from x y ≡ row_bit table width (from + 1) x y
    old_up x y lt = ap (λ l. row_bit l width from x y) is ∙ later row table width from x y size-row lt

    first : (y : ℕ) → y < 64 * width → (bit all y ≡ true) ↔ ((m : ℕ) × (m < 64 * width) × (bit old m ≡ true) × ((m ≡ y) ⊎ (row_bit old width from m y ≡ true)))
    first y lt = (there, back)
      where
        at : bit all y ≡ bit new y
        at = cat_left new table y (subst (λ n. y < 64 * n) (sym size-new) lt)

        there : bit all y ≡ true → ((m : ℕ) × (m < 64 * width) × (bit old m ≡ true) × ((m ≡ y) ⊎ (row_bit old width from m y ≡ true)))
        there h =
            let t = (bits y lt).0 (sym at ∙ h) in
            let m : t.0 < 64 * width = ⊎_elim (λ k. k) (λ k. absurd (past t.0 k t.1)) (cases_lt t.0 (64 * width)) in
            (t.0, m, old_bit t.0 m ∙ t.1, ⊎_elim (λ e. inl e) (λ r. inr (old_up t.0 y (omega (arith, (fwd t.0 m t.1).0)) ∙ r)) t.2)

        back : ((m : ℕ) × (m < 64 * width) × (bit old m ≡ true) × ((m ≡ y) ⊎ (row_bit old width from m y ≡ true))) → bit all y ≡ true
        back t =
            let h : bit row t.0 ≡ true = sym (old_bit t.0 t.1) ∙ t.2 in
            at ∙ (bits y lt).1 (t.0, h, ⊎_elim (λ e. inl e) (λ r. inr (sym (old_up t.0 y (omega (arith, (fwd t.0 t.1 h).0))) ∙ r)) t.3)

    others : (x y : ℕ) → from < x → x < count → row_bit all width from x y ≡ row_bit old width from x y
    others x y low high = up x y low ∙ sym (old_up x y low)
