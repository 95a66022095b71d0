-- ClosedRows that are closed from the last down.
use Rattle.std.proofs.Common.{◌≡◌, ◌≢◌, ◌⊎◌, ◌↔◌, inl, inr, ℕ, zero, suc, ◌+◌, ◌-◌, ◌*◌, ◌/◌, ◌%◌, ◌<◌, ◌≤◌, Bool, true, ◌&&◌, ◌==◌, nat_lt, List, ◌++◌, length, get_or, drop, length-drop, refl, sym, ap, ◌∙◌, ⊎_elim, subst, arith}
use Rattle.std.proofs.lemmas.Bool.{cases_eq, and_parts, ltb-true, lt-ltb}
use Rattle.std.proofs.lemmas.List.{get_or_append_left}
use Rattle.std.specs.Int.{bit_at}
use Rattle.std.proofs.Math.Seq.{drop-append_seam, drop-append-add}
use Rattle.base_reach.specs.Bits.{bit}
use Rattle.base_reach.specs.Internal.Closing.{row_bit, ClosedRows, FirstClosed}
use Rattle.base_reach.specs.Pairs.{pairs_of, Ahead}
use Rattle.base_reach.specs.Paths.{Path, one, then_on}
use Rattle.base_reach.proofs.FirstRow.{cat_right, here}

-- the rows from `from` on are closed, those below are as at first
pub record Upto (init words : List ℕ) (width count from : ℕ) : Type 0 where
  pub rows : ClosedRows (drop (from * width) words) width from count
  pub same : (k : ℕ) → k < from * width → get_or words k 0 ≡ get_or init k 0
  pub paths : (x y : ℕ) → from ≤ x → x < count → y < 64 * width → (bit words (x * width * 64 + y) ≡ true) ↔ Path (pairs_of init width count) x y

-- a path begins with an edge
pub path_head : (edge : ℕ → ℕ → Bool) (a b : ℕ) → Path edge a b → (y : ℕ) × (edge a y ≡ true) × ((y ≡ b) ⊎ Path edge y b)
path_head edge a b (one e) = (b, e, inl refl)
path_head edge a b (then_on {b = m} p q) = let r = path_head edge a m p in (r.0, r.1, inr (⊎_elim (λ e. subst (λ z. Path edge z b) (sym e) q) (λ t. then_on t q) r.2))

pub row_from : (front rest : List ℕ) (width from x y : ℕ) → length front ≡ from * width → from ≤ x → bit (front ++ rest) (x * width * 64 + y) ≡ row_bit rest width from x y
row_from front rest width from x y size low = ap (λ k. bit (front ++ rest) k) (parts (x - from) (omega (arith, low))) ∙ cat_right front rest ((x - from) * width * 64 + y)
  where
    parts : (k : ℕ) → x ≡ from + k → x * width * 64 + y ≡ length front * 64 + (k * width * 64 + y)
    parts k e = rw (e, size) (omega arith)

pub pair_is : (words : List ℕ) (width count x y : ℕ) → x < count → y < count → pairs_of words width count x y ≡ bit words (x * width * 64 + y)
pair_is words width count x y lx ly = rw (lt-ltb x count lx, lt-ltb y count ly) refl

pub pair_parts : (words : List ℕ) (width count x y : ℕ) → pairs_of words width count x y ≡ true → (x < count) × (y < count) × (bit words (x * width * 64 + y) ≡ true)
pair_parts words width count x y h =
    let p = and_parts (nat_lt x count) (nat_lt y count && bit words (x * width * 64 + y)) h in
    let q = and_parts (nat_lt y count) (bit words (x * width * 64 + y)) p.1 in
    (ltb-true x count p.0, ltb-true y count q.0, q.1)

-- a row that has not been closed yet is as at first
row_same : (init words : List ℕ) (width from y : ℕ) → ((k : ℕ) → k < (from + 1) * width → get_or words k 0 ≡ get_or init k 0) → y < 64 * width → bit words (from * width * 64 + y) ≡ bit init (from * width * 64 + y)
unfolding bit
row_same init words width from y same lt =
    let q : (from * width * 64 + y) / 64 ≡ from * width + y / 64 = omega arith in
    let s : from * width + y / 64 < (from + 1) * width = omega (arith, lt) in
    ap (λ w. bit_at w ((from * width * 64 + y) % 64) == 1) (same ((from * width * 64 + y) / 64) (rw q s))

pub closed_more : (init front rest new : List ℕ) (width count from : ℕ) → from < count → count ≤ 64 * width → length front ≡ from * width → Ahead init width count → Upto init (front ++ rest) width count (from + 1) → FirstClosed rest new width from count → Upto init (front ++ new) width count from
closed_more init front rest new width count from lower wide size A U F = record { rows = rows; same = same; paths = paths }
  where
    E : ℕ → ℕ → Bool
    E = pairs_of init width count

    rows : ClosedRows (drop (from * width) (front ++ new)) width from count
    rows = subst (λ l. ClosedRows l width from count) (sym (ap (λ k. drop k (front ++ new)) (sym size) ∙ drop-append_seam front new)) F.rows

    same : (k : ℕ) → k < from * width → get_or (front ++ new) k 0 ≡ get_or init k 0
    same k lt =
        let s : k < length front = omega (arith, lt, size) in
        get_or_append_left front new 0 k s ∙ sym (get_or_append_left front rest 0 k s) ∙ U.same k (omega (arith, lt))

    -- bits of the first row before
    old : (m : ℕ) → m < 64 * width → bit rest m ≡ bit init (from * width * 64 + m)
    old m lt = sym (here rest width from m) ∙ sym (row_from front rest width from from m size (omega arith)) ∙ row_same init (front ++ rest) width from m U.same lt

    old_row : (m y : ℕ) → from < m → m < count → y < 64 * width → (row_bit rest width from m y ≡ true) ↔ Path E m y
    old_row m y low high lt =
        let e = row_from front rest width from m y size (omega (arith, low)) in
        (λ h. (U.paths m y (omega (arith, low)) high lt).0 (e ∙ h), λ p. sym e ∙ (U.paths m y (omega (arith, low)) high lt).1 p)

    first : (y : ℕ) → y < 64 * width → (bit new y ≡ true) ↔ Path E from y
    first y lt = (there, back)
      where
        edge : (m : ℕ) → m < 64 * width → bit rest m ≡ true → (from < m) × (m < count) × (E from m ≡ true)
        edge m lm h =
            let b : bit init (from * width * 64 + m) ≡ true = sym (old m lm) ∙ h in
            let f = A from m lower lm b in
            (f.0, f.1, pair_is init width count from m lower f.1 ∙ b)

        there : bit new y ≡ true → Path E from y
        there h =
            let t = (F.first y lt).0 h in
            let e = edge t.0 t.1 t.2 in
            ⊎_elim (λ q. one (subst (λ z. E from z ≡ true) q e.2)) (λ r. then_on (one e.2) ((old_row t.0 y e.0 e.1 lt).0 r)) t.3

        back : Path E from y → bit new y ≡ true
        back p =
            let t = path_head E from y p in
            let q = pair_parts init width count from t.0 t.1 in
            let lm : t.0 < 64 * width = omega (arith, q.1, wide) in
            let f = A from t.0 lower lm q.2 in
            (F.first y lt).1 (t.0, lm, old t.0 lm ∙ q.2, ⊎_elim (λ e. inl e) (λ r. inr ((old_row t.0 y f.0 f.1 lt).1 r)) t.2)

    paths : (x y : ℕ) → from ≤ x → x < count → y < 64 * width → (bit (front ++ new) (x * width * 64 + y) ≡ true) ↔ Path E x y
    paths x y low high lt = ⊎_elim
        (λ (e : from ≡ x).
        let at : bit (front ++ new) (x * width * 64 + y) ≡ bit new y = row_from front new width from x y size low ∙ subst (λ z. row_bit new width from z y ≡ bit new y) e (here new width from y) in
        (λ h. subst (λ z. Path E z y) e ((first y lt).0 (sym at ∙ h)), λ p. at ∙ (first y lt).1 (subst (λ z. Path E z y) (sym e) p)))
        (λ (ne : from ≢ x).
        let more : from < x = omega (arith, low, ne) in
        let at : bit (front ++ new) (x * width * 64 + y) ≡ bit (front ++ rest) (x * width * 64 + y) = row_from front new width from x y size low ∙ F.others x y more high ∙ sym (row_from front rest width from x y size low) in
        (λ h. (U.paths x y (omega (arith, more)) high lt).0 (sym at ∙ h), λ p. at ∙ (U.paths x y (omega (arith, more)) high lt).1 p))
        (cases_eq from x)

none : (count width : ℕ) → count * width - count * width ≡ (count - count) * width
none count width = let a : count - count ≡ 0 = omega arith in let b : count * width - count * width ≡ 0 = omega arith in rw (a, b) (omega arith)

pub rest_rows : (init front rest : List ℕ) (width count from : ℕ) → length front ≡ from * width → Upto init (front ++ rest) width count (from + 1) → ClosedRows (drop width rest) width (from + 1) count
rest_rows init front rest width count from size U = subst (λ l. ClosedRows l width (from + 1) count) (ap (λ k. drop k (front ++ rest)) parts ∙ drop-append-add front rest width) U.rows
  where
    parts : (from + 1) * width ≡ length front + width
    parts = rw size (omega arith)

pub rest_ahead : (init front rest : List ℕ) (width count from y : ℕ) → length front ≡ from * width → from < count → Ahead init width count → Upto init (front ++ rest) width count (from + 1) → y < 64 * width → bit rest y ≡ true → (from + 1 ≤ y) × (y < count)
rest_ahead init front rest width count from y size lower A U lt h =
    let f = A from y lower lt (sym (row_same init (front ++ rest) width from y U.same lt) ∙ row_from front rest width from from y size (omega arith) ∙ here rest width from y ∙ h) in
    (omega (arith, f.0), f.1)

pub none_closed : (init : List ℕ) (width count : ℕ) → count ≤ 64 * width → length init ≡ count * width → Upto init init width count count
none_closed init width count wide size = record {
  rows = record {
    size = length-drop (count * width) init ∙ rw size (none count width);
    wide = wide;
    forward = λ x y low high lt h. absurd (omega (arith, low, high));
    closed = λ x y z low high ly lz h k. absurd (omega (arith, low, high));
  };
  same = λ k lt. refl;
  paths = λ x y low high lt. absurd (omega (arith, low, high));
}

-- all rows are closed
pub all_ahead : (init words : List ℕ) (width count : ℕ) → Upto init words width count 0 → Ahead words width count
all_ahead init words width count U x y lx ly h = U.rows.forward x y (omega arith) lx ly (row_at x y ∙ h)
  where
    row_at : (x y : ℕ) → row_bit (drop (0 * width) words) width 0 x y ≡ bit words (x * width * 64 + y)
    row_at x y = let a : 0 * width ≡ 0 = omega arith in let b : x - 0 ≡ x = omega arith in rw (a, b) refl

-- pairs that are left out change no path, where a path of the others stands for them
pub same_paths : (less edge : ℕ → ℕ → Bool) → ((x y : ℕ) → less x y ≡ true → edge x y ≡ true) → ((x y : ℕ) → edge x y ≡ true → Path less x y) → (x y : ℕ) → Path less x y ↔ Path edge x y
same_paths less edge some all x y = (up x y, down x y)
  where
    up : (x y : ℕ) → Path less x y → Path edge x y
    up x y (one e) = one (some x y e)
    up x y (then_on {b = z} p q) = then_on (up x z p) (up z y q)

    down : (x y : ℕ) → Path edge x y → Path less x y
    down x y (one e) = all x y e
    down x y (then_on {b = z} p q) = then_on (down x z p) (down z y q)

cover_by : (edge less : ℕ → ℕ → Bool) → ((x y : ℕ) → edge x y ≡ true → x < y) → ((x y : ℕ) → edge x y ≡ true → (less x y ≡ true) ⊎ ((z : ℕ) × (edge x z ≡ true) × (edge z y ≡ true))) → (d x y : ℕ) → y ≤ x + d → edge x y ≡ true → Path less x y
cover_by edge less forward split zero x y near e = absurd (let f = forward x y e in omega (arith, f, near))
cover_by edge less forward split (suc d) x y near e = ⊎_elim
    (λ h. one h)
    (λ t.
    let f = forward x t.0 t.1 in
    let g = forward t.0 y t.2 in
    then_on (cover_by edge less forward split d x t.0 (omega (arith, near, g)) t.1) (cover_by edge less forward split d t.0 y (omega (arith, near, f)) t.2))
    (split x y e)

-- each edge that is left out has a node between, with edges on both sides
pub cover : (edge less : ℕ → ℕ → Bool) → ((x y : ℕ) → edge x y ≡ true → x < y) → ((x y : ℕ) → edge x y ≡ true → (less x y ≡ true) ⊎ ((z : ℕ) × (edge x z ≡ true) × (edge z y ≡ true))) → (x y : ℕ) → edge x y ≡ true → Path less x y
cover edge less forward split x y e = cover_by edge less forward split y x y (omega arith) e
