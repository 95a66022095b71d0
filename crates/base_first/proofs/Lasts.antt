-- What a table of first points tells, from what its numbers are.
use Rattle.std.proofs.Common.{◌≡◌, ◌⊎◌, ◌↔◌, inl, inr, ℕ, ◌<◌, ◌≤◌, true, Some, None, List, length, refl, sym, ◌∙◌, subst, ⊎_elim, arith}
use Rattle.std.proofs.lemmas.Bool.{cases_eq, cases_lt}
use Rattle.base_first.specs.Asked.{HeldAt, HeldFrom, Shown, IsShown, IsEnd, Begins, Chained}
use Rattle.base_first.specs.Bits.{bit}
use Rattle.base_first.specs.Firsts.{First, Found, Table, IsTable, first_in}
use Rattle.base_first.specs.Points.{point_at, Edge, UpTo, here, on}
use Rattle.base_first.specs.declared.point.Point.{Point}
use Rattle.base_first.proofs.Moves.{clash}

module _ (points : List Point) (channels : ℕ) where
  abbrev at : ℕ → Point
  at p = point_at points p

  abbrev N : ℕ
  N = length points

  abbrev Up : ℕ → ℕ → Type 0
  Up p y = UpTo points channels p y

  pub up_on : (p z y : ℕ) → Up p z → Up z y → Up p y
  up_on p z y (here e) u = subst (λ n. Up n y) (sym e) u
  up_on p z y (on {z = w} e r) u = on e (up_on w z y r u)

  pub add : (p z y : ℕ) → Up p z → Edge points channels z y → Up p y
  add p z y u e = up_on p z y u (on e (here refl))

  -- the last edge
  pub last : (p y : ℕ) → Up p y → (p ≡ y) ⊎ ((z : ℕ) × Up p z × Edge points channels z y)
  last p y (here e) = inl e
  last p y (on {z = z} e u) = go (last z y u)
    where
      go : (z ≡ y) ⊎ ((w : ℕ) × Up z w × Edge points channels w y) → (p ≡ y) ⊎ ((w : ℕ) × Up p w × Edge points channels w y)
      go (inl q) = inr (p, here refl, subst (λ n. Edge points channels p n) q e)
      go (inr (w, v, f)) = inr (w, on e v, f)

  no_some : (w : ℕ) → None ≡ Some w → ⊥
  no_some w e = cc

  -- what is reached holds others back, or is the point itself and an end
  pub reached_shown : (p z : ℕ) → Shown points channels → z < N → Up p z → IsShown points channels z ⊎ ((p ≡ z) × IsEnd points channels z)
  reached_shown p z S there u = go (last p z u) (S z there)
    where
      go : (p ≡ z) ⊎ ((w : ℕ) × Up p w × Edge points channels w z) → IsShown points channels z ⊎ IsEnd points channels z → IsShown points channels z ⊎ ((p ≡ z) × IsEnd points channels z)
      go r (inl s) = inl s
      go (inl e) (inr s) = inr (e, s)
      go (inr (w, v, inl h)) (inr s) = absurd (clash (sym h.ins ∙ s.ins h.channel h.below))
      go (inr (w, v, inr m)) (inr s) = absurd (no_some w (sym s.met ∙ m.met))

  pub held_up : (p y start : ℕ) → Shown points channels → y < N → Begins points y start → HeldFrom points channels p y start → Up p y
  held_up p y start S there B (c, z, below, ins, lt, f) =
      add p z y f.reached (inl (record {
        rising = omega (arith, lt, B.0);
        there = there;
        queue = f.queue;
        apart = (B.1 z (omega (arith, lt, B.0)) f.queue).0 lt;
        channel = c;
        below = below;
        outs = ⊎_elim (λ s. sym (s c below) ∙ f.shown) (λ s. absurd (clash (sym f.shown ∙ s.1.shows c below))) (reached_shown p z S f.there f.reached);
        ins = ins;
      }))

  pub at_up : (p y start : ℕ) → y < N → Begins points y start → HeldAt points channels p y start → Up p y
  at_up p y start there B (same, lt, k) = on (inl (record {
    rising = omega (arith, lt, B.0);
    there = there;
    queue = same;
    apart = (B.1 p (omega (arith, lt, B.0)) same).0 lt;
    channel = k.0;
    below = k.1;
    outs = k.2;
    ins = k.3;
  })) (here refl)

  pub up_cases : (p y start : ℕ) → Shown points channels → y < N → Begins points y start → Up p y → (p ≡ y) ⊎ (HeldAt points channels p y start ⊎ (HeldFrom points channels p y start ⊎ ((g : ℕ) × ((at y).met ≡ Some g) × Up p g)))
  up_cases p y start S there B u = go (last p y u)
    where
      go : (p ≡ y) ⊎ ((z : ℕ) × Up p z × Edge points channels z y) → (p ≡ y) ⊎ (HeldAt points channels p y start ⊎ (HeldFrom points channels p y start ⊎ ((g : ℕ) × ((at y).met ≡ Some g) × Up p g)))
      go (inl e) = inl e
      go (inr (z, v, inr m)) = inr (inr (inr (z, m.met, v)))
      go (inr (z, v, inl h)) =
          let side = B.1 z h.rising h.queue in
          let lt : z < start = ⊎_elim (λ l. l) (λ le. absurd (h.apart (side.1 le))) (cases_lt z start) in
          let in_line : z < N = omega (arith, h.rising, there) in
          inr (⊎_elim
          (λ s. inr (inl (h.channel, z, h.below, h.ins, lt, record { there = in_line; reached = v; queue = h.queue; shown = s h.channel h.below ∙ h.outs })))
          (λ s. inl (subst (λ n. HeldAt points channels n y start) (sym s.0) (h.queue, lt, (h.channel, h.below, h.outs, h.ins))))
          (reached_shown p z S in_line v))

  -- a signal is reached exactly where the first one that is reached on its queue stands there or before it
  pub signal : (signals p y g v : ℕ) → Chained points channels signals → y < N → (at y).met ≡ Some g → First N (Found points (Up p) (at g).queue signals) v → (v ≤ g) ↔ Up p g
  signal signals p y g v C there met F = (λ le. ⊎_elim (λ e. subst (λ n. Up p n) e (F.member (omega (arith, le, its.0))).reached) (λ ne. go le ne) (cases_eq v g), λ u. F.least g (record { there = its.0; reached = u; queue = refl; shown = its.1 }))
    where
      its : (g < N) × (bit (at g).shows signals ≡ true)
      its = C.met y g there met

      go : v ≤ g → (v ≡ g → ⊥) → Up p g
      go le ne =
          let f = F.member (omega (arith, le, its.0)) in
          add p v g f.reached (inl (record {
            rising = omega (arith, le, ne);
            there = its.0;
            queue = f.queue;
            apart = C.apart v g (omega (arith, le, ne)) its.0 its.1 f.queue;
            channel = signals;
            below = C.known;
            outs = (C.ins v f.there f.shown).0;
            ins = (C.ins g its.0 its.1).1;
          }))

-- a number of the table
pub first_at : (points : List Point) (n t channels : ℕ) (table : Table) → IsTable points n t table → channels ≡ t → (p q c v : ℕ) → p < length points → q < n → c < channels → v ≡ first_in table p q c → First (length points) (Found points (UpTo points channels p) q c) v
first_at points n t channels table T e p q c v lp lq lc is =
    subst (λ k. First (length points) (Found points (UpTo points k p) q c) v) (sym e)
    (subst (λ k. First (length points) (Found points (UpTo points t p) q c) k) (sym is) (T.firsts p q c lp lq (omega (arith, lc, e))))
