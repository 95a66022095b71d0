-- Rows of first points: of the union of two sets, of the same set, of no set.
use Rattle.std.proofs.Common.{◌≡◌, ◌≢◌, ◌⊎◌, inl, inr, ℕ, ◌+◌, ◌*◌, ◌<◌, ◌≤◌, min, true, List, length, if◌then◌else◌, refl, sym, ap, ◌∙◌, subst, ⊎_elim, arith}
use Rattle.std.proofs.lemmas.Bool.{cases_eq, cases_lt, cases_Bool}
use Rattle.std.proofs.lemmas.Nat.{mul-add-lt, row_fits}
use Rattle.base_first.specs.Bits.{bit}
use Rattle.base_first.specs.Internal.Rows.{entry, Taken, Put}
use Rattle.base_first.specs.Firsts.{First, Found, RowOf}
use Rattle.base_first.specs.Points.{point_at}
use Rattle.base_first.specs.declared.point.Point.{Point}
use Rattle.base_first.proofs.Moves.{clash}

pub first_both : (n : ℕ) (M N : ℕ → Type 0) (v w u : ℕ) → u ≡ min v w → First n M v → First n N w → First n (λ y. M y ⊎ N y) u
first_both n M N v w u e F G = record {
  member = λ lt. ⊎_elim
      (λ l. let q : v ≡ u = omega (arith, e, l) in inl (subst M q (F.member (omega (arith, q, lt)))))
      (λ l. let q : w ≡ u = omega (arith, e, l) in inr (subst N q (G.member (omega (arith, q, lt)))))
      (cases_lt v w);
  least = λ y h. ⊎_elim (λ m. let l = F.least y m in omega (arith, e, l)) (λ m. let l = G.least y m in omega (arith, e, l)) h;
}

pub first_same : (n : ℕ) (M N : ℕ → Type 0) (v u : ℕ) → u ≡ v → ((y : ℕ) → M y → N y) → ((y : ℕ) → N y → M y) → First n M v → First n N u
first_same n M N v u e to from F = record {
  member = λ lt. subst N (sym e) (to v (F.member (omega (arith, e, lt))));
  least = λ y h. let l = F.least y (from y h) in omega (arith, e, l);
}

module _ (points : List Point) (queues channels : ℕ) where
  abbrev Row : (ℕ → Type 0) → (ℕ → ℕ) → Type 0
  Row R row = RowOf points queues channels R row

  abbrev In : (ℕ → Type 0) → ℕ → ℕ → ℕ → Type 0
  In R q c y = Found points R q c y

  abbrev Sum : (ℕ → Type 0) → (ℕ → Type 0) → ℕ → Type 0
  Sum R S y = R y ⊎ S y

  abbrev width : ℕ
  width = queues * channels

  pub in_row : (q c : ℕ) → q < queues → c < channels → q * channels + c < width
  in_row q c lq lc = omega (arith, mul-add-lt q channels c queues lq lc, both)
    where
      both : channels * queues ≡ queues * channels
      both = omega arith

  found_on : (R S : ℕ → Type 0) (q c y : ℕ) → (R y → S y) → In R q c y → In S q c y
  found_on R S q c y to f = record { there = f.there; reached = to f.reached; queue = f.queue; shown = f.shown }

  -- the same numbers, for the same points
  pub row_same : (R S : ℕ → Type 0) (r s : ℕ → ℕ) → ((e : ℕ) → e < width → s e ≡ r e) → ((y : ℕ) → R y → S y) → ((y : ℕ) → S y → R y) → Row R r → Row S s
  row_same R S r s eq to from F q c lq lc = first_same (length points) (In R q c) (In S q c) (r (q * channels + c)) (s (q * channels + c)) (eq (q * channels + c) (in_row q c lq lc))
      (λ y f. found_on R S q c y (to y) f) (λ y f. found_on S R q c y (from y) f) (F q c lq lc)

  pub row_kept : (R : ℕ → Type 0) (r s : ℕ → ℕ) → ((e : ℕ) → e < width → s e ≡ r e) → Row R r → Row R s
  row_kept R r s eq F = row_same R R r s eq (λ y h. h) (λ y h. h) F

  -- the lesser numbers, for the points of both
  pub row_both : (R S : ℕ → Type 0) (r s t : ℕ → ℕ) → ((e : ℕ) → e < width → t e ≡ min (r e) (s e)) → Row R r → Row S s → Row (λ y. R y ⊎ S y) t
  row_both R S r s t eq F G q c lq lc = first_same (length points) (λ y. In R q c y ⊎ In S q c y) (In (λ y. R y ⊎ S y) q c) (t (q * channels + c)) (t (q * channels + c)) refl
      (λ y h. ⊎_elim (λ f. found_on R (λ y. R y ⊎ S y) q c y (λ g. inl g) f) (λ f. found_on S (λ y. R y ⊎ S y) q c y (λ g. inr g) f) h)
      (λ y f. ⊎_elim (λ g. inl (record { there = f.there; reached = g; queue = f.queue; shown = f.shown })) (λ g. inr (record { there = f.there; reached = g; queue = f.queue; shown = f.shown })) f.reached)
      (first_both (length points) (In R q c) (In S q c) (r (q * channels + c)) (s (q * channels + c)) (t (q * channels + c)) (eq (q * channels + c) (in_row q c lq lc)) (F q c lq lc) (G q c lq lc))

  -- of one of the sets that a word names
  abbrev pub AnyOf : ℕ → (ℕ → ℕ → Type 0) → ℕ → Type 0
  AnyOf set S y = (d : ℕ) × (d < channels) × (bit set d ≡ true) × S d y

  pub row_taken : (set base i : ℕ) (old new : List ℕ) (R : ℕ → Type 0) (S : ℕ → ℕ → Type 0) → Taken set channels width base i old new → Row R (λ e. entry old width i e) → ((d : ℕ) → d < channels → Row (S d) (λ e. entry old width (base + d) e)) → Row (λ y. R y ⊎ AnyOf set S y) (λ e. entry new width i e)
  row_taken set base i old new R S T F G q c lq lc = record {
    member = λ lt. ⊎_elim
        (λ (k : entry new width i (q * channels + c) ≡ entry old width i (q * channels + c)).
        let m = (F q c lq lc).member (omega (arith, k, lt)) in
        subst (In (Sum R (AnyOf set S)) q c) (sym k) (found_on R (Sum R (AnyOf set S)) q c (entry old width i (q * channels + c)) (λ g. inl g) m))
        (λ k.
        let m = (G k.0 k.1 q c lq lc).member (omega (arith, k.3, lt)) in
        subst (In (Sum R (AnyOf set S)) q c) (sym k.3) (found_on (S k.0) (Sum R (AnyOf set S)) q c (entry old width (base + k.0) (q * channels + c)) (λ g. inr (k.0, k.1, k.2, g)) m))
        (T.one (q * channels + c) within);
    least = λ y f. ⊎_elim
        (λ g. let l = (F q c lq lc).least y (record { there = f.there; reached = g; queue = f.queue; shown = f.shown }) in let o = T.own (q * channels + c) within in omega (arith, l, o))
        (λ g. let l = (G g.0 g.1 q c lq lc).least y (record { there = f.there; reached = g.3; queue = f.queue; shown = f.shown }) in let o = T.low g.0 (q * channels + c) g.1 within g.2 in omega (arith, l, o))
        f.reached;
  }
    where
      within : q * channels + c < width
      within = in_row q c lq lc

  -- the point itself stands in front of all that is reached from it
  pub row_put : (p : ℕ) (old new : List ℕ) (R : ℕ → Type 0) → p < length points → (point_at points p).queue < queues → ((y : ℕ) → R y → p ≤ y) → Put (point_at points p).shows channels p width ((point_at points p).queue * channels) p old new → Row R (λ e. entry old width p e) → Row (λ y. R y ⊎ (y ≡ p)) (λ e. entry new width p e)
  row_put p old new R there known after P F q c lq lc = ⊎_elim here else_where (cases_eq q (point_at points p).queue)
    where
      -- another queue, or a column in which the point is not looked for
      kept : entry new width p (q * channels + c) ≡ entry old width p (q * channels + c) → ((y : ℕ) → y ≡ p → In (Sum R (λ n. n ≡ p)) q c y → ⊥) → First (length points) (In (Sum R (λ n. n ≡ p)) q c) (entry new width p (q * channels + c))
      kept k never = first_same (length points) (In R q c) (In (Sum R (λ n. n ≡ p)) q c) (entry old width p (q * channels + c)) (entry new width p (q * channels + c)) k
          (λ y f. found_on R (Sum R (λ n. n ≡ p)) q c y (λ g. inl g) f)
          (λ y f. ⊎_elim (λ g. record { there = f.there; reached = g; queue = f.queue; shown = f.shown }) (λ g. absurd (never y g f)) f.reached)
          (F q c lq lc)

      seen : q ≡ (point_at points p).queue → bit (point_at points p).shows c ≡ true → entry new width p (q * channels + c) ≡ p → First (length points) (In (Sum R (λ n. n ≡ p)) q c) (entry new width p (q * channels + c))
      seen same shown k = record {
        member = λ lt. subst (In (Sum R (λ n. n ≡ p)) q c) (sym k) (record { there = there; reached = inr refl; queue = sym same; shown = shown });
        least = λ y f. ⊎_elim (λ g. let l = after y g in omega (arith, k, l)) (λ g. omega (arith, k, g)) f.reached;
      }

      at : q ≡ (point_at points p).queue → entry new width p (q * channels + c) ≡ (if bit (point_at points p).shows c then p else entry old width p (q * channels + c))
      at same = subst (λ n. entry new width p (n * channels + c) ≡ (if bit (point_at points p).shows c then p else entry old width p (n * channels + c))) (sym same) (P.put c lc)

      here : q ≡ (point_at points p).queue → First (length points) (In (Sum R (λ n. n ≡ p)) q c) (entry new width p (q * channels + c))
      here same = ⊎_elim
          (λ b. seen same b (at same ∙ ap (λ t. if t then p else entry old width p (q * channels + c)) b))
          (λ b. kept (at same ∙ ap (λ t. if t then p else entry old width p (q * channels + c)) b) (λ y g f. clash (sym f.shown ∙ ap (λ n. bit (point_at points n).shows c) g ∙ b)))
          (cases_Bool (bit (point_at points p).shows c))

      else_where : q ≢ (point_at points p).queue → First (length points) (In (Sum R (λ n. n ≡ p)) q c) (entry new width p (q * channels + c))
      else_where ne = kept (P.beside (q * channels + c) beside (in_row q c lq lc)) (λ y g f. ne (sym f.queue ∙ ap (λ n. (point_at points n).queue) g))
        where
          beside : (q * channels + c < (point_at points p).queue * channels) ⊎ ((point_at points p).queue * channels + channels ≤ q * channels + c)
          beside = ⊎_elim
              (λ (l : q < (point_at points p).queue). let f = row_fits q channels (point_at points p).queue channels l (omega arith) in inl (omega (arith, f, lc)))
              (λ (g : (point_at points p).queue ≤ q). let f = row_fits (point_at points p).queue channels q channels (omega (arith, g, ne)) (omega arith) in inr (omega (arith, f)))
              (cases_lt q (point_at points p).queue)
