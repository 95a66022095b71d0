-- What is done to rows of numbers.
use Rattle.std.proofs.Common.{◌≡◌, ◌≢◌, ◌⊎◌, inl, inr, ℕ, ◌+◌, ◌*◌, ◌<◌, ◌≤◌, min, true, false, List, length, set, get_or, if◌then◌else◌, refl, sym, ap, ◌∙◌, subst, ⊎_elim, arith, below_more, get_or-set_same, get_or-set_other, length-set}
use Rattle.std.proofs.lemmas.Bool.{cases_eq, cases_lt, cases_order}
use Rattle.std.proofs.lemmas.Nat.{row_fits}
use Rattle.base_first.specs.Bits.{bit}
use Rattle.base_first.specs.Internal.Rows.{entry, OthersKept, Taken, Given, Copied, Put}

pub clash : true ≡ false → ⊥
clash q = cc

-- NUMBERS ONE BY ONE

-- e numbers from `to` on are those of f, and the others stay
pub record Filled (ys xs : List ℕ) (to e : ℕ) (f : ℕ → ℕ) : Type 0 where
  pub size : length xs ≡ length ys
  pub done : (d : ℕ) → d < e → get_or xs (to + d) 0 ≡ f d
  pub rest : (k : ℕ) → (k < to) ⊎ (to + e ≤ k) → get_or xs k 0 ≡ get_or ys k 0

pub filled_none : (ys : List ℕ) (to : ℕ) (f : ℕ → ℕ) → Filled ys ys to 0 f
filled_none ys to f = record { size = refl; done = λ d lt. absurd (omega (arith, lt)); rest = λ k h. refl }

pub filled_keep : (ys xs : List ℕ) (to e : ℕ) (f : ℕ → ℕ) → Filled ys xs to e f → get_or xs (to + e) 0 ≡ f e → Filled ys xs to (e + 1) f
filled_keep ys xs to e f F h = record {
  size = F.size;
  done = below_more _ _ F.done h;
  rest = λ k o. F.rest k (⊎_elim (λ lt. inl lt) (λ le. inr (omega (arith, le))) o);
}

pub filled_set : (ys xs : List ℕ) (to e v : ℕ) (f : ℕ → ℕ) → Filled ys xs to e f → to + e < length xs → v ≡ f e → Filled ys (set xs (to + e) v) to (e + 1) f
filled_set ys xs to e v f F lt h = record {
  size = length-set xs (to + e) v ∙ F.size;
  done = below_more _ _ (λ d l. let ne : to + d ≢ to + e = omega (arith, l) in (rw get_or-set_other (F.done d l))) (rw get_or-set_same h);
  rest = λ k o. let ne : k ≢ to + e = ⊎_elim (λ l. omega (arith, l)) (λ l. omega (arith, l)) o in rw get_or-set_other (F.rest k (⊎_elim (λ l. inl l) (λ le. inr (omega (arith, le))) o));
}

-- what rows become
abbrev pub least_of : List ℕ → ℕ → ℕ → ℕ → ℕ → ℕ
least_of ys w i j d = min (get_or ys (i * w + d) 0) (get_or ys (j * w + d) 0)

abbrev pub same_as : List ℕ → ℕ → ℕ → ℕ → ℕ
same_as ys w j d = get_or ys (j * w + d) 0

abbrev pub put_of : List ℕ → ℕ → ℕ → ℕ → ℕ → ℕ
put_of ys start s v d = if bit s d then v else get_or ys (start + d) 0

-- numbers of different rows stand apart
pub apart : (k i e w : ℕ) → k ≢ i → e < w → (k * w + e < i * w) ⊎ (i * w + w ≤ k * w + e)
apart k i e w ne lt = ⊎_elim (λ q. absurd (ne q))
    (λ s. ⊎_elim (λ l. let f = row_fits k w i w l (omega arith) in inl (omega (arith, f, lt))) (λ l. let f = row_fits i w k w l (omega arith) in inr (omega (arith, f))) s)
    (cases_order k i)

pub filled_others : (ys xs : List ℕ) (w i : ℕ) (f : ℕ → ℕ) → Filled ys xs (i * w) w f → OthersKept w i ys xs
filled_others ys xs w i f F k e ne lt = F.rest (k * w + e) (apart k i e w ne lt)

-- a number of row j is not yet written where row i is
pub other_row : (ys xs : List ℕ) (w i j e : ℕ) (f : ℕ → ℕ) → i ≢ j → e < w → Filled ys xs (i * w) e f → get_or xs (j * w + e) 0 ≡ get_or ys (j * w + e) 0
other_row ys xs w i j e f ne lt F = F.rest (j * w + e) (⊎_elim (λ l. inl l) (λ l. inr (omega (arith, l, lt))) (apart j i e w (λ q. ne (sym q)) lt))

pub own_row : (ys xs : List ℕ) (w i e : ℕ) (f : ℕ → ℕ) → Filled ys xs (i * w) e f → get_or xs (i * w + e) 0 ≡ get_or ys (i * w + e) 0
own_row ys xs w i e f F = F.rest (i * w + e) (inr (omega arith))

pub lesser : (a b x y : ℕ) → a ≡ x → b ≡ y → b < a → b ≡ min x y
lesser a b x y e f lt = omega (arith, e, f, lt)

pub no_less : (a b x y : ℕ) → a ≡ x → b ≡ y → a ≤ b → a ≡ min x y
no_less a b x y e f le = omega (arith, e, f, le)

-- ROW BY ROW

pub taken_none : (s w base i : ℕ) (ys : List ℕ) → Taken s 0 w base i ys ys
taken_none s w base i ys = record {
  own = λ e lt. omega arith;
  low = λ c e lt. absurd (omega (arith, lt));
  one = λ e lt. inl refl;
  others = λ k e ne lt. refl;
}

pub taken_keep : (s c w base i : ℕ) (ys xs : List ℕ) → Taken s c w base i ys xs → bit s c ≡ false → Taken s (c + 1) w base i ys xs
taken_keep s c w base i ys xs T off = record {
  own = T.own;
  low = λ d e l m b. ⊎_elim (λ q. absurd (clash (sym (subst (λ t. bit s t ≡ true) q b) ∙ off))) (λ ne. T.low d e (omega (arith, l, ne)) m b) (cases_eq d c);
  one = λ e m. ⊎_elim (λ q. inl q) (λ q. inr (q.0, omega (arith, q.1), q.2, q.3)) (T.one e m);
  others = T.others;
}

pub taken_more : (s c w base i : ℕ) (ys xs zs : List ℕ) → i < base → Taken s c w base i ys xs → bit s c ≡ true → ((e : ℕ) → e < w → entry zs w i e ≡ min (entry xs w i e) (entry xs w (base + c) e)) → OthersKept w i xs zs → Taken s (c + 1) w base i ys zs
taken_more s c w base i ys xs zs lb T b took kept = record {
  own = λ e m. let p = T.own e m in let q = took e m in omega (arith, p, q);
  low = λ d e l m h. ⊎_elim
      (λ q. let r = source e m in let t = took e m in subst (λ n. entry zs w i e ≤ entry ys w (base + n) e) (sym q) (omega (arith, r, t)))
      (λ ne. let p = T.low d e (omega (arith, l, ne)) m h in let t = took e m in omega (arith, p, t))
      (cases_eq d c);
  one = λ e m. ⊎_elim
      (λ l. ⊎_elim (λ q. inl (least_own e m l ∙ q)) (λ q. inr (q.0, omega (arith, q.1), q.2, least_own e m l ∙ q.3)) (T.one e m))
      (λ l. inr (c, omega arith, b, least_other e m l))
      (cases_lt (entry xs w i e) (entry xs w (base + c) e));
  others = λ k e ne m. kept k e ne m ∙ T.others k e ne m;
}
  where
    source : (e : ℕ) → e < w → entry xs w (base + c) e ≡ entry ys w (base + c) e
    source e m = T.others (base + c) e (λ q. omega (arith, q, lb)) m

    least_own : (e : ℕ) → e < w → entry xs w i e < entry xs w (base + c) e → entry zs w i e ≡ entry xs w i e
    least_own e m l = let t = took e m in omega (arith, t, l)

    least_other : (e : ℕ) → e < w → entry xs w (base + c) e ≤ entry xs w i e → entry zs w i e ≡ entry ys w (base + c) e
    least_other e m l = let t = took e m in let r = source e m in omega (arith, t, l, r)

pub given_none : (s w base i : ℕ) (ys : List ℕ) → Given s 0 w base i ys ys
given_none s w base i ys = record { given = λ c e l. absurd (omega (arith, l)); others = λ k e o m. refl }

-- what the sets of rows say of row base + c, once that is dealt with
given_on : (s c w base i : ℕ) (ys xs zs : List ℕ) → i < base → Given s c w base i ys xs → OthersKept w (base + c) xs zs → ((e : ℕ) → e < w → entry zs w (base + c) e ≡ (if bit s c then min (entry xs w (base + c) e) (entry xs w i e) else entry xs w (base + c) e)) → Given s (c + 1) w base i ys zs
given_on s c w base i ys xs zs lb G kept now = record {
  given = λ d e l m. ⊎_elim
      (λ q. subst (λ n. entry zs w (base + n) e ≡ (if bit s n then min (entry ys w (base + n) e) (entry ys w i e) else entry ys w (base + n) e)) (sym q)
      (now e m ∙ ap (λ t. if bit s c then min t (entry xs w i e) else t) (G.others (base + c) e (inr (omega arith)) m) ∙ ap (λ t. if bit s c then min (entry ys w (base + c) e) t else entry ys w (base + c) e) (G.others i e (inl lb) m)))
      (λ ne. kept (base + d) e (λ q. ne (omega (arith, q))) m ∙ G.given d e (omega (arith, l, ne)) m)
      (cases_eq d c);
  others = λ k e o m. kept k e (λ q. ⊎_elim (λ l. omega (arith, q, l)) (λ l. omega (arith, q, l)) o) m ∙ G.others k e (⊎_elim (λ l. inl l) (λ l. inr (omega (arith, l))) o) m;
}

pub given_more : (s c w base i : ℕ) (ys xs zs : List ℕ) → i < base → Given s c w base i ys xs → bit s c ≡ true → ((e : ℕ) → e < w → entry zs w (base + c) e ≡ min (entry xs w (base + c) e) (entry xs w i e)) → OthersKept w (base + c) xs zs → Given s (c + 1) w base i ys zs
given_more s c w base i ys xs zs lb G b took kept = given_on s c w base i ys xs zs lb G kept (λ e m. took e m ∙ sym (ap (λ t. if t then min (entry xs w (base + c) e) (entry xs w i e) else entry xs w (base + c) e) b))

pub given_keep : (s c w base i : ℕ) (ys xs : List ℕ) → i < base → Given s c w base i ys xs → bit s c ≡ false → Given s (c + 1) w base i ys xs
given_keep s c w base i ys xs lb G b = given_on s c w base i ys xs xs lb G (λ k e ne m. refl) (λ e m. sym (ap (λ t. if t then min (entry xs w (base + c) e) (entry xs w i e) else entry xs w (base + c) e) b))

pub copied_none : (w to from : ℕ) (ys : List ℕ) → Copied 0 w to from ys ys
copied_none w to from ys = record { copied = λ c e l. absurd (omega (arith, l)); others = λ k e o m. refl }

pub copied_more : (c w to from : ℕ) (ys xs zs : List ℕ) → from + (c + 1) ≤ to → Copied c w to from ys xs → ((e : ℕ) → e < w → entry zs w (to + c) e ≡ entry xs w (from + c) e) → OthersKept w (to + c) xs zs → Copied (c + 1) w to from ys zs
copied_more c w to from ys xs zs le C took kept = record {
  copied = λ d e l m. ⊎_elim
      (λ q. subst (λ n. entry zs w (to + n) e ≡ entry ys w (from + n) e) (sym q) (took e m ∙ C.others (from + c) e (inl (omega (arith, le))) m))
      (λ ne. kept (to + d) e (λ q. ne (omega (arith, q))) m ∙ C.copied d e (omega (arith, l, ne)) m)
      (cases_eq d c);
  others = λ k e o m. kept k e (λ q. ⊎_elim (λ l. omega (arith, q, l)) (λ l. omega (arith, q, l)) o) m ∙ C.others k e (⊎_elim (λ l. inl l) (λ l. inr (omega (arith, l))) o) m;
}

pub filled_put : (ys xs : List ℕ) (w i first n s v : ℕ) → first + n ≤ w → Filled ys xs (i * w + first) n (put_of ys (i * w + first) s v) → Put s n v w first i ys xs
filled_put ys xs w i first n s v le F = record {
  put = λ c l. let q : i * w + (first + c) ≡ i * w + first + c = omega arith in rw q (F.done c l);
  beside = λ e o m. F.rest (i * w + e) (⊎_elim (λ l. inl (omega (arith, l))) (λ l. inr (omega (arith, l))) o);
  others = λ k e ne m. F.rest (k * w + e) (⊎_elim (λ l. inl (omega (arith, l))) (λ l. inr (omega (arith, l, le))) (apart k i e w ne m));
}
