-- Begun commands are listed once each.
use Rattle.std.proofs.Common.{◌≡◌, ◌⊎◌, inl, inr, ℕ, ◌+◌, ◌-◌, ◌<◌, ◌≤◌, Bool, true, false, ◌&&◌, ◌||◌, ◌==◌, length, get_or, slice_set, refl, sym, ap, ◌∙◌, subst, ⊎_elim, eq-eqb, eqb-true, if◌then◌else◌, arith}
use Rattle.std.proofs.lemmas.Bool.{cases_lt, cases_eq, false≢true, ne_eqb, and_parts, and_from}
use Rattle.std.proofs.lemmas.List.{get_or-set_same, get_or-set_other, length-set}
use Rattle.std.specs.Cmp.{both_ways}
use Rattle.device_nodes.proofs.Below.{some_at, some_one, none_below, some_more, some_same}
use Rattle.device_nodes.proofs.Pigeons.{Differ, pigeons}
use Rattle.device_nodes.proofs.Ranges.{node_is, one_node}
use Rattle.device_nodes.specs.Internal.Running.{is_among, any_of, Runs}
use Rattle.device_nodes.specs.declared.running.Running.{Running}
use Rattle.device_model.proofs.Control.{put_at, put_other}
use Rattle.device_model.specs.Ready.{some_node}
use Rattle.device_model.specs.States.{is_begun, put}
use Rattle.device_model.specs.declared.phase.Phase.{Phase}
use Rattle.device_model.specs.declared.phase.Phase.TheVariants.{Begun, Done}
use Rattle.check_access.specs.Views.{View}

abbrev nth : Running → ℕ → ℕ
nth r i = get_or r.nodes i 0

module _ (nodes : ℕ) (phase : ℕ → Phase) (old : Running) (R : Runs nodes phase old) where
  among_of : (i : ℕ) → i < old.count → is_begun (phase (nth old i)) ≡ true
  among_of i lt = R.each (nth old i) ∙ some_at (λ k. nth old k == nth old i) old.count i lt (eq-eqb (nth old i) (nth old i) refl)

  -- a phase that neither begins nor ends a command
  pub runs_on : (new : ℕ → Phase) → ((x : ℕ) → is_begun (new x) ≡ is_begun (phase x)) → Runs nodes new old
  runs_on new same = record { of_nodes = R.of_nodes; each = λ x. same x ∙ R.each x; once = R.once }

  module _ (n : ℕ) (lt : n < nodes) (idle : is_begun (phase n) ≡ false) where
    not_listed : (i : ℕ) → i < old.count → nth old i ≡ n → ⊥
    not_listed i l e = false≢true (sym idle ∙ ap (λ z. is_begun (phase z)) (sym e) ∙ among_of i l)

    -- n after the listed ones
    abbrev numbers : ℕ → ℕ
    numbers i = if i == old.count then n else nth old i

    number_last : (i : ℕ) → i ≡ old.count → numbers i ≡ n
    number_last i e = ap (λ t. if t then n else nth old i) (eq-eqb i old.count e)

    number_old : (i : ℕ) → i < old.count → numbers i ≡ nth old i
    number_old i l = ap (λ t. if t then n else nth old i) (ne_eqb i old.count (λ e. omega (arith, e, l)))

    number_below : (i : ℕ) → i < old.count + 1 → numbers i < nodes
    number_below i l = ⊎_elim
        (λ k. subst (λ z. z < nodes) (sym (number_old i k)) (R.of_nodes.below i k))
        (λ k. subst (λ z. z < nodes) (sym (number_last i (omega (arith, k, l)))) lt)
        (cases_lt i old.count)

    number_once : Differ numbers (old.count + 1)
    number_once i k a b e = ⊎_elim
        (λ (p : i < old.count). ⊎_elim
        (λ (q : k < old.count). R.once i k p q (sym (number_old i p) ∙ e ∙ number_old k q))
        (λ (q : old.count ≤ k). absurd (not_listed i p (sym (number_old i p) ∙ e ∙ number_last k (omega (arith, q, b)))))
        (cases_lt k old.count))
        (λ (p : old.count ≤ i). ⊎_elim
        (λ (q : k < old.count). absurd (not_listed k q (sym (number_old k q) ∙ sym e ∙ number_last i (omega (arith, p, a)))))
        (λ (q : old.count ≤ k). omega (arith, p, a, q, b))
        (cases_lt k old.count))
        (cases_lt i old.count)

    -- there is room for it
    pub room_left : old.count < nodes
    room_left = let l = pigeons nodes (old.count + 1) numbers number_below number_once in omega (arith, l)

    pub added : (new : Running) → new.nodes ≡ slice_set old.nodes old.count n → new.count ≡ old.count + 1 → Runs nodes (put phase n Begun) new
    added new is more = record {
      of_nodes = record {
        room = ap length is ∙ length-set old.nodes old.count n ∙ R.of_nodes.room;
        fits = let l = room_left in omega (arith, l, more);
        below = λ i l. subst (λ z. z < nodes) (sym (now i (omega (arith, l, more)))) (number_below i (omega (arith, l, more)));
      };
      each = each;
      once = λ i k a b e. number_once i k (omega (arith, a, more)) (omega (arith, b, more)) (sym (now i (omega (arith, a, more))) ∙ e ∙ now k (omega (arith, b, more)));
    }
      where
        there : old.count < length old.nodes
        there = let l = room_left in omega (arith, l, R.of_nodes.room)

        now : (i : ℕ) → i < old.count + 1 → nth new i ≡ numbers i
        now i l = ap (λ z. get_or z i 0) is ∙ ⊎_elim
            (λ (k : i < old.count). get_or-set_other old.nodes old.count i n 0 (λ e. omega (arith, e, k)) ∙ sym (number_old i k))
            (λ (k : old.count ≤ i). let e : i ≡ old.count = omega (arith, k, l) in ap (λ z. get_or (slice_set old.nodes old.count n) z 0) e ∙ get_or-set_same old.nodes old.count n 0 there ∙ sym (number_last i e))
            (cases_lt i old.count)

        listed : (x : ℕ) → is_among new.nodes new.count x ≡ ((n == x) || is_begun (phase x))
        listed x =
            ap (λ c. is_among new.nodes c x) more ∙ some_more (λ i. nth new i == x) old.count
            ∙ ap (λ z. (z == x) || is_among new.nodes old.count x) (now old.count (omega arith) ∙ number_last old.count refl)
            ∙ ap (λ z. (n == x) || z) (some_same (λ i. nth new i == x) (λ i. nth old i == x) old.count (λ i l. ap (λ z. z == x) (now i (omega (arith, l)) ∙ number_old i l)) ∙ sym (R.each x))

        each : (x : ℕ) → is_begun (put phase n Begun x) ≡ is_among new.nodes new.count x
        each x = ⊎_elim
            (λ (e : x ≡ n). ap is_begun (put_at phase n x Begun e) ∙ sym (listed x ∙ ap (λ z. z || is_begun (phase x)) (eq-eqb n x (sym e))))
            (λ (e : x ≡ n → ⊥). ap is_begun (put_other phase n x Begun e) ∙ sym (listed x ∙ ap (λ z. z || is_begun (phase x)) (ne_eqb n x (λ k. e (sym k)))))
            (cases_eq x n)

  module _ (n : ℕ) (begun : is_begun (phase n) ≡ true) where
    -- it is listed
    pub listed_at : (i : ℕ) × (i < old.count) × (nth old i ≡ n)
    listed_at = let r = some_one (λ i. nth old i == n) old.count (sym (R.each n) ∙ begun) in (r.0, r.1, eqb-true (nth old r.0) n r.2)

    -- the last one takes its place
    pub removed : (i : ℕ) → i < old.count → nth old i ≡ n → (new : Running) → new.nodes ≡ slice_set old.nodes i (nth old (old.count - 1)) → new.count + 1 ≡ old.count → Runs nodes (put phase n Done) new
    removed i lt is new nodes_are less = record {
      of_nodes = record {
        room = ap length nodes_are ∙ length-set old.nodes i (nth old (old.count - 1)) ∙ R.of_nodes.room;
        fits = omega (arith, less, R.of_nodes.fits);
        below = λ k l. ⊎_elim
            (λ (e : k ≡ i). subst (λ z. z < nodes) (sym (here k e)) (R.of_nodes.below (old.count - 1) (omega (arith, lt))))
            (λ (e : k ≡ i → ⊥). subst (λ z. z < nodes) (sym (there k e)) (R.of_nodes.below k (omega (arith, l, less))))
            (cases_eq k i);
      };
      each = each;
      once = once;
    }
      where
        fits : i < length old.nodes
        fits = omega (arith, lt, R.of_nodes.fits, R.of_nodes.room)

        here : (k : ℕ) → k ≡ i → nth new k ≡ nth old (old.count - 1)
        here k e = ap (λ z. get_or z k 0) nodes_are ∙ ap (λ z. get_or (slice_set old.nodes i (nth old (old.count - 1))) z 0) e ∙ get_or-set_same old.nodes i (nth old (old.count - 1)) 0 fits

        there : (k : ℕ) → (k ≡ i → ⊥) → nth new k ≡ nth old k
        there k e = ap (λ z. get_or z k 0) nodes_are ∙ get_or-set_other old.nodes i k (nth old (old.count - 1)) 0 e

        -- from where a listed number came
        from : (k : ℕ) → k < new.count → (j : ℕ) × (j < old.count) × (nth new k ≡ nth old j) × ((j ≡ i → ⊥) × ((j ≡ k) ⊎ ((j ≡ old.count - 1) × (k ≡ i))))
        from k l = ⊎_elim
            (λ (e : k ≡ i). (old.count - 1, omega (arith, lt), here k e, ((λ s. omega (arith, s, e, l, less)), inr (refl, e))))
            (λ (e : k ≡ i → ⊥). (k, omega (arith, l, less), there k e, (e, inl refl)))
            (cases_eq k i)

        same_from : (k l j m : ℕ) → k < new.count → l < new.count → j ≡ m → (j ≡ k) ⊎ ((j ≡ old.count - 1) × (k ≡ i)) → (m ≡ l) ⊎ ((m ≡ old.count - 1) × (l ≡ i)) → k ≡ l
        same_from k l j m a b e (inl p) (inl q) = omega (arith, e, p, q)
        same_from k l j m a b e (inl p) (inr q) = absurd (omega (arith, e, p, q.0, a, less))
        same_from k l j m a b e (inr p) (inl q) = absurd (omega (arith, e, q, p.0, b, less))
        same_from k l j m a b e (inr p) (inr q) = omega (arith, p.1, q.1)

        once : (k l : ℕ) → k < new.count → l < new.count → nth new k ≡ nth new l → k ≡ l
        once k l a b e =
            let f = from k a in
            let g = from l b in
            same_from k l f.0 g.0 a b (R.once f.0 g.0 f.1 g.1 (sym f.2 ∙ e ∙ g.2)) f.3.1 g.3.1

        gone : (k : ℕ) → k < new.count → nth new k ≡ n → ⊥
        gone k l e = let f = from k l in f.3.0 (R.once f.0 i f.1 lt (sym f.2 ∙ e ∙ sym is))

        kept : (x : ℕ) → (x ≡ n → ⊥) → is_among old.nodes old.count x ≡ true → is_among new.nodes new.count x ≡ true
        kept x ne h =
            let r = some_one (λ k. nth old k == x) old.count h in
            let e = eqb-true (nth old r.0) x r.2 in
            let apart : r.0 ≡ i → ⊥ = λ s. ne (sym e ∙ ap (nth old) s ∙ is) in
            ⊎_elim
            (λ (l : r.0 < new.count). some_at (λ k. nth new k == x) new.count r.0 l (eq-eqb (nth new r.0) x (there r.0 apart ∙ e)))
            (λ (g : new.count ≤ r.0).
            let last : old.count - 1 ≡ r.0 = omega (arith, g, r.1, less) in
            some_at (λ k. nth new k == x) new.count i (omega (arith, lt, g, r.1, less, apart)) (eq-eqb (nth new i) x (here i refl ∙ ap (nth old) last ∙ e)))
            (cases_lt r.0 new.count)

        was : (x : ℕ) → is_among new.nodes new.count x ≡ true → is_among old.nodes old.count x ≡ true
        was x h =
            let r = some_one (λ k. nth new k == x) new.count h in
            let f = from r.0 r.1 in
            some_at (λ k. nth old k == x) old.count f.0 f.1 (eq-eqb (nth old f.0) x (sym f.2 ∙ eqb-true (nth new r.0) x r.2))

        each : (x : ℕ) → is_begun (put phase n Done x) ≡ is_among new.nodes new.count x
        each x = ⊎_elim
            (λ (e : x ≡ n). ap is_begun (put_at phase n x Done e) ∙ sym (none_below (λ k. nth new k == x) new.count (λ k l. ne_eqb (nth new k) x (λ s. gone k l (s ∙ e)))))
            (λ (e : x ≡ n → ⊥). ap is_begun (put_other phase n x Done e) ∙ R.each x ∙ both_ways (is_among old.nodes old.count x) (is_among new.nodes new.count x) (kept x e) (was x))
            (cases_eq x n)

-- some begun command passes
module _ (V : View) (phase : ℕ → Phase) (r : Running) (R : Runs (length V.nodes) phase r) where
  pub any_begun : (f : ℕ → Bool) → any_of r f ≡ some_node V (λ x. is_begun (phase x) && f x)
  any_begun f = both_ways (any_of r f) (some_node V (λ x. is_begun (phase x) && f x))
      (λ h. let q = some_one (λ i. f (nth r i)) r.count h in node_is V (λ x. is_begun (phase x) && f x) (nth r q.0) (R.of_nodes.below q.0 q.1) (and_from (is_begun (phase (nth r q.0))) (f (nth r q.0)) (among_of (length V.nodes) phase r R q.0 q.1) q.2))
      (λ h.
      let q = one_node V (λ x. is_begun (phase x) && f x) h in
      let p = and_parts (is_begun (phase q.0)) (f q.0) q.2 in
      let s = some_one (λ i. nth r i == q.0) r.count (sym (R.each q.0) ∙ p.0) in
      some_at (λ i. f (nth r i)) r.count s.0 s.1 (ap f (eqb-true (nth r s.0) q.0 s.2) ∙ p.1))
