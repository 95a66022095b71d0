-- What rows and counts say of culled passes.
use Rattle.std.proofs.Common.{subst, zero, suc, map, take, ◌≡◌, ◌≢◌, ℕ, ◌+◌, ◌^◌, ◌<◌, ◌≤◌, ◌==◌, ◌++◌, ◌⊎◌, inl, inr, ◌↔◌, List, [], ◌∷◌, length, get_or, nat_lt, Bool, true, false, Option, None, Some, IfSome, if◌then◌else◌, refl, sym, ap, ap₂, ◌∙◌, arith, ⊎_elim, slice_set, slice_get, is_some}
use Rattle.std.specs.List.{All, Contains, filter_map, cons_option}
use Rattle.std.proofs.lemmas.Bool.{ltb-true, ltb-false, lt-ltb}
use Rattle.std.proofs.lemmas.Bool.Decides.{eqb_tells}
use Rattle.std.proofs.lemmas.List.{map_more, length-map, length-set, length-take-le, get_or-map, get_or-set_same, get_or-set_other, get_or_past}
use Rattle.std.proofs.lemmas.List.Elements.{All-cons, All-append, All-nil}
use Rattle.std.proofs.lemmas.List.FromFn.{length-map-range_with_len, get_or-map-range_with_len}
use Rattle.std.proofs.lemmas.Option.{same_Some, slice_get-get_or}
use Rattle.frame.specs.Valid.{is_import}
use Rattle.frame.specs.Numbered.{NumberedFrame}
use Rattle.frame.specs.declared.frame.Write.{Write}
use Rattle.frame.specs.declared.numbered.NumberedPass.{NumberedPass}
use Rattle.frame_cull.proofs.Grow.{row_is}
use Rattle.frame_cull.specs.Internal.Counts.{is_root, count_of, RowLeads, RowReaches, stays, goes, IsNeeded, IsForward}
use Rattle.frame_cull.specs.Internal.Roots.{effects, marked, rooted, AreRoots}
use Rattle.frame_cull.specs.Culled.{Leads, Reaches, here, on, Matters, has_effect, makes_export, Culled, AreKept}
use Rattle.frame_cull.specs.Versions.{row_of, made_by, made, imported, versions, all_versions, latest, latest_maker, no_pass, pass_at, used, sources, Numbers, numbers_of}

no_some : false ≡ true → ⊥
no_some e = cc

-- MAKERS COME BEFORE

abbrev Below : ℕ → Option ℕ → Type 0
Below b o = (q : ℕ) → o ≡ Some q → q < b

none-below : (b : ℕ) → Below b None
none-below b q e = absurd (no_some (ap is_some e))

some-below : (b p : ℕ) → p < b → Below b (Some p)
some-below b p lt q e = let same : p ≡ q = same_Some p q e in omega arith

made_by-below : (unit p b : ℕ) (writes : List (Write ℕ)) → p < b → All (Below b) (made_by unit p writes)
made_by-below unit p b [] lt = All-nil (Below b)
made_by-below unit p b (w ∷ writes) lt = by_unit (w.what == unit) (made_by-below unit p b writes lt)
  where
    by_unit : (t : Bool) → All (Below b) (made_by unit p writes) → All (Below b) (if t then Some p ∷ made_by unit p writes else made_by unit p writes)
    by_unit true rest = All-cons (Below b) (Some p) (made_by unit p writes) (some-below b p lt) rest
    by_unit false rest = rest

made-below : (unit i b : ℕ) (passes : List NumberedPass) → i + length passes ≤ b → All (Below b) (made unit i passes)
made-below unit i b [] le = All-nil (Below b)
made-below unit i b (pass ∷ passes) le = All-append (Below b) (made_by unit i pass.writes) (made unit (suc i) passes) (made_by-below unit i b pass.writes (omega arith)) (made-below unit (suc i) b passes (omega arith))

imported-below : (b : ℕ) (t : Bool) → All (Below b) (if t then None ∷ [] else [])
imported-below b true = All-cons (Below b) None [] (none-below b) (All-nil (Below b))
imported-below b false = All-nil (Below b)

versions-below : (n : NumberedFrame) (p unit : ℕ) → p ≤ length n.passes → All (Below p) (versions n p unit)
versions-below n p unit le =
    let size : length (take p n.passes) ≡ p = length-take-le p n.passes le in
    All-append (Below p) (imported n unit) (made unit 0 (take p n.passes)) (imported-below p (is_import n.units unit)) (made-below unit 0 p (take p n.passes) (omega arith))

latest-below : (b : ℕ) (row : List (Option ℕ)) → All (Below b) row → Below b (latest_maker row)
latest-below b [] all = none-below b
latest-below b (o ∷ row) all = all (latest (o ∷ row)) None (omega arith)

pub maker-below : (n : NumberedFrame) (p unit q : ℕ) → p ≤ length n.passes → latest_maker (versions n p unit) ≡ Some q → q < p
maker-below n p unit q le e = latest-below p (versions n p unit) (versions-below n p unit le) q e

-- WHAT A FILTER GIVES

kept-has : {X Y : Type 0} (f : X → Option Y) (xs : List X) (k : ℕ) (x : X) (y : Y) → k < length xs → get_or xs k x ≡ x → f x ≡ Some y → Contains (filter_map f xs) y
kept-has f [] k x y lt is gives = absurd (omega arith)
kept-has {X} {Y} f (z ∷ xs) zero x y lt is gives = subst (λ o. Contains (cons_option o (filter_map f xs)) y) (sym (ap f is ∙ gives)) (0, omega arith, refl)
kept-has {X} {Y} f (z ∷ xs) (suc k) x y lt is gives = by_head (f z) (kept-has f xs k x y (omega arith) is gives)
  where
    by_head : (o : Option Y) → Contains (filter_map f xs) y → Contains (cons_option o (filter_map f xs)) y
    by_head None c = c
    by_head (Some v) c = (suc c.0, omega (arith, c.1), c.2)

record From {X Y : Type 0} (f : X → Option Y) (xs : List X) (y : Y) : Type 0 where
  from : X
  in_list : Contains xs from
  gives : f from ≡ Some y

has-kept : {X Y : Type 0} (f : X → Option Y) (xs : List X) (k : ℕ) (y : Y) → k < length (filter_map f xs) → get_or (filter_map f xs) k y ≡ y → From f xs y
has-kept f [] k y lt is = absurd (omega arith)
has-kept {X} {Y} f (x ∷ xs) k y lt is = by_head (f x) refl k lt is (λ j less same. has-kept f xs j y less same)
  where
    later : From f xs y → From f (x ∷ xs) y
    later F = record { from = F.from; in_list = (suc F.in_list.0, omega (arith, F.in_list.1), F.in_list.2); gives = F.gives }

    by_head : (o : Option Y) → f x ≡ o → (k : ℕ) → k < length (cons_option o (filter_map f xs)) → get_or (cons_option o (filter_map f xs)) k y ≡ y → ((j : ℕ) → j < length (filter_map f xs) → get_or (filter_map f xs) j y ≡ y → From f xs y) → From f (x ∷ xs) y
    by_head None e k lt is again = later (again k lt is)
    by_head (Some v) e zero lt is again = record { from = x; in_list = (0, omega arith, refl); gives = e ∙ ap Some is }
    by_head (Some v) e (suc k) lt is again = later (again k (omega arith) is)

kept-all : (P : ℕ → Type 0) (f : ℕ → Option ℕ) (xs : List ℕ) → ((x y : ℕ) → f x ≡ Some y → P y) → All P (filter_map f xs)
kept-all P f [] each = All-nil P
kept-all P f (x ∷ xs) each = by_head (f x) refl (kept-all P f xs each)
  where
    by_head : (o : Option ℕ) → f x ≡ o → All P (filter_map f xs) → All P (cons_option o (filter_map f xs))
    by_head None e rest = rest
    by_head (Some y) e rest = All-cons P y (filter_map f xs) (each x y e) rest

-- STEPS

module _ (n : NumberedFrame) where
  abbrev rows : List (List ℕ)
  rows = (numbers_of n).sources

  pub rows-count : length rows ≡ length n.passes
  rows-count = length-map-range_with_len (sources n) 0 (length n.passes)

  source_row : (q : ℕ) (d : List ℕ) → q < length n.passes → get_or rows q d ≡ sources n q
  source_row q d lt = get_or-map-range_with_len (sources n) 0 (length n.passes) q q d lt (omega arith)

  pub forward : IsForward rows
  forward = λ q d lt.
      let inside : q < length n.passes = subst (λ m. q < m) rows-count lt in
      subst (λ row. All (λ p. p < q) row) (sym (source_row q d inside)) (kept-all (λ p. p < q) (λ unit. latest_maker (versions n q unit)) (used (pass_at n q)) (λ unit p e. maker-below n q unit p (omega arith) e))

  leads-row : (p q : ℕ) → Leads n p q → RowLeads rows p q
  leads-row p q L = (
    subst (λ m. q < m) (sym rows-count) L.within,
    subst (λ row. Contains row p) (sym (source_row q [] L.within)) (kept-has (λ unit. latest_maker (versions n q unit)) (used (pass_at n q)) L.uses.0 L.unit p L.uses.1 L.uses.2 L.made_here),
  )

  row-leads : (p q : ℕ) → RowLeads rows p q → Leads n p q
  row-leads p q R =
      let inside : q < length n.passes = subst (λ m. q < m) rows-count R.0 in
      let has : Contains (sources n q) p = subst (λ row. Contains row p) (source_row q [] inside) R.1 in
      let F = has-kept (λ unit. latest_maker (versions n q unit)) (used (pass_at n q)) has.0 p has.1 has.2 in
      record { within = inside; unit = F.from; uses = F.in_list; made_here = F.gives }

  reaches-row : (p q : ℕ) → Reaches n p q → RowReaches rows p q
  reaches-row p q here = stays
  reaches-row p q (on {q = r} L R) = goes {q = r} (leads-row p r L) (reaches-row r q R)

  row-reaches : (p q : ℕ) → RowReaches rows p q → Reaches n p q
  row-reaches p q stays = here
  row-reaches p q (goes {q = r} L R) = on {q = r} (row-leads p r L) (row-reaches r q R)

-- ROOTS

pub marked-length : (o : Option ℕ) (roots : List Bool) → length (marked o roots) ≡ length roots
marked-length None roots = refl
marked-length (Some p) roots = length-set roots p true

pub rooted-length : (makers : List (List (Option ℕ))) (units : List ℕ) (roots : List Bool) → length (rooted makers units roots) ≡ length roots
rooted-length makers [] roots = refl
rooted-length makers (unit ∷ units) roots = rooted-length makers units (marked (latest_maker (row_of makers unit)) roots) ∙ marked-length (latest_maker (row_of makers unit)) roots

-- the pass makes the last version of one of these units
record IsMaker (makers : List (List (Option ℕ))) (units : List ℕ) (q : ℕ) : Type 0 where
  unit : ℕ
  in_list : Contains units unit
  makes : latest_maker (row_of makers unit) ≡ Some q

marked-other : (o : Option ℕ) (roots : List Bool) (q : ℕ) → is_root roots q ≡ true → is_root (marked o roots) q ≡ true
marked-other None roots q e = e
marked-other (Some p) roots q e = ⊎_elim same other (eqb_tells q p)
  where
    inside : (b : Bool) → nat_lt q (length roots) ≡ b → q < length roots
    inside true t = ltb-true q (length roots) t
    inside false t = absurd (no_some (sym (get_or_past roots q false (ltb-false q (length roots) t)) ∙ e))

    same : ((q == p) ≡ true) × (q ≡ p) → is_root (slice_set roots p true) q ≡ true
    same h = subst (λ x. is_root (slice_set roots x true) q ≡ true) h.1 (get_or-set_same roots q true false (inside (nat_lt q (length roots)) refl))

    other : ((q == p) ≡ false) × (q ≢ p) → is_root (slice_set roots p true) q ≡ true
    other h = get_or-set_other roots p q true false h.1 ∙ e

marked-back : (o : Option ℕ) (roots : List Bool) (q : ℕ) → is_root (marked o roots) q ≡ true → (is_root roots q ≡ true) ⊎ (o ≡ Some q)
marked-back None roots q e = inl e
marked-back (Some p) roots q e = ⊎_elim (λ h. inr (ap Some (sym h.1))) (λ h. inl (sym (get_or-set_other roots p q true false h.1) ∙ e)) (eqb_tells q p)

rooted-kept : (makers : List (List (Option ℕ))) (units : List ℕ) (roots : List Bool) (q : ℕ) → is_root roots q ≡ true → is_root (rooted makers units roots) q ≡ true
rooted-kept makers [] roots q e = e
rooted-kept makers (unit ∷ units) roots q e = rooted-kept makers units (marked (latest_maker (row_of makers unit)) roots) q (marked-other (latest_maker (row_of makers unit)) roots q e)

rooted-made : (makers : List (List (Option ℕ))) (units : List ℕ) (roots : List Bool) (k unit q : ℕ) → k < length units → get_or units k unit ≡ unit → latest_maker (row_of makers unit) ≡ Some q → q < length roots → is_root (rooted makers units roots) q ≡ true
rooted-made makers [] roots k unit q lt is makes inside = absurd (omega arith)
rooted-made makers (first ∷ units) roots zero unit q lt is makes inside =
    let maker : latest_maker (row_of makers first) ≡ Some q = ap (λ u. latest_maker (row_of makers u)) is ∙ makes in
    rooted-kept makers units (marked (latest_maker (row_of makers first)) roots) q (subst (λ o. is_root (marked o roots) q ≡ true) (sym maker) (get_or-set_same roots q true false inside))
rooted-made makers (first ∷ units) roots (suc k) unit q lt is makes inside = rooted-made makers units (marked (latest_maker (row_of makers first)) roots) k unit q (omega arith) is makes (subst (λ m. q < m) (sym (marked-length (latest_maker (row_of makers first)) roots)) inside)

rooted-back : (makers : List (List (Option ℕ))) (units : List ℕ) (roots : List Bool) (q : ℕ) → is_root (rooted makers units roots) q ≡ true → (is_root roots q ≡ true) ⊎ IsMaker makers units q
rooted-back makers [] roots q e = inl e
rooted-back makers (unit ∷ units) roots q e = ⊎_elim first later (rooted-back makers units (marked (latest_maker (row_of makers unit)) roots) q e)
  where
    first : is_root (marked (latest_maker (row_of makers unit)) roots) q ≡ true → (is_root roots q ≡ true) ⊎ IsMaker makers (unit ∷ units) q
    first root = ⊎_elim (λ r. inl r) (λ m. inr (record { unit = unit; in_list = (0, omega arith, refl); makes = m })) (marked-back (latest_maker (row_of makers unit)) roots q root)

    later : IsMaker makers units q → (is_root roots q ≡ true) ⊎ IsMaker makers (unit ∷ units) q
    later M = inr (record { unit = M.unit; in_list = (suc M.in_list.0, omega (arith, M.in_list.1), M.in_list.2); makes = M.makes })

module _ (n : NumberedFrame) (exports : All (λ unit. unit < length n.units) n.exports) where
  abbrev makers : List (List (Option ℕ))
  makers = (numbers_of n).makers

  abbrev roots : List Bool
  roots = rooted makers n.exports (effects n)

  roots-count : length roots ≡ length n.passes
  roots-count = rooted-length makers n.exports (effects n) ∙ length-map n.passes (λ pass. pass.side_effect)

  effect_at : (q : ℕ) → is_root (effects n) q ≡ (pass_at n q).side_effect
  effect_at q = by_list n.passes q
    where
      by_list : (passes : List NumberedPass) (q : ℕ) → get_or (map (λ pass. pass.side_effect) passes) q false ≡ (get_or passes q no_pass).side_effect
      by_list [] q = refl
      by_list (pass ∷ passes) zero = refl
      by_list (pass ∷ passes) (suc q) = by_list passes q

  last_row : (unit : ℕ) → Contains n.exports unit → row_of makers unit ≡ all_versions n unit
  last_row unit c = row_is n (length n.passes) unit (subst (λ u. u < length n.units) c.2 (exports c.0 unit c.1))

  matters-root : (q : ℕ) → q < length n.passes → Matters n q → is_root roots q ≡ true
  matters-root q lt (has_effect e) = rooted-kept makers n.exports (effects n) q (effect_at q ∙ e)
  matters-root q lt (makes_export M) = rooted-made makers n.exports (effects n) M.exported.0 M.unit q M.exported.1 M.exported.2 (ap latest_maker (last_row M.unit M.exported) ∙ M.last) (subst (λ m. q < m) (sym (length-map n.passes (λ pass. pass.side_effect))) lt)

  root-matters : (q : ℕ) → is_root roots q ≡ true → Matters n q
  root-matters q e = ⊎_elim (λ r. has_effect (sym (effect_at q) ∙ r)) (λ M. makes_export (record { unit = M.unit; exported = M.in_list; last = sym (ap latest_maker (last_row M.unit M.in_list)) ∙ M.makes })) (rooted-back makers n.exports (effects n) q e)

  pub are_roots : AreRoots n roots
  are_roots = record { count = roots-count; matter = matters-root; only = root-matters }

  -- the makers of last versions of exports are passes
  pub export-maker : (unit p : ℕ) → unit < length n.units → latest_maker (row_of makers unit) ≡ Some p → p < length n.passes
  export-maker unit p lt e = maker-below n (length n.passes) unit p (omega arith) (sym (ap latest_maker (row_is n (length n.passes) unit lt)) ∙ e)

-- counts that are 0 exactly where no root needs the pass
module _ (n : NumberedFrame) (roots : List Bool) (R : AreRoots n roots) (refs : List ℕ) (size : length refs ≡ length n.passes) (needed : (p : ℕ) → p < length n.passes → (0 < count_of refs p) ↔ IsNeeded (numbers_of n).sources roots p) where
  root-within : (q : ℕ) → is_root roots q ≡ true → q < length n.passes
  root-within q e = by_place (nat_lt q (length roots)) refl
    where
      by_place : (b : Bool) → nat_lt q (length roots) ≡ b → q < length n.passes
      by_place true t = subst (λ m. q < m) R.count (ltb-true q (length roots) t)
      by_place false t = absurd (no_some (sym (get_or_past roots q false (ltb-false q (length roots) t)) ∙ e))

  at_pass : (p : ℕ) → p < length n.passes → nat_lt 0 (count_of refs p) ≡ get_or (map (λ count. nat_lt 0 count) refs) p false
  at_pass p lt = sym (get_or-map (λ count. nat_lt 0 count) refs p 0 false (subst (λ m. p < m) (sym size) lt))

  is_culled : (p : ℕ) → p < length n.passes → nat_lt 0 (count_of refs p) ≡ false → Culled n p
  is_culled p lt out q less reach matters = no_some (sym out ∙ lt-ltb 0 (count_of refs p) ((needed p lt).1 (q, reaches-row n p q reach, R.matter q less matters)))

  is_out : (p : ℕ) → p < length n.passes → Culled n p → (b : Bool) → nat_lt 0 (count_of refs p) ≡ b → nat_lt 0 (count_of refs p) ≡ false
  is_out p lt C true t = let K = (needed p lt).0 (ltb-true 0 (count_of refs p) t) in absurd (C K.0 (root-within K.0 K.2) (row-reaches n p K.0 K.1) (R.only K.0 K.2))
  is_out p lt C false t = t

  pub are_kept : AreKept n (map (λ count. nat_lt 0 count) refs)
  are_kept = record {
    count = length-map refs (λ count. nat_lt 0 count) ∙ size;
    culled = λ p lt. (λ out. is_culled p lt (at_pass p lt ∙ out), λ C. sym (at_pass p lt) ∙ is_out p lt C (nat_lt 0 (count_of refs p)) refl);
  }

-- STEPS OF THE CODE

pub effects_on : (passes : List NumberedPass) (roots more : List Bool) (p : ℕ) (effect : Bool) → p < length passes → roots ≡ map (λ pass. pass.side_effect) (take p passes) → IfSome (slice_get passes p) (λ pass. effect ≡ pass.side_effect) → more ≡ roots ++ effect ∷ [] → more ≡ map (λ pass. pass.side_effect) (take (p + 1) passes)
effects_on passes roots more p effect lt is says grown =
    let here : effect ≡ (get_or passes p no_pass).side_effect = subst (λ o. IfSome o (λ pass. effect ≡ pass.side_effect)) (slice_get-get_or passes p no_pass lt) says in
    grown ∙ ap₂ (λ xs x. xs ++ x ∷ []) is here ∙ sym (map_more (λ pass. pass.side_effect) passes p no_pass lt)

module _ (n : NumberedFrame) (v : Numbers) (exports : List ℕ) (before : List Bool) (is : v ≡ numbers_of n) (same : exports ≡ n.exports) (within : All (λ unit. unit < length n.units) exports) (effect : before ≡ effects n) where
  all_within : All (λ unit. unit < length n.units) n.exports
  all_within = subst (λ units. All (λ unit. unit < length n.units) units) same within

  pub exports_make : All (λ unit. (p : ℕ) → latest_maker (row_of v.makers unit) ≡ Some p → p < length before) exports
  exports_make = λ k d lt p e. subst (λ m. p < m) (sym (ap length effect ∙ length-map n.passes (λ pass. pass.side_effect))) (export-maker n all_within (get_or exports k d) p (within k d lt) (subst (λ x. latest_maker (row_of x.makers (get_or exports k d)) ≡ Some p) is e))

  pub roots_are : (after : List Bool) → after ≡ rooted v.makers exports before → AreRoots n after
  roots_are after e = subst (λ x. AreRoots n x) (sym (e ∙ ap (λ x. rooted x.makers exports before) is ∙ ap (λ units. rooted (numbers_of n).makers units before) same ∙ ap (λ x. rooted (numbers_of n).makers n.exports x) effect)) (are_roots n all_within)

pub few_rooted : (makers : List (List (Option ℕ))) (units : List ℕ) (before after : List Bool) → length before < 2 ^ 32 → after ≡ rooted makers units before → length after < 2 ^ 32
few_rooted makers units before after few e = subst (λ m. m < 2 ^ 32) (sym (ap length e ∙ rooted-length makers units before)) few

module _ (n : NumberedFrame) (v : Numbers) (rows : List (List ℕ)) (roots lent : List Bool) (is : v ≡ numbers_of n) (given : rows ≡ v.sources) (R : AreRoots n roots) (same : lent ≡ roots) where
  all_rows : rows ≡ (numbers_of n).sources
  all_rows = given ∙ ap (λ x. x.sources) is

  pub as_long : length lent ≡ length rows
  as_long = ap length same ∙ R.count ∙ sym (rows-count n) ∙ sym (ap length all_rows)

  pub few_rows : length roots < 2 ^ 32 → length rows < 2 ^ 32
  few_rows few = subst (λ m. m < 2 ^ 32) (ap length (sym same) ∙ as_long) few

  pub rows_forward : IsForward rows
  rows_forward = subst (λ x. IsForward x) (sym all_rows) (forward n)

  pub kept_are : (refs slice : List ℕ) (kept : List Bool) → length refs ≡ length rows → ((p : ℕ) → p < length rows → (0 < count_of refs p) ↔ IsNeeded rows lent p) → slice ≡ refs → kept ≡ map (λ count. nat_lt 0 count) slice → AreKept n kept
  kept_are refs slice kept size needed whole e =
      let count : length rows ≡ length n.passes = ap length all_rows ∙ rows-count n in
      subst (λ k. AreKept n k) (sym (e ∙ ap (λ xs. map (λ count. nat_lt 0 count) xs) whole)) (are_kept n roots R refs (size ∙ count) (λ p lt.
      subst (λ x. (0 < count_of refs p) ↔ IsNeeded (numbers_of n).sources x p) same (subst (λ x. (0 < count_of refs p) ↔ IsNeeded x lent p) all_rows (needed p (subst (λ m. p < m) (sym count) lt)))))
