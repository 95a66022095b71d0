-- The rows of versions, one pass more.
use Rattle.std.proofs.Common.{subst, zero, suc, map, take, ◌^◌, slice_get, ◌≡◌, ◌≢◌, ℕ, ◌+◌, ◌<◌, ◌≤◌, ◌==◌, ◌++◌, List, [], ◌∷◌, length, get_or, not, Bool, true, false, Option, Some, IfSome, if◌then◌else◌, refl, sym, ap, ap₂, ◌∙◌, arith, append_assoc, ⊎_elim}
use Rattle.std.specs.List.{All, filter, filter_map, cons_option, range_with_len}
use Rattle.std.proofs.lemmas.Bool.Decides.{eqb_tells}
use Rattle.std.proofs.lemmas.List.{append-nil, ext_get_or, length-set, get_or-set_same, get_or-set_other}
use Rattle.std.proofs.lemmas.Option.{slice_get-get_or}
use Rattle.std.proofs.lemmas.List.Elements.{All-same, All-push, All-head, All-tail, All-cons, All-append}
use Rattle.std.proofs.lemmas.List.FromFn.{length-map-range_with_len, get_or-map-range_with_len, map-range_with_len_more}
use Rattle.base.proofs.Lists.{map_same}
use Rattle.frame.specs.Numbered.{NumberedFrame}
use Rattle.frame.specs.declared.frame.Write.{Write}
use Rattle.frame.specs.declared.numbered.NumberedPass.{NumberedPass}
use Rattle.frame_cull.specs.Internal.Rows.{grown, added, added_numbers}
use Rattle.frame_cull.specs.Versions.{row_of, made_by, made, imported, versions, latest, latest_maker, no_pass, pass_at, read_by, numbers_after, written_by, changes, used, sources, Numbers, numbers_until}

-- LISTS

pub filter_map_same : {X Y : Type 0} (f g : X → Option Y) (xs : List X) → All (λ x. f x ≡ g x) xs → filter_map f xs ≡ filter_map g xs
filter_map_same f g [] same = refl
filter_map_same f g (x ∷ xs) same = ap₂ (λ o ys. cons_option o ys) (All-head (λ x. f x ≡ g x) x xs same) (filter_map_same f g xs (All-tail (λ x. f x ≡ g x) x xs same))

pub changes_within : (P : ℕ → Type 0) (writes : List (Write ℕ)) → All (λ w. P w.what) writes → All P (changes writes)
changes_within P [] all = λ k d lt. absurd (omega arith)
changes_within P (w ∷ writes) all = by_kind (not w.fresh) (changes_within P writes (All-tail (λ w. P w.what) w writes all))
  where
    by_kind : (b : Bool) → All P (changes writes) → All P (map (λ w. w.what) (if b then w ∷ filter (λ w. not w.fresh) writes else filter (λ w. not w.fresh) writes))
    by_kind true rest = All-cons P w.what (changes writes) (All-head (λ w. P w.what) w writes all) rest
    by_kind false rest = rest

-- VERSIONS

made-more : (unit i : ℕ) (passes : List NumberedPass) (p : ℕ) → p < length passes → made unit i (take (suc p) passes) ≡ made unit i (take p passes) ++ made_by unit (i + p) (get_or passes p no_pass).writes
made-more unit i [] p lt = absurd (omega arith)
made-more unit i (pass ∷ passes) zero lt = append-nil (made_by unit i pass.writes) ∙ (let e : i ≡ i + 0 = omega arith in ap (λ j. made_by unit j pass.writes) e)
made-more unit i (pass ∷ passes) (suc p) lt =
    let e : suc i + p ≡ i + suc p = omega arith in
    ap (λ xs. made_by unit i pass.writes ++ xs) (made-more unit (suc i) passes p (omega arith))
    ∙ sym (append_assoc (made_by unit i pass.writes) (made unit (suc i) (take p passes)) (made_by unit (suc i + p) (get_or passes p no_pass).writes))
    ∙ ap (λ j. (made_by unit i pass.writes ++ made unit (suc i) (take p passes)) ++ made_by unit j (get_or passes p no_pass).writes) e

pub versions-more : (n : NumberedFrame) (p unit : ℕ) → p < length n.passes → versions n (p + 1) unit ≡ versions n p unit ++ made_by unit p (pass_at n p).writes
versions-more n p unit lt =
    let e : 0 + p ≡ p = omega arith in
    let s : p + 1 ≡ suc p = omega arith in
    ap (λ k. versions n k unit) s
    ∙ ap (λ xs. imported n unit ++ xs) (made-more unit 0 n.passes p lt)
    ∙ sym (append_assoc (imported n unit) (made unit 0 (take p n.passes)) (made_by unit (0 + p) (pass_at n p).writes))
    ∙ ap (λ k. versions n p unit ++ made_by unit k (pass_at n p).writes) e

made_by-append : (unit p : ℕ) (xs ys : List (Write ℕ)) → made_by unit p (xs ++ ys) ≡ made_by unit p xs ++ made_by unit p ys
made_by-append unit p [] ys = refl
made_by-append unit p (w ∷ xs) ys = by_unit (w.what == unit) (made_by-append unit p xs ys)
  where
    by_unit : (b : Bool) → made_by unit p (xs ++ ys) ≡ made_by unit p xs ++ made_by unit p ys → (if b then Some p ∷ made_by unit p (xs ++ ys) else made_by unit p (xs ++ ys)) ≡ (if b then Some p ∷ made_by unit p xs else made_by unit p xs) ++ made_by unit p ys
    by_unit true rest = ap (λ zs. Some p ∷ zs) rest
    by_unit false rest = rest

-- ROWS

grown_row : (p : ℕ) (w : Write ℕ) (rows : List (List (Option ℕ))) (unit : ℕ) → w.what < length rows → row_of (grown p w.what rows) unit ≡ row_of rows unit ++ made_by unit p (w ∷ [])
grown_row p w rows unit lt = ⊎_elim same other (eqb_tells w.what unit)
  where
    row : List (Option ℕ)
    row = row_of rows w.what ++ Some p ∷ []

    one : (b : Bool) → (w.what == unit) ≡ b → made_by unit p (w ∷ []) ≡ (if b then Some p ∷ [] else [])
    one b e = ap (λ t. if t then Some p ∷ [] else []) e

    same : ((w.what == unit) ≡ true) × (w.what ≡ unit) → row_of (grown p w.what rows) unit ≡ row_of rows unit ++ made_by unit p (w ∷ [])
    same h = subst (λ u. row_of (grown p w.what rows) u ≡ row_of rows u ++ made_by unit p (w ∷ [])) h.1 (get_or-set_same rows w.what row [] lt ∙ ap (λ xs. row_of rows w.what ++ xs) (sym (one true h.0)))

    other : ((w.what == unit) ≡ false) × (w.what ≢ unit) → row_of (grown p w.what rows) unit ≡ row_of rows unit ++ made_by unit p (w ∷ [])
    other h = get_or-set_other rows w.what unit row [] (λ e. h.1 (sym e)) ∙ sym (append-nil (row_of rows unit)) ∙ ap (λ xs. row_of rows unit ++ xs) (sym (one false h.0))

grown-length : (p unit : ℕ) (rows : List (List (Option ℕ))) → length (grown p unit rows) ≡ length rows
grown-length p unit rows = length-set rows unit (row_of rows unit ++ Some p ∷ [])

pub added-length : (p : ℕ) (writes : List (Write ℕ)) (rows : List (List (Option ℕ))) → length (added p writes rows) ≡ length rows
added-length p [] rows = refl
added-length p (w ∷ writes) rows = added-length p writes (grown p w.what rows) ∙ grown-length p w.what rows

grown-within : (p : ℕ) (w : Write ℕ) (writes : List (Write ℕ)) (rows : List (List (Option ℕ))) → All (λ x. x.what < length rows) (w ∷ writes) → All (λ x. x.what < length (grown p w.what rows)) writes
grown-within p w writes rows within = subst (λ m. All (λ x. x.what < m) writes) (sym (grown-length p w.what rows)) (All-tail (λ x. x.what < length rows) w writes within)

added_row : (p : ℕ) (writes : List (Write ℕ)) (rows : List (List (Option ℕ))) (unit : ℕ) → All (λ w. w.what < length rows) writes → row_of (added p writes rows) unit ≡ row_of rows unit ++ made_by unit p writes
added_row p [] rows unit within = sym (append-nil (row_of rows unit))
added_row p (w ∷ writes) rows unit within =
    added_row p writes (grown p w.what rows) unit (grown-within p w writes rows within)
    ∙ ap (λ row. row ++ made_by unit p writes) (grown_row p w rows unit (All-head (λ x. x.what < length rows) w writes within))
    ∙ append_assoc (row_of rows unit) (made_by unit p (w ∷ [])) (made_by unit p writes)
    ∙ ap (λ xs. row_of rows unit ++ xs) (sym (made_by-append unit p (w ∷ []) writes))

numbers_are : (n : NumberedFrame) (p : ℕ) (before writes : List (Write ℕ)) (rows : List (List (Option ℕ))) → ((unit : ℕ) → unit < length rows → row_of rows unit ≡ versions n p unit ++ made_by unit p before) → All (λ w. w.what < length rows) writes → added_numbers p writes rows ≡ numbers_after n p before writes
numbers_are n p before [] rows same within = refl
numbers_are n p before (w ∷ writes) rows same within =
    let here : w.what < length rows = All-head (λ x. x.what < length rows) w writes within in
    ap₂ (λ x xs. x ∷ xs) (ap length (same w.what here)) (numbers_are n p (before ++ w ∷ []) writes (grown p w.what rows) (λ unit lt.
    grown_row p w rows unit here
    ∙ ap (λ row. row ++ made_by unit p (w ∷ [])) (same unit (subst (λ m. unit < m) (grown-length p w.what rows) lt))
    ∙ append_assoc (versions n p unit) (made_by unit p before) (made_by unit p (w ∷ []))
    ∙ ap (λ xs. versions n p unit ++ xs) (sym (made_by-append unit p before (w ∷ [])))) (grown-within p w writes rows within))

-- THE ROWS OF A FRAME

module _ (n : NumberedFrame) (p : ℕ) where
  abbrev rows : List (List (Option ℕ))
  rows = map (versions n p) (range_with_len 0 (length n.units))

  pub rows-length : length rows ≡ length n.units
  rows-length = length-map-range_with_len (versions n p) 0 (length n.units)

  pub row_is : (unit : ℕ) → unit < length n.units → row_of rows unit ≡ versions n p unit
  row_is unit lt = get_or-map-range_with_len (versions n p) 0 (length n.units) unit unit [] lt (omega arith)

  -- what pass p reads, uses and makes, from the rows
  pub read_is : All (λ unit. unit < length n.units) (pass_at n p).reads → map (λ unit. latest (row_of rows unit)) (pass_at n p).reads ≡ read_by n p
  read_is within = map_same (λ unit. latest (row_of rows unit)) (λ unit. latest (versions n p unit)) (pass_at n p).reads (λ k d lt. ap latest (row_is (get_or (pass_at n p).reads k d) (within k d lt)))

  pub sources_are : All (λ unit. unit < length n.units) (used (pass_at n p)) → filter_map (λ unit. latest_maker (row_of rows unit)) (used (pass_at n p)) ≡ sources n p
  sources_are within = filter_map_same (λ unit. latest_maker (row_of rows unit)) (λ unit. latest_maker (versions n p unit)) (used (pass_at n p)) (λ k d lt. ap latest_maker (row_is (get_or (used (pass_at n p)) k d) (within k d lt)))

  pub written_is : All (λ w. w.what < length n.units) (pass_at n p).writes → added_numbers p (pass_at n p).writes rows ≡ written_by n p
  written_is within = numbers_are n p [] (pass_at n p).writes rows (λ unit lt. row_is unit (subst (λ m. unit < m) rows-length lt) ∙ sym (append-nil (versions n p unit))) (subst (λ m. All (λ w. w.what < m) (pass_at n p).writes) (sym rows-length) within)

  pub rows_after : p < length n.passes → All (λ w. w.what < length n.units) (pass_at n p).writes → added p (pass_at n p).writes rows ≡ map (versions n (p + 1)) (range_with_len 0 (length n.units))
  rows_after lt within = ext_get_or [] (added p (pass_at n p).writes rows) (map (versions n (p + 1)) (range_with_len 0 (length n.units))) (added-length p (pass_at n p).writes rows ∙ rows-length ∙ sym (length-map-range_with_len (versions n (p + 1)) 0 (length n.units))) (λ unit less.
      let inside : unit < length n.units = subst (λ m. unit < m) (added-length p (pass_at n p).writes rows ∙ rows-length) less in
      added_row p (pass_at n p).writes rows unit (subst (λ m. All (λ w. w.what < m) (pass_at n p).writes) (sym rows-length) within)
      ∙ ap (λ row. row ++ made_by unit p (pass_at n p).writes) (row_is unit inside)
      ∙ sym (versions-more n p unit lt)
      ∙ sym (get_or-map-range_with_len (versions n (p + 1)) 0 (length n.units) unit unit [] inside (omega arith)))

used-within : (n : NumberedFrame) (p : ℕ) → All (λ unit. unit < length n.units) (pass_at n p).reads → All (λ w. w.what < length n.units) (pass_at n p).writes → All (λ unit. unit < length n.units) (used (pass_at n p))
used-within n p reads writes = All-append (λ unit. unit < length n.units) (pass_at n p).reads (changes (pass_at n p).writes) reads (changes_within (λ unit. unit < length n.units) (pass_at n p).writes writes)

numbers_same : (a a' : List (List (Option ℕ))) (b b' c c' d d' : List (List ℕ)) → a ≡ a' → b ≡ b' → c ≡ c' → d ≡ d' → ◌≡◌ {A = Numbers} (record { makers = a; reads = b; writes = c; sources = d }) (record { makers = a'; reads = b'; writes = c'; sources = d' })
numbers_same a a' b b' c c' d d' e f g h =
    ap (λ x. record { makers = x; reads = b; writes = c; sources = d }) e
    ∙ ap (λ x. record { makers = a'; reads = x; writes = c; sources = d }) f
    ∙ ap (λ x. record { makers = a'; reads = b'; writes = x; sources = d }) g
    ∙ ap (λ x. record { makers = a'; reads = b'; writes = c'; sources = x }) h

-- all of a pass is added
pub one_more : (n : NumberedFrame) (p : ℕ) (old : Numbers) (reads : List ℕ) (writes : List (Write ℕ)) (read made-here from : List ℕ) → p < length n.passes → old ≡ numbers_until n p → reads ≡ (pass_at n p).reads → writes ≡ (pass_at n p).writes → All (λ unit. unit < length n.units) reads → All (λ w. w.what < length n.units) writes → read ≡ map (λ unit. latest (row_of old.makers unit)) reads → from ≡ filter_map (λ unit. latest_maker (row_of old.makers unit)) (reads ++ changes writes) → made-here ≡ added_numbers p writes old.makers → ◌≡◌ {A = Numbers} (record { makers = added p writes old.makers; reads = old.reads ++ read ∷ []; writes = old.writes ++ made-here ∷ []; sources = old.sources ++ from ∷ [] }) (numbers_until n (p + 1))
one_more n p old reads writes read made-here from lt is same-reads same-writes reads-in writes-in read-is from-is made-is =
    let reads-within = subst (λ xs. All (λ unit. unit < length n.units) xs) same-reads reads-in in
    let writes-within = subst (λ xs. All (λ w. w.what < length n.units) xs) same-writes writes-in in
    let all-reads : read ≡ read_by n p = read-is ∙ ap₂ (λ o xs. map (λ unit. latest (row_of o.makers unit)) xs) is same-reads ∙ read_is n p reads-within in
    let all-made : made-here ≡ written_by n p = made-is ∙ ap₂ (λ o xs. added_numbers p xs o.makers) is same-writes ∙ written_is n p writes-within in
    let all-from : from ≡ sources n p = from-is ∙ ap₂ (λ o xs. filter_map (λ unit. latest_maker (row_of o.makers unit)) (xs ++ changes writes)) is same-reads ∙ ap (λ xs. filter_map (λ unit. latest_maker (row_of (numbers_until n p).makers unit)) ((pass_at n p).reads ++ changes xs)) same-writes ∙ sources_are n p (used-within n p reads-within writes-within) in
    let rows-are : added p writes old.makers ≡ (numbers_until n (p + 1)).makers = ap₂ (λ o xs. added p xs o.makers) is same-writes ∙ rows_after n p lt writes-within in
    numbers_same (added p writes old.makers) (numbers_until n (p + 1)).makers (old.reads ++ read ∷ []) (numbers_until n (p + 1)).reads (old.writes ++ made-here ∷ []) (numbers_until n (p + 1)).writes (old.sources ++ from ∷ []) (numbers_until n (p + 1)).sources
    rows-are
    (grows (read_by n) old.reads read (ap (λ o. o.reads) is) all-reads)
    (grows (written_by n) old.writes made-here (ap (λ o. o.writes) is) all-made)
    (grows (sources n) old.sources from (ap (λ o. o.sources) is) all-from)
  where
    grows : (f : ℕ → List ℕ) (xs : List (List ℕ)) (x : List ℕ) → xs ≡ map f (range_with_len 0 p) → x ≡ f p → xs ++ x ∷ [] ≡ map f (range_with_len 0 (p + 1))
    grows f xs x same one = ap₂ (λ ys y. ys ++ y ∷ []) same one ∙ sym (map-range_with_len_more f 0 p p (omega arith))

pub first_row : (n : NumberedFrame) (unit : ℕ) → imported n unit ≡ versions n 0 unit
first_row n unit = sym (append-nil (imported n unit))

-- STEPS OF THE CODE

pub pass_got : (n : NumberedFrame) (p : ℕ) (P : NumberedPass → Type 0) → p < length n.passes → IfSome (slice_get n.passes p) P → P (pass_at n p)
pass_got n p P lt has = subst (λ o. IfSome o P) (slice_get-get_or n.passes p no_pass lt) has

pub row_pushed : (n : NumberedFrame) (unit : ℕ) (before after : List (List (Option ℕ))) (row : List (Option ℕ)) → before ≡ map (versions n 0) (range_with_len 0 unit) → row ≡ imported n unit → after ≡ before ++ row ∷ [] → after ≡ map (versions n 0) (range_with_len 0 (unit + 1))
row_pushed n unit before after row is here pushed = pushed ∙ ap₂ (λ xs x. xs ++ x ∷ []) is (here ∙ first_row n unit) ∙ sym (map-range_with_len_more (versions n 0) 0 unit unit (omega arith))

pub small_pushed : (before after : List (List (Option ℕ))) (row : List (Option ℕ)) → All (λ r. length r ≤ 2 ^ 32) before → length row ≤ 1 → after ≡ before ++ row ∷ [] → All (λ r. length r ≤ 2 ^ 32) after
small_pushed before after row small one pushed = All-same (λ r. length r ≤ 2 ^ 32) after (before ++ row ∷ []) pushed (All-push (λ r. length r ≤ 2 ^ 32) before row small (omega arith))

-- a pass is added part by part
pub part_by_part : (n : NumberedFrame) (p : ℕ) (old : Numbers) (reads : List ℕ) (writes : List (Write ℕ)) (read made-here from : List ℕ) (a : List (List (Option ℕ))) (b c d : List (List ℕ)) → p < length n.passes → old ≡ numbers_until n p → IfSome (slice_get n.passes p) (λ pass. reads ≡ pass.reads) → IfSome (slice_get n.passes p) (λ pass. writes ≡ pass.writes) → All (λ unit. unit < length n.units) reads → All (λ w. w.what < length n.units) writes → read ≡ map (λ unit. latest (row_of old.makers unit)) reads → from ≡ filter_map (λ unit. latest_maker (row_of old.makers unit)) (reads ++ changes writes) → made-here ≡ added_numbers p writes old.makers → a ≡ added p writes old.makers → b ≡ old.reads ++ read ∷ [] → c ≡ old.writes ++ made-here ∷ [] → d ≡ old.sources ++ from ∷ [] → ◌≡◌ {A = Numbers} (record { makers = a; reads = b; writes = c; sources = d }) (numbers_until n (p + 1))
part_by_part n p old reads writes read made-here from a b c d lt is says-reads says-writes reads-in writes-in read-is from-is made-is e f g h =
    numbers_same a (added p writes old.makers) b (old.reads ++ read ∷ []) c (old.writes ++ made-here ∷ []) d (old.sources ++ from ∷ []) e f g h
    ∙ one_more n p old reads writes read made-here from lt is (pass_got n p (λ pass. reads ≡ pass.reads) lt says-reads) (pass_got n p (λ pass. writes ≡ pass.writes) lt says-writes) reads-in writes-in read-is from-is made-is

makers_count : (n : NumberedFrame) (p : ℕ) (v : Numbers) → v ≡ numbers_until n p → length v.makers ≡ length n.units
makers_count n p v is = ap (λ x. length x.makers) is ∙ rows-length n p

pub units_fit : (n : NumberedFrame) (p : ℕ) (v : Numbers) (units : List ℕ) → v ≡ numbers_until n p → All (λ unit. unit < length n.units) units → All (λ unit. unit < length v.makers) units
units_fit n p v units is within = subst (λ m. All (λ unit. unit < m) units) (sym (makers_count n p v is)) within

pub writes_fit : (n : NumberedFrame) (p : ℕ) (v : Numbers) (writes : List (Write ℕ)) → v ≡ numbers_until n p → All (λ w. w.what < length n.units) writes → All (λ w. w.what < length v.makers) writes
writes_fit n p v writes is within = subst (λ m. All (λ w. w.what < m) writes) (sym (makers_count n p v is)) within
