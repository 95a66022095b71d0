-- Which uses stand in the group before, as groups grow use by use.
use Rattle.std.proofs.Common.{◌≡◌, ℕ, zero, suc, ◌+◌, ◌-◌, ◌<◌, ◌≤◌, ◌==◌, ◌&&◌, ◌||◌, Bool, true, false, List, [], ◌∷◌, ◌++◌, length, take, drop, get_or, Some, if◌then◌else◌, refl, sym, ap, ap₂, ◌∙◌, arith, add-one, zero-add}
use Rattle.std.specs.List.{list_any, range_with_len, slice_range}
use Rattle.std.proofs.lemmas.List.{get_or-drop, get_or-take, length-drop, length-take-le, take_all, take_more}
use Rattle.std.proofs.lemmas.List.Folds.{list_any-append}
use Rattle.std.proofs.lemmas.Option.{slice_get-get_or}
use Rattle.base.proofs.Booleans.{or_assoc, or_false}
use Rattle.base.proofs.Lists.{range_more}
use Rattle.compile_queues.specs.Internal.Spans.{is_by, span_of, use_at}
use Rattle.compile_queues.specs.declared.spans.Span.{Span}
use Rattle.compile_queues.proofs.Linked.{linked, linked_in, meets}
use Rattle.compile_groups.proofs.Continued.{last_got, runs_more}
use Rattle.compile_groups.specs.Internal.Grown.{added, joins_last}
use Rattle.compile_groups.specs.Groups.{runs}
use Rattle.compile_groups.specs.Uses.{no_use}
use Rattle.compile_groups.specs.declared.unit_use.Use.{Use}

-- THE LAST TWO GROUPS

pub record Ends : Type 0 where
  pub before : List Use
  pub last : List Use

abbrev ends : List (List Use) → Ends
ends [] = record { before = []; last = [] }
ends (A ∷ []) = record { before = []; last = A }
ends (A ∷ (B ∷ [])) = record { before = A; last = B }
ends (A ∷ (B ∷ (C ∷ groups))) = ends (B ∷ (C ∷ groups))

abbrev grow_if : Bool → Use → Ends → Ends
grow_if b w E = if b then record { before = E.before; last = E.last ++ w ∷ [] } else record { before = E.last; last = w ∷ [] }

abbrev grow : (Use → Use → Bool) → Use → Ends → Ends
grow J w E = grow_if (joins_last J E.last w) w E

some_more : (J : Use → Use → Bool) (w : Use) (groups : List (List Use)) → 0 < length (added J w groups)
some_more J w [] = omega arith
some_more J w (A ∷ []) = go (joins_last J A w)
  where
    go : (b : Bool) → 0 < length (if b then (A ++ w ∷ []) ∷ [] else A ∷ (w ∷ []) ∷ [])
    go true = omega arith
    go false = omega arith
some_more J w (A ∷ (B ∷ groups)) = omega arith

skip : (A B : List Use) (groups : List (List Use)) → 0 < length groups → ends (A ∷ (B ∷ groups)) ≡ ends (B ∷ groups)
skip A B [] lt = absurd (omega arith)
skip A B (C ∷ groups) lt = refl

ends_more : (J : Use → Use → Bool) (w : Use) (groups : List (List Use)) → ends (added J w groups) ≡ grow J w (ends groups)
ends_more J w [] = refl
ends_more J w (A ∷ []) = go (joins_last J A w)
  where
    go : (b : Bool) → ends (if b then (A ++ w ∷ []) ∷ [] else A ∷ (w ∷ []) ∷ []) ≡ grow_if b w (record { before = []; last = A })
    go true = refl
    go false = refl
ends_more J w (A ∷ (B ∷ [])) = go (joins_last J B w)
  where
    go : (b : Bool) → ends (A ∷ (if b then (B ++ w ∷ []) ∷ [] else B ∷ (w ∷ []) ∷ [])) ≡ grow_if b w (record { before = A; last = B })
    go true = refl
    go false = refl
ends_more J w (A ∷ (B ∷ (C ∷ groups))) = skip A B (added J w (C ∷ groups)) (some_more J w (C ∷ groups)) ∙ ends_more J w (B ∷ (C ∷ groups))

-- NEEDS BY ONE USE MORE

module _ (c d : ℕ) where
  crossed : (x y z t : Bool) → ((x || y) || (z || t)) ≡ ((x || z) || (y || t))
  crossed true y z t = refl
  crossed false true true t = refl
  crossed false true false t = refl
  crossed false false z t = refl

  linked_more : (A B : List Use) (w : Use) → linked c d A (B ++ w ∷ []) ≡ (linked c d A B || linked c d A (w ∷ []))
  linked_more [] B w = refl
  linked_more (u ∷ A) B w = ap₂ (λ a b. a || b) (list_any-append (meets c d u) B (w ∷ [])) (linked_more A B w) ∙ crossed (list_any (meets c d u) B) (list_any (meets c d u) (w ∷ [])) (linked c d A B) (linked c d A (w ∷ []))

  in_more : (J : Use → Use → Bool) (w : Use) (groups : List (List Use)) → linked_in c d (added J w groups) ≡ (linked_in c d groups || linked c d (grow J w (ends groups)).before (w ∷ []))
  in_more J w [] = refl
  in_more J w (A ∷ []) = go (joins_last J A w)
    where
      go : (b : Bool) → linked_in c d (if b then (A ++ w ∷ []) ∷ [] else A ∷ (w ∷ []) ∷ []) ≡ linked c d (grow_if b w (record { before = []; last = A })).before (w ∷ [])
      go true = refl
      go false = or_false (linked c d A (w ∷ []))
  in_more J w (A ∷ (B ∷ [])) = go (joins_last J B w)
    where
      go : (b : Bool) → linked_in c d (A ∷ (if b then (B ++ w ∷ []) ∷ [] else B ∷ (w ∷ []) ∷ [])) ≡ ((linked c d A B || false) || linked c d (grow_if b w (record { before = A; last = B })).before (w ∷ []))
      go true = or_false (linked c d A (B ++ w ∷ [])) ∙ linked_more A B w ∙ ap (λ a. a || linked c d A (w ∷ [])) (sym (or_false (linked c d A B)))
      go false = ap (λ a. linked c d A B || a) (or_false (linked c d B (w ∷ []))) ∙ ap (λ a. a || linked c d B (w ∷ [])) (sym (or_false (linked c d A B)))
  in_more J w (A ∷ (B ∷ (C ∷ groups))) = ap (λ a. linked c d A B || a) (in_more J w (B ∷ (C ∷ groups))) ∙ sym (or_assoc (linked c d A B) (linked_in c d (B ∷ (C ∷ groups))) (linked c d (grow J w (ends (B ∷ (C ∷ groups)))).before (w ∷ [])))

  -- the pair's second use is told once
  pub by_one : (A : List Use) (w : Use) → linked c d A (w ∷ []) ≡ (w.command == d && list_any (is_by w.unit c) A)
  by_one [] w = none (w.command == d)
    where
      none : (b : Bool) → false ≡ (b && false)
      none true = refl
      none false = refl
  by_one (u ∷ A) w = ap (λ a. meets c d u w || false || a) (by_one A w) ∙ out (u.unit == w.unit) (u.command == c) (w.command == d) (list_any (is_by w.unit c) A)
    where
      out : (p q b r : Bool) → (((p && (q && b)) || false) || (b && r)) ≡ (b && ((p && q) || r))
      out true true true r = refl
      out true true false r = refl
      out true false true r = refl
      out true false false r = refl
      out false q true r = refl
      out false q false r = refl

-- SPANS

-- a stretch of a list, one element longer
range_grow : {X : Type 0} (xs : List X) (a b : ℕ) (d : X) → a ≤ b → b < length xs → slice_range xs a (b + 1) ≡ slice_range xs a b ++ get_or xs b d ∷ []
range_grow xs a b d le lt =
    let size : b + 1 - a ≡ b - a + 1 = omega (arith, le) in
    let inside : b - a < length (drop a xs) = (let all = length-drop a xs in omega (arith, all, le, lt)) in
    let at : a + (b - a) ≡ b = omega (arith, le) in
    ap (λ n. take n (drop a xs)) size ∙ take_more (drop a xs) (b - a) d inside ∙ ap (λ x. slice_range xs a b ++ x ∷ []) (get_or-drop a xs (b - a) d ∙ ap (λ k. get_or xs k d) at)

range_none : {X : Type 0} (xs : List X) (a : ℕ) → slice_range xs a a ≡ []
range_none xs a = let none : a - a ≡ 0 = omega arith in ap (λ n. take n (drop a xs)) none

range_length : {X : Type 0} (xs : List X) (a b : ℕ) → a ≤ b → b ≤ length xs → length (slice_range xs a b) ≡ b - a
range_length xs a b le lt = length-take-le (b - a) (drop a xs) (let all = length-drop a xs in omega (arith, all, le, lt))

pub range_at : {X : Type 0} (xs : List X) (a b k : ℕ) (d : X) → a + k < b → get_or (slice_range xs a b) k d ≡ get_or xs (a + k) d
range_at xs a b k d lt = get_or-take (b - a) (drop a xs) k d (omega (arith, lt)) ∙ get_or-drop a xs k d

-- a span ends where the group after it begins, which is no later than its use
abbrev pub IsOrderly : ℕ → Span → Type 0
IsOrderly j span = (span.from ≤ span.to) × (span.to ≤ j)

orderly_more : (b : Bool) (span : Span) (j : ℕ) → IsOrderly j span → IsOrderly (suc j) (if b then span else record { from = span.to; to = suc j })
orderly_more true span j O = let le : span.to ≤ j = O.1 in (O.0, omega arith)
orderly_more false span j O = let le : span.to ≤ j = O.1 in (omega arith, omega arith)

pub orderly : (J : Use → Use → Bool) (uses : List Use) (j : ℕ) → IsOrderly j (span_of J uses j)
orderly J uses zero = (omega arith, omega arith)
orderly J uses (suc j) = orderly_more (J (use_at uses j) (use_at uses (suc j))) (span_of J uses j) j (orderly J uses j)

module _ (J : Use → Use → Bool) (uses : List Use) where
  -- the groups that a span and the uses after it are
  abbrev spanned : Span → ℕ → Ends
  spanned span n = record { before = slice_range uses span.from span.to; last = slice_range uses span.to n }

  last_of : (to j : ℕ) (w : Use) → to ≤ j → j < length uses → joins_last J (slice_range uses to (suc j)) w ≡ J (use_at uses j) w
  last_of to j w le lt =
      let Q = slice_range uses to (suc j) in
      let size : length Q ≡ suc j - to = range_length uses to (suc j) (omega (arith, le)) (omega (arith, lt)) in
      let inside : length Q - 1 < length Q = omega (arith, size, le) in
      let place : to + (length Q - 1) ≡ j = omega (arith, size, le) in
      let at : get_or Q (length Q - 1) no_use ≡ use_at uses j = range_at uses to (suc j) (length Q - 1) no_use (omega (arith, place)) ∙ ap (use_at uses) place in
      sym (last_got J Q w (use_at uses j) (ap Some (sym at) ∙ sym (slice_get-get_or Q (length Q - 1) no_use inside)))

  grown : (b : Bool) (span : Span) (j : ℕ) → IsOrderly j span → suc j < length uses → grow_if b (use_at uses (suc j)) (spanned span (suc j)) ≡ spanned (if b then span else record { from = span.to; to = suc j }) (suc (suc j))
  grown true span j O lt =
      let le : span.to ≤ j = O.1 in
      ap (λ last. record { before = slice_range uses span.from span.to; last = last }) (sym (range_grow uses span.to (suc j) no_use (omega arith) lt) ∙ ap (slice_range uses span.to) (add-one (suc j)))
  grown false span j O lt =
      ap (λ last. record { before = slice_range uses span.to (suc j); last = last }) (sym (sym (ap (slice_range uses (suc j)) (add-one (suc j))) ∙ range_grow uses (suc j) (suc j) no_use (omega arith) lt ∙ ap (λ l. l ++ use_at uses (suc j) ∷ []) (range_none uses (suc j))))

  first_use : 0 < length uses → take 1 uses ≡ use_at uses 0 ∷ []
  first_use lt = take_more uses 0 no_use lt

  next_use : (j : ℕ) → suc j < length uses → runs J (take (suc (suc j)) uses) ≡ added J (use_at uses (suc j)) (runs J (take (suc j) uses))
  next_use j lt = ap (runs J) (ap (λ n. take n uses) (sym (add-one (suc j))) ∙ take_more uses (suc j) no_use lt) ∙ runs_more J (take (suc j) uses) (use_at uses (suc j))

  ends_are : (j : ℕ) → j < length uses → ends (runs J (take (suc j) uses)) ≡ spanned (span_of J uses j) (suc j)
  ends_are zero lt = ap (λ us. ends (runs J us)) (first_use lt) ∙ ap (λ last. record { before = []; last = last }) (sym (first_use lt))
  ends_are (suc j) lt =
      let span = span_of J uses j in
      let w = use_at uses (suc j) in
      let R = runs J (take (suc j) uses) in
      let less : j < length uses = omega (arith, lt) in
      let O = orderly J uses j in
      ap ends (next_use j lt) ∙ ends_more J w R ∙ ap (grow J w) (ends_are j less)
      ∙ ap (λ b. grow_if b w (spanned span (suc j))) (last_of span.to j w O.1 less)
      ∙ grown (J (use_at uses j) w) span j O lt

  module _ (c d : ℕ) where
    abbrev pub needed_by : ℕ → Bool
    needed_by j = (use_at uses j).command == d && list_any (is_by (use_at uses j).unit c) (slice_range uses (span_of J uses j).from (span_of J uses j).to)

    never : (b : Bool) → false ≡ ((b && false) || false)
    never true = refl
    never false = refl

    one_more : (n : ℕ) → list_any needed_by (range_with_len 0 (suc n)) ≡ (list_any needed_by (range_with_len 0 n) || needed_by n)
    one_more n = ap (list_any needed_by) (range_more 0 n n (zero-add n)) ∙ list_any-append needed_by (range_with_len 0 n) (n ∷ []) ∙ ap (λ b. list_any needed_by (range_with_len 0 n) || b) (or_false (needed_by n))

    so_far : (j : ℕ) → j < length uses → linked_in c d (runs J (take (suc j) uses)) ≡ list_any needed_by (range_with_len 0 (suc j))
    so_far zero lt = ap (λ us. linked_in c d (runs J us)) (first_use lt) ∙ never ((use_at uses 0).command == d)
    so_far (suc j) lt =
        let w = use_at uses (suc j) in
        let R = runs J (take (suc j) uses) in
        let before : (grow J w (ends R)).before ≡ slice_range uses (span_of J uses (suc j)).from (span_of J uses (suc j)).to =
        ap (λ (E : Ends). E.before) (sym (ends_more J w R) ∙ sym (ap ends (next_use j lt)) ∙ ends_are (suc j) lt) in
        ap (linked_in c d) (next_use j lt) ∙ in_more c d J w R
        ∙ ap₂ (λ a A. a || linked c d A (w ∷ [])) (so_far j (omega (arith, lt))) before
        ∙ ap (λ b. list_any needed_by (range_with_len 0 (suc j)) || b) (by_one c d (slice_range uses (span_of J uses (suc j)).from (span_of J uses (suc j)).to) w)
        ∙ sym (one_more (suc j))

    until : (n : ℕ) → n ≤ length uses → linked_in c d (runs J (take n uses)) ≡ list_any needed_by (range_with_len 0 n)
    until zero le = refl
    until (suc j) le = so_far j (omega (arith, le))

    -- one need is a use in the group before
    pub needs_by_spans : linked_in c d (runs J uses) ≡ list_any needed_by (range_with_len 0 (length uses))
    needs_by_spans = ap (λ us. linked_in c d (runs J us)) (sym (take_all (length uses) uses (omega arith))) ∙ until (length uses) (omega arith)
