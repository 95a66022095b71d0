-- Which place a resource has that lies in the heap.
use Rattle.std.proofs.Common.{◌≡◌, ℕ, zero, suc, ◌+◌, ◌<◌, ◌&&◌, ◌||◌, ◌==◌, not, Bool, true, false, List, ◌∷◌, length, if◌then◌else◌, refl, sym, ap, ap₂, ◌∙◌, subst, arith}
use Rattle.std.specs.List.{count_by, filter, range_with_len, position_or_len}
use Rattle.std.proofs.lemmas.Bool.{eq-eqb, ne_eqb, lt-leb, leb-false, or_parts}
use Rattle.std.proofs.lemmas.List.Sums.{sum_by-cons}
use Rattle.compile_groups.specs.Needs.{is_touched}
use Rattle.compile_groups.specs.Placed.{is_import, placed}
use Rattle.compile_groups.specs.declared.grouping.Grouping.{Grouping}
use Rattle.base.specs.Shapes.{shape_at}
use Rattle.base.specs.declared.shape.Shape.{Shape}
use Rattle.vk.specs.declared.sharing.Sharing.{Sharing}
use Rattle.compile_groups.specs.Groups.{sharing_of}
use Rattle.compile_heap.specs.Placing.{number_at}
use Rattle.compile_record.specs.Internal.Resources.{resource_at, is_placed, one_if}
use Rattle.compile_record.specs.Pieces.{is_readback, has_piece, has_memory, memory_of, offset_of, piece}
use Rattle.compile_record.specs.declared.resource.Resource.{Resource}
use Rattle.program.specs.declared.program.Piece.{Piece}
use Rattle.compile_barriers.specs.Under.{place_of}

module _ (p : ℕ → Bool) where
  count-cons : (a n : ℕ) → count_by p (range_with_len a (suc n)) ≡ one_if (p a) + count_by p (range_with_len (a + 1) n)
  count-cons a n = sum_by-cons (λ k. one_if (p k)) a (range_with_len (a + 1) n)

  -- among the numbers that pass, k stands after as many as pass below it
  found : (a n r k : ℕ) → a + r ≡ k → r < n → p k ≡ true → position_or_len (λ u. u == k) (filter p (range_with_len a n)) ≡ count_by p (range_with_len a r)
  found a zero r k e lt passing = absurd (omega (arith, lt))
  found a (suc n) zero k e lt passing =
      let same : a ≡ k = omega (arith, e) in
      let there : a == k ≡ true = eq-eqb a k same in
      let passes : true ≡ p a = sym (ap p same ∙ passing) in
      subst (λ b. position_or_len (λ u. u == k) (if b then a ∷ filter p (range_with_len (a + 1) n) else filter p (range_with_len (a + 1) n)) ≡ 0) passes
      (ap (λ b. if not b then 1 + position_or_len (λ u. u == k) (filter p (range_with_len (a + 1) n)) else 0) there)
  found a (suc n) (suc r) k e lt passing =
      go (found (a + 1) n r k (omega (arith, e)) (omega (arith, lt)) passing) (ne_eqb a k (λ same. omega (arith, e, same))) (p a) ∙ sym (count-cons a r)
    where
      go : position_or_len (λ u. u == k) (filter p (range_with_len (a + 1) n)) ≡ count_by p (range_with_len (a + 1) r) → a == k ≡ false → (b : Bool) → position_or_len (λ u. u == k) (if b then a ∷ filter p (range_with_len (a + 1) n) else filter p (range_with_len (a + 1) n)) ≡ one_if b + count_by p (range_with_len (a + 1) r)
      go rest other true = ap (λ b. if not b then 1 + position_or_len (λ u. u == k) (filter p (range_with_len (a + 1) n)) else 0) other ∙ ap (λ m. 1 + m) rest
      go rest other false = omega (arith, rest)

  within : (a n r k : ℕ) → a + r ≡ k → r < n → p k ≡ true → count_by p (range_with_len a r) < length (filter p (range_with_len a n))
  within a zero r k e lt passing = absurd (omega (arith, lt))
  within a (suc n) zero k e lt passing =
      let same : a ≡ k = omega (arith, e) in
      let passes : true ≡ p a = sym (ap p same ∙ passing) in
      subst (λ b. 0 < length (if b then a ∷ filter p (range_with_len (a + 1) n) else filter p (range_with_len (a + 1) n))) passes (omega arith)
  within a (suc n) (suc r) k e lt passing =
      subst (λ m. m < length (filter p (range_with_len a (suc n)))) (sym (count-cons a r)) (go (within (a + 1) n r k (omega (arith, e)) (omega (arith, lt)) passing) (p a))
    where
      go : count_by p (range_with_len (a + 1) r) < length (filter p (range_with_len (a + 1) n)) → (b : Bool) → one_if b + count_by p (range_with_len (a + 1) r) < length (if b then a ∷ filter p (range_with_len (a + 1) n) else filter p (range_with_len (a + 1) n))
      go rest true = omega (arith, rest)
      go rest false = omega (arith, rest)

count_same : (p q : ℕ → Bool) (a n : ℕ) → ((k : ℕ) → k < a + n → p k ≡ q k) → count_by p (range_with_len a n) ≡ count_by q (range_with_len a n)
count_same p q a zero same = refl
count_same p q a (suc n) same =
    count-cons p a n
    ∙ ap₂ (λ b m. one_if b + m) (same a (omega arith)) (count_same p q (a + 1) n (λ k lt. same k (omega (arith, lt))))
    ∙ sym (count-cons q a n)

without_readback : (t i : Bool) → ((false || t) && not (false || (t && i))) ≡ (t && not i)
without_readback true i = refl
without_readback false i = refl

module _ (G : Grouping) where
  abbrev is_used : ℕ → Bool
  is_used r = is_touched G r && not (is_import G r)

  -- of units the two tests are the same
  placed_is : (r : ℕ) → r < length G.imports → is_placed G r ≡ is_used r
  placed_is r lt = ap (λ b. (b || is_touched G r) && not (b || (is_touched G r && is_import G r))) (lt-leb (length G.imports) r lt) ∙ without_readback (is_touched G r) (is_import G r)

  -- with a piece and no memory of its own
  pub place-there : (r : ℕ) → has_piece G r ≡ true → has_memory G r ≡ false → (count_by (is_placed G) (range_with_len 0 r) ≡ place_of G r) × (place_of G r < length (placed G))
  place-there r piece none =
      let lt : r < length G.imports = leb-false (length G.imports) r (or_parts (is_readback G r) (is_touched G r && is_import G r) none).0 in
      let used : is_used r ≡ true = sym (placed_is r lt) ∙ ap₂ (λ a b. a && not b) piece none in
      let zero_more : 0 + r ≡ r = omega arith in
      let counts : count_by (is_placed G) (range_with_len 0 r) ≡ count_by is_used (range_with_len 0 r) = count_same (is_placed G) is_used 0 r (λ k below. placed_is k (omega (arith, below, lt))) in
      let there : place_of G r ≡ count_by is_used (range_with_len 0 r) = found is_used 0 (length G.imports) r r zero_more lt used in
      (counts ∙ sym there, subst (λ m. m < length (placed G)) (sym there) (within is_used 0 (length G.imports) r r zero_more lt used))

  offset_is : (offsets : List ℕ) (r : ℕ) → has_piece G r ≡ true → (if has_memory G r then 0 else number_at offsets (count_by (is_placed G) (range_with_len 0 r))) ≡ offset_of G offsets r
  offset_is offsets r piece = go (has_memory G r) refl
    where
      go : (b : Bool) → has_memory G r ≡ b → (if b then 0 else number_at offsets (count_by (is_placed G) (range_with_len 0 r))) ≡ (if b then 0 else number_at offsets (place_of G r))
      go true has = refl
      go false has = ap (number_at offsets) (place-there r piece has).0

  pub piece_is : (offsets : List ℕ) (r : ℕ) (resource : Resource) (shape : Shape) (offset : ℕ) (sharing : Sharing) → resource ≡ resource_at G r → has_piece G r ≡ true → shape ≡ shape_at G.shapes r → offset ≡ (if resource.has_memory then 0 else number_at offsets resource.place) → sharing ≡ sharing_of G.sharings r → (let made : Piece = record { shape = shape; memory = resource.memory; offset = offset; sharing = sharing } in made) ≡ piece G offsets r
  piece_is offsets r resource shape offset sharing is has of_shape at shared =
      let memory : resource.memory ≡ memory_of G r = ap (λ (x : Resource). x.memory) is in
      let begins : offset ≡ offset_of G offsets r = at ∙ ap (λ (x : Resource). if x.has_memory then 0 else number_at offsets x.place) is ∙ offset_is offsets r has in
      ap₂ (λ (s : Shape) (k : Sharing). let made : Piece = record { shape = s; memory = resource.memory; offset = offset; sharing = k } in made) of_shape shared
      ∙ ap₂ (λ (m o : ℕ). let made : Piece = record { shape = shape_at G.shapes r; memory = m; offset = o; sharing = sharing_of G.sharings r } in made) memory begins

  pub place_within : (offsets : List ℕ) (r : ℕ) (resource : Resource) → resource ≡ resource_at G r → has_piece G r ≡ true → length offsets ≡ length (placed G) → resource.has_memory ≡ false → resource.place < length offsets
  place_within offsets r resource is has count none =
      let there = place-there r has (sym (ap (λ (x : Resource). x.has_memory) is) ∙ none) in
      let place : resource.place ≡ count_by (is_placed G) (range_with_len 0 r) = ap (λ (x : Resource). x.place) is in
      omega (arith, place, there.0, there.1, count)
