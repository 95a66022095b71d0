-- What a compiled program carries of its frame.
use Rattle.std.proofs.Common.{◌≡◌, ℕ, zero, suc, ◌+◌, ◌<◌, ◌≤◌, ◌&&◌, ◌||◌, if◌then◌else◌, Bool, true, false, List, [], ◌∷◌, ◌++◌, length, map, get_or, Option, Some, None, refl, sym, ap, ap₂, ◌∙◌, subst, append_assoc, arith}
use Rattle.std.specs.List.{All, count_by, filter, range_with_len}
use Rattle.std.specs.Prelude.{slice_get, slice_index_or, is_some, option_and_then, unwrap_or}
use Rattle.std.proofs.lemmas.Bool.{lt-leb, le-leb, and_parts, false≢true}
use Rattle.std.proofs.lemmas.List.{length-append, length-map, map-append, get_or_append_left, get_or_past}
use Rattle.std.proofs.Math.Seq.{get_or-append_seam}
use Rattle.std.proofs.lemmas.List.Elements.{All-head, All-tail, All-cons, All-nil, filter-append, All-filter, filter_passes}
use Rattle.std.proofs.lemmas.List.FromFn.{length-range_with_len}
use Rattle.std.proofs.lemmas.List.Sums.{sum_by-cons, length-filter}
use Rattle.base.proofs.Lists.{map_same}
use Rattle.base.specs.Shapes.{shape_at, bytes_of}
use Rattle.base.specs.declared.shape.Shape.{Shape}
use Rattle.base.specs.declared.shape.Shape.TheVariants.{Buffer}
use Rattle.vk.specs.declared.sharing.Sharing.{Sharing}
use Rattle.vk.specs.declared.sharing.Sharing.TheVariants.{Exclusive}
use Rattle.compile_barriers.specs.Under.{place_of}
use Rattle.compile_groups.proofs.Lists.{filter_same}
use Rattle.compile_groups.specs.Commands.{readback_shape}
use Rattle.compile_groups.specs.Groups.{grouping, sharing_of}
use Rattle.compile_groups.specs.Laws.{IsKnown}
use Rattle.compile_groups.specs.Needs.{is_touched}
use Rattle.compile_groups.specs.Placed.{is_import}
use Rattle.compile_groups.specs.declared.grouping.Grouping.{Grouping}
use Rattle.compile_heap.specs.Placing.{Places, number_at}
use Rattle.compile_record.specs.Pieces.{resources, is_readback, has_piece, has_memory, piece_of, piece, pieces, imported, own_memory, memories, readbacks}
use Rattle.compile_record.specs.Recorded.{heap_with, IsCompiled}
use Rattle.compile_record.specs.declared.compiled.Compiled.{Compiled}
use Rattle.compile_timeline.specs.Laws.{AreOfFamilies}
use Rattle.compile_timeline.specs.Places.{places as all_places, entry_of}
use Rattle.frame.specs.Numbered.{NumberedFrame}
use Rattle.frame.specs.Units.{Unit}
use Rattle.frame.specs.Valid.{IsValid, shapes_in}
use Rattle.law_record.proofs.Commanding.{all_commands}
use Rattle.law_record.proofs.Compiled.{list, queues_are}
use Rattle.law_record.specs.Carried.{touched, touched_imports, import_memory, unit_piece, readback_pieces, import_bytes, AreCarried}
use Rattle.program.specs.Entries.{OfHost, entries_of}
use Rattle.program.specs.declared.program.Memory.TheVariants.{Plain, Import}
use Rattle.program.specs.declared.program.Piece.{Piece}
use Rattle.program.specs.declared.program.Program.{Program}

-- RANGES

range_split : (a n m : ℕ) → range_with_len a (n + m) ≡ range_with_len a n ++ range_with_len (a + n) m
range_split a zero m = let z : a ≡ a + 0 = omega arith in let y : 0 + m ≡ m = omega arith in ap (range_with_len a) y ∙ ap (λ b. range_with_len b m) z
range_split a (suc n) m =
    let s : suc n + m ≡ suc (n + m) = omega arith in
    let t : a + 1 + n ≡ a + suc n = omega arith in
    ap (range_with_len a) s ∙ ap (λ l. a ∷ l) (range_split (a + 1) n m ∙ ap (λ b. range_with_len (a + 1) n ++ range_with_len b m) t)

all_range : (P : ℕ → Type 0) (a n : ℕ) → ((k : ℕ) → a ≤ k → k < a + n → P k) → All P (range_with_len a n)
all_range P a zero h = All-nil P
all_range P a (suc n) h = All-cons P a (range_with_len (a + 1) n) (h a (omega arith) (omega arith)) (all_range P (a + 1) n (λ k low high. h k (omega (arith, low)) (omega (arith, high))))

filter_all : (p : ℕ → Bool) (xs : List ℕ) → All (λ x. p x ≡ true) xs → filter p xs ≡ xs
filter_all p [] h = refl
filter_all p (x ∷ xs) h = ap₂ (λ b ys. if b then x ∷ ys else ys) (All-head (λ y. p y ≡ true) x xs h) (filter_all p xs (All-tail (λ y. p y ≡ true) x xs h))

filter_none : (p : ℕ → Bool) (xs : List ℕ) → All (λ x. p x ≡ false) xs → filter p xs ≡ []
filter_none p [] h = refl
filter_none p (x ∷ xs) h = ap₂ (λ b ys. if b then x ∷ ys else ys) (All-head (λ y. p y ≡ false) x xs h) (filter_none p xs (All-tail (λ y. p y ≡ false) x xs h))

-- a test of numbers below n and another one of all that follow
split_filter : (p q : ℕ → Bool) (n m : ℕ) → ((k : ℕ) → k < n → p k ≡ q k) → ((k : ℕ) → n ≤ k → p k ≡ true) → filter p (range_with_len 0 (n + m)) ≡ filter q (range_with_len 0 n) ++ range_with_len n m
split_filter p q n m low high =
    let z : 0 + n ≡ n = omega arith in
    ap (filter p) (range_split 0 n m ∙ ap (λ b. range_with_len 0 n ++ range_with_len b m) z)
    ∙ filter-append p (range_with_len 0 n) (range_with_len n m)
    ∙ ap₂ (λ a b. a ++ b) (filter_same p q (range_with_len 0 n) (all_range (λ k. p k ≡ q k) 0 n (λ k le lt. low k (omega (arith, lt))))) (filter_all p (range_with_len n m) (all_range (λ k. p k ≡ true) n m (λ k le lt. high k le)))

count_same : (p q : ℕ → Bool) (n : ℕ) → ((k : ℕ) → k < n → p k ≡ q k) → count_by p (range_with_len 0 n) ≡ count_by q (range_with_len 0 n)
count_same p q n same = sym (length-filter p (range_with_len 0 n)) ∙ ap length (filter_same p q (range_with_len 0 n) (all_range (λ k. p k ≡ q k) 0 n (λ k le lt. same k (omega (arith, lt))))) ∙ length-filter q (range_with_len 0 n)

-- how many pass below number n + k, where all from n on do
split_count : (p q : ℕ → Bool) (n k : ℕ) → ((j : ℕ) → j < n → p j ≡ q j) → ((j : ℕ) → n ≤ j → p j ≡ true) → count_by p (range_with_len 0 (n + k)) ≡ length (filter q (range_with_len 0 n)) + k
split_count p q n k low high =
    let a = sym (length-filter p (range_with_len 0 (n + k))) ∙ ap length (split_filter p q n k low high) in
    let b = length-append (filter q (range_with_len 0 n)) (range_with_len n k) in
    let c = length-range_with_len n k in
    omega (arith, a, b, c)

map_range : (f : ℕ → ℕ) (n t m : ℕ) → ((k : ℕ) → k < m → f (n + k) ≡ t + k) → map f (range_with_len n m) ≡ range_with_len t m
map_range f n t zero h = refl
map_range f n t (suc m) h =
    let z : n ≡ n + 0 = omega arith in
    let y : t + 0 ≡ t = omega arith in
    ap₂ (λ a b. a ∷ b) (ap f z ∙ h 0 (omega arith) ∙ y) (map_range f (n + 1) (t + 1) m (λ k lt. let s : n + 1 + k ≡ n + suc k = omega arith in let u : t + suc k ≡ t + 1 + k = omega arith in ap f s ∙ h (suc k) (omega (arith, lt)) ∙ u))

-- the number that passes stands behind those that pass before it
counted : (p : ℕ → Bool) (a n k : ℕ) → k < n → p (a + k) ≡ true → slice_get (filter p (range_with_len a n)) (count_by p (range_with_len a k)) ≡ Some (a + k)
counted p a zero k lt e = absurd (omega (arith, lt))
counted p a (suc n) zero lt e =
    let z : a + 0 ≡ a = omega arith in
    let here : p a ≡ true = subst (λ x. p x ≡ true) z e in
    ap (λ b. slice_get (if b then a ∷ filter p (range_with_len (a + 1) n) else filter p (range_with_len (a + 1) n)) 0) here ∙ ap (λ x. Some x) (sym z)
counted p a (suc n) (suc k) lt e =
    let next : a + suc k ≡ a + 1 + k = omega arith in
    go (counted p (a + 1) n k (omega (arith, lt)) (subst (λ x. p x ≡ true) next e) ∙ ap (λ x. Some x) (sym next)) (p a) refl
  where
    hit : ℕ → ℕ
    hit x = if p x then 1 else 0

    go : slice_get (filter p (range_with_len (a + 1) n)) (count_by p (range_with_len (a + 1) k)) ≡ Some (a + suc k) → (b : Bool) → p a ≡ b → slice_get (if b then a ∷ filter p (range_with_len (a + 1) n) else filter p (range_with_len (a + 1) n)) (count_by p (range_with_len a (suc k))) ≡ Some (a + suc k)
    go rest true h =
        let one : hit a ≡ 1 = ap (λ b. if b then 1 else 0) h in
        let cons = sum_by-cons hit a (range_with_len (a + 1) k) in
        let number : count_by p (range_with_len a (suc k)) ≡ suc (count_by p (range_with_len (a + 1) k)) = omega (arith, one, cons) in
        ap (slice_get (a ∷ filter p (range_with_len (a + 1) n))) number ∙ rest
    go rest false h =
        let none : hit a ≡ 0 = ap (λ b. if b then 1 else 0) h in
        let cons = sum_by-cons hit a (range_with_len (a + 1) k) in
        let number : count_by p (range_with_len a (suc k)) ≡ count_by p (range_with_len (a + 1) k) = omega (arith, none, cons) in
        ap (slice_get (filter p (range_with_len (a + 1) n))) number ∙ rest

-- THE RESOURCES OF A FRAME

module _ (frame : NumberedFrame) (kept : List Bool) (places : Places) where
  abbrev G : Grouping
  G = grouping frame kept

  abbrev n : ℕ
  n = length frame.units

  abbrev e : ℕ
  e = length frame.exports

  imports_count : length (grouping frame kept).imports ≡ length frame.units
  imports_count = length-map frame.units (λ u. is_some u.imported)

  shapes_count : length (shapes_in frame) ≡ length frame.units
  shapes_count = length-map frame.units (λ u. u.shape)

  all_count : length (grouping frame kept).shapes ≡ length frame.units + length frame.exports
  all_count =
      let a = length-append (shapes_in frame) (map (readback_shape frame) frame.exports) in
      let b = length-map frame.exports (readback_shape frame) in
      omega (arith, a, b, shapes_count)

  all_resources : resources (grouping frame kept) ≡ range_with_len 0 (length frame.units + length frame.exports)
  all_resources = ap (range_with_len 0) all_count

  no_readback : (k : ℕ) → k < length frame.units → is_readback (grouping frame kept) k ≡ false
  no_readback k lt = lt-leb (length G.imports) k (omega (arith, lt, imports_count))

  a_readback : (k : ℕ) → length frame.units ≤ k → is_readback (grouping frame kept) k ≡ true
  a_readback k le = le-leb (length G.imports) k (omega (arith, le, imports_count))

  unit_has_piece : (k : ℕ) → k < length frame.units → has_piece (grouping frame kept) k ≡ is_touched (grouping frame kept) k
  unit_has_piece k lt = ap (λ b. b || is_touched G k) (no_readback k lt)

  copy_has_piece : (k : ℕ) → length frame.units ≤ k → has_piece (grouping frame kept) k ≡ true
  copy_has_piece k le = ap (λ b. b || is_touched G k) (a_readback k le)

  unit_has_memory : (k : ℕ) → k < length frame.units → has_memory (grouping frame kept) k ≡ (is_touched (grouping frame kept) k && is_import (grouping frame kept) k)
  unit_has_memory k lt = ap (λ b. b || (is_touched G k && is_import G k)) (no_readback k lt)

  copy_has_memory : (k : ℕ) → length frame.units ≤ k → has_memory (grouping frame kept) k ≡ true
  copy_has_memory k le = ap (λ b. b || (is_touched G k && is_import G k)) (a_readback k le)

  -- NUMBERS

  numbers : (unit : ℕ) → unit < length frame.units → is_touched (grouping frame kept) unit ≡ true → slice_get (touched frame (grouping frame kept)) (piece_of (grouping frame kept) unit) ≡ Some unit
  numbers unit lt t =
      let z : 0 + unit ≡ unit = omega arith in
      ap (slice_get (touched frame G)) (count_same (has_piece G) (is_touched G) unit (λ k low. unit_has_piece k (omega (arith, low, lt))))
      ∙ counted (is_touched G) 0 (length frame.units) unit lt (subst (λ x. is_touched G x ≡ true) (sym z) t)
      ∙ ap (λ x. Some x) z

  copies : (k : ℕ) → piece_of (grouping frame kept) (length frame.units + k) ≡ length (touched frame (grouping frame kept)) + k
  copies k = split_count (has_piece G) (is_touched G) (length frame.units) k unit_has_piece copy_has_piece

  -- READ-BACKS

  readbacks_are : readbacks (grouping frame kept) ≡ range_with_len (length (touched frame (grouping frame kept))) (length frame.exports)
  readbacks_are =
      ap (map (piece_of G)) (ap (filter (is_readback G)) all_resources ∙ split_filter (is_readback G) (λ k. false) (length frame.units) (length frame.exports) no_readback a_readback ∙ ap (λ l. l ++ range_with_len (length frame.units) (length frame.exports)) (filter_none (λ k. false) (range_with_len 0 (length frame.units)) (all_range (λ k. false ≡ false) 0 (length frame.units) (λ k low high. refl))))
      ∙ map_range (piece_of G) (length frame.units) (length (touched frame G)) (length frame.exports) (λ k lt. copies k)

  -- PIECES OF UNITS

  abbrev made_piece : Shape → Bool → ℕ → Sharing → ℕ → Piece
  made_piece shape own memory sharing offset = record { shape = shape; memory = if own then memory else 0; offset = if own then 0 else offset; sharing = sharing }

  unit_shape : (k : ℕ) → k < length frame.units → shape_at (grouping frame kept).shapes k ≡ shape_at (shapes_in frame) k
  unit_shape k lt = get_or_append_left (shapes_in frame) (map (readback_shape frame) frame.exports) (Buffer 0) k (omega (arith, lt, shapes_count))

  unit_is : (k : ℕ) → k < length frame.units → is_touched (grouping frame kept) k ≡ true → piece (grouping frame kept) places.offsets k ≡ unit_piece frame (grouping frame kept) places k
  unit_is k lt t =
      let own : has_memory G k ≡ is_import G k = unit_has_memory k lt ∙ ap (λ b. b && is_import G k) t in
      let counts = count_same (has_memory G) (λ u. is_touched G u && is_import G u) k (λ j low. unit_has_memory j (omega (arith, low, lt))) in
      let memory : 1 + count_by (has_memory G) (range_with_len 0 k) ≡ import_memory G k = omega (arith, counts) in
      ap₂ (λ s b. made_piece s b (1 + count_by (has_memory G) (range_with_len 0 k)) (sharing_of G.sharings k) (number_at places.offsets (place_of G k))) (unit_shape k lt) own
      ∙ ap (λ m. made_piece (shape_at (shapes_in frame) k) (is_import G k) m (sharing_of G.sharings k) (number_at places.offsets (place_of G k))) memory

  units_are : map (piece (grouping frame kept) places.offsets) (touched frame (grouping frame kept)) ≡ map (unit_piece frame (grouping frame kept) places) (touched frame (grouping frame kept))
  units_are = map_same (piece G places.offsets) (unit_piece frame G places) (touched frame G) each
    where
      among : All (λ k. is_touched G k ≡ true → piece G places.offsets k ≡ unit_piece frame G places k) (range_with_len 0 (length frame.units))
      among = all_range (λ k. is_touched G k ≡ true → piece G places.offsets k ≡ unit_piece frame G places k) 0 (length frame.units) (λ k low high. unit_is k (omega (arith, high)))

      each : All (λ k. piece G places.offsets k ≡ unit_piece frame G places k) (touched frame G)
      each k d lt = All-filter (is_touched G) (λ k. is_touched G k ≡ true → piece G places.offsets k ≡ unit_piece frame G places k) (range_with_len 0 (length frame.units)) among k d lt (filter_passes (is_touched G) (range_with_len 0 (length frame.units)) k d lt)

  -- PIECES OF READ-BACKS

  copy_shape : (before : List ℕ) (unit : ℕ) (after : List ℕ) → before ++ unit ∷ after ≡ frame.exports → shape_at (grouping frame kept).shapes (length frame.units + length before) ≡ readback_shape frame unit
  copy_shape before unit after split =
      let R = readback_shape frame in
      let front : List Shape = shapes_in frame ++ map (readback_shape frame) before in
      let a = length-append (shapes_in frame) (map (readback_shape frame) before) in
      let b = length-map before (readback_shape frame) in
      let number : length frame.units + length before ≡ length (shapes_in frame ++ map (readback_shape frame) before) = omega (arith, a, b, shapes_count) in
      ap₂ (λ l i. shape_at l i)
      (ap (λ l. shapes_in frame ++ map (readback_shape frame) l) (sym split) ∙ ap (λ l. shapes_in frame ++ l) (map-append (readback_shape frame) before (unit ∷ after)) ∙ sym (append_assoc (shapes_in frame) (map (readback_shape frame) before) (map (readback_shape frame) (unit ∷ after))))
      number
      ∙ get_or-append_seam (shapes_in frame ++ map (readback_shape frame) before) (readback_shape frame unit) (map (readback_shape frame) after) (Buffer 0)

  copy_memory : (k : ℕ) → 1 + count_by (has_memory (grouping frame kept)) (range_with_len 0 (length frame.units + k)) ≡ suc (length (touched_imports frame (grouping frame kept))) + k
  copy_memory k = let c = split_count (has_memory G) (λ u. is_touched G u && is_import G u) (length frame.units) k unit_has_memory copy_has_memory in omega (arith, c)

  copy_sharing : (k : ℕ) → sharing_of (grouping frame kept).sharings (length frame.units + k) ≡ Exclusive
  copy_sharing k = let c = length-map frame.units (λ u. u.sharing) in get_or_past G.sharings (length frame.units + k) Exclusive (omega (arith, c))

  copy_is : (before : List ℕ) (unit : ℕ) (after : List ℕ) (m : ℕ) → before ++ unit ∷ after ≡ frame.exports → m ≡ suc (length (touched_imports frame (grouping frame kept))) + length before → piece (grouping frame kept) places.offsets (length frame.units + length before) ≡ (let made : Piece = record { shape = readback_shape frame unit; memory = m; offset = 0; sharing = Exclusive } in made)
  copy_is before unit after m split number =
      let k : ℕ = length frame.units + length before in
      let own : has_memory G (length frame.units + length before) ≡ true = copy_has_memory (length frame.units + length before) (omega arith) in
      ap₂ (λ s b. made_piece s b (1 + count_by (has_memory G) (range_with_len 0 (length frame.units + length before))) (sharing_of G.sharings (length frame.units + length before)) (number_at places.offsets (place_of G (length frame.units + length before)))) (copy_shape before unit after split) own
      ∙ ap₂ (λ m' s. made_piece (readback_shape frame unit) true m' s 0) (copy_memory (length before) ∙ sym number) (copy_sharing (length before))

  copies_from : (before units : List ℕ) (m : ℕ) → before ++ units ≡ frame.exports → m ≡ suc (length (touched_imports frame (grouping frame kept))) + length before → map (piece (grouping frame kept) places.offsets) (range_with_len (length frame.units + length before) (length units)) ≡ readback_pieces frame m units
  copies_from before [] m split number = refl
  copies_from before (unit ∷ units) m split number =
      let l = length-append before (unit ∷ []) in
      let next : length frame.units + length before + 1 ≡ length frame.units + length (before ++ unit ∷ []) = omega (arith, l) in
      ap₂ (λ a b. a ∷ b) (copy_is before unit units m split number)
      (ap (λ a. map (piece G places.offsets) (range_with_len a (length units))) next
      ∙ copies_from (before ++ unit ∷ []) units (suc m) (append_assoc before (unit ∷ []) units ∙ split) (omega (arith, number, l)))

  pieces_are : pieces (grouping frame kept) places.offsets ≡ map (unit_piece frame (grouping frame kept) places) (touched frame (grouping frame kept)) ++ readback_pieces frame (suc (length (touched_imports frame (grouping frame kept)))) frame.exports
  pieces_are =
      let z : length frame.units ≡ length frame.units + 0 = omega arith in
      ap (map (piece G places.offsets)) (ap (filter (has_piece G)) all_resources ∙ split_filter (has_piece G) (is_touched G) (length frame.units) (length frame.exports) unit_has_piece copy_has_piece)
      ∙ map-append (piece G places.offsets) (touched frame G) (range_with_len (length frame.units) (length frame.exports))
      ∙ ap₂ (λ a b. a ++ b) units_are (ap (λ a. map (piece G places.offsets) (range_with_len a (length frame.exports))) z ∙ copies_from [] frame.exports (suc (length (touched_imports frame G))) refl (omega arith))

  -- MEMORIES

  import_is : (k : ℕ) → is_import (grouping frame kept) k ≡ true → own_memory (grouping frame kept) k (imported frame k) ≡ Import (import_bytes frame k)
  import_is k t = go (imported frame k) (sym (some_import frame.units k) ∙ t)
    where
      -- an import has bytes
      some_import : (units : List Unit) (i : ℕ) → slice_index_or (map (λ (u : Unit). is_some u.imported) units) i false ≡ is_some (option_and_then (λ (u : Unit). u.imported) (slice_get units i))
      some_import [] i = refl
      some_import (u ∷ units) zero = refl
      some_import (u ∷ units) (suc i) = some_import units i

      go : (bytes : Option (List ℕ)) → is_some bytes ≡ true → own_memory G k bytes ≡ Import (unwrap_or bytes [])
      go None h = absurd (false≢true h)
      go (Some bytes) h = refl

  no_import : (k : ℕ) → imported frame (length frame.units + k) ≡ None
  no_import k = past frame.units (length frame.units + k) (omega arith)
    where
      past : (units : List Unit) (i : ℕ) → length units ≤ i → option_and_then (λ (u : Unit). u.imported) (slice_get units i) ≡ None
      past [] i le = refl
      past (u ∷ units) zero le = absurd (omega (arith, le))
      past (u ∷ units) (suc i) le = past units i (omega (arith, le))

  copy_memory_is : (before : List ℕ) (unit : ℕ) (after : List ℕ) → before ++ unit ∷ after ≡ frame.exports → own_memory (grouping frame kept) (length frame.units + length before) (imported frame (length frame.units + length before)) ≡ Plain (bytes_of (readback_shape frame unit))
  copy_memory_is before unit after split =
      ap (own_memory G (length frame.units + length before)) (no_import (length before))
      ∙ ap (λ s. Plain (bytes_of s)) (copy_shape before unit after split)

  memories_from : (before units : List ℕ) → before ++ units ≡ frame.exports → map (λ r. own_memory (grouping frame kept) r (imported frame r)) (range_with_len (length frame.units + length before) (length units)) ≡ map (λ unit. Plain (bytes_of (readback_shape frame unit))) units
  memories_from before [] split = refl
  memories_from before (unit ∷ units) split =
      let l = length-append before (unit ∷ []) in
      let next : length frame.units + length before + 1 ≡ length frame.units + length (before ++ unit ∷ []) = omega (arith, l) in
      ap₂ (λ a b. a ∷ b) (copy_memory_is before unit units split)
      (ap (λ a. map (λ r. own_memory G r (imported frame r)) (range_with_len a (length units))) next
      ∙ memories_from (before ++ unit ∷ []) units (append_assoc before (unit ∷ []) units ∙ split))

  imports_are : map (λ r. own_memory (grouping frame kept) r (imported frame r)) (touched_imports frame (grouping frame kept)) ≡ map (λ unit. Import (import_bytes frame unit)) (touched_imports frame (grouping frame kept))
  imports_are = map_same (λ r. own_memory G r (imported frame r)) (λ unit. Import (import_bytes frame unit)) (touched_imports frame G) each
    where
      each : All (λ r. own_memory G r (imported frame r) ≡ Import (import_bytes frame r)) (touched_imports frame G)
      each k d lt = import_is (get_or (touched_imports frame G) k d) (and_parts (is_touched G (get_or (touched_imports frame G) k d)) (is_import G (get_or (touched_imports frame G) k d)) (filter_passes (λ u. is_touched G u && is_import G u) (range_with_len 0 (length frame.units)) k d lt)).1

  memories_are : memories frame (grouping frame kept) places.heap ≡ Plain places.heap ∷ map (λ unit. Import (import_bytes frame unit)) (touched_imports frame (grouping frame kept)) ++ map (λ unit. Plain (bytes_of (readback_shape frame unit))) frame.exports
  memories_are =
      let z : length frame.units ≡ length frame.units + 0 = omega arith in
      ap (λ l. Plain places.heap ∷ l)
      (ap (map (λ r. own_memory G r (imported frame r))) (ap (filter (has_memory G)) all_resources ∙ split_filter (has_memory G) (λ u. is_touched G u && is_import G u) (length frame.units) (length frame.exports) unit_has_memory copy_has_memory)
      ∙ map-append (λ r. own_memory G r (imported frame r)) (touched_imports frame G) (range_with_len (length frame.units) (length frame.exports))
      ∙ ap₂ (λ a b. a ++ b) imports_are (ap (λ a. map (λ r. own_memory G r (imported frame r)) (range_with_len a (length frame.exports))) z ∙ memories_from [] frame.exports refl))

pub carries : (frame : NumberedFrame) (made : Compiled Program) → IsValid frame → (C : IsCompiled frame made) → IsKnown (grouping frame made.kept) → AreOfFamilies (list frame made C) (grouping frame made.kept).families → entries_of made.program ≡ map entry_of (all_places (list frame made C) (length (grouping frame made.kept).families)) ++ map OfHost made.program.readbacks → AreCarried frame made
carries frame made good C known families E =
    let G = grouping frame made.kept in
    record {
      families = ap (map (λ queue. queue.family)) (queues_are frame made C) ∙ families.each;
      commands = λ q. all_commands (grouping frame made.kept) (heap_with C.ordered made.placement) made.program (length frame.queues) q known.queues E;
      numbers = numbers frame made.kept made.placement;
      copies = λ k lt. copies frame made.kept made.placement k;
      pieces = ap (λ (p : Program). p.pieces) C.recorded ∙ pieces_are frame made.kept made.placement;
      memories = ap (λ (p : Program). p.memories) C.recorded ∙ memories_are frame made.kept made.placement;
      readbacks = ap (λ (p : Program). p.readbacks) C.recorded ∙ readbacks_are frame made.kept made.placement;
    }
