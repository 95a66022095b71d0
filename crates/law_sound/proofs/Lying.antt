-- Where pieces lie: two that overlap are of placed units of which one is ordered before the other.
use Rattle.std.proofs.Common.{◌≡◌, ◌≢◌, ◌⊎◌, ⊎_elim, inl, inr, ℕ, ◌+◌, ◌<◌, ◌==◌, ◌&&◌, ◌||◌, nat_lt, not, Bool, true, false, List, length, get_or, if◌then◌else◌, Some, refl, sym, ap, ◌∙◌, subst, eq-eqb, eqb-true, arith}
use Rattle.std.specs.List.{count_by, filter, range_with_len}
use Rattle.std.specs.Option.{option_map}
use Rattle.std.specs.Prelude.{slice_get}
use Rattle.std.proofs.lemmas.Bool.{and_from, and_parts, cases_lt, cases_order, false≢true, le-leb, lt-ltb, or_from, or_left, or_parts, or_right}
use Rattle.std.proofs.lemmas.List.{get_or-map}
use Rattle.std.proofs.lemmas.Option.{get_or_from_slice_get, slice_get-map}
use Rattle.base.specs.Shapes.{bytes_of, shape_at}
use Rattle.law_sound.proofs.Counting.{count_same, place_within}
use Rattle.law_sound.proofs.Grouped.{late, resource_export, resource_piece, resource_unit}
use Rattle.law_sound.proofs.Groups.{touched, unit_known}
use Rattle.law_sound.proofs.PrologueKinds.{placed_unit}
use Rattle.law_sound.specs.Plan.{group_count, resource_of, unit_of}
use Rattle.compile_groups.specs.Laws.{IsGrouped, IsKnown}
use Rattle.compile_groups.specs.Needs.{is_touched}
use Rattle.compile_groups.specs.Placed.{is_import, placed, sizes, unit_at}
use Rattle.compile_groups.specs.declared.grouping.Grouping.{Grouping}
use Rattle.compile_heap.specs.Placing.{IsLeast, Places, goes_first, number_at, overlap}
use Rattle.compile_record.specs.Pieces.{has_memory, has_piece, is_readback, memory_of, offset_of, piece, piece_of, pieces, resources}
use Rattle.compile_barriers.specs.Under.{place_of}
use Rattle.law_valid.proofs.Numbers.{counted}
use Rattle.check_access.specs.Views.{is_before_end, no_piece, pieces_overlap}

-- LEAST PLACES

module _ (sizes_of : List ℕ) (ordered : ℕ → ℕ → Bool) (places : Places) (least : IsLeast sizes_of ordered places) where
  -- two units have a byte in common
  abbrev pub Meet : ℕ → ℕ → Type 0
  Meet i j = overlap (number_at places.offsets i) (number_at sizes_of i) (number_at places.offsets j) (number_at sizes_of j) ≡ true

  pub meet_turned : (i j : ℕ) → Meet i j → Meet j i
  meet_turned i j m =
      let both = and_parts (nat_lt (number_at places.offsets i) (number_at places.offsets j + number_at sizes_of j)) (nat_lt (number_at places.offsets j) (number_at places.offsets i + number_at sizes_of i)) m in
      and_from (nat_lt (number_at places.offsets j) (number_at places.offsets i + number_at sizes_of i)) (nat_lt (number_at places.offsets i) (number_at places.offsets j + number_at sizes_of j)) both.1 both.0

  -- one of two goes first
  some_first : (i j : ℕ) → i ≢ j → (goes_first sizes_of j i ≡ true) ⊎ (goes_first sizes_of i j ≡ true)
  some_first i j differ = ⊎_elim same (⊎_elim
      (λ (l : number_at sizes_of i < number_at sizes_of j). inl (or_left (nat_lt (number_at sizes_of i) (number_at sizes_of j)) (number_at sizes_of i == number_at sizes_of j && nat_lt j i) (lt-ltb (number_at sizes_of i) (number_at sizes_of j) l)))
      (λ (l : number_at sizes_of j < number_at sizes_of i). inr (or_left (nat_lt (number_at sizes_of j) (number_at sizes_of i)) (number_at sizes_of j == number_at sizes_of i && nat_lt i j) (lt-ltb (number_at sizes_of j) (number_at sizes_of i) l))))
      (cases_order (number_at sizes_of i) (number_at sizes_of j))
    where
      same : number_at sizes_of i ≡ number_at sizes_of j → (goes_first sizes_of j i ≡ true) ⊎ (goes_first sizes_of i j ≡ true)
      same e = ⊎_elim (λ eq. absurd (differ eq)) (⊎_elim
          (λ (l : i < j). inr (or_right (nat_lt (number_at sizes_of j) (number_at sizes_of i)) (number_at sizes_of j == number_at sizes_of i && nat_lt i j) (and_from (number_at sizes_of j == number_at sizes_of i) (nat_lt i j) (eq-eqb (number_at sizes_of j) (number_at sizes_of i) (sym e)) (lt-ltb i j l))))
          (λ (l : j < i). inl (or_right (nat_lt (number_at sizes_of i) (number_at sizes_of j)) (number_at sizes_of i == number_at sizes_of j && nat_lt j i) (and_from (number_at sizes_of i == number_at sizes_of j) (nat_lt j i) (eq-eqb (number_at sizes_of i) (number_at sizes_of j) e) (lt-ltb j i l)))))
          (cases_order i j)

  -- one that goes first and meets another is ordered with it
  collide : (i j : ℕ) → i < length sizes_of → j < length sizes_of → goes_first sizes_of j i ≡ true → ordered i j ≡ false → ordered j i ≡ false → Meet i j → ⊥
  collide i j li lj first e f m = false≢true (sym ((least.each i li).free j lj first) ∙ and_from (not (ordered i j || ordered j i)) (overlap (number_at places.offsets i) (number_at sizes_of i) (number_at places.offsets j) (number_at sizes_of j)) (ap not (or_from (ordered i j) (ordered j i) e f)) m)

  pub meeting_ordered : (i j : ℕ) → i < length sizes_of → j < length sizes_of → i ≢ j → Meet i j → (ordered i j ≡ true) ⊎ (ordered j i ≡ true)
  meeting_ordered i j li lj differ m = go (ordered i j) (ordered j i) refl refl
    where
      go : (a b : Bool) → ordered i j ≡ a → ordered j i ≡ b → (ordered i j ≡ true) ⊎ (ordered j i ≡ true)
      go true b e f = inl e
      go false true e f = inr f
      go false false e f = absurd (⊎_elim (λ first. collide i j li lj first e f m) (λ first. collide j i lj li first f e (meet_turned i j m)) (some_first i j differ))

-- PIECES

module _ (G : Grouping) (offsets : List ℕ) where
  pub piece_there : (r : ℕ) → r < length G.shapes → has_piece G r ≡ true → get_or (pieces G offsets) (piece_of G r) no_piece ≡ piece G offsets r
  piece_there r lt has =
      let at : slice_get (pieces G offsets) (piece_of G r) ≡ Some (piece G offsets r) = slice_get-map (piece G offsets) (filter (has_piece G) (resources G)) (piece_of G r) ∙ ap (option_map (piece G offsets)) (counted (has_piece G) (length G.shapes) r lt has) in
      get_or_from_slice_get (pieces G offsets) (piece_of G r) (piece G offsets r) no_piece at

  -- two in one memory lie in the heap
  pub same_memory : (r s : ℕ) → memory_of G r ≡ memory_of G s → r ≢ s → (has_memory G r ≡ false) × (has_memory G s ≡ false)
  same_memory r s e differ = go (has_memory G r) (has_memory G s) refl refl
    where
      number : (x : ℕ) (b : Bool) → has_memory G x ≡ b → memory_of G x ≡ (if b then 1 + count_by (has_memory G) (range_with_len 0 x) else 0)
      number x b h = ap (λ z. if z then 1 + count_by (has_memory G) (range_with_len 0 x) else 0) h

      go : (a b : Bool) → has_memory G r ≡ a → has_memory G s ≡ b → (has_memory G r ≡ false) × (has_memory G s ≡ false)
      go false false h k = (h, k)
      go true true h k =
          let one : memory_of G r ≡ 1 + count_by (has_memory G) (range_with_len 0 r) = number r true h in
          let two : memory_of G s ≡ 1 + count_by (has_memory G) (range_with_len 0 s) = number s true k in
          let same : count_by (has_memory G) (range_with_len 0 r) ≡ count_by (has_memory G) (range_with_len 0 s) = omega (arith, one, two, e) in
          absurd (differ (count_same (has_memory G) r s h k same))
      go true false h k =
          let one : memory_of G r ≡ 1 + count_by (has_memory G) (range_with_len 0 r) = number r true h in
          let two : memory_of G s ≡ 0 = number s false k in
          absurd (omega (arith, one, two, e))
      go false true h k =
          let one : memory_of G r ≡ 0 = number r false h in
          let two : memory_of G s ≡ 1 + count_by (has_memory G) (range_with_len 0 s) = number s true k in
          absurd (omega (arith, one, two, e))

module _ (G : Grouping) (L : IsGrouped G) (K : IsKnown G) where
  -- the groups of the plan are of resources that are there
  pub resource_known : (g : ℕ) → g < group_count G → resource_of G g < length G.shapes
  resource_known g lt = ⊎_elim
      (λ unit. let e = resource_unit G L K g unit in let u = unit_known G L K g unit in let s = K.shapes in omega (arith, e, u, s))
      (λ le. let e = resource_export G L K g le lt in omega (arith, e, le, lt))
      (cases_lt g (length G.groups))

  -- a group of what lies in the heap is of a placed unit
  pub record InHeap (g : ℕ) : Type 0 where
    pub lower : g < length G.groups
    pub placed_at : place_of G (unit_of G g) < length (placed G)

  only_second : (a b : Bool) → (a && b) ≡ false → a ≡ true → b ≡ false
  only_second true b e h = e
  only_second false b e h = absurd (false≢true h)

  pub in_heap : (g : ℕ) → has_memory G (resource_of G g) ≡ false → InHeap g
  in_heap g none = record { lower = lower; placed_at = place_within (λ unit. is_touched G unit && not (is_import G unit)) (length G.imports) (unit_of G g) (unit_known G L K g lower) (and_from (is_touched G (unit_of G g)) (not (is_import G (unit_of G g))) (touched G L g lower) (ap not fresh)) }
    where
      parts : (is_readback G (resource_of G g) ≡ false) × ((is_touched G (resource_of G g) && is_import G (resource_of G g)) ≡ false)
      parts = or_parts (is_readback G (resource_of G g)) (is_touched G (resource_of G g) && is_import G (resource_of G g)) none

      lower : g < length G.groups
      lower = ⊎_elim (λ lt. lt) (λ le. absurd (false≢true (sym parts.0 ∙ le-leb (length G.imports) (resource_of G g) (late G L K g le)))) (cases_lt g (length G.groups))

      fresh : is_import G (unit_of G g) ≡ false
      fresh = only_second (is_touched G (unit_of G g)) (is_import G (unit_of G g)) (subst (λ r. (is_touched G r && is_import G r) ≡ false) (resource_unit G L K g lower) parts.1) (touched G L g lower)

  module _ (offsets : List ℕ) where
    -- its place says where it lies, and how long it is
    pub size_at : (g : ℕ) → InHeap g → number_at (sizes G) (place_of G (unit_of G g)) ≡ bytes_of (shape_at G.shapes (resource_of G g))
    size_at g H =
        get_or-map (λ unit. bytes_of (shape_at G.shapes unit)) (placed G) (place_of G (unit_of G g)) 0 0 H.placed_at
        ∙ ap (λ u. bytes_of (shape_at G.shapes u)) (placed_unit G (unit_of G g) H.placed_at ∙ sym (resource_unit G L K g H.lower))

    pub offset_at : (g : ℕ) → InHeap g → has_memory G (resource_of G g) ≡ false → offset_of G offsets (resource_of G g) ≡ number_at offsets (place_of G (unit_of G g))
    offset_at g H none = ap (λ b. if b then 0 else number_at offsets (place_of G (resource_of G g))) none ∙ ap (λ r. number_at offsets (place_of G r)) (resource_unit G L K g H.lower)

-- two groups whose pieces overlap
pub record AreMeeting (G : Grouping) (L : IsGrouped G) (K : IsKnown G) (places : Places) (g h : ℕ) : Type 0 where
  pub one : InHeap G L K g
  pub two : InHeap G L K h
  pub apart : place_of G (unit_of G g) ≢ place_of G (unit_of G h)
  pub meet : overlap (number_at places.offsets (place_of G (unit_of G g))) (number_at (sizes G) (place_of G (unit_of G g))) (number_at places.offsets (place_of G (unit_of G h))) (number_at (sizes G) (place_of G (unit_of G h))) ≡ true

module _ (G : Grouping) (L : IsGrouped G) (K : IsKnown G) (places : Places) where
  pub are_meeting : (g h : ℕ) → g < group_count G → h < group_count G → piece_of G (resource_of G g) ≢ piece_of G (resource_of G h) → pieces_overlap (get_or (pieces G places.offsets) (piece_of G (resource_of G g)) no_piece) (get_or (pieces G places.offsets) (piece_of G (resource_of G h)) no_piece) ≡ true → AreMeeting G L K places g h
  are_meeting g h lg lh differ o = record { one = one; two = two; apart = apart; meet = meet }
    where
      over : pieces_overlap (piece G places.offsets (resource_of G g)) (piece G places.offsets (resource_of G h)) ≡ true
      over =
          subst (λ p. pieces_overlap (piece G places.offsets (resource_of G g)) p ≡ true) (piece_there G places.offsets (resource_of G h) (resource_known G L K h lh) (resource_piece G L K h))
          (subst (λ p. pieces_overlap p (get_or (pieces G places.offsets) (piece_of G (resource_of G h)) no_piece) ≡ true) (piece_there G places.offsets (resource_of G g) (resource_known G L K g lg) (resource_piece G L K g)) o)

      parts : ((memory_of G (resource_of G g) == memory_of G (resource_of G h)) ≡ true) × ((is_before_end (piece G places.offsets (resource_of G g)) (piece G places.offsets (resource_of G h)) && is_before_end (piece G places.offsets (resource_of G h)) (piece G places.offsets (resource_of G g))) ≡ true)
      parts = and_parts (memory_of G (resource_of G g) == memory_of G (resource_of G h)) (is_before_end (piece G places.offsets (resource_of G g)) (piece G places.offsets (resource_of G h)) && is_before_end (piece G places.offsets (resource_of G h)) (piece G places.offsets (resource_of G g))) over

      memories : (has_memory G (resource_of G g) ≡ false) × (has_memory G (resource_of G h) ≡ false)
      memories = same_memory G places.offsets (resource_of G g) (resource_of G h) (eqb-true (memory_of G (resource_of G g)) (memory_of G (resource_of G h)) parts.0) (λ e. differ (ap (piece_of G) e))

      one : InHeap G L K g
      one = in_heap G L K g memories.0

      two : InHeap G L K h
      two = in_heap G L K h memories.1

      apart : place_of G (unit_of G g) ≢ place_of G (unit_of G h)
      apart e =
          let units : unit_of G g ≡ unit_of G h = sym (placed_unit G (unit_of G g) one.placed_at) ∙ ap (unit_at G) e ∙ placed_unit G (unit_of G h) two.placed_at in
          differ (ap (piece_of G) (resource_unit G L K g one.lower ∙ units ∙ sym (resource_unit G L K h two.lower)))

      meet : overlap (number_at places.offsets (place_of G (unit_of G g))) (number_at (sizes G) (place_of G (unit_of G g))) (number_at places.offsets (place_of G (unit_of G h))) (number_at (sizes G) (place_of G (unit_of G h))) ≡ true
      meet =
          ap (λ x. overlap x (number_at (sizes G) (place_of G (unit_of G g))) (number_at places.offsets (place_of G (unit_of G h))) (number_at (sizes G) (place_of G (unit_of G h)))) (sym (offset_at G L K places.offsets g one memories.0))
          ∙ ap (λ x. overlap (offset_of G places.offsets (resource_of G g)) x (number_at places.offsets (place_of G (unit_of G h))) (number_at (sizes G) (place_of G (unit_of G h)))) (size_at G L K places.offsets g one)
          ∙ ap (λ x. overlap (offset_of G places.offsets (resource_of G g)) (bytes_of (shape_at G.shapes (resource_of G g))) x (number_at (sizes G) (place_of G (unit_of G h)))) (sym (offset_at G L K places.offsets h two memories.1))
          ∙ ap (λ x. overlap (offset_of G places.offsets (resource_of G g)) (bytes_of (shape_at G.shapes (resource_of G g))) (offset_of G places.offsets (resource_of G h)) x) (size_at G L K places.offsets h two)
          ∙ parts.1
