-- How many bytes all memories of a compiled program have together.
use Rattle.std.proofs.Common.{◌≡◌, ℕ, zero, suc, ◌+◌, ◌<◌, ◌≤◌, ◌&&◌, ◌||◌, not, Bool, true, false, List, [], ◌∷◌, length, map, if◌then◌else◌, refl, ap, ◌∙◌, arith}
use Rattle.std.specs.List.{filter, sum_by, range_with_len}
use Rattle.std.proofs.lemmas.Bool.{lt-leb}
use Rattle.std.proofs.lemmas.List.Sums.{sum_by-cons, sum_by-append}
use Rattle.base.specs.Shapes.{shape_at, bytes_of}
use Rattle.base.specs.declared.shape.Shape.TheVariants.{Buffer}
use Rattle.frame.specs.Valid.{IsValid, shapes_in}
use Rattle.frame.specs.Numbered.{NumberedFrame}
use Rattle.frame.specs.Units.{Unit}
use Rattle.compile_groups.specs.Commands.{readback_shape}
use Rattle.compile_groups.specs.Groups.{grouping}
use Rattle.compile_groups.specs.Needs.{is_touched}
use Rattle.compile_groups.specs.Placed.{is_import, placed, sizes, AreSmall}
use Rattle.compile_groups.specs.declared.grouping.Grouping.{Grouping}
use Rattle.compile_heap.specs.Placing.{Places, IsLeast}
use Rattle.compile_record.specs.Pieces.{resources, is_readback, has_memory, imported, own_memory, memories}
use Rattle.program.specs.Limits.{memory_bytes}
use Rattle.program.specs.declared.program.Memory.TheVariants.{Plain}
use Rattle.law_valid.proofs.Commands.{units_count, shapes_count}
use Rattle.law_valid.proofs.Heaps.{heap_few}
use Rattle.law_valid.proofs.Pieces.{imports_count, own_size}
use Rattle.law_valid.proofs.Sums.{sum_below, below_le, below_both, sum_mapped, sum_filtered, sum_range, sum_entries, sum_once}

below_split : (f : ℕ → ℕ) (m n : ℕ) → sum_below f (m + n) ≡ sum_below f m + sum_below (λ k. f (m + k)) n
below_split f m zero = let e : sum_below f (m + 0) ≡ sum_below f m = (let z : m + 0 ≡ m = omega arith in ap (sum_below f) z) in omega (arith, e)
below_split f m (suc n) = let e : sum_below f (m + suc n) ≡ sum_below f (m + n) + f (m + n) = (let z : m + suc n ≡ suc (m + n) = omega arith in ap (sum_below f) z) in omega (arith, e, below_split f m n)

from_zero : (f : ℕ → ℕ) (n : ℕ) → sum_below (λ k. f (0 + k)) n ≡ sum_below f n
from_zero f zero = refl
from_zero f (suc n) = let e : f (0 + n) ≡ f n = (let z : 0 + n ≡ n = omega arith in ap f z) in omega (arith, e, from_zero f n)

module _ (frame : NumberedFrame) (kept : List Bool) (good : IsValid frame) where
  abbrev G : Grouping
  G = grouping frame kept

  abbrev bytes : ℕ → ℕ
  bytes r = bytes_of (shape_at G.shapes r)

  -- of memories of their own, and of places in the heap
  abbrev lone : ℕ → ℕ
  lone r = if has_memory G r then bytes r else 0

  abbrev heaped : ℕ → ℕ
  heaped r = if is_touched G r && not (is_import G r) then bytes r else 0

  no_readback : (r : ℕ) → r < length G.imports → is_readback G r ≡ false
  no_readback r lt = lt-leb (length G.imports) r lt

  -- of a unit one of the two at most
  one_of_two : (r : ℕ) → r < length G.imports → lone r + heaped r ≤ bytes r
  one_of_two r lt = go (is_readback G r) (is_touched G r) (is_import G r) (no_readback r lt)
    where
      go : (b t i : Bool) → b ≡ false → (if b || (t && i) then bytes r else 0) + (if t && not i then bytes r else 0) ≤ bytes r
      go true t i e = absurd cc
      go false true true e = omega arith
      go false true false e = omega arith
      go false false i e = omega arith

  lone_few : (r : ℕ) → lone r ≤ bytes r
  lone_few r = go (has_memory G r)
    where
      go : (b : Bool) → (if b then bytes r else 0) ≤ bytes r
      go true = omega arith
      go false = omega arith

  all_bytes : sum_below bytes (length G.shapes) ≡ sum_by bytes_of (shapes_in frame) + sum_by bytes_of (map (readback_shape frame) frame.exports)
  all_bytes = sum_entries bytes_of G.shapes (Buffer 0) ∙ sum_by-append bytes_of (shapes_in frame) (map (readback_shape frame) frame.exports)

  -- each export once
  exports_few : sum_by bytes_of (map (readback_shape frame) frame.exports) ≤ sum_by bytes_of (shapes_in frame)
  exports_few = omega (
    arith,
    sum_mapped bytes_of (readback_shape frame) frame.exports,
    sum_once (λ unit. bytes_of (shape_at (shapes_in frame) unit)) (length (shapes_in frame)) frame.exports good.exports_once (λ k d lt. let c = units_count frame kept good in let w = good.exports_within k d lt in omega (arith, c, w)),
    sum_entries bytes_of (shapes_in frame) (Buffer 0),
  )

  heap_sizes : sum_by (λ size. size) (sizes G) ≡ sum_below heaped (length G.imports)
  heap_sizes =
      sum_mapped (λ size. size) (λ unit. bytes_of (shape_at (grouping frame kept).shapes unit)) (placed G)
      ∙ sum_filtered (λ unit. is_touched (grouping frame kept) unit && not (is_import (grouping frame kept) unit)) bytes (range_with_len 0 (length G.imports))
      ∙ sum_range heaped 0 (length G.imports)
      ∙ from_zero heaped (length G.imports)

  own_bytes : sum_by memory_bytes (map (λ r. own_memory G r (imported frame r)) (filter (has_memory G) (resources G))) ≡ sum_below lone (length G.shapes)
  own_bytes =
      sum_mapped memory_bytes (λ r. own_memory (grouping frame kept) r (imported frame r)) (filter (has_memory G) (resources G))
      ∙ same (filter (has_memory G) (resources G))
      ∙ sum_filtered (has_memory G) bytes (resources G)
      ∙ sum_range lone 0 (length G.shapes)
      ∙ from_zero lone (length G.shapes)
    where
      same : (rs : List ℕ) → sum_by (λ r. memory_bytes (own_memory (grouping frame kept) r (imported frame r))) rs ≡ sum_by (λ r. bytes_of (shape_at (grouping frame kept).shapes r)) rs
      same [] = refl
      same (r ∷ rs) = omega (
        arith,
        same rs,
        own_size frame kept good r,
        sum_by-cons (λ r. memory_bytes (own_memory (grouping frame kept) r (imported frame r))) r rs,
        sum_by-cons (λ r. bytes_of (shape_at (grouping frame kept).shapes r)) r rs,
      )

  module _ (ordered : ℕ → ℕ → Bool) (places : Places) (least : IsLeast (sizes G) ordered places) (small : AreSmall (sizes G)) where
    pub total : sum_by memory_bytes (memories frame G places.heap) ≤ 805306368
    total =
        let few = small.few in
        let limit = good.few_bytes in
        let imports = imports_count frame kept good in
        let shapes = shapes_count frame kept good in
        let split : length G.shapes ≡ length G.imports + length frame.exports = omega (arith, imports, shapes) in
        let lone-split : sum_below lone (length G.shapes) ≡ sum_below lone (length G.imports) + sum_below (λ k. lone (length G.imports + k)) (length frame.exports) = ap (sum_below lone) split ∙ below_split lone (length G.imports) (length frame.exports) in
        let all-split : sum_below bytes (length G.shapes) ≡ sum_below bytes (length G.imports) + sum_below (λ k. bytes (length G.imports + k)) (length frame.exports) = ap (sum_below bytes) split ∙ below_split bytes (length G.imports) (length frame.exports) in
        omega (
          arith,
          few,
          limit,
          lone-split,
          all-split,
          below_le (λ r. lone r + heaped r) bytes (length G.imports) one_of_two,
          below_both lone heaped (length G.imports),
          below_le (λ k. lone (length G.imports + k)) (λ k. bytes (length G.imports + k)) (length frame.exports) (λ k lt. lone_few (length G.imports + k)),
          all_bytes,
          exports_few,
          sum_mapped bytes_of (λ (u : Unit). u.shape) frame.units,
          heap_few (sizes G) ordered places least,
          heap_sizes,
          own_bytes,
          sum_by-cons memory_bytes (Plain places.heap) (map (λ r. own_memory G r (imported frame r)) (filter (has_memory G) (resources G))),
        )
