-- Operations on the units of one frame among the units of others.
use Rattle.std.proofs.Common.{◌≡◌, ℕ, ◌+◌, ◌-◌, ◌<◌, ◌++◌, List, [], ◌∷◌, length, map, get_or, slice_set, refl, sym, ap, ap₂, ◌∙◌, subst, arith}
use Rattle.std.specs.List.{All}
use Rattle.std.proofs.lemmas.List.{get_or-append-add, get_or_append_left, set-append_right, set-append_left, length-append, length-set}
use Rattle.std.proofs.lemmas.List.Elements.{All-head, All-tail}
use Rattle.base.specs.Applied.{applied, bytes_at, after_op, effect}
use Rattle.base.specs.Operands.{sources_of, destination_of, operands_of, mapped}
use Rattle.base.specs.Shapes.{shape_at}
use Rattle.base.specs.declared.op.Op.{Op}
use Rattle.base.specs.declared.shape.Shape.{Shape}
use Rattle.base.specs.declared.shape.Shape.TheVariants.{Buffer}
use Rattle.frame.specs.declared.numbered.NumberedPass.{NumberedPass}
use Rattle.frame_meaning.specs.Meaning.{after_ops, after_passes}
use Rattle.base.proofs.Operands.{sources_mapped, destination_mapped, mapped_twice, mapped_same}
use Rattle.law_window.specs.Moved.{moved}

-- A LIST AMONG OTHERS

pub at_middle : {X : Type 0} (before middle after : List X) (x : ℕ) (d : X) → x < length middle → get_or (before ++ (middle ++ after)) (length before + x) d ≡ get_or middle x d
at_middle before middle after x d lt = get_or-append-add before (middle ++ after) x d ∙ get_or_append_left middle after d x lt

pub set_after : {X : Type 0} (before rest : List X) (x : ℕ) (v : X) → slice_set (before ++ rest) (length before + x) v ≡ before ++ slice_set rest x v
set_after before rest x v = set-append_right before rest (length before) (length before + x) v refl (omega arith) ∙ ap (λ k. before ++ slice_set rest k v) (let e : (length before + x) - length before ≡ x = omega arith in e)

pub set_middle : {X : Type 0} (before middle after : List X) (x : ℕ) (v : X) → x < length middle → slice_set (before ++ (middle ++ after)) (length before + x) v ≡ before ++ (slice_set middle x v ++ after)
set_middle before middle after x v lt = set_after before (middle ++ after) x v ∙ ap (λ ys. before ++ ys) (set-append_left middle after x v lt)

map_mapped : {X Y Z : Type 0} (g : Y → Z) (f : X → Y) (h : X → Z) (xs : List X) → All (λ x. g (f x) ≡ h x) xs → map g (map f xs) ≡ map h xs
map_mapped g f h [] all = refl
map_mapped g f h (x ∷ xs) all = ap₂ (λ y ys. y ∷ ys) (All-head (λ x. g (f x) ≡ h x) x xs all) (map_mapped g f h xs (All-tail (λ x. g (f x) ≡ h x) x xs all))

-- what holds of all operands
pub at_destination : (P : ℕ → Type 0) (op : Op ℕ) → All P (operands_of op) → P (destination_of op)
at_destination P op all = subst P (get_or-append-add (sources_of op) (destination_of op ∷ []) 0 (destination_of op)) (all (length (sources_of op) + 0) (destination_of op) (let e : length (operands_of op) ≡ length (sources_of op) + 1 = length-append (sources_of op) (destination_of op ∷ []) in omega (arith, e)))

pub at_sources : (P : ℕ → Type 0) (op : Op ℕ) → All P (operands_of op) → All P (sources_of op)
at_sources P op all = λ k d lt. subst P (get_or_append_left (sources_of op) (destination_of op ∷ []) d k lt) (all k d (let e : length (operands_of op) ≡ length (sources_of op) + 1 = length-append (sources_of op) (destination_of op ∷ []) in omega (arith, e)))

-- ONE OPERATION, ONE PASS, ALL PASSES

module _ (shapes-before shapes shapes-after : List Shape) (before after : List (List ℕ)) (same : length shapes-before ≡ length before) where
  abbrev all-shapes : List Shape
  all-shapes = shapes-before ++ (shapes ++ shapes-after)

  abbrev move : ℕ → ℕ
  move x = length before + x

  same_shape : (x : ℕ) → x < length shapes → shape_at all-shapes (move x) ≡ shape_at shapes x
  same_shape x lt = subst (λ n. shape_at all-shapes (n + x) ≡ shape_at shapes x) same (at_middle shapes-before shapes shapes-after x (Buffer 0) lt)

  same_bytes : (bytes : List (List ℕ)) (x : ℕ) → length bytes ≡ length shapes → x < length shapes → bytes_at (before ++ (bytes ++ after)) (move x) ≡ bytes_at bytes x
  same_bytes bytes x size lt = at_middle before bytes after x [] (subst (λ n. x < n) (sym size) lt)

  moved_op : (bytes : List (List ℕ)) (op : Op ℕ) → length bytes ≡ length shapes → All (λ x. x < length shapes) (operands_of op) → after_op all-shapes (before ++ (bytes ++ after)) (mapped move op) ≡ before ++ (after_op shapes bytes op ++ after)
  moved_op bytes op size within =
      let all = before ++ (bytes ++ after) in
      let dst = destination_of op in
      let inside : dst < length shapes = at_destination (λ x. x < length shapes) op within in
      let shaped : mapped (shape_at all-shapes) (mapped move op) ≡ mapped (shape_at shapes) op = mapped_twice (shape_at all-shapes) move op ∙ mapped_same (λ x. shape_at all-shapes (move x)) (shape_at shapes) op (λ k d lt. same_shape (get_or (operands_of op) k d) (within k d lt)) in
      let sources : map (bytes_at all) (sources_of (mapped move op)) ≡ map (bytes_at bytes) (sources_of op) = ap (map (bytes_at all)) (sources_mapped move op) ∙ map_mapped (bytes_at all) move (bytes_at bytes) (sources_of op) (λ k d lt. same_bytes bytes (get_or (sources_of op) k d) size (at_sources (λ x. x < length shapes) op within k d lt)) in
      let at : destination_of (mapped move op) ≡ move dst = destination_mapped move op in
      let old : bytes_at all (destination_of (mapped move op)) ≡ bytes_at bytes dst = ap (bytes_at all) at ∙ same_bytes bytes dst size inside in
      let out : applied all-shapes (mapped move op) (map (bytes_at all) (sources_of (mapped move op))) (bytes_at all (destination_of (mapped move op))) ≡ applied shapes op (map (bytes_at bytes) (sources_of op)) (bytes_at bytes dst) =
      ap (λ o. effect o (get_or (map (bytes_at all) (sources_of (mapped move op))) 0 []) (get_or (map (bytes_at all) (sources_of (mapped move op))) 1 []) (get_or (map (bytes_at all) (sources_of (mapped move op))) 2 []) (bytes_at all (destination_of (mapped move op)))) shaped
      ∙ ap₂ (λ ss b. effect (mapped (shape_at shapes) op) (get_or ss 0 []) (get_or ss 1 []) (get_or ss 2 []) b) sources old in
      ap₂ (slice_set all) at out ∙ set_middle before bytes after dst (applied shapes op (map (bytes_at bytes) (sources_of op)) (bytes_at bytes dst)) (subst (λ n. dst < n) (sym size) inside)

  moved_ops : (bytes : List (List ℕ)) (ops : List (Op ℕ)) → length bytes ≡ length shapes → All (λ op. All (λ x. x < length shapes) (operands_of op)) ops → after_ops all-shapes (before ++ (bytes ++ after)) (map (mapped move) ops) ≡ before ++ (after_ops shapes bytes ops ++ after)
  moved_ops bytes [] size within = refl
  moved_ops bytes (op ∷ ops) size within =
      ap (λ b. after_ops all-shapes b (map (mapped move) ops)) (moved_op bytes op size (All-head (λ op. All (λ x. x < length shapes) (operands_of op)) op ops within))
      ∙ moved_ops (after_op shapes bytes op) ops (length-set bytes (destination_of op) (applied shapes op (map (bytes_at bytes) (sources_of op)) (bytes_at bytes (destination_of op))) ∙ size) (All-tail (λ op. All (λ x. x < length shapes) (operands_of op)) op ops within)

  ops_length : (bytes : List (List ℕ)) (ops : List (Op ℕ)) → length (after_ops shapes bytes ops) ≡ length bytes
  ops_length bytes [] = refl
  ops_length bytes (op ∷ ops) = ops_length (after_op shapes bytes op) ops ∙ length-set bytes (destination_of op) (applied shapes op (map (bytes_at bytes) (sources_of op)) (bytes_at bytes (destination_of op)))

  -- the passes of a frame change its own units alone, as they do where it stands by itself
  pub moved_passes : (bytes : List (List ℕ)) (passes : List NumberedPass) → length bytes ≡ length shapes → All (λ pass. All (λ op. All (λ x. x < length shapes) (operands_of op)) pass.ops) passes → after_passes all-shapes (before ++ (bytes ++ after)) (map (moved (length before)) passes) ≡ before ++ (after_passes shapes bytes passes ++ after)
  moved_passes bytes [] size within = refl
  moved_passes bytes (pass ∷ passes) size within =
      ap (λ b. after_passes all-shapes b (map (moved (length before)) passes)) (moved_ops bytes pass.ops size (All-head (λ p. All (λ op. All (λ x. x < length shapes) (operands_of op)) p.ops) pass passes within))
      ∙ moved_passes (after_ops shapes bytes pass.ops) passes (ops_length bytes pass.ops ∙ size) (All-tail (λ p. All (λ op. All (λ x. x < length shapes) (operands_of op)) p.ops) pass passes within)
