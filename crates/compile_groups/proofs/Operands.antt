-- Operands of an operation: the uses of a command one by one, and what is touched is among them.
use Rattle.std.proofs.Common.{◌≡◌, ℕ, suc, ◌+◌, ◌==◌, ◌<◌, ◌≤◌, true, List, [], ◌∷◌, ◌++◌, length, take, drop, get_or, map, Some, refl, sym, ap, ◌∙◌, subst, eq-eqb, arith}
use Rattle.std.specs.List.{All, list_any}
use Rattle.std.specs.Prelude.{slice_get}
use Rattle.std.proofs.lemmas.List.{append-nil, append_assoc, map-append, length-map, length-take, get_or-map, get_or-take, drop_more, drop_all, take_more}
use Rattle.std.proofs.lemmas.List.Folds.{list_any_at}
use Rattle.std.proofs.lemmas.Option.{slice_get_within, get_or_from_slice_get}
use Rattle.base.specs.Operands.{operands_of, sources_of, destination_of}
use Rattle.base.specs.Touches.{touches_of, source_touch, destination_touch}
use Rattle.base.specs.declared.op.Op.{Op}
use Rattle.base.specs.declared.shape.Shape.{Shape}
use Rattle.base.specs.declared.shape.Shape.TheVariants.{Buffer, Image}
use Rattle.base.specs.declared.touch.Touch.{Touch}
use Rattle.compile_groups.specs.Internal.Grown.{no_touch, touch_at, operand_use}
use Rattle.compile_groups.specs.Commands.{copy_out}
use Rattle.compile_groups.specs.Uses.{uses_from}
use Rattle.compile_groups.specs.declared.command.Command.{Command}
use Rattle.compile_groups.specs.declared.unit_use.Use.{Use}

pub named_here : (operands : List ℕ) (k j unit x : ℕ) → j < k → slice_get operands j ≡ Some x → x ≡ unit → true ≡ list_any (λ y. y == unit) (take k operands)
named_here operands k j unit x lt e same =
    let here : get_or (take k operands) j 0 ≡ unit = get_or-take k operands j 0 lt ∙ get_or_from_slice_get operands j x 0 e ∙ same in
    sym (list_any_at (λ y. y == unit) (take k operands) j 0 (omega (arith, lt, slice_get_within operands j x e, length-take k operands)) (eq-eqb (get_or (take k operands) j 0) unit here))

module _ (shapes : List Shape) (op : Op ℕ) where
  sources-what : (ns : List ℕ) → map (λ (t : Touch). t.what) (map (source_touch shapes op) ns) ≡ ns
  sources-what [] = refl
  sources-what (n ∷ ns) = ap (λ l. n ∷ l) (sources-what ns)

  -- operands as they are touched
  what : map (λ (t : Touch). t.what) (touches_of shapes op) ≡ operands_of op
  what = map-append (λ (t : Touch). t.what) (map (source_touch shapes op) (sources_of op)) (destination_touch shapes op ∷ []) ∙ ap (λ l. l ++ destination_of op ∷ []) (sources-what (sources_of op))

  touches-length : length (touches_of shapes op) ≡ length (operands_of op)
  touches-length = sym (length-map (touches_of shapes op) (λ (t : Touch). t.what)) ∙ ap length what

  what_at : (k : ℕ) (d : Touch) → k < length (operands_of op) → get_or (operands_of op) k d.what ≡ (get_or (touches_of shapes op) k d).what
  what_at k d lt = ap (λ l. get_or l k d.what) (sym what) ∙ get_or-map (λ (t : Touch). t.what) (touches_of shapes op) k d d.what (subst (λ n. k < n) (sym touches-length) lt)

-- what is touched is one of the operands
pub touch_within : (shapes : List Shape) (op : Op ℕ) (k n : ℕ) (touch : Touch) → All (λ r. r < n) (operands_of op) → slice_get (touches_of shapes op) k ≡ Some touch → touch.what < n
touch_within shapes op k n touch within got =
    let inside : k < length (operands_of op) = subst (λ m. k < m) (touches-length shapes op) (slice_get_within (touches_of shapes op) k touch got) in
    subst (λ x. x < n) (what_at shapes op k touch inside ∙ ap (λ (t : Touch). t.what) (get_or_from_slice_get (touches_of shapes op) k touch touch got)) (within k touch.what inside)

module _ (shapes : List Shape) (units c : ℕ) (command : Command) where
  -- the uses by the operands from number k on
  abbrev pub rest : ℕ → List Use
  rest k = uses_from shapes units c command.queue k (take k (operands_of command.op)) (drop k (touches_of shapes command.op))

  split : (k : ℕ) (next : ℕ) → next ≡ suc k → k < length (operands_of command.op) → rest k ≡ operand_use shapes units c command k ++ rest next
  split k next e lt =
      let inside : k < length (touches_of shapes command.op) = subst (λ n. k < n) (sym (touches-length shapes command.op)) lt in
      let named : take k (operands_of command.op) ++ (touch_at shapes command k).what ∷ [] ≡ take (k + 1) (operands_of command.op) = ap (λ x. take k (operands_of command.op) ++ x ∷ []) (sym (what_at shapes command.op k no_touch lt)) ∙ sym (take_more (operands_of command.op) k 0 lt) in
      let more : k + 1 ≡ next = omega (arith, e) in
      ap (uses_from shapes units c command.queue k (take k (operands_of command.op))) (drop_more (touches_of shapes command.op) k no_touch inside)
      ∙ ap (λ l. operand_use shapes units c command k ++ uses_from shapes units c command.queue (suc k) l (drop (k + 1) (touches_of shapes command.op))) named
      ∙ ap (λ n. operand_use shapes units c command k ++ uses_from shapes units c command.queue n (take (k + 1) (operands_of command.op)) (drop (k + 1) (touches_of shapes command.op))) (sym e)
      ∙ ap (λ n. operand_use shapes units c command k ++ uses_from shapes units c command.queue next (take n (operands_of command.op)) (drop n (touches_of shapes command.op))) more

  pub operand_more : (k : ℕ) (list more total : List Use) → k < length (operands_of command.op) → list ++ rest k ≡ total → more ≡ list ++ operand_use shapes units c command k → more ++ rest (k + 1) ≡ total
  operand_more k list more total lt before grown =
      let e : k + 1 ≡ suc k = omega arith in
      ap (λ l. l ++ rest (k + 1)) grown
      ∙ append_assoc list (operand_use shapes units c command k) (rest (k + 1))
      ∙ ap (λ l. list ++ l) (sym (split k (k + 1) e lt))
      ∙ before

  -- after the last operand
  pub operands_all : (k : ℕ) (list total : List Use) → length (operands_of command.op) ≤ k → list ++ rest k ≡ total → list ≡ total
  operands_all k list total le before =
      sym (append-nil list)
      ∙ ap (λ l. list ++ uses_from shapes units c command.queue k (take k (operands_of command.op)) l) (sym (drop_all k (touches_of shapes command.op) (let e = touches-length shapes command.op in omega (arith, e, le))))
      ∙ before

pub copy_destination : (shape : Shape) (src dst : ℕ) → destination_of (copy_out shape src dst) ≡ dst
copy_destination (Buffer size) src dst = refl
copy_destination (Image width height texel) src dst = refl
