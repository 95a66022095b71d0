-- Commands as they grow at their end, and how many there are.
use Rattle.std.proofs.Common.{◌≡◌, ℕ, suc, ◌+◌, ◌<◌, ◌≤◌, Bool, true, false, List, [], ◌∷◌, ◌++◌, length, take, get_or, map, if◌then◌else◌, refl, sym, ap, ap₂, ◌∙◌, subst, arith}
use Rattle.std.specs.List.{All, sum_by}
use Rattle.std.specs.Option.{option_map_or}
use Rattle.std.specs.Prelude.{IfSome, Option, Some, None, slice_get}
use Rattle.std.proofs.lemmas.List.{append-nil, append_assoc, length-append, length-map, length-take-le, take_more}
use Rattle.std.proofs.lemmas.List.Elements.{All-nil, All-cons, All-head, All-tail, All-append, All-map, All-weaker}
use Rattle.std.proofs.lemmas.List.Sums.{sum_by-cons}
use Rattle.std.proofs.lemmas.Option.{slice_get-get_or}
use Rattle.base.specs.Operands.{operands_of}
use Rattle.base.specs.Shapes.{shape_at}
use Rattle.base.specs.declared.op.Op.{Op}
use Rattle.base.specs.declared.shape.Shape.{Shape}
use Rattle.base.specs.declared.shape.Shape.TheVariants.{Buffer, Image}
use Rattle.frame.specs.Valid.{IsValid, shapes_in}
use Rattle.frame.specs.Numbered.{NumberedFrame, IsWithin}
use Rattle.frame.specs.declared.numbered.NumberedPass.{NumberedPass}
use Rattle.compile_groups.specs.Internal.Grown.{kept_pass}
use Rattle.compile_groups.specs.Internal.Known.{AreKnown}
use Rattle.compile_groups.specs.Commands.{on_queue, pass_commands, kept_commands, copy_out, export_queue, export_command, export_commands, commands, all_shapes, readback_shape}
use Rattle.compile_groups.specs.declared.command.Command.{Command}
use Rattle.frame_cull.proofs.Grow.{rows-length, row_is, pass_got}
use Rattle.frame_cull.proofs.Reach.{maker-below}
use Rattle.frame_cull.specs.Versions.{Numbers, numbers_of, row_of, all_versions, latest_maker, no_pass, pass_at}

-- COMMANDS OF PASSES

kept_push : (passes : List NumberedPass) (kept : List Bool) (pass : NumberedPass) (keep : Bool) → length passes ≡ length kept → kept_commands (passes ++ pass ∷ []) (kept ++ keep ∷ []) ≡ kept_commands passes kept ++ (if keep then pass_commands pass else [])
kept_push [] [] pass keep e = append-nil (if keep then pass_commands pass else [])
kept_push [] (k ∷ kept) pass keep e = absurd (no e)
  where
    no : 0 ≡ suc (length kept) → ⊥
    no h = omega arith
kept_push (p ∷ passes) [] pass keep e = absurd (no e)
  where
    no : suc (length passes) ≡ 0 → ⊥
    no h = omega arith
kept_push (p ∷ passes) (k ∷ kept) pass keep e = ap (λ z. (if k then pass_commands p else []) ++ z) (kept_push passes kept pass keep (omega (arith, e))) ∙ sym (append_assoc (if k then pass_commands p else []) (kept_commands passes kept) (if keep then pass_commands pass else []))

kept_more : (passes : List NumberedPass) (kept : List Bool) (p : ℕ) → length kept ≡ length passes → p < length passes → kept_commands (take (p + 1) passes) (take (p + 1) kept) ≡ kept_commands (take p passes) (take p kept) ++ kept_pass passes kept p
kept_more passes kept p e lt =
    let lk : p < length kept = omega (arith, e, lt) in
    let a = length-take-le p passes (omega (arith, lt)) in
    let b = length-take-le p kept (omega (arith, lk)) in
    ap (λ z. kept_commands z (take (p + 1) kept)) (take_more passes p no_pass lt)
    ∙ ap (λ z. kept_commands (take p passes ++ get_or passes p no_pass ∷ []) z) (take_more kept p false lk)
    ∙ kept_push (take p passes) (take p kept) (get_or passes p no_pass) (get_or kept p false) (a ∙ sym b)

-- a pass more
pub pass_more : (passes : List NumberedPass) (kept : List Bool) (p : ℕ) (list more : List Command) → length kept ≡ length passes → p < length passes → list ≡ kept_commands (take p passes) (take p kept) → more ≡ list ++ kept_pass passes kept p → more ≡ kept_commands (take (p + 1) passes) (take (p + 1) kept)
pass_more passes kept p list more e lt f m = m ∙ ap (λ z. z ++ kept_pass passes kept p) f ∙ sym (kept_more passes kept p e lt)

pub pass_read : (passes : List NumberedPass) (kept : List Bool) (p : ℕ) (list more : List Command) (keep : Bool) (queue : ℕ) (ops : List (Op ℕ)) → p < length passes → keep ≡ get_or kept p false → keep ≡ true → IfSome (slice_get passes p) (λ pass. queue ≡ pass.queue) → IfSome (slice_get passes p) (λ pass. ops ≡ pass.ops) → more ≡ list ++ map (on_queue queue) ops → more ≡ list ++ kept_pass passes kept p
pass_read passes kept p list more keep queue ops lt ke k qs os m =
    let there : slice_get passes p ≡ Some (get_or passes p no_pass) = slice_get-get_or passes p no_pass lt in
    let qe : queue ≡ (get_or passes p no_pass).queue = subst (λ o. IfSome o (λ pass. queue ≡ pass.queue)) there qs in
    let oe : ops ≡ (get_or passes p no_pass).ops = subst (λ o. IfSome o (λ pass. ops ≡ pass.ops)) there os in
    m
    ∙ ap₂ (λ y z. list ++ map (on_queue y) z) qe oe
    ∙ sym (ap (λ z. list ++ (if z then pass_commands (get_or passes p no_pass) else [])) (sym ke ∙ k))

pub pass_left : (passes : List NumberedPass) (kept : List Bool) (p : ℕ) (list : List Command) (keep : Bool) → keep ≡ get_or kept p false → keep ≡ false → list ≡ list ++ kept_pass passes kept p
pass_left passes kept p list keep ke k = sym (ap (λ z. list ++ (if z then pass_commands (get_or passes p no_pass) else [])) (sym ke ∙ k) ∙ append-nil list)

-- QUEUES OF EXPORTS

module _ (n : NumberedFrame) (v : Numbers) (unit : ℕ) (is : v ≡ numbers_of n) (lt : unit < length n.units) where
  pub row-there : unit < length v.makers
  row-there = subst (λ m. unit < m) (sym (ap (λ (x : Numbers). length x.makers) is ∙ rows-length n (length n.passes))) lt

  row : row_of v.makers unit ≡ all_versions n unit
  row = ap (λ (x : Numbers). row_of x.makers unit) is ∙ row_is n (length n.passes) unit lt

  pub writer-there : (p : ℕ) → Some p ≡ latest_maker (row_of v.makers unit) → p < length n.passes
  writer-there p e = maker-below n (length n.passes) unit p (omega arith) (sym (e ∙ ap latest_maker row))

  pub on_writer : (p queue : ℕ) → Some p ≡ latest_maker (row_of v.makers unit) → IfSome (slice_get n.passes p) (λ pass. queue ≡ pass.queue) → queue ≡ export_queue n unit
  on_writer p queue e q =
      pass_got n p (λ pass. queue ≡ pass.queue) (writer-there p e) q
      ∙ ap (λ o. option_map_or (λ k. (pass_at n k).queue) o 0) (e ∙ ap latest_maker row)

  pub on_first : None ≡ latest_maker (row_of v.makers unit) → 0 ≡ export_queue n unit
  on_first e = ap (λ o. option_map_or (λ k. (pass_at n k).queue) o 0) (e ∙ ap latest_maker row)

-- HOW MANY COMMANDS

kept-few : (passes : List NumberedPass) (kept : List Bool) → length (kept_commands passes kept) ≤ sum_by (λ pass. length pass.ops) passes
kept-few [] kept = omega arith
kept-few (pass ∷ passes) [] = omega arith
kept-few (pass ∷ passes) (keep ∷ kept) =
    let rest = kept-few passes kept in
    let one = own keep in
    omega (arith, rest, one, length-append (if keep then pass_commands pass else []) (kept_commands passes kept), sum_by-cons (λ (p : NumberedPass). length p.ops) pass passes)
  where
    own : (b : Bool) → length (if b then pass_commands pass else []) ≤ length pass.ops
    own true = let e = length-map pass.ops (on_queue pass.queue) in omega (arith, e)
    own false = omega arith

exports-length : (n : NumberedFrame) (k : ℕ) (units : List ℕ) → length (export_commands n k units) ≡ length units
exports-length n k [] = refl
exports-length n k (unit ∷ units) = ap suc (exports-length n (suc k) units)

commands-few : (n : NumberedFrame) (kept : List Bool) → IsValid n → length (commands n kept) ≤ 288
commands-few n kept G =
    let ops = G.few_ops in
    let exports = G.few_exports in
    omega (arith, ops, exports, kept-few n.passes kept, exports-length n 0 n.exports, length-append (kept_commands n.passes kept) (export_commands n 0 n.exports))

-- WHAT THEIR OPERANDS ARE

-- each operand is below a number
abbrev pub Below : ℕ → Command → Type 0
Below n command = All (λ r. r < n) (operands_of command.op)

kept-below : (count queues units : ℕ) (passes : List NumberedPass) (kept : List Bool) → units ≤ count → All (IsWithin queues units) passes → All (Below count) (kept_commands passes kept)
kept-below count queues units [] kept le within = All-nil (Below count)
kept-below count queues units (pass ∷ passes) [] le within = All-nil (Below count)
kept-below count queues units (pass ∷ passes) (keep ∷ kept) le within =
    All-append (Below count) (if keep then pass_commands pass else []) (kept_commands passes kept) (own keep) (kept-below count queues units passes kept le (All-tail (IsWithin queues units) pass passes within))
  where
    own : (b : Bool) → All (Below count) (if b then pass_commands pass else [])
    own true =
        All-map (Below count) (on_queue pass.queue) pass.ops
        (All-weaker (λ op. All (λ unit. unit < units) (operands_of op)) (λ op. All (λ r. r < count) (operands_of op)) (λ op h. All-weaker (λ unit. unit < units) (λ r. r < count) (λ r l. omega (arith, l, le)) (operands_of op) h) pass.ops (All-head (IsWithin queues units) pass passes within).ops)
    own false = All-nil (Below count)

copy-below : (count : ℕ) (shape : Shape) (src dst : ℕ) → src < count → dst < count → All (λ r. r < count) (operands_of (copy_out shape src dst))
copy-below count (Buffer size) src dst a b = All-cons (λ r. r < count) src (dst ∷ []) a (All-cons (λ r. r < count) dst [] b (All-nil (λ r. r < count)))
copy-below count (Image width height texel) src dst a b = All-cons (λ r. r < count) src (dst ∷ []) a (All-cons (λ r. r < count) dst [] b (All-nil (λ r. r < count)))

exports-below : (n : NumberedFrame) (k : ℕ) (units : List ℕ) → All (λ unit. unit < length n.units) units → All (Below (length n.units + (k + length units))) (export_commands n k units)
exports-below n k [] within = All-nil (Below (length n.units + (k + 0)))
exports-below n k (unit ∷ units) within =
    let here : unit < length n.units = All-head (λ u. u < length n.units) unit units within in
    All-cons (Below (length n.units + (k + suc (length units)))) (export_command n k unit) (export_commands n (suc k) units)
    (copy-below (length n.units + (k + suc (length units))) (shape_at (shapes_in n) unit) unit (length n.units + k) (omega (arith, here)) (omega arith))
    (All-weaker (Below (length n.units + (suc k + length units))) (Below (length n.units + (k + suc (length units))))
    (λ command h. All-weaker (λ r. r < length n.units + (suc k + length units)) (λ r. r < length n.units + (k + suc (length units))) (λ r l. omega (arith, l)) (operands_of command.op) h)
    (export_commands n (suc k) units) (exports-below n (suc k) units (All-tail (λ u. u < length n.units) unit units within)))

pub shapes-length : (n : NumberedFrame) → length (all_shapes n) ≡ length n.units + length n.exports
shapes-length n = length-append (shapes_in n) (map (readback_shape n) n.exports) ∙ ap₂ (λ a b. a + b) (length-map n.units (λ unit. unit.shape)) (length-map n.exports (readback_shape n))

commands-below : (n : NumberedFrame) (kept : List Bool) → IsValid n → All (λ command. All (λ r. r < length (all_shapes n)) (operands_of command.op)) (commands n kept)
commands-below n kept G =
    let e = shapes-length n in
    All-append (Below (length (all_shapes n))) (kept_commands n.passes kept) (export_commands n 0 n.exports)
    (kept-below (length (all_shapes n)) (length n.queues) (length n.units) n.passes kept (omega (arith, e)) G.within)
    (All-weaker (Below (length n.units + (0 + length n.exports))) (Below (length (all_shapes n)))
    (λ command h. All-weaker (λ r. r < length n.units + (0 + length n.exports)) (λ r. r < length (all_shapes n)) (λ r l. omega (arith, l, e)) (operands_of command.op) h)
    (export_commands n 0 n.exports) (exports-below n 0 n.exports G.exports_within))

-- WHICH QUEUES THEY ARE ON

abbrev OnQueue : ℕ → Command → Type 0
OnQueue queues command = command.queue < queues

kept-queues : (queues units : ℕ) (passes : List NumberedPass) (kept : List Bool) → All (IsWithin queues units) passes → All (OnQueue queues) (kept_commands passes kept)
kept-queues queues units [] kept within = All-nil (OnQueue queues)
kept-queues queues units (pass ∷ passes) [] within = All-nil (OnQueue queues)
kept-queues queues units (pass ∷ passes) (keep ∷ kept) within =
    All-append (OnQueue queues) (if keep then pass_commands pass else []) (kept_commands passes kept) (own keep) (kept-queues queues units passes kept (All-tail (IsWithin queues units) pass passes within))
  where
    own : (b : Bool) → All (OnQueue queues) (if b then pass_commands pass else [])
    own true = All-map (OnQueue queues) (on_queue pass.queue) pass.ops (λ i d lt. (All-head (IsWithin queues units) pass passes within).queue)
    own false = All-nil (OnQueue queues)

export-known : (n : NumberedFrame) (unit : ℕ) → IsValid n → export_queue n unit < length n.queues
export-known n unit G = go (latest_maker (all_versions n unit)) refl
  where
    go : (o : Option ℕ) → latest_maker (all_versions n unit) ≡ o → option_map_or (λ p. (pass_at n p).queue) o 0 < length n.queues
    go None e = G.some_queue
    go (Some p) e = (G.within p no_pass (maker-below n (length n.passes) unit p (omega arith) e)).queue

exports-queues : (n : NumberedFrame) (k : ℕ) (units : List ℕ) → IsValid n → All (OnQueue (length n.queues)) (export_commands n k units)
exports-queues n k [] G = All-nil (OnQueue (length n.queues))
exports-queues n k (unit ∷ units) G = All-cons (OnQueue (length n.queues)) (export_command n k unit) (export_commands n (suc k) units) (export-known n unit G) (exports-queues n (suc k) units G)

pub commands-known : (n : NumberedFrame) (kept : List Bool) → IsValid n → AreKnown n (commands n kept)
commands-known n kept G = record {
  few = commands-few n kept G;
  queues = All-append (OnQueue (length n.queues)) (kept_commands n.passes kept) (export_commands n 0 n.exports) (kept-queues (length n.queues) (length n.units) n.passes kept G.within) (exports-queues n 0 n.exports G);
  operands = commands-below n kept G;
}
