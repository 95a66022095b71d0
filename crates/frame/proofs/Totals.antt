-- The totals that the limits leave.
use Rattle.std.proofs.Common.{subst, suc, map, ◌≡◌, ℕ, ◌+◌, ◌-◌, ◌≤◌, nat_lt, Bool, true, false, List, [], ◌∷◌, length, None, Result, Ok, Err, if◌then◌else◌, refl, sym, ap₂, ◌∙◌, arith}
use Rattle.std.specs.List.{flat_map, sum_by}
use Rattle.std.proofs.lemmas.Bool.{ltb-false}
use Rattle.std.proofs.lemmas.List.{length-map}
use Rattle.std.proofs.lemmas.List.Folds.{sum_by-replicate}
use Rattle.std.proofs.lemmas.List.Sums.{sum_by-append, sum_by-cons}
use Rattle.base.proofs.Operands.{rects_mapped}
use Rattle.base.proofs.Rooms.{all_fit}
use Rattle.base.specs.Maxima.{max_rects}
use Rattle.base.specs.Operands.{mapped, rect_count}
use Rattle.base.specs.Shapes.{bytes_of}
use Rattle.base.specs.declared.op.Op.{Op}
use Rattle.frame.proofs.Small.{limits_none, names_good, ops_none, rects_none, total_none}
use Rattle.frame.specs.FirstFault.{first_broken}
use Rattle.frame.specs.Limits.{all_bytes, op_count, spend_op, spend_pass, rects_over}
use Rattle.frame.specs.Numbered.{numbered, numbered_pass}
use Rattle.base.specs.Rooms.{go_on, spend_in, not_lasting}
use Rattle.frame.specs.Units.{Numbering, numbering, unit_of, units, units_from, unit_from}
use Rattle.frame.specs.declared.frame.Frame.{Frame}
use Rattle.frame.specs.declared.frame.Pass.{Pass}
use Rattle.frame.specs.declared.frame.Resource.{Resource}
use Rattle.frame.specs.declared.frame.Spot.{Spot}
use Rattle.frame.specs.declared.location.Location.{Location}
use Rattle.frame.specs.declared.location.Location.TheVariants as at

-- OPERATIONS

pub ops_same : (frame : Frame) (n : Numbering) (passes : List Pass) → sum_by (λ pass. length pass.ops) (map (numbered_pass frame n) passes) ≡ sum_by op_count passes
ops_same frame n [] = refl
ops_same frame n (pass ∷ passes) = sum_by-cons (λ pass. length pass.ops) (numbered_pass frame n pass) (map (numbered_pass frame n) passes) ∙ ap₂ (λ a b. a + b) (length-map pass.ops (mapped (unit_of n))) (ops_same frame n passes) ∙ sym (sum_by-cons op_count pass passes)

pub few_ops : (frame : Frame) → first_broken frame ≡ None → sum_by (λ pass. length pass.ops) (numbered frame).passes ≤ 256
few_ops frame none = subst (λ m. m ≤ 256) (sym (ops_same frame (numbering frame) frame.passes)) (all_fit op_count frame.passes 256 0 (ops_none frame (limits_none frame (names_good frame none))))

-- RECTANGLES

op_rects_same : (f : Spot → ℕ) (ops : List (Op Spot)) → sum_by rect_count (map (mapped f) ops) ≡ sum_by rect_count ops
op_rects_same f [] = refl
op_rects_same f (op ∷ ops) = sum_by-cons rect_count (mapped f op) (map (mapped f) ops) ∙ ap₂ (λ a b. a + b) (rects_mapped f op) (op_rects_same f ops) ∙ sym (sum_by-cons rect_count op ops)

pub all_rects_same : (frame : Frame) (n : Numbering) (passes : List Pass) → sum_by (λ pass. sum_by rect_count pass.ops) (map (numbered_pass frame n) passes) ≡ sum_by (λ pass. sum_by rect_count pass.ops) passes
all_rects_same frame n [] = refl
all_rects_same frame n (pass ∷ passes) = sum_by-cons (λ pass. sum_by rect_count pass.ops) (numbered_pass frame n pass) (map (numbered_pass frame n) passes) ∙ ap₂ (λ a b. a + b) (op_rects_same (unit_of n) pass.ops) (all_rects_same frame n passes) ∙ sym (sum_by-cons (λ pass. sum_by rect_count pass.ops) pass passes)

-- what the entries leave of a room, and what they take of it
spent : {X Y : Type 0} (spend : ℕ → ℕ → X → Result ℕ Y) (size : X → ℕ) → ((room i : ℕ) (x : X) (left : ℕ) → spend room i x ≡ Ok left → left + size x ≡ room) → (xs : List X) (room i left : ℕ) → spend_in spend room i xs ≡ Ok left → left + sum_by size xs ≡ room
spent spend size each [] room i left is = let same : room ≡ left = cc in omega (arith, same)
spent {X} {Y} spend size each (x ∷ xs) room i left is = by_step (λ rest. spent spend size each xs rest (suc i) left) (spend room i x) refl is
  where
    by_step : ((rest : ℕ) → spend_in spend rest (suc i) xs ≡ Ok left → left + sum_by size xs ≡ rest) → (step : Result ℕ Y) → spend room i x ≡ step → go_on (λ rest. spend_in spend rest (suc i) xs) step ≡ Ok left → left + sum_by size (x ∷ xs) ≡ room
    by_step others (Ok rest) step is =
        let here = each room i x rest step in
        let more = others rest is in
        let all = sum_by-cons size x xs in
        omega (arith, here, more, all)
    by_step others (Err place) step is = absurd cc

op_spent : (p room k : ℕ) (op : Op Spot) (left : ℕ) → spend_op p room k op ≡ Ok left → left + rect_count op ≡ room
op_spent p room k op left is = by_test (nat_lt room (rect_count op)) refl is
  where
    by_test : (b : Bool) → nat_lt room (rect_count op) ≡ b → ◌≡◌ {A = Result ℕ Location} (if b then Err (at.Rects p k) else Ok (room - rect_count op)) (Ok left) → left + rect_count op ≡ room
    by_test true e is = absurd cc
    by_test false e is =
        let fits : rect_count op ≤ room = ltb-false room (rect_count op) e in
        let rest : room - rect_count op ≡ left = cc in
        omega (arith, fits, rest)

pub rects_fit : (passes : List Pass) → rects_over passes ≡ None → sum_by (λ pass. sum_by rect_count pass.ops) passes ≤ 4096
rects_fit passes none = by_left (spend_in spend_pass max_rects 0 passes) refl none
  where
    by_left : (left : Result ℕ Location) → spend_in spend_pass max_rects 0 passes ≡ left → not_lasting left ≡ None → sum_by (λ pass. sum_by rect_count pass.ops) passes ≤ 4096
    by_left (Ok left) is none =
        let all : left + sum_by (λ pass. sum_by rect_count pass.ops) passes ≡ 4096 = spent spend_pass (λ pass. sum_by rect_count pass.ops) (λ room p pass. spent (spend_op p) rect_count (op_spent p) pass.ops room 0) passes max_rects 0 left is in
        omega (arith, all)
    by_left (Err place) is none = absurd cc

pub few_rects : (frame : Frame) → first_broken frame ≡ None → sum_by (λ pass. sum_by rect_count pass.ops) (numbered frame).passes ≤ 4096
few_rects frame none = subst (λ m. m ≤ 4096) (sym (all_rects_same frame (numbering frame) frame.passes)) (rects_fit frame.passes (rects_none frame (limits_none frame (names_good frame none))))

-- BYTES

pub bytes_same : (rs : List Resource) → sum_by (λ u. bytes_of u.shape) (flat_map units_from rs) ≡ sum_by all_bytes rs
bytes_same [] = refl
bytes_same (r ∷ rs) = sum_by-append (λ u. bytes_of u.shape) (units_from r) (flat_map units_from rs) ∙ ap₂ (λ a b. a + b) (sum_by-replicate (λ u. bytes_of u.shape) r.layers (unit_from r)) (bytes_same rs) ∙ sym (sum_by-cons all_bytes r rs)

pub few_bytes : (frame : Frame) → first_broken frame ≡ None → sum_by (λ u. bytes_of u.shape) (units frame) ≤ 268435456
few_bytes frame none = subst (λ m. m ≤ 268435456) (sym (bytes_same frame.resources)) (all_fit all_bytes frame.resources 268435456 0 (total_none frame (limits_none frame (names_good frame none))))
