-- Loops that look for the first place.
use Rattle.std.proofs.Common.{Some, subst, slice_get, ◌≡◌, ℕ, suc, ◌+◌, ◌<◌, List, length, get_or, drop, Option, None, sym, ap, ◌∙◌, add-one, drop-cons}
use Rattle.std.specs.Option.{option_or}
use Rattle.std.proofs.lemmas.Option.{get_or_from_slice_get}
use Rattle.base.specs.Walks.{first_in}

-- one entry further: the rule gave nothing at x
pub first_on : {X Y : Type 0} (rule : ℕ → X → Option Y) (xs : List X) (i : ℕ) (x : X) (r total : Option Y) → i < length xs → x ≡ get_or xs i x → r ≡ rule i x → r ≡ None → first_in rule i (drop i xs) ≡ total → first_in rule (i + 1) (drop (i + 1) xs) ≡ total
first_on rule xs i x r total lt is gives none so_far =
    let rest = first_in rule (suc i) (drop (suc i) xs) in
    let here : first_in rule i (drop i xs) ≡ option_or (rule i x) rest = ap (first_in rule i) (drop-cons xs i x lt) ∙ ap (λ y. option_or (rule i y) rest) (sym is) in
    rw add-one (sym (ap (λ o. option_or o rest) (sym gives ∙ none)) ∙ sym here ∙ so_far)

-- the same over the operands of an operation, which are got by their number
pub operand_on : {X Y : Type 0} (rule : ℕ → X → Option Y) (xs : List X) (i n : ℕ) (x : X) (r total : Option Y) → i < n → n ≡ length xs → slice_get xs i ≡ Some x → r ≡ rule i x → r ≡ None → first_in rule i (drop i xs) ≡ total → first_in rule (i + 1) (drop (i + 1) xs) ≡ total
operand_on rule xs i n x r total lt size is gives none so_far = first_on rule xs i x r total (subst (λ m. i < m) size lt) (sym (get_or_from_slice_get xs i x x is)) gives none so_far

-- the rule gave a place at x: it is the first
pub found_on : {X Y : Type 0} (rule : ℕ → X → Option Y) (xs : List X) (i : ℕ) (x : X) (place : Y) (total : Option Y) → i < length xs → x ≡ get_or xs i x → rule i x ≡ Some place → first_in rule i (drop i xs) ≡ total → total ≡ Some place
found_on rule xs i x place total lt is gives so_far =
    let rest = first_in rule (suc i) (drop (suc i) xs) in
    let here : first_in rule i (drop i xs) ≡ option_or (rule i x) rest = ap (first_in rule i) (drop-cons xs i x lt) ∙ ap (λ y. option_or (rule i y) rest) (sym is) in
    sym so_far ∙ here ∙ ap (λ o. option_or o rest) gives
