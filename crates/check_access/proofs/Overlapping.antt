-- What stands in the list of the pieces that overlap one.
use Rattle.std.proofs.Common.{◌≡◌, ℕ, ◌+◌, ◌<◌, ◌==◌, ◌&&◌, ◌++◌, true, List, [], ◌∷◌, length, get_or, sym, ap, ◌∙◌, subst, eqb-true, eq-eqb, arith}
use Rattle.std.specs.List.{All, filter, list_any, range_with_len}
use Rattle.std.proofs.Math.Bool.{Bool, cond, and-true}
use Rattle.std.proofs.lemmas.List.Elements.{All-filter, All-from_get_or, filter_passes}
use Rattle.std.proofs.lemmas.List.Folds.{list_any_at}
use Rattle.std.proofs.lemmas.List.FromFn.{get_or-range_with_len, length-range_with_len}
use Rattle.std.proofs.lemmas.Map.Views.{any-filter_same}
use Rattle.base.proofs.Lists.{chosen_more}
use Rattle.program.specs.declared.program.Piece.{Piece}
use Rattle.check_access.specs.Views.{View, no_piece, pieces_overlap, overlap, overlapping}

-- of the pieces before number q those that overlap this one
abbrev pub list_until : List Piece → Piece → ℕ → List ℕ
list_until pieces a q = filter (λ q. pieces_overlap a (get_or pieces q no_piece)) (range_with_len 0 q)

-- one piece more
pub list_more : (pieces : List Piece) (a : Piece) (q : ℕ) (told : Bool) → told ≡ pieces_overlap a (get_or pieces q no_piece) → list_until pieces a (q + 1) ≡ list_until pieces a q ++ cond told (q ∷ []) []
list_more pieces a q told e = chosen_more (λ q. pieces_overlap a (get_or pieces q no_piece)) q ∙ ap (λ b. list_until pieces a q ++ cond b (q ∷ []) []) (sym e)

-- each piece of the list is there
pub known_overlapping : (V : View) (p : ℕ) → All (λ q. q < length V.pieces) (overlapping V p)
known_overlapping V p = All-filter (overlap V p) (λ q. q < length V.pieces) (range_with_len 0 (length V.pieces)) (All-from_get_or (λ q. q < length V.pieces) (range_with_len 0 (length V.pieces)) 0 (λ i lt.
    let below : i < length V.pieces = subst (λ n. i < n) (length-range_with_len 0 (length V.pieces)) lt in
    omega (arith, below, get_or-range_with_len 0 (length V.pieces) i 0 below)))

-- it overlaps
pub each_overlapping : (V : View) (p : ℕ) → All (λ q. overlap V p q ≡ true) (overlapping V p)
each_overlapping V p = filter_passes (overlap V p) (range_with_len 0 (length V.pieces))

there : (n q : ℕ) → q < n → list_any (λ x. x == q) (range_with_len 0 n) ≡ true
there n q lt = list_any_at (λ x. x == q) (range_with_len 0 n) q 0 (subst (λ m. q < m) (sym (length-range_with_len 0 n)) lt) (eq-eqb (get_or (range_with_len 0 n) q 0) q (omega (arith, get_or-range_with_len 0 n q 0 lt)))

-- and each that overlaps is in the list
pub has_overlapping : (V : View) (p q : ℕ) → q < length V.pieces → list_any (λ x. x == q) (overlapping V p) ≡ overlap V p q
has_overlapping V p q lt =
    any-filter_same (λ x. x == q) (overlap V p) (overlap V p q) (λ k e. ap (overlap V p) (eqb-true k q e)) (range_with_len 0 (length V.pieces))
    ∙ ap (λ b. overlap V p q && b) (there (length V.pieces) q lt) ∙ and-true (overlap V p q)
