-- One access more in the tables.
use Rattle.std.proofs.Common.{◌≡◌, ◌==◌, ◌&&◌, ℕ, zero, suc, ◌+◌, ◌<◌, Bool, true, false, List, [], ◌∷◌, length, ◌≢◌, get_or, take, drop, slice_set, get_or-set_same, get_or-set_other, ⊎_elim, Option, Some, None, refl, sym, ap, ◌∙◌, subst, arith}
use Rattle.std.proofs.lemmas.Bool.{cases_eq}
use Rattle.std.proofs.Math.Bool.{and-true}
use Rattle.std.proofs.lemmas.List.{take_all}
use Rattle.std.specs.List.{find, list_any}
use Rattle.std.specs.Option.{option_or}
use Rattle.std.specs.Prelude.{if◌then◌else◌}
use Rattle.check_access.specs.ValidView.{NodeAccessAt}
use Rattle.check_access.proofs.Overlapping.{has_overlapping}
use Rattle.check_access.specs.AccessKinds.{changes, transfers}
use Rattle.check_access.specs.Views.{View, overlap, overlapping}
use Rattle.check_access.specs.declared.access.AccessKind.{AccessKind}
use Rattle.check_access.specs.declared.node_access.NodeAccess.{NodeAccess}
use Rattle.check_state.specs.PieceStates.{changes_bytes, last_that, on_piece, kind_of}
use Rattle.check_state.specs.Internal.Tables.{PutWhere, IsLast, IsFirst, NextFrom}

last_more : (test : NodeAccess → Bool) (accesses : List NodeAccess) (j : ℕ) (a : NodeAccess) → NodeAccessAt accesses j a → last_that test (take (suc j) accesses) ≡ (if test a then Some a else last_that test (take j accesses))
last_more test [] j a h = absurd cc
last_more test (x ∷ accesses) zero a h = let e : x ≡ a = cc in subst (λ z. last_that test (x ∷ []) ≡ (if test z then Some z else None)) e (last_one test x)
  where
    last_one : (test : NodeAccess → Bool) (x : NodeAccess) → last_that test (x ∷ []) ≡ (if test x then Some x else None)
    last_one test x = refl
last_more test (x ∷ accesses) (suc j) a h = rw (last_more test accesses j a h) (step (test a))
  where
    step : (b : Bool) → option_or (if b then Some a else last_that test (take j accesses)) (if test x then Some x else None) ≡ (if b then Some a else option_or (last_that test (take j accesses)) (if test x then Some x else None))
    step true = refl
    step false = refl

first_more : (test : NodeAccess → Bool) (accesses : List NodeAccess) (j : ℕ) (a : NodeAccess) → NodeAccessAt accesses j a → find test (drop j accesses) ≡ (if test a then Some a else find test (drop (suc j) accesses))
first_more test [] j a h = absurd cc
first_more test (x ∷ accesses) zero a h = let e : x ≡ a = cc in subst (λ z. find test (x ∷ accesses) ≡ (if test z then Some z else find test accesses)) e refl
first_more test (x ∷ accesses) (suc j) a h = first_more test accesses j a h

pub is_last_more : (test : ℕ → NodeAccess → Bool) (pieces : ℕ) (accesses : List NodeAccess) (j : ℕ) (a : NodeAccess) (old new : List (Option NodeAccess)) → NodeAccessAt accesses j a → IsLast test pieces (take j accesses) old → PutWhere (λ p. test p a) a old new → IsLast test pieces (take (j + 1) accesses) new
is_last_more test pieces accesses j a old new h L K = record {
  size = K.size ∙ L.size;
  each = λ p lt.
      let e : j + 1 ≡ suc j = omega arith in
      rw (e, last_more (test p) accesses j a h, ← L.each p lt) (K.each p (omega (arith, lt, L.size)));
}

pub is_first_more : (test : ℕ → NodeAccess → Bool) (pieces : ℕ) (accesses : List NodeAccess) (j : ℕ) (a : NodeAccess) (old new : List (Option NodeAccess)) → NodeAccessAt accesses j a → IsFirst test pieces (drop (j + 1) accesses) old → PutWhere (λ p. test p a) a old new → IsFirst test pieces (drop j accesses) new
is_first_more test pieces accesses j a old new h F K = record {
  size = K.size ∙ F.size;
  each = λ p lt.
      let e : j + 1 ≡ suc j = omega arith in
      let f : get_or old p None ≡ find (test p) (drop (suc j) accesses) = rw (← e) (F.each p lt) in
      rw (first_more (test p) accesses j a h, ← f) (K.each p (omega (arith, lt, F.size)));
}

-- the first k pieces of a list
abbrev pub among : List ℕ → ℕ → ℕ → Bool
among pieces k q = list_any (λ x. x == q) (take k pieces)

-- the pieces that a change overlaps
pub put_over : (V : View) (a : NodeAccess) (first new : List (Option NodeAccess)) → length first ≡ length V.pieces → changes a.access.kind ≡ true → PutWhere (among (overlapping V a.access.piece) (length (overlapping V a.access.piece))) a first new → PutWhere (λ p. changes_bytes V p a) a first new
put_over V a first new size change F = record {
  size = F.size;
  each = λ q lt. F.each q lt ∙ ap (λ b. if b then Some a else get_or first q None)
      (ap (list_any (λ x. x == q)) (take_all (length (overlapping V a.access.piece)) (overlapping V a.access.piece) (omega arith))
      ∙ has_overlapping V a.access.piece q (omega (arith, lt, size))
      ∙ sym (ap (λ b. overlap V a.access.piece q && b) change ∙ and-true (overlap V a.access.piece q)));
}

-- the access is of the piece, and so
abbrev pub own : (NodeAccess → Bool) → ℕ → NodeAccess → Bool
own test p a = (a.access.piece == p) && test a

pub last_own_more : (test : NodeAccess → Bool) (pieces : ℕ) (accesses : List NodeAccess) (j : ℕ) (a : NodeAccess) (told : Bool) (old new : List (Option NodeAccess)) → NodeAccessAt accesses j a → told ≡ test a → PutWhere (λ p. (a.access.piece == p) && told) a old new → IsLast (own test) pieces (take j accesses) old → IsLast (own test) pieces (take (j + 1) accesses) new
last_own_more test pieces accesses j a told old new h e K L = is_last_more (own test) pieces accesses j a old new h L (subst (λ b. PutWhere (λ p. (a.access.piece == p) && b) a old new) e K)

pub first_own_more : (test : NodeAccess → Bool) (pieces : ℕ) (accesses : List NodeAccess) (j : ℕ) (a : NodeAccess) (told : Bool) (old new : List (Option NodeAccess)) → NodeAccessAt accesses j a → told ≡ test a → PutWhere (λ p. (a.access.piece == p) && told) a old new → IsFirst (own test) pieces (drop (j + 1) accesses) old → IsFirst (own test) pieces (drop j accesses) new
first_own_more test pieces accesses j a told old new h e K F = is_first_more (own test) pieces accesses j a old new h F (subst (λ b. PutWhere (λ p. (a.access.piece == p) && b) a old new) e K)

pub next_more : (pieces : ℕ) (accesses : List NodeAccess) (j : ℕ) (a : NodeAccess) (table : List (Option NodeAccess)) (next : List (Option AccessKind)) → NodeAccessAt accesses j a → IsFirst (λ p. on_piece p transfers) pieces (drop (j + 1) accesses) table → a.access.piece < length table → j < length next → NextFrom accesses (j + 1) next → NextFrom accesses j (slice_set next j (kind_of (get_or table a.access.piece None)))
next_more pieces accesses j a table next h F lp lj N i b le at = ⊎_elim
    (λ (s : i ≡ j).
    let same : b ≡ a = let k : NodeAccessAt accesses j b = subst (λ z. NodeAccessAt accesses z b) s at in cc in
    let e : j + 1 ≡ suc j = omega arith in
    let f : get_or table a.access.piece None ≡ find (on_piece a.access.piece transfers) (drop (suc j) accesses) = rw (← e) (F.each a.access.piece (omega (arith, lp, F.size))) in
    subst (λ z. get_or (slice_set next j (kind_of (get_or table a.access.piece None))) z None ≡ kind_of (find (on_piece b.access.piece transfers) (drop (suc z) accesses))) (sym s)
    (get_or-set_same next j (kind_of (get_or table a.access.piece None)) None lj ∙ ap kind_of f ∙ ap (λ z. kind_of (find (on_piece z.access.piece transfers) (drop (suc j) accesses))) (sym same)))
    (λ (s : i ≢ j). get_or-set_other next j i (kind_of (get_or table a.access.piece None)) None s ∙ N i b (omega (arith, le, s)) at)
    (cases_eq i j)
