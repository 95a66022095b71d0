-- Overlaps and clashes are symmetric.
use Rattle.std.proofs.Common.{◌≡◌, ℕ, ◌==◌, ◌&&◌, ◌||◌, Bool, true, sym, ◌∙◌, ⊎_elim, eq-eqb, eqb-true}
use Rattle.std.proofs.lemmas.Bool.{and_parts, and_from, or_cases, or_left, or_right}
use Rattle.std.proofs.Math.Bool as bools
use Rattle.check_access.specs.AccessKinds.{changes, transfers}
use Rattle.check_access.specs.Views as views
use Rattle.check_access.specs.Views.{View, overlap, piece_at, is_before_end}
use Rattle.check_access.specs.declared.access.Access.{Access}

or_turned : (f g : Bool) → (f || g) ≡ true → (g || f) ≡ true
or_turned f g h = sym (bools.or_comm f g) ∙ h

pub overlap_turned : (V : View) (p q : ℕ) → overlap V p q ≡ true → overlap V q p ≡ true
overlap_turned V p q h =
    let P = piece_at V p in
    let Q = piece_at V q in
    let s = and_parts (P.memory == Q.memory) (is_before_end P Q && is_before_end Q P) h in
    let t = and_parts (is_before_end P Q) (is_before_end Q P) s.1 in
    and_from (Q.memory == P.memory) (is_before_end Q P && is_before_end P Q) (eq-eqb Q.memory P.memory (sym (eqb-true P.memory Q.memory s.0))) (and_from (is_before_end Q P) (is_before_end P Q) t.1 t.0)

pub clash_turned : (V : View) (a b : Access) → views.clash V a b ≡ true → views.clash V b a ≡ true
clash_turned V a b h = ⊎_elim
    (λ e. let s = and_parts (overlap V a.piece b.piece) (changes a.kind || changes b.kind) e in
    or_left (overlap V b.piece a.piece && (changes b.kind || changes a.kind)) ((b.piece == a.piece) && (transfers b.kind || transfers a.kind))
    (and_from (overlap V b.piece a.piece) (changes b.kind || changes a.kind) (overlap_turned V a.piece b.piece s.0) (or_turned (changes a.kind) (changes b.kind) s.1)))
    (λ e. let s = and_parts (a.piece == b.piece) (transfers a.kind || transfers b.kind) e in
    or_right (overlap V b.piece a.piece && (changes b.kind || changes a.kind)) ((b.piece == a.piece) && (transfers b.kind || transfers a.kind))
    (and_from (b.piece == a.piece) (transfers b.kind || transfers a.kind) (eq-eqb b.piece a.piece (sym (eqb-true a.piece b.piece s.0))) (or_turned (transfers a.kind) (transfers b.kind) s.1)))
    (or_cases (overlap V a.piece b.piece && (changes a.kind || changes b.kind)) ((a.piece == b.piece) && (transfers a.kind || transfers b.kind)) h)
