-- When accesses clash.
use Rattle.std.proofs.Common.{◌≡◌, ◌⊎◌, ℕ, ◌+◌, ◌==◌, ◌&&◌, ◌||◌, true, false, refl, sym, ap, ◌∙◌, subst, ⊎_elim, eq-eqb, arith}
use Rattle.std.proofs.lemmas.Bool.{and_from, and_parts, or_cases, or_left, or_right, false≢true, lt-ltb}
use Rattle.base.specs.Shapes.{bytes_of}
use Rattle.law_plan.proofs.KindTables.{plain_keeps}
use Rattle.law_plan.specs.Kinds.{is_plain}
use Rattle.check_access.specs.AccessKinds.{changes, transfers}
use Rattle.check_access.specs.ValidView.{Has, ValidView}
use Rattle.check_access.specs.Views.{View, clash, is_before_end, overlap, piece_at}
use Rattle.check_access.specs.declared.access.Access.{Access}

-- the piece of an access has bytes, so it overlaps itself
pub itself : (V : View) → ValidView V → (n : ℕ) (a : Access) → Has V n a → overlap V a.piece a.piece ≡ true
itself V S n a (i, e) =
    let P = piece_at V a.piece in
    let some = S.some a.piece (S.known n i a e) in
    let before : is_before_end P P ≡ true = lt-ltb P.offset (P.offset + bytes_of P.shape) (omega (arith, some)) in
    and_from (P.memory == P.memory) (is_before_end P P && is_before_end P P) (eq-eqb P.memory P.memory refl) (and_from (is_before_end P P) (is_before_end P P) before before)

-- a change clashes with what touches its bytes
pub change_clash : (V : View) (a b : Access) → overlap V a.piece b.piece ≡ true → changes a.kind ≡ true → clash V a b ≡ true
change_clash V a b over change = or_left (overlap V a.piece b.piece && (changes a.kind || changes b.kind)) ((a.piece == b.piece) && (transfers a.kind || transfers b.kind))
    (and_from (overlap V a.piece b.piece) (changes a.kind || changes b.kind) over (or_left (changes a.kind) (changes b.kind) change))

-- and a transfer with what touches its piece
transfer_clash : (V : View) (a b : Access) → a.piece ≡ b.piece → transfers a.kind ≡ true → clash V a b ≡ true
transfer_clash V a b same transfer = or_right (overlap V a.piece b.piece && (changes a.kind || changes b.kind)) ((a.piece == b.piece) && (transfers a.kind || transfers b.kind))
    (and_from (a.piece == b.piece) (transfers a.kind || transfers b.kind) (eq-eqb a.piece b.piece same) (or_left (transfers a.kind) (transfers b.kind) transfer))

-- of a piece that has bytes
pub piece_clash : (V : View) (p : ℕ) (a b : Access) → overlap V p p ≡ true → a.piece ≡ p → b.piece ≡ p → (changes a.kind || transfers a.kind) ≡ true → clash V a b ≡ true
piece_clash V p a b over pa pb moves = ⊎_elim
    (λ e. change_clash V a b (subst (λ z. overlap V z b.piece ≡ true) (sym pa) (subst (λ z. overlap V p z ≡ true) (sym pb) over)) e)
    (λ e. transfer_clash V a b (pa ∙ sym pb) e)
    (or_cases (changes a.kind) (transfers a.kind) moves)

-- of two plain accesses that clash one changes bytes
pub plain_clash : (V : View) (a b : Access) → is_plain a.kind ≡ true → is_plain b.kind ≡ true → clash V a b ≡ true → (changes a.kind ≡ true) ⊎ (changes b.kind ≡ true)
plain_clash V a b e f c = ⊎_elim
    (λ h. or_cases (changes a.kind) (changes b.kind) (and_parts (overlap V a.piece b.piece) (changes a.kind || changes b.kind) h).1)
    (λ h. absurd (false≢true (sym keeps ∙ (and_parts (a.piece == b.piece) (transfers a.kind || transfers b.kind) h).1)))
    (or_cases (overlap V a.piece b.piece && (changes a.kind || changes b.kind)) ((a.piece == b.piece) && (transfers a.kind || transfers b.kind)) c)
  where
    keeps : (transfers a.kind || transfers b.kind) ≡ false
    keeps = ap (λ z. z || transfers b.kind) (plain_keeps a.kind e) ∙ plain_keeps b.kind f
