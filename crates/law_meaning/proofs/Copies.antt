-- The copies of exports, one after another.
use Rattle.std.proofs.Common.{◌≡◌, ◌≢◌, ℕ, zero, suc, ◌+◌, ◌<◌, ◌≤◌, List, [], ◌∷◌, length, map, get_or, slice_get, Some, refl, sym, ap, ◌∙◌, subst, arith}
use Rattle.std.specs.List.{All}
use Rattle.std.proofs.lemmas.List.Elements.{All-head, All-tail}
use Rattle.std.proofs.lemmas.Option.{same_Some}
use Rattle.base.specs.Applied.{bytes_at, after_op}
use Rattle.base.specs.Operands.{operands_of, mapped}
use Rattle.base.specs.Shapes.{bytes_of, shape_at}
use Rattle.base.specs.declared.op.Op.{Op}
use Rattle.base.specs.declared.shape.Shape.{Shape}
use Rattle.law_meaning.proofs.Copying.{copy_mapped, copy_operands, copy_count, copy_other, copy_at}
use Rattle.law_meaning.proofs.Kept.{ops_of}
use Rattle.law_meaning.proofs.Mirrors.{Renumbers}
use Rattle.law_meaning.proofs.States.{AreSized}
use Rattle.frame.specs.Valid.{shapes_in}
use Rattle.frame.specs.Numbered.{NumberedFrame}
use Rattle.compile_groups.specs.Commands.{copy_out, export_command, export_commands}
use Rattle.compile_groups.specs.declared.command.Command.{Command}
use Rattle.frame_meaning.specs.Meaning.{after_ops}

module _ (frame : NumberedFrame) (f : ℕ → ℕ) (shapes others : List Shape) (Has : ℕ → Type 0) (R : Renumbers f shapes others Has) (of_units : (r : ℕ) → r < length frame.units → shape_at shapes r ≡ shape_at (shapes_in frame) r) (held : List (List ℕ)) (H : AreSized (shapes_in frame) held) (count : length (shapes_in frame) ≡ length frame.units) where
  -- before the copies of exports from number k on
  pub record Ready (k : ℕ) (state : List (List ℕ)) : Type 0 where
    pub room : (r : ℕ) → Has r → f r < length state
    pub same : (r : ℕ) → r < length frame.units → Has r → bytes_at state (f r) ≡ bytes_at held r
    pub old : (j : ℕ) → k ≤ j → Has (length frame.units + j) → length (bytes_at state (f (length frame.units + j))) ≡ bytes_of (shape_at shapes (length frame.units + j))

  -- these units are exports from number k on, and have pieces
  pub record AreExports (k : ℕ) (units : List ℕ) : Type 0 where
    pub within : All (λ unit. unit < length frame.units) units
    pub have : All (λ command. All Has (operands_of command.op)) (export_commands frame k units)
    pub sizes : (i : ℕ) → i < length units → bytes_of (shape_at shapes (length frame.units + (k + i))) ≡ bytes_of (shape_at (shapes_in frame) (get_or units i 0))

  module _ (k unit : ℕ) (units : List ℕ) (E : AreExports k (unit ∷ units)) where
    abbrev shape : Shape
    shape = shape_at (shapes_in frame) unit

    inside : unit < length frame.units
    inside = All-head (λ u. u < length frame.units) unit units E.within

    pair_has : Has unit × Has (length frame.units + k)
    pair_has = copy_operands Has shape unit (length frame.units + k) (All-head (λ (c : Command). All Has (operands_of c.op)) (export_command frame k unit) (export_commands frame (suc k) units) E.have)

    next_exports : AreExports (suc k) units
    next_exports = record {
      within = All-tail (λ u. u < length frame.units) unit units E.within;
      have = All-tail (λ (c : Command). All Has (operands_of c.op)) (export_command frame k unit) (export_commands frame (suc k) units) E.have;
      sizes = λ i lt. let e : suc k + i ≡ k + suc i = omega arith in ap (λ m. bytes_of (shape_at shapes (length frame.units + m))) e ∙ E.sizes (suc i) (omega (arith, lt));
    }

    module _ (state : List (List ℕ)) (S : Ready k state) where
      abbrev copied : List (List ℕ)
      copied = after_op others state (copy_out shape (f unit) (f (length frame.units + k)))

      abbrev after : List (List ℕ)
      after = after_op others state (mapped f (copy_out shape unit (length frame.units + k)))

      after_is : after_op others state (mapped f (copy_out shape unit (length frame.units + k))) ≡ copied
      after_is = ap (after_op others state) (copy_mapped f shape unit (length frame.units + k))

      differs : (r : ℕ) → Has r → r ≢ length frame.units + k → f r ≢ f (length frame.units + k)
      differs r has other e = other (R.apart r (length frame.units + k) has pair_has.1 e)

      elsewhere : (r : ℕ) → Has r → r ≢ length frame.units + k → bytes_at after (f r) ≡ bytes_at state (f r)
      elsewhere r has other = ap (λ l. bytes_at l (f r)) after_is ∙ copy_other others state shape (f unit) (f (length frame.units + k)) (f r) (differs r has other)

      next_ready : Ready (suc k) (after_op others state (mapped f (copy_out shape unit (length frame.units + k))))
      next_ready = record {
        room = λ r has. subst (λ m. f r < m) (sym (ap length after_is ∙ copy_count others state shape (f unit) (f (length frame.units + k)))) (S.room r has);
        same = λ r lt has. elsewhere r has (λ e. omega (arith, lt, e)) ∙ S.same r lt has;
        old = λ j le has. ap length (elsewhere (length frame.units + j) has (λ e. omega (arith, le, e))) ∙ S.old j (omega (arith, le)) has;
      }

      stored_here : bytes_at (after_op others state (mapped f (copy_out shape unit (length frame.units + k)))) (f (length frame.units + k)) ≡ bytes_at held unit
      stored_here =
          let from : bytes_at state (f unit) ≡ bytes_at held unit = S.same unit inside pair_has.0 in
          let none : k + 0 ≡ k = omega arith in
          let size : bytes_of (shape_at shapes (length frame.units + k)) ≡ bytes_of shape = sym (ap (λ m. bytes_of (shape_at shapes (length frame.units + m))) none) ∙ E.sizes 0 (omega arith) in
          ap (λ l. bytes_at l (f (length frame.units + k))) after_is
          ∙ copy_at others state shape (f unit) (f (length frame.units + k))
          (R.shape unit pair_has.0 ∙ of_units unit inside)
          (ap length from ∙ H.sized unit (subst (λ m. unit < m) (sym count) inside))
          (S.old k (omega arith) pair_has.1 ∙ size)
          (S.room (length frame.units + k) pair_has.1)
          ∙ from

  abbrev copies : ℕ → List ℕ → List (Op ℕ)
  copies k units = map (mapped f) (ops_of (export_commands frame k units))

  -- a copy stays as it is
  copies_keep : (k : ℕ) (units : List ℕ) → AreExports k units → (state : List (List ℕ)) → Ready k state → (r : ℕ) → Has r → r < length frame.units + k → bytes_at (after_ops others state (copies k units)) (f r) ≡ bytes_at state (f r)
  copies_keep k [] E state S r has lt = refl
  copies_keep k (unit ∷ units) E state S r has lt =
      copies_keep (suc k) units (next_exports k unit units E) (after_op others state (mapped f (copy_out (shape_at (shapes_in frame) unit) unit (length frame.units + k)))) (next_ready k unit units E state S) r has (omega (arith, lt))
      ∙ elsewhere k unit units E state S r has (λ e. omega (arith, lt, e))

  pub copies_run : (k : ℕ) (units : List ℕ) → AreExports k units → (state : List (List ℕ)) → Ready k state → (i unit : ℕ) → slice_get units i ≡ Some unit → bytes_at (after_ops others state (map (mapped f) (ops_of (export_commands frame k units)))) (f (length frame.units + (k + i))) ≡ bytes_at held unit
  copies_run k [] E state S i unit e = absurd cc
  copies_run k (first ∷ units) E state S zero unit e =
      let none : k + 0 ≡ k = omega arith in
      ap (λ m. bytes_at (after_ops others state (copies k (first ∷ units))) (f (length frame.units + m))) none
      ∙ copies_keep (suc k) units (next_exports k first units E) (after_op others state (mapped f (copy_out (shape_at (shapes_in frame) first) first (length frame.units + k)))) (next_ready k first units E state S) (length frame.units + k) (pair_has k first units E).1 (omega arith)
      ∙ stored_here k first units E state S
      ∙ ap (bytes_at held) (same_Some first unit e)
  copies_run k (first ∷ units) E state S (suc i) unit e =
      let more : k + suc i ≡ suc k + i = omega arith in
      ap (λ m. bytes_at (after_ops others state (copies k (first ∷ units))) (f (length frame.units + m))) more
      ∙ copies_run (suc k) units (next_exports k first units E) (after_op others state (mapped f (copy_out (shape_at (shapes_in frame) first) first (length frame.units + k)))) (next_ready k first units E state S) i unit e
