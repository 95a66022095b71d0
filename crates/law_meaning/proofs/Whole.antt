-- Operations of a pass on bytes that differ only in units that the pass stores whole before all else.
use Rattle.std.proofs.Common.{◌≡◌, ◌≢◌, ◌⊎◌, inl, inr, ⊎_elim, ℕ, ◌==◌, Bool, true, false, List, [], ◌∷◌, get_or, Some, cond, refl, sym, ap, ◌∙◌, subst}
use Rattle.std.specs.List.{All, find}
use Rattle.std.specs.Option.{option_map_or}
use Rattle.std.proofs.lemmas.Bool.{and_parts, cases_eq, eqb-true, false≢true}
use Rattle.std.proofs.lemmas.List.Elements.{All-head, All-tail}
use Rattle.base.specs.Applied.{bytes_at, after_op}
use Rattle.base.specs.Operands.{sources_of, destination_of, operands_of, mapped, touches}
use Rattle.base.specs.Shapes.{shape_at}
use Rattle.base.specs.Wholes.{is_whole}
use Rattle.base.specs.declared.op.Op.{Op}
use Rattle.base.specs.declared.shape.Shape.{Shape}
use Rattle.law_meaning.proofs.Operations.{at_destination, at_sources, each_touched, sources_apart}
use Rattle.law_meaning.proofs.States.{AreSized, IsFit, still_sized, kept_at, alike_old, alike_whole}
use Rattle.frame.specs.Uses.{stores_whole, starts_whole}
use Rattle.frame_meaning.specs.Meaning.{after_ops}
use Rattle.kernel.specs.Anew.{IgnoresOld}

module _ (shapes : List Shape) where
  -- whether the first operation that touches a unit stores it whole
  pub at_touch : (op : Op ℕ) (ops : List (Op ℕ)) (u : ℕ) → touches u op ≡ true → starts_whole shapes (op ∷ ops) u ≡ true → (destination_of op ≡ u) × (is_whole (mapped (shape_at shapes) op) ≡ true)
  at_touch op ops u touch e =
      let both = and_parts (destination_of op == u) (is_whole (mapped (shape_at shapes) op)) (sym (ap (λ t. option_map_or (stores_whole shapes u) (cond t (Some op) (find (touches u) ops)) false) touch) ∙ e) in
      (eqb-true (destination_of op) u both.0, both.1)

  pub past_touch : (op : Op ℕ) (ops : List (Op ℕ)) (u : ℕ) → touches u op ≡ false → starts_whole shapes (op ∷ ops) u ≡ true → starts_whole shapes ops u ≡ true
  past_touch op ops u touch e = sym (ap (λ t. option_map_or (stores_whole shapes u) (cond t (Some op) (find (touches u) ops)) false) touch) ∙ e

  -- the unit has the same bytes, or is stored whole before it is touched otherwise
  abbrev pub Settles : List (Op ℕ) → List (List ℕ) → List (List ℕ) → ℕ → Type 0
  Settles ops b d u = (bytes_at b u ≡ bytes_at d u) ⊎ (starts_whole shapes ops u ≡ true)

  module _ (ignores : (op : Op Shape) → is_whole op ≡ true → IgnoresOld op) (P : ℕ → Type 0) where
    module _ (op : Op ℕ) (ops : List (Op ℕ)) (fit : IsFit shapes op) (of : All P (operands_of op)) (b d : List (List ℕ)) (B : AreSized shapes b) (D : AreSized shapes d) (settles : (u : ℕ) → P u → Settles (op ∷ ops) b d u) where
      same_source : All (λ s. bytes_at b s ≡ bytes_at d s) (sources_of op)
      same_source = λ k e lt. go (get_or (sources_of op) k e) (settles (get_or (sources_of op) k e) (at_sources P op of k e lt)) (at_sources (λ r. touches r op ≡ true) op (each_touched op) k e lt) (sources_apart op fit.apart k e lt)
        where
          go : (s : ℕ) → Settles (op ∷ ops) b d s → touches s op ≡ true → s ≢ destination_of op → bytes_at b s ≡ bytes_at d s
          go s (inl same) touch other = same
          go s (inr whole) touch other = absurd (other (sym (at_touch op ops s touch whole).0))

      same_destination : bytes_at (after_op shapes b op) (destination_of op) ≡ bytes_at (after_op shapes d op) (destination_of op)
      same_destination = go (settles (destination_of op) (at_destination P op of))
        where
          go : Settles (op ∷ ops) b d (destination_of op) → bytes_at (after_op shapes b op) (destination_of op) ≡ bytes_at (after_op shapes d op) (destination_of op)
          go (inl same) = alike_old shapes op fit b d B D same_source same
          go (inr whole) = alike_whole shapes op fit b d B D same_source (ignores (mapped (shape_at shapes) op) (at_touch op ops (destination_of op) (at_destination (λ r. touches r op ≡ true) op (each_touched op)) whole).1)

      next_settles : (u : ℕ) → P u → Settles ops (after_op shapes b op) (after_op shapes d op) u
      next_settles u p = ⊎_elim
          (λ (e : u ≡ destination_of op). inl (subst (λ v. bytes_at (after_op shapes b op) v ≡ bytes_at (after_op shapes d op) v) (sym e) same_destination))
          (λ (other : u ≢ destination_of op). go other (settles u p))
          (cases_eq u (destination_of op))
        where
          past : u ≢ destination_of op → starts_whole shapes (op ∷ ops) u ≡ true → (t : Bool) → touches u op ≡ t → starts_whole shapes ops u ≡ true
          past other whole true touch = absurd (other (sym (at_touch op ops u touch whole).0))
          past other whole false touch = past_touch op ops u touch whole

          go : u ≢ destination_of op → Settles (op ∷ ops) b d u → Settles ops (after_op shapes b op) (after_op shapes d op) u
          go other (inl same) = inl (kept_at shapes op fit b u other ∙ same ∙ sym (kept_at shapes op fit d u other))
          go other (inr whole) = inr (past other whole (touches u op) refl)

    pub ops_alike : (ops : List (Op ℕ)) → All (IsFit shapes) ops → All (λ op. All P (operands_of op)) ops → (b d : List (List ℕ)) → AreSized shapes b → AreSized shapes d → ((u : ℕ) → P u → Settles ops b d u) → (u : ℕ) → P u → bytes_at (after_ops shapes b ops) u ≡ bytes_at (after_ops shapes d ops) u
    ops_alike [] fit of b d B D settles u p = ⊎_elim (λ same. same) (λ whole. absurd (false≢true whole)) (settles u p)
    ops_alike (op ∷ ops) fit of b d B D settles u p =
        let f = All-head (IsFit shapes) op ops fit in
        let o = All-head (λ (x : Op ℕ). All P (operands_of x)) op ops of in
        ops_alike ops (All-tail (IsFit shapes) op ops fit) (All-tail (λ (x : Op ℕ). All P (operands_of x)) op ops of) (after_op shapes b op) (after_op shapes d op) (still_sized shapes op f b B) (still_sized shapes op f d D) (next_settles op ops f o b d B D settles) u p
