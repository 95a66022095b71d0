-- Renamed passes name the same units, further on.
use Rattle.std.proofs.Common.{◌≡◌, ℕ, zero, suc, ◌+◌, ◌-◌, ◌&&◌, ◌++◌, List, [], ◌∷◌, map, get_or, nat_lt, Bool, true, false, Option, Some, None, if◌then◌else◌, refl, sym, ap, ap₂, ◌∙◌, arith}
use Rattle.std.specs.List.{All, flat_map, range_with_len}
use Rattle.std.specs.Option.{option_map_or}
use Rattle.std.proofs.lemmas.List.{map-append}
use Rattle.std.proofs.lemmas.List.Elements.{All-head, All-tail}
use Rattle.base.specs.Operands.{operands_of, mapped}
use Rattle.base.specs.declared.op.Op.{Op}
use Rattle.frame.specs.Numbered.{numbered_pass, queue_number, write_each, writes_of}
use Rattle.frame.specs.Units.{Numbering, layer_unit, no_units, span_in, stretch_of, unit_in, unit_of, units_in, units_of}
use Rattle.frame.specs.Unknowns.{has_layer, is_known, is_known_unit, picks_one}
use Rattle.frame.specs.declared.frame.Frame.{Frame}
use Rattle.frame.specs.declared.frame.Pass.{Pass}
use Rattle.frame.specs.declared.frame.Spot.{Spot}
use Rattle.frame.specs.declared.frame.Write.{Write}
use Rattle.frame.specs.declared.numbered.NumberedPass.{NumberedPass}
use Rattle.frame.specs.declared.numbered.Stretch.{Stretch}
use Rattle.law_window.proofs.KnownPass.{IsKnownPass}
use Rattle.base.proofs.Operands.{mapped_same, mapped_twice}
use Rattle.law_window.proofs.Stretches.{moved_stretch}
use Rattle.law_window.specs.Passes.{renamed_pass, renamed_spot, renamed_write}
use Rattle.law_window.specs.Moved.{moved, moved_write}

-- NUMBERS FROM ONE ON

range_moved : (n first count : ℕ) → range_with_len (n + first) count ≡ map (λ x. n + x) (range_with_len first count)
range_moved n first zero = refl
range_moved n first (suc count) = let e : (n + first) + 1 ≡ n + (first + 1) = omega arith in ap (λ xs. (n + first) ∷ xs) (ap (λ k. range_with_len k count) e ∙ range_moved n (first + 1) count)

-- SPOTS

has_one : (o : Option Stretch) (test : Stretch → Bool) → option_map_or test o false ≡ true → (s : Stretch) × (o ≡ Some s) × (test s ≡ true)
has_one None test e = absurd cc
has_one (Some s) test e = (s, refl, e)

module _ (small large : Numbering) (rename : List ℕ → List ℕ) (n : ℕ) (moves : (name : List ℕ) (s : Stretch) → stretch_of small name ≡ Some s → stretch_of large (rename name) ≡ Some (moved_stretch n s)) where
  layer_moved : (s : Stretch) (layer : ℕ) → nat_lt layer s.layers ≡ true → layer_unit (moved_stretch n s) layer ≡ n + layer_unit s layer
  layer_moved s layer e =
      let moved_on : layer_unit (moved_stretch n s) layer ≡ (n + s.first) + layer = ap (λ b. if b then (n + s.first) + layer else 0) e in
      let was : layer_unit s layer ≡ s.first + layer = ap (λ b. if b then s.first + layer else 0) e in
      omega arith

  right : (a b : Bool) → (a && b) ≡ true → b ≡ true
  right true b e = e
  right false b e = absurd cc

  in_moved : (layer : Option ℕ) (s : Stretch) → has_layer layer s ≡ true → units_in (span_in layer (moved_stretch n s)) ≡ map (λ u. n + u) (units_in (span_in layer s))
  in_moved None s e =
      let size : n + s.first + s.layers - (n + s.first) ≡ s.first + s.layers - s.first = omega arith in
      ap (range_with_len (n + s.first)) size ∙ range_moved n s.first (s.first + s.layers - s.first)
  in_moved (Some layer) s e =
      let unit = layer_unit s layer in
      let size : n + unit + 1 - (n + unit) ≡ unit + 1 - unit = omega arith in
      ap (λ u. range_with_len u (u + 1 - u)) (layer_moved s layer (right s.is_image (nat_lt layer s.layers) e))
      ∙ ap (range_with_len (n + unit)) size ∙ range_moved n unit (unit + 1 - unit)

  pub known_moved : (spot : Spot) → is_known small spot ≡ true → is_known large (renamed_spot rename spot) ≡ true
  known_moved spot e =
      let found = has_one (stretch_of small spot.name) (has_layer spot.layer) e in
      ap (λ o. option_map_or (has_layer spot.layer) o false) (moves spot.name found.0 found.1) ∙ same spot.layer found.0 found.2
    where
      same : (layer : Option ℕ) (s : Stretch) → has_layer layer s ≡ true → has_layer layer (moved_stretch n s) ≡ true
      same None s f = refl
      same (Some layer) s f = f

  pub units_moved : (spot : Spot) → is_known small spot ≡ true → units_of large (renamed_spot rename spot) ≡ map (λ u. n + u) (units_of small spot)
  units_moved spot e =
      let found = has_one (stretch_of small spot.name) (has_layer spot.layer) e in
      ap (λ o. units_in (option_map_or (span_in spot.layer) o no_units)) (moves spot.name found.0 found.1)
      ∙ in_moved spot.layer found.0 found.2
      ∙ sym (ap (λ o. map (λ u. n + u) (units_in (option_map_or (span_in spot.layer) o no_units))) found.1)

  pub known_unit_moved : (spot : Spot) → is_known_unit small spot ≡ true → is_known_unit large (renamed_spot rename spot) ≡ true
  known_unit_moved spot e =
      let found = has_one (stretch_of small spot.name) (picks_one spot.layer) e in
      ap (λ o. option_map_or (picks_one spot.layer) o false) (moves spot.name found.0 found.1) ∙ same spot.layer found.0 found.2
    where
      same : (layer : Option ℕ) (s : Stretch) → picks_one layer s ≡ true → picks_one layer (moved_stretch n s) ≡ true
      same None s f = f
      same (Some layer) s f = f

  -- a spot without a layer has its one unit where its resource begins, which has a layer
  module _ (some : (name : List ℕ) (s : Stretch) → stretch_of small name ≡ Some s → nat_lt 0 s.layers ≡ true) where
    pub unit_moved : (spot : Spot) → is_known_unit small spot ≡ true → unit_of large (renamed_spot rename spot) ≡ n + unit_of small spot
    unit_moved spot e =
        let found = has_one (stretch_of small spot.name) (picks_one spot.layer) e in
        ap (λ o. option_map_or (unit_in spot.layer) o 0) (moves spot.name found.0 found.1)
        ∙ by_layer spot.layer found.0 found.2 (some spot.name found.0 found.1)
        ∙ sym (ap (λ o. n + option_map_or (unit_in spot.layer) o 0) found.1)
      where
        by_layer : (layer : Option ℕ) (s : Stretch) → picks_one layer s ≡ true → nat_lt 0 s.layers ≡ true → unit_in layer (moved_stretch n s) ≡ n + unit_in layer s
        by_layer None s f first = layer_moved s 0 first
        by_layer (Some layer) s f first = layer_moved s layer (right s.is_image (nat_lt layer s.layers) f)

    -- PASSES

    pub reads_moved : (spots : List Spot) → All (λ spot. is_known small spot ≡ true) spots → flat_map (units_of large) (map (renamed_spot rename) spots) ≡ map (λ u. n + u) (flat_map (units_of small) spots)
    reads_moved [] known = refl
    reads_moved (spot ∷ spots) known = ap₂ (λ a b. a ++ b) (units_moved spot (All-head (λ s. is_known small s ≡ true) spot spots known)) (reads_moved spots (All-tail (λ s. is_known small s ≡ true) spot spots known)) ∙ sym (map-append (λ u. n + u) (units_of small spot) (flat_map (units_of small) spots))

    each_moved : (fresh : Bool) (us : List ℕ) → map (write_each fresh) (map (λ u. n + u) us) ≡ map (moved_write n) (map (write_each fresh) us)
    each_moved fresh [] = refl
    each_moved fresh (u ∷ us) = ap (λ ws. write_each fresh (n + u) ∷ ws) (each_moved fresh us)

    writes_moved : (writes : List (Write Spot)) → All (λ w. is_known small w.what ≡ true) writes → flat_map (writes_of large) (map (renamed_write rename) writes) ≡ map (moved_write n) (flat_map (writes_of small) writes)
    writes_moved [] known = refl
    writes_moved (w ∷ writes) known = ap₂ (λ a b. a ++ b) (ap (map (write_each w.fresh)) (units_moved w.what (All-head (λ x. is_known small x.what ≡ true) w writes known)) ∙ each_moved w.fresh (units_of small w.what)) (writes_moved writes (All-tail (λ x. is_known small x.what ≡ true) w writes known)) ∙ sym (map-append (moved_write n) (writes_of small w) (flat_map (writes_of small) writes))

    abbrev KnownOp : Op Spot → Type 0
    KnownOp op = All (λ spot. is_known_unit small spot ≡ true) (operands_of op)

    op_moved : (op : Op Spot) → KnownOp op → mapped (unit_of large) (mapped (renamed_spot rename) op) ≡ mapped (λ u. n + u) (mapped (unit_of small) op)
    op_moved op known = mapped_twice (unit_of large) (renamed_spot rename) op ∙ mapped_same (λ s. unit_of large (renamed_spot rename s)) (λ s. n + unit_of small s) op (λ k d lt. unit_moved (get_or (operands_of op) k d) (known k d lt)) ∙ sym (mapped_twice (λ u. n + u) (unit_of small) op)

    ops_moved : (ops : List (Op Spot)) → All KnownOp ops → map (mapped (unit_of large)) (map (mapped (renamed_spot rename)) ops) ≡ map (mapped (λ u. n + u)) (map (mapped (unit_of small)) ops)
    ops_moved [] known = refl
    ops_moved (op ∷ ops) known = ap₂ (λ o os. o ∷ os) (op_moved op (All-head KnownOp op ops known)) (ops_moved ops (All-tail KnownOp op ops known))

    -- the numbered pass of a renamed one is the numbered pass, moved
    pub pass_moved : (frame window : Frame) (name : List ℕ) (pass : Pass) → IsKnownPass frame small pass → queue_number window pass.queue ≡ queue_number frame pass.queue → numbered_pass window large (renamed_pass rename name pass) ≡ moved n (numbered_pass frame small pass)
    pass_moved frame window name pass known queue = same_pass queue (reads_moved pass.reads known.reads) (writes_moved pass.writes known.writes) (ops_moved pass.ops known.ops)
      where
        same_pass : {q r : ℕ} {rs ss : List ℕ} {ws vs : List (Write ℕ)} {os ps : List (Op ℕ)} → q ≡ r → rs ≡ ss → ws ≡ vs → os ≡ ps → ◌≡◌ {A = NumberedPass} (record { queue = q; reads = rs; writes = ws; ops = os; side_effect = pass.side_effect }) (record { queue = r; reads = ss; writes = vs; ops = ps; side_effect = pass.side_effect })
        same_pass a b c d = cc
