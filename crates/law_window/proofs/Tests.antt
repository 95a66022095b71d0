-- Tests on passes whose units begin further on.
use Rattle.std.proofs.Common.{◌≡◌, ℕ, ◌+◌, ◌<◌, ◌==◌, ◌&&◌, ◌||◌, List, [], ◌∷◌, ◌++◌, length, map, get_or, Bool, true, false, Some, if◌then◌else◌, refl, sym, ap, ap₂, ◌∙◌, eq-eqb, ne_eqb, arith, ⊎_elim}
use Rattle.std.specs.List.{All, list_any, find}
use Rattle.std.specs.Option.{option_map_or}
use Rattle.std.proofs.lemmas.Bool.Decides.{eqb_tells}
use Rattle.std.proofs.lemmas.List.Elements.{All-head, All-tail}
use Rattle.base.specs.InPlace.{in_place}
use Rattle.base.specs.Operands.{sources_of, destination_of, operands_of, mapped, touches}
use Rattle.base.specs.Shapes.{shape_at}
use Rattle.base.specs.Wholes.{is_whole}
use Rattle.base.specs.declared.op.Op.{Op}
use Rattle.base.specs.declared.shape.Shape.{Shape}
use Rattle.base.specs.declared.shape.Shape.TheVariants.{Buffer}
use Rattle.frame.specs.Valid.{renews}
use Rattle.frame.specs.Uses.{reads_it, starts_whole, stores_whole, writes_it}
use Rattle.frame.specs.declared.numbered.NumberedPass.{NumberedPass}
use Rattle.base.proofs.Operands.{destination_mapped, mapped_twice, operands_mapped, mapped_same, sources_mapped}
use Rattle.law_window.proofs.Moves.{at_middle}
use Rattle.law_window.specs.Moved.{moved, moved_write}

pub any_mapped : {X Y : Type 0} (f : Y → Bool) (g : X → Y) (h : X → Bool) (xs : List X) → ((x : X) → f (g x) ≡ h x) → list_any f (map g xs) ≡ list_any h xs
any_mapped f g h [] same = refl
any_mapped f g h (x ∷ xs) same = ap₂ (λ a b. a || b) (same x) (any_mapped f g h xs same)

same_number : (n x y : ℕ) → (n + x == n + y) ≡ (x == y)
same_number n x y = ⊎_elim (λ h. eq-eqb (n + x) (n + y) (ap (λ k. n + k) h.1) ∙ sym h.0) (λ h. ne_eqb (n + x) (n + y) (λ e. h.1 (omega (arith, e))) ∙ sym h.0) (eqb_tells x y)

module _ (n : ℕ) where
  abbrev move : ℕ → ℕ
  move x = n + x

  pub writes_moved : (pass : NumberedPass) (x : ℕ) → writes_it (moved n pass) (n + x) ≡ writes_it pass x
  writes_moved pass x = any_mapped (λ w. w.what == n + x) (moved_write n) (λ w. w.what == x) pass.writes (λ w. same_number n w.what x)

  pub reads_moved : (pass : NumberedPass) (x : ℕ) → reads_it (moved n pass) (n + x) ≡ reads_it pass x
  reads_moved pass x = any_mapped (λ r. r == n + x) move (λ r. r == x) pass.reads (λ r. same_number n r x)

  renews_moved : (pass : NumberedPass) (x : ℕ) → renews (n + x) (moved n pass) ≡ renews x pass
  renews_moved pass x = any_mapped (λ w. w.fresh && w.what == n + x) (moved_write n) (λ w. w.fresh && w.what == x) pass.writes (λ w. ap (λ b. w.fresh && b) (same_number n w.what x))

  pub renewed_moved : (passes : List NumberedPass) (x : ℕ) → list_any (renews (n + x)) (map (moved n) passes) ≡ list_any (renews x) passes
  renewed_moved passes x = any_mapped (renews (n + x)) (moved n) (renews x) passes (λ pass. renews_moved pass x)

  touches_moved : (op : Op ℕ) (x : ℕ) → touches (n + x) (mapped move op) ≡ touches x op
  touches_moved op x = ap (list_any (λ y. y == n + x)) (operands_mapped move op) ∙ any_mapped (λ y. y == n + x) move (λ y. y == x) (operands_of op) (λ y. same_number n y x)

  pub in_place_moved : (op : Op ℕ) → in_place (mapped move op) ≡ in_place op
  in_place_moved op = ap₂ (λ d ss. list_any (λ s. s == d) ss) (destination_mapped move op) (sources_mapped move op) ∙ any_mapped (λ s. s == n + destination_of op) move (λ s. s == destination_of op) (sources_of op) (λ s. same_number n s (destination_of op))

-- among other shapes
module _ (shapes-before shapes shapes-after : List Shape) where
  abbrev every : List Shape
  every = shapes-before ++ (shapes ++ shapes-after)

  abbrev step : ℕ → ℕ
  step x = length shapes-before + x

  pub shaped_moved : (op : Op ℕ) → All (λ x. x < length shapes) (operands_of op) → mapped (shape_at every) (mapped step op) ≡ mapped (shape_at shapes) op
  shaped_moved op within = mapped_twice (shape_at every) step op ∙ mapped_same (λ x. shape_at every (step x)) (shape_at shapes) op (λ k d lt. at_middle shapes-before shapes shapes-after (get_or (operands_of op) k d) (Buffer 0) (within k d lt))

  whole_moved : (op : Op ℕ) (x : ℕ) → All (λ y. y < length shapes) (operands_of op) → stores_whole every (step x) (mapped step op) ≡ stores_whole shapes x op
  whole_moved op x within = ap₂ (λ d o. d == step x && is_whole o) (destination_mapped step op) (shaped_moved op within) ∙ ap (λ b. b && is_whole (mapped (shape_at shapes) op)) (same_number (length shapes-before) (destination_of op) x)

  pub starts_moved : (ops : List (Op ℕ)) (x : ℕ) → All (λ op. All (λ y. y < length shapes) (operands_of op)) ops → starts_whole every (map (mapped step) ops) (step x) ≡ starts_whole shapes ops x
  starts_moved [] x within = refl
  starts_moved (op ∷ ops) x within =
      ap (λ b. option_map_or (stores_whole every (step x)) (if b then Some (mapped step op) else find (touches (step x)) (map (mapped step) ops)) false) (touches_moved (length shapes-before) op x)
      ∙ by_test (touches x op) (whole_moved op x (All-head (λ o. All (λ y. y < length shapes) (operands_of o)) op ops within)) (starts_moved ops x (All-tail (λ o. All (λ y. y < length shapes) (operands_of o)) op ops within))
    where
      by_test : (b : Bool) → stores_whole every (step x) (mapped step op) ≡ stores_whole shapes x op → starts_whole every (map (mapped step) ops) (step x) ≡ starts_whole shapes ops x → option_map_or (stores_whole every (step x)) (if b then Some (mapped step op) else find (touches (step x)) (map (mapped step) ops)) false ≡ option_map_or (stores_whole shapes x) (if b then Some op else find (touches x) ops) false
      by_test true here rest = here
      by_test false here rest = rest
