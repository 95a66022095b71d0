-- Operations over other numbers, and their operands.
use Rattle.std.proofs.Common.{◌≡◌, ◌≢◌, ℕ, ◌+◌, ◌==◌, true, false, [], ◌∷◌, length, get_or, refl, sym, ap, ap₂, ◌∙◌, subst, eq-eqb, arith}
use Rattle.std.specs.List.{All}
use Rattle.std.proofs.Math.Seq.{get_or-append_seam}
use Rattle.std.proofs.lemmas.Bool.{false≢true}
use Rattle.std.proofs.lemmas.List.{length-append, get_or_append_left}
use Rattle.std.proofs.lemmas.List.Elements.{All-append, All-cons, All-nil}
use Rattle.std.proofs.lemmas.List.Folds.{list_any_at}
use Rattle.base.specs.InPlace.{in_place}
use Rattle.base.specs.Operands.{sources_of, destination_of, operands_of, mapped, touches}
use Rattle.base.specs.declared.op.Op.{Op}
use Rattle.base.specs.declared.op.Op.TheVariants.{FillBuffer, ClearImage, CopyBuffer, CopyImage, BufferToImage, ImageToBuffer, Ramp, Map, Combine, Select, Convert, Box3, Halve, Histogram, Draw}

-- OVER OTHER NUMBERS

-- operands that are renumbered stand for what they stood for
module _ {R S T : Type 0} (f : R → S) (g : S → T) (h : R → T) where
  pub mapped_again : (op : Op R) → All (λ r. g (f r) ≡ h r) (operands_of op) → mapped g (mapped f op) ≡ mapped h op
  mapped_again (FillBuffer dst offset size word) all = ap (λ (d : T). FillBuffer d offset size word) (all 0 dst (omega arith))
  mapped_again (ClearImage dst value) all = ap (λ (d : T). ClearImage d value) (all 0 dst (omega arith))
  mapped_again (CopyBuffer src dst src_offset dst_offset size) all = ap₂ (λ (s d : T). CopyBuffer s d src_offset dst_offset size) (all 0 dst (omega arith)) (all 1 dst (omega arith))
  mapped_again (CopyImage src dst src_x src_y dst_x dst_y width height) all = ap₂ (λ (s d : T). CopyImage s d src_x src_y dst_x dst_y width height) (all 0 dst (omega arith)) (all 1 dst (omega arith))
  mapped_again (BufferToImage src dst offset) all = ap₂ (λ (s d : T). BufferToImage s d offset) (all 0 dst (omega arith)) (all 1 dst (omega arith))
  mapped_again (ImageToBuffer src dst offset) all = ap₂ (λ (s d : T). ImageToBuffer s d offset) (all 0 dst (omega arith)) (all 1 dst (omega arith))
  mapped_again (Ramp dst base dx dy) all = ap (λ (d : T). Ramp d base dx dy) (all 0 dst (omega arith))
  mapped_again (Map src dst fun value) all = ap₂ (λ (s d : T). Map s d fun value) (all 0 dst (omega arith)) (all 1 dst (omega arith))
  mapped_again (Combine a b dst fun) all = ap₂ (λ (x y : T). Combine x y (g (f dst)) fun) (all 0 dst (omega arith)) (all 1 dst (omega arith)) ∙ ap (λ (d : T). Combine (h a) (h b) d fun) (all 2 dst (omega arith))
  mapped_again (Select mask a b dst) all = ap₂ (λ (m x : T). Select m x (g (f b)) (g (f dst))) (all 0 dst (omega arith)) (all 1 dst (omega arith)) ∙ ap₂ (λ (y d : T). Select (h mask) (h a) y d) (all 2 dst (omega arith)) (all 3 dst (omega arith))
  mapped_again (Convert src dst) all = ap₂ (λ (s d : T). Convert s d) (all 0 dst (omega arith)) (all 1 dst (omega arith))
  mapped_again (Box3 src dst) all = ap₂ (λ (s d : T). Box3 s d) (all 0 dst (omega arith)) (all 1 dst (omega arith))
  mapped_again (Halve src dst) all = ap₂ (λ (s d : T). Halve s d) (all 0 dst (omega arith)) (all 1 dst (omega arith))
  mapped_again (Histogram src dst) all = ap₂ (λ (s d : T). Histogram s d) (all 0 dst (omega arith)) (all 1 dst (omega arith))
  mapped_again (Draw dst clear rects) all = ap (λ (d : T). Draw d clear rects) (all 0 dst (omega arith))

-- OPERANDS

module _ {R : Type 0} (P : R → Type 0) (op : Op R) (all : All P (operands_of op)) where
  one_more : length (operands_of op) ≡ length (sources_of op) + 1
  one_more = length-append (sources_of op) (destination_of op ∷ [])

  pub at_destination : P (destination_of op)
  at_destination = subst P (get_or-append_seam (sources_of op) (destination_of op) [] (destination_of op)) (all (length (sources_of op)) (destination_of op) (omega (arith, one_more)))

  pub at_sources : All P (sources_of op)
  at_sources = λ k d lt. subst P (get_or_append_left (sources_of op) (destination_of op ∷ []) d k lt) (all k d (omega (arith, one_more, lt)))

pub operands_all : {R : Type 0} (P : R → Type 0) (op : Op R) → All P (sources_of op) → P (destination_of op) → All P (operands_of op)
operands_all P op sources destination = All-append P (sources_of op) (destination_of op ∷ []) sources (All-cons P (destination_of op) [] destination (All-nil P))

pub each_touched : (op : Op ℕ) → All (λ r. touches r op ≡ true) (operands_of op)
each_touched op = λ k d lt. list_any_at (λ x. x == get_or (operands_of op) k d) (operands_of op) k d lt (eq-eqb (get_or (operands_of op) k d) (get_or (operands_of op) k d) refl)

-- no source is the destination
pub sources_apart : (op : Op ℕ) → in_place op ≡ false → All (λ r. r ≢ destination_of op) (sources_of op)
sources_apart op none = λ k d lt same. false≢true (sym none ∙ list_any_at (λ source. source == destination_of op) (sources_of op) k d lt (eq-eqb (get_or (sources_of op) k d) (destination_of op) same))
