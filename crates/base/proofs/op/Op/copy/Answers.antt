use Rattle.std.proofs.Common.{rules, ◌≡◌, IfOk, refl, subst}
use Rattle.base.specs.Operands.{mapped}
use Rattle.base.specs.declared.op.Op.{Op}
use Rattle.base.specs.declared.op.Op.TheVariants.{FillBuffer, ClearImage, CopyBuffer, CopyImage, BufferToImage, ImageToBuffer, Ramp, Map, Combine, Select, Convert, Box3, Halve, Histogram, Draw}
use Rattle.base.proofs.op.Op.copy.Goals as goal

-- over the same operands it is the same
mapped_same : {R : Type 0} (op : Op R) → mapped (λ x. x) op ≡ op
mapped_same (FillBuffer dst offset size word) = refl
mapped_same (ClearImage dst value) = refl
mapped_same (CopyBuffer src dst src_offset dst_offset size) = refl
mapped_same (CopyImage src dst src_x src_y dst_x dst_y width height) = refl
mapped_same (BufferToImage src dst offset) = refl
mapped_same (ImageToBuffer src dst offset) = refl
mapped_same (Ramp dst base dx dy) = refl
mapped_same (Map src dst fun value) = refl
mapped_same (Combine a b dst fun) = refl
mapped_same (Select mask a b dst) = refl
mapped_same (Convert src dst) = refl
mapped_same (Box3 src dst) = refl
mapped_same (Halve src dst) = refl
mapped_same (Histogram src dst) = refl
mapped_same (Draw dst clear rects) = refl

pub returns : goal.returns
returns g c = subst (λ op. IfOk c.mapped.result (λ copy. copy ≡ op)) (mapped_same c.args.self.now) (c.mapped.ensures (λ x. x) (λ x y gives. search rules))
