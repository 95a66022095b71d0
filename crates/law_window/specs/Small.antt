-- What a window has to be counted for: no more than a frame may have.
use Rattle.std.specs.Prelude.{◌≤◌, length}
use Rattle.std.specs.List.{sum_by}
use Rattle.base.specs.Maxima.{max_units, max_passes, max_ops, max_rects, max_exports, max_resource_bytes}
use Rattle.base.specs.Operands.{rect_count}
use Rattle.base.specs.Shapes.{bytes_of}
use Rattle.frame.specs.Numbered.{NumberedFrame}

pub record IsSmall (frame : NumberedFrame) : Type 0 where
  pub units : length frame.units ≤ max_units
  pub bytes : sum_by (λ u. bytes_of u.shape) frame.units ≤ max_resource_bytes
  pub passes : length frame.passes ≤ max_passes
  pub ops : sum_by (λ pass. length pass.ops) frame.passes ≤ max_ops
  pub rects : sum_by (λ pass. sum_by rect_count pass.ops) frame.passes ≤ max_rects
  pub exports : length frame.exports ≤ max_exports
