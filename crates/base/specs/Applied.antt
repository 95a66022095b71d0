-- What an operation leaves in its destination.
use Rattle.std.specs.Prelude.{ℕ, List, [], ◌++◌, Option, Some, None, ◌+◌, ◌-◌, ◌*◌, ◌%◌, ◌==◌, map, take, drop, slice_range, slice_index_or, slice_set, count_by, if◌then◌else◌}
use Rattle.base.specs.Kernels.{fun_of, box3, halved, is_inside, drawn}
use Rattle.base.specs.Operands.{sources_of, destination_of, mapped}
use Rattle.base.specs.Shapes.{bytes_of, shape_at}
use Rattle.base.specs.Texels.{canvas_of, modulus, painted, picture}
use Rattle.base.specs.declared.grid.Grid.{Grid}
use Rattle.base.specs.declared.op.Op.{Op}
use Rattle.base.specs.declared.op.Op.TheVariants.{FillBuffer, ClearImage, CopyBuffer, CopyImage, BufferToImage, ImageToBuffer, Ramp, Map, Combine, Select, Convert, Box3, Halve, Histogram, Draw}
use Rattle.base.specs.declared.shape.Shape.{Shape}
use Rattle.base.specs.declared.shape.Shape.TheVariants.{Buffer}

-- old bytes with so many from an offset on in the place of theirs
abbrev pub replaced : List ℕ → ℕ → ℕ → List ℕ → List ℕ
replaced old offset size bytes = take offset old ++ bytes ++ drop (offset + size) old

-- what a draw begins with
abbrev pub begun : Grid → Option ℕ → List ℕ → ℕ → ℕ → ℕ
begun g (Some value) old x y = value % modulus g.texel
begun g None old x y = picture g old x y

-- from the bytes of up to three sources, in the order of the fields, and the destination's old bytes
abbrev pub effect : Op Shape → List ℕ → List ℕ → List ℕ → List ℕ → List ℕ
effect (FillBuffer dst offset size word) first second third old = replaced old offset size (painted (canvas_of (Buffer size)) (λ x y. word))
effect (ClearImage dst value) first second third old = painted (canvas_of dst) (λ x y. value)
effect (CopyBuffer src dst src_offset dst_offset size) first second third old = replaced old dst_offset size (slice_range first src_offset (src_offset + size))
effect (CopyImage src dst src_x src_y dst_x dst_y width height) first second third old = painted (canvas_of dst) (λ x y. if is_inside dst_x dst_y width height x y then picture (canvas_of src) first (src_x + (x - dst_x)) (src_y + (y - dst_y)) else picture (canvas_of dst) old x y)
effect (BufferToImage src dst offset) first second third old = slice_range first offset (offset + bytes_of dst)
effect (ImageToBuffer src dst offset) first second third old = replaced old offset (bytes_of src) first
effect (Ramp dst base dx dy) first second third old = painted (canvas_of dst) (λ x y. base + x * dx + y * dy)
effect (Map src dst fun value) first second third old = let g = canvas_of dst in painted g (λ x y. fun_of g.texel fun (picture g first x y) (value % modulus g.texel))
effect (Combine a b dst fun) first second third old = let g = canvas_of dst in painted g (λ x y. fun_of g.texel fun (picture g first x y) (picture g second x y))
effect (Select mask a b dst) first second third old = let g = canvas_of dst in painted g (λ x y. if picture g first x y == 0 then picture g third x y else picture g second x y)
effect (Convert src dst) first second third old = painted (canvas_of dst) (picture (canvas_of src) first)
effect (Box3 src dst) first second third old = let g = canvas_of dst in painted g (box3 g.width g.height (picture g first))
effect (Halve src dst) first second third old = painted (canvas_of dst) (halved (picture (canvas_of src) first))
effect (Histogram src dst) first second third old = painted (canvas_of dst) (λ v row. count_by (λ texel. texel == v) first)
effect (Draw dst clear rects) first second third old = let g = canvas_of dst in painted g (drawn g.texel rects (begun g clear old))

-- the same of an operation over numbers: the shapes of what they name, and the bytes of the sources in their order
abbrev pub applied : List Shape → Op ℕ → List (List ℕ) → List ℕ → List ℕ
applied shapes op sources old = effect (mapped (shape_at shapes) op) (slice_index_or sources 0 []) (slice_index_or sources 1 []) (slice_index_or sources 2 []) old

-- THE BYTES OF ALL RESOURCES

abbrev pub bytes_at : List (List ℕ) → ℕ → List ℕ
bytes_at bytes n = slice_index_or bytes n []

abbrev pub after_op : List Shape → List (List ℕ) → Op ℕ → List (List ℕ)
after_op shapes bytes op = slice_set bytes (destination_of op) (applied shapes op (map (bytes_at bytes) (sources_of op)) (bytes_at bytes (destination_of op)))
