-- What a file may have at most.
use Rattle.std.specs.Prelude.{ℕ}

-- OF FRAMES AND PROGRAMS

abbrev pub max_queues : ℕ
max_queues = 4

-- rectangles of all draws
abbrev pub max_rects : ℕ
max_rects = 4096

-- texels along a side of an image
abbrev pub max_side : ℕ
max_side = 4096

-- 16 MiB in a buffer or in one layer of an image
abbrev pub max_size : ℕ
max_size = 16777216

-- OF FRAMES

-- layers of an image
abbrev pub max_layers : ℕ
max_layers = 8

-- buffers and layers of images
abbrev pub max_units : ℕ
max_units = 256

abbrev pub max_passes : ℕ
max_passes = 256

-- operations of all passes
abbrev pub max_ops : ℕ
max_ops = 256

abbrev pub max_exports : ℕ
max_exports = 32

-- 256 MiB in all resources
abbrev pub max_resource_bytes : ℕ
max_resource_bytes = 268435456

-- OF PROGRAMS

abbrev pub max_memories : ℕ
max_memories = 512

abbrev pub max_pieces : ℕ
max_pieces = 512

abbrev pub max_nodes : ℕ
max_nodes = 20000

abbrev pub max_readbacks : ℕ
max_readbacks = 32

-- 768 MiB in all memories
abbrev pub max_memory_bytes : ℕ
max_memory_bytes = 805306368
