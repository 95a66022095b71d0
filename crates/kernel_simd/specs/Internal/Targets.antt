-- Memory of a destination, new or with bytes of its own.
use Rattle.std.specs.Prelude.{◌≡◌, ℕ, ◌≤◌, List, length, replicate, vec_capacity}
use Rattle.kernel_simd.specs.declared.target.Memory.{Memory}
use Rattle.kernel_simd.specs.declared.target.Memory.TheVariants.{New, Used}

-- with room for so many bytes, or with just so many
abbrev pub HasRoomFor : ℕ → Memory → Type 0
HasRoomFor len (New memory) = len ≤ vec_capacity memory
HasRoomFor len (Used bytes) = length bytes.items ≡ len

-- the bytes in it, of which new memory has as many zeros as are asked for
abbrev pub bytes_in : ℕ → Memory → List ℕ
bytes_in len (New memory) = replicate len 0
bytes_in len (Used bytes) = bytes.items
