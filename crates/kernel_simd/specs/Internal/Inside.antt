-- What a target has inside.
use Rattle.std.specs.Prelude.{ℕ, List}
use Rattle.kernel_simd.specs.Internal.Targets.{bytes_in, HasRoomFor}
use Rattle.kernel_simd.specs.declared.target.Target.TheInside.{Inside}

abbrev pub its_bytes : Inside → List ℕ
its_bytes i = bytes_in i.len i.memory

abbrev pub IsTarget : Inside → Type 0
IsTarget i = HasRoomFor i.len i.memory
