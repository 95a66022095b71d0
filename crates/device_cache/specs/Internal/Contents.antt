-- The bytes of each form.
use Rattle.std.specs.Prelude.{ℕ, List}
use Rattle.device_cache.specs.Repeats.{repeated}
use Rattle.device_cache.specs.declared.contents.Form.{Form}
use Rattle.device_cache.specs.declared.contents.Form.TheVariants.{Own, Shared, Repeated}

abbrev pub bytes_of : Form → List ℕ
bytes_of (Own bytes) = bytes.items
bytes_of (Shared bytes) = bytes
bytes_of (Repeated word len) = repeated word len
