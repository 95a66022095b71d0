-- Which resources have no owner.
use Rattle.std.specs.Prelude.{Bool, true, false}
use Rattle.vk.specs.declared.sharing.Sharing.{Sharing}
use Rattle.vk.specs.declared.sharing.Sharing.TheVariants.{Exclusive, Concurrent}

abbrev pub is_shared : Sharing → Bool
is_shared Exclusive = false
is_shared Concurrent = true
