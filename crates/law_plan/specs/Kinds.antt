-- Which kinds of accesses are whose.
use Rattle.std.specs.Prelude.{Bool, true, false}
use Rattle.check_access.specs.declared.access.AccessKind.{AccessKind}
use Rattle.check_access.specs.declared.access.AccessKind.TheVariants.{Load, Store, Transition, Discard, Release, Acquire}

-- of commands and host reads
abbrev pub is_plain : AccessKind → Bool
is_plain (Load agent layout) = true
is_plain (Store agent layout) = true
is_plain kind = false

-- of what stands before a group
abbrev pub is_entry : AccessKind → Bool
is_entry (Transition layouts) = true
is_entry (Discard layout) = true
is_entry (Acquire handover) = true
is_entry kind = false

abbrev pub is_release : AccessKind → Bool
is_release (Release handover) = true
is_release kind = false
