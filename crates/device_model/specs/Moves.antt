-- What a cache move does to a running device.
use Rattle.std.specs.Prelude.{◌≡◌, true}
use Rattle.base.specs.declared.cache_move.CacheMove.{CacheMove}
use Rattle.base.specs.declared.event.Event.TheVariants.{Move}
use Rattle.device_model.specs.Devices.{Device, state_of}
use Rattle.device_model.specs.Histories.{moved}
use Rattle.device_model.specs.Steps.{lines_moved, may_move}

-- of an agent that is known, in a range of a memory
abbrev pub MovesBy : Device → CacheMove → Type 0
MovesBy d m = may_move d.program m ≡ true → state_of (moved d (Move m)) ≡ lines_moved (state_of d) m
