use Rattle.std.proofs.Common.{◌≡◌, ◌*◌}
use Rattle.device_cache.specs.Repeats.{repeated}
use Rattle.device_cache.proofs.contents.append_strips.Given as goal

abbrev pub invariant-loop-done : goal.invariant-loop-done
invariant-loop-done l = l.bytes.items ≡ repeated l.word (l._done * 1024)
