use Rattle.std.proofs.Common.{◌<◌, ◌≤◌, List, get_or, length, sym, ap, subst, arith}
use Rattle.std.proofs.lemmas.List.{get_or_read}
use Rattle.device.proofs.Facts.{memory_small}
use Rattle.device_drive.proofs.sizes.sizes_of.Goals as goal
use Rattle.program.specs.Limits.{memory_bytes}
use Rattle.program.specs.declared.program.Memory.{Memory}
use Rattle.program.specs.declared.program.Memory.TheVariants.{Plain}

pub overflow_cast-size_of : goal.overflow_cast-size_of
overflow_cast-size_of c =
    let program = c.args.program.now in
    let list = c.as_slice-memory-items.result.now in
    let i = c.loop-memory.memory-index in
    let there : i < length program.memories = subst (λ (xs : List Memory). i < length xs) c.as_slice-memory-items.ensures c.loop-memory-test.true in
    let small : memory_bytes (get_or list i (Plain 0)) ≤ 805306368 = subst (λ (xs : List Memory). memory_bytes (get_or xs i (Plain 0)) ≤ 805306368) (sym c.as_slice-memory-items.ensures) (memory_small program c.requires i there) in
    omega (arith, small, c.size_of.ensures, ap memory_bytes (get_or_read list i c.memory-item.result c.loop-memory-test.true c.memory-item.is (Plain 0)))
