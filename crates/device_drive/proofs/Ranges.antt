-- A move that a tender draws is one of the device, and leaves nodes and timelines as they are.
use Rattle.std.proofs.Common.{◌≡◌, ◌*◌, ◌+◌, ◌<◌, true, false, length, get_or, nat_le, nat_lt, slice_get, refl, ap, ◌∙◌, subst, arith}
use Rattle.std.specs.Option.{option_map_or}
use Rattle.std.proofs.lemmas.Bool.{and_from, lt-ltb, le-leb}
use Rattle.std.proofs.lemmas.List.{get_or-map, length-map}
use Rattle.std.proofs.lemmas.Option.{slice_get-get_or}
use Rattle.base.specs.declared.cache_move.CacheMove.{CacheMove}
use Rattle.base.specs.declared.event.Event.TheVariants.{Move}
use Rattle.device_cache.specs.Draws.{Moves}
use Rattle.device_drive.specs.Internal.Keepers.{Keeps, Calm}
use Rattle.device_drive.specs.Tended.{agents_of, sizes_of}
use Rattle.device_drive.specs.declared.keeper.Keeper.{Keeper}
use Rattle.device_model.specs.Devices.{Device, state_of}
use Rattle.device_model.specs.Histories.{moved}
use Rattle.device_model.specs.Steps.{may_move}
use Rattle.device_model.proofs.Moving.{lines_alone}
use Rattle.device_model.proofs.Running.{moves_by}
use Rattle.program.specs.Limits.{memory_bytes}
use Rattle.program.specs.declared.program.Memory.TheVariants.{Plain}
use Rattle.program.specs.declared.program.Program.{Program}

pub may : (program : Program) (m : CacheMove) → Moves (agents_of program) (sizes_of program) m → may_move program m ≡ true
may program m moves =
    let r = m.range in
    let there : r.memory < length program.memories = omega (arith, moves.there, length-map program.memories memory_bytes) in
    let is = slice_get-get_or program.memories r.memory (Plain 0) there in
    let size : get_or (sizes_of program) r.memory 0 ≡ memory_bytes (get_or program.memories r.memory (Plain 0)) = get_or-map memory_bytes program.memories r.memory (Plain 0) 0 there in
    and_from (nat_lt m.agent (8 * length program.queues)) (option_map_or (λ m. nat_le (r.start + r.len) (memory_bytes m)) (slice_get program.memories r.memory) false)
    (lt-ltb m.agent (8 * length program.queues) moves.known)
    (ap (λ found. option_map_or (λ m. nat_le (r.start + r.len) (memory_bytes m)) found false) is ∙ le-leb (r.start + r.len) (memory_bytes (get_or program.memories r.memory (Plain 0))) (omega (arith, moves.within, size)))

-- a move of the keeper is one of the program
pub of_program : (keeper : Keeper) (program : Program) (m : CacheMove) → Keeps keeper program → Moves keeper.agents keeper.sizes m → Moves (agents_of program) (sizes_of program) m
of_program keeper program m keeps move = subst (λ sizes. Moves (agents_of program) sizes m) keeps.sizes (subst (λ agents. Moves agents keeper.sizes m) keeps.agents move)

pub calm_move : (d : Device) (m : CacheMove) → Moves (agents_of d.program) (sizes_of d.program) m → Calm d (moved d (Move m))
calm_move d m move =
    let is = moves_by d m (may d.program m move) ∙ lines_alone (state_of d) m in
    record { program = refl; phase = ap (λ s. s.phase) is; counter = ap (λ s. s.counter) is }
