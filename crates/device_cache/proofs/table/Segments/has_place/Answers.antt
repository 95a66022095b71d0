use Rattle.std.proofs.Common.{◌≡◌, ◌<◌, ◌≤◌, length, ap, subst, arith, rules}
use Rattle.std.proofs.lemmas.Bool.{leb-true}
use Rattle.std.proofs.lemmas.List.{get_or_read}
use Rattle.device_cache.specs.declared.memory.Memory.{Memory}
use Rattle.device_cache.specs.Tables.{Table, memory_of, size_of, InMemory}
use Rattle.device_cache.specs.Internal.Kept.{view_of}
use Rattle.device_cache.proofs.table.Segments.has_place.Goals as goal

pub returns : goal.returns
unfolding size_of
returns c e =
    let i = c.self.inside in
    let P : Table → Type 0 = λ t. InMemory t c.args.memory c.args.at 0 in
    let there : c.args.memory < length i.memories.items = search rules in
    let here : c.index.result.now ≡ memory_of (view_of i) c.args.memory = get_or_read i.memories.items c.args.memory c.index.result.now there c.index.ensures (record { start = 0; size = 0 }) in
    let le : c.args.at ≤ c.index.result.now.size = leb-true c.args.at c.index.result.now.size e in
    subst P c.self.view_is (record { there = there; within = omega (arith, le, ap (λ (m : Memory). m.size) here) })
