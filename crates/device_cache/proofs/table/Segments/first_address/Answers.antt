use Rattle.std.proofs.Common.{◌≡◌, ◌+◌, ◌≤◌, sym, ap, subst, arith}
use Rattle.std.proofs.lemmas.List.{get_or_read}
use Rattle.device_cache.specs.declared.memory.Memory.{Memory}
use Rattle.device_cache.specs.Tables.{Table, memory_of, size_of, address, InMemory}
use Rattle.device_cache.specs.Internal.Kept.{view_of}
use Rattle.device_cache.proofs.table.Segments.first_address.Goals as goal

range : (c : goal.After-index) → InMemory (view_of c.self.inside) c.args.memory c.args.start c.args.len
range c = let P : Table → Type 0 = λ t. InMemory t c.args.memory c.args.start c.args.len in subst P (sym c.self.view_is) c.requires

here : (c : goal.After-index) → c.index.result.now ≡ memory_of (view_of c.self.inside) c.args.memory
here c = get_or_read c.self.inside.memories.items c.args.memory c.index.result.now (range c).there c.index.ensures (record { start = 0; size = 0 })

within : (c : goal.After-index) → c.index.result.now.start + c.args.start + c.args.len ≤ c.self.inside.total
unfolding size_of
within c = omega (arith, (range c).within, c.self.invariant.apart.inside c.args.memory (record { start = 0; size = 0 }) (range c).there, ap (λ (m : Memory). m.start) (here c), ap (λ (m : Memory). m.size) (here c))

pub overflow_add-result : goal.overflow_add-result
overflow_add-result c = omega (arith, within c)

pub returns-clause-is : goal.returns-clause-is
unfolding address
returns-clause-is c = let P : Table → Type 0 = λ t. c.index.result.now.start + c.args.start ≡ address t c.args.memory c.args.start in subst P c.self.view_is (ap (λ (m : Memory). m.start + c.args.start) (here c))

pub returns-clause-within : goal.returns-clause-within
returns-clause-within c = let P : Table → Type 0 = λ t. c.index.result.now.start + c.args.start + c.args.len ≤ t.total in subst P c.self.view_is (within c)
