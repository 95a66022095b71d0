use Rattle.std.proofs.Common.{sym, subst, arith}
use Rattle.device_cache.specs.Tables.{Table, size_of, InMemory}
use Rattle.device_cache.proofs.table.Segments.checked_len.Goals as goal

pub overflow_cast-result : goal.overflow_cast-result
unfolding size_of
overflow_cast-result c =
    let P : Table → Type 0 = λ t. InMemory t c.args.memory c.args.start c.args.len in
    let range = subst P (sym c.self.view_is) c.requires in
    omega (arith, range.within, c.self.invariant.apart.inside c.args.memory (record { start = 0; size = 0 }) range.there)
