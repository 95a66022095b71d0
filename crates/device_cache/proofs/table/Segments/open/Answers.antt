use Rattle.std.proofs.Common.{◌≡◌, ℕ, ◌-◌, List, length, refl, ap, subst, arith}
use Rattle.device_cache.specs.Tables.{Table}
use Rattle.device_cache.specs.Internal.Opened.{IsOpened}
use Rattle.device_cache.proofs.Making.{is_made}
use Rattle.device_cache.proofs.table.Segments.open.Goals as goal

pub returns-clause-made : goal.returns-clause-made
returns-clause-made c =
    let memories = c.lay_out-total.new.memories.items in
    let segments = c.lay_out-total.new.segments.items in
    let slots = c.in_ok-slots.slots.items in
    let total = c.lay_out-total.result in
    let t : Table = record { agents = c.args.agents; memories = memories; total = total; slots = slots; segments = segments; cuts_left = c.args.cuts; stores_left = c.args.stores } in
    let items = c.in_ok-slots.ensures.items in
    let count : length c.deref.result.now - 1 ≡ length c.args.opening = omega (arith, ap length c.deref.ensures.value, ap length items) in
    let P : ℕ → Type 0 = λ n. IsOpened c.deref.result.now n total memories segments in
    let Q : List (List ℕ) → Type 0 = λ xs. IsOpened xs (length c.args.opening) total memories segments in
    is_made t c.args.agents c.args.opening c.args.junk refl items (subst Q c.deref.ensures.value (subst P count c.lay_out-total.ensures.opened))
