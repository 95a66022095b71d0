use Rattle.std.proofs.Common.{◌≡◌, ◌-◌, ◌<◌, length, sym, subst, arith}
use Rattle.device_cache.specs.Internal.Uses.{uses}
use Rattle.device_cache.specs.Tables.{Table, caches_of, slot_at, junk_of}
use Rattle.device_cache.specs.Internal.Kept.{view_of}
use Rattle.device_cache.proofs.Naming.{new_unnamed}
use Rattle.device_cache.proofs.Tiling.{laid}
use Rattle.device_cache.proofs.Storing.{stored_tiled, stored_bytes}
use Rattle.device_cache.proofs.table.Segments.store.Goals as goal

-- no part names the slot that is to come
none : (c : goal.After-push-noted) → uses (length c.self.inside.slots.items) c.self.inside.segments.items ≡ 0
none c = let i = c.self.inside in new_unnamed (length i.slots.items) i.segments.items (laid i.total i.slots.items i.segments.items c.self.invariant.tiled)

unnamed : (c : goal.After-push-noted) → uses c.store_in-slot.result c.self.inside.segments.items ≡ 0
unnamed c = c.store_in-slot.ensures.unnamed (λ slot. uses slot c.self.inside.segments.items) c.self.invariant.counted (none c)

pub invariant_of-self : goal.invariant_of-self
invariant_of-self c =
    let i = c.self.inside in
    let inv = c.self.invariant in
    let e = c.store_in-slot.ensures in
    let P : Table → Type 0 = λ t. 0 < t.stores_left in
    let room = subst P (sym c.self.view_is) c.requires in
    record {
      tiled = stored_tiled i.slots.items c.store_in-slot.new.slots.items c.store_in-slot.result e.longer e.others i.total i.segments.items inv.tiled (unnamed c);
      apart = inv.apart;
      agents = inv.agents;
      junk = omega (arith, inv.junk, e.longer);
      counts = e.counts;
      counted = e.counted (λ slot. uses slot i.segments.items) inv.counted (none c);
      few = omega (arith, inv.few, e.one, room);
      cuts = inv.cuts;
      stores = omega (arith, inv.stores, e.len, e.capacity, room);
      counts_room = omega (arith, inv.counts_room, e.counts_len, e.counts_capacity, room);
    }

pub returns-clause-junk : goal.returns-clause-junk
unfolding junk_of
returns-clause-junk c =
    let P : Table → Type 0 = λ t. slot_at c.store_in-slot.new.slots.items 0 ≡ slot_at t.slots 0 in
    subst P c.self.view_is (c.store_in-slot.ensures.others 0 c.self.invariant.junk (λ (e : 0 ≡ c.store_in-slot.result). absurd (omega (arith, c.store_in-slot.ensures.later, e))))

pub returns-clause-bytes : goal.returns-clause-bytes
returns-clause-bytes c =
    let i = c.self.inside in
    let inv = c.self.invariant in
    let e = c.store_in-slot.ensures in
    let new : Table = record (view_of i) { slots = c.store_in-slot.new.slots.items; stores_left = i.stores_left - 1 } in
    let P : Table → Type 0 = λ t. caches_of new ≡ caches_of t in
    subst P c.self.view_is (stored_bytes (view_of i) c.store_in-slot.new.slots.items (i.stores_left - 1) c.store_in-slot.result e.longer e.others inv.tiled inv.apart inv.agents (unnamed c))
