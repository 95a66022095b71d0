use Rattle.std.proofs.Common.{◌≡◌, ◌∙◌, ◌≤◌, length, sym, subst, arith}
use Rattle.device_cache.specs.Internal.Uses.{uses}
use Rattle.device_cache.specs.Tables.{Table, caches_of, slot_at, junk_of}
use Rattle.device_cache.specs.Internal.Kept.{view_of}
use Rattle.device_cache.proofs.Storing.{stored_tiled, stored_bytes}
use Rattle.device_cache.proofs.table.Segments.empty.Goals as goal

unnamed : (c : goal.After-empty_slot) → uses c.args.slot c.self.inside.segments.items ≡ 0
unnamed c = let P : Table → Type 0 = λ t. uses c.args.slot t.segments ≡ 0 in subst P (sym c.self.view_is) c.requires.unnamed

longer : (c : goal.After-empty_slot) → length c.self.inside.slots.items ≤ length c.empty_slot.new.slots.items
longer c = omega (arith, c.empty_slot.ensures.length)

pub invariant_of-self : goal.invariant_of-self
invariant_of-self c =
    let i = c.self.inside in
    let inv = c.self.invariant in
    let e = c.empty_slot.ensures in
    record {
      tiled = stored_tiled i.slots.items c.empty_slot.new.slots.items c.args.slot (longer c) e.others i.total i.segments.items inv.tiled (unnamed c);
      apart = inv.apart;
      agents = inv.agents;
      junk = omega (arith, inv.junk, e.length);
      counts = inv.counts ∙ sym e.length;
      counted = inv.counted;
      few = omega (arith, inv.few, e.length);
      cuts = inv.cuts;
      stores = omega (arith, inv.stores, e.len, e.capacity);
      counts_room = inv.counts_room;
    }

pub returns-clause-junk : goal.returns-clause-junk
unfolding junk_of
returns-clause-junk c =
    let P : Table → Type 0 = λ t. slot_at c.empty_slot.new.slots.items 0 ≡ slot_at t.slots 0 in
    subst P c.self.view_is (c.empty_slot.ensures.others 0 c.self.invariant.junk (λ (e : 0 ≡ c.args.slot). absurd (omega (arith, c.requires.later, e))))

pub returns-clause-bytes : goal.returns-clause-bytes
returns-clause-bytes c =
    let i = c.self.inside in
    let inv = c.self.invariant in
    let e = c.empty_slot.ensures in
    let new : Table = record (view_of i) { slots = c.empty_slot.new.slots.items } in
    let P : Table → Type 0 = λ t. caches_of new ≡ caches_of t in
    subst P c.self.view_is (stored_bytes (view_of i) c.empty_slot.new.slots.items i.stores_left c.args.slot (longer c) e.others inv.tiled inv.apart inv.agents (unnamed c))
