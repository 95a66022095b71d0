use Rattle.std.proofs.Common.{◌≡◌, ◌∙◌, ◌<◌, false, sym, subst, arith}
use Rattle.device_cache.specs.Places.{cut_in}
use Rattle.device_cache.specs.Tables.{Table}
use Rattle.device_cache.proofs.Tiling.{laid, same_tiled}
use Rattle.device_cache.proofs.table.Segments.cut.Goals as goal

pub cut_at-requires-clause-laid : goal.cut_at-requires-clause-laid
cut_at-requires-clause-laid c = let i = c.self.inside in rw c.self.invariant.counts (laid i.total i.slots.items i.segments.items c.self.invariant.tiled)

pub invariant_of-self : goal.invariant_of-self
invariant_of-self c =
    let i = c.self.inside in
    let P : Table → Type 0 = λ t. cut_in t.segments c.args.at ≡ false → 0 < t.cuts_left in
    let room = subst P (sym c.self.view_is) c.requires.room in
    let inv = c.self.invariant in
    let e = c.cut_at.ensures in
    record {
      tiled = same_tiled i.total i.slots.items i.segments.items c.cut_at.new.segments.items inv.tiled e.ascending e.covers e.rows e.kept;
      apart = inv.apart;
      agents = inv.agents;
      junk = inv.junk;
      counts = e.counts ∙ inv.counts;
      counted = e.counted;
      few = inv.few;
      cuts = omega (arith, inv.cuts, c.if-cut_at.ensures.len, e.capacity, room c.if-cut_at.ensures.cut);
      stores = inv.stores;
      counts_room = omega (arith, inv.counts_room, e.counts_len, e.counts_capacity);
    }

pub invariant_of-self-else-cut_at : goal.invariant_of-self-else-cut_at
invariant_of-self-else-cut_at c =
    let i = c.self.inside in
    let inv = c.self.invariant in
    let e = c.cut_at.ensures in
    record {
      tiled = same_tiled i.total i.slots.items i.segments.items c.cut_at.new.segments.items inv.tiled e.ascending e.covers e.rows e.kept;
      apart = inv.apart;
      agents = inv.agents;
      junk = inv.junk;
      counts = e.counts ∙ inv.counts;
      counted = e.counted;
      few = inv.few;
      cuts = omega (arith, inv.cuts, c.if-cut_at.ensures.len, e.capacity);
      stores = inv.stores;
      counts_room = omega (arith, inv.counts_room, e.counts_len, e.counts_capacity);
    }
