use Rattle.std.proofs.Common.{◌∙◌, get_or, sym, ap, subst, arith, below_more}
use Rattle.device_cache.specs.Places.{cut_in}
use Rattle.device_cache.specs.Tables.{Table, size_of, address, is_cut, InMemory}
use Rattle.device_cache.proofs.Rooms.{toll_le}
use Rattle.device_cache.proofs.Calls.{keeps_cut}
use Rattle.device_cache.proofs.table.Segments.cut_places.Goals as goal

pub first_address-at-requires : goal.first_address-at-requires
unfolding size_of
first_address-at-requires c =
    let place = get_or c.args.cuts.now c.loop-place.place-index (0, 0) in
    let r = c.requires.within c.loop-place.place-index (0, 0) c.loop-place-test.true in
    let P : Table → Type 0 = λ t. InMemory t place.0 place.1 0 in
    subst P (sym c.loop-place.invariant.same) (record { there = r.there; within = r.within })

pub loop-place-preserved : goal.loop-place-preserved
unfolding is_cut address
loop-place-preserved c =
    let i = c.loop-place.invariant in
    let e = c.cut.ensures in
    let t = c.loop-place.self in
    let place = get_or c.args.cuts.now c.loop-place.place-index (0, 0) in
    record {
      same = e.same ∙ ap (λ (t : Table). record t { segments = c.cut.new.self.segments; cuts_left = c.cut.new.self.cuts_left }) i.same;
      rows = λ x. e.rows x ∙ i.rows x;
      kept = λ x h. e.kept x (i.kept x h);
      here = below_more _ _
          (λ k lt. (keeps_cut t c.cut.new.self e.same e.kept).cuts (get_or c.args.cuts.now k (0, 0)).0 (get_or c.args.cuts.now k (0, 0)).1 (i.here k lt))
          (ap (cut_in c.cut.new.self.segments) (ap (λ (t : Table). address t place.0 place.1) e.same ∙ sym c.first_address-at.ensures.is) ∙ e.here);
      left = omega (arith, i.left, e.left, toll_le (cut_in t.segments c.first_address-at.result));
    }
