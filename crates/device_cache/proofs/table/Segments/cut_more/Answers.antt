use Rattle.std.proofs.Common.{◌∙◌, refl, arith}
use Rattle.device_cache.proofs.Calls.{keeps_itself, keeps_all}
use Rattle.device_cache.proofs.table.Segments.cut_more.Goals as goal

pub loop-place-init : goal.loop-place-init
loop-place-init c = record { bytes = refl; keeps = keeps_itself c.args.self.now; cuts = omega arith; stores = refl }

pub loop-place-preserved : goal.loop-place-preserved
loop-place-preserved c =
    let i = c.loop-place.invariant in
    let e = c.cut_place.ensures in
    record {
      bytes = e.bytes ∙ i.bytes;
      keeps = keeps_all c.args.self.now c.loop-place.self c.cut_place.new.self i.keeps e.keeps;
      cuts = omega (arith, i.cuts, e.cuts);
      stores = e.stores ∙ i.stores;
    }
