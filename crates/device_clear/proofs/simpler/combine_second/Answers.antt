use Rattle.std.proofs.Common.{[], arith}
use Rattle.std.proofs.lemmas.List.{get_or_read}
use Rattle.device_clear.proofs.Simplifying.{two_loaded, by_second}
use Rattle.device_clear.proofs.simpler.combine_second.Goals as goal

pub returns : goal.returns
returns c =
    let loaded = c.args.loaded.now in
    let entry = get_or_read loaded 1 c.index-loaded-1.result (let n = two_loaded c.args.shapes.now c.args.op.now loaded c.requires c.in-Combine.a c.in-Combine.b c.in-Combine.dst c.in-Combine.fun c.in-Combine.is in omega (arith, n)) c.index-loaded-1.is [] in
    by_second c.args.shapes.now c.args.op.now loaded c.requires c.in-Combine.a c.in-Combine.b c.in-Combine.dst c.in-Combine.fun c.in-Combine.is c.shape_at-3.result c.shape_at-3.ensures c.in_ok-value.value c.index-loaded-1.result entry c.in_ok-value.ensures
