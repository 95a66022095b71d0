use Rattle.std.proofs.Common.{[], arith}
use Rattle.std.proofs.lemmas.List.{get_or_read}
use Rattle.device_clear.proofs.Simplifying.{kept_loaded, keeps_one}
use Rattle.device_clear.proofs.simpler.kept.Goals as goal

pub returns : goal.returns
returns c =
    let shapes = c.args.shapes.now in
    let op = c.args.op.now in
    let loaded = c.args.loaded.now in
    let src = c.in_ok-src.src in
    let dst = c.in_ok-src.dst in
    let entry = get_or_read loaded 0 c.index-loaded-0.result (let n = kept_loaded shapes op loaded c.requires src dst c.in_ok-src.ensures in omega (arith, n)) c.index-loaded-0.is [] in
    keeps_one shapes op loaded c.requires src dst c.in_ok-value.value c.shape_at.result c.shape_at.ensures c.index-loaded-0.result entry c.in_ok-value.ensures.bytes c.in_ok-value.ensures.small c.in_ok-src.ensures
