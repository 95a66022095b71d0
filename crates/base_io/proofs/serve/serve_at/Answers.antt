use Rattle.std.proofs.Common.{arith, ◌<◌, length}
use Rattle.base_io.proofs.Serving.{serves_at}
use Rattle.base_io.proofs.serve.serve_at.Goals as goal

pub returns : goal.returns
returns g c =
    let inside : c.args.at < length c.args.taps.now.items = omega (arith, c.args.taps.now.ok.0) in
    serves_at _ _ _ c.args.taps.now.items c.args.at _ c.index_mut.result.now _ inside c.index_mut.ensures.value c.serve_box.ensures
