use Rattle.std.proofs.Common.{ap}
use Rattle.report.specs.Exports.{export_text}
use Rattle.compile_file.proofs.Turns.{one_more}
use Rattle.top.proofs.readbacks.add_exports.Goals as goal
use Rattle.device_run.specs.Runs.{read_by}

pub loop-k-preserved : goal.loop-k-preserved
loop-k-preserved c =
    one_more (λ k. export_text c.args.good.now k (read_by c.args.device.now k)) c.loop-k.k c.args.text.now c.loop-k.text _ c.export_text.new.text c.loop-k.invariant (ap (export_text c.args.good.now c.loop-k.k) c.bytes_of.ensures) c.in_ok-export_text.ensures.ok
