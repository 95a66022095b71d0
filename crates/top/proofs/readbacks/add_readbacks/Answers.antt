use Rattle.std.proofs.Common.{ap}
use Rattle.report.specs.Readbacks.{readback_text}
use Rattle.compile_file.proofs.Turns.{one_more}
use Rattle.top.proofs.readbacks.add_readbacks.Goals as goal
use Rattle.device_run.specs.Runs.{read_by}

pub loop-k-preserved : goal.loop-k-preserved
loop-k-preserved c =
    one_more (λ k. readback_text k (read_by c.args.device.now k)) c.loop-k.k c.args.text.now c.loop-k.text _ c.readback_text.new.text c.loop-k.invariant (ap (readback_text c.loop-k.k) c.bytes_of.ensures) c.in_ok-readback_text.ensures.ok
