use Rattle.std.proofs.lemmas.Result.{on_ok_weaker}
use Rattle.compile_timeline.proofs.Writing.{adds_signal}
use Rattle.compile_timeline.proofs.submission.Submission.signal.Goals as goal

pub returns-clause-added : goal.returns-clause-added
returns-clause-added c = on_ok_weaker c.end.result (adds_signal c.args.self.now c.end.new.self c.args.signal) c.end.ensures
