use Rattle.top.proofs.run.run_frame.Goals as goal

pub returns : goal.returns
returns g c = record { frame = c.run_compiled.ensures.frame c.args.tight c.in_ok-made.ensures }
