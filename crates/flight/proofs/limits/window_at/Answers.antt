use Rattle.std.proofs.Common.{◌≡◌, ap, subst, ◌∙◌, arith}
use Rattle.std.specs.Prelude.{IfOk}
use Rattle.flight.proofs.Counted.{window_sliced}
use Rattle.flight.proofs.Flies.{first_queues}
use Rattle.flight.specs.Flights.{queues_of}
use Rattle.flight.proofs.limits.window_at.Goals as goal

pub returns : goal.returns
returns c =
    let frames = c.args.frames.now in
    let queues : c.frame.result.now.queues ≡ queues_of frames = ap (λ f. f.queues) c.frame.ensures.frame ∙ first_queues frames c.index-frames-0.result (omega (arith, c.requires.there)) c.index-frames-0.is in
    subst (λ made. IfOk c.window.result (λ frame. frame ≡ made)) (window_sliced frames c.frames_of.result.now c.args.persist.now c.args.depth c.args.w c.args.persisted.now c.frame.result.now queues c.frames_of.ensures.frames) c.window.ensures
