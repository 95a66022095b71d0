use Rattle.std.proofs.Common.{◌≡◌, ◌*◌, ◌<◌, length, ap, subst, arith}
use Rattle.flight_file.proofs.Printing.{begins, frame_here, in_this, window_end}
use Rattle.flight_file.proofs.Texts.{text_on}
use Rattle.flight_file.proofs.print.add_window.Goals as goal
use Rattle.flight_file.specs.Internal.Flying.{text_before}

pub overflow_mul-from : goal.overflow_mul-from
overflow_mul-from c =
    let F = c.args.windows.now in
    let fly = c.count-count.ensures.fly in
    let lt = begins F c.args.w c.args.depth fly c.requires.windows.depth c.requires.there in
    omega (arith, lt, fly.few)

pub overflow_add-from : goal.overflow_add-from
overflow_add-from c =
    let F = c.args.windows.now in
    let fly = c.count-count.ensures.fly in
    let lt = begins F c.args.w c.args.depth fly c.requires.windows.depth c.requires.there in
    omega (arith, lt, fly.few, fly.shallow, c.requires.windows.depth)

pub overflow_cast-frames : goal.overflow_cast-frames
overflow_cast-frames c =
    let many = ap length c.requires.windows.frames in
    omega (arith, many, c.count-count.ensures.fly.few)

pub loop-i-init : goal.loop-i-init
loop-i-init c = subst (λ d. c.args.text.now ≡ text_before c.args.windows.now (c.args.w * d)) c.requires.windows.depth c.requires.text

pub bounds-frames-i : goal.bounds-frames-i
bounds-frames-i c = omega (arith, c.loop-i-test.true, c.min-to.ensures)

pub add_frame-requires-clause-there : goal.add_frame-requires-clause-there
add_frame-requires-clause-there c =
    let lt : c.loop-i.i < length c.args.frames.now = omega (arith, c.loop-i-test.true, c.min-to.ensures) in
    frame_here c.args.windows.now.frames c.args.frames.now c.loop-i.i c.index-frames-i.result c.requires.windows.frames lt c.index-frames-i.is

pub add_frame-requires-clause-prints : goal.add_frame-requires-clause-prints
add_frame-requires-clause-prints c =
    c.requires.prints c.loop-i.i (in_this c.args.windows.now.depth c.args.depth c.loop-i.i c.args.w c.min-to.result c.requires.windows.depth c.loop-i.auto.i c.loop-i-test.true (omega (arith, c.min-to.ensures)))

pub loop-i-preserved : goal.loop-i-preserved
loop-i-preserved c =
    let lt : c.loop-i.i < length c.args.frames.now = omega (arith, c.loop-i-test.true, c.min-to.ensures) in
    let at = frame_here c.args.windows.now.frames c.args.frames.now c.loop-i.i c.index-frames-i.result c.requires.windows.frames lt c.index-frames-i.is in
    text_on c.args.windows.now c.loop-i.i c.index-frames-i.result c.loop-i.text c.add_frame.new.text at c.in_ok-add_frame.ensures c.loop-i.invariant

pub returns : goal.returns
returns c =
    let F = c.args.windows.now in
    let many = ap length c.requires.windows.frames in
    let lt : c.args.w * c.args.depth < length c.args.frames.now = omega (arith, begins F c.args.w c.args.depth c.count-count.ensures.fly c.requires.windows.depth c.requires.there, many) in
    window_end F c.args.w c.args.depth (length c.args.frames.now) c.min-to.result c.loop-i.i c.loop-i.text c.requires.windows.depth many lt c.min-to.ensures c.loop-i-test.false c.loop-i.auto.i-end c.loop-i.invariant
