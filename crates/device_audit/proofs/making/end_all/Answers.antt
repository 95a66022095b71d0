use Rattle.device_audit.proofs.Made.{last_held, program_stays, rest_held, same_so_far}
use Rattle.device_audit.proofs.making.end_all.Goals as goal
use Rattle.base.specs.declared.event.Event.TheVariants.{End}

pub loop-done-preserved : goal.loop-done-preserved
loop-done-preserved c =
    let old = c.args.device.now in
    let d = c.loop-done.device in
    let e = c.end-ended.new.device in
    let n = c.in-Some.done.node in
    let all = c.loop-done.begun.items in
    let rest = c.pop.new.self.items in
    record {
      program = program_stays old d e (End n) c.end-ended.result c.end-ended.ensures.follows c.loop-done.invariant.program;
      same = same_so_far old d e n c.end-ended.result (c.loop-done.invariant.within n (last_held all rest c.in-Some.done c.in-Some.ensures.items)) c.end-ended.ensures.follows c.loop-done.invariant.same;
      within = λ m some. c.loop-done.invariant.within m (rest_held all rest c.in-Some.done c.in-Some.ensures.items m some);
    }
