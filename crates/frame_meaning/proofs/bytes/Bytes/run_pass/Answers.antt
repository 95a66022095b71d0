use Rattle.std.proofs.Common.{◌<◌, ◌≤◌, length, subst, sym}
use Rattle.frame.specs.Numbered.{numbered}
use Rattle.frame_meaning.specs.Internal.Held.{IsAt}
use Rattle.frame_meaning.proofs.Remaining.{whole_pass, no_op}
use Rattle.frame_meaning.proofs.bytes.Bytes.run_pass.Goals as goal

pub loop-k-init : goal.loop-k-init
loop-k-init c =
    let n = numbered c.args.frame.now in
    subst (λ ops. IsAt n ops c.args.self.now) (sym (whole_pass n.passes c.args.pass c.requires.pass)) c.requires.at

pub step-requires-clause-k : goal.step-requires-clause-k
step-requires-clause-k c = subst (λ ops. c.loop-k.k < length ops) c.ops_of-k-end.ensures.at c.loop-k-test.true

pub returns : goal.returns
returns c =
    let n = numbered c.args.frame.now in
    subst (λ ops. IsAt n ops c.loop-k.self) (no_op n.passes c.args.pass c.loop-k.k (subst (λ ops. length ops ≤ c.loop-k.k) c.ops_of-k-end.ensures.at c.loop-k-test.false)) c.loop-k.invariant
