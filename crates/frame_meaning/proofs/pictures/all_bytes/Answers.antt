use Rattle.std.proofs.Common.{◌<◌, subst, sym, ap, ◌∙◌}
use Rattle.frame.specs.Valid.{shapes_in}
use Rattle.frame.specs.Numbered.{numbered}
use Rattle.frame_meaning.specs.Meaning.{after_passes, after_ops, all_bytes}
use Rattle.frame_meaning.specs.Internal.Sizes.{AreSized}
use Rattle.frame_meaning.proofs.Steps.{bytes_on, are_sized}
use Rattle.frame_meaning.proofs.pictures.all_bytes.Goals as goal

pub loop-pass-init : goal.loop-pass-init
loop-pass-init c =
    let n = numbered c.args.frame.now in
    record {
      bytes = ap (λ b. after_passes (shapes_in n) b n.passes) c.in_ok-bytes.ensures;
      sized = subst (AreSized (shapes_in n)) (sym c.in_ok-bytes.ensures) (are_sized n c.pass_count-passes.ensures.good);
    }

pub loop-pass-preserved : goal.loop-pass-preserved
loop-pass-preserved c =
    let n = numbered c.args.frame.now in
    record {
      bytes = bytes_on (shapes_in n) n.passes c.loop-pass.pass c.loop-pass.bytes c.run.new.self (all_bytes n) c.ops_of.result.now (subst (λ m. c.loop-pass.pass < m) c.pass_count-passes.ensures.count c.loop-pass-test.true) c.ops_of.ensures.ops c.loop-pass.invariant.bytes (c.run.ensures.bytes ∙ ap (λ s. after_ops s c.loop-pass.bytes c.ops_of.result.now) c.shapes.ensures);
      sized = subst (λ s. AreSized s c.run.new.self) c.shapes.ensures c.run.ensures.sized;
    }
