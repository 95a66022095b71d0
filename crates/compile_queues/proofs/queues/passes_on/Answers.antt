use Rattle.std.proofs.Common.{◌+◌, ◌++◌, [], ◌∷◌, ap, sym, ◌∙◌}
use Rattle.std.proofs.lemmas.List.{length_push}
use Rattle.compile_queues.proofs.Walking.{passes_more}
use Rattle.compile_queues.proofs.queues.passes_on.Goals as goal

pub loop-pass-preserved : goal.loop-pass-preserved
loop-pass-preserved c =
    let pass = c.in-Some.pass in
    record {
      count = ap (λ n. n + 1) c.loop-pass.invariant.count ∙ sym (length_push c.loop-pass.yielded pass);
      list = passes_more c.args.names.now c.loop-pass.p c.loop-pass.yielded c.loop-pass.list c.push.new.self pass c.name_for-name.result c.loop-pass.invariant.count c.name_for-name.ensures c.loop-pass.invariant.list (c.in_ok-push.ensures.ok ∙ ap (λ x. c.loop-pass.list ++ x ∷ []) c.moved_to.ensures);
    }
