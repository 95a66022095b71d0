use Rattle.std.proofs.Common.{◌∙◌, ap}
use Rattle.frame.proofs.Exports.{exports_fit}
use Rattle.frame.proofs.valid.ValidFrame.exports.Goals as goal

pub returns-clause-few : goal.returns-clause-few
returns-clause-few c = exports_fit c.self.inside.frame c.deref.result.now c.self.invariant.0 (c.deref.ensures ∙ ap (λ p. p.exports) c.self.invariant.1)
