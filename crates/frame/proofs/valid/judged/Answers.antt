use Rattle.frame.proofs.Small.{within_as, uses_are}
use Rattle.frame.proofs.valid.judged.Goals as goal

pub use_broken-requires-clause-within : goal.use_broken-requires-clause-within
use_broken-requires-clause-within c = within_as c.args.frame.now c.args.shapes.now c.args.uses.now c.requires.named c.requires.shapes c.requires.uses

pub returns : goal.returns
returns c = uses_are c.args.frame.now c.args.shapes.now c.in_ok-imported.imported c.args.uses.now c.args.exports.now c.use_broken.result c.requires.named c.requires.shapes c.in_ok-imported.ensures c.requires.uses c.requires.exports c.use_broken.ensures
