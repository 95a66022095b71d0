use Rattle.std.proofs.Common.{length}
use Rattle.frame.specs.Numbered.{numbered}
use Rattle.frame_cull.proofs.Grow.{units_fit}
use Rattle.frame_cull.proofs.Reach.{exports_make, roots_are, few_rooted}
use Rattle.frame_cull.proofs.culling.roots.Goals as goal

pub root-requires-clause-within : goal.root-requires-clause-within
root-requires-clause-within c = units_fit (numbered c.args.frame.now) (length (numbered c.args.frame.now).passes) c.args.versions.now c.exports.result.now c.requires c.exports.ensures.within

pub root-requires-clause-makers : goal.root-requires-clause-makers
root-requires-clause-makers c = exports_make (numbered c.args.frame.now) c.args.versions.now c.exports.result.now c.in_ok-roots.roots c.requires c.exports.ensures.exports c.exports.ensures.within c.in_ok-roots.ensures.effects

pub returns-clause-few : goal.returns-clause-few
returns-clause-few c = few_rooted c.args.versions.now.makers c.exports.result.now c.in_ok-roots.roots c.root.new.roots c.in_ok-roots.ensures.few c.root.ensures

pub returns-clause-roots : goal.returns-clause-roots
returns-clause-roots c = roots_are (numbered c.args.frame.now) c.args.versions.now c.exports.result.now c.in_ok-roots.roots c.requires c.exports.ensures.exports c.exports.ensures.within c.in_ok-roots.ensures.effects c.root.new.roots c.root.ensures
