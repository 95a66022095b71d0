use Rattle.std.proofs.Common.{ap, ◌∙◌}
use Rattle.frame.specs.Numbered.{numbered}
use Rattle.frame_meaning.specs.Internal.Held.{all_settled}
use Rattle.frame_meaning.proofs.Exported.{exported}
use Rattle.frame_meaning.proofs.Settling.{exports_meant, settled_count}
use Rattle.frame_meaning.proofs.exports.exports_of.Goals as goal

pub returns-clause-count : goal.returns-clause-count
returns-clause-count c =
    let n = numbered c.args.frame.now in
    settled_count n c.in_ok-held.held c.settle_all.new.held c.in_ok-held.ensures (c.in_ok-settle_all.ensures ∙ ap (all_settled n.units c.in_ok-held.held) c.exports-exports.ensures.exports)

pub returns-clause-bytes : goal.returns-clause-bytes
returns-clause-bytes c =
    let n = numbered c.args.frame.now in
    exports_meant n c.exports-exports.ensures.good c.in_ok-held.held c.settle_all.new.held c.in_ok-held.ensures (c.in_ok-settle_all.ensures ∙ ap (all_settled n.units c.in_ok-held.held) c.exports-exports.ensures.exports)

pub returns-clause-exported : goal.returns-clause-exported
returns-clause-exported c = exported (numbered c.args.frame.now) c.exports-exports.ensures.good

pub returns-in_err-held-clause-exported : goal.returns-in_err-held-clause-exported
returns-in_err-held-clause-exported c = exported (numbered c.args.frame.now) c.exports-exports.ensures.good

pub returns-in_err-settle_all-clause-exported : goal.returns-in_err-settle_all-clause-exported
returns-in_err-settle_all-clause-exported c = exported (numbered c.args.frame.now) c.exports-exports.ensures.good
