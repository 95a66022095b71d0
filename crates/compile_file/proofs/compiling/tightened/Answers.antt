use Rattle.frame.specs.Numbered.{numbered}
use Rattle.compile_file.proofs.TightLemmas.{as_tight}
use Rattle.compile_file.proofs.compiling.tightened.Goals as goal

pub returns : goal.returns
returns c =
    let tight = c.in_ok-tighten.ensures in
    let laws = c.wait_laws.ensures in
    as_tight (numbered c.args.good.now) c.args.made.kept c.args.made.placement c.args.made.program.program c.in_ok-tighten.field-0.program c.requires tight.stands tight.tight tight.tightened laws.means laws.in_order
