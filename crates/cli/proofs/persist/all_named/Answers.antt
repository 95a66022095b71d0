use Rattle.std.proofs.Common.{sym, ◌∙◌}
use Rattle.cli.proofs.Named.{each_more, name_more, no_name}
use Rattle.cli.proofs.persist.all_named.Goals as goal

pub returns-in-None : goal.returns-in-None
returns-in-None c = no_name c.args.entries.now c.loop-part.part-index _ c.as_bytes.result.now c.loop-part-test.true c.as_bytes.ensures.value (sym c.in-None.is ∙ c.read.ensures)

pub loop-part-preserved : goal.loop-part-preserved
loop-part-preserved c =
    let entries = c.args.entries.now in
    let reads = sym c.in-Some.is ∙ c.read.ensures in
    record {
      names = name_more entries c.loop-part.part-index _ c.as_bytes.result.now c.loop-part-test.true c.as_bytes.ensures.value c.in-Some.name c.loop-part.names c.push.new.self reads c.in_ok-push-in-Some.ensures.ok c.loop-part.invariant.names;
      each = each_more entries c.loop-part.part-index _ c.as_bytes.result.now c.loop-part-test.true c.as_bytes.ensures.value c.in-Some.name reads c.loop-part.invariant.each;
    }
