use Rattle.std.proofs.Common.{length, ap, arith}
use Rattle.frame.specs.Numbered.{numbered}
use Rattle.compile_record.proofs.Settings.{shapes_count}
use Rattle.compile_record.proofs.whole_program.program_of.Goals as goal

pub all_resources-requires-clause-count : goal.all_resources-requires-clause-count
all_resources-requires-clause-count c =
    let units = c.unit_count-units.ensures.count in
    let exports = ap length c.exports-exports.ensures.exports in
    omega (arith, shapes_count (numbered c.args.frame.now) c.args.groups.now c.requires.of, units, exports)
