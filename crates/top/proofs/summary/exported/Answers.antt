use Rattle.std.proofs.Common.{◌<◌, length, arith, ap}
use Rattle.frame.specs.Numbered.{numbered}
use Rattle.program.specs.declared.program.Program.{Program}
use Rattle.device_run.proofs.RunLemmas.{meant}
use Rattle.top.proofs.SummaryLemmas.{export_short}
use Rattle.top.proofs.summary.exported.Goals as goal
use Rattle.device_run.specs.Runs.{read_by}

pub total_of-requires-clause-complete : goal.total_of-requires-clause-complete
total_of-requires-clause-complete c = c.requires.has_run.complete

pub total_of-requires-clause-there : goal.total_of-requires-clause-there
total_of-requires-clause-there c =
    let same = ap (λ (p : Program). length p.readbacks) c.requires.has_run.runs in
    let count = c.requires.compiles.right.readbacks in
    let exports = ap length c.exports.ensures.exports in
    omega (arith, same, count, exports)

pub total_of-requires-clause-few : goal.total_of-requires-clause-few
total_of-requires-clause-few c =
    let exports = ap length c.exports.ensures.exports in
    let few = c.pass_count-good.ensures.good.few_exports in
    omega (arith, exports, few)

pub total_of-requires-clause-short : goal.total_of-requires-clause-short
total_of-requires-clause-short c k lt =
    let frame = numbered c.args.good.now in
    let compiles = c.requires.compiles in
    let good = c.pass_count-good.ensures.good in
    let exports = ap length c.exports.ensures.exports in
    let within : k < length frame.exports = omega (arith, lt, exports) in
    export_short frame good (c.meaning_laws.ensures.long frame c.args.made.now.kept good compiles.are_kept) (read_by c.args.device.now) (meant frame c.args.made.now.program.program c.args.options.tend c.args.device.now compiles.right c.requires.has_run) k within
