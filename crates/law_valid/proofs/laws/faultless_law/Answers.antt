use Rattle.std.proofs.Common.{◌≡◌, length, None, sym, subst}
use Rattle.compile_groups.specs.Groups.{grouping}
use Rattle.compile_record.specs.Marks.{steps_of}
use Rattle.compile_record.specs.Recorded.{heap_with}
use Rattle.compile_record.specs.Script.{script}
use Rattle.program.specs.FirstFault.{first_fault}
use Rattle.program.specs.declared.program.Program.{Program}
use Rattle.law_valid.proofs.Whole.{whole}
use Rattle.law_valid.proofs.laws.faultless_law.Goals as goal

pub returns : goal.returns
returns c = λ frame made good C.
    let kept = made.kept in
    let places = made.placement in
    let G = grouping frame kept in
    let list = steps_of (script (grouping frame kept) (heap_with C.ordered places)) in
    let T = c.timeline_laws.ensures in
    let S = c.script_laws.ensures.in_turn frame kept (heap_with C.ordered places) good in
    subst (λ (p : Program). first_fault p ≡ None) (sym C.recorded)
    (whole frame kept good (c.group_laws.ensures.grouped frame kept) (c.group_laws.ensures.known frame kept good) C.ordered places C.least
    (T.families list G.families) (T.waits list (length G.families) S) (T.values list (length G.families))
    (c.group_laws.ensures.small frame kept good) S (T.parts list G.families))
