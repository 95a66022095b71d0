use Rattle.std.proofs.Common.{take}
use Rattle.std.specs.List.{AllByRecursion}
use Rattle.file_json.proofs.list.ListFormTyped.look.Given as goal

abbrev pub invariant-loop-entry : goal.invariant-loop-entry
invariant-loop-entry g l = AllByRecursion g.F.Typed.Says (take l.entry-index l.entries)
