use Rattle.std.proofs.Common.{◌≡◌, map, take}
use Rattle.serde_json.specs.View.{view}
use Rattle.file_json.proofs.list.ListFormWriter.write.Given as goal

abbrev pub invariant-loop-entry : goal.invariant-loop-entry
invariant-loop-entry g l = map view l.values.items ≡ map g.F.Writer.writes (take l.entry-index l.entries)
