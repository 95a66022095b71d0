use Rattle.std.proofs.Common.{◌≡◌, drop}
use Rattle.std.specs.List.{AllByRecursion}
use Rattle.file_json.specs.Parts.{entries_at}
use Rattle.file_json.specs.Locations.{legs}
use Rattle.serde_json.specs.View.{items_view}
use Rattle.file_json.proofs.Walks.{with_front}
use Rattle.file_json.proofs.list.entries.Given as goal

abbrev pub invariant-loop-i : goal.invariant-loop-i
invariant-loop-i g l =
    record {
      read : with_front l.found (entries_at g.F.Reader.reads (legs l.at) l.i (items_view (drop l.i l.values))) ≡ entries_at g.F.Reader.reads (legs l.at) 0 (items_view l.values);
      fits : AllByRecursion g.F.Reader.Fits l.found;
    }
