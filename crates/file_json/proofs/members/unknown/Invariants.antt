use Rattle.std.proofs.Common.{◌≡◌, map}
use Rattle.file_json.specs.Parts.{unknown_in}
use Rattle.file_json.specs.Locations.{legs}
use Rattle.serde_json.specs.View.{members_view}
use Rattle.file_json.proofs.members.unknown.Given as goal

abbrev pub invariant-loop-name : goal.invariant-loop-name
invariant-loop-name l = unknown_in (map (λ k. k.now) l.known) (legs l.at) (members_view l.name-iterator) ≡ unknown_in (map (λ k. k.now) l.known) (legs l.at) (members_view l.members.entries)
