use Rattle.frame.specs.Numbered.{numbered}
use Rattle.compile_record.proofs.Settings.{is_of}
use Rattle.compile_record.proofs.recording.of_kept.Goals as goal

pub of_groups-requires : goal.of_groups-requires
of_groups-requires c = is_of (numbered c.args.frame.now) c.args.kept.now c.in_ok-groups.groups c.in_ok-groups.ensures
