use Rattle.device_drive.proofs.OneRun.{one_driven}
use Rattle.device_drive.proofs.laws.drive_law.Goals as goal

pub returns : goal.returns
returns c = record { one = one_driven }
