use Rattle.std.proofs.Common.{length}
use Rattle.vk.proofs.mask_text.+read_names.Given as goal

abbrev pub decreases-read_names : goal.decreases-read_names
decreases-read_names g l = length l.text.now
