use Rattle.std.proofs.Common.{rules}
use Rattle.device_cache.specs.Draws.{word, later}
use Rattle.device_cache.proofs.tender.Tender.word.Goals as goal

pub returns-clause-word : goal.returns-clause-word
unfolding word
returns-clause-word c = search rules

pub returns-clause-later : goal.returns-clause-later
unfolding later
returns-clause-later c = search rules
