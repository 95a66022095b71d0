use Rattle.law_sound.proofs.Initializing.{is_initialized}
use Rattle.law_sound.proofs.Started.{is_started}
use Rattle.law_sound.proofs.starts.starts_law.Goals as goal

pub returns-clause-started : goal.returns-clause-started
returns-clause-started c = λ frame kept good are_kept d unit command there touched below none. is_started frame kept good are_kept unit below none d command there touched

pub returns-clause-initialized : goal.returns-clause-initialized
returns-clause-initialized c = λ frame kept good are_kept. is_initialized frame kept good are_kept
