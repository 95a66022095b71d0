use Rattle.flight.proofs.Told.{refused_limit}
use Rattle.flight.proofs.limits.limit_in.Goals as goal

pub returns-in-Err-Refused : goal.returns-in-Err-Refused
returns-in-Err-Refused c = refused_limit c.args.frame c.in-Err-Refused.field-0 c.in-Err-Refused.fault c.in-Err-Refused.field-0-1 (cc) c.in-Err-Refused.ensures.refused
