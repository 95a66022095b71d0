use Rattle.flight.proofs.Naming.{is_join}
use Rattle.flight.proofs.names.join_name.Goals as goal

pub dotted-requires-clause-name : goal.dotted-requires-clause-name
dotted-requires-clause-name c = is_join c.args.i c.requires
