use Rattle.std.proofs.Common.{arith}
use Rattle.vk.specs.Accesses.{access_names}
use Rattle.file_program.proofs.Names.{few}
use Rattle.file_program.proofs.mask.AccessesMask.name.Goals as goal

pub returns-clause-few : goal.returns-clause-few
returns-clause-few c = few (λ name. name.now) access_names c.args.self.now.0 c.args.k _ (omega arith) c.put.ensures
