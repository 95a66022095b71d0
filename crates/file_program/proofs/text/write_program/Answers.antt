use Rattle.std.proofs.Common.{arith}
use Rattle.std.proofs.lemmas.Result.{IfOk-weaker}
use Rattle.file_program.proofs.Flat.{program_flat}
use Rattle.file_program.proofs.GoodFits.{good_fits}
use Rattle.file_program.proofs.ReadBack.{read_back}
use Rattle.file_program.proofs.text.write_program.Goals as goal

pub returns-clause-text : goal.returns-clause-text
returns-clause-text c = IfOk-weaker c.write_json.result _ _ (λ text is. is (program_flat c.args.program.now).plain) c.write_json.ensures.text

pub returns-clause-again : goal.returns-clause-again
returns-clause-again c =
    let p = c.args.program.now in
    IfOk-weaker c.write_json.result _ _ (λ text reads fits. read_back p text fits (reads (omega (arith, (program_flat p).shallow)))) c.write_json.ensures.again

pub returns-clause-good : goal.returns-clause-good
returns-clause-good c =
    let p = c.args.program.now in
    IfOk-weaker c.write_json.result _ _ (λ text reads none. read_back p text (good_fits p (c.rule_laws.ensures.small p none) (c.rule_laws.ensures.obeys p none) c.look.ensures) (reads (omega (arith, (program_flat p).shallow)))) c.write_json.ensures.again
