use Rattle.std.proofs.Common.{arith}
use Rattle.std.proofs.lemmas.Result.{IfOk-weaker}
use Rattle.file_frame.proofs.Flat.{frame_flat}
use Rattle.file_frame.proofs.GoodFits.{good_fits}
use Rattle.file_frame.proofs.ReadBack.{read_back}
use Rattle.file_frame.proofs.text.write_frame.Goals as goal

pub returns-clause-text : goal.returns-clause-text
returns-clause-text c = IfOk-weaker c.write_json.result _ _ (λ text is. is (frame_flat c.args.frame.now).plain) c.write_json.ensures.text

pub returns-clause-again : goal.returns-clause-again
returns-clause-again c =
    let f = c.args.frame.now in
    IfOk-weaker c.write_json.result _ _ (λ text reads fits. read_back f text fits (reads (omega (arith, (frame_flat f).shallow)))) c.write_json.ensures.again

pub returns-clause-good : goal.returns-clause-good
returns-clause-good c =
    let f = c.args.frame.now in
    IfOk-weaker c.write_json.result _ _ (λ text reads none. read_back f text (good_fits f (c.frame_laws.ensures.declared f none) c.look.ensures) (reads (omega (arith, (frame_flat f).shallow)))) c.write_json.ensures.again
