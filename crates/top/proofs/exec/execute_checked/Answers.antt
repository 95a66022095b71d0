use Rattle.std.proofs.Common.{◌≡◌, ◌++◌, length, subst}
use Rattle.device_model.specs.Devices.{Device}
use Rattle.device_run.specs.Runs.{read_by}
use Rattle.top.proofs.KeptLemmas.{handed}
use Rattle.top.proofs.RunLemmas.{executes}
use Rattle.top.proofs.exec.execute_checked.Goals as goal
use Rattle.top.specs.Headline.{Executes}
use Rattle.top.specs.Texts.{readbacks_text, traced}

pub returns : goal.returns
returns g c = record {
  program =
      let program = c.args.program.now.program in
      let device = c.in_ok-device.device in
      let text = c.in_ok-text.text in
      handed c.ran.result _ _ device text (Executes c.args.options c.args.trace program) c.ran.ensures.reply c.ran.ensures.kept (executes c.args.options c.args.trace program device text c.requires.sound c.in_ok-device.ensures
      (subst (λ (d : Device). text ≡ readbacks_text (read_by d) (length d.program.readbacks) ++ traced c.args.trace d.history) c.device-2.ensures.device c.in_ok-text.ensures));
}
