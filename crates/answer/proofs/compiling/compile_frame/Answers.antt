use Rattle.std.proofs.Common.{◌≡◌, None, Ok, sym, subst, ◌∙◌}
use Rattle.compile.specs.Submitted.{submitted}
use Rattle.file_program.specs.Files.{program_of, program_text}
use Rattle.program.specs.FirstFault.{first_fault}
use Rattle.program.specs.declared.program.Program.{Program}
use Rattle.answer.proofs.AnswerLemmas.{compiled}
use Rattle.answer.proofs.compiling.compile_frame.Goals as goal
use Rattle.answer.specs.Answers.{CompilesFrame}

pub returns : goal.returns
returns c = record {
  frame =
      let made = c.in_ok-made in
      let text = c.in_ok-text.text in
      let same : c.program.result.now ≡ made.made.program.program = c.program.ensures.program ∙ (c.deref.ensures ∙ c.shaped.ensures.program) in
      subst (CompilesFrame c.args.tight c.args.good.now) (sym c.done.ensures) (compiled c.args.tight c.args.good.now (submitted made.made) text c.end_line.new.self made.ensures
      (subst (λ (p : Program). text ≡ program_text p) same c.in_ok-text.ensures.text)
      (subst (λ (p : Program). first_fault p ≡ None → program_of text ≡ Ok p) same c.in_ok-text.ensures.good) c.in_ok-end_line.ensures.ok);
}
