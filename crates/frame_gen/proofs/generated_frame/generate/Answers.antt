use Rattle.std.proofs.Common.{◌≡◌, None, sym, subst}
use Rattle.frame.specs.FirstFault.{first_fault}
use Rattle.frame_gen.proofs.Good.{is_good}
use Rattle.frame_gen.proofs.Named.{names_good}
use Rattle.frame_gen.specs.Generated.{generated}
use Rattle.frame_gen.proofs.generated_frame.generate.Goals as goal

pub faultless-requires : goal.faultless-requires
faultless-requires c =
    let made = generated c.args.number c.args.passes in
    subst (λ frame. first_fault frame ≡ None) (sym c.in_ok-frame.ensures)
    (c.frame_laws.ensures.faultless made (names_good c.args.number c.args.passes c.requires.few) (is_good c.args.number c.args.passes c.requires.few))
