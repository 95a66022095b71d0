-- A sound program that stands to a given one reads back the same bytes.
use Rattle.std.proofs.Common.{◌≡◌, None, ◌∙◌}
use Rattle.check_program.specs.Sound.{IsSound}
use Rattle.law_meaning.specs.Laws.{OrdersAgree, IsReadMeant}
use Rattle.frame.specs.Numbered.{NumberedFrame}
use Rattle.program.specs.FirstFault.{first_fault}
use Rattle.program.specs.declared.program.Program.{Program}
use Rattle.law_tight.proofs.Bytes.{can_follow}
use Rattle.law_tight.specs.Laws.{ReadsAlike}
use Rattle.check_tighten.specs.Standing.{StandsTo}

module _ (agree : (program : Program) → first_fault program ≡ None → IsSound program → OrdersAgree program) (given program : Program) (S : StandsTo given program) (faultless : first_fault program ≡ None) (sound : IsSound program) where
  pub reads_alike : ReadsAlike given program
  reads_alike one other O P k = let f = can_follow given program S one O in agree program faultless sound other f.0 P f.1 k ∙ f.2 k

  pub means_alike : (frame : NumberedFrame) → IsSound given → IsReadMeant frame given → IsReadMeant frame program
  means_alike frame given_sound means order O k unit e =
      let first = given_sound.1.order_is.order in
      reads_alike given_sound.0 order first O k ∙ means given_sound.0 first k unit e
