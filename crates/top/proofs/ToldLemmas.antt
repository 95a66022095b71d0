-- What taps were told.
use Rattle.std.proofs.Common.{◌≡◌, ℕ, List, Some, subst, sym}
use Rattle.std.specs.declared.option.Option.{Option}
use Rattle.base.specs.declared.event.Event.{Event}
use Rattle.base_io.specs.Served.{AreServed}
use Rattle.top.specs.Told.{AreTold}

-- what devices did
pub told_of : {T : Type 0} (heard : T → Option (List Event)) (finished : T → Type 0) (lent kept spent : List T) (places : List ℕ) (o : Option (List Event)) (history events : List Event) → o ≡ Some history → events ≡ history → AreServed heard finished events lent kept spent places → AreTold heard finished lent kept spent places o
told_of heard finished lent kept spent places o history events ran is served =
    subst (AreTold heard finished lent kept spent places) (sym ran) (subst (λ (h : List Event). AreServed heard finished h lent kept spent places) is served)
