use Rattle.std.proofs.Common.{◌≡◌, ◌==◌, ◌∙◌, List, None, false, refl, sym, ap, subst}
use Rattle.std.specs.List.{position}
use Rattle.device_audit.proofs.Holding.{none_held}
use Rattle.device_audit.proofs.Made.{ends, follows_not, found_ends, not_held}
use Rattle.device_audit.proofs.follower.Follower.end.Goals as goal
use Rattle.device_audit.specs.Internal.Following.{Follows}
use Rattle.base.specs.declared.event.Event.TheVariants.{End}
use Rattle.device.specs.declared.job.Command.{Command}
use Rattle.device_model.specs.Devices.{Device}

pub invariant_of-self : goal.invariant_of-self
invariant_of-self c =
    let n = c.args.node in
    ends c.self.inside.device c.end.new.device c.self.inside.begun.items c.swap_remove-done.new.self.items n c.in-Some.place c.swap_remove-done.result c.self.invariant
    (ap (λ (l : List Command). position (λ (x : Command). x.node == n) l) (sym c.deref.ensures.value) ∙ sym c.place_of.ensures ∙ c.in-Some.is)
    c.swap_remove-done.ensures.value c.swap_remove-done.ensures.items c.end.ensures.lands

pub returns-in-Some : goal.returns-in-Some
returns-in-Some c =
    let n = c.args.node in
    let e = c.end.new.device in
    subst (λ (x : Device). Follows x e (End n) c.end.result) c.self.view_is
    (found_ends c.self.inside.device e c.self.inside.begun.items n c.in-Some.place c.swap_remove-done.result c.end.result
    (ap (λ (l : List Command). position (λ (x : Command). x.node == n) l) (sym c.deref.ensures.value) ∙ sym c.place_of.ensures ∙ c.in-Some.is)
    c.swap_remove-done.ensures.value c.end.ensures.follows)

pub returns-in-None : goal.returns-in-None
returns-in-None c =
    let n = c.args.node in
    let d = c.self.inside.device in
    let none : position (λ (x : Command). x.node == n) c.self.inside.begun.items ≡ None = ap (λ (l : List Command). position (λ (x : Command). x.node == n) l) (sym c.deref.ensures.value) ∙ sym c.place_of.ensures ∙ c.in-None.is in
    subst (λ (x : Device). Follows x x (End n) false) c.self.view_is (follows_not d d n (not_held d c.self.inside.begun.items n c.self.invariant (none_held n c.self.inside.begun.items none)) refl)
