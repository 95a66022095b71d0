use Rattle.std.proofs.Common.{◌≡◌, ap, sym, ◌∙◌, subst}
use Rattle.base.proofs.Lists.{one_image}
use Rattle.program.specs.Entries.{entries_of, seen}
use Rattle.program.specs.Rules.{shapes_of}
use Rattle.program.specs.declared.rule.Rule.TheVariants as rules
use Rattle.check_access.proofs.EntryFits.{entry_known}
use Rattle.check_access.specs.Internal.KnownEntries.{IsKnown}
use Rattle.check_access.specs.Effects.{entry_effect}
use Rattle.check_access.proofs.effects.effects_of.Goals as goal

pub entry_effect-requires : goal.entry_effect-requires
entry_effect-requires c =
    let shapes : c.deref.result.now ≡ shapes_of c.args.shaped.now = c.deref.ensures ∙ c.in_ok-shapes.ensures ∙ ap shapes_of c.program.ensures.program in
    subst (λ s. IsKnown s (seen c.entry.result)) (sym shapes) (entry_known c.args.shaped.now (seen c.entry.result) (c.entry.ensures.obeys rules.Known))

pub loop-n-preserved : goal.loop-n-preserved
loop-n-preserved c =
    let program = c.args.shaped.now in
    let shapes : c.deref.result.now ≡ shapes_of program = c.deref.ensures ∙ c.in_ok-shapes.ensures ∙ ap shapes_of c.program.ensures.program in
    one_image (entry_effect (shapes_of program)) (entries_of program) c.loop-n.n (seen c.entry.result) c.loop-n.effects c.push.new.self c.in_ok-entry_effect.field-0
    c.loop-n.invariant c.entry.ensures.entry
    (c.in_ok-entry_effect.ensures ∙ ap (λ s. entry_effect s (seen c.entry.result)) shapes)
    c.in_ok-push.ensures.ok
