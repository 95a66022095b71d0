use Rattle.std.proofs.Common.{Some, sym, ap, ◌∙◌}
use Rattle.vk.proofs.Rows.{named_here, named_on}
use Rattle.vk.specs.Texts.{bits_named}
use Rattle.vk.proofs.mask_text.named.Goals as goal

pub returns-then-is_named : goal.returns-then-is_named
returns-then-is_named g c = λ e. ap Some (c.set_of.ensures e) ∙ named_here c.flags-flag-items.result.now (λ f. (f.name.now, g.M.Flags.set_of f.value)) c.loop-flag.flag-index c.flag-item.result c.args.name.now _ c.loop-flag-test.true c.flag-item.is (sym c.is_named.ensures ∙ c.if-is_named.true) c.loop-flag.invariant ∙ ap (λ rows. bits_named rows c.args.name.now) (c.flags-flag-items.ensures e)

pub loop-flag-preserved : goal.loop-flag-preserved
loop-flag-preserved g c = named_on c.flags-flag-items.result.now (λ f. (f.name.now, g.M.Flags.set_of f.value)) c.loop-flag.flag-index c.flag-item.result c.args.name.now _ c.loop-flag-test.true c.flag-item.is (sym c.is_named.ensures ∙ c.if-is_named.false) c.loop-flag.invariant
