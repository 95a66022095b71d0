use Rattle.std.proofs.Common.{◌||◌, Some, sym, ap, ap₂, ◌∙◌}
use Rattle.std.specs.List.{list_any}
use Rattle.frame.proofs.Clashing.{same_spot, layer_taken}
use Rattle.frame.proofs.repeats.has_clash.Goals as goal

pub returns-then-contains : goal.returns-then-contains
returns-then-contains c = c.if-contains.true ∙ ap (λ b. b || list_any (same_spot (record { name = c.args.name; layer = Some c.args.layer })) c.args.seen.now.keys) (sym c.if-contains.true ∙ c.contains.ensures) ∙ layer_taken c.args.name c.args.layer c.args.seen.now.keys

pub returns-else-contains : goal.returns-else-contains
returns-else-contains c = ap₂ (λ a b. a || b) (sym c.if-contains.false ∙ c.contains.ensures) c.contains-else-contains.ensures ∙ layer_taken c.args.name c.args.layer c.args.seen.now.keys
