use Rattle.std.proofs.Common.{◌++◌, ap, ◌∙◌}
use Rattle.file_program.proofs.Names.{joined_none, starts, goes_on, ends}
use Rattle.file_program.proofs.mask.joined.Goals as goal

pub returns-in_default : goal.returns-in_default
returns-in_default g c = c.new.ensures.bytes ∙ joined_none (g.M.Mask.names c.args.mask.now) c.in_default.ensures.name

pub loop-name-init : goal.loop-name-init
loop-name-init g c = starts (g.M.Mask.names c.args.mask.now) _ _ c.in-Some.ensures.name c.in_ok-text.ensures.ok

pub loop-name-preserved : goal.loop-name-preserved
loop-name-preserved g c = goes_on (g.M.Mask.names c.args.mask.now) c.loop-name.k _ _ _ _ c.in-Some-name.ensures.name (c.in_ok-push_str-2.ensures.bytes ∙ ap (λ t. t ++ c.in-Some-name.name.now) c.in_ok-push_str.ensures.bytes) c.loop-name.invariant

pub returns : goal.returns
returns g c = ends (g.M.Mask.names c.args.mask.now) c.loop-name.k _ _ c.in_default-name.ensures.name c.loop-name.invariant
