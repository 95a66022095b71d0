use Rattle.std.proofs.Common.{Some, slice_get, sym, ap, ◌∙◌}
use Rattle.vk.proofs.Rows.{put_here, put_past, put_on}
use Rattle.vk.specs.Texts.{names_of}
use Rattle.vk.proofs.mask_text.put_name.Goals as goal
use Rattle.vk.proofs.mask_text.put_name.Goals.{then-holds+else-left-eq0, else-holds}

pub returns-then-left-eq0 : goal.returns-then-left-eq0
returns-then-left-eq0 g c = λ e. ap Some c.name.ensures ∙ put_here c.flags-flag-items.result.now (λ f. (f.name.now, g.M.Flags.set_of f.value)) c.loop-flag.flag-index c.flag-item.result (g.M.Flags.set_of c.args.mask.now) c.loop-flag.left _ c.loop-flag-test.true c.flag-item.is (sym (c.holds.ensures e) ∙ c.if-holds.true) c.if-left-eq0.true (c.loop-flag.invariant e) ∙ ap (λ rows. slice_get (names_of rows (g.M.Flags.set_of c.args.mask.now)) c.args.k) (c.flags-flag-items.ensures e)

pub loop-flag-preserved : goal.loop-flag-preserved
loop-flag-preserved g c = elim c.if-holds.branch [
  | then-holds+else-left-eq0 w ↦ λ e. put_past c.flags-flag-items.result.now (λ f. (f.name.now, g.M.Flags.set_of f.value)) c.loop-flag.flag-index c.flag-item.result (g.M.Flags.set_of c.args.mask.now) c.loop-flag.left c.if-holds.left _ c.loop-flag-test.true c.flag-item.is (sym (c.holds.ensures e) ∙ w.if-holds.true) w.if-left-eq0.false w.left-is (c.loop-flag.invariant e)
  | else-holds w ↦ λ e. put_on c.flags-flag-items.result.now (λ f. (f.name.now, g.M.Flags.set_of f.value)) c.loop-flag.flag-index c.flag-item.result (g.M.Flags.set_of c.args.mask.now) c.loop-flag.left c.if-holds.left _ c.loop-flag-test.true c.flag-item.is (sym (c.holds.ensures e) ∙ w.if-holds.false) w.left-is (c.loop-flag.invariant e)
]
