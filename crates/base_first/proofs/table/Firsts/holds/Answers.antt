use Rattle.std.proofs.Common.{sym, ◌∙◌, refl, arith}
use Rattle.base_first.specs.Points.{point_at}
use Rattle.base_first.proofs.Lasts.{first_at}
use Rattle.base_first.proofs.table.Firsts.holds.Goals as goal

pub returns-then-first-start : goal.returns-then-first-start
returns-then-first-start c =
    let table = c.args.self.now in
    let q = (point_at c.args.points.now c.args.y).queue in
    let F = first_at c.args.points.now table.queues table.channels c.args.channels table c.requires.table c.requires.channels c.args.p q c.loop-c.c c.first.result c.requires.p (c.requires.lined.queue c.args.y c.requires.y) c.loop-c-test.true c.first.ensures in
    let lt = c.if-first-start.true in
    (λ e. (c.loop-c.c, c.first.result, c.loop-c-test.true, sym c.has.ensures ∙ c.if-has.true, lt, F.member (omega (arith, lt, c.requires.start))), λ e. refl)
