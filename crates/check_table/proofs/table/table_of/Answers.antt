use Rattle.std.proofs.Common.{length, ap, ◌∙◌, sym, subst, arith}
use Rattle.base.proofs.Results.{if_ok}
use Rattle.check_table.specs.Channels.{Covers}
use Rattle.check_table.specs.Joined.{Joined, joined}
use Rattle.check_table.specs.Internal.Laying.{laid_by, IsLaying}
use Rattle.check_table.specs.Laid.{Laid, IsLaid}
use Rattle.check_table.specs.Tables.{There}
use Rattle.check_table.proofs.Ready.{lined, ready, at_end}
use Rattle.check_table.proofs.table.table_of.Goals as goal

pub filled-requires-clause-points : goal.filled-requires-clause-points
filled-requires-clause-points c = let r = c.in_ok-line.ensures.room in omega (arith, r, c.requires.nodes)

pub filled-requires-clause-lined : goal.filled-requires-clause-lined
filled-requires-clause-lined c =
    let W : Joined = joined c.args.edges.now c.args.joins.now in
    let L : IsLaying W c.args.order.now c.in_ok-channels.channels.all.items c.in_ok-channels.channels.stages (length c.args.order.now) c.in_ok-line.line =
    subst (λ l. IsLaying W c.args.order.now l c.in_ok-channels.channels.stages (length c.args.order.now) c.in_ok-line.line) c.deref.ensures.value c.in_ok-line.ensures in
    let T : Laid = laid_by c.in_ok-line.line c.in_ok-channels.channels.all.items c.in_ok-channels.channels.stages in
    lined W T c.requires.dependencies c.in_ok-channels.ensures.covers (at_end W c.args.order.now c.requires.order T L.laid) L.size c.queues_in_use.result c.queues_in_use.ensures.queues

pub filled-requires-clause-ready : goal.filled-requires-clause-ready
filled-requires-clause-ready c =
    let W : Joined = joined c.args.edges.now c.args.joins.now in
    let L : IsLaying W c.args.order.now c.in_ok-channels.channels.all.items c.in_ok-channels.channels.stages (length c.args.order.now) c.in_ok-line.line =
    subst (λ l. IsLaying W c.args.order.now l c.in_ok-channels.channels.stages (length c.args.order.now) c.in_ok-line.line) c.deref.ensures.value c.in_ok-line.ensures in
    let T : Laid = laid_by c.in_ok-line.line c.in_ok-channels.channels.all.items c.in_ok-channels.channels.stages in
    ready W T c.requires.dependencies c.in_ok-channels.ensures.covers (at_end W c.args.order.now c.requires.order T L.laid) L.size

pub returns-clause-table : goal.returns-clause-table
returns-clause-table c =
    let W : Joined = joined c.args.edges.now c.args.joins.now in
    let L : IsLaying W c.args.order.now c.in_ok-channels.channels.all.items c.in_ok-channels.channels.stages (length c.args.order.now) c.in_ok-line.line =
    subst (λ l. IsLaying W c.args.order.now l c.in_ok-channels.channels.stages (length c.args.order.now) c.in_ok-line.line) c.deref.ensures.value c.in_ok-line.ensures in
    let T : Laid = laid_by c.in_ok-line.line c.in_ok-channels.channels.all.items c.in_ok-channels.channels.stages in
    if_ok c.filled.result
    (λ table e. record {
      dependencies = c.requires.dependencies;
      count = ap (λ U. length U.seats) e ∙ L.size;
      covers = subst (λ U. Covers W U.channels U.stages) (sym e) c.in_ok-channels.ensures.covers;
      laid = subst (λ U. IsLaid W (There W) U) (sym e) (at_end W c.args.order.now c.requires.order T L.laid);
    })
    c.filled.ensures.same
