use Rattle.std.proofs.Common.{◌≡◌, suc, ◌+◌, refl, ap, ◌∙◌, arith}
use Rattle.std.specs.Prelude.{if◌then◌else◌}
use Rattle.device_cache.specs.Effects.{Caches}
use Rattle.device_cache.specs.Tables.{caches_of}
use Rattle.device.proofs.Fitting.{stays_same, stays_on, still_has}
use Rattle.device.proofs.syncing.move_agents.Goals as goal
use Rattle.device.specs.Internal.Syncs.{passes, moved_one, moved_agents}

pub loop-agent-init : goal.loop-agent-init
loop-agent-init c = record { cut = c.requires.cut; bytes = refl; stays = stays_same c.args.table.now }

pub loop-agent-preserved : goal.loop-agent-preserved
loop-agent-preserved c =
    let inv = c.loop-agent.invariant in
    let k = c.loop-agent.agent in
    let V = c.args.view.now in
    let kind = c.args.kind in
    let pass = passes c.args.agents in
    let scope = c.args.scope in
    let next : suc k ≡ k + 1 = omega arith in
    let e = c.move_agent.ensures in
    record {
      cut = still_has c.loop-agent.table c.move_agent.new.table V e.stays.keeps inv.cut;
      bytes = e.bytes ∙ ap (λ (b : Caches). if pass k then moved_one V kind k scope b else b) inv.bytes ∙ ap (λ n. moved_agents V kind pass n scope (caches_of c.args.table.now)) next;
      stays = stays_on c.args.table.now c.loop-agent.table c.move_agent.new.table inv.stays e.stays;
    }
