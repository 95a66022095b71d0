use Rattle.std.proofs.Common.{refl}
use Rattle.device_cache.specs.Tables.{caches_of, junk_of}
use Rattle.device.proofs.Fitting.{stays_same, stays_on, still_has}
use Rattle.device.proofs.Turning.{junked_more}
use Rattle.device.proofs.syncing.leave_junk.Goals as goal
use Rattle.device.specs.Internal.Syncs.{junked}

pub loop-access-init : goal.loop-access-init
loop-access-init c = record { cut = c.requires.cut; bytes = λ s A. refl; stays = stays_same c.args.table.now }

pub loop-access-preserved : goal.loop-access-preserved
loop-access-preserved c =
    let inv = c.loop-access.invariant in
    let e = c.leave_junk_in.ensures in
    let old = c.args.table.now in
    let now = c.loop-access.table in
    let new = c.leave_junk_in.new.table in
    let V = c.args.control.now.view in
    let list = c.as_slice-accesses.result.now in
    record {
      cut = still_has now new V e.stays.keeps inv.cut;
      bytes = λ s agrees. junked_more V s c.args.node (junk_of old) list c.loop-access.access-index (junked V s c.args.node (junk_of old) list (caches_of old)) _ c.loop-access-test.true (junk_of now) inv.stays.keeps.junk (caches_of now) (caches_of new) (e.bytes s agrees) (inv.bytes s agrees);
      stays = stays_on old now new inv.stays e.stays;
    }
