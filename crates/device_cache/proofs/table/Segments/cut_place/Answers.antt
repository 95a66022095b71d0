use Rattle.std.proofs.Common.{◌∙◌, ap, arith}
use Rattle.device_cache.specs.Tables.{Table, caches_of}
use Rattle.device_cache.proofs.Calls.{keeps_cut}
use Rattle.device_cache.proofs.Making.{same_recut}
use Rattle.device_cache.proofs.Rooms.{toll_le}
use Rattle.device_cache.specs.Places.{cut_in}
use Rattle.device_cache.proofs.table.Segments.cut_place.Goals as goal

pub returns-clause-bytes : goal.returns-clause-bytes
returns-clause-bytes c =
    let t = c.args.self.now in
    let new = c.cut.new.self in
    ap caches_of c.cut.ensures.same ∙ same_recut t new.segments new.cuts_left c.cut.ensures.rows

pub returns-clause-keeps : goal.returns-clause-keeps
returns-clause-keeps c = keeps_cut c.args.self.now c.cut.new.self c.cut.ensures.same c.cut.ensures.kept

pub returns-clause-cuts : goal.returns-clause-cuts
returns-clause-cuts c = omega (arith, c.cut.ensures.left, toll_le (cut_in c.args.self.now.segments c.first_address-address.result))

pub returns-clause-stores : goal.returns-clause-stores
returns-clause-stores c = ap (λ (t : Table). t.stores_left) c.cut.ensures.same
