use Rattle.std.proofs.Common.{◌≡◌, ◌*◌, true, get_or, sym, subst}
use Rattle.device_cache.specs.Tables.{Table, is_cut, address}
use Rattle.device_cache.specs.Tables.{IsMade}
use Rattle.device_cache.proofs.Making.{made_recut}
use Rattle.device_cache.proofs.table.Segments.new.Goals as goal

pub returns-clause-made : goal.returns-clause-made
returns-clause-made c =
    let e = c.cut_places.ensures in
    let room = 2 * c.from-room.result in
    let P : Table → Type 0 = λ t. IsMade (record t { cuts_left = room }) c.args.agents c.args.opening c.args.junk in
    subst P (sym c.table.view_is) (subst P (sym e.same) (made_recut c.in_ok-table.table c.cut_places.new.self.segments room e.rows c.args.agents c.args.opening c.args.junk e.kept c.in_ok-table.ensures.made))

pub returns-clause-cuts : goal.returns-clause-cuts
unfolding is_cut address
returns-clause-cuts c k d lt =
    let place = get_or c.args.cuts.now k d in
    let P : Table → Type 0 = λ t. is_cut t place.0 place.1 ≡ true in
    subst P (sym c.table.view_is) (c.cut_places.ensures.here k d lt)
