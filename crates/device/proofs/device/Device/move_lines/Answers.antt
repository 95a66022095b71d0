use Rattle.device.proofs.Moved.{asked, kept_move}
use Rattle.device.proofs.device.Device.move_lines.Goals as goal

pub move_lines-requires : goal.move_lines-requires
move_lines-requires c =
    let A = asked c.self.inside c.self.invariant c.self.view_is c.args.cache_move c.requires.may c.requires.moves in
    record { agent = A.known; within = A.within; room = A.room }

pub invariant_of-self : goal.invariant_of-self
invariant_of-self c =
    let e = c.move_lines.ensures in
    let p = c.push_reserved.ensures in
    kept_move c.self.inside c.self.invariant c.self.view_is c.args.cache_move c.requires.may c.requires.moves c.move_lines.new.self e.keeps e.cuts e.stores c.push_reserved.new.self p.len p.capacity c.event_laws.ensures.moves e.bytes p.items
