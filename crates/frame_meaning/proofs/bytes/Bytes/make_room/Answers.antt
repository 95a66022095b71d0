use Rattle.std.proofs.Common.{◌≡◌, ◌<◌, length, true, subst, slice_set, sym, ap, ◌∙◌}
use Rattle.base.specs.Operands.{destination_of, mapped}
use Rattle.base.specs.Shapes.{bytes_of, shape_at}
use Rattle.base.specs.Wholes.{is_whole}
use Rattle.frame.specs.Valid.{shapes_in}
use Rattle.frame.specs.Numbered.{numbered}
use Rattle.frame_meaning.proofs.Room.{destination_there, room_serves}
use Rattle.frame_meaning.proofs.bytes.Bytes.make_room.Goals as goal

pub shape_of-requires : goal.shape_of-requires
shape_of-requires c = subst (λ unit. unit < length (numbered c.args.frame.now).units) (sym c.destination-unit.ensures) (destination_there (numbered c.args.frame.now) c.args.op.now c.requires.runnable)

pub put-requires : goal.put-requires
put-requires c =
    let there = destination_there (numbered c.args.frame.now) c.args.op.now c.requires.runnable in
    let count : length c.room.new.self ≡ length (numbered c.args.frame.now).units = ap length c.in_ok-bytes.ensures.same ∙ c.requires.count in
    subst (λ m. c.destination-unit.result < m) (sym count) (subst (λ unit. unit < length (numbered c.args.frame.now).units) (sym c.destination-unit.ensures) there)

pub returns : goal.returns
returns c =
    let n = numbered c.args.frame.now in
    let op = c.args.op.now in
    let whole : is_whole (mapped (shape_at (shapes_in n)) op) ≡ true = sym (c.if-not-is_whole.ensures ∙ ap (λ s. is_whole (mapped (shape_at s) op)) c.shapes.ensures) in
    let long : length c.in_ok-bytes.bytes ≡ bytes_of (shape_at (shapes_in n) (destination_of op)) = c.in_ok-bytes.ensures.count ∙ c.bytes.ensures.bytes ∙ ap bytes_of (c.shape_of.ensures.at ∙ ap (shape_at (shapes_in n)) c.destination-unit.ensures) in
    let put : c.put.new.self ≡ slice_set c.args.self.now (destination_of op) c.in_ok-bytes.bytes = c.put.ensures ∙ ap (λ b. slice_set b c.destination-unit.result c.in_ok-bytes.bytes) c.in_ok-bytes.ensures.same ∙ ap (λ unit. slice_set c.args.self.now unit c.in_ok-bytes.bytes) c.destination-unit.ensures in
    λ rest at. room_serves n op c.in_ok-bytes.bytes c.requires.runnable (c.whole_leaves_nothing_old.ensures (mapped (shape_at (shapes_in n)) op) whole) long rest c.args.self.now c.put.new.self put at
