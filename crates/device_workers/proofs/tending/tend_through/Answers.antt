use Rattle.std.proofs.Common.{◌≡◌, ◌-◌, ℕ, [], Bool, true, if◌then◌else◌, refl, ap, ◌∙◌, arith}
use Rattle.device_cache.specs.Draws.{may_draw, after_five, moves_from}
use Rattle.device_drive.proofs.Drawing.{none_drawn}
use Rattle.device_workers.proofs.Moving.{Draws, undrawn}
use Rattle.device_workers.proofs.Moving as moving
use Rattle.device_workers.proofs.Paying as paying
use Rattle.base.specs.declared.event.Event.TheVariants as events
use Rattle.device_workers.proofs.tending.tend_through.Goals as goal

pub loop-move-init : goal.loop-move-init
loop-move-init g c = (
  moving.starts c.args.seed c.args.agents c.args.sizes.now (g.H.Mover.told c.args.hold.now) c.new-tender.result c.new-tender.ensures c.history_laws.ensures.nowhere,
  paying.starts c.args.agents c.args.sizes.now (g.H.Mover.part c.args.hold.now) c.args.seed c.new-tender.result c.new-tender.ensures c.requires.owed,
)

pub returns-in_default : goal.returns-in_default
returns-in_default g c =
    let agents = c.args.agents in
    let sizes = c.args.sizes.now in
    let left = 256 - c.loop-move._move in
    let none : moves_from c.loop-move.tender left agents sizes ≡ [] = none_drawn agents sizes c.loop-move.tender left (undrawn c.next.result (may_draw agents sizes) c.in_default.is c.next.ensures.some) in
    record {
      tended = moving.ends c.args.seed agents sizes (g.H.Mover.told c.args.hold.now) (g.H.Mover.told c.loop-move.hold) left c.loop-move.tender none c.loop-move.invariant.0;
      paid = paying.ends agents sizes (g.H.Mover.part c.args.hold.now) (g.H.Mover.part c.loop-move.hold) left c.loop-move.tender none c.loop-move.invariant.1;
    }

pub tend-requires : goal.tend-requires
tend-requires g c =
    let agents = c.args.agents in
    let sizes = c.args.sizes.now in
    let draws : Draws agents sizes c.loop-move.tender c.in-Some.cache_move = record { may = c.in-Some.ensures.some.0 refl; drawn = c.in-Some.ensures.drawn; inside = c.in-Some.ensures.inside } in
    record { owed = paying.owes agents sizes (g.H.Mover.part c.args.hold.now) (g.H.Mover.part c.loop-move.hold) c.loop-move._move c.loop-move.tender c.in-Some.cache_move c.loop-move-test.true draws c.loop-move.invariant.1 }

pub loop-move-preserved : goal.loop-move-preserved
loop-move-preserved g c =
    let agents = c.args.agents in
    let sizes = c.args.sizes.now in
    let t = c.loop-move.tender in
    let m = c.in-Some.cache_move in
    let may : may_draw agents sizes ≡ true = c.in-Some.ensures.some.0 refl in
    let draws : Draws agents sizes t m = record {
      may = may;
      drawn = c.in-Some.ensures.drawn;
      inside = c.in-Some.ensures.inside;
    } in
    let after = c.next.ensures.after ∙ ap (λ (b : Bool). if b then after_five t else t) may in (
      moving.goes_on c.args.seed agents sizes (g.H.Mover.told c.args.hold.now) (g.H.Mover.told c.loop-move.hold) (g.H.Mover.told c.tend.new.self) c.loop-move._move t m c.loop-move-test.true draws
          c.next.new.self after
          (λ d e past. c.history_laws.ensures.cache_move d e past (events.Move m))
          c.tend.result c.if-not-tend.false c.loop-move.invariant.0 c.tend.ensures.tends,
      paying.goes_on agents sizes (g.H.Mover.part c.args.hold.now) (g.H.Mover.part c.loop-move.hold) c.loop-move._move t m c.loop-move-test.true draws
          (g.H.Mover.part c.tend.new.self) c.tend.result c.next.new.self after c.loop-move.invariant.1 c.tend.ensures.pays,
    )

pub returns-then-not-tend : goal.returns-then-not-tend
returns-then-not-tend g c =
    let agents = c.args.agents in
    let sizes = c.args.sizes.now in
    let t = c.loop-move.tender in
    let m = c.in-Some.cache_move in
    let draws : Draws agents sizes t m = record { may = c.in-Some.ensures.some.0 refl; drawn = c.in-Some.ensures.drawn; inside = c.in-Some.ensures.inside } in
    record {
      tended = moving.stops c.args.seed agents sizes (g.H.Mover.told c.args.hold.now) (g.H.Mover.told c.loop-move.hold) (g.H.Mover.told c.tend.new.self) c.loop-move._move t m c.loop-move-test.true draws
          c.tend.result c.if-not-tend.true c.loop-move.invariant.0 c.tend.ensures.tends;
      paid = paying.never_stops agents sizes (g.H.Mover.part c.args.hold.now) (g.H.Mover.part c.loop-move.hold) c.loop-move._move t m c.loop-move-test.true draws
          (g.H.Mover.part c.tend.new.self) c.tend.result c.if-not-tend.true c.loop-move.invariant.1 c.tend.ensures.pays;
    }

pub returns : goal.returns
returns g c =
    let left = 256 - c.loop-move._move in
    let over : left ≡ 0 = omega arith in
    let none = ap (λ (k : ℕ). moves_from c.loop-move.tender k c.args.agents c.args.sizes.now) over in
    record {
      tended = moving.ends c.args.seed c.args.agents c.args.sizes.now (g.H.Mover.told c.args.hold.now) (g.H.Mover.told c.loop-move.hold) left c.loop-move.tender none c.loop-move.invariant.0;
      paid = paying.ends c.args.agents c.args.sizes.now (g.H.Mover.part c.args.hold.now) (g.H.Mover.part c.loop-move.hold) left c.loop-move.tender none c.loop-move.invariant.1;
    }
