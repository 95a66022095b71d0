use Rattle.std.proofs.Common.{◌≡◌, ◌+◌, ◌<◌, ◌++◌, ◌∙◌, Some, length, take, drop, sym, ap, subst, arith}
use Rattle.flight.specs.Alone.{persisted_next}
use Rattle.flight.specs.Exported.{persisted_export}
use Rattle.flight_file.proofs.Holding.{Held, held_many, hold_end, hold_none, hold_some, many_set}
use Rattle.flight_file.proofs.persisted.hold.Goals as goal
use Rattle.flight_file.proofs.persisted.hold.Goals.{in-Some+in_ok-bytes, in_default}
use Rattle.device_run.specs.Runs.{read_by}

pub overflow_cast-k : goal.overflow_cast-k
overflow_cast-k c =
    let F = c.args.windows.now in
    let many = held_many F.frames F.persist c.args.persisted.now c.requires.read.sized in
    omega (arith, many, c.count-fly.ensures.fly.names, c.loop-k.invariant.many, c.loop-k-test.true)

pub holds-requires-clause-name : goal.holds-requires-clause-name
holds-requires-clause-name c =
    let F = c.args.windows.now in
    let many = held_many F.frames F.persist c.args.persisted.now c.requires.read.sized in
    omega (arith, many, c.loop-k.invariant.many, c.loop-k-test.true)

pub bytes_of-requires-clause-there : goal.bytes_of-requires-clause-there
bytes_of-requires-clause-there c =
    omega (arith, c.in-Some.ensures.within c.args.persisted.now c.requires.read.sized, c.requires.read.readbacks)

pub loop-k-preserved : goal.loop-k-preserved
loop-k-preserved c =
    let F = c.args.windows.now in
    let places = persisted_export F.frames F.persist F.depth c.args.w in
    let bytes = read_by c.args.device.now in
    let total = persisted_next places bytes 0 c.args.persisted.now in
    let k = c.loop-k.k in
    let lt : k < length c.loop-k.persisted = omega (arith, c.loop-k-test.true, c.len-k-end.ensures, c.loop-k.invariant.many) in
    elim c.match-holds.branch [
      | in-Some+in_ok-bytes w ↦ record {
        many = many_set c.loop-k.persisted c.match-holds.persisted k (length c.args.persisted.now) (Some w.in_ok-bytes.bytes) (w.persisted-is ∙ w.set.ensures) c.loop-k.invariant.many;
        so_far = hold_some places bytes k c.loop-k.persisted total lt c.loop-k.invariant.so_far w.in-Some.place w.in_ok-bytes.bytes c.match-holds.persisted (sym w.in-Some.ensures.place) (w.in_ok-bytes.ensures ∙ w.bytes_of.ensures) (w.persisted-is ∙ w.set.ensures);
      }
      | in_default w ↦ record {
        many = ap length w.persisted-is ∙ c.loop-k.invariant.many;
        so_far = subst (λ (h : Held). take (k + 1) h ++ persisted_next places bytes (k + 1) (drop (k + 1) h) ≡ total) (sym w.persisted-is) (hold_none places bytes k c.loop-k.persisted total lt c.loop-k.invariant.so_far (sym c.holds.ensures.place ∙ w.in_default.is));
      }
    ]

pub returns : goal.returns
returns c =
    let F = c.args.windows.now in
    let places = persisted_export F.frames F.persist F.depth c.args.w in
    let bytes = read_by c.args.device.now in
    let total = persisted_next places bytes 0 c.args.persisted.now in
    hold_end places bytes c.loop-k.k c.loop-k.persisted total (omega (arith, c.loop-k-test.false, c.len-k-end.ensures, c.loop-k.invariant.many)) (omega (arith, c.loop-k.auto.k-end, c.len-k-end.ensures, c.loop-k.invariant.many)) c.loop-k.invariant.so_far
