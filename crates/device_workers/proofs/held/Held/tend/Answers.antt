use Rattle.std.proofs.Common.{◌≡◌, ℕ, suc, Bool, true, ◌∷◌, take, drop, if◌then◌else◌, refl, sym, ap, ◌∙◌, subst, arith}
use Rattle.base.specs.declared.event.Event.TheVariants as events
use Rattle.device_cache.specs.Draws.{Moves}
use Rattle.device_drive.specs.Tended.{agents_of, sizes_of, tended_moves}
use Rattle.device_model.specs.Histories.{moved}
use Rattle.device_workers.proofs.Counting.{within, still_owed, move_counts}
use Rattle.device_workers.proofs.held.Held.tend.Goals as goal
use Rattle.device_workers.specs.Holds.{MayMake}

pub invariant_of-self : goal.invariant_of-self
invariant_of-self g c =
    let held = c.args.self.now in
    let shares = c.args.shares.now in
    let m = c.args.cache_move in
    let all = tended_moves g.T.Task.program g.T.Task.tend 256 in
    let total = held.moves.total in
    let known : shares.moves.amount ≡ total = c.audit.ensures.whole shares.whole in
    let next : drop total all ≡ events.Move m ∷ c.requires.rest = ap (λ (k : ℕ). drop k all) (sym known) ∙ c.requires.next in
    let below = within total all (events.Move m) c.requires.rest next in
    let may : MayMake held.device m = record {
      left = omega (arith, below, held.left);
      move = subst (λ program. Moves (agents_of program) (sizes_of program) m) (sym held.ours) c.requires.inside;
    } in
    let made : c.tend_once-is_made.result ≡ true = c.tend_once-is_made.ensures.may.1 may in
    let is = c.tend_once-is_made.ensures.effect ∙ ap (λ (b : Bool). if b then moved held.device (events.Move m) else held.device) made in
    let one : c.one_if-count.result ≡ 1 = c.one_if-count.ensures ∙ ap (λ (b : Bool). if b then 1 else 0) made in
    let came = move_counts all total c.requires.rest m held.device c.tend_once-is_made.new.device next held.moved held.left may.left is in
    let more : c.add-2.new.self.total ≡ suc total = omega (arith, c.add-2.ensures.total, c.audit.ensures.total, one) in
    record {
      ours = came.program ∙ held.ours;
      zeros = came.fill ∙ held.zeros;
      counted = omega (arith, came.count, held.counted, c.add.ensures.total, one);
      ended = λ some. came.complete (held.ended some);
      moved = came.moved ∙ ap (λ (k : ℕ). take k all) (sym more);
      left = omega (arith, came.left, more);
    }

pub returns : goal.returns
returns g c =
    let held = c.args.self.now in
    let shares = c.args.shares.now in
    let m = c.args.cache_move in
    let all = tended_moves g.T.Task.program g.T.Task.tend 256 in
    let amount = shares.moves.amount in
    let known : amount ≡ held.moves.total = c.audit.ensures.whole shares.whole in
    let below = within amount all (events.Move m) c.requires.rest c.requires.next in
    let may : MayMake held.device m = record {
      left = omega (arith, below, held.left, known);
      move = subst (λ program. Moves (agents_of program) (sizes_of program) m) (sym held.ours) c.requires.inside;
    } in
    let made : c.tend_once-is_made.result ≡ true = c.tend_once-is_made.ensures.may.1 may in
    let one : c.one_if-count.result ≡ 1 = c.one_if-count.ensures ∙ ap (λ (b : Bool). if b then 1 else 0) made in
    let more : c.add-2.new.share.amount ≡ suc amount = omega (arith, c.add-2.ensures.amount, c.audit.ensures.amount, one) in
    record {
      done = made;
      program = refl;
      parts = c.add.ensures.parts;
      events = omega (arith, c.add.ensures.amount, one);
      owed = still_owed amount c.add-2.new.share.amount all (events.Move m) c.requires.rest c.requires.next more;
    }
