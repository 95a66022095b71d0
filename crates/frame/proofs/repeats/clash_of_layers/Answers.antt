use Rattle.std.proofs.Common.{if◌then◌else◌, Some, None, refl, sym, ap, ◌∙◌}
use Rattle.std.specs.List.{list_any}
use Rattle.base.proofs.Walks.{first_on}
use Rattle.frame.proofs.Clashing.{names_on, keys_on}
use Rattle.frame.proofs.repeats.clash_of_layers.Goals as goal
use Rattle.frame.specs.Clashes.{clash, clashes_at, first_clash}

pub loop-i-preserved : goal.loop-i-preserved
loop-i-preserved c =
    let spots = c.args.spots.now in
    let i = c.loop-i.i in
    let spot = c.index-spots-i.result in
    let free = sym c.clashes.ensures ∙ c.if-clashes.false in
    let none = ap (λ b. if b then Some i else None) (ap (list_any (clash spot)) (sym c.loop-i.invariant.keys) ∙ free) in
    record {
      names = names_on spots i spot c.loop-i.names.keys c.insert_full.new.self.keys c.loop-i-test.true c.index-spots-i.is c.in_ok-fresh.ensures.keys c.loop-i.invariant.names;
      keys = keys_on spots i spot c.loop-i.seen.keys c.insert_full-in-loop-i.new.self.keys c.loop-i-test.true c.index-spots-i.is c.in_ok-insert_full.ensures.keys c.loop-i.invariant.keys free;
      so_far = first_on (clashes_at spots) spots i spot (clashes_at spots i spot) (first_clash spots) c.loop-i-test.true c.index-spots-i.is refl none c.loop-i.invariant.so_far;
    }
