use Rattle.std.proofs.Common.{◌≡◌, take, map}
use Rattle.law_window.specs.Declared.{holder_in}
use Rattle.flight.proofs.holders.holders_of.Given as goal

abbrev pub invariant-loop-name : goal.invariant-loop-name
invariant-loop-name l = l.holders ≡ map (holder_in l.good.resources) (take l.name-index l.persist)
