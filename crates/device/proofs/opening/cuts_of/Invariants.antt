use Rattle.device.proofs.opening.cuts_of.Given as goal
use Rattle.device.specs.Internal.Opened.{HasCuts}

abbrev pub invariant-loop-piece : goal.invariant-loop-piece
invariant-loop-piece l = HasCuts l.pieces l.piece-index l.cuts.items
