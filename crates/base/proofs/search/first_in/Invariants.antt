use Rattle.std.proofs.Common.{◌≡◌, drop}
use Rattle.base.specs.Walks.{first_in, AnswersAs}
use Rattle.base.proofs.search.first_in.Given as goal

abbrev pub invariant-loop-i : goal.invariant-loop-i
invariant-loop-i g l = (says : _) → AnswersAs (goal.F-post g l.rule) l.entries says → first_in says l.i (drop l.i l.entries) ≡ first_in says 0 l.entries
