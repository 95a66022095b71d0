-- Which units are used.
use Rattle.std.proofs.Common.{ℕ, ◌<◌, [], length}
use Rattle.std.specs.List.{All}
use Rattle.compile_groups.specs.Laws.{IsKnown}
use Rattle.compile_groups.specs.Needs.{group_at}
use Rattle.compile_groups.specs.declared.grouping.Grouping.{Grouping}

pub members-within : (G : Grouping) (g : ℕ) → IsKnown G → g < length G.groups → All (λ u. u.unit < length G.imports) (group_at G g)
members-within G g known less = λ i d below. (known.members g [] less i d below).0
