use Rattle.std.proofs.Common.{◌≡◌, ℕ, List, drop, take}
use Rattle.std.specs.List.{list_any}
use Rattle.std.specs.Str.{bytes_eq}
use Rattle.base.specs.Walks.{first_in}
use Rattle.frame.proofs.repeats.clash_of_layers.Given as goal
use Rattle.frame.specs.Clashes.{clashes_at, first_clash}

abbrev pub invariant-loop-i : goal.invariant-loop-i
invariant-loop-i l = record {
  names : (n : List ℕ) → list_any (bytes_eq n) l.names.keys ≡ list_any (λ s. bytes_eq n s.name) (take l.i l.spots);
  keys : l.seen.keys ≡ take l.i l.spots;
  so_far : first_in (clashes_at l.spots) l.i (drop l.i l.spots) ≡ first_clash l.spots;
}
