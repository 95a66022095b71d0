-- The pieces of all entries, one after another.
use Rattle.std.proofs.Common.{List, [], ◌∷◌}
use Rattle.std.specs.List.{AllByRecursion}
use Rattle.base.proofs.Lists.{all_append}
use Rattle.file_program.specs.Pieces.{flat}

pub all_flat : {X : Type 0} (P : X → Type 0) (rows : List (List X)) → AllByRecursion (AllByRecursion P) rows → AllByRecursion P (flat rows)
all_flat P [] all = tt
all_flat P (row ∷ rows) all = all_append P row (flat rows) all.0 (all_flat P rows all.1)
