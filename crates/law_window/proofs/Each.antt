-- What holds of all, one by one.
use Rattle.std.proofs.Common.{List, [], ◌∷◌}
use Rattle.std.specs.List.{All, AllByRecursion}
use Rattle.std.proofs.lemmas.List.Elements.{All-cons, All-head, All-nil, All-tail}

pub each : {X : Type 0} (P : X → Type 0) (xs : List X) → All P xs → AllByRecursion P xs
each P [] all = tt
each P (x ∷ xs) all = (All-head P x xs all, each P xs (All-tail P x xs all))

pub all_of : {X : Type 0} (P : X → Type 0) (xs : List X) → AllByRecursion P xs → All P xs
all_of P [] all = All-nil P
all_of P (x ∷ xs) all = All-cons P x xs all.0 (all_of P xs all.1)
