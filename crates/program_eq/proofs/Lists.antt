-- Lists that are the same item by item.
use Rattle.std.proofs.Common.{◌≡◌, ℕ, ◌<◌, List, length, get_or}
use Rattle.std.proofs.lemmas.List.{same_lists}

pub same_items : {X : Type 0} (xs ys : List X) → length xs ≡ length ys → ((k : ℕ) (d : X) → k < length xs → get_or xs k d ≡ get_or ys k d) → xs ≡ ys
same_items xs ys = same_lists xs ys
