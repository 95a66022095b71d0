-- A list that does not have two entries is refused.
use Rattle.std.proofs.Common.{◌≡◌, ◌<◌, ◌≤◌, List, [], ◌∷◌, length, Err, refl, arith}
use Rattle.base.specs.declared.path.Leg.{Leg}
use Rattle.serde_json.specs.View.{items_view}
use Rattle.serde_json.specs.declared.value.Value.{Value}
use Rattle.file_shapes.specs.Sides.{two_at}

pub short : (at : List Leg) (vs : List Value) → length vs < 2 → two_at at (items_view vs) ≡ Err at
short at [] h = refl
short at (v ∷ []) h = refl
short at (v ∷ w ∷ vs) h = absurd (omega arith)

pub long : (at : List Leg) (vs : List Value) → 3 ≤ length vs → two_at at (items_view vs) ≡ Err at
long at [] h = absurd (omega arith)
long at (v ∷ []) h = absurd (omega arith)
long at (v ∷ w ∷ []) h = absurd (omega arith)
long at (v ∷ w ∷ x ∷ vs) h = refl
