-- Spots: in format 1 the name of a resource; in format 2 this, or a name, `/` and a digit from 0 to 7, the layer.
use Rattle.std.specs.Prelude.{ℕ, ◌≤◌, ◌==◌, ◌-◌, ◌&&◌, ◌++◌, decimal, nat_le, List, [], ◌∷◌, length, take, drop, Option, Some, None, IfSome, option_and_then, option_map, if◌then◌else◌}
use Rattle.base.specs.Names.{IsName, name_of}
use Rattle.file_json.specs.Leaves.{text_at, text_data}
use Rattle.file_json.specs.Parts.{Reader}
use Rattle.frame.specs.declared.frame.Spot.{Spot}
use Rattle.serde_json.specs.Data.{Data}

-- the number of a layer, with the slash before it
abbrev pub layer_of : List ℕ → Option ℕ
layer_of [] = None
layer_of (slash ∷ []) = None
layer_of (slash ∷ digit ∷ []) = if slash == 47 && nat_le 48 digit && nat_le digit 55 then Some (digit - 48) else None
layer_of (slash ∷ digit ∷ other ∷ more) = None

abbrev pub whole_spot : List ℕ → Spot
whole_spot name = record { name = name; layer = None }

-- the name stands before the last two bytes
abbrev pub layered_spot : List ℕ → Option Spot
layered_spot text =
    option_and_then (λ name. option_map (λ layer. record { name = name; layer = Some layer }) (layer_of (drop (length text - 2) text)))
    (name_of (take (length text - 2) text))

abbrev pub spot_or : Option Spot → Option (List ℕ) → Option Spot
spot_or other None = other
spot_or other (Some name) = Some (whole_spot name)

-- the spot that a text is in a file of this format
abbrev pub spot_of : ℕ → List ℕ → Option Spot
spot_of format text = spot_or (if format == 1 then None else layered_spot text) (name_of text)

abbrev pub spot_at : ℕ → Reader Spot
spot_at format = text_at (spot_of format)

abbrev pub with_layer : List ℕ → Option ℕ → List ℕ
with_layer name None = name
with_layer name (Some layer) = name ++ 47 ∷ decimal layer

abbrev pub spot_text : Spot → List ℕ
spot_text spot = with_layer spot.name spot.layer

abbrev pub spot_data : Spot → Data
spot_data = text_data spot_text

-- what the format says of a spot, whichever file it comes from
pub record FitsSpot (spot : Spot) : Type 0 where
  pub name : IsName spot.name
  pub layer : IfSome spot.layer (λ layer. layer ≤ 7)
