-- A spot that was written is read again, in format 2.
use Rattle.std.proofs.Common.{◌≡◌, ℕ, ◌≤◌, ◌-◌, ◌+◌, Bool, true, false, arith, List, [], ◌∷◌, ◌++◌, length, Option, Some, None, Ok, refl}
use Rattle.std.specs.Prelude.{◌&&◌, nat_le, IfSome}
use Rattle.std.specs.List.{list_all}
use Rattle.std.proofs.lemmas.Bool.Decides.{nat_tests}
use Rattle.std.proofs.lemmas.Fmt.{decimal_digit}
use Rattle.std.proofs.lemmas.List.{length-append, take_at, drop_at}
use Rattle.std.proofs.Math.Bool.{and-false}
use Rattle.base.specs.Names.{IsName, is_name, is_name_byte, name_of}
use Rattle.base.specs.declared.path.Leg.{Leg}
use Rattle.frame.specs.declared.frame.Spot.{Spot}
use Rattle.file_frame.specs.Spots.{layer_of, layered_spot, spot_of, spot_at, spot_data, with_layer, FitsSpot}

third_fails : (a b c : Bool) → c ≡ false → (a && b && c) ≡ false
third_fails true true c e = e
third_fails true false c e = refl
third_fails false b c e = refl

slash_inside : (name more : List ℕ) → list_all is_name_byte (name ++ 47 ∷ more) ≡ false
slash_inside [] more = refl
slash_inside (b ∷ bs) more = rw (slash_inside bs more) (and-false (is_name_byte b))

no_name : (name more : List ℕ) → name_of (name ++ 47 ∷ more) ≡ None
no_name name more =
    let e : is_name (name ++ 47 ∷ more) ≡ false = third_fails (nat_le 1 (length (name ++ 47 ∷ more))) (nat_le (length (name ++ 47 ∷ more)) 32) _ (slash_inside name more) in
    rw e refl

layer_again : (layer : ℕ) → layer ≤ 7 → layer_of (47 ∷ (48 + layer) ∷ []) ≡ Some layer
layer_again layer le =
    let within : (nat_le 48 (48 + layer) && nat_le (48 + layer) 55) ≡ true = grind (arith, nat_tests, le) in
    let same : (48 + layer) - 48 ≡ layer = omega arith in
    rw (within, same) refl

layered_again : (name : List ℕ) (layer : ℕ) → IsName name → layer ≤ 7 → layered_spot (name ++ 47 ∷ (48 + layer) ∷ []) ≡ Some (record { name = name; layer = Some layer })
layered_again name layer fits le =
    let end = 47 ∷ (48 + layer) ∷ [] in
    let cut : length (name ++ 47 ∷ (48 + layer) ∷ []) - 2 ≡ length name = rw (length-append name (47 ∷ (48 + layer) ∷ [])) (omega arith) in
    rw (cut, take_at name (47 ∷ (48 + layer) ∷ []) (length name) refl, drop_at name (47 ∷ (48 + layer) ∷ []) (length name) refl, fits, layer_again layer le) refl

text_again : (name : List ℕ) (layer : Option ℕ) → IsName name → IfSome layer (λ l. l ≤ 7) → spot_of 2 (with_layer name layer) ≡ Some (record { name = name; layer = layer })
text_again name None fits le = rw fits refl
text_again name (Some layer) fits le =
    let written : with_layer name (Some layer) ≡ name ++ 47 ∷ (48 + layer) ∷ [] = rw (decimal_digit layer (omega (arith, le))) refl in
    rw (written, no_name name ((48 + layer) ∷ []), layered_again name layer fits le) refl

pub spot_again : (at : List Leg) (spot : Spot) → FitsSpot spot → spot_at 2 at (spot_data spot) ≡ Ok spot
spot_again at spot fits = rw (text_again spot.name spot.layer fits.name fits.layer) refl
