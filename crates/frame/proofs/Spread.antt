-- Each resource stands as its units.
use Rattle.std.proofs.Common.{◌≡◌, ℕ, zero, suc, ◌++◌, List, [], ◌∷◌, map, replicate, is_some, refl, sym, ap, ap₂, ◌∙◌}
use Rattle.std.specs.List.{flat_map}
use Rattle.frame.specs.FirstFault.{shapes_of, sharings_of, imports_of}
use Rattle.frame.specs.Units.{Unit, unit_from, units_from}
use Rattle.frame.specs.declared.frame.Frame.{Frame}
use Rattle.frame.specs.declared.frame.Resource.{Resource}

map_append : {X Y : Type 0} (f : X → Y) (xs ys : List X) → map f (xs ++ ys) ≡ map f xs ++ map f ys
map_append f [] ys = refl
map_append f (x ∷ xs) ys = ap (λ zs. f x ∷ zs) (map_append f xs ys)

map_replicate : {X Y : Type 0} (f : X → Y) (n : ℕ) (x : X) → map f (replicate n x) ≡ replicate n (f x)
map_replicate f zero x = refl
map_replicate f (suc n) x = ap (λ zs. f x ∷ zs) (map_replicate f n x)

spread : {Y : Type 0} (f : Unit → Y) (rs : List Resource) → flat_map (λ r. replicate r.layers (f (unit_from r))) rs ≡ map f (flat_map units_from rs)
spread f [] = refl
spread f (r ∷ rs) = sym (map_append f (units_from r) (flat_map units_from rs) ∙ ap₂ (λ a b. a ++ b) (map_replicate f r.layers (unit_from r)) (sym (spread f rs)))

pub shapes_spread : (frame : Frame) → flat_map (λ r. replicate r.layers r.shape) frame.resources ≡ shapes_of frame
shapes_spread frame = spread (λ u. u.shape) frame.resources

pub sharings_spread : (frame : Frame) → flat_map (λ r. replicate r.layers r.sharing) frame.resources ≡ sharings_of frame
sharings_spread frame = spread (λ u. u.sharing) frame.resources

pub imports_spread : (frame : Frame) → flat_map (λ r. replicate r.layers (is_some r.import)) frame.resources ≡ imports_of frame
imports_spread frame = spread (λ u. is_some u.imported) frame.resources
