-- One access after another.
use Rattle.std.proofs.Common.{◌≡◌, ℕ, ◌+◌, ◌<◌, ◌≤◌, List, ◌∷◌, ◌++◌, length, map, get_or, drop, if◌then◌else◌, sym, ap, ◌∙◌, drop_of_length-le, drop-cons, add-one}
use Rattle.std.specs.List.{filter}
use Rattle.std.proofs.lemmas.List.{append-nil}
use Rattle.device_cache.specs.Effects.{Caches, overwrite}
use Rattle.device.specs.Internal.Syncs.{junked}
use Rattle.device_model.specs.Agents.{piece_range}
use Rattle.device_model.specs.States.{State}
use Rattle.device_model.specs.Steps.{junks}
use Rattle.check_access.specs.AccessKinds.{loads}
use Rattle.check_access.specs.Views.{View}
use Rattle.check_access.specs.declared.access.Access.{Access}

-- what is still to come leads to what all leads to
module _ (V : View) (s : State) (n : ℕ) (junk : List ℕ) (list : List Access) (i : ℕ) (last : Caches) where
  pub junked_more : (d : Access) → i < length list → (here : List ℕ) → here ≡ junk → (old new : Caches) → new ≡ (if junks V s n (get_or list i d) then overwrite (piece_range V (get_or list i d).piece) here old else old) → junked V s n junk (drop i list) old ≡ last → junked V s n junk (drop (i + 1) list) new ≡ last
  junked_more d lt here same old new is inv =
      let a = get_or list i d in
      let off : drop i list ≡ a ∷ drop (i + 1) list = drop-cons list i d lt ∙ ap (λ k. a ∷ drop k list) (sym (add-one i)) in
      ap (junked V s n junk (drop (i + 1) list)) (is ∙ ap (λ (j : List ℕ). if junks V s n a then overwrite (piece_range V a.piece) j old else old) same) ∙ sym (ap (λ l. junked V s n junk l old) off) ∙ inv

-- loads one after another
pub loads_all : (f : Access → List ℕ) (list : List Access) (i : ℕ) (loaded : List (List ℕ)) → length list ≤ i → loaded ++ map f (filter (λ a. loads a.kind) (drop i list)) ≡ map f (filter (λ a. loads a.kind) list) → loaded ≡ map f (filter (λ a. loads a.kind) list)
loads_all f list i loaded end inv = sym (append-nil loaded) ∙ ap (λ l. loaded ++ map f (filter (λ a. loads a.kind) l)) (sym (drop_of_length-le list end)) ∙ inv
