-- Lists that grow by what one entry gives.
use Rattle.std.proofs.Common.{◌≡◌, ℕ, ◌+◌, ◌<◌, ◌++◌, List, [], ◌∷◌, Some, length, take, slice_get, sym, ap, ◌∙◌, add-one, append-nil}
use Rattle.std.specs.List.{flat_map}
use Rattle.std.proofs.Math.Seq.{take-suc}
use Rattle.std.proofs.lemmas.Grind.{flat_map-append}
use Rattle.std.proofs.lemmas.Option.{slice_get_within, get_or_from_slice_get}

one_further : {X : Type 0} (xs : List X) (n : ℕ) (x : X) → slice_get xs n ≡ Some x → take (n + 1) xs ≡ take n xs ++ x ∷ []
one_further xs n x at =
    let lt : n < length xs = slice_get_within xs n x at in
    ap (λ k. take k xs) (add-one n) ∙ take-suc xs n x lt ∙ ap (λ z. take n xs ++ z ∷ []) (get_or_from_slice_get xs n x x at)

pub one_part : {X Y : Type 0} (f : X → List Y) (xs : List X) (n : ℕ) (x : X) (old more : List Y) → old ≡ flat_map f (take n xs) → slice_get xs n ≡ Some x → more ≡ old ++ f x → more ≡ flat_map f (take (n + 1) xs)
one_part f xs n x old more so_far at grows =
    let only : flat_map f (x ∷ []) ≡ f x = append-nil (f x) in
    grows ∙ ap (λ l. l ++ f x) so_far ∙ ap (λ l. flat_map f (take n xs) ++ l) (sym only) ∙ sym (ap (flat_map f) (one_further xs n x at) ∙ flat_map-append f (take n xs) (x ∷ []))
