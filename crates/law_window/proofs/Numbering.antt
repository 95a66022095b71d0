-- Where the resources of a frame stand in the numbering of a window.
use Rattle.std.proofs.Common.{◌≡◌, ℕ, zero, suc, ◌+◌, ◌<◌, ◌++◌, List, [], ◌∷◌, length, map, get_or, slice_get, unwrap_or, Option, Some, None, refl, sym, ap, ap₂, subst, ◌∙◌, arith}
use Rattle.std.specs.Prelude.{option_and_then}
use Rattle.std.specs.List.{position}
use Rattle.std.specs.Str.{bytes_eq}
use Rattle.std.proofs.lemmas.List.{length-append}
use Rattle.base.proofs.Lists.{got_front, got_back}
use Rattle.frame.proofs.Lookups.{found_by}
use Rattle.frame.specs.Repeats.{first_repeat}
use Rattle.frame.specs.Units.{Numbering, numbering, stretch_of, stretches}
use Rattle.frame.specs.declared.frame.Frame.{Frame}
use Rattle.frame.specs.declared.frame.Resource.{Resource}
use Rattle.frame.specs.declared.numbered.Stretch.{Stretch}
use Rattle.law_window.proofs.OwnNames.{own_at, own_count, own_names}
use Rattle.law_window.proofs.Stretches.{moved_stretch, stretch_count}
use Rattle.law_window.specs.Names.{numbered_name, rename_in}
use Rattle.law_window.proofs.Moves.{at_middle}

-- LOOK-UPS

got_inside : {X : Type 0} (xs : List X) (j : ℕ) (x : X) → slice_get xs j ≡ Some x → j < length xs
got_inside [] j x e = absurd cc
got_inside (y ∷ xs) zero x e = omega arith
got_inside (y ∷ xs) (suc j) x e = let lt : j < length xs = got_inside xs j x e in omega arith

got_mapped : {X Y : Type 0} (f : X → Y) (xs : List X) (j : ℕ) (x : X) → slice_get xs j ≡ Some x → slice_get (map f xs) j ≡ Some (f x)
got_mapped f [] j x e = absurd cc
got_mapped f (y ∷ xs) zero x e = let same : y ≡ x = cc in ap (λ z. Some (f z)) same
got_mapped f (y ∷ xs) (suc j) x e = got_mapped f xs j x e

record Found (frame : Frame) (name : List ℕ) (s : Stretch) : Type 0 where
  at : ℕ
  named : position (bytes_eq name) (map (λ r. r.name) frame.resources) ≡ Some at
  got : slice_get (stretches 0 frame.resources) at ≡ Some s

found : (frame : Frame) (name : List ℕ) (s : Stretch) (o : Option ℕ) → position (bytes_eq name) (map (λ r. r.name) frame.resources) ≡ o → option_and_then (slice_get (stretches 0 frame.resources)) o ≡ Some s → Found frame name s
found frame name s None is e = absurd cc
found frame name s (Some at) is e = record { at = at; named = is; got = e }

-- where the resources of frame i stand in the numbering of a window, n units further on
pub record StandsIn (W : Numbering) (i n : ℕ) (rs : List Resource) : Type 0 where
  pub once : first_repeat W.names ≡ None
  pub names-before : List (List ℕ)
  pub names-after : List (List ℕ)
  pub before : List Stretch
  pub after : List Stretch
  pub names : W.names ≡ names-before ++ (own_names i 0 (length rs) ++ names-after)
  pub stretches_are : W.stretches ≡ before ++ (map (moved_stretch n) (stretches 0 rs) ++ after)
  pub same : length names-before ≡ length before

pub own_stands : (W : Numbering) (i n : ℕ) (rs : List Resource) → StandsIn W i n rs → (k : ℕ) (s : Stretch) → slice_get (stretches 0 rs) k ≡ Some s → stretch_of W (numbered_name i k) ≡ Some (moved_stretch n s)
own_stands W i n rs S k s got =
    let count = length rs in
    let own = own_names i 0 count in
    let inside : k < count = subst (λ m. k < m) (stretch_count 0 rs) (got_inside (stretches 0 rs) k s got) in
    let long : k < length own = subst (λ m. k < m) (sym (own_count i 0 count)) inside in
    let place = length S.names-before + k in
    let z : 0 + k ≡ k = omega arith in
    let here : get_or W.names place [] ≡ numbered_name i k = ap (λ ns. get_or ns place []) S.names ∙ at_middle S.names-before own S.names-after k [] long ∙ own_at i 0 count k inside ∙ ap (numbered_name i) z in
    let size : length W.names ≡ length S.names-before + (length own + length S.names-after) = ap length S.names ∙ length-append S.names-before (own ++ S.names-after) ∙ ap (λ m. length S.names-before + m) (length-append own S.names-after) in
    let at_place : position (bytes_eq (numbered_name i k)) W.names ≡ Some place = ap (λ x. position (bytes_eq x) W.names) (sym here) ∙ found_by W.names S.once place (omega arith) in
    let stands : slice_get W.stretches place ≡ Some (moved_stretch n s) =
    ap₂ slice_get S.stretches_are (ap (λ m. m + k) S.same) ∙ got_back S.before (map (moved_stretch n) (stretches 0 rs) ++ S.after) k ∙ got_front (map (moved_stretch n) (stretches 0 rs)) S.after k (moved_stretch n s) (got_mapped (moved_stretch n) (stretches 0 rs) k s got) in
    ap (option_and_then (slice_get W.stretches)) at_place ∙ stands

-- what a name of the frame finds, its new name finds in the window, n units further on
pub name_moves : (W : Numbering) (i n : ℕ) (frame : Frame) → StandsIn W i n frame.resources → (name : List ℕ) (s : Stretch) → stretch_of (numbering frame) name ≡ Some s → stretch_of W (rename_in i frame name) ≡ Some (moved_stretch n s)
name_moves W i n frame S name s is =
    let F = found frame name s (position (bytes_eq name) (map (λ r. r.name) frame.resources)) refl is in
    ap (stretch_of W) (ap (λ o. numbered_name i (unwrap_or o 0)) F.named) ∙ own_stands W i n frame.resources S F.at s F.got
