-- What is persisted before the first window has the sizes of the persisting names.
use Rattle.std.proofs.Common.{◌≡◌, ℕ, zero, suc, ◌<◌, ◌==◌, List, [], ◌∷◌, length, map, get_or, slice_get, true, false, Option, Some, None, is_some, refl, sym, ap, ap₂, subst, ◌∙◌}
use Rattle.std.specs.Prelude.{unwrap_or}
use Rattle.std.specs.Option.{option_map, option_map_or, option_or}
use Rattle.std.proofs.lemmas.Bool.{and_parts, eqb-true}
use Rattle.std.proofs.lemmas.Option.{slice_get-get_or}
use Rattle.base.proofs.Lists.{entry_of}
use Rattle.base.specs.Shapes.{bytes_of, is_buffer}
use Rattle.base.specs.Walks.{first_in}
use Rattle.flight.proofs.Flies.{each_persists}
use Rattle.flight.specs.Alone.{IsPersisted, first_bytes, import_under}
use Rattle.flight.specs.Flights.{ArePersisted, size_at, size_in}
use Rattle.flight.specs.Fly.{Fly}
use Rattle.flight.specs.Refusals.{is_persisted, persists}
use Rattle.frame.proofs.Necessary.{declared_by_law}
use Rattle.frame.specs.FirstFault.{first_fault}
use Rattle.frame.specs.Uses.{import_fits}
use Rattle.frame.specs.declared.frame.Frame.{Frame}
use Rattle.frame.specs.declared.frame.Resource.{Resource}
use Rattle.law_window.specs.Declared.{holder_in}
use Rattle.law_window.specs.NamedJoins.{size_of}

abbrev import_in : List Resource → ℕ → List ℕ
import_in rs k = option_map_or (λ r. unwrap_or r.import []) (slice_get rs k) []

pub import_at : (rs : List Resource) (k : ℕ) (r : Resource) (bytes : List ℕ) → k < length rs → r ≡ get_or rs k r → bytes ≡ unwrap_or r.import [] → bytes ≡ option_map_or (λ r. unwrap_or r.import []) (slice_get rs k) []
import_at rs k r bytes lt is gives = gives ∙ ap (λ x. unwrap_or x.import []) is ∙ sym (ap (λ o. option_map_or (λ x. unwrap_or x.import []) o []) (slice_get-get_or rs k r lt))

-- an import has the bytes of its shape
import_long : (r : Resource) → import_fits r.shape r.import ≡ true → is_some r.import ≡ true → length (unwrap_or r.import []) ≡ bytes_of r.shape
import_long r fits there = by_import r.import fits there
  where
    by_import : (import : Option (List ℕ)) → import_fits r.shape import ≡ true → is_some import ≡ true → length (unwrap_or import []) ≡ bytes_of r.shape
    by_import None fits there = absurd cc
    by_import (Some bytes) fits there = eqb-true (length bytes) (bytes_of r.shape) (and_parts (is_buffer r.shape) (length bytes == bytes_of r.shape) fits).1

sized_at : (rs : List Resource) (k size : ℕ) → ((j : ℕ) (r : Resource) → slice_get rs j ≡ Some r → import_fits r.shape r.import ≡ true) → option_map_or (is_persisted size) (slice_get rs k) false ≡ true → length (import_in rs k) ≡ size_of rs k
sized_at [] k size fit persisted = absurd cc
sized_at (r ∷ rs) zero size fit persisted = import_long r (fit 0 r refl) (and_parts (is_some r.import) (bytes_of r.shape == size) persisted).0
sized_at (r ∷ rs) (suc k) size fit persisted = sized_at rs k size (λ j x is. fit (suc j) x is) persisted

module _ (frames : List Frame) (name : List ℕ) (f : Frame) (good : first_fault f ≡ None) (kept : persists frames f name ≡ true) where
  import_sized : (i : ℕ) → option_map length (import_under name i f) ≡ size_at name i f
  import_sized i = by_holder (holder_in f.resources name) kept
    where
      by_holder : (holder : Option ℕ) → option_map_or (λ k. option_map_or (is_persisted (unwrap_or (size_in frames name) 0)) (slice_get f.resources k) false) holder true ≡ true → option_map length (option_map (import_in f.resources) holder) ≡ option_map (size_of f.resources) holder
      by_holder None persisted = refl
      by_holder (Some k) persisted = ap (λ n. Some n) (sized_at f.resources k (unwrap_or (size_in frames name) 0) (λ j r is. entry_of (λ x. import_fits x.shape x.import ≡ true) f.resources j r (declared_by_law f good).imports is) persisted)

or_mapped : {Y Z : Type 0} (g : Y → Z) (o rest : Option Y) → option_map g (option_or o rest) ≡ option_or (option_map g o) (option_map g rest)
or_mapped g None rest = refl
or_mapped g (Some y) rest = refl

first_mapped : {X Y Z : Type 0} (g : Y → Z) (one : ℕ → X → Option Y) (two : ℕ → X → Option Z) (i : ℕ) (xs : List X) → ((j k : ℕ) (x : X) → slice_get xs k ≡ Some x → option_map g (one j x) ≡ two j x) → option_map g (first_in one i xs) ≡ first_in two i xs
first_mapped g one two i [] same = refl
first_mapped g one two i (x ∷ xs) same = or_mapped g (one i x) (first_in one (suc i) xs) ∙ ap₂ option_or (same i 0 x refl) (first_mapped g one two (suc i) xs (λ j k y is. same j (suc k) y is))

module _ (frames : List Frame) (persist : List (List ℕ)) (depth : ℕ) (F : Fly frames persist depth) where
  sized_from : (names : List (List ℕ)) → ((j : ℕ) (name : List ℕ) → slice_get names j ≡ Some name → (i : ℕ) (f : Frame) → slice_get frames i ≡ Some f → persists frames f name ≡ true) → map (option_map length) (first_bytes frames names) ≡ map (size_in frames) names
  sized_from [] kept = refl
  sized_from (name ∷ names) kept =
      ap₂ (λ s ss. s ∷ ss)
      (first_mapped length (import_under name) (size_at name) 0 frames (λ j k f is. import_sized frames name f (entry_of (λ x. first_fault x ≡ None) frames k f F.good is) (kept 0 name refl k f is) j))
      (sized_from names (λ j n is. kept (suc j) n is))

  pub first_sized : ArePersisted frames persist (first_bytes frames persist)
  first_sized = sized_from persist (λ j name at i f is. each_persists frames persist depth F i f is j name at)

  pub first_is_held : IsPersisted frames persist 0 (first_bytes frames persist)
  first_is_held = record { sized = first_sized; bytes = refl }

pub held_first : (frames : List Frame) (persist : List (List ℕ)) (depth : ℕ) → Fly frames persist depth → (persisted : List (Option (List ℕ))) → persisted ≡ first_bytes frames persist → IsPersisted frames persist 0 persisted
held_first frames persist depth F persisted is = subst (IsPersisted frames persist 0) (sym is) (first_is_held frames persist depth F)
