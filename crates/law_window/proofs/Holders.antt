-- The resources that have persisting names: different buffers of one layer.
use Rattle.std.proofs.Common.{◌≡◌, ◌≢◌, ℕ, zero, suc, ◌+◌, ◌<◌, ◌==◌, ◌++◌, List, [], ◌∷◌, length, map, replicate, true, Option, Some, None, is_some, if◌then◌else◌, refl, sym, ap, subst, ◌∙◌, arith}
use Rattle.std.specs.List.{AllByRecursion, flat_map}
use Rattle.std.proofs.lemmas.Bool.{and_parts, eqb-true}
use Rattle.std.proofs.lemmas.List.{get_or-append-add, length-append, length-map, length-replicate, map-append}
use Rattle.base.specs.Bounds.{is_between}
use Rattle.base.specs.Shapes.{bytes_of, is_buffer, shape_at}
use Rattle.base.specs.declared.shape.Shape.{Shape}
use Rattle.base.specs.declared.shape.Shape.TheVariants.{Buffer, Image}
use Rattle.frame.proofs.Necessary.{declared_by_law, good}
use Rattle.frame.proofs.Small.{names_known, none_broken}
use Rattle.frame.specs.FirstFault.{name_broken}
use Rattle.frame.specs.Limits.{layers_allowed}
use Rattle.frame.specs.Units.{unit_from, units_from}
use Rattle.frame.specs.Uses.{import_fits}
use Rattle.frame.specs.declared.frame.QueueDecl.{QueueDecl}
use Rattle.frame.specs.declared.frame.Resource.{Resource}
use Rattle.law_window.specs.Declared.{Declared, flown_of, places_in, unit_at}
use Rattle.law_window.specs.NamedTogether.{ArePersistedIn, FliesDeclared, IsImport}
use Rattle.law_window.proofs.Each.{each}
use Rattle.law_window.specs.Together.{Absent, ArePlaced, Flies}

-- resource k is there, and has one layer
abbrev pub OneLayer : List Resource → ℕ → Type 0
OneLayer [] k = ⊥
OneLayer (r ∷ rs) zero = r.layers ≡ 1
OneLayer (r ∷ rs) (suc k) = OneLayer rs k

-- so are all that have persisting names
abbrev pub HaveOneLayer : List Resource → List (Option ℕ) → Type 0
HaveOneLayer rs [] = Unit {0}
HaveOneLayer rs (None ∷ holders) = HaveOneLayer rs holders
HaveOneLayer rs (Some k ∷ holders) = OneLayer rs k × HaveOneLayer rs holders

abbrev pub AreDifferent : List (Option ℕ) → Type 0
AreDifferent [] = Unit {0}
AreDifferent (None ∷ holders) = AreDifferent holders
AreDifferent (Some k ∷ holders) = Absent k holders × AreDifferent holders

-- what the proofs on names ask of a frame
pub record IsUsable (queues : List QueueDecl) (d : Declared) : Type 0 where
  pub named : name_broken d.frame ≡ None
  pub same : d.frame.queues ≡ queues
  pub persisted : HaveOneLayer d.frame.resources d.holders
  pub different : AreDifferent d.holders

-- AN IMPORT IS A BUFFER

import_buffer : (r : Resource) → import_fits r.shape r.import ≡ true → is_some r.import ≡ true → is_buffer r.shape ≡ true
import_buffer r fits there = by_import r.import fits there
  where
    by_import : (import : Option (List ℕ)) → import_fits r.shape import ≡ true → is_some import ≡ true → is_buffer r.shape ≡ true
    by_import None fits there = absurd cc
    by_import (Some bytes) fits there = (and_parts (is_buffer r.shape) (length bytes == bytes_of r.shape) fits).0

one_layer : (r : Resource) → layers_allowed r ≡ true → is_buffer r.shape ≡ true → r.layers ≡ 1
one_layer r allowed buffer = eqb-true r.layers 1 (sym (ap (λ b. if b then r.layers == 1 else is_between 1 8 r.layers) buffer) ∙ allowed)

buffer_size : (shape : Shape) → is_buffer shape ≡ true → shape ≡ Buffer (bytes_of shape)
buffer_size (Buffer size) e = refl
buffer_size (Image width height texel) e = absurd cc

abbrev IsApt : Resource → Type 0
IsApt r = (layers_allowed r ≡ true) × (import_fits r.shape r.import ≡ true)

-- PLACES

abbrev shapes_from : List Resource → List Shape
shapes_from rs = map (λ u. u.shape) (flat_map units_from rs)

own_count : (r : Resource) → length (map (λ u. u.shape) (units_from r)) ≡ r.layers
own_count r = length-map (units_from r) (λ u. u.shape) ∙ length-replicate r.layers (unit_from r)

shapes_split : (r : Resource) (rs : List Resource) → shapes_from (r ∷ rs) ≡ map (λ u. u.shape) (units_from r) ++ shapes_from rs
shapes_split r rs = map-append (λ u. u.shape) (units_from r) (flat_map units_from rs)

one_held : (rs : List Resource) → AllByRecursion IsApt rs → (k size : ℕ) → IsImport rs k size → OneLayer rs k
one_held [] apt k size persisted = absurd persisted
one_held (r ∷ rs) apt zero size persisted = one_layer r apt.0.0 (import_buffer r apt.0.1 persisted.0)
one_held (r ∷ rs) apt (suc k) size persisted = one_held rs apt.1 k size persisted

inside : (rs : List Resource) (k : ℕ) → OneLayer rs k → unit_at rs k < length (shapes_from rs)
inside [] k one = absurd one
inside (r ∷ rs) zero one = subst (λ m. 0 < length (map (λ u. u.shape) (replicate m (unit_from r) ++ flat_map units_from rs))) (sym one) (omega arith)
inside (r ∷ rs) (suc k) one =
    let count = length-append (map (λ u. u.shape) (units_from r)) (shapes_from rs) in
    subst (λ n. r.layers + unit_at rs k < n) (sym (ap length (shapes_split r rs) ∙ count)) (let lt = inside rs k one in omega (arith, own_count r, lt))

shape_held : (rs : List Resource) → AllByRecursion IsApt rs → (k size : ℕ) → IsImport rs k size → shape_at (shapes_from rs) (unit_at rs k) ≡ Buffer size
shape_held [] apt k size persisted = absurd persisted
shape_held (r ∷ rs) apt zero size persisted =
    let buffer = import_buffer r apt.0.1 persisted.0 in
    ap (λ m. shape_at (map (λ u. u.shape) (replicate m (unit_from r) ++ flat_map units_from rs)) 0) (one_layer r apt.0.0 buffer)
    ∙ buffer_size r.shape buffer ∙ ap (λ n. Buffer n) persisted.1
shape_held (r ∷ rs) apt (suc k) size persisted =
    let own = map (λ u. u.shape) (units_from r) in
    ap (λ s. shape_at s (r.layers + unit_at rs k)) (shapes_split r rs)
    ∙ ap (λ m. shape_at (own ++ shapes_from rs) (m + unit_at rs k)) (sym (own_count r))
    ∙ get_or-append-add own (shapes_from rs) (unit_at rs k) (Buffer 0)
    ∙ shape_held rs apt.1 k size persisted

units_apart : (rs : List Resource) (k l : ℕ) → OneLayer rs k → OneLayer rs l → k ≢ l → unit_at rs k ≢ unit_at rs l
units_apart [] k l one two other = absurd one
units_apart (r ∷ rs) zero zero one two other = absurd (other refl)
units_apart (r ∷ rs) zero (suc l) one two other = λ e. omega (arith, one, e)
units_apart (r ∷ rs) (suc k) zero one two other = λ e. omega (arith, two, e)
units_apart (r ∷ rs) (suc k) (suc l) one two other = λ e. units_apart rs k l one two (λ same. other (ap suc same)) (omega (arith, e))

absent_unit : (rs : List Resource) (k : ℕ) (holders : List (Option ℕ)) → OneLayer rs k → HaveOneLayer rs holders → Absent k holders → Absent (unit_at rs k) (places_in rs holders)
absent_unit rs k [] one persisted absent = tt
absent_unit rs k (None ∷ holders) one persisted absent = absent_unit rs k holders one persisted absent
absent_unit rs k (Some l ∷ holders) one persisted absent = (units_apart rs k l one persisted.0 absent.0, absent_unit rs k holders one persisted.1 absent.1)

-- ALL PERSISTING NAMES

all_one : (rs : List Resource) → AllByRecursion IsApt rs → (sizes : List ℕ) (holders : List (Option ℕ)) → ArePersistedIn rs sizes holders → HaveOneLayer rs holders
all_one rs apt [] [] persisted = tt
all_one rs apt [] (holder ∷ holders) persisted = absurd persisted
all_one rs apt (size ∷ sizes) [] persisted = absurd persisted
all_one rs apt (size ∷ sizes) (None ∷ holders) persisted = all_one rs apt sizes holders persisted
all_one rs apt (size ∷ sizes) (Some k ∷ holders) persisted = (one_held rs apt k size persisted.0, all_one rs apt sizes holders persisted.2)

all_different : (rs : List Resource) (sizes : List ℕ) (holders : List (Option ℕ)) → ArePersistedIn rs sizes holders → AreDifferent holders
all_different rs [] [] persisted = tt
all_different rs [] (holder ∷ holders) persisted = absurd persisted
all_different rs (size ∷ sizes) [] persisted = absurd persisted
all_different rs (size ∷ sizes) (None ∷ holders) persisted = all_different rs sizes holders persisted
all_different rs (size ∷ sizes) (Some k ∷ holders) persisted = (persisted.1, all_different rs sizes holders persisted.2)

all_placed : (rs : List Resource) → AllByRecursion IsApt rs → (sizes : List ℕ) (holders : List (Option ℕ)) → ArePersistedIn rs sizes holders → ArePlaced sizes (places_in rs holders) (shapes_from rs)
all_placed rs apt [] [] persisted = tt
all_placed rs apt [] (holder ∷ holders) persisted = absurd persisted
all_placed rs apt (size ∷ sizes) [] persisted = absurd persisted
all_placed rs apt (size ∷ sizes) (None ∷ holders) persisted = all_placed rs apt sizes holders persisted
all_placed rs apt (size ∷ sizes) (Some k ∷ holders) persisted =
    let one = one_held rs apt k size persisted.0 in
    (inside rs k one, shape_held rs apt k size persisted.0, absent_unit rs k holders one (all_one rs apt sizes holders persisted.2) persisted.1, all_placed rs apt sizes holders persisted.2)

-- A FRAME WITHOUT A FAULT

module _ (queues : List QueueDecl) (sizes : List ℕ) (d : Declared) (F : FliesDeclared queues sizes d) where
  apt : AllByRecursion IsApt d.frame.resources
  apt =
      let D = declared_by_law d.frame F.none in
      each IsApt d.frame.resources (λ k e lt. (D.layers k e lt, D.imports k e lt))

  pub usable : IsUsable queues d
  usable = record {
    named = names_known d.frame F.none;
    same = F.same;
    persisted = all_one d.frame.resources apt sizes d.holders F.persisted;
    different = all_different d.frame.resources sizes d.holders F.persisted;
  }

  pub flies : Flies (map (λ q. q.family) queues) sizes (flown_of d)
  flies = record {
    good = good d.frame (none_broken d.frame F.none);
    same = ap (map (λ q. q.family)) F.same;
    placed = all_placed d.frame.resources apt sizes d.holders F.persisted;
  }

pub all_usable : (queues : List QueueDecl) (sizes : List ℕ) (ds : List Declared) → AllByRecursion (FliesDeclared queues sizes) ds → AllByRecursion (IsUsable queues) ds
all_usable queues sizes [] fly = tt
all_usable queues sizes (d ∷ ds) fly = (usable queues sizes d fly.0, all_usable queues sizes ds fly.1)

pub all_fly : (queues : List QueueDecl) (sizes : List ℕ) (ds : List Declared) → AllByRecursion (FliesDeclared queues sizes) ds → AllByRecursion (Flies (map (λ q. q.family) queues) sizes) (map flown_of ds)
all_fly queues sizes [] fly = tt
all_fly queues sizes (d ∷ ds) fly = (flies queues sizes d fly.0, all_fly queues sizes ds fly.1)
