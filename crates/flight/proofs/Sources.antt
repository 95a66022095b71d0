-- What is left under persisting names, as units.
use Rattle.std.proofs.Common.{◌≡◌, ℕ, suc, ◌+◌, ◌++◌, List, [], ◌∷◌, length, map, Option, Some, None, refl, sym, ap, ap₂, ◌∙◌, arith}
use Rattle.std.specs.Prelude.{option_to_list}
use Rattle.std.specs.Option.{option_map, option_or}
use Rattle.base.specs.declared.shape.Family.{Family}
use Rattle.flight.specs.Exported.{exported_units, last_unit, last_units, own_units, unit_count, unit_under}
use Rattle.flight.specs.Flights.{all_declared}
use Rattle.frame.specs.Numbered.{numbered}
use Rattle.frame.specs.declared.frame.Frame.{Frame}
use Rattle.law_window.specs.Declared.{flown_of, holder_in, places_in, unit_at}
use Rattle.law_window.specs.Flown.{Flown}
use Rattle.law_window.specs.Sources.{Source, Given, Left, given, last_sources, left_units, sources_after}
use Rattle.law_window.specs.Window.{others, own_exports, window}

abbrev pub flown : List Frame → List (List ℕ) → List Flown
flown frames persist = map flown_of (all_declared frames persist)

-- a source by its unit, or by the bytes that were persisted
abbrev pub source_from : List ℕ → Option ℕ → Source
source_from bytes None = Given bytes
source_from bytes (Some unit) = Left unit

abbrev pub sources_from : List (List ℕ) → List (Option ℕ) → List Source
sources_from [] units = []
sources_from (bytes ∷ persisted) [] = []
sources_from (bytes ∷ persisted) (unit ∷ units) = source_from bytes unit ∷ sources_from persisted units

abbrev units_after : ℕ → List (List ℕ) → List (Option ℕ) → Frame → List (Option ℕ)
units_after n [] units f = []
units_after n (name ∷ names) [] f = []
units_after n (name ∷ names) (unit ∷ units) f = option_or (unit_under n name f) unit ∷ units_after n names units f

abbrev all_last : ℕ → List (List ℕ) → List (Option ℕ) → List Frame → List (Option ℕ)
all_last n [] units frames = []
all_last n (name ∷ names) [] frames = []
all_last n (name ∷ names) (unit ∷ units) frames = last_unit n name unit frames ∷ all_last n names units frames

-- the last unit under each name
abbrev pub lasts : List (List ℕ) → List Frame → List (Option ℕ)
lasts names frames = map (λ name. last_unit 0 name None frames) names

after_many : (n : ℕ) (f : Frame) (names : List (List ℕ)) (units : List (Option ℕ)) → length units ≡ length names → length (units_after n names units f) ≡ length names
after_many n f [] units same = refl
after_many n f (name ∷ names) [] same = absurd (omega arith)
after_many n f (name ∷ names) (unit ∷ units) same = ap suc (after_many n f names units (omega arith))

after_from : (n : ℕ) (f : Frame) (names : List (List ℕ)) (persisted : List (List ℕ)) (units : List (Option ℕ)) → length persisted ≡ length names → length units ≡ length names → sources_after n (places_in f.resources (map (holder_in f.resources) names)) (sources_from persisted units) ≡ sources_from persisted (units_after n names units f)
after_from n f [] [] units held_same same = refl
after_from n f [] (bytes ∷ persisted) units held_same same = absurd (omega arith)
after_from n f (name ∷ names) [] units held_same same = absurd (omega arith)
after_from n f (name ∷ names) (bytes ∷ persisted) [] held_same same = absurd (omega arith)
after_from n f (name ∷ names) (bytes ∷ persisted) (unit ∷ units) held_same same = by_holder (holder_in f.resources name) (after_from n f names persisted units (omega arith) (omega arith))
  where
    by_holder : (holder : Option ℕ) → sources_after n (places_in f.resources (map (holder_in f.resources) names)) (sources_from persisted units) ≡ sources_from persisted (units_after n names units f) → sources_after n (option_map (unit_at f.resources) holder ∷ places_in f.resources (map (holder_in f.resources) names)) (source_from bytes unit ∷ sources_from persisted units) ≡ source_from bytes (option_or (option_map (λ k. n + unit_at f.resources k) holder) unit) ∷ sources_from persisted (units_after n names units f)
    by_holder None rest = ap (λ ss. source_from bytes unit ∷ ss) rest
    by_holder (Some k) rest = ap (λ ss. Left (n + unit_at f.resources k) ∷ ss) rest

all_none : (n : ℕ) (names : List (List ℕ)) (units : List (Option ℕ)) → length units ≡ length names → all_last n names units [] ≡ units
all_none n [] [] same = refl
all_none n [] (unit ∷ units) same = absurd (omega arith)
all_none n (name ∷ names) [] same = absurd (omega arith)
all_none n (name ∷ names) (unit ∷ units) same = ap (λ us. unit ∷ us) (all_none n names units (omega arith))

all_on : (n : ℕ) (f : Frame) (frames : List Frame) (names : List (List ℕ)) (units : List (Option ℕ)) → all_last n names units (f ∷ frames) ≡ all_last (n + unit_count f) names (units_after n names units f) frames
all_on n f frames [] units = refl
all_on n f frames (name ∷ names) [] = refl
all_on n f frames (name ∷ names) (unit ∷ units) = ap (λ us. last_unit (n + unit_count f) name (option_or (unit_under n name f) unit) frames ∷ us) (all_on n f frames names units)

last_from : (n : ℕ) (frames : List Frame) (names : List (List ℕ)) (persisted : List (List ℕ)) (units : List (Option ℕ)) → length persisted ≡ length names → length units ≡ length names → last_sources n (sources_from persisted units) (flown frames names) ≡ sources_from persisted (all_last n names units frames)
last_from n [] names persisted units held_same same = ap (sources_from persisted) (sym (all_none n names units same))
last_from n (f ∷ frames) names persisted units held_same same =
    ap (λ ss. last_sources (n + unit_count f) ss (flown frames names)) (after_from n f names persisted units held_same same)
    ∙ last_from (n + unit_count f) frames names persisted (units_after n names units f) held_same (after_many n f names units same)
    ∙ ap (sources_from persisted) (sym (all_on n f frames names units))

abbrev nones : List (List ℕ) → List (Option ℕ)
nones names = map (λ name. None) names

nones_many : (names : List (List ℕ)) → length (nones names) ≡ length names
nones_many [] = refl
nones_many (name ∷ names) = ap suc (nones_many names)

given_from : (names : List (List ℕ)) (persisted : List (List ℕ)) → length persisted ≡ length names → given persisted ≡ sources_from persisted (nones names)
given_from [] [] same = refl
given_from [] (bytes ∷ persisted) same = absurd (omega arith)
given_from (name ∷ names) [] same = absurd (omega arith)
given_from (name ∷ names) (bytes ∷ persisted) same = ap (λ ss. Given bytes ∷ ss) (given_from names persisted (omega arith))

lasts_are : (names : List (List ℕ)) (frames : List Frame) → all_last 0 names (nones names) frames ≡ lasts names frames
lasts_are [] frames = refl
lasts_are (name ∷ names) frames = ap (λ us. last_unit 0 name None frames ∷ us) (lasts_are names frames)

-- what is left after a window
pub sources_at : (frames : List Frame) (names : List (List ℕ)) (persisted : List (List ℕ)) → length persisted ≡ length names → last_sources 0 (given persisted) (flown frames names) ≡ sources_from persisted (lasts names frames)
sources_at frames names persisted same =
    ap (λ ss. last_sources 0 ss (flown frames names)) (given_from names persisted same)
    ∙ last_from 0 frames names persisted (nones names) same (nones_many names)
    ∙ ap (sources_from persisted) (lasts_are names frames)

left_there : (frames : List Frame) (names : List (List ℕ)) (persisted : List (List ℕ)) → length persisted ≡ length names → left_units (sources_from persisted (lasts names frames)) ≡ last_units names frames
left_there frames [] [] same = refl
left_there frames [] (bytes ∷ persisted) same = absurd (omega arith)
left_there frames (name ∷ names) [] same = absurd (omega arith)
left_there frames (name ∷ names) (bytes ∷ persisted) same = by_unit (last_unit 0 name None frames) (left_there frames names persisted (omega arith))
  where
    by_unit : (unit : Option ℕ) → left_units (sources_from persisted (lasts names frames)) ≡ last_units names frames → left_units (source_from bytes unit ∷ sources_from persisted (lasts names frames)) ≡ option_to_list unit ++ last_units names frames
    by_unit None rest = rest
    by_unit (Some unit) rest = ap (λ us. unit ∷ us) rest

own_flown : (n : ℕ) (frames : List Frame) (names : List (List ℕ)) → own_exports n (flown frames names) ≡ own_units n frames
own_flown n [] names = refl
own_flown n (f ∷ frames) names = ap (λ us. map (λ unit. n + unit) (numbered f).exports ++ us) (own_flown (n + unit_count f) frames names)

-- what a window exports
pub window_units : (queues : List Family) (frames : List Frame) (names : List (List ℕ)) (persisted : List (List ℕ)) → length persisted ≡ length names → (window queues (flown frames names) persisted).exports ≡ exported_units names frames
window_units queues frames names persisted same = ap₂ (λ own left. own ++ others own left) (own_flown 0 frames names) (ap left_units (sources_at frames names persisted same) ∙ left_there frames names persisted same)
