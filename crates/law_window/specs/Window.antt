-- A window: frames that are compiled together, as one frame.
use Rattle.std.specs.Prelude.{ℕ, List, [], ◌∷◌, ◌++◌, ◌+◌, ◌==◌, map, not}
use Rattle.std.specs.List.{list_any, filter}
use Rattle.base.specs.declared.shape.Family.{Family}
use Rattle.frame.specs.Valid.{shapes_in}
use Rattle.frame.specs.Numbered.{NumberedFrame}
use Rattle.frame.specs.Units.{Unit}
use Rattle.frame.specs.declared.numbered.NumberedPass.{NumberedPass}
use Rattle.law_window.specs.Flown.{Flown, with_imports}
use Rattle.law_window.specs.Joins.{carries, joins}
use Rattle.law_window.specs.Moved.{moved}
use Rattle.law_window.specs.Sources.{Source, given, import_from, last_sources, left_units, next, sources_after}

-- ONE FRAME, WHOSE UNITS BEGIN AT n

-- only those are imports under persisting names whose bytes are given
abbrev pub units_in : List Source → Flown → List Unit
units_in sources flown = with_imports flown.places (map import_from sources) flown.frame.units

-- its join pass stands before its own passes
abbrev pub passes_in : ℕ → List Source → Flown → List NumberedPass
passes_in n sources flown = joins (carries n (shapes_in flown.frame) flown.places sources) ++ map (moved n) flown.frame.passes

-- ALL FRAMES, OF WHICH THE FIRST BEGINS AT n

abbrev pub all_units : ℕ → List Source → List Flown → List Unit
all_units n sources [] = []
all_units n sources (flown ∷ frames) = units_in sources flown ++ all_units (next n flown) (sources_after n flown.places sources) frames

abbrev pub all_passes : ℕ → List Source → List Flown → List NumberedPass
all_passes n sources [] = []
all_passes n sources (flown ∷ frames) = passes_in n sources flown ++ all_passes (next n flown) (sources_after n flown.places sources) frames

abbrev pub own_exports : ℕ → List Flown → List ℕ
own_exports n [] = []
own_exports n (flown ∷ frames) = map (λ unit. n + unit) flown.frame.exports ++ own_exports (next n flown) frames

-- those that are not among these
abbrev pub others : List ℕ → List ℕ → List ℕ
others units more = filter (λ unit. not (list_any (λ x. x == unit) units)) more

-- the window of frames over these queues, of which the first begins with the persisted bytes. After the exports of its frames
-- it exports the last unit of each persisting name
abbrev pub window : List Family → List Flown → List (List ℕ) → NumberedFrame
window queues frames persisted =
    let own = own_exports 0 frames in
    record {
      units = all_units 0 (given persisted) frames;
      queues = queues;
      passes = all_passes 0 (given persisted) frames;
      exports = own ++ others own (left_units (last_sources 0 (given persisted) frames));
    }
