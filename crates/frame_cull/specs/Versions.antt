-- The versions of units.
use Rattle.std.specs.Prelude.{ℕ, suc, List, [], ◌∷◌, ◌++◌, ◌-◌, ◌==◌, map, take, length, not, false, Option, Some, None, slice_index_or, if◌then◌else◌}
use Rattle.std.specs.List.{filter, filter_map, range_with_len}
use Rattle.frame.specs.Valid.{is_import}
use Rattle.frame.specs.Numbered.{NumberedFrame}
use Rattle.frame.specs.declared.frame.Write.{Write}
use Rattle.frame.specs.declared.numbered.NumberedPass.{NumberedPass}

-- THE VERSIONS OF A UNIT, EACH WITH THE PASS THAT MAKES IT

-- those that the writes of pass i make
abbrev pub made_by : ℕ → ℕ → List (Write ℕ) → List (Option ℕ)
made_by unit i [] = []
made_by unit i (w ∷ writes) = if w.what == unit then Some i ∷ made_by unit i writes else made_by unit i writes

-- those that passes make, which are numbered from i on
abbrev pub made : ℕ → ℕ → List NumberedPass → List (Option ℕ)
made unit i [] = []
made unit i (pass ∷ passes) = made_by unit i pass.writes ++ made unit (suc i) passes

-- an import has a version that no pass makes
abbrev pub imported : NumberedFrame → ℕ → List (Option ℕ)
imported frame unit = if is_import frame.units unit then None ∷ [] else []

-- those that are made before pass p
abbrev pub versions : NumberedFrame → ℕ → ℕ → List (Option ℕ)
versions frame p unit = imported frame unit ++ made unit 0 (take p frame.passes)

abbrev pub all_versions : NumberedFrame → ℕ → List (Option ℕ)
all_versions frame unit = versions frame (length frame.passes) unit

-- the number of the last of them
abbrev pub latest : List (Option ℕ) → ℕ
latest row = length row - 1

-- the pass that makes the last of them, if there is one and a pass makes it
abbrev pub latest_maker : List (Option ℕ) → Option ℕ
latest_maker row = slice_index_or row (latest row) None

-- WHAT A PASS READS, CHANGES AND MAKES

abbrev pub no_pass : NumberedPass
no_pass = record { queue = 0; reads = []; writes = []; ops = []; side_effect = false }

abbrev pub pass_at : NumberedFrame → ℕ → NumberedPass
pass_at frame p = slice_index_or frame.passes p no_pass

-- the versions that pass p reads: the latest before it
abbrev pub read_by : NumberedFrame → ℕ → List ℕ
read_by frame p = map (λ unit. latest (versions frame p unit)) (pass_at frame p).reads

-- the versions that these writes of pass p make, after its writes before them
abbrev pub numbers_after : NumberedFrame → ℕ → List (Write ℕ) → List (Write ℕ) → List ℕ
numbers_after frame p before [] = []
numbers_after frame p before (w ∷ writes) = length (versions frame p w.what ++ made_by w.what p before) ∷ numbers_after frame p (before ++ w ∷ []) writes

abbrev pub written_by : NumberedFrame → ℕ → List ℕ
written_by frame p = numbers_after frame p [] (pass_at frame p).writes

abbrev pub changes : List (Write ℕ) → List ℕ
changes writes = map (λ w. w.what) (filter (λ w. not w.fresh) writes)

-- the units of which a pass uses a version that is there before it: those that it reads or changes
abbrev pub used : NumberedPass → List ℕ
used pass = pass.reads ++ changes pass.writes

-- the passes that make the versions that pass p reads or changes
abbrev pub sources : NumberedFrame → ℕ → List ℕ
sources frame p = filter_map (λ unit. latest_maker (versions frame p unit)) (used (pass_at frame p))

-- ALL OF A FRAME

-- for each unit its versions, and for each pass the versions that it reads, those that it makes, and its sources
pub record Numbers : Type 0 where
  pub makers : List (List (Option ℕ))
  pub reads : List (List ℕ)
  pub writes : List (List ℕ)
  pub sources : List (List ℕ)

-- the versions of a unit, the numbers of a pass
abbrev pub row_of : List (List (Option ℕ)) → ℕ → List (Option ℕ)
row_of rows unit = slice_index_or rows unit []

abbrev pub row_at : List (List ℕ) → ℕ → List ℕ
row_at rows p = slice_index_or rows p []

-- the number of the last version
abbrev pub last_number : List (Option ℕ) → Option ℕ
last_number row = if length row == 0 then None else Some (length row - 1)

-- of the first p passes
abbrev pub numbers_until : NumberedFrame → ℕ → Numbers
numbers_until frame p = record {
  makers = map (versions frame p) (range_with_len 0 (length frame.units));
  reads = map (read_by frame) (range_with_len 0 p);
  writes = map (written_by frame) (range_with_len 0 p);
  sources = map (sources frame) (range_with_len 0 p);
}

abbrev pub numbers_of : NumberedFrame → Numbers
numbers_of frame = numbers_until frame (length frame.passes)
