-- Which passes are kept and which are culled, as it is printed.
use Rattle.std.specs.Prelude.{ℕ, suc, ◌-◌, Bool, true, false, List, [], ◌∷◌, ◌++◌, length, codes, slice_index_or}
use Rattle.std.specs.List.{count_by}
use Rattle.std.specs.Fmt.{decimal}
use Rattle.frame.specs.declared.frame.Frame.{Frame}
use Rattle.frame.specs.declared.frame.Pass.{Pass}
use Rattle.report.specs.declared.kept.Listing.{Listing}
use Rattle.report.specs.declared.kept.Listing.TheVariants.{Culled, Each}

-- how many passes are kept, and how many are not
abbrev pub kept_line : List Bool → List ℕ
kept_line kept = let count = count_by (λ k. k) kept in codes "kept " ++ decimal count ++ codes " culled " ++ decimal (length kept - count) ++ codes "\n"

abbrev pub state_of : Bool → List ℕ
state_of true = codes " kept\n"
state_of false = codes " culled\n"

-- the line of a pass: where culled passes alone are listed, a kept one has none
abbrev pub pass_line : Listing → Pass → Bool → List ℕ
pass_line Culled pass true = []
pass_line Culled pass false = codes "culled " ++ pass.name ++ codes "\n"
pass_line Each pass kept = codes "pass " ++ pass.name ++ state_of kept

-- the lines of passes in declared order, the first of which is number i
abbrev pub pass_lines : Listing → List Bool → ℕ → List Pass → List ℕ
pass_lines listing kept i [] = []
pass_lines listing kept i (pass ∷ passes) = pass_line listing pass (slice_index_or kept i false) ++ pass_lines listing kept (suc i) passes

abbrev pub listed : Listing → Frame → List Bool → List ℕ
listed listing frame kept = kept_line kept ++ pass_lines listing kept 0 frame.passes

-- what `run` prints before the exports
abbrev pub run_text : Frame → List Bool → List ℕ
run_text frame kept = listed Culled frame kept

-- what `cull` prints
abbrev pub cull_text : Frame → List Bool → List ℕ
cull_text frame kept = listed Each frame kept
