-- Which passes are kept and which are culled, as JSON.
use Rattle.std.specs.Prelude.{ℕ, ◌-◌, Bool, false, List, [], ◌∷◌, ◌++◌, length, codes, slice_index_or}
use Rattle.std.specs.List.{count_by}
use Rattle.frame.specs.declared.frame.Frame.{Frame}
use Rattle.frame.specs.declared.frame.Pass.{Pass}
use Rattle.report_json.specs.Json.{number, string, truth, member, object, array, answer}

abbrev pub pass_object : Pass → Bool → List ℕ
pass_object pass kept = object (member (codes "name") (string pass.name)) (member (codes "kept") (truth kept) ∷ [])

-- pass p, by the list of which are kept
abbrev pub pass_of : List Bool → ℕ → Pass → List ℕ
pass_of kept p pass = pass_object pass (slice_index_or kept p false)

abbrev pub kept_count : List Bool → ℕ
kept_count kept = count_by (λ k. k) kept

-- what `cull --json` prints
abbrev pub cull_json : Frame → List Bool → List ℕ
cull_json frame kept = answer
    (member (codes "kept") (number (kept_count kept)))
    (member (codes "culled") (number (length kept - kept_count kept))
    ∷ member (codes "passes") (array (pass_of kept) frame.passes) ∷ [])
