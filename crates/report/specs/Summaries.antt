-- What is printed of a frame that was run, in place of its bytes.
use Rattle.std.specs.Prelude.{ℕ, List, ◌++◌, codes}
use Rattle.std.specs.Fmt.{decimal}

-- how many passes are kept, and how many are not
abbrev pub passes_line : ℕ → ℕ → List ℕ
passes_line kept culled = codes "kept " ++ decimal kept ++ codes " culled " ++ decimal culled ++ codes "\n"

-- how many nodes the program has
abbrev pub nodes_line : ℕ → List ℕ
nodes_line nodes = codes "nodes " ++ decimal nodes ++ codes "\n"

-- how many bytes the heap has, and how many the resources would have with memory of their own
abbrev pub memory_line : ℕ → ℕ → List ℕ
memory_line heap separate = codes "heap " ++ decimal heap ++ codes " separate " ++ decimal separate ++ codes "\n"

-- how many exports there are, how many bytes they have, and what these come to as numbers
abbrev pub exports_line : ℕ → ℕ → ℕ → List ℕ
exports_line exports bytes total = codes "exports " ++ decimal exports ++ codes " bytes " ++ decimal bytes ++ codes " sum " ++ decimal total ++ codes "\n"

abbrev pub summary_text : ℕ → ℕ → ℕ → ℕ → ℕ → ℕ → ℕ → ℕ → List ℕ
summary_text kept culled nodes heap separate exports bytes total = passes_line kept culled ++ nodes_line nodes ++ memory_line heap separate ++ exports_line exports bytes total
