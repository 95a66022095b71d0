-- What a frame costs before and after its queues are chosen, as it is printed.
use Rattle.std.specs.Prelude.{ℕ, List, ◌++◌, codes}
use Rattle.std.specs.Fmt.{decimal}

abbrev pub cost_text : ℕ → ℕ → List ℕ
cost_text given found = codes "cost " ++ decimal given ++ codes " " ++ decimal found ++ codes "\n"
