-- What a frame costs before and after its queues are chosen, as JSON.
use Rattle.std.specs.Prelude.{ℕ, List, [], ◌∷◌, codes}
use Rattle.report_json.specs.Json.{number, member, answer}

-- what `auto --cost --json` prints
abbrev pub cost_json : ℕ → ℕ → List ℕ
cost_json given chosen = answer (member (codes "given") (number given)) (member (codes "chosen") (number chosen) ∷ [])
