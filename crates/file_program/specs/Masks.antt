-- Masks of stages and of accesses as texts: names joined by bars.
use Rattle.std.specs.Prelude.{◌≡◌, ℕ, true, List, [], ◌∷◌, Option, option_map}
use Rattle.std.specs.Int.RustNames.{bit_or}
use Rattle.vk.specs.Accesses.{access_names}
use Rattle.vk.specs.Sets.{has}
use Rattle.vk.specs.Stages.{stage_names}
use Rattle.vk.specs.Texts.{mask_of, names_of, joined}
use Rattle.vk.specs.declared.accesses.Accesses.{Accesses}
use Rattle.vk.specs.declared.stages.Stages.{Stages}
use Rattle.file_json.specs.Leaves.{text_at, text_data}
use Rattle.file_json.specs.Parts.{Reader}
use Rattle.serde_json.specs.Data.{Data}

-- the bits that have a name
abbrev pub known : List (List ℕ × ℕ) → ℕ
known [] = 0
known (row ∷ rows) = bit_or row.1 (known rows)

-- each bit has a name
abbrev pub IsNamed : List (List ℕ × ℕ) → ℕ → Type 0
IsNamed table set = has (known table) set ≡ true

abbrev pub stages_of : List ℕ → Option Stages
stages_of text = option_map (λ bits. record { 0 = bits }) (mask_of stage_names text)

abbrev pub names_of_stages : Stages → List (List ℕ)
names_of_stages set = names_of stage_names set.0

abbrev pub stages_text : Stages → List ℕ
stages_text set = joined (names_of_stages set)

abbrev pub stages_at : Reader Stages
stages_at = text_at stages_of

abbrev pub stages_data : Stages → Data
stages_data = text_data stages_text

abbrev pub FitsStages : Stages → Type 0
FitsStages set = IsNamed stage_names set.0

abbrev pub accesses_of : List ℕ → Option Accesses
accesses_of text = option_map (λ bits. record { 0 = bits }) (mask_of access_names text)

abbrev pub names_of_accesses : Accesses → List (List ℕ)
names_of_accesses set = names_of access_names set.0

abbrev pub accesses_text : Accesses → List ℕ
accesses_text set = joined (names_of_accesses set)

abbrev pub accesses_at : Reader Accesses
accesses_at = text_at accesses_of

abbrev pub accesses_data : Accesses → Data
accesses_data = text_data accesses_text

abbrev pub FitsAccesses : Accesses → Type 0
FitsAccesses set = IsNamed access_names set.0
