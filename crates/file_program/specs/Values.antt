-- Values of timelines: whole numbers that 64 bits hold.
use Rattle.std.specs.Prelude.{ℕ, option_and_then}
use Rattle.file_json.specs.Parts.{Reader, or_at}
use Rattle.serde_json.specs.Find.{as_number, as_u64}

abbrev pub value_at : Reader ℕ
value_at at d = or_at at (option_and_then as_u64 (as_number d))
