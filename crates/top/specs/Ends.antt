-- The two ends of a call, as contracts see them: its source and its sink.
use Rattle.std.specs.Prelude.{ℕ, List}
use Rattle.std.specs.declared.option.Option.{Option}

-- the bytes that are left to read and those that were written, where source and sink tell them; and how many reads and
-- how many writes have failed
pub record Ends : Type 0 where
  pub left : Option (List ℕ)
  pub read_faults : ℕ
  pub written : Option (List ℕ)
  pub write_faults : ℕ

-- what the types of source and sink tell of a source and a sink
abbrev pub ends : {I O : Type 0} → (I → Option (List ℕ)) → (I → ℕ) → (O → Option (List ℕ)) → (O → ℕ) → I → O → Ends
ends left read_faults written write_faults input output = record {
  left = left input;
  read_faults = read_faults input;
  written = written output;
  write_faults = write_faults output;
}
