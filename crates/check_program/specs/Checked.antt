-- A program that was found sound.
use Rattle.program.specs.declared.program.Program.{Program}

pub record Accepted : Type 0 where
  pub program : Program
