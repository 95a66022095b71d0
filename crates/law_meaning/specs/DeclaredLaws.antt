-- What holds of programs by the order in which commands are declared.
use Rattle.std.specs.Prelude.{ℕ, List, Bool}
use Rattle.law_meaning.specs.Declared.{InDeclaredOrder}
use Rattle.frame.specs.Numbered.{NumberedFrame}
use Rattle.program.specs.declared.program.Program.{Program}

-- some order of the nodes has the commands as they are declared
abbrev pub HasDeclaredOrder : NumberedFrame → List Bool → Program → Type 0
HasDeclaredOrder frame kept program = (order : List ℕ) × InDeclaredOrder frame kept program order
