-- What the kept passes of a frame are compiled to.
use Rattle.std.specs.Prelude.{◌≡◌, Bool, true, false}
use Rattle.compile.specs.Right.{IsRightFor}
use Rattle.frame.specs.Numbered.{NumberedFrame}
use Rattle.law_meaning.specs.DeclaredLaws.{HasDeclaredOrder}
use Rattle.compile_record.specs.Recorded.{IsCompiled}
use Rattle.compile_record.specs.declared.compiled.Compiled.{Compiled}
use Rattle.program.specs.declared.program.Program.{Program}
use Rattle.check_tighten.specs.Standing.{StandsTo}
use Rattle.check_tighten.specs.Tight.{Tight}
use Rattle.check_tighten.specs.Tightened.{IsTightened}
use Rattle.frame_cull.specs.Culled.{AreKept}

-- the one that the rounds come to. It differs from the given one in its waits alone, and none of its waits, and no stage of a wait,
-- can be left out
pub record Tightens (given program : Program) : Type 0 where
  pub tightened : IsTightened given program
  pub stands : StandsTo given program
  pub tight : Tight program

-- the given program itself, or what is left of it without the waits that it does not need
abbrev pub Submits : Bool → Program → Program → Type 0
Submits false given program = program ≡ given
Submits true given program = Tightens given program

-- This is what the kept passes of a frame are compiled to, with transient resources at their least places; where it is to be
-- tight, without the waits that it does not need. It breaks no rule and is sound, and in every order that its nodes may run in the
-- host reads what the frame means. Some order of its nodes has the commands as the frame declares them.
pub record Compiles (tight : Bool) (frame : NumberedFrame) (made : Compiled Program) : Type 0 where
  pub are_kept : AreKept frame made.kept
  pub given : Program
  pub compiled : IsCompiled frame (record made { program = given })
  pub submits : Submits tight given made.program
  pub right : IsRightFor frame made.program
  pub in_order : HasDeclaredOrder frame made.kept made.program
