-- The commands that C can call need no device, and have no numbers.
use Rattle.std.proofs.Common.{◌≡◌, Some, false, refl}
use Rattle.answer.specs.AtRest.{needs_device}
use Rattle.cli.specs.Commands.{IsBounded}
use Rattle.framec_c.specs.Exports.{command_of}
use Rattle.framec_c.specs.declared.export.Export.{Export}
use Rattle.framec_c.specs.declared.export.Export.TheVariants.{Check, Cull, Place, Bound, Compile, Auto, Meaning, Migrate}

pub at_rest : (export : Export) → needs_device (Some (command_of export)) ≡ false
at_rest Check = refl
at_rest Cull = refl
at_rest Place = refl
at_rest Bound = refl
at_rest Compile = refl
at_rest Auto = refl
at_rest Meaning = refl
at_rest Migrate = refl

pub bounded : (export : Export) → IsBounded (command_of export)
bounded Check = tt
bounded Cull = tt
bounded Place = tt
bounded Bound = tt
bounded Compile = tt
bounded Auto = tt
bounded Meaning = tt
bounded Migrate = tt
