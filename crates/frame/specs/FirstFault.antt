-- The first rule that a frame breaks.
use Rattle.std.specs.Prelude.{◌≡◌, ℕ, List, map, is_some, Bool, Option, Some}
use Rattle.std.specs.List.{All}
use Rattle.std.specs.Option.{option_or, option_map}
use Rattle.base.specs.Broken.{of_rule}
use Rattle.base.specs.declared.broken.Broken.{Broken}
use Rattle.base.specs.declared.shape.Shape.{Shape}
use Rattle.vk.specs.declared.sharing.Sharing.{Sharing}
use Rattle.frame.specs.Limits.{limit_broken}
use Rattle.frame.specs.Numbered.{IsWithin, all_uses, export_units}
use Rattle.frame.specs.Paths.{fault_of}
use Rattle.frame.specs.Repeats.{repeated}
use Rattle.frame.specs.Units.{units}
use Rattle.frame.specs.Unknowns.{unknown}
use Rattle.frame.specs.Uses.{first_use, unwritten, misfit_import}
use Rattle.frame.specs.declared.fault.FrameFault.{FrameFault}
use Rattle.frame.specs.declared.frame.Frame.{Frame}
use Rattle.frame.specs.declared.valid.FrameError.{FrameError}
use Rattle.frame.specs.declared.valid.FrameError.TheVariants.{Refused, NoMemory}
use Rattle.frame.specs.declared.numbered.Span.{Span}
use Rattle.frame.specs.declared.numbered.Uses.{Uses}
use Rattle.frame.specs.declared.location.Location.{Location}
use Rattle.frame.specs.declared.rule.Rule.{Rule}
use Rattle.frame.specs.declared.rule.Rule.TheVariants as rules

abbrev pub shapes_of : Frame → List Shape
shapes_of frame = map (λ unit. unit.shape) (units frame)

abbrev pub sharings_of : Frame → List Sharing
sharings_of frame = map (λ unit. unit.sharing) (units frame)

-- which units are imports
abbrev pub imports_of : Frame → List Bool
imports_of frame = map (λ unit. is_some unit.imported) (units frame)

-- the rules on limits and names
abbrev pub name_broken : Frame → Option (Broken Rule Location)
name_broken frame =
    option_or (limit_broken frame)
    (option_or (option_map (of_rule rules.Repeated) (repeated frame))
    (option_map (of_rule rules.Unknown) (unknown frame)))

-- a rule on what one pass does
abbrev pub rule_broken : Rule → Frame → List Shape → List Uses → Option (Broken Rule Location)
rule_broken rule frame shapes passes = option_map (of_rule rule) (first_use rule frame shapes passes)

-- imports come before operations
abbrev pub misfit_broken : Frame → List Shape → List Uses → Option (Broken Rule Location)
misfit_broken frame shapes passes =
    option_or (option_map (of_rule rules.Fits) (misfit_import frame.resources))
    (rule_broken rules.Fits frame shapes passes)

-- the rules on uses, over a frame's units, passes and exports
abbrev pub use_broken : Frame → List Shape → List Bool → List Uses → List Span → Option (Broken Rule Location)
use_broken frame shapes imported passes exports =
    option_or (rule_broken rules.Runs frame shapes passes)
    (option_or (rule_broken rules.Declared frame shapes passes)
    (option_or (rule_broken rules.Whole frame shapes passes)
    (option_or (option_map (of_rule rules.Unwritten) (unwritten imported passes exports))
    (option_or (misfit_broken frame shapes passes)
    (option_or (rule_broken rules.InPlace frame shapes passes)
    (rule_broken rules.ReadNew frame shapes passes))))))

abbrev pub first_broken : Frame → Option (Broken Rule Location)
first_broken frame = option_or (name_broken frame) (use_broken frame (shapes_of frame) (imports_of frame) (all_uses frame) (export_units frame))

abbrev pub first_fault : Frame → Option FrameFault
first_fault frame = option_map fault_of (first_broken frame)

-- why a frame was not taken, and the frame itself
abbrev pub Ends : Frame → FrameError → Type 0
Ends frame (Refused fault back) = (first_fault frame ≡ Some fault) × (back ≡ frame)
Ends frame (NoMemory back) = back ≡ frame

-- all numbers of passes are in range
abbrev pub AllWithin : ℕ → ℕ → List Uses → Type 0
AllWithin queues units passes = All (λ uses. IsWithin queues units uses.pass) passes
