-- A fault with a limit is the first, where there is one.
use Rattle.std.proofs.Common.{◌≡◌, Option, Some, None, refl, sym, ap, subst, ◌∙◌}
use Rattle.std.specs.Prelude.{IfSome, option_and_then}
use Rattle.std.specs.Option.{option_map, option_or}
use Rattle.base.proofs.Absence.{map_none, or_first}
use Rattle.base.specs.Broken.{of_rule}
use Rattle.base.specs.declared.broken.Broken.{Broken}
use Rattle.flight.specs.Refusals.{limit_in}
use Rattle.frame.specs.FirstFault.{Ends, first_broken, first_fault, imports_of, name_broken, rule_broken, shapes_of, use_broken}
use Rattle.frame.proofs.Small.{limits_none}
use Rattle.frame.specs.Limits.{limit_broken}
use Rattle.frame.specs.Paths.{fault_of}
use Rattle.frame.specs.Repeats.{repeated}
use Rattle.frame.specs.Unknowns.{unknown}
use Rattle.frame.specs.Uses.{first_use, misfit_import, unwritten}
use Rattle.frame.specs.Numbered.{all_uses, export_units}
use Rattle.frame.specs.declared.fault.FrameFault.{FrameFault}
use Rattle.frame.specs.declared.frame.Frame.{Frame}
use Rattle.frame.specs.declared.valid.FrameError.{FrameError}
use Rattle.frame.specs.declared.valid.FrameError.TheVariants.{Refused}
use Rattle.frame.specs.declared.location.Location.{Location}
use Rattle.frame.specs.declared.rule.Rule.{Rule}
use Rattle.frame.specs.declared.rule.Rule.TheVariants as rules

-- a broken rule that is none on limits
abbrev IsPlain : Option (Broken Rule Location) → Type 0
IsPlain o = IfSome o (λ b. b.limit ≡ None)

plain_rule : (rule : Rule) (place : Option Location) → IsPlain (option_map (of_rule rule) place)
plain_rule rule None = tt
plain_rule rule (Some place) = refl

plain_or : (a b : Option (Broken Rule Location)) → IsPlain a → IsPlain b → IsPlain (option_or a b)
plain_or None b one two = two
plain_or (Some x) b one two = one

or_flat : (a b c : Option (Broken Rule Location)) → option_or (option_or a b) c ≡ option_or a (option_or b c)
or_flat None b c = refl
or_flat (Some x) b c = refl

told_limit : (o rest : Option (Broken Rule Location)) (fault : FrameFault) → IsPlain rest → option_map fault_of (option_or o rest) ≡ Some fault → fault.limit ≡ option_and_then (λ b. b.limit) o
told_limit (Some b) rest fault plain is = let same : fault_of b ≡ fault = cc in ap (λ f. f.limit) (sym same)
told_limit None None fault plain is = absurd cc
told_limit None (Some b) fault plain is = let same : fault_of b ≡ fault = cc in ap (λ f. f.limit) (sym same) ∙ plain

module _ (frame : Frame) where
  abbrev names : Option (Broken Rule Location)
  names = option_or (option_map (of_rule rules.Repeated) (repeated frame)) (option_map (of_rule rules.Unknown) (unknown frame))

  abbrev uses : Option (Broken Rule Location)
  uses = use_broken frame (shapes_of frame) (imports_of frame) (all_uses frame) (export_units frame)

  abbrev broken : Rule → Option (Broken Rule Location)
  broken rule = rule_broken rule frame (shapes_of frame) (all_uses frame)

  plain_use : (rule : Rule) → IsPlain (broken rule)
  plain_use rule = plain_rule rule (first_use rule frame (shapes_of frame) (all_uses frame))

  plain_names : IsPlain names
  plain_names = plain_or _ _ (plain_rule rules.Repeated (repeated frame)) (plain_rule rules.Unknown (unknown frame))

  plain_uses : IsPlain uses
  plain_uses =
      plain_or (broken rules.Runs) _ (plain_use rules.Runs)
      (plain_or (broken rules.Declared) _ (plain_use rules.Declared)
      (plain_or (broken rules.Whole) _ (plain_use rules.Whole)
      (plain_or (option_map (of_rule rules.Unwritten) (unwritten (imports_of frame) (all_uses frame) (export_units frame))) _ (plain_rule rules.Unwritten (unwritten (imports_of frame) (all_uses frame) (export_units frame)))
      (plain_or (option_or (option_map (of_rule rules.Fits) (misfit_import frame.resources)) (broken rules.Fits)) _ (plain_or (option_map (of_rule rules.Fits) (misfit_import frame.resources)) _ (plain_rule rules.Fits (misfit_import frame.resources)) (plain_use rules.Fits))
      (plain_or (broken rules.InPlace) _ (plain_use rules.InPlace) (plain_use rules.ReadNew))))))

  pub limit_told : (fault : FrameFault) → first_fault frame ≡ Some fault → fault.limit ≡ limit_in frame
  limit_told fault is = told_limit (limit_broken frame) (option_or names uses) fault (plain_or names uses plain_names plain_uses) (sym (ap (option_map fault_of) (or_flat (limit_broken frame) names uses)) ∙ is)

  pub none_told : first_fault frame ≡ None → None ≡ limit_in frame
  none_told is = sym (ap (option_and_then (λ b. b.limit)) (limits_none frame (or_first (name_broken frame) uses (map_none fault_of (first_broken frame) is))))

pub refused_limit : (frame : Frame) (end : FrameError) (fault : FrameFault) (back : Frame) → end ≡ Refused fault back → Ends frame end → fault.limit ≡ limit_in frame
refused_limit frame end fault back is ends = let refused : Ends frame (Refused fault back) = subst (Ends frame) is ends in limit_told frame fault refused.0
